-- A run goes on in one way.
use Rattle.std.proofs.Common.{◌≡◌, ℕ, List, [], ◌∷◌, ◌++◌, length, Some, None, sym, ap, ◌∙◌}
use Rattle.irp_types.specs.declared.entry.Entry.{Entry}
use Rattle.irp_plain.specs.declared.parts.Change.{Change}
use Rattle.irp_machine.specs.declared.parts.Calling.{Calling}
use Rattle.irp_machine.specs.declared.parts.Next.{Next}
use Rattle.irp_machine.specs.declared.parts.Next.TheVariants.{Changes, Calls}
use Rattle.irp_machine.specs.declared.parts.Planned.{Planned}
use Rattle.irp_machine.specs.Machine.{RulesValue, IsCallOf, IsNext, allocates, knows_of, seat_at}
use Rattle.irp_machine.specs.Next.{next_of}
use Rattle.irp_machine.specs.Replays.{Records, TellsCall}
use Rattle.irp_machine.specs.Runs.{RunsAreSettled}
use Rattle.irp_machine.specs.Settled.{called_settled, makes_settled, next_settled}
use Rattle.irp_machine.specs.Standings.{StandingValue}

module _ (rules : RulesValue) (standing : StandingValue) (seat : ℕ) (planned : Planned) where
  -- the entry of a call
  entry_settled : (calling : Calling) (change other : Change) (number : ℕ)
      → (made : IsCallOf rules standing seat planned calling change) → (again : IsCallOf rules standing seat planned calling other)
      → (one two : Entry) → one.number ≡ number → two.number ≡ number
      → TellsCall rules standing seat planned calling change made one → TellsCall rules standing seat planned calling other again two → one ≡ two
  entry_settled calling change other number made again one two first second tells also =
      let same =
      called_settled rules.fixed rules.script (allocates rules.acts) (knows_of (seat_at standing seat).learned) standing.manager calling.call
      made.drained again.drained made.reply again.reply made.after again.after made.call again.call in
      λ i. record {
        number = (first ∙ sym second) i;
        call = (tells.call ∙ sym also.call) i;
        asked = (tells.asked ∙ same.1 ∙ sym also.asked) i;
        reply = (tells.reply ∙ same.2 ∙ sym also.reply) i;
        seat = (tells.caller ∙ sym also.caller) i;
        lock = (tells.lock ∙ sym also.lock) i;
        drained = (tells.drained ∙ same.0 ∙ sym also.drained) i;
      }

  -- what is recorded
  records_settled : (next : Next) (change other : Change)
      → (made : IsNext rules standing seat planned next change) → (again : IsNext rules standing seat planned next other) → (old new another : List Entry)
      → Records rules standing seat planned next change made old new → Records rules standing seat planned next other again old another → new ≡ another
  records_settled (Changes given) change other made again old new another one two = one ∙ sym two
  records_settled (Calls calling) change other made again old new another one two =
      one.3 ∙ ap (λ (entry : Entry). old ++ entry ∷ []) (entry_settled calling change other (length old) made again one.0 two.0 one.1 two.1 one.2 two.2)
      ∙ sym two.3

pub runs_settled : RunsAreSettled
runs_settled old one two seat None after other first second = (first.0 ∙ sym second.0, first.1 ∙ sym second.1)
runs_settled old one two seat (Some planned) after other first second =
    let next : Next = next_of old.standing (seat_at old.standing seat) planned in
    let made = first.2.0 in
    let again = second.2.0 in
    let change : made.0 ≡ again.0 = (next_settled old.rules old.standing seat planned next made.0 again.0 made.1 again.1).0 in
    let standing : one.standing ≡ two.standing = makes_settled old.rules old.standing seat planned next one.standing two.standing made again in
    let entries : one.entries ≡ two.entries =
    records_settled old.rules old.standing seat planned next made.0 again.0 made.1 again.1 old.entries one.entries two.entries first.2.1 second.2.1 in
    let behind : first.0 ≡ second.0 = first.2.2 ∙ ap (λ (change : Change). change.after) change ∙ sym second.2.2 in
    (first.1 ∙ ap Some behind ∙ sym second.1, first.3 ∙ (λ i. record old { standing = standing i; entries = entries i }) ∙ sym second.3)
