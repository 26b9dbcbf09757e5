use Rattle.std.proofs.Common.{◌≡◌, ◌<◌, ◌%◌, ◌++◌, ◌∷◌, [], All, cond, length, set, sym, subst, ap, ◌∙◌, rules, arith}
use Rattle.std.specs.Prelude.{IfSome, vec_len}
use Rattle.std.specs.List.{count_by}
use Rattle.std.proofs.lemmas.List.{length-map}
use Rattle.std.proofs.lemmas.List.Elements.{All-nil, All-pop, All-set}
use Rattle.std.proofs.lemmas.Option.{get_or_from_slice_get, slice_get_within}
use Rattle.irp_remove.specs.Pairing.{IsSeatOf}
use Rattle.irp_slots.specs.Models.{Publisher}
use Rattle.irp_slots.specs.Pairing.{IsCancellerOf, IsOwnerOf, table_of}
use Rattle.irp_script.specs.Seats.{HasAllSlots, HasTakenNothing}
use Rattle.irp_script.proofs.Dealing.{all_of_map, none_owned}
use Rattle.irp_script.proofs.Numbers.{all_push, count_last, dealt, each_set, map_set_same, sum_none}
use Rattle.irp_script.proofs.Shares.{count_flat}
use Rattle.irp_script.proofs.Working.{found_in}
use Rattle.irp_script.proofs.run.script_seats.Goals as goal

pub loop-owner-init : goal.loop-owner-init
loop-owner-init g c = record {
  len = search rules;
  left = c.requires.owners;
  seats = c.in_ok-pairs.ensures.seats;
  removes = c.in_ok-pairs.ensures.removes;
  cancellers = c.in_ok-pairs.ensures.cancellers;
  own = λ place one lt.
      let within : place < length c.in_ok-pairs.pairs.items = search rules in
      subst (All (λ (owner : Publisher). owner.owning.slot % c.len-count.result ≡ place)) (sym (c.in_ok-pairs.ensures.fresh place one within).1) (All-nil (λ (owner : Publisher). owner.owning.slot % c.len-count.result ≡ place));
  all = λ test.
      let none = none_owned test (λ own. own.parties.owners) c.in_ok-pairs.pairs.items (λ k d lt. (c.in_ok-pairs.ensures.fresh k d lt).1) in
      omega (arith, none);
  taken = λ k d lt. (c.in_ok-pairs.ensures.fresh k d lt).2;
  counted = λ k d lt. (c.in_ok-pairs.ensures.fresh k d lt).0;
}

pub own-requires : goal.own-requires
own-requires g c =
    let within : c.slot.result % c.len-count.result < length c.loop-owner.pairs.items = search rules in
    let split = All-pop (IsOwnerOf c.args.slots.now) c.loop-owner.owners.items c.pop.new.self.items c.pop.result c.pop.ensures.items c.loop-owner.invariant.left in
    let owner : c.in-Some.owner.table ≡ table_of c.args.slots.now = subst (λ found. IfSome found (IsOwnerOf c.args.slots.now)) c.in-Some.is split.1 in
    let each = all_of_map (λ own. own.parties.canceller) (IsCancellerOf c.args.slots.now) c.loop-owner.pairs.items c.args.cancellers.items c.loop-owner.invariant.cancellers c.requires.slots in
    let own : c.index_mut-own.result.now.parties.canceller.table ≡ table_of c.args.slots.now =
    subst (λ own. own.parties.canceller.table ≡ table_of c.args.slots.now) (sym c.index_mut-own.ensures.value) (each (c.slot.result % c.len-count.result) c.index_mut-own.result.now within) in
    owner ∙ sym own

pub loop-owner-preserved : goal.loop-owner-preserved
loop-owner-preserved g c =
    let within : c.slot.result % c.len-count.result < length c.loop-owner.pairs.items = search rules in
    let below : c.slot.result % c.len-count.result < c.len-count.result = search rules in
    let split = All-pop (IsOwnerOf c.args.slots.now) c.loop-owner.owners.items c.pop.new.self.items c.pop.result c.pop.ensures.items c.loop-owner.invariant.left in
    let value = c.index_mut-own.ensures.value in
    let owns = c.in_ok-own.ensures.owns in
    let pushed : c.own.new.self.parties.owners ≡ c.index_mut-own.result.now.parties.owners ++ c.in-Some.owner ∷ [] = ap (λ some. some.owners) owns in
    record {
      len = c.loop-owner.invariant.len;
      left = split.0;
      seats = map_set_same (λ own. own.seat) c.loop-owner.pairs.items (c.slot.result % c.len-count.result) c.own.new.self c.index_mut-own.result.now (c.own.ensures.seat ∙ ap (λ own. own.seat) value) within ∙ c.loop-owner.invariant.seats;
      removes = map_set_same (λ own. own.remove) c.loop-owner.pairs.items (c.slot.result % c.len-count.result) c.own.new.self c.index_mut-own.result.now (c.own.ensures.remove ∙ ap (λ own. own.remove) value) within ∙ c.loop-owner.invariant.removes;
      cancellers = map_set_same (λ own. own.parties.canceller) c.loop-owner.pairs.items (c.slot.result % c.len-count.result) c.own.new.self c.index_mut-own.result.now (ap (λ some. some.canceller) owns ∙ ap (λ own. own.parties.canceller) value) within ∙ c.loop-owner.invariant.cancellers;
      own =
          let was = subst (λ own. All (λ (owner : Publisher). owner.owning.slot % c.len-count.result ≡ c.slot.result % c.len-count.result) own.parties.owners) (sym value) (c.loop-owner.invariant.own (c.slot.result % c.len-count.result) c.index_mut-own.result.now below) in
          each_set (λ place own. All (λ (owner : Publisher). owner.owning.slot % c.len-count.result ≡ place) own.parties.owners) c.len-count.result c.loop-owner.pairs.items (c.slot.result % c.len-count.result) c.own.new.self within c.loop-owner.invariant.own
          (all_push (λ (owner : Publisher). owner.owning.slot % c.len-count.result ≡ c.slot.result % c.len-count.result) c.own.new.self.parties.owners c.index_mut-own.result.now.parties.owners c.in-Some.owner pushed was (ap (λ n. n % c.len-count.result) (sym c.slot.ensures.slot)));
      all = λ test.
          let taken = count_last test c.loop-owner.owners.items c.pop.new.self.items c.in-Some.owner c.in-Some.ensures.items in
          let more = count_last test c.own.new.self.parties.owners c.index_mut-own.result.now.parties.owners c.in-Some.owner pushed in
          let before = count_flat test (λ own. own.parties.owners) c.loop-owner.pairs.items in
          let so_far = c.loop-owner.invariant.all test in
          let after = dealt (λ own. count_by test own.parties.owners) c.loop-owner.pairs.items (c.slot.result % c.len-count.result) c.own.new.self c.index_mut-own.result.now _ _ (count_by test c.args.owners.items) _ value within more taken (omega (arith, before, so_far)) in
          let flat = count_flat test (λ own. own.parties.owners) (set c.loop-owner.pairs.items (c.slot.result % c.len-count.result) c.own.new.self) in
          omega (arith, after, flat);
      taken = All-set HasTakenNothing c.loop-owner.pairs.items (c.slot.result % c.len-count.result) c.own.new.self
          (ap (λ some. some.taken) owns ∙ ap (λ own. own.parties.taken) value ∙ c.loop-owner.invariant.taken (c.slot.result % c.len-count.result) c.index_mut-own.result.now within) c.loop-owner.invariant.taken;
      counted = All-set (HasAllSlots c.args.slots.now) c.loop-owner.pairs.items (c.slot.result % c.len-count.result) c.own.new.self
          (ap (λ some. some.slots) owns ∙ ap (λ own. own.parties.slots) value ∙ c.loop-owner.invariant.counted (c.slot.result % c.len-count.result) c.index_mut-own.result.now within) c.loop-owner.invariant.counted;
    }

pub returns-clause-owners : goal.returns-clause-owners
returns-clause-owners g c = λ place parties there.
    let long : length c.in_ok-pairs.pairs.items ≡ length c.args.seats.items = sym (length-map c.in_ok-pairs.pairs.items (λ own. own.seat)) ∙ ap length c.in_ok-pairs.ensures.seats in
    let count : c.len-count.result ≡ vec_len c.args.seats = search rules in
    let found = found_in (λ own. own.parties) c.loop-owner.pairs.items place parties there in
    let lt = slice_get_within c.loop-owner.pairs.items place found.0 found.1 in
    let within : place < c.len-count.result = search rules in
    subst (λ many. All (λ (owner : Publisher). owner.owning.slot % many ≡ place) parties.owners) count
    (subst (λ some. All (λ (owner : Publisher). owner.owning.slot % c.len-count.result ≡ place) some.owners) found.2
    (subst (λ own. All (λ (owner : Publisher). owner.owning.slot % c.len-count.result ≡ place) own.parties.owners) (get_or_from_slice_get c.loop-owner.pairs.items place found.0 found.0 found.1) (c.loop-owner.invariant.own place found.0 within)))

pub returns-clause-fits : goal.returns-clause-fits
returns-clause-fits g c = all_of_map (λ own. own.remove) (IsSeatOf c.args.locks.now) c.loop-owner.pairs.items c.args.removes.items c.loop-owner.invariant.removes c.requires.locks

pub returns-clause-at_slots : goal.returns-clause-at_slots
returns-clause-at_slots g c = all_of_map (λ own. own.parties.canceller) (IsCancellerOf c.args.slots.now) c.loop-owner.pairs.items c.args.cancellers.items c.loop-owner.invariant.cancellers c.requires.slots

pub returns-clause-all_owners : goal.returns-clause-all_owners
returns-clause-all_owners g c =
    let empty : length c.loop-owner.owners.items ≡ 0 = search rules in
    λ some test.
    let so_far = c.loop-owner.invariant.all test in
    let none = sum_none (λ owner. cond (test owner) 1 0) c.loop-owner.owners.items empty in
    omega (arith, so_far, none)
