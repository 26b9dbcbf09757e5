use Rattle.std.proofs.Common.{rules, ◌≡◌, ℕ, List, length, sym, ap, ◌∙◌, subst, refl, true}
use Rattle.std.specs.Prelude.{sum_by, vec_len, All, IfNone, Some}
use Rattle.irp_types.specs.declared.entry.Entry.{Entry}
use Rattle.irp_types.specs.State.{Fixed}
use Rattle.irp_types.specs.Histories.{IsLegal}
use Rattle.irp_manager.specs.Booked.{Booked}
use Rattle.irp_manager.specs.Seats.{Seated}
use Rattle.irp_shared.specs.Closing.{AllHere, Closes, IsKept, count_of}
use Rattle.irp_shared.proofs.SeatNumbers.{all_seated}
use Rattle.irp_shared.proofs.shared.Shared.close.Goals as goal

pub returns-clause-closes : goal.returns-clause-closes
returns-clause-closes g c =
    let fixed : Fixed = g.L.Session.fixed in
    let parts = c.into_parts-book in
    let history = c.end-locks.result.history.items in
    let held : c.audit.new.self.history ≡ parts.result.0.history = ap (λ (book : Booked g.row.A.Denot). book.history) c.audit.ensures.same in
    let kept_fixed : c.audit.new.self.fixed ≡ fixed = ap (λ (book : Booked g.row.A.Denot). book.fixed) c.audit.ensures.same ∙ parts.ensures.book.0 in
    let same : history ≡ parts.result.0.history = c.end-locks.ensures.history ∙ held in
    let legal : IsLegal fixed history = subst (λ (given : Fixed × List Entry). IsLegal given.0 given.1) (λ i. (kept_fixed i, sym c.end-locks.ensures.history i)) c.end-locks.ensures.legal in
    let said : c.are_all.result ≡ true = search rules in
    let all_here : AllHere c.args.seats.items g.L.Session.seats =
    subst (λ (given : List Seated × ℕ). AllHere given.0 given.1) (λ i. (c.as_slice.ensures.value i, c.args.self.all i)) (c.are_all.ensures.yes said) in
    let own : All (IsKept history) c.args.seats.items =
    subst (λ (entries : List Entry). All (IsKept entries) c.args.seats.items) (c.entries.ensures.entries ∙ sym same)
    (subst (λ option. IfNone option (All (IsKept c.entries.result.now) c.args.seats.items)) c.in_default.is c.gather-all.ensures.same) in
    let many : vec_len c.args.seats ≡ g.L.Session.seats = search rules in
    let whole = c.audit.ensures.whole (c.gather-all.ensures.parts ∙ many ∙ c.requires) in
    let counts : sum_by count_of c.args.seats.items ≡ length history = sym c.gather-all.ensures.amount ∙ whole ∙ ap length (sym same) in
    rw (c.new-2.ensures) (subst (λ (entries : List Entry). Closes fixed g.L.Session.seats c.args.seats.items (record { header = Some c.header_of-header.result; entries = entries; words = c.from_vec-words.result })) (sym c.from_vec.ensures) (record {
      header = c.header_of-header.result;
      told = refl;
      tables = c.header_of-header.ensures.fixed ∙ sym c.end-locks.ensures.fixed ∙ kept_fixed;
      seats_told = c.header_of-header.ensures.seats ∙ c.args.self.all;
      no_slots = c.header_of-header.ensures.slots;
      no_words = c.from_vec-words.ensures ∙ c.new.ensures.items;
      legal = legal;
      once = c.history_completes_once.ensures.legal fixed history legal;
      all_here = all_here;
      seated = all_seated history g.L.Session.seats c.args.seats.items all_here own counts;
      own = own;
      counts = counts;
    }))
