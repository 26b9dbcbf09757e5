-- The one seat's entries are the history, since all entries are some seat's own.
use Rattle.std.proofs.Common.{◌≡◌, List, [], ◌∷◌, ◌++◌, ap, sym, ◌∙◌, subst, IfSome}
use Rattle.irp_types.specs.Histories.{IsLegal}
use Rattle.irp_types.specs.declared.entry.Entry.{Entry}
use Rattle.irp_manager.specs.Seats.{Seated}
use Rattle.irp_transcript.specs.Headers.{IsHeader}
use Rattle.irpx.specs.Demo.{calls_of, AreDemoCalls}
use Rattle.irpx.proofs.OneSeat.{one_new, one_has_all}
use Rattle.irpx.proofs.demo.session.Goals as goal

pub make_calls-requires : goal.make_calls-requires
make_calls-requires g c =
    let new = (one_new c.in-Ok.seats.items c.pop.new.self.items c.in_ok-seat.seat c.in-Ok.ensures.seats c.in_ok-seat.ensures.items).0 in
    (new.numbered, new.empty)

pub returns : goal.returns
returns g c =
    let none = (one_new c.in-Ok.seats.items c.pop.new.self.items c.in_ok-seat.seat c.in-Ok.ensures.seats c.in_ok-seat.ensures.items).1 in
    let closes = c.in-Ok-close.ensures.closes in
    let entries : List Entry = c.in-Ok-close.transcript.entries in
    let one : c.push_reserved.new.self.items ≡ c.make_calls.new.seat ∷ [] = c.push_reserved.ensures.items ∙ ap (λ (rest : List Seated). rest ++ c.make_calls.new.seat ∷ []) none in
    let all : c.make_calls.new.seat.entries ≡ entries = one_has_all entries c.push_reserved.new.self.items c.make_calls.new.seat one closes.own closes.counts in
    record {
      header = closes.header;
      told = closes.told;
      no_words = closes.no_words;
      fits = subst (λ header. IfSome header IsHeader) closes.told c.is_one.ensures.accepted;
      legal = subst (λ fixed. IsLegal fixed entries) (sym closes.tables) closes.legal;
      calls = subst (λ (history : List Entry). AreDemoCalls (calls_of history)) all c.in_ok-make_calls.ensures.calls;
    }
