use Rattle.std.proofs.Common.{◌≡◌, ◌++◌, ◌∷◌, [], All, length, sym, subst, ap, ◌∙◌, rules}
use Rattle.std.proofs.lemmas.List.{append-nil}
use Rattle.std.proofs.lemmas.List.Elements.{All-cons, All-nil, All-pop}
use Rattle.irp_remove.specs.Pairing.{IsSeatOf}
use Rattle.irp_slots.specs.Pairing.{IsCancellerOf}
use Rattle.irp_script.specs.Seats.{IsFreshAt, cancellers_of, removes_of, seats_of}
use Rattle.irp_script.proofs.Pairs.{all_behind, moved}
use Rattle.irp_script.proofs.run.pair_up.Goals as goal

pub loop-seat-init : goal.loop-seat-init
loop-seat-init g c =
    let none = c.new-pairs.ensures.items in
    record {
      fit = c.requires.locks;
      ask = c.requires.slots;
      len = c.requires.each;
      seats = ap (λ all. c.args.seats.items ++ seats_of all) none ∙ append-nil c.args.seats.items;
      removes = ap (λ all. c.args.removes.items ++ removes_of all) none ∙ append-nil c.args.removes.items;
      cancellers = ap (λ all. c.args.cancellers.items ++ cancellers_of all) none ∙ append-nil c.args.cancellers.items;
      fresh = subst (All (IsFreshAt c.args.slots.now)) (sym none) (All-nil (IsFreshAt c.args.slots.now));
    }

pub loop-seat-preserved : goal.loop-seat-preserved
loop-seat-preserved g c =
    let removes = All-pop (IsSeatOf c.args.locks.now) c.loop-seat.removes.items c.pop-in-Some-2.new.self.items c.pop-in-Some-2.result c.pop-in-Some-2.ensures.items c.loop-seat.invariant.fit in
    let cancellers = All-pop (IsCancellerOf c.args.slots.now) c.loop-seat.cancellers.items c.pop-in-Some.new.self.items c.pop-in-Some.result c.pop-in-Some.ensures.items c.loop-seat.invariant.ask in
    let remove : c.loop-seat.removes.items ≡ c.pop-in-Some-2.new.self.items ++ c.unwrap-in-Some.result ∷ [] = search rules in
    let canceller : c.loop-seat.cancellers.items ≡ c.pop-in-Some.new.self.items ++ c.unwrap.result ∷ [] = search rules in
    let pushed : c.insert.new.self.items ≡ c.new-own.result ∷ c.loop-seat.pairs.items = c.in_ok-insert.ensures.items in
    let parties = c.new-own.ensures.parties ∙ c.new-parties.ensures in
    record {
      fit = removes.0;
      ask = cancellers.0;
      len = search rules;
      seats = ap (λ all. c.pop.new.self.items ++ seats_of all) pushed
          ∙ moved c.loop-seat.seats.items c.pop.new.self.items (seats_of c.loop-seat.pairs.items) c.args.seats.items c.in-Some.seat c.new-own.result.seat c.in-Some.ensures.items c.new-own.ensures.seat c.loop-seat.invariant.seats;
      removes = ap (λ all. c.pop-in-Some-2.new.self.items ++ removes_of all) pushed
          ∙ moved c.loop-seat.removes.items c.pop-in-Some-2.new.self.items (removes_of c.loop-seat.pairs.items) c.args.removes.items c.unwrap-in-Some.result c.new-own.result.remove remove c.new-own.ensures.remove c.loop-seat.invariant.removes;
      cancellers = ap (λ all. c.pop-in-Some.new.self.items ++ cancellers_of all) pushed
          ∙ moved c.loop-seat.cancellers.items c.pop-in-Some.new.self.items (cancellers_of c.loop-seat.pairs.items) c.args.cancellers.items c.unwrap.result c.new-own.result.parties.canceller canceller (ap (λ some. some.canceller) parties) c.loop-seat.invariant.cancellers;
      fresh = subst (All (IsFreshAt c.args.slots.now)) (sym pushed)
          (All-cons (IsFreshAt c.args.slots.now) c.new-own.result c.loop-seat.pairs.items
          (ap (λ some. some.slots) parties, ap (λ some. some.owners) parties, ap (λ some. some.taken) parties) c.loop-seat.invariant.fresh);
    }

pub returns-clause-seats : goal.returns-clause-seats
returns-clause-seats g c =
    let none : length c.loop-seat.seats.items ≡ 0 = search rules in
    all_behind c.loop-seat.seats.items (seats_of c.loop-seat.pairs.items) c.args.seats.items none c.loop-seat.invariant.seats

pub returns-clause-removes : goal.returns-clause-removes
returns-clause-removes g c =
    let none : length c.loop-seat.removes.items ≡ 0 = search rules in
    all_behind c.loop-seat.removes.items (removes_of c.loop-seat.pairs.items) c.args.removes.items none c.loop-seat.invariant.removes

pub returns-clause-cancellers : goal.returns-clause-cancellers
returns-clause-cancellers g c =
    let none : length c.loop-seat.cancellers.items ≡ 0 = search rules in
    all_behind c.loop-seat.cancellers.items (cancellers_of c.loop-seat.pairs.items) c.args.cancellers.items none c.loop-seat.invariant.cancellers

pub returns-clause-fresh : goal.returns-clause-fresh
returns-clause-fresh g c = c.loop-seat.invariant.fresh
