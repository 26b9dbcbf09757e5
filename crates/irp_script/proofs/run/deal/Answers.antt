use Rattle.std.proofs.Common.{◌≡◌, ◌<◌, ◌%◌, ◌++◌, ◌∷◌, [], All, cond, length, ap, sym, subst, ◌∙◌, rules, arith}
use Rattle.std.specs.Prelude.{IfSome}
use Rattle.std.specs.List.{count_by}
use Rattle.std.proofs.lemmas.List.Elements.{All-pop}
use Rattle.irp_script.specs.Seats.{IsAtLocks, number_of}
use Rattle.irp_script.specs.Workers.{IsReady}
use Rattle.irp_script.proofs.Numbers.{all_push, count_last, dealt, each_set, sum_none}
use Rattle.irp_script.proofs.run.deal.Goals as goal

pub loop-seat-init : goal.loop-seat-init
loop-seat-init g c = record {
  len = c.in_ok-all.ensures.len;
  ready = λ k one lt. let new = c.in_ok-all.ensures.ready k one lt in (new.0, new.1, new.2, new.3, subst (All (λ own. number_of own % c.args.workers ≡ k)) (sym new.4) (λ i d within. absurd (omega arith)), new.6, new.7);
  at_locks = λ k one lt. (c.in_ok-all.ensures.ready k one lt).5;
  fits = c.requires.fits;
  seats = λ test. let none = c.in_ok-all.ensures.seats test in omega (arith, none);
}

pub give-requires : goal.give-requires
give-requires g c =
    let split = All-pop (IsAtLocks c.args.locks.now) c.loop-seat.seats.items c.pop.new.self.items c.pop.result c.pop.ensures.items c.loop-seat.invariant.fits in
    let fit : IsAtLocks c.args.locks.now c.in-Some.seat = subst (λ taken. IfSome taken (IsAtLocks c.args.locks.now)) c.in-Some.is split.1 in
    let below : c.number.result % c.args.workers < c.args.workers = search rules in
    let was = subst (λ worker. worker.locks.now ≡ c.args.locks.now) (sym c.index_mut-worker.ensures.value) (c.loop-seat.invariant.at_locks (c.number.result % c.args.workers) c.index_mut-worker.result.now below) in
    subst (λ locks. IsAtLocks locks c.in-Some.seat) (sym was) fit

pub loop-seat-preserved : goal.loop-seat-preserved
loop-seat-preserved g c =
    let within : c.number.result % c.args.workers < length c.loop-seat.all.items = search rules in
    let below : c.number.result % c.args.workers < c.args.workers = search rules in
    let pushed : c.give.new.self.seats.items ≡ c.index_mut-worker.result.now.seats.items ++ c.in-Some.seat ∷ [] = search rules in
    let split = All-pop (IsAtLocks c.args.locks.now) c.loop-seat.seats.items c.pop.new.self.items c.pop.result c.pop.ensures.items c.loop-seat.invariant.fits in
    record {
      len = search rules;
      ready =
          let was = subst (IsReady c.args.workers c.args.steps.now c.args.known.now (c.number.result % c.args.workers)) (sym c.index_mut-worker.ensures.value) (c.loop-seat.invariant.ready (c.number.result % c.args.workers) c.index_mut-worker.result.now below) in
          each_set (IsReady c.args.workers c.args.steps.now c.args.known.now) c.args.workers c.loop-seat.all.items (c.number.result % c.args.workers) c.give.new.self within c.loop-seat.invariant.ready
          (c.give.ensures.same.0 ∙ was.0, c.give.ensures.same.1 ∙ was.1, c.give.ensures.words ∙ was.2, c.give.ensures.same.2 ∙ was.3, all_push (λ own. number_of own % c.args.workers ≡ c.number.result % c.args.workers) c.give.new.self.seats.items c.index_mut-worker.result.now.seats.items c.in-Some.seat pushed was.4 (ap (λ n. n % c.args.workers) (sym c.number.ensures)), c.give.ensures.known ∙ was.5, c.give.ensures.heard ∙ was.6);
      at_locks =
          let was = subst (λ worker. worker.locks.now ≡ c.args.locks.now) (sym c.index_mut-worker.ensures.value) (c.loop-seat.invariant.at_locks (c.number.result % c.args.workers) c.index_mut-worker.result.now below) in
          each_set (λ k worker. worker.locks.now ≡ c.args.locks.now) c.args.workers c.loop-seat.all.items (c.number.result % c.args.workers) c.give.new.self within c.loop-seat.invariant.at_locks (c.give.ensures.same.3 ∙ was);
      fits = split.0;
      seats = λ test.
          let taken = count_last test c.loop-seat.seats.items c.pop.new.self.items c.in-Some.seat c.in-Some.ensures.items in
          let more = count_last test c.give.new.self.seats.items c.index_mut-worker.result.now.seats.items c.in-Some.seat pushed in
          dealt (λ worker. count_by test worker.seats.items) c.loop-seat.all.items (c.number.result % c.args.workers) c.give.new.self c.index_mut-worker.result.now _ _ _ _ c.index_mut-worker.ensures.value within more taken (c.loop-seat.invariant.seats test);
    }

pub returns-clause-seats : goal.returns-clause-seats
returns-clause-seats g c =
    let empty : length c.loop-seat.seats.items ≡ 0 = search rules in
    λ test.
    let so_far = c.loop-seat.invariant.seats test in
    let none = sum_none (λ own. cond (test own) 1 0) c.loop-seat.seats.items empty in
    omega (arith, so_far, none)
