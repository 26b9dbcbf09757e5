use Rattle.std.proofs.Common.{◌≡◌, ◌++◌, ◌∷◌, [], length, get_or, ap, subst, sym, ◌∙◌, rules, arith}
use Rattle.std.specs.List.{count_by}
use Rattle.std.proofs.lemmas.List.Sums.{sum_by_push}
use Rattle.irp_script.specs.Workers.{IsIdle, count_seats}
use Rattle.irp_script.proofs.Numbers.{each_push}
use Rattle.irp_script.proofs.run.idle.Goals as goal

pub loop-number-preserved : goal.loop-number-preserved
loop-number-preserved g c =
    let pushed : c.push_reserved.new.self.items ≡ c.loop-number.all.items ++ c.new.result ∷ [] = c.push_reserved.ensures.items in
    let long : length c.loop-number.all.items ≡ c.loop-number.number = search rules in
    let new = c.new.ensures in
    let seats : c.new.result.seats.items ≡ [] = ap (λ all. all.items) new.seats ∙ c.new-seats.ensures.items in
    record {
      len = omega (arith, c.push_reserved.ensures.len, c.loop-number.invariant.len);
      room = omega (arith, c.push_reserved.ensures.capacity, c.loop-number.invariant.room);
      ready = λ k one lt. subst (λ all. IsIdle c.args.workers c.args.steps.now c.args.known.now c.args.locks.now k (get_or all k one)) (sym pushed)
          (each_push (IsIdle c.args.workers c.args.steps.now c.args.known.now c.args.locks.now) c.loop-number.all.items c.new.result c.loop-number.number long c.loop-number.invariant.ready
          (new.number, new.workers, new.words, new.stop, seats, new.locks, new.known ∙ c.in_ok-known.ensures, ap (λ heard. heard.items) new.heard ∙ c.in_ok-heard.ensures) k one (omega (arith, lt)));
      seats = λ test.
          let more = sum_by_push (λ worker. count_by test worker.seats.items) c.loop-number.all.items c.new.result in
          let none : count_by test c.new.result.seats.items ≡ 0 = ap (count_by test) seats in
          let so_far = c.loop-number.invariant.seats test in
          ap (count_seats test) pushed ∙ omega (arith, more, none, so_far);
    }
