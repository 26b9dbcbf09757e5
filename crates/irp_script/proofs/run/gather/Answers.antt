use Rattle.std.proofs.Common.{◌≡◌, ◌++◌, ◌∷◌, [], cond, length, sym, ap, subst, ◌∙◌, rules, arith}
use Rattle.std.specs.Prelude.{IfNone, sum_by}
use Rattle.std.specs.List.{count_by}
use Rattle.std.specs.Option.{option_or}
use Rattle.std.proofs.lemmas.List.Sorted.{sum_by-IsPermutation}
use Rattle.std.proofs.lemmas.List.Sums.{sum_by-append, sum_by_push}
use Rattle.irp_script.specs.Labels.{AreFounded}
use Rattle.irp_script.specs.Workers.{knowns_of}
use Rattle.irp_script.specs.Working.{first_stop}
use Rattle.irp_script.proofs.Numbers.{sum_none}
use Rattle.irp_script.proofs.Stopping.{first_last, none_of_them, none_yet}
use Rattle.irp_script.proofs.run.gather.Goals as goal

pub loop-worker-init : goal.loop-worker-init
loop-worker-init g c = record {
  lines = λ test. let none : count_by test c.new-words.result.items ≡ 0 = ap (count_by test) c.new-words.ensures.items in omega (arith, none);
  stop = none_yet (λ worker. worker.stop) c.args.workers.items;
  seats = λ test. let none : count_by test c.new-seats.result.items ≡ 0 = ap (count_by test) c.new-seats.ensures.items in omega (arith, none);
}

pub loop-worker-preserved : goal.loop-worker-preserved
loop-worker-preserved g c =
    let front = c.pop.new.self.items in
    let worker = c.in-Some-pop.worker in
    let split : c.loop-worker.workers.items ≡ c.pop.new.self.items ++ c.in-Some-pop.worker ∷ [] = c.in-Some-pop.ensures.items in
    record {
      lines = λ test.
          let so_far = c.loop-worker.invariant.lines test in
          let taken = ap (sum_by (λ worker. count_by test worker.words.items)) split ∙ sum_by_push (λ worker. count_by test worker.words.items) front worker in
          let more = ap (count_by test) c.in_ok-append-2.ensures.items ∙ sum_by-append (λ line. cond (test line) 1 0) c.loop-worker.words.items worker.words.items in
          omega (arith, so_far, taken, more);
      stop = ap (option_or (first_stop (λ worker. worker.stop) front)) c.or-stop.ensures
          ∙ sym (first_last (λ worker. worker.stop) front worker c.loop-worker.stop)
          ∙ ap (λ all. option_or (first_stop (λ worker. worker.stop) all) c.loop-worker.stop) (sym split) ∙ c.loop-worker.invariant.stop;
      seats = λ test.
          let so_far = c.loop-worker.invariant.seats test in
          let taken = ap (sum_by (λ worker. count_by test worker.seats.items)) split ∙ sum_by_push (λ worker. count_by test worker.seats.items) front worker in
          let more = ap (count_by test) c.in_ok-append.ensures.items ∙ sum_by-append (λ own. cond (test own) 1 0) c.loop-worker.seats.items worker.seats.items in
          omega (arith, so_far, taken, more);
    }

pub returns-clause-lines : goal.returns-clause-lines
returns-clause-lines g c =
    let empty : length c.loop-worker.workers.items ≡ 0 = search rules in
    λ test.
    let so_far = c.loop-worker.invariant.lines test in
    let none = sum_none (λ worker. count_by test worker.words.items) c.loop-worker.workers.items empty in
    let ordered = sum_by-IsPermutation (λ line. cond (test line) 1 0) c.loop-worker.words.items c.put_in_order.new.lines.items c.put_in_order.ensures.lines in
    omega (arith, so_far, none, ordered)

pub returns-clause-seats : goal.returns-clause-seats
returns-clause-seats g c =
    let empty : length c.loop-worker.workers.items ≡ 0 = search rules in
    λ test.
    let so_far = c.loop-worker.invariant.seats test in
    let none = sum_none (λ worker. count_by test worker.seats.items) c.loop-worker.workers.items empty in
    omega (arith, so_far, none)

pub returns-clause-labels : goal.returns-clause-labels
returns-clause-labels g c =
    none_of_them c.unfounded.result c.in_default.is
    (subst (λ all. IfNone c.unfounded.result (AreFounded (knowns_of all))) c.as_slice.ensures.value c.unfounded.ensures)
