use Rattle.std.proofs.Common.{◌≡◌, None, Some, All, length, ap, refl, subst, sym, ◌∙◌, rules}
use Rattle.irp_steps.specs.Conditions.{none_heard}
use Rattle.irp_script.specs.Labels.{known_to, none_bound}
use Rattle.irp_script.specs.Workers.{work_of}
use Rattle.irp_script.specs.Seats.{IsAtLocks, pair_in, seat_at_work}
use Rattle.irp_script.proofs.Accounted.{accounted, numbers_of, pairs_of_items, same_pairs}
use Rattle.irp_script.proofs.Entering.{due_own, due_steps}
use Rattle.irp_script.proofs.Numbers.{if_ok_on}
use Rattle.irp_script.proofs.Stopping.{not_some, some_stop}
use Rattle.irp_script.proofs.Working.{begun, if_ok_all, own_from, work_apart}
use Rattle.irp_script.proofs.run.run_workers.Goals as goal

pub returns-clause-ran : goal.returns-clause-ran
returns-clause-ran g c =
    let grouped : length c.in_ok-groups.groups.items ≡ c.args.workers = search rules in
    let counted : length c.in_ok-done.done.items ≡ c.args.workers = search rules in
    let passed : c.run-ready.result.stop ≡ None = not_some c.run-ready.result.stop (sym c.is_some.ensures ∙ c.if-is_some.false) in
    let before = begun seat_at_work _ _ _ _ _ _ _ (ap (λ seats. seats.items) c.new-all.ensures.seats) c.new-all.ensures.words (c.new-all.ensures.known ∙ c.in_ok-known.ensures ∙ ap none_bound c.len.ensures) (search rules) in
    if_ok_all c.gather.result (λ worked gathered lines stopped founded. record {
      ready = work_of c.run-ready.result;
      halted = None;
      first = own_from _ _ _ _ _ _ _ _ _ _ _ _ c.run-ready.ensures.made c.new-all.ensures.number c.new-all.ensures.workers c.as_slice.ensures before passed;
      rest = work_apart seat_at_work (λ worker. worker.seats.items) (λ worker. worker.words.items) (λ worker. worker.known) (λ worker. worker.heard.items) (λ worker. worker.stop) _ c.args.workers c.args.script.now.steps c.run-ready.result.known c.run-ready.result.seats.items
          c.in_ok-groups.groups.items c.in_ok-done.done.items worked.seats.items worked.words.items worked.stop grouped counted c.in_ok-groups.ensures.seats
          (λ k one lt. (c.in_ok-groups.ensures.ready k one lt).4)
          (λ k one other lt.
          let start = c.in_ok-groups.ensures.ready k other lt in
          own_from _ _ _ _ _ _ _ _ _ _ _ _ (c.in_ok-done.ensures.made k one other (search rules)) start.0 start.1 c.as_slice-steps.ensures (begun seat_at_work _ _ _ _ _ _ _ refl start.2 (start.5 ∙ ap (λ steps. known_to k c.args.workers steps c.run-ready.result.known) c.as_slice-steps.ensures) (start.6 ∙ ap none_heard c.as_slice-steps.ensures)) refl)
          gathered lines stopped founded;
    }) c.gather.ensures.seats c.gather.ensures.lines c.gather.ensures.stop c.gather.ensures.labels

pub returns-then-is_some-clause-ran : goal.returns-then-is_some-clause-ran
returns-then-is_some-clause-ran g c =
    let before = begun seat_at_work _ _ _ _ _ _ _ (ap (λ seats. seats.items) c.new-all.ensures.seats) c.new-all.ensures.words (c.new-all.ensures.known ∙ c.in_ok-known.ensures ∙ ap none_bound c.len.ensures) (search rules) in
    let told = some_stop c.run-ready.result.stop (sym c.is_some.ensures ∙ c.if-is_some.true) in
    record {
      ready = work_of c.run-ready.result;
      halted = Some told.0;
      first = own_from _ _ _ _ _ _ _ _ _ _ _ _ c.run-ready.ensures.made c.new-all.ensures.number c.new-all.ensures.workers c.as_slice.ensures before told.1;
      rest = (search rules, search rules, told.1);
    }

pub returns-clause-accounts : goal.returns-clause-accounts
returns-clause-accounts g c = if_ok_on c.gather.result (λ worked ran. accounted _ _ _ _ _ _ _ _ _ (search rules) ran) (returns-clause-ran g c)

pub returns-then-is_some-clause-accounts : goal.returns-then-is_some-clause-accounts
returns-then-is_some-clause-accounts g c = accounted _ _ _ _ _ _ _ _ _ c.requires.workers (returns-then-is_some-clause-ran g c)

pub returns-clause-pairs : goal.returns-clause-pairs
returns-clause-pairs g c = if_ok_on c.gather.result (λ worked ran. pairs_of_items c.args.seats.items worked.seats.items seat_at_work (same_pairs _ _ _ _ _ _ _ _ _ ran)) (returns-clause-ran g c)

pub returns-then-is_some-clause-pairs : goal.returns-then-is_some-clause-pairs
returns-then-is_some-clause-pairs g c = pairs_of_items c.args.seats.items c.run-ready.result.seats.items seat_at_work (same_pairs _ _ _ _ _ _ _ _ _ (returns-then-is_some-clause-ran g c))

pub returns-clause-seats : goal.returns-clause-seats
returns-clause-seats g c = if_ok_on c.gather.result (λ worked same. numbers_of c.args.seats.items worked.seats.items pair_in same) (returns-clause-pairs g c)

pub returns-then-is_some-clause-seats : goal.returns-then-is_some-clause-seats
returns-then-is_some-clause-seats g c = numbers_of c.args.seats.items c.run-ready.result.seats.items pair_in (returns-then-is_some-clause-pairs g c)

pub run-ready-requires : goal.run-ready-requires
run-ready-requires g c = due_own _ _ _ _ _

pub run_all-requires-clause-gate : goal.run_all-requires-clause-gate
run_all-requires-clause-gate g c = λ _ _. due_steps _

pub deal-requires-clause-fits : goal.deal-requires-clause-fits
deal-requires-clause-fits g c = subst (λ locks. All (IsAtLocks locks) c.run-ready.result.seats.items) (c.run-ready.ensures.locks ∙ c.new-all.ensures.locks) c.run-ready.result.fits
