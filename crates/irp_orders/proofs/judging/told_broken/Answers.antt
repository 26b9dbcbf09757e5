-- The outcome that is shown is one of those that were found.
use Rattle.std.proofs.Common.{◌≡◌, length, refl}
use Rattle.std.proofs.lemmas.Option.{slice_get_read}
use Rattle.std.proofs.lemmas.Result.{IfErr-weaker, IfOk-weaker}
use Rattle.irp_machine.specs.declared.limits.NotMade.{NotMade}
use Rattle.irp_machine.specs.declared.limits.NotMade.TheVariants.{NoStep}
use Rattle.irp_machine.specs.Replays.{StopsShort}
use Rattle.irp_orders.specs.Rows.{IsSomeStuck}
use Rattle.irp_orders.specs.Told.{IsBrokenText, IsShownIn}
use Rattle.irp_orders.proofs.Shown.{broken_text}
use Rattle.irp_orders.proofs.judging.told_broken.Goals as goal

pub returns-clause-text : goal.returns-clause-text
returns-clause-text c =
    let columns = c.args.columns.now in
    let founds = c.args.founds.now in
    let question = c.args.question in
    let place = c.args.place in
    let found = c.index-founds-place.result in
    let stands = slice_get_read founds (length founds) place found refl c.requires.place c.index-founds-place.is in
    IfOk-weaker c.with_shown.result (λ text. IsShownIn columns question place found c.put_counts.new.out text.items)
    (λ text. IsBrokenText columns founds question c.args.marks.now place text.items)
    (λ text shown.
    broken_text columns founds question c.args.marks.now place found c.new-out.result c.put_counts.new.out text.items c.new-out.ensures c.put_counts.ensures
    stands shown)
    c.with_shown.ensures.shown

pub returns-clause-no_step : goal.returns-clause-no_step
returns-clause-no_step c =
    let script = c.args.columns.now.script.now in
    let founds = c.args.founds.now in
    let place = c.args.place in
    let found = c.index-founds-place.result in
    let stands = slice_get_read founds (length founds) place found refl c.requires.place c.index-founds-place.is in
    IfErr-weaker c.with_shown.result (λ (refusal : NotMade). refusal ≡ NoStep → StopsShort script found.outcome.path.items)
    (λ (refusal : NotMade). refusal ≡ NoStep → IsSomeStuck script founds)
    (λ refusal short same. (place, found, stands, short same))
    c.with_shown.ensures.no_step
