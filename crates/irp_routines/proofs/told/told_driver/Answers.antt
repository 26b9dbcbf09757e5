use Rattle.std.proofs.Common.{rules, ◌≡◌, ◌+◌, ◌++◌, ◌∷◌, [], List, slice_index_or, sym, ◌∙◌, ap, Vec, Global}
use Rattle.std.specs.List.{filter_map, range_with_len}
use Rattle.irp_types.specs.State.{Entrance}
use Rattle.irp_routines.specs.Tables.{entrance_of}
use Rattle.irp_routines.proofs.ByMajor.{found_more, missed_more}
use Rattle.irp_routines.proofs.RisingPairs.{driver_stands}
use Rattle.irp_routines.proofs.told.told_driver.Goals as goal
use Rattle.irp_routines.proofs.told.told_driver.Goals.{in-Some+in_ok-push, in_default}

pub loop-major-preserved : goal.loop-major-preserved
loop-major-preserved g c =
    let driver = slice_index_or (g.A.Ask.tables c.args.ask.now).drivers c.args.driver.0 [] in
    let major = c.loop-major.major in
    elim c.match-dispatch_of.branch as (λ _. c.match-dispatch_of.pairs.items ≡ filter_map (entrance_of driver) (range_with_len 0 (major + 1))) [
      | in-Some+in_ok-push w ↦
          ap (λ (pairs : Vec Entrance Global). pairs.items) w.pairs-is
          ∙ w.in_ok-push.ensures.items
          ∙ ap (λ (items : List Entrance). items ++ (major, w.in-Some.dispatch) ∷ []) c.loop-major.invariant
          ∙ sym (found_more driver major w.in-Some.dispatch (sym c.dispatch_of.ensures ∙ w.in-Some.is))
      | in_default w ↦
          ap (λ (pairs : Vec Entrance Global). pairs.items) w.pairs-is
          ∙ c.loop-major.invariant
          ∙ sym (missed_more driver major (sym c.dispatch_of.ensures ∙ w.in_default.is))
    ]

pub returns : goal.returns
returns g c =
    let ask = c.args.ask.now in
    let stands = driver_stands (g.A.Ask.tables ask) c.args.driver.0 (g.met.A.Ask.tables_agree ask) in
    search rules
