use Rattle.std.proofs.Common.{◌≡◌, ◌+◌, ◌++◌, ◌∷◌, [], List, sym, ◌∙◌, ap, Vec, Global}
use Rattle.std.specs.List.{filter_map, range_with_len}
use Rattle.irp_types.specs.State.{Entrance}
use Rattle.irp_routines.specs.Tables.{entrance_of}
use Rattle.irp_routines.proofs.ByMajor.{found_more, missed_more}
use Rattle.irp_routines.proofs.drivers.by_major.Goals as goal
use Rattle.irp_routines.proofs.drivers.by_major.Goals.{in-Some+in_ok-push, in_default}

pub loop-major-preserved : goal.loop-major-preserved
loop-major-preserved c =
    let pairs = c.args.pairs.now in
    let major = c.loop-major.major in
    elim c.match-dispatch_in.branch as (λ _. c.match-dispatch_in.sorted.items ≡ filter_map (entrance_of pairs) (range_with_len 0 (major + 1))) [
      | in-Some+in_ok-push w ↦
          ap (λ (sorted : Vec Entrance Global). sorted.items) w.sorted-is
          ∙ w.in_ok-push.ensures.items
          ∙ ap (λ (items : List Entrance). items ++ (major, w.in-Some.dispatch) ∷ []) c.loop-major.invariant
          ∙ sym (found_more pairs major w.in-Some.dispatch (sym c.dispatch_in.ensures ∙ w.in-Some.is))
      | in_default w ↦
          ap (λ (sorted : Vec Entrance Global). sorted.items) w.sorted-is
          ∙ c.loop-major.invariant
          ∙ sym (missed_more pairs major (sym c.dispatch_in.ensures ∙ w.in_default.is))
    ]
