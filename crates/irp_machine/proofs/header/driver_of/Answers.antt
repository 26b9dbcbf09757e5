use Rattle.std.proofs.Common.{rules, ◌≡◌, List, sym, subst}
use Rattle.std.specs.Prelude.{IsPermutation}
use Rattle.std.proofs.lemmas.List.Sorted.{IsNonDecreasingBy-from_sort_by_key}
use Rattle.irp_types.specs.State.{Entrance}
use Rattle.irp_machine.specs.Headers.{IsSorted}
use Rattle.irp_machine.proofs.Rising.{majors_rise}
use Rattle.irp_machine.proofs.header.driver_of.Goals as goal

pub returns : goal.returns
returns c =
    let driver : List Entrance = c.args.driver.now in
    let sorted : List Entrance = c.sort_by_key.new.self.items in
    let same : c.in_ok-pairs.pairs.items ≡ driver = search rules in
    let pairs : IsPermutation driver sorted =
    subst (λ (pairs : List Entrance). IsPermutation pairs sorted) same c.in_ok-sort_by_key.ensures.permutation in
    let ordered = IsNonDecreasingBy-from_sort_by_key (λ (pair : Entrance). pair.0) _ c.in_ok-sort_by_key.ensures.sorted (λ a r q k. search rules) in
    subst (λ (sorted : List Entrance). IsSorted driver sorted) (sym c.from_vec.ensures)
    (record { pairs = pairs; rising = majors_rise driver sorted c.requires pairs ordered })
