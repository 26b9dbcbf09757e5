use Rattle.std.proofs.Common.{◌⊎◌, inl, inr, arith, Contains}
use Rattle.std.proofs.lemmas.List.Elements.{All-contains_itself, All-weaker}
use Rattle.irp_explore.specs.Paths.{HasAsGood}
use Rattle.irp_explore.proofs.Keeping.{held_popped, last_popped, left_popped, none_held, only_both}
use Rattle.irp_explore.proofs.path.add_paths.Goals as goal

pub loop-path-init : goal.loop-path-init
loop-path-init c = record {
  kept = λ other held. held;
  held = λ other held. inl held;
  left = λ one held. held;
  only =
      All-weaker (Contains c.args.paths.now.items) (λ one. Contains c.args.paths.now.items one ⊎ Contains c.args.others.items one)
      (λ one held. inl held) c.args.paths.now.items (All-contains_itself c.args.paths.now.items);
}

pub loop-path-preserved : goal.loop-path-preserved
loop-path-preserved c =
    let others = c.loop-path.others.items in
    let rest = c.pop.new.self.items in
    let path = c.in-Some.path in
    let new = c.add_path.new.paths.items in
    record {
      kept = λ other held. c.in_ok-add_path.ensures.kept other (c.loop-path.invariant.kept other held);
      held = λ other held.
          elim (c.loop-path.invariant.held other held) as (λ _. HasAsGood rest other ⊎ HasAsGood new other) [
            | inl left ↦
                (elim (held_popped others rest path other c.in-Some.ensures.items left) as (λ _. HasAsGood rest other ⊎ HasAsGood new other) [
                  | inl still ↦ inl still
                  | inr good ↦ inr (c.in_ok-add_path.ensures.held other good)
                ])
            | inr there ↦ inr (c.in_ok-add_path.ensures.kept other there)
          ];
      left = λ one held. c.loop-path.invariant.left one (left_popped others rest path one c.in-Some.ensures.items held);
      only =
          only_both c.args.paths.now.items c.args.others.items c.loop-path.paths.items new path
          (c.loop-path.invariant.left path (last_popped others rest path c.in-Some.ensures.items)) c.loop-path.invariant.only
          c.in_ok-add_path.ensures.only;
    }

pub returns-clause-held : goal.returns-clause-held
returns-clause-held c = λ other held.
    elim (c.loop-path.invariant.held other held) as (λ _. HasAsGood c.loop-path.paths.items other) [
      | inl left ↦ absurd (none_held c.loop-path.others.items other (omega (arith, c.in_default.ensures.cases.0)) left)
      | inr there ↦ there
    ]
