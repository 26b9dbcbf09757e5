use Rattle.std.proofs.Common.{◌≡◌, ◌≤◌, ◌∙◌, length, sym, ap, Some, None, inl, inr}
use Rattle.std.specs.Prelude.{slice_get}
use Rattle.std.specs.Option.{option_map}
use Rattle.std.proofs.lemmas.Option.{slice_get_cases}
use Rattle.irp_stack.specs.Records.{facts_shown}
use Rattle.irp_manager.proofs.Few.{alone}
use Rattle.irp_manager.proofs.manager_state.ManagerState.depth.Goals as goal

pub returns-in-None-clause-depth : goal.returns-in-None-clause-depth
returns-in-None-clause-depth g c =
    let devices = c.args.self.now.stacks.devices in
    let device = c.args.device.0 in
    let past : length devices.facts ≤ device =
    elim ((slice_get_cases devices.facts device).1) as (λ _. length devices.facts ≤ device) [
      | inl there ↦
          let some : option_map facts_shown (slice_get devices.facts device) ≡ Some (facts_shown there.0) = ap (option_map facts_shown) there.2 in
          let none : option_map facts_shown (slice_get devices.facts device) ≡ None = sym c.facts.ensures ∙ c.in-None.is in
          absurd (cc)
      | inr past ↦ past.0
    ] in
    sym (alone devices device c.are_stacks.ensures past)
