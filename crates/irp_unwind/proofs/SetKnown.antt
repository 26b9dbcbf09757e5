-- What a frame sets is there, and looks on where the frame marks nothing.
use Rattle.std.proofs.Common.{◌≡◌, ◌<◌, ◌≤◌, true, false, length, refl, sym, ◌∙◌, ap, subst, arith, Option, Some, None, IfSome, MatchOption, inl, inr}
use Rattle.std.specs.Option.{option_map_or}
use Rattle.std.proofs.lemmas.Bool.{and_parts, ltb-true, lt-ltb}
use Rattle.std.proofs.lemmas.Option.{slice_get_within, get_or_from_slice_get}
use Rattle.irp_types.specs.Rules.{IsWithin, is_known, is_watch, is_plan_allowed, count_of_rule}
use Rattle.irp_types.specs.Packet.{PacketValue}
use Rattle.irp_types.specs.Stacks.{DevicesValue}
use Rattle.irp_types.specs.State.{Tables, AreTables, known_of}
use Rattle.irp_types.specs.Descent.{Frame, plans, marks_location, set_by, first_location, shown_to, dispatch_at, IsPlanOf, IsPlanned}
use Rattle.irp_types.specs.declared.names.IrpRef.{IrpRef}
use Rattle.irp_types.specs.declared.names.DispatchId.{DispatchId}
use Rattle.irp_types.specs.declared.names.CancelId.{CancelId}
use Rattle.irp_types.specs.declared.routine.Rule.{Rule}
use Rattle.irp_types.specs.declared.routine.Rule.TheVariants.{Watch, Change, Keeper, KeepOnError, Free}
use Rattle.irp_types.specs.declared.routine.Known.{Known}
use Rattle.irp_types.specs.declared.routine.Setting.{Setting}
use Rattle.irp_types.specs.declared.shown.Shown.{Shown}
use Rattle.irp_types.specs.declared.answer.Plan.{Plan}
use Rattle.irp_types.specs.declared.answer.Plan.TheVariants.{Finish, Hold, HoldSlot, Skip, Forward, ForwardPend}
use Rattle.irp_unwind.specs.Conditions.{HasRoutines}
use Rattle.irp_unwind.proofs.Frames.{set_at}
use Rattle.irp_unwind.proofs.SentOn.{SentOn}

watches : (rule : Rule) → is_watch rule ≡ true → rule ≡ Watch
watches Watch is = refl
watches Change is = absurd (cc)
watches Keeper is = absurd (cc)
watches KeepOnError is = absurd (cc)
watches Free is = absurd (cc)

-- a setting whose routine is there, and looks on where the plan marks nothing
abbrev IsSet : Known → Plan → Setting → Type 0
IsSet known plan setting = (is_known known setting ≡ true) × (marks_location plan ≡ false → setting.routine.rule ≡ Watch)

known_set : (known : Known) (shown : Shown) (plan : Plan) → is_plan_allowed known shown plan ≡ true → IfSome (set_by plan) (IsSet known plan)
known_set known shown (Finish status information) allowed = tt
known_set known shown (Hold cancel) allowed = tt
known_set known shown HoldSlot allowed = tt
known_set known shown Skip allowed = tt
known_set known shown (Forward None) allowed = tt
known_set known shown (Forward (Some setting)) allowed =
    let both = (and_parts _ _ allowed).1 in
    let parts = and_parts (is_watch setting.routine.rule) (is_known known setting) both in
    (parts.1, λ unmarked. watches setting.routine.rule parts.0)
known_set known shown (ForwardPend None) allowed = tt
known_set known shown (ForwardPend (Some setting)) allowed = ((and_parts _ _ allowed).1, λ unmarked. absurd (cc))

if_some : {X : Type 0} (P : X → Type 0) (found : Option X) (value : X) → found ≡ Some value → IfSome found P → P value
if_some P found value is each = let here : IfSome (Some value) P = subst (λ given. IfSome given P) is each in here

-- the routine that a frame sets: the dispatch that may name it, and what it may name
pub record IsSetBy (tables : Tables) (frame : Frame) (setting : Setting) : Type 0 where
  pub dispatch : DispatchId
  pub known : Known
  pub there : known_of tables dispatch ≡ Some known
  pub named : is_known known setting ≡ true
  pub watches : plans marks_location frame ≡ false → setting.routine.rule ≡ Watch

pub sets_known : (tables : Tables) (irp : IrpRef) (packet : PacketValue) (devices : DevicesValue) (frame : Frame) → IsPlanned tables irp packet devices frame → (setting : Setting) → set_at frame ≡ Some setting
    → IsSetBy tables frame setting
sets_known tables irp packet devices frame planned setting set =
    let shown = shown_to irp packet devices frame in
    elim (dispatch_at tables devices frame.device shown.major) as (λ found. MatchOption found (frame.plan ≡ None) (λ dispatch. IsPlanOf tables dispatch shown frame.plan) → IsSetBy tables frame setting) [
      | None ↦ λ unplanned.
          let nothing : set_at frame ≡ None = ap (λ plan. option_map_or set_by plan None) unplanned in
          absurd (cc)
      | Some dispatch ↦ λ of.
          let plan = of.1 in
          let is : frame.plan ≡ Some plan = of.3 in
          let here : set_by plan ≡ Some setting = sym (ap (λ given. option_map_or set_by given None) is) ∙ set in
          let test : plans marks_location frame ≡ marks_location plan = ap (λ given. option_map_or marks_location given false) is in
          let all = if_some (IsSet of.0 plan) (set_by plan) setting here (known_set of.0 shown plan of.4) in
          record {
            dispatch = dispatch;
            known = of.0;
            there = of.2;
            named = all.0;
            watches = λ unmarked. all.1 (sym test ∙ unmarked);
          }
    ] planned

within_rule : (known counts : Known) (rule : Rule) → IsWithin known counts → count_of_rule known rule ≤ count_of_rule counts rule
within_rule known counts Watch within = within.watch
within_rule known counts Change within = within.change
within_rule known counts Keeper within = within.keeper
within_rule known counts KeepOnError within = within.keep_on_error
within_rule known counts Free within = within.free

-- what a dispatch may name is there
counted : (tables : Tables) (dispatch : DispatchId) (known : Known) → AreTables tables → known_of tables dispatch ≡ Some known → IsWithin known tables.counts
counted tables dispatch known agree there =
    let within : dispatch.0 < length tables.dispatches = slice_get_within tables.dispatches dispatch.0 known there in
    subst (λ given. IsWithin given tables.counts) (get_or_from_slice_get tables.dispatches dispatch.0 known known there) (agree.known dispatch.0 known within)

pub known_counted : (tables : Tables) (frame : Frame) (setting : Setting) → AreTables tables → IsSetBy tables frame setting → is_known tables.counts setting ≡ true
known_counted tables frame setting agree by =
    let below : setting.routine.no < count_of_rule by.known setting.routine.rule = ltb-true _ _ by.named in
    let within = within_rule by.known tables.counts setting.routine.rule (counted tables by.dispatch by.known agree by.there) in
    lt-ltb _ _ (omega (arith, within, below))

-- the cancel routine that a holding device names is there
pub cancel_counted : (tables : Tables) (irp : IrpRef) (packet : PacketValue) (devices : DevicesValue) (frame : Frame) → AreTables tables → IsPlanned tables irp packet devices frame
    → (routine : CancelId) → frame.plan ≡ Some (Hold (Some routine)) → routine.0 < tables.counts.cancel
cancel_counted tables irp packet devices frame agree planned routine holds =
    let shown = shown_to irp packet devices frame in
    elim (dispatch_at tables devices frame.device shown.major) as (λ found. MatchOption found (frame.plan ≡ None) (λ dispatch. IsPlanOf tables dispatch shown frame.plan) → routine.0 < tables.counts.cancel) [
      | None ↦ λ unplanned. absurd (cc)
      | Some dispatch ↦ λ of.
          let same : Some of.1 ≡ Some (Hold (Some routine)) = sym of.3 ∙ holds in
          let plan : of.1 ≡ Hold (Some routine) = cc in
          let allowed : is_plan_allowed of.0 shown (Hold (Some routine)) ≡ true = ap (is_plan_allowed of.0 shown) (sym plan) ∙ of.4 in
          let named : routine.0 < (of.0).cancel = ltb-true _ _ (and_parts _ _ allowed).1 in
          let within = counted tables dispatch of.0 agree of.2 in
          omega (arith, named, within.cancel)
    ] planned

pub routines_sent : (tables : Tables) (irp : IrpRef) (packet next : PacketValue) (devices : DevicesValue) (frame : Frame) → AreTables tables → IsPlanned tables irp packet devices frame → SentOn packet frame next
    → HasRoutines tables.counts packet (first_location packet) → HasRoutines tables.counts next (first_location next)
routines_sent tables irp packet next devices frame agree planned sent routines = record {
  there = λ number setting from to set.
      elim (sent.settings number from) as (λ _. is_known tables.counts setting ≡ true) [
        | inl w ↦ routines.there number setting w.0 (omega (arith, sent.size)) (sym w.1 ∙ set)
        | inr w ↦
            known_counted tables frame setting agree (sets_known tables irp packet devices frame planned setting (sym w ∙ set))
      ];
}
