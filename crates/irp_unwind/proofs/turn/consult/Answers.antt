use Rattle.std.proofs.Common.{rules, ◌≡◌, true, sym, ◌∙◌, ap, refl, inr, Some}
use Rattle.irp_types.specs.Packet.{location_at}
use Rattle.irp_types.specs.declared.location.Location.{Location}
use Rattle.irp_unwind.specs.Turns.{is_met, is_met_now}
use Rattle.irp_unwind.proofs.turn.consult.Goals as goal

pub returns-then-meets_flags-clause-consulted : goal.returns-then-meets_flags-clause-consulted
returns-then-meets_flags-clause-consulted g c =
    let packet = c.args.packet.now in
    let location : c.location_at.result ≡ location_at packet packet.current = c.location_at.ensures ∙ ap (location_at packet) c.current.ensures.current in
    let here : (location_at packet packet.current).setting ≡ Some c.in-Some.setting = ap (λ (one : Location). one.setting) (sym location) ∙ c.in-Some.is in
    let met : is_met_now packet ≡ true = ap (λ option. is_met option packet.cancel packet.status) here ∙ grind rules in
    inr (record {
      asking = record { id = c.in-Some.setting.routine; shown = c.shown_now-shown.result; answer = c.ask_routine.result };
      met = met;
      asked = record {
        setting = c.in-Some.setting;
        here = here;
        id = refl;
        shown = c.shown_now-shown.ensures;
        allowed = (g.met.A.Ask.answers_allowed _ _ _ _ c.ask_routine.ensures.given).allowed;
      };
      given = c.ask_routine.ensures.given;
      listed = c.ask_routine.ensures.listed;
      answered = refl;
    })
