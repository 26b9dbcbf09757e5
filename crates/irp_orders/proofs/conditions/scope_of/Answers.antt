use Rattle.std.proofs.Common.{◌≡◌, ◌∙◌, List, ap, map, refl, rules, sym, subst}
use Rattle.irp_condition.specs.declared.value.Named.{Named}
use Rattle.irp_script_reader.specs.declared.script.ScriptParts.{ScriptParts}
use Rattle.irp_orders.specs.Conditions.{refusal_words, status_words, word_of}
use Rattle.irp_orders.proofs.conditions.scope_of.Goals as goal

pub returns-clause-scope : goal.returns-clause-scope
returns-clause-scope c = record {
  labels = c.as_slice-2.ensures ∙ ap (λ (script : ScriptParts). script.labels) c.parts-parts.ensures.parts;
  steps = search rules;
  locks = ap (λ (script : ScriptParts). script.locks) c.parts-parts.ensures.parts;
  replies = refl;
  statuses = subst (λ (names : List Named). map word_of names ≡ status_words) (sym c.as_slice-3.ensures.value) c.requires.statuses;
  refusals = subst (λ (names : List Named). map word_of names ≡ refusal_words) (sym c.as_slice-4.ensures.value) c.requires.refusals;
}
