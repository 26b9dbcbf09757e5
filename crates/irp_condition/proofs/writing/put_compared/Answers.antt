use Rattle.std.proofs.Common.{◌≡◌, ◌++◌, List, ℕ, sym, subst, ◌∙◌, ap}
use Rattle.std.specs.Prelude.{string_bytes}
use Rattle.irp_condition.specs.declared.naming.Sort.{Sort}
use Rattle.irp_condition.specs.Naming.{sort_of}
use Rattle.irp_condition.specs.Writing.{PutsCompared, WritesValue, name_of_fact, sign_of}
use Rattle.irp_condition.proofs.Putting.{when_ok, put_pieces}
use Rattle.irp_condition.proofs.writing.put_compared.Goals as goal

pub returns : goal.returns
returns c =
    when_ok c.push_str-4.result (string_bytes c.push_str-3.new.self) (string_bytes c.push_str-4.new.self) c.as_str.result.now
    (PutsCompared c.args.scope c.args.fact c.args.comparison c.args.value (string_bytes c.args.text.now) (string_bytes c.push_str-4.new.self))
    c.push_str-4.ensures.bytes
    (λ last. (
      c.as_str.result.now,
      put_pieces c.args.scope c.args.fact c.args.comparison (string_bytes c.args.text.now) (string_bytes c.put_fact.new.text) (string_bytes c.push_str.new.self)
          (string_bytes c.push_str-2.new.self) (string_bytes c.push_str-3.new.self) (string_bytes c.push_str-4.new.self) c.as_str.result.now
          c.in_ok-put_fact.ensures c.in_ok-push_str.ensures.bytes
          (c.in_ok-push_str-2.ensures.bytes ∙ ap (λ (bytes : List ℕ). string_bytes c.push_str.new.self ++ bytes) c.sign_of.ensures)
          c.in_ok-push_str-3.ensures.bytes last,
      subst (λ (word : List ℕ). WritesValue c.args.scope (sort_of (name_of_fact c.args.fact)) c.args.value word) (sym c.as_str.ensures.value)
          (subst (λ (sort : Sort). WritesValue c.args.scope sort c.args.value (string_bytes c.in_ok-word.word)) (c.sort_of.ensures ∙ ap sort_of c.name_of_fact.ensures)
          c.in_ok-word.ensures),
    ))
