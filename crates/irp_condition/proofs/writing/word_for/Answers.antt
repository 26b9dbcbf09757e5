use Rattle.std.proofs.Common.{◌≡◌, ◌↔◌, ◌++◌, List, ℕ, Bool, IsTrue, false, sym, subst, ◌∙◌, ap}
use Rattle.std.specs.Prelude.{string_bytes}
use Rattle.irp_condition.specs.declared.naming.Sort.{Sort}
use Rattle.irp_condition.specs.declared.scope.Scope.{Scope}
use Rattle.irp_condition.specs.declared.value.Value.{Value}
use Rattle.irp_condition.specs.Writing.{ReadsAs, WritesValue, own_word}
use Rattle.irp_condition.proofs.Lexing.{tokens_of_pieces}
use Rattle.irp_condition.proofs.Spelling.{writes}
use Rattle.irp_condition.proofs.writing.word_for.Goals as goal

not_read : (scope : Scope) (sort : Sort) (value : Value) (result : Bool) (word name : List ℕ) → (IsTrue result ↔ ReadsAs scope sort word value)
    → result ≡ false → word ≡ name → ReadsAs scope sort name value → ⊥
not_read scope sort value result word name read refused is reads =
    let met = read.1 (subst (λ (word : List ℕ). ReadsAs scope sort word value) (sym is) reads) in
    cc

pub returns : goal.returns
returns c =
    let own : c.as_bytes.result.now ≡ own_word c.args.value =
    c.as_bytes.ensures.value ∙ c.in_ok-put_own_word.ensures ∙ ap (λ (bytes : List ℕ). bytes ++ own_word c.args.value) c.new-word.ensures.bytes in
    let text : string_bytes c.push_str.new.self ≡ c.other_word.result.now =
    c.in_ok-push_str.ensures.bytes ∙ ap (λ (bytes : List ℕ). bytes ++ c.other_word.result.now) c.new-other.ensures.bytes in
    subst (λ (word : List ℕ). WritesValue c.args.scope c.args.sort c.args.value word) (sym text)
    (writes c.args.scope c.args.sort c.args.value c.other_word.result.now
    (not_read c.args.scope c.args.sort c.args.value c.reads_as.result c.as_bytes.result.now (own_word c.args.value) c.reads_as.ensures c.if-reads_as.false own)
    c.other_word.ensures.ok c.other_word.ensures.status c.other_word.ensures.refusal)
