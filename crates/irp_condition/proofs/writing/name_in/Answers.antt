use Rattle.std.proofs.Common.{◌≡◌, ◌↔◌, ℕ, List, Bool, false, IsTrue, Some, None, All, sym, subst, take, arith}
use Rattle.std.proofs.lemmas.List.Elements.{All-more}
use Rattle.std.proofs.lemmas.List.{take_all}
use Rattle.irp_condition.specs.declared.naming.Sort.{Sort}
use Rattle.irp_condition.specs.declared.scope.Scope.{Scope}
use Rattle.irp_condition.specs.declared.value.Named.{Named}
use Rattle.irp_condition.specs.declared.value.Value.{Value}
use Rattle.irp_condition.specs.Writing.{ReadsAs}
use Rattle.irp_condition.proofs.writing.name_in.Goals as goal

not_read : (scope : Scope) (sort : Sort) (value : Value) (result : Bool) (word name : List ℕ) → (IsTrue result ↔ ReadsAs scope sort word value)
    → result ≡ false → word ≡ name → ReadsAs scope sort name value → ⊥
not_read scope sort value result word name read refused is reads =
    let met = read.1 (subst (λ (word : List ℕ). ReadsAs scope sort word value) (sym is) reads) in
    cc

pub loop-one-preserved : goal.loop-one-preserved
loop-one-preserved c =
    All-more (λ (one : Named). ReadsAs c.args.scope c.args.sort one.name.now c.args.value → ⊥) c.args.table.now c.loop-one.one-index _ c.loop-one-test.true
    c.loop-one.invariant (not_read c.args.scope c.args.sort c.args.value c.reads_as.result c.as_bytes.result.now _ c.reads_as.ensures c.if-reads_as.false c.as_bytes.ensures.value)

pub returns-clause-none : goal.returns-clause-none
returns-clause-none c = λ none.
    subst (λ (table : List Named). All (λ (one : Named). ReadsAs c.args.scope c.args.sort one.name.now c.args.value → ⊥) table)
    (take_all c.loop-one.one-index c.args.table.now (omega (arith, c.loop-one-test.false))) c.loop-one.invariant
