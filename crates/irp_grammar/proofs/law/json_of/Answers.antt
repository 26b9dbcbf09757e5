use Rattle.std.proofs.lemmas.Result.{IfOk-weaker}
use Rattle.irp_grammar.specs.Reading.{IsSaidIn}
use Rattle.irp_grammar.specs.Saying.{TellsScript}
use Rattle.irp_grammar.specs.declared.law.Told.{Told}
use Rattle.irp_grammar.proofs.law.json_of.Goals as goal

-- the lines that were read say the script that is told
pub returns-clause-said : goal.returns-clause-said
returns-clause-said c =
    let said = c.in_ok-said.said in
    IfOk-weaker c.json.result (TellsScript said) (λ (told : Told). IsSaidIn c.args.text.now told.script)
    (λ (told : Told) tells. record {
      said = said;
      read = c.in_ok-said.ensures.lines tells.faultless;
      faultless = tells.faultless;
      says = tells.says;
    })
    c.json.ensures.told
