-- An order comes of words in which clap finds no fault, that of the subcommand which it finds, unless memory runs out.
use Rattle.std.proofs.Common.{Some, Err, inl, inr, ap, ◌∙◌}
use Rattle.irpx.proofs.CommandLine.{are_found, memory_alone, no_fault, on_ok}
use Rattle.irpx.proofs.words.order.Goals as goal

pub returns-in-Ok-try_get_matches_from-clause-ok : goal.returns-in-Ok-try_get_matches_from-clause-ok
returns-in-Ok-try_get_matches_from-clause-ok g c = on_ok c.order_of.result (no_fault _ _ c.in-Ok.ensures c.in-Ok-try_get_matches_from.ensures.kinds)

pub returns-in-Ok-try_get_matches_from-clause-finds : goal.returns-in-Ok-try_get_matches_from-clause-finds
returns-in-Ok-try_get_matches_from-clause-finds g c name rows found =
    let are = are_found _ c.in-Ok-try_get_matches_from.matches _ name rows c.in-Ok.ensures found.1 c.in-Ok-try_get_matches_from.ensures.matches in
    inl (record {
      demo = λ is. c.order_of.ensures.demo.1 (are.0 ∙ ap Some is);
      run = λ is. c.order_of.ensures.run rows (are.0 ∙ ap Some is) are.1;
      check = λ is. c.order_of.ensures.check.1 (are.0 ∙ ap Some is);
    })

pub returns-in-Err-clause-finds : goal.returns-in-Err-clause-finds
returns-in-Err-clause-finds g c name rows found =
    inr (ap Err (c.fault_of.ensures.memory.1 (memory_alone _ _ c.in-Err.error c.in-Ok.ensures found.0 c.in-Err.ensures.kinds)))
