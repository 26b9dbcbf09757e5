use Rattle.std.proofs.Common.{ℕ, List, ◌++◌, subst}
use Rattle.std.specs.Prelude.{codes}
use Rattle.std.specs.Fmt.{WritesOnOk, decimal}
use Rattle.irp_types.specs.declared.reply.Seen.{Seen}
use Rattle.irp_names.specs.Replies.{routine_set}
use Rattle.irp_names.specs.Small.{owner_text}
use Rattle.irp_names.specs.Statuses.{result_text}
use Rattle.irp_names.proofs.replies.SeenWordsDisplay.fmt.Goals as goal

-- what is told, where the three flags are told so
abbrev told : Seen → List ℕ × List ℕ × List ℕ → List ℕ
told seen flags =
    owner_text seen.owner ++ (codes ", current location " ++ (decimal seen.current
    ++ (codes ", " ++ (result_text seen.status seen.information ++ (flags.0 ++ (routine_set seen.cancel_routine ++ (flags.1 ++ flags.2)))))))

pub returns-clause-writes : goal.returns-clause-writes
returns-clause-writes g c =
    subst (λ (flags : List ℕ × List ℕ × List ℕ). WritesOnOk g.W.Write.write_str_gives c.args.f.now c.write.result (told c.args.self.now.0 flags) c.write.new.self)
    (λ i. (c.told_if.ensures i, c.told_if-2.ensures i, c.told_if-3.ensures i)) c.write.ensures.writes
