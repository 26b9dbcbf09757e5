use Rattle.std.proofs.Common.{◌≡◌, vec_len, ◌+◌, Bool}
use Rattle.std.specs.List.{count_by}
use Rattle.std.specs.Option.{option_or}
use Rattle.irp_transcript.specs.declared.word_line.WordLine.{WordLine}
use Rattle.irp_script.specs.Workers.{count_lines, count_seats}
use Rattle.irp_script.specs.Working.{first_stop}
use Rattle.irp_script.proofs.run.gather.Given as goal

-- what those left have and what is gathered is what all had
abbrev pub invariant-loop-worker : goal.invariant-loop-worker
invariant-loop-worker g l = record {
  lines : (test : WordLine → Bool) → count_by test l.words.items + count_lines test l.workers.items ≡ count_lines test l.fn.workers.items;
  stop : option_or (first_stop (λ worker. worker.stop) l.workers.items) l.stop ≡ first_stop (λ worker. worker.stop) l.fn.workers.items;
  seats : (test : _ → Bool) → count_by test l.seats.items + count_seats test l.workers.items ≡ count_seats test l.fn.workers.items;
}

abbrev pub decreases-loop-worker : goal.decreases-loop-worker
decreases-loop-worker g l = vec_len l.workers
