-- The first newline splits the bytes, and where there is none there is no line.
use Rattle.std.proofs.Common.{ℕ, ◌+◌, List, take, drop, length-drop, ap, ◌∙◌, arith}
use Rattle.std.proofs.lemmas.Bool.{eq-eqb, eqb-true}
use Rattle.irp_transcript_reader.specs.Reading.{cut}
use Rattle.irp_fast_reader.proofs.Blocks.{bare_all, bare_at, cut_ended, joined_at, piece}
use Rattle.irp_fast_reader.proofs.read.split_line.Goals as goal

pub returns-in-Some : goal.returns-in-Some
returns-in-Some c =
    let bytes : List ℕ = c.args.bytes.now in
    let place : ℕ = c.in-Some.place in
    let first = c.in-Some.ensures in
    let bare = bare_at bytes place (λ before below same. first.0.before before (omega arith) below (eq-eqb _ 10 same)) in
    rw (piece (place + 1) bytes) record {
      whole = ap cut (joined_at bytes place first.0.high (eqb-true _ 10 first.1)) ∙ cut_ended (take place bytes) (drop (place + 1) bytes) bare;
      shorter = let left = length-drop (place + 1) bytes in omega (arith, left, first.0.high);
    }

pub returns-in-None : goal.returns-in-None
returns-in-None c = bare_all c.args.bytes.now (λ before below same. c.in-None.ensures before (omega arith) below (eq-eqb _ 10 same))
