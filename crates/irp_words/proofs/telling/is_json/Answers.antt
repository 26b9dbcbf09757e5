use Rattle.std.proofs.Common.{◌∙◌, arith, ap, false, not, sym}
use Rattle.std.specs.Char.{is_ascii_whitespace}
use Rattle.std.specs.Option.{option_map_or}
use Rattle.irp_words.specs.Telling.{opens_json}
use Rattle.irp_words.proofs.Finding.{finds_first, finds_none}
use Rattle.irp_words.proofs.telling.is_json.Goals as goal

-- the first byte that is no white space tells
pub returns-then-not-is_ascii_whitespace : goal.returns-then-not-is_ascii_whitespace
returns-then-not-is_ascii_whitespace c =
    let is = ap not (sym c.is_ascii_whitespace.ensures.value ∙ c.if-not-is_ascii_whitespace.true) in
    let first =
    finds_first (λ byte. not (is_ascii_whitespace byte)) c.args.text.now c.loop-byte.byte-index 0
    (omega (arith, c.loop-byte-test.true)) c.loop-byte.invariant is in
    c.opens_json.ensures ∙ sym (ap (λ found. option_map_or opens_json found false) first)

-- one more byte is white space
pub loop-byte-preserved : goal.loop-byte-preserved
loop-byte-preserved c =
    let is = ap not (sym c.is_ascii_whitespace.ensures.value ∙ c.if-not-is_ascii_whitespace.false) in
    finds_none (λ byte. not (is_ascii_whitespace byte)) c.args.text.now c.loop-byte.byte-index 0
    (omega (arith, c.loop-byte-test.true)) c.loop-byte.invariant is
