use Rattle.std.proofs.Common.{◌≡◌, None, not, take}
use Rattle.std.specs.Char.{is_ascii_whitespace}
use Rattle.std.specs.List.{find}
use Rattle.irp_words.proofs.telling.is_json.Given as goal

-- the bytes so far are white space
abbrev pub invariant-loop-byte : goal.invariant-loop-byte
invariant-loop-byte l = find (λ byte. not (is_ascii_whitespace byte)) (take l.byte-index l.text) ≡ None
