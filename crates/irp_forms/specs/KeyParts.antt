-- What stands under the keys of acts, in scripts, entries and word lines, and in plans.
use Rattle.std.specs.Prelude.{ℕ}
use Rattle.irp_forms.specs.declared.key_parts.Part.{Part}
use Rattle.irp_forms.specs.declared.key_parts.Part.TheVariants as part

-- the greatest number that it may be
abbrev pub most : Part → ℕ
most part.Size = 255
most part.Major = 255
most part.Word = 18446744073709551615
most part.Information = 18446744073709551615
most part.Token = 18446744073709551615
most others = 4294967295
