-- What a first line begins.
use Rattle.std.proofs.Common.{◌≡◌, List, ℕ, Some, sym, ap, subst, ◌∙◌}
use Rattle.std.proofs.lemmas.Option.{same_Some}
use Rattle.serde_json.specs.Data.{Data}
use Rattle.irp_transcript.specs.Headers.{IsHeader}
use Rattle.irp_transcript.specs.Transcripts.{TranscriptValue, no_lines}
use Rattle.irp_transcript.specs.declared.header.Header.{Header}
use Rattle.irp_transcript_reader.specs.Lines.{header_at}
use Rattle.irp_transcript_reader.specs.Reading.{IsLine, IsNext, with_line}
use Rattle.irp_transcript_reader.specs.declared.line.Line.TheVariants.{Header as HeaderLine, Entry as EntryLine, Word as WordLineOf}
use Rattle.irp_live.specs.Talking.{IsBegun}

-- the first line is a header
first : (form : Data) (told : TranscriptValue) → IsNext no_lines form told
    → (header : Header) × (header_at form ≡ Some header) × IsHeader header × (told ≡ with_line no_lines (HeaderLine header))
first form told (HeaderLine header, says, is) = (header, says.0, says.1, is)
first form told (EntryLine entry, says, is) = absurd says
first form told (WordLineOf word, says, is) = absurd says

-- one value makes one header
pub begun : (line : List ℕ) (form : Data) (told other : TranscriptValue) (header : Header) → IsLine line form → IsNext no_lines form told
    → IsNext no_lines form other → other.header ≡ Some header → IsBegun line header told
begun line form told other header heard next again is =
    let one = first form told next in
    let two = first form other again in
    let same : one.0 ≡ two.0 = same_Some one.0 two.0 (sym one.1 ∙ two.1) in
    let given : two.0 ≡ header = same_Some two.0 header (sym (ap (λ (it : TranscriptValue). it.header) two.3) ∙ is) in
    record {
      form = form;
      heard = heard;
      next = next;
      header = ap (λ (it : TranscriptValue). it.header) one.3 ∙ ap Some (same ∙ given);
      accepted = subst IsHeader (same ∙ given) one.2;
      none = ap (λ (it : TranscriptValue). it.entries) one.3;
    }
