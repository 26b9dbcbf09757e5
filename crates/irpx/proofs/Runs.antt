-- What closing a session gives is a transcript of a run, once the word lines are put in.
use Rattle.std.proofs.Common.{◌≡◌, ℕ, List, Some, IfSome, refl, sym, subst, ap, ◌∙◌}
use Rattle.std.specs.Option.{option_map}
use Rattle.irp_types.specs.Histories.{IsLegal, CompletesOnce}
use Rattle.irp_types.specs.State.{Fixed, Tables}
use Rattle.irp_manager.specs.Seats.{Seated}
use Rattle.irp_shared.specs.Answered.{EachAnswered}
use Rattle.irp_shared.specs.Closing.{AreSeated, Closes}
use Rattle.irp_transcript.specs.Headers.{IsHeader, fixed_of, limit_of}
use Rattle.irp_transcript.specs.declared.header.Header.{Header}
use Rattle.irp_transcript.specs.Transcripts.{TranscriptValue}
use Rattle.irp_transcript.specs.declared.word_line.WordLine.{WordLine}
use Rattle.irp_script_reader.specs.declared.script.Script.{Script}
use Rattle.irp_script.specs.Told.{IsTold}
use Rattle.irp_script.specs.Words.{AreInOrder}
use Rattle.irpx.specs.Running.{IsRun, run_transcript, fixed_for}
use Rattle.irp_steps.specs.Forms.{form_of}

-- the form of the transcript, once it is put in, has the limit that is fixed
in_form : (script : Script) (tables : Tables) (header : Header) → fixed_of header ≡ fixed_for script tables → fixed_of (record header { form = form_of script.form }) ≡ fixed_for script tables
in_form script tables header is = ap (λ (fixed : Fixed). record fixed { limit = limit_of (form_of script.form) }) is

-- the transcript that was closed, with the script's form and these word lines
pub closed_is_run : (script : Script) (tables : Tables) (fixed : Fixed) (expected : ℕ) (seats : List Seated) (closed : TranscriptValue) (words : List WordLine) → Closes fixed expected seats closed → fixed ≡ fixed_for script tables → expected ≡ script.seats → IfSome (run_transcript script.form words closed).header IsHeader → EachAnswered (IsTold script) closed.entries → AreInOrder words → IsRun script tables (run_transcript script.form words closed)
closed_is_run script tables fixed expected seats closed words closes fixed_is seats_are fits answered in_order =
    let header : Header = record closes.header { form = form_of script.form } in
    let told : (run_transcript script.form words closed).header ≡ Some header = ap (λ given. option_map (λ (header : Header). record header { form = form_of script.form }) given) closes.told in
    let is : fixed_of header ≡ fixed_for script tables = in_form script tables closes.header (closes.tables ∙ fixed_is) in
    record {
      header = header;
      told = told;
      form = refl;
      seats = closes.seats_told ∙ seats_are;
      fixed = is;
      fits = subst (λ given. IfSome given IsHeader) told fits;
      legal = subst (λ this. IsLegal this closed.entries) (fixed_is ∙ sym is) closes.legal;
      once = subst (λ this. CompletesOnce this closed.entries) (fixed_is ∙ sym is) closes.once;
      seated = subst (λ this. AreSeated this closed.entries) seats_are closes.seated;
      answered = answered;
      words = in_order;
    }
