use Rattle.std.proofs.Common.{◌≡◌, true, List, Some, sym, ap, ◌∙◌, subst}
use Rattle.std.proofs.lemmas.Result.{err_from_is_err_and}
use Rattle.irp_types.specs.declared.entry.Entry.{Entry}
use Rattle.irp_script_reader.specs.Sound.{IsSound}
use Rattle.irp_transcript.specs.Transcripts.{TranscriptValue}
use Rattle.irp_script_reader.specs.declared.act.Step.{Step}
use Rattle.irp_script_reader.specs.declared.script.ScriptParts.{ScriptParts}
use Rattle.irp_machine.specs.Replays.{IsPlayed, IsReplay, StopsShort, words_below}
use Rattle.irp_machine.proofs.Accepted.{header_accepted}
use Rattle.irp_machine.proofs.Histories.{opens_of, played_on}
use Rattle.irp_machine.proofs.replaying.replay.Goals as goal

pub new-requires : goal.new-requires
new-requires c =
    let script = c.parts-script.result.now in
    let sound = subst (λ (script : ScriptParts). IsSound script) (sym c.parts-script.ensures.parts) c.parts-script.ensures.sound in
    header_accepted script c.in_ok-header.header sound c.in_ok-header.ensures

pub returns-clause-replay : goal.returns-clause-replay
returns-clause-replay c =
    let header = c.in_ok-header.header in
    let script = c.parts-script.result.now in
    let sound = subst (λ (script : ScriptParts). IsSound script) (sym c.parts-script.ensures.parts) c.parts-script.ensures.sound in
    let path = c.args.path.now in
    let start = c.in_ok-standing.standing in
    let front = c.play_setup.new.entries.items in
    let last = c.play_path.new.standing in
    let kept = c.play_path.new.entries.items in
    let played = played_on header script path start last front kept c.in_ok-standing.ensures.setup c.in_ok-play_path.ensures.plays c.in_ok-play_path.ensures.leads in
    let told : c.new.result.header ≡ Some header = ap (λ (transcript : TranscriptValue). transcript.header) c.new.ensures in
    let entries : c.new.result.entries ≡ kept = ap (λ (transcript : TranscriptValue). transcript.entries) c.new.ensures ∙ c.from_vec-entries.ensures in
    let words : c.new.result.words ≡ words_below script.steps last.seats header.seats =
    ap (λ (transcript : TranscriptValue). transcript.words) c.new.ensures ∙ c.from_vec.ensures ∙ c.in_ok-words.ensures
    ∙ ap (λ (steps : List Step). words_below steps last.seats header.seats) c.as_slice.ensures in
    let replayed : IsReplay script path c.new.result = record {
      header = header;
      headed = c.in_ok-header.ensures;
      accepted = header_accepted script header sound c.in_ok-header.ensures;
      told = told;
      last = last;
      played = subst (λ (entries : List Entry). IsPlayed header script true path last entries) (sym entries) played;
      words = words;
    } in
    subst (λ (script : ScriptParts). IsReplay script path c.new.result) c.parts-script.ensures.parts replayed

pub returns-in_err-play_path-clause-no_step : goal.returns-in_err-play_path-clause-no_step
returns-in_err-play_path-clause-no_step c =
    let header = c.in_ok-header.header in
    let script = c.parts-script.result.now in
    let path = c.args.path.now in
    let start = c.in_ok-standing.standing in
    let p = err_from_is_err_and c.from_residual-in_err-play_path.result c.from_residual-in_err-play_path.ensures.1 in
    rw p.1 (λ same.
    subst (λ (script : ScriptParts). StopsShort script path) c.parts-script.ensures.parts
    (record {
      header = header;
      headed = c.in_ok-header.ensures;
      start = start;
      opens = opens_of header script c.play_setup.new.entries.items start c.in_ok-standing.ensures.setup;
      stuck = c.in_err-play_path.ensures.no_step (sym p.2 ∙ same);
    }))
