-- The lines of a story, as JSON.
use Rattle.std.specs.Prelude.{ℕ, ◌==◌, [], ◌∷◌, codes, Option, Some, None, if◌then◌else◌}
use Rattle.std.specs.Option.{option_map_or, option_or}
use Rattle.serde_json.specs.Data.{Data, null, string}
use Rattle.irp_types.specs.Calls.{packet_named}
use Rattle.irp_types.specs.State.{LivePacket, StateValue, live_at}
use Rattle.irp_types.specs.declared.entry.Entry.{Entry}
use Rattle.irp_types.specs.declared.names.IrpRef.{IrpRef}
use Rattle.irp_transcript.specs.declared.header.Header.{Header}
use Rattle.irp_transcript.specs.declared.word_line.WordLine.{WordLine}
use Rattle.irp_listing.specs.Choosing.{packet_in}
use Rattle.irp_judge.specs.Judging.{JudgeValue}
use Rattle.irp_judge.specs.declared.verdict.Verdict.{Verdict}
use Rattle.irp_judge.specs.declared.verdict.Verdict.TheVariants.{Legal as IsLegal, Illegal as IsIllegal}
use Rattle.irp_judge.specs.declared.verdict.Wrong.{Wrong}
use Rattle.irp_transcript_writer.specs.Json.{fields, natural}
use Rattle.irp_transcript_writer.specs.Lines.{entry_json, header_json, word_json}
use Rattle.irp_story.specs.Forms.{moved_json, packet_json}
use Rattle.irp_story.specs.Wrongs.{wrong_json}
use Rattle.irp_story.specs.declared.standing.Standing.{Standing}
use Rattle.irp_story.specs.declared.standing.Standing.TheVariants.{Legal, Illegal, Unjudged}

-- ---- how an entry stands

-- the entry at this place, where this is wrong with the entries up to it: nothing; or it is the one that isn't legal, or
-- one behind that
abbrev pub standing_of : ℕ → Option Wrong → Standing
standing_of place None = Legal
standing_of place (Some wrong) = if wrong.at == place then Illegal else Unjudged

abbrev pub standing_json : Standing → Data
standing_json Legal = string (codes "legal")
standing_json Illegal = string (codes "illegal")
standing_json Unjudged = string (codes "unjudged")

-- what is wrong, where the entry at this place isn't legal
abbrev pub wrong_at : ℕ → Option Wrong → Data
wrong_at place None = null
wrong_at place (Some wrong) = if wrong.at == place then wrong_json wrong else null

-- ---- the packet of an entry

-- the packet that an entry is about: the one that its reply gives, else the one that its call names
abbrev pub packet_about : Entry → Option IrpRef
packet_about entry = option_or (packet_in entry.reply) (packet_named entry.call)

-- a packet, where it is live in this use
abbrev pub use_json : IrpRef → Option LivePacket → Data
use_json irp None = null
use_json irp (Some live) = if live.use_no == irp.use_no then packet_json irp live.packet else null

-- the packet that an entry is about, as it is in this state
abbrev pub packet_then : StateValue → Entry → Data
packet_then state entry = option_map_or (λ irp. use_json irp (live_at state irp.slot)) (packet_about entry) null

-- the same where the entry stands so: behind one that isn't legal no packet is known
abbrev pub packet_known : Standing → StateValue → Entry → Data
packet_known Unjudged state entry = null
packet_known Legal state entry = packet_then state entry
packet_known Illegal state entry = packet_then state entry

-- ---- the lines

-- the first line
abbrev pub header_line : Header → Data
header_line header = fields ((codes "header", header_json header) ∷ [])

-- the line of the entry at this place, where a judge that was fed the entries up to it keeps this: the entry, as in its
-- transcript; whether it is legal; where the packet is that its call moved; its packet in the manager's state behind it;
-- and what is wrong with it
abbrev pub entry_line : ℕ → JudgeValue → Entry → Data
entry_line place judge entry =
    fields ((codes "entry", entry_json entry)
    ∷ (codes "judged", standing_json (standing_of place judge.wrong))
    ∷ (codes "outcome", moved_json entry)
    ∷ (codes "packet", packet_known (standing_of place judge.wrong) judge.state entry)
    ∷ (codes "wrong", wrong_at place judge.wrong)
    ∷ [])

-- the line of a step on a remove lock or a cancel slot
abbrev pub step_line : WordLine → Data
step_line word = fields ((codes "step", word_json word) ∷ [])

-- the last line: of so many entries
abbrev pub verdict_line : ℕ → Verdict → Data
verdict_line entries (IsLegal count) =
    fields ((codes "entries", natural entries) ∷ (codes "verdict", string (codes "legal"))
    ∷ (codes "wrong_at", null) ∷ [])
verdict_line entries (IsIllegal at) =
    fields ((codes "entries", natural entries) ∷ (codes "verdict", string (codes "illegal"))
    ∷ (codes "wrong_at", natural at) ∷ [])
