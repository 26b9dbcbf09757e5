-- What the program does: lines are read and answered, one after another.
use Rattle.std.specs.Prelude.{ℕ, ◌≡◌, ◌+◌, ◌⊎◌, List, [], ◌∷◌, ◌++◌, Bool, true, false, codes, length, Some, Result, Ok, Err}
use Rattle.std.specs.Fmt.{decimal}
use Rattle.std.specs.Io.{StopsAt}
use Rattle.std.specs.Io.KnownBytes.{Consumes}
use Rattle.std.specs.List.{flat_map}
use Rattle.serde_json.specs.Data.{Data, null}
use Rattle.irp_transcript.specs.Headers.{IsHeader}
use Rattle.irp_transcript.specs.declared.header.Header.{Header}
use Rattle.irp_transcript.specs.Transcripts.{TranscriptValue, no_lines}
use Rattle.irp_transcript_reader.specs.Reading.{IsNext}
use Rattle.irp_transcript_writer.specs.Json.{line_text}
use Rattle.irp_judge.specs.Checked.{IsVerdictOn}
use Rattle.irp_judge.specs.declared.verdict.Verdict.{Verdict}
use Rattle.irp_judge.specs.declared.verdict.Verdict.TheVariants.{Legal, Illegal}
use Rattle.irp_live.specs.Asking.{IsHeard, IsUnheard}
use Rattle.irp_live.specs.declared.asking.Unheard.{Unheard}
use Rattle.irp_live.specs.declared.asking.Unheard.TheVariants.{Fault, NoMemory}
use Rattle.irp_live.specs.Sessions.{IsAnswered, IsEnd, SessionValue, Stands}
use Rattle.irp_streams.specs.Streams.{Output, Streams}
use Rattle.irp_live.specs.Streams.{Breaks, IsCut, IsRead, Puts, TakesSome}
use Rattle.irp_live.specs.Told.{fault_json}
use Rattle.irp_live.specs.declared.asking.LineFault.{LineFault}
use Rattle.irp_live.specs.declared.asking.LineFault.TheVariants.{NoForm}
use Rattle.irp_streams.specs.declared.reading.StreamFault.{StreamFault}
use Rattle.irp_live.specs.declared.talking.LiveFault.{LiveFault}
use Rattle.irp_live.specs.declared.talking.LiveFault.TheVariants.{RefusedHeader, Stream}

-- the line that tells a verdict, as irpx writes it
abbrev pub verdict_line : Verdict → List ℕ
verdict_line (Legal entries) = codes "legal " ++ (decimal entries ++ 10 ∷ [])
verdict_line (Illegal at) = codes "illegal " ++ (decimal at ++ 10 ∷ [])

-- ---- lines and answers

-- a line, without its newline, and what it is answered with
pub record Exchange : Type 0 where
  pub line : List ℕ
  pub answer : Data

-- the line with its newline
abbrev pub heard_text : Exchange → List ℕ
heard_text exchange = exchange.line ++ 10 ∷ []

-- the line that answers it
abbrev pub said_text : Exchange → List ℕ
said_text exchange = line_text exchange.answer

-- the line of this number has one newline, at its end, and is answered so
abbrev pub IsExchange : ℕ → SessionValue → Exchange → SessionValue → Type 0
IsExchange number before exchange after =
    StopsAt (heard_text exchange) 10 × IsAnswered number before exchange.line exchange.answer after

-- the lines from this number on are answered so, one after another, and make the one session of the other
abbrev pub Talks : ℕ → SessionValue → List Exchange → SessionValue → Type 0
Talks number before [] after = before ≡ after
Talks number before (exchange ∷ others) after =
    (between : SessionValue) × IsExchange number before exchange between × Talks (number + 1) between others after

-- lines were read, each was answered by a line in its turn, and nothing failed. The next line has the next number
pub record Talked (first : ℕ) (before : SessionValue) (old : Streams) (next : ℕ) (after : SessionValue) (new : Streams)
    : Type 0 where
  pub exchanges : List Exchange
  pub counted : next ≡ first + length exchanges
  pub talks : Talks first before exchanges after
  pub heard : Consumes old.left new.left (flat_map heard_text exchanges)
  pub said : Puts (flat_map said_text exchanges) old.output new.output

-- the last line asks for the verdict; where there is no newline any more there is no line
abbrev pub IsLastLine : Bool → List ℕ → Type 0
IsLastLine true line = IsEnd line
IsLastLine false rest = Unit {0}

-- nothing more is to be answered
pub record Ended (before : SessionValue) (old : Streams) (after : SessionValue) (new : Streams) : Type 0 where
  pub same : after ≡ before
  pub line : List ℕ
  pub more : Bool
  pub read : IsRead old.left new.left line more
  pub last : IsLastLine more line
  pub quiet : new.output ≡ old.output

-- the output failed in the answer to the next line
pub record Interrupted (number : ℕ) (before : SessionValue) (old new : Output) : Type 0 where
  pub exchange : Exchange
  pub after : SessionValue
  pub is : IsExchange number before exchange after
  pub breaks : Breaks (said_text exchange) old new

-- the next line isn't answered, or not whole: the input failed or memory ran out, or the output failed
abbrev pub IsStopped : ℕ → SessionValue → Streams → Streams → Type 0
IsStopped number before old new =
    TakesSome old.left new.left × ((new.output ≡ old.output) ⊎ Interrupted number before old.output new.output)

-- what came of one turn: the next line was answered; or nothing more is to be answered; or it stopped
abbrev pub IsTurn : ℕ → SessionValue → Streams → Result Bool StreamFault → SessionValue → Streams → Type 0
IsTurn number before old (Ok true) after new = Talked number before old (number + 1) after new × Stands after
IsTurn number before old (Ok false) after new = Ended before old after new
IsTurn number before old (Err fault) after new = IsStopped number before old new

-- what came of all turns: lines were answered, and then nothing more is to be answered, or it stopped
abbrev pub IsConversed : SessionValue → Streams → Result (Unit {0}) StreamFault → SessionValue → Streams → Type 0
IsConversed before old (Ok done) after new =
    (next : ℕ) × (between : SessionValue) × (mid : Streams) × Talked 2 before old next between mid
    × Ended between mid after new
IsConversed before old (Err fault) after new =
    (next : ℕ) × (between : SessionValue) × (mid : Streams) × Talked 2 before old next between mid
    × IsStopped next between mid new

-- ---- the whole

-- a line is a header that the formats accept: this one, and the transcript has nothing else yet
pub record IsBegun (line : List ℕ) (known : Header) (told : TranscriptValue) : Type 0 where
  pub form : Data
  pub heard : IsHeard line (Ok form)
  pub next : IsNext no_lines form told
  pub header : told.header ≡ Some known
  pub accepted : IsHeader known
  pub none : told.entries ≡ []

-- why a value is no header, unless memory ran out
abbrev pub IsNoHeader : Data → Unheard → Type 0
IsNoHeader form (Fault NoForm) = (told : TranscriptValue) → IsNext no_lines form told → ⊥
IsNoHeader form (Fault fault) = ⊥
IsNoHeader form NoMemory = Unit {0}

-- why a line is no header: it has no value, or that is none
abbrev pub IsUnbegun : List ℕ → Unheard → Type 0
IsUnbegun line unheard =
    IsUnheard line unheard ⊎ ((form : Data) × IsHeard line (Ok form) × IsNoHeader form unheard)

-- the text went out whole, and nothing was taken of the input; or it broke off, or didn't begin for want of memory
abbrev pub Says : List ℕ → Streams → Streams → Type 0
Says text old new = (new.left ≡ old.left) × Puts text old.output new.output

abbrev pub Stops : List ℕ → Streams → Streams → Type 0
Stops text old new = (new.left ≡ old.left) × IsCut text old.output new.output

-- what came of the further lines and the verdict: the lines were answered, and the verdict on the entries went out; or
-- it stopped, in an answer or in the verdict
abbrev pub IsFinished : SessionValue → Streams → Result Verdict StreamFault → Streams → Type 0
IsFinished begun old (Ok verdict) new =
    (session : SessionValue) × (mid : Streams) × IsConversed begun old (Ok tt) session mid
    × IsVerdictOn session.told verdict × Says (verdict_line verdict) mid new
IsFinished begun old (Err fault) new =
    ((session : SessionValue) × IsConversed begun old (Err fault) session new)
    ⊎ ((session : SessionValue) × (mid : Streams) × (verdict : Verdict) × IsConversed begun old (Ok tt) session mid
    × IsVerdictOn session.told verdict × Stops (verdict_line verdict) mid new)

-- behind a header the answer to it went out, and then this came of the further lines
pub record Served (told : TranscriptValue) (old : Streams) (result : Result Verdict StreamFault) (new : Streams)
    : Type 0 where
  pub begun : SessionValue
  pub same : begun.told ≡ told
  pub stands : Stands begun
  pub mid : Streams
  pub answered : Says (line_text null) old mid
  pub finished : IsFinished begun mid result new

-- the same, or it stopped in the answer to the header
abbrev pub IsServed : TranscriptValue → Streams → Result Verdict StreamFault → Streams → Type 0
IsServed told old (Ok verdict) new = Served told old (Ok verdict) new
IsServed told old (Err fault) new = Stops (line_text null) old new ⊎ Served told old (Err fault) new

-- what came of it with this first line: behind a header the further lines and the verdict; another line is answered by
-- its fault, or that stopped
abbrev pub IsFirst : List ℕ → Streams → Result Verdict LiveFault → Streams → Type 0
IsFirst line old (Ok verdict) new =
    (header : Header) × (told : TranscriptValue) × IsBegun line header told × IsServed told old (Ok verdict) new
IsFirst line old (Err RefusedHeader) new =
    (fault : LineFault) × IsUnbegun line (Fault fault) × Says (line_text (fault_json fault 1)) old new
IsFirst line old (Err (Stream fault)) new =
    ((header : Header) × (told : TranscriptValue) × IsBegun line header told × IsServed told old (Err fault) new)
    ⊎ ((why : LineFault) × IsUnbegun line (Fault why) × Stops (line_text (fault_json why 1)) old new)
    ⊎ (new ≡ old)

-- the first line was read, and nothing went out
pub record Read (old : Streams) (line : List ℕ) (more : Bool) (new : Streams) : Type 0 where
  pub read : IsRead old.left new.left line more
  pub quiet : new.output ≡ old.output

-- without a line the verdict is the one on no entries, or that stopped
abbrev pub IsUnled : Streams → Result Verdict LiveFault → Streams → Type 0
IsUnled old (Ok verdict) new = (verdict ≡ Legal 0) × Says (verdict_line (Legal 0)) old new
IsUnled old (Err RefusedHeader) new = ⊥
IsUnled old (Err (Stream fault)) new = Stops (verdict_line (Legal 0)) old new

-- the input or the output failed, or memory ran out
abbrev pub IsStream : Result Verdict LiveFault → Type 0
IsStream (Err (Stream fault)) = Unit {0}
IsStream other = ⊥

-- what came of the program: of the first line, and behind it; or there is no line, and the verdict on no entries went
-- out
abbrev pub IsLived : Streams → Result Verdict LiveFault → Streams → Type 0
IsLived old result new =
    ((line : List ℕ) × (mid : Streams) × Read old line true mid × IsFirst line mid result new)
    ⊎ ((line : List ℕ) × (mid : Streams) × Read old line false mid × IsUnled mid result new)
    ⊎ (IsStream result × TakesSome old.left new.left × (new.output ≡ old.output))
