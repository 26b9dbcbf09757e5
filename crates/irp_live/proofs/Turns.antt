-- What one turn comes to.
use Rattle.std.proofs.Common.{◌≡◌, ℕ, ◌+◌, List, [], ◌∷◌, ◌++◌, append-nil, arith, true, false, Some, None, refl, sym, subst, ◌∙◌, inl, inr}
use Rattle.std.specs.Io.KnownBytes.{Consumes}
use Rattle.irp_live.specs.Sessions.{IsReplyLine, SessionValue, Stands}
use Rattle.irp_streams.specs.Streams.{Bytes, Streams}
use Rattle.irp_live.specs.Streams.{Breaks, IsRead, Puts, TakesSome}
use Rattle.irp_live.specs.Talking.{Ended, Exchange, IsStopped, Talked, heard_text, said_text}

-- a line that was read was taken
pub takes_line : (old new : Bytes) (line : List ℕ) → IsRead old new line true → TakesSome old new
takes_line old new line read = (line ++ 10 ∷ [], read.2)

-- so was the rest
pub takes_rest : (old new : Bytes) (line : List ℕ) → IsRead old new line false → TakesSome old new
takes_rest old new line read = (read.0, read.3)

-- some of the input was taken, and nothing went out
pub stopped : (number : ℕ) (before : SessionValue) (old new : Streams) → TakesSome old.left new.left → new.output ≡ old.output
    → IsStopped number before old new
stopped number before old new takes quiet = (takes, inl quiet)

-- there is no line any more
pub ended_rest : (before : SessionValue) (old new : Streams) (line : List ℕ) → IsRead old.left new.left line false → new.output ≡ old.output
    → Ended before old before new
ended_rest before old new line read quiet = record { same = refl; line = line; more = false; read = read; last = tt; quiet = quiet }

-- the line asks for the verdict
pub ended_line : (number : ℕ) (before after : SessionValue) (old new : Streams) (line : List ℕ) → IsRead old.left new.left line true
    → IsReplyLine number before line None after → new.output ≡ old.output → Ended before old after new
ended_line number before after old new line read reply quiet =
    record { same = reply.1; line = line; more = true; read = read; last = reply.0; quiet = quiet }

-- the line was answered
pub exchanged : (number : ℕ) (before after : SessionValue) (old new : Streams) (line said : List ℕ) → IsRead old.left new.left line true
    → IsReplyLine number before line (Some said) after → Puts said old.output new.output
    → Talked number before old (number + 1) after new × Stands after
exchanged number before after old new line said read reply put =
    let one : Exchange = record { line = line; answer = reply.0 } in (
      record {
        exchanges = one ∷ [];
        counted = omega arith;
        talks = (after, (read.0, reply.3), refl);
        heard = subst (Consumes old.left new.left) (sym (append-nil (heard_text one))) read.2;
        said = subst (λ (text : List ℕ). Puts text old.output new.output) (reply.1 ∙ sym (append-nil (said_text one))) put;
      },
      reply.2,
    )

-- the answer to the line broke off
pub interrupted : (number : ℕ) (before after : SessionValue) (old new : Streams) (line said : List ℕ) → IsRead old.left new.left line true
    → IsReplyLine number before line (Some said) after → Breaks said old.output new.output → IsStopped number before old new
interrupted number before after old new line said read reply broke = (
  takes_line old.left new.left line read,
  inr (record {
    exchange = record { line = line; answer = reply.0 };
    after = after;
    is = (read.0, reply.3);
    breaks = subst (λ (text : List ℕ). Breaks text old.output new.output) reply.1 broke;
  }),
)

pub ruleset turns = (stopped, takes_line, takes_rest, ended_rest, ended_line)
