-- More exchanges behind some.
use Rattle.std.proofs.Common.{ℕ, ◌+◌, List, [], ◌∷◌, ◌++◌, length, sym, subst, ◌∙◌, arith, length-append}
use Rattle.std.proofs.KnownBytes.{Appends-trans, Consumes-trans}
use Rattle.std.proofs.lemmas.Grind.{flat_map-append}
use Rattle.std.specs.Io.KnownBytes.{Appends, Consumes}
use Rattle.irp_live.specs.Sessions.{SessionValue}
use Rattle.irp_streams.specs.Streams.{Streams}
use Rattle.irp_live.specs.Talking.{Exchange, Talked, Talks, heard_text, said_text}

talks_both : (first : ℕ) (a b c : SessionValue) (some others : List Exchange)
    → Talks first a some b → Talks (first + length some) b others c
    → Talks first a (some ++ others) c
talks_both first a b c [] others same talks =
    let here : Talks first b others c = subst (λ number. Talks number b others c) (omega arith) talks in
    subst (λ session. Talks first session others c) (sym same) here
talks_both first a b c (one ∷ some) others before talks =
    let later : Talks (first + 1 + length some) b others c = subst (λ number. Talks number b others c) (omega arith) talks in
    (before.0, before.1, talks_both (first + 1) before.0 b c some others before.2 later)

-- some were read and answered, and then others
pub talked_both : (first next last : ℕ) (a b c : SessionValue) (old mid new : Streams)
    → Talked first a old next b mid → Talked next b mid last c new → Talked first a old last c new
talked_both first next last a b c old mid new before behind =
    let some : List Exchange = before.exchanges in
    let others : List Exchange = behind.exchanges in
    record {
      exchanges = some ++ others;
      counted = omega (arith, before.counted, behind.counted, length-append some others);
      talks = talks_both first a b c some others before.talks
          (subst (λ number. Talks number b others c) before.counted behind.talks);
      heard = subst (Consumes old.left new.left) (sym (flat_map-append heard_text some others))
          (Consumes-trans old.left mid.left new.left _ _ before.heard behind.heard);
      said = (
        subst (Appends old.output.gone new.output.gone) (sym (flat_map-append said_text some others))
            (Appends-trans old.output.gone mid.output.gone new.output.gone _ _ before.said.0 behind.said.0),
        behind.said.1 ∙ before.said.1,
      );
    }
