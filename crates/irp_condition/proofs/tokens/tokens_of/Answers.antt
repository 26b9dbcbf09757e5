use Rattle.std.proofs.Common.{◌≡◌, ◌+◌, ℕ, List, ap, ◌∙◌, add-one}
use Rattle.std.specs.Prelude.{if◌then◌else◌}
use Rattle.irp_condition.specs.declared.tokens.Token.{Token}
use Rattle.irp_condition.specs.Tokens.{tokens_below, begin_of, ends_behind, with_token, token_of}
use Rattle.irp_condition.proofs.tokens.tokens_of.Goals as goal

-- one more byte
next_tokens : (text : List ℕ) (place begin : ℕ) (old new : List Token) → old ≡ tokens_below text place → begin ≡ begin_of text place
    → new ≡ (if ends_behind text place then with_token (token_of text begin (place + 1)) old else old) → new ≡ tokens_below text (place + 1)
next_tokens text place begin old new old_is begin_is is =
    rw add-one (is
    ∙ ap (λ (begin : ℕ). if ends_behind text place then with_token (token_of text begin (place + 1)) old else old) begin_is
    ∙ ap (λ (old : List Token). if ends_behind text place then with_token (token_of text (begin_of text place) (place + 1)) old else old) old_is)

next_begin : (text : List ℕ) (place begin next : ℕ) → begin ≡ begin_of text place
    → next ≡ (if ends_behind text place then place + 1 else begin) → next ≡ begin_of text (place + 1)
next_begin text place begin next begin_is is =
    rw add-one (is ∙ ap (λ (begin : ℕ). if ends_behind text place then place + 1 else begin) begin_is)

pub loop-place-preserved : goal.loop-place-preserved
loop-place-preserved c =
    let before = c.loop-place.invariant in
    record {
      tokens = next_tokens c.args.text.now c.loop-place.place c.loop-place.begin c.loop-place.tokens.items c.put_ended.new.tokens.items
          before.tokens before.begin c.in_ok-begin.ensures.tokens;
      begin = next_begin c.args.text.now c.loop-place.place c.loop-place.begin c.in_ok-begin.begin before.begin c.in_ok-begin.ensures.begin;
      low = c.in_ok-begin.ensures.low;
    }
