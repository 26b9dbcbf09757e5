-- The lines of the block are put, one after the other.
use Rattle.std.proofs.Common.{Bool, ℕ, List, ◌≡◌, ◌++◌, ap, ◌∙◌, append_assoc, rules}
use Rattle.std.proofs.lemmas.Result.{on_ok_weaker}
use Rattle.std.specs.List.{flat_map}
use Rattle.irp_types.specs.declared.asked.Asked.{Asked}
use Rattle.irp_listing.specs.Blocks.{outcome_line, question_lines}
use Rattle.irp_listing.specs.Heads.{head_text}
use Rattle.irp_listing.specs.Lines.{head_of}
use Rattle.irp_listing.specs.Stacks.{held}
use Rattle.irp_listing.proofs.blocks.put_block.Goals as goal

all_put : (out one two new head lines outcome : List ℕ) → one ≡ out ++ head → two ≡ one ++ lines → new ≡ two ++ outcome → new ≡ out ++ (head ++ (lines ++ outcome))
all_put out one two new head lines outcome first second third =
    third ∙ ap (λ given. given ++ outcome) (second ∙ ap (λ given. given ++ lines) first)
    ∙ append_assoc (out ++ head) lines outcome ∙ append_assoc out head (lines ++ outcome)

pub returns : goal.returns
returns c =
    let text : c.as_str.result.now ≡ head_text c.args.tells_seat c.is_left_out.result c.args.entry.now = search rules in
    let asked : c.as_slice.result.now ≡ c.args.entry.now.asked = search rules in
    let head =
    c.in_ok-put_head.ensures
    ∙ ap (λ (words : List ℕ). c.args.out.now.items ++ head_of c.args.entry.now.number words)
    (text ∙ ap (λ (left_out : Bool). head_text c.args.tells_seat left_out c.args.entry.now) c.is_left_out.ensures) in
    let lines =
    c.in_ok-put_questions.ensures
    ∙ ap (λ (questions : List Asked). c.put_head.new.out.items ++ flat_map (question_lines (held c.args.stacks.now.above)) questions) asked in
    on_ok_weaker c.put_outcome.result
    (all_put c.args.out.now.items c.put_head.new.out.items c.put_questions.new.out.items c.put_outcome.new.out.items _ _ (outcome_line c.args.entry.now) head lines)
    c.put_outcome.ensures
