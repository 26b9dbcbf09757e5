use Rattle.std.proofs.Common.{List, Option, ◌++◌, subst}
use Rattle.std.specs.List.{enumerate_from, flat_map}
use Rattle.irp_types.specs.declared.names.IrpRef.{IrpRef}
use Rattle.irp_machine.specs.declared.live_end.LiveEnd.{LiveEnd}
use Rattle.irp_machine.specs.declared.outcome.LockEnd.{LockEnd}
use Rattle.irp_machine.specs.declared.outcome.SlotEnd.{SlotEnd}
use Rattle.irp_plain.specs.declared.answered.Answered.{Answered}
use Rattle.irp_names.specs.Sinks.{Says}
use Rattle.irp_names.proofs.Saying.{says_both}
use Rattle.irp_orders.specs.Wrongs.{full_line, held_line, kept_line, left_line, refused_line, untaken_line}
use Rattle.irp_orders.proofs.wrongs.put_wrongs.Goals as goal

pub returns : goal.returns
returns c =
    let labels = c.args.columns.now.labels.now in
    let found = c.args.found.now in
    let end = found.outcome.end in
    let untaken = flat_map untaken_line (enumerate_from 0 c.args.setup.now) in
    let refused = flat_map refused_line (enumerate_from 0 found.answers.items) in
    let kept = flat_map (kept_line labels end.labels) end.packets in
    let held = flat_map held_line (enumerate_from 0 end.locks) in
    let full = flat_map full_line (enumerate_from 0 end.slots) in
    let left = flat_map (left_line labels end.labels) end.packets in
    says_both untaken (refused ++ (kept ++ (held ++ (full ++ left)))) c.args.out.now c.put_all_untaken.new.out c.put_all_left.new.out
    c.put_all_untaken.ensures
    (says_both refused (kept ++ (held ++ (full ++ left))) c.put_all_untaken.new.out c.put_all_refused.new.out c.put_all_left.new.out
    (subst (λ (some : List (Option Answered)). Says (flat_map refused_line (enumerate_from 0 some)) c.put_all_untaken.new.out c.put_all_refused.new.out)
    c.as_slice.ensures.value c.put_all_refused.ensures)
    (says_both kept (held ++ (full ++ left)) c.put_all_refused.new.out c.put_all_kept.new.out c.put_all_left.new.out
    (subst (λ (named : List IrpRef). Says (flat_map (kept_line labels named) end.packets) c.put_all_refused.new.out c.put_all_kept.new.out)
    c.as_slice-named.ensures
    (subst (λ (lives : List LiveEnd). Says (flat_map (kept_line labels c.as_slice-named.result.now) lives) c.put_all_refused.new.out c.put_all_kept.new.out)
    c.as_slice-packets.ensures c.put_all_kept.ensures))
    (says_both held (full ++ left) c.put_all_kept.new.out c.put_all_held.new.out c.put_all_left.new.out
    (subst (λ (some : List LockEnd). Says (flat_map held_line (enumerate_from 0 some)) c.put_all_kept.new.out c.put_all_held.new.out)
    c.as_slice-2.ensures c.put_all_held.ensures)
    (says_both full left c.put_all_held.new.out c.put_all_full.new.out c.put_all_left.new.out
    (subst (λ (some : List SlotEnd). Says (flat_map full_line (enumerate_from 0 some)) c.put_all_held.new.out c.put_all_full.new.out)
    c.as_slice-3.ensures c.put_all_full.ensures)
    (subst (λ (named : List IrpRef). Says (flat_map (left_line labels named) end.packets) c.put_all_full.new.out c.put_all_left.new.out)
    c.as_slice-named.ensures
    (subst (λ (lives : List LiveEnd). Says (flat_map (left_line labels c.as_slice-named.result.now) lives) c.put_all_full.new.out c.put_all_left.new.out)
    c.as_slice-packets.ensures c.put_all_left.ensures))))))
