-- `account::put_account` meets its contract: before each turn the lines up to its position, which no message covers, are put. Assumes nothing.
use Rattle.std.specs.Prelude.{Result}
use Prim.Native.Nat.{ℕ, ◌-◌}
use mathlib.Core.Path.{◌≡◌, ap, ◌∙◌}
use mathlib.Core.List.{List}
use native.Mathlib.Omega.{arith}
use lib.ListN.{length, take, drop, length-drop}
use lib.Seq.{take_all}
use Rattle.text.specs.Put.{appended}
use Rattle.text.proofs.PutLaws.{appended_none, appended_join}
use Rattle.reason.specs.declared.Reason.{Reason}
use Rattle.reason.specs.Reason.{here_of, reason_of}
use Rattle.account.proofs.Ahead.{ahead_start, settled}
use Rattle.account.proofs.Lines.{lines_none, lines_settled}
use Rattle.account.proofs.put_account.Goals as goal
use Rattle.refusal.specs.declared.Refusal.{Refusal}

-- as the code has it: the reason of `&recording[position..]`
whole : (s : List ℕ) (at : ℕ) (r : Result Reason Refusal) → r ≡ here_of (take (length s - at) (drop at s)) → r ≡ here_of (drop at s)
whole s at r e = e ∙ ap here_of (take_all (length s - at) (drop at s) (omega (arith, length-drop at s)))

pub loop-position-init : goal.loop-position-init
loop-position-init c =
    let s = c.args.recording.now in
    (ahead_start s, rw (lines_none (reason_of s) 0) (appended_none c.args.text.now))

pub overflow_add-end : goal.overflow_add-end
overflow_add-end c =
    let s = c.args.recording.now in
    let l = c.loop-position in
    let h = settled s l.position l.invariant.0 (omega arith) _ (whole s l.position _ c.reason_here-reason.ensures) in
    omega (arith, c.span.ensures, h.next.within)

pub put_inside-requires : goal.put_inside-requires
put_inside-requires c =
    let s = c.args.recording.now in
    let l = c.loop-position in
    let h = settled s l.position l.invariant.0 (omega arith) _ (whole s l.position _ c.reason_here-reason.ensures) in
    omega (arith, c.span.ensures, h.some)

pub loop-position-smaller : goal.loop-position-smaller
loop-position-smaller c =
    let s = c.args.recording.now in
    let l = c.loop-position in
    let h = settled s l.position l.invariant.0 (omega arith) _ (whole s l.position _ c.reason_here-reason.ensures) in
    omega (arith, c.span.ensures, h.some, h.next.within)

pub loop-position-preserved : goal.loop-position-preserved
loop-position-preserved c =
    let s = c.args.recording.now in
    let l = c.loop-position in
    let h = settled s l.position l.invariant.0 (omega arith) _ (whole s l.position _ c.reason_here-reason.ensures) in
    let span = c.span.ensures in
    let all = c.put_inside.ensures ∙ ap (appended _) c.put_reason.ensures ∙ appended_join _ _ l.text ∙ ap (appended _) l.invariant.1 ∙ appended_join _ _ c.args.text.now in
    (rw span h.next, rw (span, ← lines_settled s l.position _ h) (rw span at all))
