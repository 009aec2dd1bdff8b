-- The lines of some positions and of those behind them are the lines of all. Assumes nothing.
use Rattle.std.specs.Prelude.{Result, Ok}
use Prim.Native.Nat.{ℕ, zero, suc, ◌+◌, ◌-◌, ◌≤◌, ◌<◌}
use mathlib.Core.Path.{◌≡◌, refl, sym, ap, ap₂, ◌∙◌}
use mathlib.Core.List.{List, [], ◌++◌, append_assoc, append-nil}
use native.Mathlib.Omega.{arith}
use native.Mathlib.Nat.{add-zero, zero-add}
use Rattle.text.specs.declared.Text.{Text}
use Rattle.text.specs.Put.{appended}
use Rattle.text.proofs.PutLaws.{appended_none, appended_join}
use Rattle.reason.specs.declared.Reason.{Reason}
use Rattle.reason.specs.declared.Reason.TheVariants.{Inside}
use Rattle.reason.specs.Reason.{reason_of}
use Rattle.account.specs.Account.{reason_text, lines_of}
use Rattle.account.specs.Steps.{span_of, inside_of}
use Rattle.account.proofs.Ahead.{Settled}
use Rattle.refusal.specs.declared.Refusal.{Refusal}

pub lines_none : (f : ℕ → Result Reason Refusal) (from : ℕ) → lines_of f from 0 ≡ []
unfolding lines_of
lines_none f from = refl

-- one more
pub lines_one : (f : ℕ → Result Reason Refusal) (from k : ℕ) → lines_of f from k ++ reason_text (from + k) (f (from + k)) ≡ lines_of f from (suc k)
unfolding lines_of
lines_one f from k = refl

lines_join : (f : ℕ → Result Reason Refusal) (from j k : ℕ) → lines_of f from (j + k) ≡ lines_of f from j ++ lines_of f (from + j) k
unfolding lines_of
lines_join f from j zero = ap (lines_of f from) (add-zero j) ∙ sym (append-nil (lines_of f from j))
lines_join f from j (suc k) =
    let z : from + (j + k) ≡ from + j + k = omega arith in
    let y : j + suc k ≡ suc (j + k) = omega arith in
    ap (lines_of f from) y ∙ ap₂ (λ t p. t ++ reason_text p (f p)) (lines_join f from j k) z
    ∙ append_assoc (lines_of f from j) (lines_of f (from + j) k) (reason_text (from + j + k) (f (from + j + k)))

-- by the reasons of those positions alone
lines_same : (f g : ℕ → Result Reason Refusal) (from k : ℕ) → ((p : ℕ) → from ≤ p → p < from + k → f p ≡ g p) → lines_of f from k ≡ lines_of g from k
unfolding lines_of
lines_same f g from zero h = refl
lines_same f g from (suc k) h = ap₂ (λ t r. t ++ reason_text (from + k) r) (lines_same f g from k (λ p l m. h p l (omega arith))) (h (from + k) (omega arith) (omega arith))

-- a position that no message covers, and those of the message that is given there
pub lines_settled : (s : List ℕ) (at : ℕ) (r : Result Reason Refusal) → Settled s at r
    → lines_of (reason_of s) 0 at ++ (reason_text at r ++ lines_of (inside_of at) (at + 1) (at + span_of r - (at + 1))) ≡ lines_of (reason_of s) 0 (at + span_of r)
lines_settled s at r h =
    let f = reason_of s in
    let k = at + span_of r - (at + 1) in
    let y : suc at + k ≡ at + span_of r = omega (arith, h.some) in
    let v : 0 + suc at ≡ at + 1 = omega arith in
    let same = lines_same (inside_of at) f (at + 1) k (λ p l m. sym (h.inside p (omega arith) (omega (arith, h.some)))) in
    sym (append_assoc (lines_of f 0 at) (reason_text at r) (lines_of (inside_of at) (at + 1) k))
    ∙ ap₂ (λ t u. t ++ u) (ap (λ t. lines_of f 0 at ++ reason_text at t) (sym h.here) ∙ ap (λ p. lines_of f 0 at ++ reason_text p (f p)) (sym (zero-add at)) ∙ lines_one f 0 at) (same ∙ ap (λ p. lines_of f p k) (sym v))
    ∙ sym (lines_join f 0 (suc at) k) ∙ ap (lines_of f 0) y

-- ---- put one behind the other
pub inside_none : (start : ℕ) (text : Text) → text ≡ appended (lines_of (inside_of start) (start + 1) (start + 1 - (start + 1))) text
inside_none start text =
    let z : start + 1 - (start + 1) ≡ 0 = omega arith in
    rw (z, lines_none (inside_of start) (start + 1)) (appended_none text)

pub inside_more : (start p : ℕ) (text : Text) → start + 1 ≤ p → appended (reason_text p (Ok (Inside start))) (appended (lines_of (inside_of start) (start + 1) (p - (start + 1))) text) ≡ appended (lines_of (inside_of start) (start + 1) (p + 1 - (start + 1))) text
inside_more start p text l =
    let k = p - (start + 1) in
    let z : start + 1 + k ≡ p = omega arith in
    let y : suc k ≡ p + 1 - (start + 1) = omega arith in
    appended_join (lines_of (inside_of start) (start + 1) k) (reason_text p (Ok (Inside start))) text
    ∙ ap (λ t. appended t text) (ap (λ q. lines_of (inside_of start) (start + 1) k ++ reason_text q (Ok (Inside start))) (sym z) ∙ lines_one (inside_of start) (start + 1) k ∙ ap (lines_of (inside_of start) (start + 1)) y)
