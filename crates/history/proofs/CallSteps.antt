-- What a call answers and leaves, by what its tests say. Assumes nothing.
use Rattle.std.specs.Prelude.{Result, Ok, Err}
use Prim.Native.Nat.{ℕ, ◌*◌, ◌≤◌, ◌<◌}
use mathlib.Core.Path.{◌≡◌, refl, ap, ◌∙◌}
use mathlib.Core.Bool.{Bool, true, false, cond}
use mathlib.Core.List.{List, ◌++◌}
use native.Mathlib.Omega.{arith}
use native.Mathlib.Nat.{zero-add}
use lib.Dec.{ltb}
use lib.ListN.{length, drop, length-append}
use borrow.Author.Tests.{lt-ltb, le-ltb}
use Rattle.refusal.specs.declared.Refusal.{Refusal}
use Rattle.refusal.specs.declared.Refusal.TheVariants.{SmallBuffer}
use Rattle.macm.specs.declared.Header.{Header}
use Rattle.history.specs.Words.{type_in}
use Rattle.history.specs.Appearances.{is_of, appearances_up_to, appearances_in}
use Rattle.history.specs.Breaks.{Kept, numbers_of, after_all, begun}
use Rattle.history.specs.Calls.{list_numbers, Leaves, refusing, listing, call_by}
use Rattle.history.specs.Steps.{Takes}
use Rattle.history.proofs.Takes.{numbers_length}

module _ (m ws list : List ℕ) (h : Header) (n : ℕ) where
  pub call_without_room : length list < list_numbers → Leaves (call_by (Ok (h, n)) m ws list) (Err SmallBuffer) ws list
  unfolding call_by
  call_without_room l = rw (lt-ltb _ _ l) (record { answer = refl; words = refl; list = refl })

  pub call_passes_over : list_numbers ≤ length list → is_of (type_in ws) h.form ≡ false → Leaves (call_by (Ok (h, n)) m ws list) (Ok 0) ws list
  unfolding call_by appearances_in after_all numbers_of
  call_passes_over l e = rw (le-ltb _ _ l, e) (record { answer = refl; words = refl; list = refl })

  pub call_takes : (r : ℕ) (ws' list' : List ℕ) → list_numbers ≤ length list → is_of (type_in ws) h.form ≡ true → Takes ws list 0 (appearances_up_to n h.form h.time n m) r ws' list' → Leaves (call_by (Ok (h, n)) m ws list) (Ok r) ws' list'
  unfolding call_by appearances_in
  call_takes r ws' list' l e t =
      let kept = after_all (begun ws) (appearances_up_to n h.form h.time n m) in
      let numbers = numbers_of kept.entries in
      rw (le-ltb _ _ l, e)
      (record {
        answer = ap Ok (t.counted ∙ zero-add (length kept.entries));
        words = t.words;
        list = t.listed ∙ ap (λ k. numbers ++ drop k list) (zero-add (length numbers));
      })

-- ---- the list holds the entries that are said to be in it
abbrev pub Holds : Result ℕ Refusal → List ℕ → Type 0
Holds (Err r) list = Unit
Holds (Ok n) list = 3 * n ≤ length list

pub list_holds : (m ws list : List ℕ) (head : Result (Header × ℕ) Refusal) → Holds (call_by head m ws list).answer (call_by head m ws list).list
unfolding call_by
list_holds m ws list (Err r) = tt
list_holds m ws list (Ok (h, n)) = go (ltb (length list) list_numbers) (after_all (begun ws) (appearances_in (type_in ws) h n m))
  where
    go : (b : Bool) (k : Kept) → Holds (cond b (refusing SmallBuffer ws list) (listing k list)).answer (cond b (refusing SmallBuffer ws list) (listing k list)).list
    go true k = tt
    go false k =
        let es = k.entries in
        omega (arith, numbers_length es, length-append (numbers_of es) (drop (length (numbers_of es)) list))
