-- Calls for breaks, one a message, list what the history over all messages says. Assumes nothing.
use Rattle.std.specs.Prelude.{Result, Ok, Err}
use Prim.Native.Nat.{ℕ, ◌*◌, ◌≤◌}
use mathlib.Core.Path.{◌≡◌, refl, sym, ap, ap₂, ◌∙◌, subst}
use mathlib.Core.List.{List, [], ◌∷◌, ◌++◌, map, append_assoc, append-nil}
use lib.ListN.{length, take, drop}
use lib.Seq.{take_at}
use borrow.Author.Tests.{le-ltb}
use Rattle.octets.specs.Numbers.{Bytes}
use Rattle.macm.specs.Check.{verdict}
use Rattle.macm.specs.Read.{header_of, head_of}
use Rattle.macm.proofs.ReadSteps.{head_refused, head_accepted}
use Rattle.history.specs.declared.Appearance.{Appearance}
use Rattle.history.specs.Appearances.{appearances_in}
use Rattle.history.specs.Breaks.{numbers_of, replaced, entry_at, after_all, begun}
use Rattle.history.specs.Calls.{list_numbers, call_by, next_call}
use Rattle.history.proofs.Takes.{numbers_length, after_behind}
use Rattle.promises.specs.Again.{observations_of}
use Rattle.promises.specs.History.{breaks_since, lists_since, seen_by, seen_in}
use Rattle.promises.specs.HistoryCalls.{listed, told_by, calls_from, owed_by, owed, Every}
use Rattle.promises.proofs.Appearing.{Small, seen_same, seen_small}
use Rattle.promises.proofs.HistoryWords.{Keeps, keeps_one, said_same}
use Rattle.macm.specs.declared.Form.{Form}
use Rattle.refusal.specs.declared.Refusal.{Refusal}

module _ (type : ℕ) where
  -- ---- one appearance after the other
  keeps_all : (xs before : List Appearance) (ws : List ℕ) → Keeps type before ws → Small xs → Keeps type (before ++ xs) (after_all (begun ws) xs).words
  unfolding after_all
  keeps_all [] before ws h s = rw (append-nil before) h
  keeps_all (x ∷ xs) before ws h s =
      rw (ap (λ k. k.words) (after_behind (replaced x ws) (entry_at ws x) xs), sym (append_assoc before (x ∷ []) xs))
      (keeps_all xs (before ++ (x ∷ [])) (replaced x ws) (keeps_one type before ws h x s.0) s.1)

  said_all : (xs before : List Appearance) (ws : List ℕ) → Keeps type before ws → Small xs → (after_all (begun ws) xs).entries ≡ breaks_since before xs
  unfolding after_all breaks_since
  said_all [] before ws h s = refl
  said_all (x ∷ xs) before ws h s =
      ap (λ k. k.entries) (after_behind (replaced x ws) (entry_at ws x) xs)
      ∙ ap₂ (λ a b. a ++ b) (said_same type before ws h x s.0) (said_all xs (before ++ (x ∷ [])) (replaced x ws) (keeps_one type before ws h x s.0) s.1)

  -- ---- one call
  record Listed (before : List Appearance) (ws list m : List ℕ) : Type 0 where
    given : told_by (next_call m ws list).answer (next_call m ws list).list ≡ owed_by (head_of m) (breaks_since before (seen_in type m))
    kept : Keeps type (before ++ seen_in type m) (next_call m ws list).words

  call_lists : (before : List Appearance) (ws list m : List ℕ) → Keeps type before ws → list_numbers ≤ length list → Bytes m → Listed before ws list m
  unfolding call_by
  call_lists before ws list m h room b = go (verdict m) refl
    where
      go : (v : Result (Form × ℕ) Refusal) → verdict m ≡ v → Listed before ws list m
      go (Err r) e =
          let head : head_of m ≡ Err r = sym (head_refused m r e) in
          record { given = rw head; kept = rw (head, append-nil before) h }
      go (Ok (f, n)) e =
          let head : head_of m ≡ Ok (header_of f m, n) = sym (head_accepted m f n e) in
          let xs = appearances_in type (header_of f m) n m in
          let es = (after_all (begun ws) xs).entries in
          let seen = seen_by type (Ok (header_of f m, n)) (observations_of m) in
          let same : xs ≡ seen = seen_same type m f n e ∙ ap (λ h. seen_by type h (observations_of m)) head in
          let small = seen_small type m f n e b in
          let said : es ≡ breaks_since before seen = said_all xs before ws h small ∙ ap (breaks_since before) same in
          let front : take (3 * length es) (numbers_of es ++ drop (length (numbers_of es)) list) ≡ numbers_of es = take_at (numbers_of es) _ (3 * length es) (numbers_length es) in
          record {
            given = rw (head, le-ltb _ _ room, h.typed) (ap listed (front ∙ ap numbers_of said));
            kept = rw (head, le-ltb _ _ room, h.typed) (subst (λ s. Keeps type (before ++ s) (after_all (begun ws) xs).words) same (keeps_all xs before ws h small));
          }

  -- ---- all calls
  module _ (lists : ℕ → List ℕ) (room : (i : ℕ) → list_numbers ≤ length (lists i)) where
    pub calls_list : (ms : List (List ℕ)) (before : List Appearance) (ws : List ℕ) → Keeps type before ws → Every Bytes ms → calls_from ws lists ms ≡ owed ms (lists_since before (map (seen_in type) ms))
    unfolding calls_from owed lists_since
    calls_list [] before ws h b = refl
    calls_list (m ∷ ms) before ws h b =
        let call = call_lists before ws (lists (length ms)) m h (room (length ms)) b.0 in
        ap₂ (λ x y. x ∷ y) call.given (calls_list ms (before ++ seen_in type m) (next_call m ws (lists (length ms))).words call.kept b.1)
