-- The words of a history hold what was seen last of every SID. Assumes nothing.
use Rattle.std.specs.Prelude.{Some, None}
use Prim.Native.Nat.{ℕ, suc, ◌+◌, ◌*◌, ◌<◌}
use mathlib.Core.Path.{◌≡◌, refl, sym, ap, ◌∙◌}
use mathlib.Core.Bool.{Bool, true, false, cond}
use mathlib.Core.List.{List, [], ◌∷◌, ◌++◌}
use native.Mathlib.Omega.{arith}
use native.Mathlib.Nat.{add-zero}
use lib.Dec.{ltb, eqb}
use lib.ListN.{length, get_or, replicate, length-replicate, get_or-replicate}
use borrow.Author.Tests.{ltb-true, ltb-false, eqb-true, eqb-false, eq-eqb}
use Rattle.octets.proofs.Parts.{length_put, put_before, put_there, put_behind}
use Rattle.history.specs.declared.Appearance.{Appearance}
use Rattle.history.specs.declared.Break.TheVariants.{ClockBack, NewLock}
use Rattle.history.specs.declared.Last as words
use Rattle.history.specs.Words.{history_words, last_at, type_in, last_in, put_last, fresh_words}
use Rattle.history.specs.Breaks.{said_of, entry_of, entry_for, replaced, entry_at}
use Rattle.promises.specs.History.{Earlier, never, last, last_of, break_since}

-- the last pair of an appearance
abbrev pair : ℕ → ℕ → words.Last
pair time lock = record { seen = 1; time = time; lock = lock }

-- ---- what is put for a SID is its own, and no other's
module _ (ws : List ℕ) (long : length ws ≡ history_words) (sid time lock : ℕ) (small : sid < 256) where
  abbrev three : List ℕ
  three = 1 ∷ time ∷ lock ∷ []

  pub last_own : last_in (put_last sid time lock ws) sid ≡ pair time lock
  unfolding put_last
  last_own =
      let at = last_at sid in
      let seen = ap (λ k. get_or (put_last sid time lock ws) k 0) (sym (add-zero at)) ∙ put_there at 0 three ws (omega arith) (omega arith) in
      λ i. record { seen = seen i; time = put_there at 1 three ws (omega arith) (omega arith) i; lock = put_there at 2 three ws (omega arith) (omega arith) i }

  other : (s : ℕ) → (s ≡ sid → ⊥) → (k : ℕ) → k < 3 → get_or (put_last sid time lock ws) (last_at s + k) 0 ≡ get_or ws (last_at s + k) 0
  unfolding put_last
  other s n k l = go (ltb s sid) refl
    where
      go : (b : Bool) → ltb s sid ≡ b → get_or (put_last sid time lock ws) (last_at s + k) 0 ≡ get_or ws (last_at s + k) 0
      go true e = put_before (last_at sid) (last_at s + k) three ws (omega arith) (omega (arith, ltb-true s sid e))
      go false e = put_behind (last_at sid) (last_at s + k) three ws (omega arith) (omega (arith, ltb-false s sid e, n))

  pub last_other : (s : ℕ) → (s ≡ sid → ⊥) → last_in (put_last sid time lock ws) s ≡ last_in ws s
  last_other s n =
      let at = last_at s in
      let seen = ap (λ k. get_or (put_last sid time lock ws) k 0) (sym (add-zero at)) ∙ other s n 0 (omega arith) ∙ ap (λ k. get_or ws k 0) (add-zero at) in
      λ i. record { seen = seen i; time = other s n 1 (omega arith) i; lock = other s n 2 (omega arith) i }

  pub type_kept : type_in (put_last sid time lock ws) ≡ type_in ws
  unfolding put_last
  type_kept = put_before (last_at sid) 0 three ws (omega arith) (omega arith)

  pub length_kept : length (put_last sid time lock ws) ≡ history_words
  unfolding put_last
  length_kept = length_put (last_at sid) three ws (omega arith) ∙ long

-- ---- the words hold what these appearances leave
abbrev Holds : words.Last → Earlier → Type 0
Holds kept never = kept.seen ≡ 0
Holds kept (last a) = kept ≡ pair a.time a.lock

pub record Keeps (type : ℕ) (before : List Appearance) (ws : List ℕ) : Type 0 where
  pub long : length ws ≡ history_words
  pub typed : type_in ws ≡ type
  pub kept : (s : ℕ) → s < 256 → Holds (last_in ws s) (last_of s before)

-- nothing was seen
zeros : (type n i : ℕ) → i < n → get_or (type ∷ replicate n 0) (1 + i) 0 ≡ 0
zeros type n i l = let z : 1 + i ≡ suc i = omega arith in ap (λ k. get_or (type ∷ replicate n 0) k 0) z ∙ get_or-replicate n i 0 0 l

fresh_length : (type n : ℕ) → length (type ∷ replicate n 0) ≡ suc n
fresh_length type n = ap suc (length-replicate n 0)

pub keeps_fresh : (type : ℕ) → Keeps type [] (fresh_words type)
unfolding fresh_words last_of
keeps_fresh type = record { long = fresh_length type 768; typed = refl; kept = λ s l. zeros type 768 (3 * s) (omega arith) }

-- ---- one appearance more
last_snoc : (s : ℕ) (xs : List Appearance) (a : Appearance) (b : Bool) → eqb a.sid s ≡ b → last_of s (xs ++ (a ∷ [])) ≡ cond b (last a) (last_of s xs)
unfolding last_of
last_snoc s [] a true e = rw e
last_snoc s [] a false e = rw e
last_snoc s (x ∷ xs) a true e = rw (last_snoc s xs a true e)
last_snoc s (x ∷ xs) a false e = rw (last_snoc s xs a false e)

module _ (type : ℕ) (before : List Appearance) (ws : List ℕ) (h : Keeps type before ws) (a : Appearance) (small : a.sid < 256) where
  pub keeps_one : Keeps type (before ++ (a ∷ [])) (replaced a ws)
  keeps_one =
      record {
        long = length_kept ws h.long a.sid a.time a.lock small;
        typed = type_kept ws h.long a.sid a.time a.lock small ∙ h.typed;
        kept = λ s l. go s l (eqb a.sid s) refl;
      }
    where
      go : (s : ℕ) → s < 256 → (b : Bool) → eqb a.sid s ≡ b → Holds (last_in (replaced a ws) s) (last_of s (before ++ (a ∷ [])))
      go s l true e = rw (last_snoc s before a true e, sym (eqb-true a.sid s e)) (last_own ws h.long a.sid a.time a.lock small)
      go s l false e = rw (last_snoc s before a false e, last_other ws h.long a.sid a.time a.lock small s (λ q. eqb-false a.sid s e (sym q))) (h.kept s l)

  -- and what is said of it
  pub said_same : entry_at ws a ≡ break_since (last_of a.sid before) a
  said_same = go (last_of a.sid before) (last_in ws a.sid) (h.kept a.sid small)
    where
      go : (e : Earlier) (kept : words.Last) → Holds kept e → entry_for a (said_of kept a.time a.lock) ≡ break_since e a
      go never kept z = rw (eq-eqb kept.seen 0 z)
      go (last b) kept z = ap (λ k. entry_for a (said_of k a.time a.lock)) z ∙ said (ltb a.time b.time) (ltb a.lock b.lock)
        where
          said : (t l : Bool) → entry_for a (cond t (Some ClockBack) (cond l (Some NewLock) None)) ≡ cond t (entry_of a 1 ∷ []) (cond l (entry_of a 2 ∷ []) [])
          said true l = refl
          said false true = refl
          said false false = refl
