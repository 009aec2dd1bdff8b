-- A SID's entries are the breaks among its own appearances. Assumes nothing.
use Prim.Native.Nat.{ℕ}
use mathlib.Core.Path.{◌≡◌, refl, sym, ap, ap₂, ◌∙◌}
use mathlib.Core.Bool.{Bool, true, false, cond}
use mathlib.Core.List.{List, [], ◌∷◌, ◌++◌, map, flatten, append_assoc, append-nil}
use lib.Dec.{ltb, eqb}
use borrow.Author.Tests.{eqb-true}
use Rattle.history.specs.declared.Appearance.{Appearance}
use Rattle.history.specs.Breaks.{Entry, entry_of}
use Rattle.promises.specs.History.{Earlier, never, last, or_last, last_of, break_since, breaks_since, lists_since, of_sid, entries_of}

-- ---- in two parts
pub breaks_append : (before xs ys : List Appearance) → breaks_since before (xs ++ ys) ≡ breaks_since before xs ++ breaks_since (before ++ xs) ys
unfolding breaks_since
breaks_append before [] ys = ap (λ b. breaks_since b ys) (sym (append-nil before))
breaks_append before (x ∷ xs) ys =
    ap (λ r. break_since (last_of x.sid before) x ++ r) (breaks_append (before ++ (x ∷ [])) xs ys ∙ ap (λ b. breaks_since (before ++ (x ∷ [])) xs ++ breaks_since b ys) (append_assoc before (x ∷ []) xs))
    ∙ sym (append_assoc (break_since (last_of x.sid before) x) (breaks_since (before ++ (x ∷ [])) xs) (breaks_since (before ++ (x ∷ xs)) ys))

-- the lists one after the other are the breaks of all appearances one after the other
pub lists_joined : (before : List Appearance) (ms : List (List Appearance)) → flatten (lists_since before ms) ≡ breaks_since before (flatten ms)
unfolding flatten lists_since breaks_since
lists_joined before [] = refl
lists_joined before (m ∷ ms) = ap (λ r. breaks_since before m ++ r) (lists_joined (before ++ m) ms) ∙ sym (breaks_append before m (flatten ms))

-- ---- of one SID
module _ (sid : ℕ) where
  of_append : (xs ys : List Appearance) → of_sid sid (xs ++ ys) ≡ of_sid sid xs ++ of_sid sid ys
  unfolding of_sid
  of_append [] ys = refl
  of_append (x ∷ xs) ys = go (eqb x.sid sid) (of_append xs ys)
    where
      go : (b : Bool) → of_sid sid (xs ++ ys) ≡ of_sid sid xs ++ of_sid sid ys → cond b (x ∷ of_sid sid (xs ++ ys)) (of_sid sid (xs ++ ys)) ≡ cond b (x ∷ of_sid sid xs) (of_sid sid xs) ++ of_sid sid ys
      go true ih = ap (λ r. x ∷ r) ih
      go false ih = ih

  entries_append : (es fs : List Entry) → entries_of sid (es ++ fs) ≡ entries_of sid es ++ entries_of sid fs
  unfolding entries_of
  entries_append [] fs = refl
  entries_append (e ∷ es) fs = go (eqb e.sid sid) (entries_append es fs)
    where
      go : (b : Bool) → entries_of sid (es ++ fs) ≡ entries_of sid es ++ entries_of sid fs → cond b (e ∷ entries_of sid (es ++ fs)) (entries_of sid (es ++ fs)) ≡ cond b (e ∷ entries_of sid es) (entries_of sid es) ++ entries_of sid fs
      go true ih = ap (λ r. e ∷ r) ih
      go false ih = ih

  -- its last appearance is among its own
  last_own : (xs : List Appearance) → last_of sid (of_sid sid xs) ≡ last_of sid xs
  unfolding last_of of_sid
  last_own [] = refl
  last_own (x ∷ xs) = go (eqb x.sid sid) refl (last_own xs)
    where
      go : (b : Bool) → eqb x.sid sid ≡ b → last_of sid (of_sid sid xs) ≡ last_of sid xs → last_of sid (cond b (x ∷ of_sid sid xs) (of_sid sid xs)) ≡ or_last (last_of sid xs) (cond b (last x) never)
      go true e ih = rw (e, ih)
      go false e ih = ih ∙ none (last_of sid xs)
        where
          none : (l : Earlier) → l ≡ or_last l never
          none never = refl
          none (last a) = refl

  -- an entry is of the SID that appears
  entry_own : (l : Earlier) (a : Appearance) (b : Bool) → eqb a.sid sid ≡ b → entries_of sid (break_since l a) ≡ cond b (break_since l a) []
  unfolding entries_of
  entry_own never a true e = refl
  entry_own never a false e = refl
  entry_own (last b) a true e = go (ltb a.time b.time) (ltb a.lock b.lock)
    where
      go : (s t : Bool) → entries_of sid (cond s (entry_of a 1 ∷ []) (cond t (entry_of a 2 ∷ []) [])) ≡ cond s (entry_of a 1 ∷ []) (cond t (entry_of a 2 ∷ []) [])
      go true t = rw e
      go false true = rw e
      go false false = refl
  entry_own (last b) a false e = go (ltb a.time b.time) (ltb a.lock b.lock)
    where
      go : (s t : Bool) → entries_of sid (cond s (entry_of a 1 ∷ []) (cond t (entry_of a 2 ∷ []) [])) ≡ []
      go true t = rw e
      go false true = rw e
      go false false = refl

  pub breaks_own : (before xs : List Appearance) → entries_of sid (breaks_since before xs) ≡ breaks_since (of_sid sid before) (of_sid sid xs)
  unfolding breaks_since of_sid entries_of
  breaks_own before [] = refl
  breaks_own before (x ∷ xs) = go (eqb x.sid sid) refl (breaks_own (before ++ (x ∷ [])) xs ∙ ap (λ b. breaks_since b (of_sid sid xs)) (of_append before (x ∷ [])))
    where
      here : List Entry
      here = break_since (last_of x.sid before) x

      rest : List Entry
      rest = breaks_since (before ++ (x ∷ [])) xs

      go : (b : Bool) → eqb x.sid sid ≡ b → entries_of sid rest ≡ breaks_since (of_sid sid before ++ of_sid sid (x ∷ [])) (of_sid sid xs) → entries_of sid (here ++ rest) ≡ breaks_since (of_sid sid before) (cond b (x ∷ of_sid sid xs) (of_sid sid xs))
      go true e ih =
          let same : x.sid ≡ sid = eqb-true x.sid sid e in
          let kept : last_of x.sid before ≡ last_of x.sid (of_sid sid before) = rw same (sym (last_own before)) in
          entries_append here rest
          ∙ ap₂ (λ a b. a ++ b) (entry_own (last_of x.sid before) x true e ∙ ap (λ l. break_since l x) kept) (ih ∙ ap (λ o. breaks_since (of_sid sid before ++ o) (of_sid sid xs)) (rw e))
      go false e ih =
          entries_append here rest
          ∙ ap₂ (λ a b. a ++ b) (entry_own (last_of x.sid before) x false e) (ih ∙ ap (λ o. breaks_since o (of_sid sid xs)) (rw e (append-nil (of_sid sid before))))

  -- message by message
  pub lists_own : (before : List Appearance) (ms : List (List Appearance)) → map (entries_of sid) (lists_since before ms) ≡ lists_since (of_sid sid before) (map (of_sid sid) ms)
  unfolding lists_since
  lists_own before [] = refl
  lists_own before (m ∷ ms) = ap₂ (λ a b. a ∷ b) (breaks_own before m) (lists_own (before ++ m) ms ∙ ap (λ b. lists_since b (map (of_sid sid) ms)) (of_append before m))
