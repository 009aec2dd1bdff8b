-- The appearances that a call takes are those of the message's observations, and their SIDs are bytes. Assumes nothing.
use Rattle.std.specs.Prelude.{Ok}
use Prim.Native.Nat.{ℕ, zero, suc, ◌+◌, ◌≤◌, ◌<◌}
use mathlib.Core.Path.{◌≡◌, refl, sym, ap, ap₂, ◌∙◌}
use mathlib.Core.Bool.{Bool, true, false, cond}
use mathlib.Core.List.{List, [], ◌∷◌, ◌++◌, map}
use native.Mathlib.Omega.{arith}
use native.Mathlib.Nat.{add-zero, zero-add, lt_of_lt_of_le, pow-le-pow_right}
use lib.ListN.{length, length-take}
use borrow.Table.Elements.{map_app}
use Rattle.octets.specs.Numbers.{Bytes}
use Rattle.octets.specs.Parts.{part}
use Rattle.octets.proofs.Numbers.{number_fits, part_bytes}
use Rattle.macm.specs.declared.Form.{Form}
use Rattle.macm.specs.Form.{observation_at}
use Rattle.macm.specs.Check.{verdict}
use Rattle.macm.specs.Observation.{observation_of}
use Rattle.macm.specs.Read.{header_of, observed_as, observed_of}
use Rattle.macm.specs.Answers.{count_in, observation_in}
use Rattle.macm.proofs.CheckSteps.{fine}
use Rattle.macm.proofs.ReadSteps.{head_accepted, observed_accepted, observed_there}
use Rattle.history.specs.declared.Appearance.{Appearance}
use Rattle.history.specs.Appearances.{appears, appearance_of, appearances_up_to, is_of, appearances_in}
use Rattle.promises.specs.Again.{read_from, observations_of}
use Rattle.promises.specs.History.{seen_by, seen_in}

-- ---- the observations of a message, the last apart
read_last : (k j : ℕ) (m : List ℕ) → read_from (suc k) j m ≡ read_from k j m ++ (observation_in (observed_of m (j + k)) ∷ [])
unfolding read_from
read_last zero j m = ap (λ i. observation_in (observed_of m i) ∷ []) (sym (add-zero j))
read_last (suc k) j m =
    let z : suc j + k ≡ j + suc k = omega arith in
    ap (λ r. observation_in (observed_of m j) ∷ r) (read_last k (suc j) m ∙ ap (λ i. read_from k (suc j) m ++ (observation_in (observed_of m i) ∷ [])) z)

-- ---- SIDs are bytes
abbrev pub Small : List Appearance → Type 0
Small [] = Unit
Small (a ∷ rest) = (a.sid < 256) × Small rest

sid_small : (b : List ℕ) → Bytes b → (observation_of b).sid < 256
unfolding observation_of
sid_small b h =
    let one : length (part 0 1 b) ≤ 1 = omega (arith, length-take 1 b) in
    lt_of_lt_of_le (number_fits (part 0 1 b) (part_bytes b 0 1 h)) (pow-le-pow_right {n = 256} (omega arith) one)

small_append : (xs ys : List Appearance) → Small xs → Small ys → Small (xs ++ ys)
small_append [] ys h g = g
small_append (x ∷ xs) ys h g = (h.0, small_append xs ys h.1 g)

module _ (m : List ℕ) (f : Form) (n : ℕ) (accepted : verdict m ≡ Ok (f, n)) (time : ℕ) where
  -- the observation at an index that there is
  there : (j : ℕ) → j < n → observed_as f n m j ≡ Ok (observation_of (part (observation_at f j) 24 m))
  there j l = sym (observed_there m j f n (fine m f n accepted).long l _ refl)

  -- ---- of the first k observations
  pub seen_up_to : (k : ℕ) → k ≤ n → appearances_up_to k f time n m ≡ map (appears time) (read_from k 0 m)
  unfolding appearances_up_to read_from
  seen_up_to zero l = refl
  seen_up_to (suc k) l =
      let o = observation_of (part (observation_at f k) 24 m) in
      let read : observed_of m (0 + k) ≡ Ok o = ap (observed_of m) (zero-add k) ∙ sym (observed_accepted m k f n accepted) ∙ there k (omega arith) in
      ap₂ (λ a b. a ++ appearance_of time b) (seen_up_to k (omega arith)) (there k (omega arith))
      ∙ ap (λ r. map (appears time) (read_from k 0 m) ++ (appears time (observation_in r) ∷ [])) (sym read)
      ∙ sym (map_app (appears time) (read_from k 0 m) (observation_in (observed_of m (0 + k)) ∷ []))
      ∙ ap (map (appears time)) (sym (read_last k 0 m))

  pub small_up_to : Bytes m → (k : ℕ) → k ≤ n → Small (appearances_up_to k f time n m)
  unfolding appearances_up_to
  small_up_to h zero l = tt
  small_up_to h (suc k) l =
      let b = part (observation_at f k) 24 m in
      small_append (appearances_up_to k f time n m) _ (small_up_to h k (omega arith)) (rw (there k (omega arith)) (sid_small b (part_bytes m (observation_at f k) 24 h), tt))

-- ---- of a message that is accepted
module _ (type : ℕ) (m : List ℕ) (f : Form) (n : ℕ) (accepted : verdict m ≡ Ok (f, n)) where
  abbrev time : ℕ
  time = (header_of f m).time

  pub seen_same : appearances_in type (header_of f m) n m ≡ seen_in type m
  unfolding appearances_in header_of observations_of
  seen_same =
      ap (λ s. cond (is_of type f) s []) (seen_up_to m f n accepted time n (omega arith))
      ∙ ap (λ h. seen_by type h (read_from (count_in h) 0 m)) (head_accepted m f n accepted)

  pub seen_small : Bytes m → Small (appearances_in type (header_of f m) n m)
  unfolding appearances_in header_of
  seen_small h = go (is_of type f)
    where
      go : (b : Bool) → Small (cond b (appearances_up_to n f time n m) [])
      go true = small_up_to m f n accepted time h n (omega arith)
      go false = tt
