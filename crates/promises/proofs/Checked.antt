-- A message of n bytes stands at the front exactly if they are here and the message check accepts them. Assumes nothing.
use Rattle.std.specs.Prelude.{Result, Ok, Err}
use Prim.Native.Nat.{ℕ, suc, ◌≤◌, ◌<◌}
use mathlib.Core.Path.{◌≡◌, refl, sym, ap, ◌∙◌}
use mathlib.Core.Bool.{Bool, true, false, cond}
use mathlib.Core.List.{List}
use native.Mathlib.Omega.{arith}
use lib.ListN.{length, get_or, take, drop, take-append-drop}
use lib.Seq.{length-take-le, get_or-take}
use lib.Dec.{ltb, leb}
use borrow.Author.Tests.{lt-ltb, le-leb, leb-true}
use Rattle.octets.specs.Begins.{fit, is_whole}
use Rattle.octets.specs.Numbers.{Bytes}
use Rattle.octets.specs.declared.Fit.{Fit}
use Rattle.octets.specs.declared.Fit.TheVariants.{Whole, Part, Bad}
use Rattle.octets.proofs.Begins.{Fits, fit_common}
use Rattle.refusal.proofs.Numbered.{positive}
use Rattle.macm.specs.declared.Form.{Form}
use Rattle.macm.specs.declared.Form.TheVariants.{New, Old}
use Rattle.macm.specs.Form.{new_sync, old_sync, count_at, size}
use Rattle.macm.specs.Check.{agrees, verdict}
use Rattle.macm.specs.Answers.{check_number}
use Rattle.macm.proofs.CheckSteps.{Fine, fine, five, is_new, is_old, is_neither}
use Rattle.macm.proofs.CheckSound.{sound}
use Rattle.front.specs.declared.Claim.{Claim}
use Rattle.front.specs.declared.Claim.TheVariants.{Nothing, AtLeast, Long}
use Rattle.front.specs.Claim.{cap, counted, claim_by, claim}
use Rattle.front.specs.Look.{unsettled, gap, message, judged, look_by, look}
use Rattle.front.proofs.Settled.{keep_fit, fit_append}
use Rattle.front.proofs.Bounds.{ClaimFact, claim_fact}
use Rattle.refusal.specs.declared.Refusal.{Refusal}

-- a string that is no longer than the first n bytes fits them as it fits all
fit_front : (t xs : List ℕ) (n : ℕ) → length t ≤ n → n ≤ length xs → fit t (take n xs) ≡ fit t xs
fit_front t xs n l m = go (fit t (take n xs)) (fit_common t (take n xs)) (rw take-append-drop at (fit_append t (take n xs) (drop n xs)))
  where
    go : (f : Fit) → Fits t (take n xs) f → fit t xs ≡ keep_fit f (fit t xs) → f ≡ fit t xs
    go Whole h e = sym e
    go Part h e = absurd (omega (arith, h.1, length-take-le n xs m))
    go Bad h e = sym e

module _ (xs : List ℕ) (n : ℕ) (here : n ≤ length xs) where
  m : List ℕ
  m = take n xs

  m_long : length m ≡ n
  unfolding m
  m_long = length-take-le n xs here

  at_front : (i : ℕ) → i < n → get_or m i 0 ≡ get_or xs i 0
  unfolding m
  at_front i l = get_or-take n xs i 0 l

  -- ---- what stands there is accepted
  counted_fine : (f g : Form) → count_at g ≡ count_at f → 5 ≤ count_at f → count_at f ≤ 6 → 15 ≤ n → counted f xs ≡ Long n
      → (get_or m (count_at g) 0 ≡ get_or xs (count_at f) 0) × (length m ≡ size g (get_or xs (count_at f) 0))
  unfolding counted
  counted_fine f g same low high long e = go (ltb (count_at f) (length xs)) (leb (get_or xs (count_at f) 0) cap) e
    where
      N : ℕ
      N = get_or xs (count_at f) 0

      go : (t u : Bool) → cond t (cond u (Long (size f N)) Nothing) (AtLeast (suc (count_at f))) ≡ Long n → (get_or m (count_at g) 0 ≡ N) × (length m ≡ size g N)
      go true true z =
          let y : size f N ≡ n = cc in
          (ap (λ k. get_or m k 0) same ∙ at_front (count_at f) (omega arith), omega (arith, m_long))
      go true false z = absurd (let y : ◌≡◌ {A = ℕ} 0 1 = cc in omega arith)
      go false u z = absurd (let y : ◌≡◌ {A = ℕ} 0 1 = cc in omega arith)

  claim_fine : 15 ≤ n → claim xs ≡ Long n → agrees m ≡ true → (f : Form) × (k : ℕ) × Fine m f k
  unfolding claim claim_by m
  claim_fine long e a = go (fit new_sync xs) (fit old_sync xs) (fit_front new_sync xs n (omega arith) here) (fit_front old_sync xs n (omega arith) here) e
    where
      go : (p q : Fit) → fit new_sync (take n xs) ≡ p → fit old_sync (take n xs) ≡ q → claim_by p q xs ≡ Long n → (f : Form) × (k : ℕ) × Fine (take n xs) f k
      go Whole q x y e =
          let g = New (get_or (take n xs) 4 0) (get_or (take n xs) 5 0) in
          let c = counted_fine (New 0 0) g refl (omega arith) (omega arith) long e in
          (g, get_or xs 6 0, record { form = sym (is_new (take n xs) (ap is_whole x)); count = c.0; long = c.1; agree = a })
      go Part q x y e = absurd (let z : ◌≡◌ {A = ℕ} 0 1 = cc in omega arith)
      go Bad Whole x y e =
          let g = Old (get_or (take n xs) 4 0) in
          let c = counted_fine (Old 0) g refl (omega arith) (omega arith) long e in
          (g, get_or xs 5 0, record { form = sym (is_old (take n xs) (ap is_whole x) (ap is_whole y)); count = c.0; long = c.1; agree = a })
      go Bad Part x y e = absurd (let z : ◌≡◌ {A = ℕ} 0 1 = cc in omega arith)
      go Bad Bad x y e = absurd (let z : ◌≡◌ {A = ℕ} 0 1 = cc in omega arith)

pub message_checked : (xs : List ℕ) (n : ℕ) → look xs ≡ message n → check_number (verdict (take n xs)) ≡ 0
unfolding look look_by judged m
message_checked xs n = go (claim xs) refl (claim_fact xs)
  where
    accepted : (f : Form) × (k : ℕ) × Fine (take n xs) f k → check_number (verdict (take n xs)) ≡ 0
    accepted h = ap check_number (sound (take n xs) h.0 h.1 h.2)

    go : (c : Claim) → claim xs ≡ c → ClaimFact xs c → look_by c xs ≡ message n → check_number (verdict (take n xs)) ≡ 0
    go Nothing p h e = absurd (let z : ◌≡◌ {A = ℕ} 0 1 = cc in omega arith)
    go (AtLeast k) p h e = absurd (let z : ◌≡◌ {A = ℕ} 0 1 = cc in omega arith)
    go (Long k) p h e = test (leb k (length xs)) refl (agrees (take k xs)) refl e
      where
        test : (t : Bool) → leb k (length xs) ≡ t → (u : Bool) → agrees (take k xs) ≡ u → cond t (cond u (message k) gap) unsettled ≡ message n → check_number (verdict (take n xs)) ≡ 0
        test true l true a e =
            let z : k ≡ n = cc in
            accepted (claim_fine xs n (rw z at (leb-true k (length xs) l)) (omega (arith, h.0)) (rw z at p) (rw z at a))
        test true l false a e = absurd (let z : ◌≡◌ {A = ℕ} 0 1 = cc in omega arith)
        test false l u a e = absurd (let z : ◌≡◌ {A = ℕ} 0 1 = cc in omega arith)

-- ---- and what is accepted stands there
module _ (xs : List ℕ) (n : ℕ) (here : n ≤ length xs) (bytes : Bytes xs) where
  fine_counted : (f g : Form) (k : ℕ) → count_at g ≡ count_at f → 5 ≤ count_at f → count_at f ≤ 6 → Fine (take n xs) g k → counted f xs ≡ Long n
  unfolding counted
  fine_counted f g k same low high h =
      let l : length (take n xs) ≡ n = length-take-le n xs here in
      let e : get_or xs (count_at f) 0 ≡ k = sym (get_or-take n xs (count_at f) 0 (omega (arith, h.long))) ∙ ap (λ i. get_or (take n xs) i 0) (sym same) ∙ h.count in
      let s : size f k ≡ n = omega (arith, h.long) in
      rw (lt-ltb (count_at f) (length xs) (omega (arith, h.long)), le-leb (get_or xs (count_at f) 0) cap (omega (arith, bytes (count_at f))), e, s)

  fine_look : claim xs ≡ Long n → agrees (take n xs) ≡ true → look xs ≡ message n
  unfolding look look_by judged
  fine_look e a = rw (e, le-leb n (length xs) here, a)

  fine_claim : (f : Form) (k : ℕ) → Fine (take n xs) f k → claim xs ≡ Long n
  unfolding claim claim_by
  fine_claim f k h = go (fit new_sync xs) (fit old_sync xs) (fit_front new_sync xs n four here) (fit_front old_sync xs n four here)
    where
      four : 4 ≤ n
      four = omega (arith, h.long, five f, length-take-le n xs here)

      go : (p q : Fit) → fit new_sync (take n xs) ≡ p → fit old_sync (take n xs) ≡ q → claim_by p q xs ≡ Long n
      go Whole q x y =
          let z = is_new (take n xs) (ap is_whole x) ∙ h.form in
          let e : New (get_or (take n xs) 4 0) (get_or (take n xs) 5 0) ≡ f = cc in
          fine_counted (New 0 0) _ k refl (omega arith) (omega arith) (rw (← e) at h)
      go Part q x y = absurd (let z : Fits new_sync (take n xs) Part = rw x at (fit_common new_sync (take n xs)) in omega (arith, z.1, length-take-le n xs here))
      go Bad Whole x y =
          let z = is_old (take n xs) (ap is_whole x) (ap is_whole y) ∙ h.form in
          let e : Old (get_or (take n xs) 4 0) ≡ f = cc in
          fine_counted (Old 0) _ k refl (omega arith) (omega arith) (rw (← e) at h)
      go Bad Part x y = absurd (let z : Fits old_sync (take n xs) Part = rw y at (fit_common old_sync (take n xs)) in omega (arith, z.1, length-take-le n xs here))
      go Bad Bad x y = absurd (let z = is_neither (take n xs) (ap is_whole x) (ap is_whole y) ∙ h.form in let y : ◌≡◌ {A = ℕ} 0 1 = cc in omega arith)

pub checked_message : (xs : List ℕ) (n : ℕ) → Bytes xs → n ≤ length xs → check_number (verdict (take n xs)) ≡ 0 → look xs ≡ message n
checked_message xs n bytes here = go (verdict (take n xs)) refl
  where
    go : (v : Result (Form × ℕ) Refusal) → verdict (take n xs) ≡ v → check_number v ≡ 0 → look xs ≡ message n
    go (Err r) e z = absurd (omega (arith, positive r))
    go (Ok (f, k)) e z = let h = fine (take n xs) f k e in fine_look xs n here bytes (fine_claim xs n here bytes f k h) h.agree
