-- A walk to the end of a slice stops where its division has the first message, so the plain reader's answer is the walk's. Assumes nothing.
use Rattle.std.proofs.Common.{◌≡◌, ℕ, suc, ◌+◌, ◌-◌, ◌<◌, ◌≤◌, Bool, true, false, cond, ltb, leb, List, [], ◌∷◌, length, take, drop, sym, refl, ap, ◌∙◌, ap₂, add-zero, add-suc, suc-add, arith, length-drop, length-take-le, take_all, drop-drop, ltb-false, le-ltb, lt-ltb, leb-true}
use Rattle.std.specs.Prelude.{Result, Ok, Err}
use Rattle.refusal.specs.declared.Refusal.{Refusal}
use Rattle.refusal.specs.declared.Refusal.TheVariants.{PastEnd}
use Rattle.macm.specs.Check.{agrees}
use Rattle.front.specs.declared.Claim.{Claim}
use Rattle.front.specs.declared.Claim.TheVariants.{Nothing, AtLeast, Long}
use Rattle.front.specs.Claim.{claim}
use Rattle.front.specs.Look.{judged, look_by, look}
use Rattle.front.proofs.Bounds.{ClaimFact, claim_fact}
use Rattle.division.specs.declared.Next.{Next}
use Rattle.division.specs.declared.Next.TheVariants.{Message as Given, End}
use Rattle.division.specs.declared.Walked.{Walked}
use Rattle.division.specs.declared.Walked.TheVariants.{Message, Unsettled}
use Rattle.division.specs.Division.{Division, last, part, length_of, stands, divide}
use Rattle.division.specs.Walk.{further, walked_by, walk_of}
use Rattle.division.specs.Plain.{first_of, next_of}
use Rattle.division.proofs.DivideSteps.{divide_nil, divide_gap, divide_message}

-- ---- at the end of the stream, where a walk stops is where the division has its first message
pub record Passed (xs : List ℕ) (at k n : ℕ) : Type 0 where
  pub ahead : ℕ
  pub counted : k ≡ at + ahead
  pub some : 0 < n
  pub within : ahead + n ≤ length xs
  pub is : (g : ℕ) → divide xs g ≡ part (g + ahead) (take n (drop ahead xs)) (divide (drop n (drop ahead xs)) 0)

abbrev pub Ends : List ℕ → ℕ → Walked → Type 0
Ends xs at (Message k n t) = Passed xs at k n
Ends xs at (Unsettled k) = (k ≡ at + length xs) × ((g : ℕ) → divide xs g ≡ last (g + length xs))

-- one gap byte more in front
one_more : (x : ℕ) (xs : List ℕ) (at : ℕ) → stands (x ∷ xs) ≡ 0 → (w : Walked) → Ends xs (suc at) w → Ends (x ∷ xs) at w
one_more x xs at e (Message k n t) h =
    let m = take n (drop h.ahead xs) in
    let d = divide (drop n (drop h.ahead xs)) 0 in
    record {
      ahead = suc h.ahead;
      counted = omega (arith, h.counted);
      some = h.some;
      within = omega (arith, h.within);
      is = λ g. divide_gap x xs g e ∙ h.is (suc g) ∙ ap (λ i. part i m d) (suc-add g h.ahead ∙ sym (add-suc g h.ahead));
    }
one_more x xs at e (Unsettled k) h = (omega (arith, h.0), λ g. divide_gap x xs g e ∙ h.1 (suc g) ∙ ap last (suc-add g (length xs) ∙ sym (add-suc g (length xs))))

pub walk_ends : (xs : List ℕ) (at t : ℕ) → Ends xs at (walk_of true xs at t)
unfolding walk_of walked_by stands length_of look look_by judged
walk_ends [] at t = (omega arith, λ g. divide_nil g ∙ ap last (sym (add-zero g)))
walk_ends (x ∷ xs) at t = go (claim (x ∷ xs)) refl (claim_fact (x ∷ xs)) (walk_ends xs (suc at))
  where
    on : (e : stands (x ∷ xs) ≡ 0) (t : ℕ) → ((t : ℕ) → Ends xs (suc at) (walk_of true xs (suc at) t)) → Ends (x ∷ xs) at (walk_of true xs (suc at) t)
    on e t ih = one_more x xs at e (walk_of true xs (suc at) t) (ih t)

    go : (c : Claim) → claim (x ∷ xs) ≡ c → ClaimFact (x ∷ xs) c → ((t : ℕ) → Ends xs (suc at) (walk_of true xs (suc at) t)) → Ends (x ∷ xs) at (walked_by true c (x ∷ xs) at t (λ u. walk_of true xs (suc at) u))
    go Nothing p h ih = on (rw p) t ih
    go (AtLeast k) p h ih = on (rw p) t ih
    go (Long n) p h ih = test (leb n (length (x ∷ xs))) refl (agrees (take n (x ∷ xs))) refl
      where
        test : (b : Bool) → leb n (length (x ∷ xs)) ≡ b → (a : Bool) → agrees (take n (x ∷ xs)) ≡ a
            → Ends (x ∷ xs) at (cond b (cond a (Message at n (further t (at + n))) (walk_of true xs (suc at) (further t (at + n)))) (walk_of true xs (suc at) t))
        test true q true r =
            record {
              ahead = 0;
              counted = omega arith;
              some = omega (arith, h.0);
              within = omega (arith, leb-true n (length (x ∷ xs)) q);
              is = λ g. divide_message x xs g n (rw (p, q, r)) (omega (arith, h.0)) ∙ ap (λ i. part i (take n (x ∷ xs)) (divide (drop n (x ∷ xs)) 0)) (sym (add-zero g));
            }
        test true q false r = on (rw (p, q, r)) (further t (at + n)) ih
        test false q a r = on (rw (p, q)) t ih

-- in the positions of the whole slice
pub passed_is : (s : List ℕ) (start k n : ℕ) → Passed (drop start s) 0 k n → divide (drop start s) 0 ≡ part k (take n (drop (start + k) s)) (divide (drop (start + k + n) s) 0)
passed_is s start k n f =
    let z : f.ahead ≡ k = omega (arith, f.counted) in
    let a : drop f.ahead (drop start s) ≡ drop (start + k) s = drop-drop f.ahead start s ∙ ap (λ i. drop (start + i) s) z in
    let b : drop n (drop f.ahead (drop start s)) ≡ drop (start + k + n) s = ap (drop n) a ∙ drop-drop n (start + k) s in
    f.is 0 ∙ ap₂ (λ i r. part i (take n r) (divide (drop n r) 0)) (sym f.counted) a ∙ ap (λ r. part k (take n (drop (start + k) s)) (divide r 0)) (sym (ap (drop n) a) ∙ b)

-- ---- so the plain reader's answer is the walk's
module _ (s : List ℕ) (start : ℕ) where
  pub next_past : length s < start → Err PastEnd ≡ next_of s start
  unfolding next_of
  next_past l = rw (lt-ltb (length s) start l)

  module _ (l : start ≤ length s) where
    next_is : (d : Division) → divide (drop start s) 0 ≡ d → Ok (first_of start d) ≡ next_of s start
    unfolding next_of
    next_is d e = rw (le-ltb (length s) start l, e)

    pub next_given : (k n : ℕ) → Passed (drop start s) 0 k n → Ok (Given (start + k) n k) ≡ next_of s start
    next_given k n f =
        let m = take n (drop f.ahead (drop start s)) in
        let z : k ≡ 0 + f.ahead = f.counted in
        let y : n ≡ length m = sym (length-take-le n (drop f.ahead (drop start s)) (omega (arith, f.within, length-drop f.ahead (drop start s)))) in
        ap Ok (ap₂ (λ i j. Given (start + i) j i) z y) ∙ next_is _ (f.is 0)

    pub next_end : (k : ℕ) → Ends (drop start s) 0 (Unsettled k) → Ok (End k) ≡ next_of s start
    next_end k f = ap (λ g. Ok (End g)) f.0 ∙ next_is _ (f.1 0)

-- as the code has it: the walk of `&recording[start..]`
module _ (s : List ℕ) (start : ℕ) (w : Walked) (e : w ≡ walk_of true (take (length s - start) (drop start s)) 0 0) where
  ends : Ends (drop start s) 0 w
  ends =
      let z : w ≡ walk_of true (drop start s) 0 0 = e ∙ ap (λ r. walk_of true r 0 0) (take_all (length s - start) (drop start s) (omega (arith, length-drop start s))) in
      rw z (walk_ends (drop start s) 0 0)

  pub ends_message : (k n t : ℕ) → w ≡ Message k n t → Passed (drop start s) 0 k n
  ends_message k n t q = rw q at ends

  pub ends_unsettled : (k : ℕ) → w ≡ Unsettled k → Ends (drop start s) 0 (Unsettled k)
  ends_unsettled k q = rw q at ends

-- a message that is given stands in the slice
pub given_within : (s : List ℕ) (start p n g : ℕ) (r : Result Next Refusal) → r ≡ next_of s start → r ≡ Ok (Given p n g) → p + n ≤ length s
unfolding next_of
given_within s start p n g r e q = go (ltb (length s) start) refl
  where
    z : next_of s start ≡ Ok (Given p n g)
    z = sym e ∙ q

    go : (b : Bool) → ltb (length s) start ≡ b → p + n ≤ length s
    go true t = absurd (let y : ◌≡◌ {A = Result Next Refusal} (Err PastEnd) (Ok (Given p n g)) = rw t at z in let x : ◌≡◌ {A = ℕ} 0 1 = cc in omega arith)
    go false t = by (walk_of true (drop start s) 0 0) (walk_ends (drop start s) 0 0)
      where
        l : start ≤ length s
        l = ltb-false (length s) start t

        by : (w : Walked) → Ends (drop start s) 0 w → p + n ≤ length s
        by (Message k m u) f =
            let y : ◌≡◌ {A = Result Next Refusal} (Ok (Given (start + k) m k)) (Ok (Given p n g)) = next_given s start l k m f ∙ z in
            let a : start + k ≡ p = cc in
            let b : m ≡ n = cc in
            omega (arith, l, f.within, f.counted, length-drop start s)
        by (Unsettled k) f = absurd (let y : ◌≡◌ {A = Result Next Refusal} (Ok (End k)) (Ok (Given p n g)) = next_end s start l k f ∙ z in let x : ◌≡◌ {A = ℕ} 0 1 = cc in omega arith)
