-- A decimal number in parts: what stands before its last k digits, and these; and digits set one by one. Assumes nothing.
use Prim.Native.Nat.{ℕ, zero, suc, ◌+◌, ◌*◌, ◌/◌, ◌%◌, ◌^◌, ◌≤◌, ◌<◌}
use mathlib.Core.Path.{◌≡◌, refl, sym, ap, ap₂, ◌∙◌}
use mathlib.Core.Bool.{Bool, true, false, cond}
use mathlib.Core.List.{[], ◌∷◌, ◌++◌, append-nil, append_assoc}
use native.Mathlib.Omega.{arith}
use native.Mathlib.Nat.{zero-add, suc-add, pow-suc, mul_comm, mod-lt, mod-eq_of_lt, div-div-eq-div-mul, div-lt_iff_lt-mul}
use borrow.Author.Tests.{lt-ltb}
use lib.Dec.{ltb}
use lib.Arith.{mod-mul}
use lib.ListN.{length, set, length-set}
use Rattle.text.specs.Digits.{digit_of, digits, needed, decimal}
use Rattle.text.specs.declared.Text.{Text}
use Rattle.text.specs.Put.{appended}
use Rattle.text.proofs.PutLaws.{moved, appended_one, appended_join}
use Rattle.text.proofs.Spelling.{digit_ten, needed_last, needed_more, tenth_fits}

ten_pos : (k : ℕ) → 0 < 10 ^ k
ten_pos zero = omega arith
ten_pos (suc k) = let h = ten_pos k in rw (pow-suc 10 k) (omega (arith, h))

-- a number without its last digit and then without k more
tenth : (k n : ℕ) → n / 10 / 10 ^ k ≡ n / 10 ^ suc k
tenth k n = div-div-eq-div-mul n 10 (10 ^ k) ∙ ap (λ m. n / m) (mul_comm 10 (10 ^ k) ∙ sym (pow-suc 10 k))

digits_split : (j k n : ℕ) → digits 10 (k + j) n ≡ digits 10 j (n / 10 ^ k) ++ digits 10 k n
unfolding digits
digits_split j zero n = let z : n / 1 ≡ n = omega arith in rw (zero-add j, z) (sym (append-nil (digits 10 j n)))
digits_split j (suc k) n =
    let d = digit_of (n % 10) ∷ [] in
    ap (λ m. digits 10 m n) (suc-add k j) ∙ ap (λ r. r ++ d) (digits_split j k (n / 10) ∙ ap (λ m. digits 10 j m ++ digits 10 k (n / 10)) (tenth k n))
    ∙ append_assoc (digits 10 j (n / 10 ^ suc k)) (digits 10 k (n / 10)) d

-- the last k digits are those of what is left behind 10 ^ k
digits_rest : (k n : ℕ) → digits 10 k (n % 10 ^ k) ≡ digits 10 k n
unfolding digits
digits_rest zero n = refl
digits_rest (suc k) n =
    let m : n % 10 ^ suc k ≡ n / 10 % 10 ^ k * 10 + n % 10 = ap (λ x. n % x) (pow-suc 10 k) ∙ mod-mul n (ten_pos k) (omega arith) in
    let q : n % 10 ^ suc k / 10 ≡ n / 10 % 10 ^ k = omega (arith, m) in
    let r : n % 10 ^ suc k % 10 ≡ n % 10 = omega (arith, m) in
    ap₂ (λ x y. digits 10 k x ++ (digit_of y ∷ [])) q r ∙ ap (λ x. x ++ (digit_of (n % 10) ∷ [])) (digits_rest k (n / 10))

-- how many digits a number needs does not hang on how many it may have
needed_same : (k n : ℕ) → n < 10 ^ suc k → needed (suc (suc k)) n ≡ needed (suc k) n
unfolding needed
needed_same zero n h = rw (lt-ltb n 10 (omega arith))
needed_same (suc k) n h = go (ltb n 10) (needed_same k (n / 10) (tenth_fits (suc k) n h))
  where
    go : (b : Bool) → needed (suc (suc k)) (n / 10) ≡ needed (suc k) (n / 10) → cond b 1 (suc (needed (suc (suc k)) (n / 10))) ≡ cond b 1 (suc (needed (suc k) (n / 10)))
    go true e = refl
    go false e = ap suc e

tenth_least : (k n : ℕ) → 10 ^ suc k ≤ n → 10 ^ k ≤ n / 10
tenth_least k n h =
    let p : 10 ^ k * 10 ≤ n = rw (← (pow-suc 10 k)) h in
    omega arith

needed_split : (k n : ℕ) → n < 10 ^ 20 → 10 ^ k ≤ n → needed 20 n ≡ k + needed 20 (n / 10 ^ k)
needed_split zero n h l =
    let z : n / 1 ≡ n = omega arith in
    let e : needed 20 (n / 1) ≡ needed 20 n = ap (needed 20) z in
    omega (arith, e)
needed_split (suc k) n h l =
    let t = tenth_least k n l in
    let one = ten_pos k in
    let m : 10 ≤ n = omega (arith, t, one) in
    needed_more 19 n m ∙ ap suc (sym (needed_same 18 (n / 10) (tenth_fits 19 n h)) ∙ needed_split k (n / 10) (omega arith) t) ∙ ap (λ x. suc (k + needed 20 x)) (tenth k n) ∙ sym (suc-add k (needed 20 (n / 10 ^ suc k)))

pub decimal_split : (k n : ℕ) → n < 10 ^ 20 → 10 ^ k ≤ n → decimal n ≡ decimal (n / 10 ^ k) ++ digits 10 k (n % 10 ^ k)
decimal_split k n h l =
    ap (λ j. digits 10 j n) (needed_split k n h l) ∙ digits_split (needed 20 (n / 10 ^ k)) k n ∙ ap (λ r. decimal (n / 10 ^ k) ++ r) (sym (digits_rest k n))

-- by two digits and two more
pub decimal_pairs : (n : ℕ) → n < 10 ^ 20 → 10000 ≤ n → decimal n ≡ (decimal (n / 10000) ++ digits 10 2 (n / 100 % 100)) ++ digits 10 2 (n % 100)
decimal_pairs n h l =
    decimal_split 2 n h (omega arith)
    ∙ ap (λ r. r ++ digits 10 2 (n % 100)) (decimal_split 2 (n / 100) (omega arith) (omega arith) ∙ ap (λ m. decimal m ++ digits 10 2 (n / 100 % 100)) (div-div-eq-div-mul n 100 100))

-- a number of just k + 1 digits, and of one
pub needed_exact : (k n : ℕ) → n < 10 ^ 20 → 10 ^ k ≤ n → n < 10 * 10 ^ k → k + 1 ≡ needed 20 n
needed_exact k n h l f = sym (needed_split k n h l ∙ ap (λ j. k + j) (needed_last 19 (n / 10 ^ k) ((div-lt_iff_lt-mul (ten_pos k)).1 f)))

pub needed_one : (n : ℕ) → n ≡ 0 → 1 ≡ needed 20 n
needed_one n z = sym (needed_last 19 n (omega arith))

pub decimal_exact : (k n : ℕ) → n < 10 ^ 20 → 10 ^ k ≤ n → n < 10 * 10 ^ k → decimal n ≡ digits 10 (suc k) n
decimal_exact k n h l f =
    let e : needed 20 n ≡ suc k = sym (needed_exact k n h l f) ∙ omega arith in
    ap (λ j. digits 10 j n) e

-- of one digit
pub decimal_digit : (n : ℕ) → n < 10 → decimal n ≡ (48 + n) ∷ []
unfolding digits
decimal_digit n h =
    ap (λ j. digits 10 j n) (needed_last 19 n h) ∙ ap (λ d. digit_of d ∷ []) (mod-eq_of_lt h) ∙ ap (λ b. b ∷ []) (sym (digit_ten n h))

-- two digits set one behind the other
pub pair_set : (text : Text) (n : ℕ) → text.at + 2 ≤ length text.buffer.now → n < 100
    → moved text (set (set text.buffer.now text.at (48 + n / 10)) (text.at + 1) (48 + n % 10)) (text.at + 2) ≡ appended (digits 10 2 n) text
unfolding digits
pair_set text n h l =
    let t = 48 + n / 10 in
    let u = 48 + n % 10 in
    let r : n / 10 % 10 ≡ n / 10 = mod-eq_of_lt (omega arith) in
    let high : t ≡ digit_of (n / 10 % 10) = digit_ten (n / 10) (omega arith) ∙ ap digit_of (sym r) in
    let low : u ≡ digit_of (n % 10) = digit_ten (n % 10) (mod-lt n (omega arith)) in
    let z : text.at + 2 ≡ text.at + 1 + 1 = omega arith in
    let first = moved text (set text.buffer.now text.at t) (text.at + 1) in
    rw (z, ← high, ← low) (appended_one first u (simp length-set (omega arith)) ∙ ap (appended (u ∷ [])) (appended_one text t (omega arith)) ∙ appended_join (t ∷ []) (u ∷ []) text)
