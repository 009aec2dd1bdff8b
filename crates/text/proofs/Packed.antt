-- Eight digits at once: what each step of `text::packed_digits` comes to, place by place of the word. Assumes nothing.
use Prim.Native.Nat.{ℕ, zero, suc, ◌+◌, ◌-◌, ◌*◌, ◌/◌, ◌%◌, ◌^◌, ◌≤◌, ◌<◌}
use mathlib.Core.Path.{◌≡◌, refl, sym, ap, ap₂, ◌∙◌}
use mathlib.Core.List.{[], ◌∷◌, ◌++◌}
use native.Mathlib.Omega.{arith}
use native.Mathlib.Nat.{mod-lt, mod-eq_of_lt, add-mul-mod_self_right, div-div-eq-div-mul, lt_of_lt_of_le}
use lib.Bits.{bit_and, and_block, and_mask}
use lib.Pow.{pow_pos, pow_mono, split, mod-mod-pow, ones_lt}
use Rattle.octets.specs.Numbers.{bytes_of}
use Rattle.text.specs.Digits.{digit_of, digits}
use Rattle.text.proofs.Spelling.{digit_ten, pair_low, pair_high}

-- a mask's lowest place keeps the g low bits there, and the rest of the mask meets the rest of the word
masked : (j g y e : ℕ) → bit_and y (e * 2 ^ (j + g) + (2 ^ g - 1)) ≡ bit_and (y / 2 ^ (j + g)) e * 2 ^ (j + g) + y % 2 ^ g
masked j g y e =
    let w = j + g in
    let l : g ≤ w = omega arith in
    ap (λ m. bit_and m (e * 2 ^ w + (2 ^ g - 1))) (sym (split y w))
    ∙ and_block w (y / 2 ^ w) e (y % 2 ^ w) (2 ^ g - 1) (mod-lt y (pow_pos w)) (lt_of_lt_of_le (ones_lt g) (pow_mono l))
    ∙ ap (λ m. bit_and (y / 2 ^ w) e * 2 ^ w + m) (and_mask (y % 2 ^ w) g ∙ mod-mod-pow y j g)

-- ---- the steps
abbrev pub fours : ℕ → ℕ
fours n = n + n / 10000 * 0xFFFFD8F0

abbrev pub hundreds : ℕ → ℕ
hundreds n = bit_and (fours n * 5243 / 524288) 0x7F0000007F

abbrev pub pairs : ℕ → ℕ
pairs n = fours n + hundreds n * 65436

abbrev pub tens : ℕ → ℕ
tens n = bit_and (pairs n * 103 / 1024) 0xF000F000F000F

abbrev pub ones : ℕ → ℕ
ones n = pairs n + tens n * 246

-- ---- two numbers of four digits, and their hundreds
abbrev two_places : ℕ → ℕ → ℕ
two_places x y = x * 0x100000000 + y

fours_are : (n : ℕ) → fours n ≡ two_places (n / 10000) (n % 10000)
fours_are n = omega arith

by_hundred : (x y : ℕ) → x < 10000 → y < 10000 → bit_and (two_places x y * 5243 / 524288) 0x7F0000007F ≡ two_places (x / 100) (y / 100)
by_hundred x y h k =
    let z = two_places x y * 5243 / 524288 in
    let e : z ≡ x * 42950656 + y * 5243 / 524288 = omega arith in
    let q : y * 5243 / 524288 ≡ y / 100 = omega arith in
    let p : x * 5243 / 524288 ≡ x / 100 = omega arith in
    let high : z / 0x100000000 ≡ x / 100 = omega (arith, e, q, p) in
    let few : y / 100 + x * 335552 * 128 ≡ z = omega (arith, e, q) in
    let low : z % 128 ≡ y / 100 = sym (ap (λ m. m % 128) few) ∙ add-mul-mod_self_right (y / 100) (x * 335552) 128 ∙ mod-eq_of_lt (omega arith) in
    masked 25 7 z 127 ∙ ap₂ two_places (and_mask (z / 0x100000000) 7 ∙ ap (λ m. m % 128) high ∙ mod-eq_of_lt (omega arith)) low

hundreds_are : (n : ℕ) → n < 100000000 → hundreds n ≡ two_places (n / 10000 / 100) (n % 10000 / 100)
hundreds_are n h = ap (λ m. bit_and (m * 5243 / 524288) 0x7F0000007F) (fours_are n) ∙ by_hundred (n / 10000) (n % 10000) (omega arith) (omega arith)

-- ---- four of two digits, and their tens
abbrev place : ℕ → ℕ → ℕ
place r x = r * 65536 + x

pairs_are : (n : ℕ) → n < 100000000 → pairs n ≡ place (place (place (n / 1000000) (n / 10000 % 100)) (n / 100 % 100)) (n % 100)
pairs_are n h =
    let f = fours_are n in
    let e = hundreds_are n h in
    let a = div-div-eq-div-mul n 10000 100 in
    let c = pair_high 100 n (omega arith) in
    let d = pair_low 100 n (omega arith) in
    let x : n / 10000 ≡ n / 10000 / 100 * 100 + n / 10000 % 100 = omega arith in
    let y : n % 10000 ≡ n % 10000 / 100 * 100 + n % 10000 % 100 = omega arith in
    omega (arith, f, e, a, c, d, x, y)

by_ten : (r x m : ℕ) → x < 100 → bit_and (place r x * 103 / 1024) (m * 65536 + 15) ≡ place (bit_and (r * 103 / 1024) m) (x / 10)
by_ten r x m h =
    let z = place r x * 103 / 1024 in
    let q : x * 103 / 1024 ≡ x / 10 = omega arith in
    let e : z ≡ r * 6592 + x / 10 = omega (arith, q) in
    let high : z / 65536 ≡ r * 103 / 1024 = omega (arith, e) in
    let few : x / 10 + r * 412 * 16 ≡ z = omega (arith, e) in
    let low : z % 16 ≡ x / 10 = sym (ap (λ k. k % 16) few) ∙ add-mul-mod_self_right (x / 10) (r * 412) 16 ∙ mod-eq_of_lt (omega arith) in
    masked 12 4 z m ∙ ap₂ (λ a b. place (bit_and a m) b) high low

tens_are : (n : ℕ) → n < 100000000 → tens n ≡ place (place (place (n / 1000000 / 10) (n / 10000 % 100 / 10)) (n / 100 % 100 / 10)) (n % 100 / 10)
tens_are n h =
    let a = n / 1000000 in
    let b = n / 10000 % 100 in
    let c = n / 100 % 100 in
    let d = n % 100 in
    let l : a < 100 = omega arith in
    let q : a * 103 / 1024 ≡ a / 10 = omega arith in
    let top : bit_and (a * 103 / 1024) 15 ≡ a / 10 = and_mask (a * 103 / 1024) 4 ∙ ap (λ m. m % 16) q ∙ mod-eq_of_lt (omega arith) in
    ap (λ w. bit_and (w * 103 / 1024) 0xF000F000F000F) (pairs_are n h)
    ∙ by_ten (place (place a b) c) d 0xF000F000F (omega arith)
    ∙ ap (λ w. place w (d / 10)) (by_ten (place a b) c 0xF000F (omega arith))
    ∙ ap (λ w. place (place w (c / 10)) (d / 10)) (by_ten a b 15 (omega arith))
    ∙ ap (λ w. place (place (place w (b / 10)) (c / 10)) (d / 10)) top

-- ---- the digits as bytes of a word
unfoldable spelled : ℕ → ℕ → ℕ
spelled zero n = 0
spelled (suc k) n = spelled k (n / 10) * 256 + (48 + n % 10)

spelled_bytes : (k n : ℕ) → bytes_of k (spelled k n) ≡ digits 10 k n
unfolding bytes_of digits spelled
spelled_bytes zero n = refl
spelled_bytes (suc k) n =
    let v = spelled k (n / 10) in
    let d = n % 10 in
    let l : d < 10 = mod-lt n (omega arith) in
    let high : (v * 256 + (48 + d)) / 256 ≡ v = omega arith in
    let low : (v * 256 + (48 + d)) % 256 ≡ digit_of d = rw (← (digit_ten d l)) (omega arith) in
    ap₂ (λ w b. bytes_of k w ++ (b ∷ [])) high low ∙ ap (λ s. s ++ (digit_of d ∷ [])) (spelled_bytes k (n / 10))

-- by two digits
abbrev two_bytes : ℕ → ℕ → ℕ
two_bytes x t = x + t * 246 + 0x3030

abbrev pair : ℕ → ℕ
pair x = two_bytes x (x / 10)

spelled_pair : (k n : ℕ) → spelled (suc (suc k)) n ≡ place (spelled k (n / 100)) (pair (n % 100))
unfolding spelled
spelled_pair k n =
    let z : n / 10 / 10 ≡ n / 100 = omega arith in
    let e : spelled k (n / 10 / 10) ≡ spelled k (n / 100) = ap (spelled k) z in
    omega (arith, e)

spelled_packed : (n : ℕ) → n < 100000000 → spelled 8 n ≡ place (place (place (pair (n / 1000000)) (pair (n / 10000 % 100))) (pair (n / 100 % 100))) (pair (n % 100))
unfolding spelled
spelled_packed n h =
    let b = div-div-eq-div-mul n 100 100 in
    let a : n / 100 / 100 / 100 % 100 ≡ n / 1000000 = ap (λ m. m / 100 % 100) b ∙ ap (λ m. m % 100) (div-div-eq-div-mul n 10000 100) ∙ mod-eq_of_lt (omega arith) in
    let first : place (spelled 0 (n / 100 / 100 / 100 / 100)) (pair (n / 100 / 100 / 100 % 100)) ≡ pair (n / 100 / 100 / 100 % 100) = omega arith in
    spelled_pair 6 n
    ∙ ap (λ w. place w (pair (n % 100))) (spelled_pair 4 (n / 100))
    ∙ ap (λ w. place (place w (pair (n / 100 % 100))) (pair (n % 100))) (spelled_pair 2 (n / 100 / 100))
    ∙ ap (λ w. place (place (place w (pair (n / 100 / 100 % 100))) (pair (n / 100 % 100))) (pair (n % 100))) (spelled_pair 0 (n / 100 / 100 / 100) ∙ first)
    ∙ ap₂ (λ x y. place (place (place (pair x) (pair (y % 100))) (pair (n / 100 % 100))) (pair (n % 100))) a b

places_joined : (a b c d p q r s : ℕ)
    → place (place (place a b) c) d + place (place (place p q) r) s * 246 + 0x3030303030303030 ≡ place (place (place (two_bytes a p) (two_bytes b q)) (two_bytes c r)) (two_bytes d s)
places_joined a b c d p q r s = omega arith

pub packed_bytes : (n : ℕ) → n < 100000000 → bytes_of 8 (ones n + 0x3030303030303030) ≡ digits 10 8 n
packed_bytes n h =
    let e : ones n + 0x3030303030303030 ≡ spelled 8 n =
    ap₂ (λ p t. p + t * 246 + 0x3030303030303030) (pairs_are n h) (tens_are n h)
    ∙ places_joined (n / 1000000) (n / 10000 % 100) (n / 100 % 100) (n % 100) (n / 1000000 / 10) (n / 10000 % 100 / 10) (n / 100 % 100 / 10) (n % 100 / 10)
    ∙ sym (spelled_packed n h) in
    ap (bytes_of 8) e ∙ spelled_bytes 8 n
