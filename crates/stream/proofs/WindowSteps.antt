-- Bytes that move: appended, shifted, cleared, copied; and what is handed over and taken by them. Assumes nothing.
use Prim.Native.Nat.{ℕ, ◌+◌, ◌-◌, ◌≤◌, ◌<◌}
use mathlib.Core.Path.{◌≡◌, sym, ap, ◌∙◌}
use mathlib.Core.List.{List, [], ◌++◌, append_assoc, append-nil}
use native.Mathlib.Nat.{zero-add}
use native.Mathlib.Numerals.{add-one}
use native.Mathlib.Omega.{arith}
use lib.ListN.{length, get_or, set, take, drop, replicate, length-append, length-drop, drop_of_length-le}
use lib.Seq.{paste, paste-suc, take-paste, length-paste, length_paste_head, length-take-le, take-length, take_all, take-take, take-append-le, drop-drop, get_or-append-add, get_or-drop}
use Rattle.octets.specs.Parts.{over}
use Rattle.octets.proofs.Parts.{drop_take}
use Rattle.front.specs.Look.{need}
use Rattle.front.proofs.Bounds.{need_most}
use Rattle.stream.specs.Reader.{laid}
use Rattle.stream.specs.Steps.{Pulled}

-- ---- a part that goes to the end
pub tail : (b : List ℕ) (at : ℕ) → take (length b - at) (drop at b) ≡ drop at b
tail b at = take_all (length b - at) (drop at b) (omega (arith, length-drop at b))

nothing_behind : (b : List ℕ) (at : ℕ) → drop (length b - at) (drop at b) ≡ []
nothing_behind b at = drop_of_length-le (drop at b) {i = length b - at} (omega (arith, length-drop at b))

appended : (p b w : List ℕ) (at : ℕ) → w ≡ over p (take (length b - at) (drop at b)) → take at b ++ (w ++ drop (length b - at) (drop at b)) ≡ paste b at p (length p)
appended p b w at e =
    let z : w ≡ p ++ drop (at + length p) b = e ∙ ap (over p) (tail b at) ∙ ap (λ r. p ++ r) (drop-drop (length p) at b) in
    ap (λ r. take at b ++ (w ++ r)) (nothing_behind b at) ∙ ap (λ r. take at b ++ r) (append-nil w ∙ z ∙ ap (λ r. r ++ drop (at + length p) b) (sym (take-length p))) ∙ sym (append_assoc (take at b) (take (length p) p) (drop (at + length p) b))

pub cleared : (b w : List ℕ) (from : ℕ) → from ≤ length b → w ≡ replicate (length (take (length b - from) (drop from b))) 0
    → take from b ++ (w ++ drop (length b - from) (drop from b)) ≡ take from b ++ replicate (length b - from) 0
cleared b w from l e =
    let z : w ≡ replicate (length b - from) 0 = e ∙ ap (λ r. replicate (length r) 0) (tail b from) ∙ ap (λ n. replicate n 0) (length-drop from b) in
    ap (λ r. take from b ++ (w ++ r)) (nothing_behind b from) ∙ ap (λ r. take from b ++ r) (append-nil w ∙ z)

-- ---- a shift reads each byte before it is written over
shift_read : (d : List ℕ) (from i : ℕ) → from + i < length d → get_or (paste d 0 (drop from d) i) (from + i) 0 ≡ get_or (drop from d) i 0
shift_read d from i l =
    let h : length (take 0 d ++ take i (drop from d)) ≡ i = length_paste_head d 0 (drop from d) i (omega arith) (omega (arith, length-drop from d)) ∙ zero-add i in
    let e : from + i ≡ length (take 0 d ++ take i (drop from d)) + from = omega arith in
    let z : 0 + i + from ≡ from + i = omega arith in
    rw e (get_or-append-add (take 0 d ++ take i (drop from d)) (drop (0 + i) d) from 0 ∙ get_or-drop (0 + i) d from 0 ∙ rw (z, get_or-drop))

pub shift_turn : (w₀ w : List ℕ) (from n i : ℕ) → from + n ≤ length w₀ → i < n → w ≡ paste w₀ 0 (drop from w₀) i → set w i (get_or w (from + i) 0) ≡ paste w₀ 0 (drop from w₀) (i + 1)
shift_turn w₀ w from n i r l e =
    rw (e, shift_read w₀ from i (omega arith), add-one)
    (ap (λ j. set (paste w₀ 0 (drop from w₀) i) j (get_or (drop from w₀) i 0)) (sym (zero-add i))
    ∙ paste-suc w₀ 0 (drop from w₀) i 0 (omega arith) (omega (arith, length-drop from w₀)))

-- ---- bytes shifted to the front
module _ (from n : ℕ) (w w₁ : List ℕ) (fits : from + n ≤ length w) (e : w₁ ≡ paste w 0 (drop from w) n) where
  pub shift_front : take n w₁ ≡ take n (drop from w)
  shift_front = ap (take n) e ∙ ap (λ i. take i (paste w 0 (drop from w) n)) (sym (zero-add n)) ∙ take-paste w 0 (drop from w) n (omega arith) (omega (arith, length-drop from w))

  pub shift_same : length w₁ ≡ length w
  shift_same = ap length e ∙ length-paste w 0 (drop from w) n (omega arith) (omega (arith, length-drop from w))

-- ---- bytes at the front, zeros behind them
pub laid_take : (h : ℕ) (w w₁ w₂ : List ℕ) → h ≤ length w₁ → length w₁ ≡ length w → w₂ ≡ take h w₁ ++ replicate (length w₁ - h) 0 → w₂ ≡ laid (take h w₁) w
unfolding laid
laid_take h w w₁ w₂ l e v = v ∙ rw (length-take-le h w₁ l, e)

-- ---- bytes copied over the front of a buffer
pub part_long : (from to : ℕ) (bytes : List ℕ) → from ≤ to → to ≤ length bytes → length (take (to - from) (drop from bytes)) ≡ to - from
part_long from to bytes a b = length-take-le (to - from) (drop from bytes) (omega (arith, length-drop from bytes))

module _ (from to : ℕ) (bytes t t' : List ℕ) (fits : (from ≤ to) × (to ≤ length bytes) × (to - from ≤ length t)) (e : t' ≡ over (take (to - from) (drop from bytes)) t) where
  pub copied_front : take (to - from) t' ≡ take (to - from) (drop from bytes)
  copied_front =
      let xs : List ℕ = take (to - from) (drop from bytes) in
      let l : length xs ≡ to - from = part_long from to bytes fits.0 fits.1 in
      ap (take (to - from)) e ∙ ap (λ i. take i (over xs t)) (sym l) ∙ take-append-le (length xs) xs (drop (length xs) t) (omega arith) ∙ take-length xs

  pub copied_same : length t' ≡ length t
  copied_same =
      let xs : List ℕ = take (to - from) (drop from bytes) in
      omega (arith, ap length e, length-append xs (drop (length xs) t), length-drop (length xs) t, part_long from to bytes fits.0 fits.1)

-- ---- a message handed over: the bytes from a to h, whichever way they are cut
pub middle : (a h : ℕ) (w : List ℕ) → a ≤ h → drop a (take h w) ≡ take (h - a) (drop a w)
middle a h w l = let z : a + (h - a) ≡ h = omega arith in ap (λ n. drop a (take n w)) (sym z) ∙ drop_take a (h - a) w

message_part : (k n h : ℕ) (w : List ℕ) → k + n ≤ h → take n (drop k (take h w)) ≡ take (k + n - k) (drop k w)
message_part k n h w l =
    let z : k + n - k ≡ n = omega arith in
    ap (take n) (middle k h w (omega arith)) ∙ take-take n (h - k) (drop k w) (omega arith) ∙ rw z

-- a message of n bytes, k bytes on in the bytes xs, stands at the front of the output, and the h bytes behind it at the front of the window
pub record Gave (k n : ℕ) (xs w o : List ℕ) (h : ℕ) (w' o' : List ℕ) : Type 0 where
  pub count : h ≡ length xs - (k + n)
  pub window : take h w' ≡ drop n (drop k xs)
  pub same : length w' ≡ length w
  pub output : o' ≡ over (take n (drop k xs)) o

-- from the window itself
pub gave_held : (k n h : ℕ) (w o o' w₁ : List ℕ) → k + n ≤ h → h ≤ length w
    → o' ≡ over (take (k + n - k) (drop k w)) o
    → w₁ ≡ paste w 0 (drop (k + n) w) (h - (k + n))
    → Gave k n (take h w) w o (h - (k + n)) w₁ o'
gave_held k n h w o o' w₁ inside within p q =
    record {
      count = rw (length-take-le h w within);
      window = shift_front (k + n) (h - (k + n)) w w₁ (omega arith) q ∙ sym (drop-drop n k (take h w) ∙ middle (k + n) h w inside);
      same = shift_same (k + n) (h - (k + n)) w w₁ (omega arith) q;
      output = p ∙ ap (λ l. over l o) (sym (message_part k n h w inside));
    }

-- from a piece
pub gave_piece : (k n e : ℕ) (q w o w' o' : List ℕ) → (k + n ≤ e) × (e ≤ length q) × (e - (k + n) ≤ length w)
    → o' ≡ over (take (k + n - k) (drop k q)) o
    → w' ≡ over (take (e - (k + n)) (drop (k + n) q)) w
    → Gave k n (take e q) w o (e - (k + n)) w' o'
gave_piece k n e q w o w' o' fits p r =
    record {
      count = rw (length-take-le e q fits.1);
      window = copied_front (k + n) e q w w' fits r ∙ sym (drop-drop n k (take e q) ∙ middle (k + n) e q fits.0);
      same = copied_same (k + n) e q w w' fits r;
      output = p ∙ ap (λ l. over l o) (sym (message_part k n e q fits.0));
    }

-- ---- the bytes at an unsettled position go to the front, and bytes of the piece behind them
module _ (from n t : ℕ) (w p w₁ : List ℕ) (fits : (from + n ≤ length w) × (6136 ≤ length w) × (n < need (take n (drop from w))) × (t ≤ length p)) (e : w₁ ≡ paste w 0 (drop from w) n) where
  front : take n w₁ ≡ take n (drop from w)
  front = shift_front from n w w₁ fits.0 e

  pub pull_fits : n ≤ length w₁
  pull_fits = omega (arith, shift_same from n w w₁ fits.0 e)

  pub pull_open : length (take n w₁) < need (take n w₁)
  pull_open = rw (length-take-le n w₁ pull_fits, front) fits.2

  module _ (c : ℕ) (h : (length (take n w₁) + c ≤ need (take n w₁)) × (c ≤ length p - t) × (c ≡ 0 → length p - t ≡ 0)) where
    few : n + c ≤ need (take n (drop from w))
    few = rw (length-take-le n w₁ pull_fits, front) at h.0

    room : n + c ≤ length w₁
    room = omega (arith, few, need_most (take n (drop from w)), shift_same from n w w₁ fits.0 e)

    pub pull_part : length (take (t + c - t) (drop t p)) ≤ length (take (length w₁ - n) (drop n w₁))
    pull_part = omega (arith, part_long t (t + c) p (omega arith) (omega (arith, h.1)), room, ap length (tail w₁ n), length-drop n w₁)

    pub pulled : (w₂ : List ℕ) → w₂ ≡ over (take (t + c - t) (drop t p)) (take (length w₁ - n) (drop n w₁)) → Pulled n (take n (drop from w)) w (drop t p) c (take n w₁ ++ (w₂ ++ drop (length w₁ - n) (drop n w₁)))
    pulled w₂ f =
        let xs : List ℕ = take c (drop t p) in
        let z : t + c - t ≡ c = omega arith in
        let long : length xs ≡ c = length-take-le c (drop t p) (omega (arith, h.1, length-drop t p)) in
        let put = appended xs w₁ w₂ n (rw z at f) in
        record {
          bytes = ap (take (n + c)) put ∙ ap (λ i. take (n + i) (paste w₁ n xs (length xs))) (sym long) ∙ take-paste w₁ n xs (length xs) pull_fits (omega arith) ∙ rw (front, take-length xs);
          same = ap length put ∙ length-paste w₁ n xs (length xs) (omega (arith, room)) (omega arith) ∙ shift_same from n w w₁ fits.0 e;
          within = omega (arith, h.1, length-drop t p);
          fewest = few;
          all = λ y. length-drop t p ∙ h.2 y;
        }
