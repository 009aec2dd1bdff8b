-- Laws of text that is put into a buffer. Assumes nothing.
use Prim.Native.Nat.{ℕ, suc, ◌+◌, ◌≤◌, ◌<◌}
use mathlib.Core.Path.{◌≡◌, refl, sym, ap, ap₂, ◌∙◌}
use mathlib.Core.Bool.{Bool, true, false, cond}
use mathlib.Core.List.{List, [], ◌∷◌, ◌++◌}
use native.Mathlib.Omega.{arith}
use native.Mathlib.Numerals.{add-one}
use native.Mathlib.Nat.{add-zero}
use borrow.Author.Tests.{lt-ltb, le-ltb, ltb-true, ltb-false}
use lib.Dec.{ltb}
use lib.ListN.{length, set, take, drop, length-set, length-append, length-drop, take-append-drop}
use lib.Seq.{set_out, set_at, append_snoc, take-nil, take_all, take_at, length-take-le}
use Rattle.octets.specs.Parts.{over}
use Rattle.text.specs.declared.Text.{Text}
use Rattle.text.specs.Put.{behind, written, after, appended}

-- a text whose buffer holds other bytes, and with another end
abbrev pub moved : Text → List ℕ → ℕ → Text
moved text out at = record { buffer = record text.buffer { now = out }; at = at }

moved_same : (text : Text) {out out' : List ℕ} {at at' : ℕ} → out ≡ out' → at ≡ at' → moved text out at ≡ moved text out' at'
moved_same text p q = ap₂ (moved text) p q

-- the buffer keeps its length
pub length_written : (out : List ℕ) (at : ℕ) (t : List ℕ) → length (written out at t) ≡ length out
unfolding written
length_written out at [] = refl
length_written out at (b ∷ t) = length_written (set out at b) (behind (length out) at) t ∙ length-set out at b

pub length_appended : (t : List ℕ) (text : Text) → length (appended t text).buffer.now ≡ length text.buffer.now
unfolding appended
length_appended t text = length_written text.buffer.now text.at t

-- nothing put
pub appended_none : (text : Text) → text ≡ appended [] text
unfolding written after appended
appended_none text = refl

-- a byte put where there is room for it
pub appended_one : (text : Text) (b : ℕ) → text.at < length text.buffer.now → moved text (set text.buffer.now text.at b) (text.at + 1) ≡ appended (b ∷ []) text
unfolding written after appended
appended_one text b h = moved_same text refl (rw (lt-ltb text.at (length text.buffer.now) h))

-- two texts put one behind the other are their join, put
pub written_join : (out : List ℕ) (at : ℕ) (s t : List ℕ) → written (written out at s) (after (length out) at s) t ≡ written out at (s ++ t)
unfolding written after
written_join out at [] t = refl
written_join out at (b ∷ s) t =
    ap (λ (n : ℕ). written (written (set out at b) (behind (length out) at) s) (after n (behind (length out) at) s) t) (sym (length-set out at b))
    ∙ written_join (set out at b) (behind (length out) at) s t

after_join : (len at : ℕ) (s t : List ℕ) → after len (after len at s) t ≡ after len at (s ++ t)
unfolding after
after_join len at [] t = refl
after_join len at (b ∷ s) t = after_join len (behind len at) s t

pub appended_join : (s t : List ℕ) (text : Text) → appended t (appended s text) ≡ appended (s ++ t) text
unfolding appended
appended_join s t text =
    let out = text.buffer.now in
    moved_same text (written_join out text.at s t) (ap (λ n. after n (after (length out) text.at s) t) (length_written out text.at s) ∙ after_join (length out) text.at s t)

pub ruleset appended_twice = appended_join

-- the place behind a text: where it has room, where it is cut off, and past the end
next_in : (len at : ℕ) → at < len → behind len at ≡ suc at
next_in len at h = rw (lt-ltb at len h) (add-one at)

pub after_room : (len at : ℕ) (t : List ℕ) → at + length t ≤ len → after len at t ≡ at + length t
unfolding after
after_room len at [] h = sym (add-zero at)
after_room len at (b ∷ t) h = rw (next_in len at (omega arith)) (after_room len (suc at) t (omega arith) ∙ omega arith)

pub after_past : (len at : ℕ) (t : List ℕ) → len ≤ at → after len at t ≡ at
unfolding after
after_past len at [] h = refl
after_past len at (b ∷ t) h = rw (le-ltb at len h) (after_past len at t h)

pub after_cut : (len at : ℕ) (t : List ℕ) → at ≤ len → len ≤ at + length t → after len at t ≡ len
unfolding after
after_cut len at [] h k = omega arith
after_cut len at (b ∷ t) h k = go (ltb at len) refl (λ l. after_cut len (suc at) t (omega arith) (omega arith))
  where
    go : (c : Bool) → ltb at len ≡ c → (at < len → after len (suc at) t ≡ len) → after len (cond c (at + 1) at) t ≡ len
    go true e again = rw (add-one at) (again (ltb-true at len e))
    go false e again = after_past len at t (ltb-false at len e) ∙ omega (arith, ltb-false at len e)

pub written_past : (out : List ℕ) (at : ℕ) (t : List ℕ) → length out ≤ at → written out at t ≡ out
unfolding written
written_past out at [] h = refl
written_past out at (b ∷ t) h = rw (le-ltb at (length out) h, set_out out at b h) (written_past out at t h)

-- past the end nothing is put
pub appended_past : (t : List ℕ) (text : Text) → length text.buffer.now ≤ text.at → text ≡ appended t text
unfolding appended
appended_past t text h = moved_same text (sym (written_past text.buffer.now text.at t h)) (sym (after_past (length text.buffer.now) text.at t h))

-- what a text that is put leaves: it stands over what was there, as far as there is room
over_front : (front rest t : List ℕ) → written (front ++ rest) (length front) t ≡ front ++ over (take (length rest) t) rest
unfolding written
over_front front rest [] = rw (take-nil (length rest))
over_front front [] (b ∷ t) = written_past (front ++ []) (length front) (b ∷ t) (omega (arith, length-append front []))
over_front front (x ∷ rest) (b ∷ t) =
    let l : length front < length (front ++ (x ∷ rest)) = omega (arith, length-append front (x ∷ rest)) in
    let k : suc (length front) ≡ length (front ++ (b ∷ [])) = omega (arith, length-append front (b ∷ [])) in
    rw (next_in (length (front ++ (x ∷ rest))) (length front) l, set_at front x rest b (length front) refl)
    (ap₂ (λ o j. written o j t) (sym (append_snoc front b rest)) k ∙ over_front (front ++ (b ∷ [])) rest t ∙ append_snoc front b (over (take (length rest) t) rest))

pub written_over : (out : List ℕ) (at : ℕ) (t : List ℕ) → at ≤ length out → written out at t ≡ take at out ++ over (take (length (drop at out)) t) (drop at out)
written_over out at t h =
    ap₂ (λ o j. written o j t) (sym (take-append-drop at out)) (sym (length-take-le at out h)) ∙ over_front (take at out) (drop at out) t

-- bytes that a part of the buffer was given: a text that has room there
pub appended_whole : (text : Text) (w t : List ℕ) (k : ℕ) → length t ≡ k → text.at + k ≤ length text.buffer.now → w ≡ t
    → moved text (take text.at text.buffer.now ++ (w ++ drop k (drop text.at text.buffer.now))) (text.at + k) ≡ appended t text
unfolding appended
appended_whole text w t k l h e =
    let out = text.buffer.now in
    let at = text.at in
    let n : length t ≤ length (drop at out) = omega (arith, length-drop at out) in
    let o : take (length (drop at out)) t ≡ t = take_all (length (drop at out)) t n in
    moved_same text
    (ap₂ (λ r j. take at out ++ (r ++ drop j (drop at out))) e (sym l) ∙ ap (λ r. take at out ++ over r (drop at out)) (sym o) ∙ sym (written_over out at t (omega arith)))
    (sym (after_room (length out) at t (omega arith) ∙ ap (λ j. at + j) l))

-- and as much of a text as there is room for
pub appended_cut : (text : Text) (w t : List ℕ) (k : ℕ) → text.at + k ≡ length text.buffer.now → k ≤ length t → w ≡ take k t
    → moved text (take text.at text.buffer.now ++ (w ++ drop k (drop text.at text.buffer.now))) (text.at + k) ≡ appended t text
unfolding appended
appended_cut text w t k h l e =
    let out = text.buffer.now in
    let rest = drop text.at out in
    let r : length rest ≡ k = omega (arith, length-drop text.at out) in
    let c : length (take k t) ≡ k = length-take-le k t l in
    moved_same text
    (ap (λ v. take text.at out ++ (v ++ drop k rest)) e ∙ ap (λ j. take text.at out ++ (take k t ++ drop j rest)) (sym c) ∙ ap (λ j. take text.at out ++ over (take j t) rest) (sym r) ∙ sym (written_over out text.at t (omega arith)))
    (h ∙ sym (after_cut (length out) text.at t (omega arith) (omega arith)))

-- put at the front of a buffer with room for it, a text is what the buffer begins with
pub appended_front : (t : List ℕ) (text : Text) → text.at ≡ 0 → length t ≤ length text.buffer.now → take (appended t text).at (appended t text).buffer.now ≡ t
unfolding appended
appended_front t text z h =
    let out = text.buffer.now in
    let k : after (length out) text.at t ≡ length t = ap (λ at. after (length out) at t) z ∙ after_room (length out) 0 t (omega arith) ∙ omega arith in
    ap₂ (λ j o. take j o) k (ap (λ at. written out at t) z ∙ written_over out 0 t (omega arith) ∙ ap (λ r. over r out) (take_all (length out) t h))
    ∙ take_at t (drop (length t) out) (length t) refl

-- a last byte that has no room is not put
pub appended_last : (t : List ℕ) (b : ℕ) (text : Text) → text.at ≤ length text.buffer.now → length text.buffer.now ≤ text.at + length t → appended (t ++ (b ∷ [])) text ≡ appended t text
unfolding appended
appended_last t b text h k =
    let out = text.buffer.now in
    let w : length (written out text.at t) ≡ length out = length_written out text.at t in
    let l : length out ≤ text.at + length (t ++ (b ∷ [])) = omega (arith, length-append t (b ∷ [])) in
    let cut = after_cut (length out) text.at t h k in
    moved_same text (sym (written_join out text.at t (b ∷ [])) ∙ written_past (written out text.at t) (after (length out) text.at t) (b ∷ []) (omega (arith, cut))) (after_cut (length out) text.at (t ++ (b ∷ [])) h l ∙ sym cut)
