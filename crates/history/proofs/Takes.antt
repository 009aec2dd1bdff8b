-- What appearances leave, one after the other. Assumes nothing.
use Rattle.std.specs.Prelude.{Option, Some, None}
use Prim.Native.Nat.{ℕ, zero, suc, ◌+◌, ◌*◌, ◌≤◌}
use mathlib.Core.Path.{◌≡◌, refl, sym, ap, ap₂, ◌∙◌}
use mathlib.Core.List.{List, [], ◌∷◌, ◌++◌, append_assoc, append-nil}
use native.Mathlib.Omega.{arith}
use native.Mathlib.Nat.{add-zero}
use lib.ListN.{length, length-append}
use Rattle.octets.specs.Parts.{put}
use Rattle.octets.proofs.Parts.{put_none, put_next}
use Rattle.macm.specs.declared.Form.{Form}
use Rattle.macm.specs.declared.Observation.{Observation}
use Rattle.macm.specs.Read.{header_of, observed_as}
use Rattle.macm.specs.Claimed.{Message, Sized, observations_of}
use Rattle.macm.proofs.Iterates.{each, each_next, each_read, each_first}
use Rattle.history.specs.declared.Appearance.{Appearance}
use Rattle.history.specs.declared.Break.{Break}
use Rattle.history.specs.declared.Last.{Last}
use Rattle.history.specs.Words.{last_at, last_in, put_last}
use Rattle.history.specs.Appearances.{appears, appearance_of, appearances_up_to}
use Rattle.history.specs.Breaks.{Entry, Kept, number_of, said_of, entry_of, entry_for, entry_at, numbers_of, after, after_all, begun}
use Rattle.history.specs.Steps.{Takes, appearances_of}

-- ---- the numbers of entries
pub numbers_length : (es : List Entry) → length (numbers_of es) ≡ 3 * length es
unfolding numbers_of
numbers_length [] = refl
numbers_length (e ∷ es) = omega (arith, numbers_length es)

pub numbers_append : (es fs : List Entry) → numbers_of (es ++ fs) ≡ numbers_of es ++ numbers_of fs
unfolding numbers_of
numbers_append [] fs = refl
numbers_append (e ∷ es) fs = ap (λ r. e.sid ∷ e.time ∷ e.which ∷ r) (numbers_append es fs)

-- ---- appearances in two parts
pub after_append : (k : Kept) (xs ys : List Appearance) → after_all k (xs ++ ys) ≡ after_all (after_all k xs) ys
unfolding after_all
after_append k [] ys = refl
after_append k (x ∷ xs) ys = after_append (after k x) xs ys

-- what is left depends on the words alone; the entries stand behind those that there are
pub after_behind : (ws : List ℕ) (es : List Entry) (xs : List Appearance) → after_all (record { words = ws; entries = es }) xs ≡ record { words = (after_all (begun ws) xs).words; entries = es ++ (after_all (begun ws) xs).entries }
unfolding after_all
after_behind ws es [] = ap (λ r. record { words = ws; entries = r }) (sym (append-nil es))
after_behind ws es (x ∷ xs) =
    let here = after (begun ws) x in
    let rest = after_all (begun here.words) xs in
    let alone = after_behind here.words here.entries xs in
    after_behind here.words (es ++ here.entries) xs
    ∙ ap₂ (λ w e. record { words = w; entries = e }) (sym (ap (λ k. k.words) alone)) (append_assoc es here.entries rest.entries ∙ ap (λ e. es ++ e) (sym (ap (λ k. k.entries) alone)))

-- ---- as a call's steps take them: one appearance, none, and one behind the other
module _ (ws list : List ℕ) (count : ℕ) (a : Appearance) (last : Last) (which : Option Break) (ws' : List ℕ)
    (kept : last ≡ last_in ws a.sid) (said : which ≡ said_of last a.time a.lock) (left : ws' ≡ put (last_at a.sid) (1 ∷ a.time ∷ a.lock ∷ []) ws) where
  entry_is : entry_at ws a ≡ entry_for a which
  entry_is = ap (entry_for a) (ap (λ l. said_of l a.time a.lock) (sym kept) ∙ sym said)

  pub takes_nothing : which ≡ None → Takes ws list count (a ∷ []) count ws' list
  unfolding after_all put_last numbers_of
  takes_nothing e =
      let none : entry_at ws a ≡ [] = entry_is ∙ ap (entry_for a) e in
      record { words = left; counted = rw none (sym (add-zero count)); listed = rw none (sym (put_none (3 * count) list)) }

  pub takes_break : (list' : List ℕ) (b : Break) → which ≡ Some b → list' ≡ put (3 * count) (a.sid ∷ a.time ∷ number_of b ∷ []) list → Takes ws list count (a ∷ []) (count + 1) ws' list'
  unfolding after_all put_last numbers_of
  takes_break list' b s e =
      let one : entry_at ws a ≡ entry_of a (number_of b) ∷ [] = entry_is ∙ ap (entry_for a) s in
      record { words = left; counted = rw one; listed = rw one e }

pub takes_none : (ws list : List ℕ) (count : ℕ) → Takes ws list count [] count ws list
unfolding after_all numbers_of
takes_none ws list count = record { words = refl; counted = sym (add-zero count); listed = sym (put_none (3 * count) list) }

module _ {ws list ws' list' ws'' list'' : List ℕ} {count r r' : ℕ} {xs ys : List Appearance} where
  pub takes_then : Takes ws list count xs r ws' list' → Takes ws' list' r ys r' ws'' list'' → 3 * count ≤ length list → Takes ws list count (xs ++ ys) r' ws'' list''
  takes_then t u room =
      let first = after_all (begun ws) xs in
      let second = after_all (begun ws') ys in
      let all : after_all (begun ws) (xs ++ ys) ≡ record { words = second.words; entries = first.entries ++ second.entries } =
      after_append (begun ws) xs ys ∙ after_behind first.words first.entries ys ∙ ap (λ w. record { words = (after_all (begun w) ys).words; entries = first.entries ++ (after_all (begun w) ys).entries }) (sym t.words) in
      let more : length (first.entries ++ second.entries) ≡ length first.entries + length second.entries = length-append first.entries second.entries in
      let place : 3 * r ≡ 3 * count + length (numbers_of first.entries) = omega (arith, t.counted, numbers_length first.entries) in
      record {
        words = u.words ∙ sym (ap (λ k. k.words) all);
        counted = rw all (omega (arith, t.counted, u.counted, more));
        listed =
            u.listed
            ∙ ap₂ (λ n l. put n (numbers_of second.entries) l) place t.listed
            ∙ put_next (3 * count) (numbers_of first.entries) (numbers_of second.entries) list room
            ∙ ap (λ ns. put (3 * count) ns list) (sym (numbers_append first.entries second.entries) ∙ sym (ap (λ k. numbers_of k.entries) all));
      }

-- an appearance brings one entry at most
few : (a : Appearance) (which : Option Break) → length (entry_for a which) ≤ 1
few a None = omega arith
few a (Some which) = omega arith

pub takes_few : {ws list ws' list' : List ℕ} {count r : ℕ} (a : Appearance) → Takes ws list count (a ∷ []) r ws' list' → r ≤ count + 1
unfolding after_all
takes_few {ws} a t = omega (arith, t.counted, few a (said_of (last_in ws a.sid) a.time a.lock))

-- ---- the observations of a message, one more, and all
pub takes_one_more : {ws list ws' list' ws'' list'' : List ℕ} {r r' : ℕ} (time : ℕ) (os : List Observation) (o : Observation) → Takes ws list 0 (each (λ o. appears time o ∷ []) os) r ws' list' → Takes ws' list' r (appears time o ∷ []) r' ws'' list''
    → Takes ws list 0 (each (λ o. appears time o ∷ []) (os ++ (o ∷ []))) r' ws'' list''
takes_one_more time os o t u = rw (each_next (λ o. appears time o ∷ []) os o) (takes_then t u (omega arith))

appearances_read : (k : ℕ) (f : Form) (time n : ℕ) (m : List ℕ) → appearances_up_to k f time n m ≡ each_read (appearance_of time) k f n m
unfolding appearances_up_to
appearances_read zero f time n m = refl
appearances_read (suc k) f time n m = ap (λ r. r ++ appearance_of time (observed_as f n m k)) (appearances_read k f time n m)

pub appearances_all : (c : Message) → Sized c → each (λ o. appears (header_of c.form c.bytes).time o ∷ []) (observations_of c) ≡ appearances_of c
appearances_all c long =
    let time = (header_of c.form c.bytes).time in
    sym (appearances_read c.count c.form time c.count c.bytes ∙ each_first (appearance_of time) c.form c.count c.bytes long c.count (omega arith))
