-- E8's history worked out, and wrong versions that the request names: no such program meets the contract, each shown at one message. Assumes nothing.
use Rattle.std.specs.Prelude.{Ok}
use Prim.Native.Nat.{ℕ, suc}
use mathlib.Core.Path.{◌≡◌, refl, sym, ap, ◌∙◌}
use mathlib.Core.List.{List, [], ◌∷◌, ◌++◌}
use native.Mathlib.Omega.{arith}
use lib.ListN.{get_or, replicate, take}
use contract.Lifetimes.{Lfts}
use denote.Ref.{Bor, MutBor}
use denote.Triple.Entry.{Args}
use Rattle.octets.specs.Begins.{fit}
use Rattle.octets.specs.Checksum.{checksum_from}
use Rattle.octets.specs.Numbers.{number_from}
use Rattle.macm.specs.Check.{form_of, agrees, shape_as, shape_by, shape_of, verdict_by, verdict}
use Rattle.macm.specs.Observation.{observation_of}
use Rattle.macm.specs.Read.{header_of, head_by, head_of, observed_as}
use Rattle.history.specs.declared.Appearance.{Appearance}
use Rattle.history.specs.Words.{put_last, fresh_words}
use Rattle.history.specs.Appearances.{appearances_up_to, appearances_in}
use Rattle.history.specs.Breaks.{Entry, numbers_of, after_all}
use Rattle.history.specs.Calls.{Call, call_by, next_call}
use Rattle.history.specs.contracts as contracts
use Rattle.history.proofs as history
use Rattle.owed.specs.Meets.{Program, Meets}
use Rattle.promises.specs.History.{last_of, breaks_since}

-- ---- worked out
abbrev at : ℕ → ℕ → ℕ → Appearance
at sid time lock = record { sid = sid; time = time; lock = lock }

abbrev broken : ℕ → ℕ → ℕ → Entry
broken sid time which = record { sid = sid; time = time; which = which }

pub record Worked : Type 0 where
  pub first : breaks_since [] (at 7 0 0 ∷ []) ≡ []
  pub on : breaks_since [] (at 7 10 5 ∷ at 7 11 6 ∷ []) ≡ []
  pub equal : breaks_since [] (at 7 10 5 ∷ at 7 10 5 ∷ []) ≡ []
  pub new_lock_lem : breaks_since [] (at 7 10 5 ∷ at 7 10 4 ∷ []) ≡ broken 7 10 2 ∷ []
  pub clock_back_lem : breaks_since [] (at 7 10 5 ∷ at 7 9 6 ∷ []) ≡ broken 7 9 1 ∷ []
  -- where both are lower the clock is said alone
  pub both : breaks_since [] (at 7 10 5 ∷ at 7 9 4 ∷ []) ≡ broken 7 9 1 ∷ []
  -- a pair is held against the one of the break, not against the one before it
  pub replaced : breaks_since [] (at 7 10 5 ∷ at 7 8 3 ∷ at 7 9 4 ∷ []) ≡ broken 7 8 1 ∷ []
  -- a count that wraps
  pub wrapped : breaks_since [] (at 7 10 4294967295 ∷ at 7 11 0 ∷ []) ≡ broken 7 11 2 ∷ []
  -- no SID is held against another
  pub apart : breaks_since [] (at 7 10 5 ∷ at 8 9 4 ∷ at 7 10 4 ∷ []) ≡ broken 7 10 2 ∷ []

pub worked : Worked
unfolding breaks_since last_of
worked = record { first = refl; on = refl; equal = refl; new_lock_lem = refl; clock_back_lem = refl; both = refl; replaced = refl; wrapped = refl; apart = refl }

-- ---- a message of TYPE 0 in which SID 0 appears twice, with lock counts 1 and 0
abbrev twice : List ℕ
twice = 0x4D ∷ 0x41 ∷ 0x43 ∷ 0x32 ∷ 0 ∷ 0 ∷ 2 ∷ (replicate 31 0 ++ (1 ∷ (replicate 24 0 ++ (3 ∷ []))))

abbrev fresh : List ℕ
fresh = fresh_words 0

abbrev lent : List ℕ
lent = replicate 765 0

-- in a fresh history it has one break, a new lock, and SID 0 was seen then
twice_listed : (next_call twice fresh lent).answer ≡ Ok 1
unfolding call_by appearances_in appearances_up_to after_all put_last fresh_words observed_as observation_of head_of head_by header_of verdict verdict_by shape_of shape_by shape_as form_of agrees fit checksum_from number_from
twice_listed = refl

twice_seen : get_or (next_call twice fresh lent).words 1 0 ≡ 1
unfolding call_by appearances_in appearances_up_to after_all put_last fresh_words observed_as observation_of head_of head_by header_of verdict verdict_by shape_of shape_by shape_as form_of agrees fit checksum_from number_from
twice_seen = refl

fresh_unseen : get_or fresh 1 0 ≡ 0
unfolding fresh_words
fresh_unseen = refl

pub twice_broken : take 3 (next_call twice fresh lent).list ≡ 0 ∷ 0 ∷ 2 ∷ []
unfolding call_by appearances_in appearances_up_to after_all put_last fresh_words numbers_of observed_as observation_of head_of head_by header_of verdict verdict_by shape_of shape_by shape_as form_of agrees fit checksum_from number_from
twice_broken = refl

-- ---- no such program
abbrev reference : List ℕ → Bor (List ℕ)
reference xs = record { ref_ptr = (0, 0); now = xs }

abbrev mutable : List ℕ → MutBor (List ℕ)
mutable xs = record { ref_ptr = (0, 0); ghost_name = 0; now = xs }

module _ (breaks : Program contracts.next_breaks.ended) (meets : Meets contracts.next_breaks.ended history.next_breaks.Reads.Learnt breaks) where
  abbrev κs : Lfts 3
  κs = ([], ([], ([], tt)))

  abbrev asked : Args contracts.next_breaks.signature κs
  asked = (reference twice, (mutable fresh, (mutable lent, tt)))

  listed : breaks.answers κs asked ≡ Ok 1
  listed = (meets κs asked).answer ∙ twice_listed

  -- one that keeps the pair where a break is said
  pub not_keeping_the_pair : ((κs : Lfts 3) (a : Args contracts.next_breaks.signature κs) (n : ℕ) → breaks.answers κs a ≡ Ok (suc n) → (breaks.leaves κs a).1.0 ≡ a.1.0.now) → ⊥
  not_keeping_the_pair keeps =
      let z : ◌≡◌ {A = ℕ} 0 1 = sym fresh_unseen ∙ ap (λ w. get_or w 1 0) (sym (keeps κs asked 0 listed) ∙ (meets κs asked).words) ∙ twice_seen in
      omega arith

  -- one that overlooks a second appearance in one message: in a fresh history there is no other break
  pub not_overlooking_the_second : ((κs : Lfts 3) (a : Args contracts.next_breaks.signature κs) (n : ℕ) → a.1.0.now ≡ fresh_words 0 → breaks.answers κs a ≡ Ok n → n ≡ 0) → ⊥
  not_overlooking_the_second overlooks = let z : ◌≡◌ {A = ℕ} 1 0 = overlooks κs asked 1 refl listed in omega arith

-- ---- and the contract does not shut out everything: what the definition says meets it
abbrev called_as : (κs : Lfts 3) → Args contracts.next_breaks.signature κs → Call
called_as κs a = next_call a.0.now a.1.0.now a.1.1.0.now

pub right_breaks :
    Meets contracts.next_breaks.ended history.next_breaks.Reads.Learnt
    (record { answers = λ κs a. (called_as κs a).answer; leaves = λ κs a. (tt, ((called_as κs a).words, ((called_as κs a).list, tt))) })
right_breaks κs a = record { answer = refl; words = refl; list = refl }
