-- E8: calls for breaks, one a message, list the history over all messages from the first, and a SID's entries depend on that SID's observations and their
-- message times alone. Assumes nothing.
use Rattle.std.specs.Prelude.{Result, Ok, Err}
use Prim.Native.Nat.{ℕ, ◌+◌, ◌-◌, ◌≤◌}
use mathlib.Core.Path.{◌≡◌, refl, sym, ap, ap₂, ◌∙◌}
use mathlib.Core.Bool.{false}
use mathlib.Core.Logic.{inl, inr}
use mathlib.Core.List.{List, [], ◌∷◌, map, flatten}
use native.Mathlib.Omega.{arith}
use lib.ListN.{length}
use borrow.Author.Tests.{eq-eqb, ne_eqb}
use Rattle.octets.specs.Numbers.{Bytes}
use Rattle.octets.proofs.Numbers.{part_bytes}
use Rattle.refusal.proofs.Numbered.{positive}
use Rattle.macm.specs.declared.Form.{Form}
use Rattle.macm.specs.declared.Form.TheVariants.{New, Old}
use Rattle.macm.specs.declared.Header.{Header}
use Rattle.macm.specs.Check.{verdict}
use Rattle.macm.specs.Read.{head_of}
use Rattle.macm.specs.Answers.{check_number}
use Rattle.macm.proofs.ReadSteps.{head_accepted, claimed_head_lem}
use Rattle.history.specs.Words.{type_in, fresh_words}
use Rattle.history.specs.Appearances.{appears, is_of}
use Rattle.history.specs.Breaks.{Entry, numbers_of}
use Rattle.history.specs.Calls.{list_numbers, Leaves, call_by, next_call, claimed_call}
use Rattle.history.proofs.CallSteps.{call_passes_over}
use Rattle.lines.specs.Breaks.{breaks_text}
use Rattle.promises.specs.Again.{observations_of}
use Rattle.promises.specs.Run.{Run, refused, unfinished, ended, gave}
use Rattle.promises.specs.Given as given
use Rattle.promises.specs.Reason.{messages}
use Rattle.promises.specs.History.{PassedOver, seen_in, lists_since, breaks_since, history_of, of_sid, entries_of}
use Rattle.promises.specs.HistoryCalls.{Told, listed, calls, owed_by, owed, Every, Message, given_in}
use Rattle.promises.proofs.GivenIff.{valid_if_given}
use Rattle.promises.proofs.HistoryWords.{keeps_fresh}
use Rattle.promises.proofs.HistoryRuns.{calls_list}
use Rattle.promises.proofs.OwnBreaks.{lists_joined, breaks_own, lists_own}
use Rattle.refusal.specs.declared.Refusal.{Refusal}

-- ---- the calls' lists, one after the other, are the history's: of every sequence of bytes, where what is no message is refused
pub calls_owe : (type : ℕ) (lists : ℕ → List ℕ) (ms : List (List ℕ)) → ((i : ℕ) → list_numbers ≤ length (lists i)) → Every Bytes ms → calls type lists ms ≡ owed ms (history_of type ms)
calls_owe type lists ms room b = calls_list type lists room ms [] (fresh_words type) (keeps_fresh type) b

-- of messages no call is refused
accepted_so : (m : List ℕ) → check_number (verdict m) ≡ 0 → (f : Form) × (n : ℕ) × (verdict m ≡ Ok (f, n))
accepted_so m = go (verdict m) refl
  where
    go : (v : Result (Form × ℕ) Refusal) → verdict m ≡ v → check_number v ≡ 0 → (f : Form) × (n : ℕ) × (verdict m ≡ Ok (f, n))
    go (Err r) e z = absurd (omega (arith, positive r))
    go (Ok (f, n)) e z = (f, n, e)

every_bytes : (ms : List (List ℕ)) → Every Message ms → Every Bytes ms
every_bytes [] h = tt
every_bytes (m ∷ ms) h = (h.0.bytes, every_bytes ms h.1)

abbrev as_listed : List Entry → Told
as_listed entries = listed (numbers_of entries)

owed_listed : (type : ℕ) (ms : List (List ℕ)) (before : _) → Every Message ms → owed ms (lists_since before (map (seen_in type) ms)) ≡ map as_listed (lists_since before (map (seen_in type) ms))
unfolding owed lists_since
owed_listed type [] before h = refl
owed_listed type (m ∷ ms) before h =
    let a = accepted_so m h.0.accepted in
    ap₂ (λ x y. x ∷ y) (ap (λ head. owed_by head (breaks_since before (seen_in type m))) (sym (head_accepted m a.0 a.1 a.2))) (owed_listed type ms _ h.1)

pub calls_list_the_history : (type : ℕ) (lists : ℕ → List ℕ) (ms : List (List ℕ)) → ((i : ℕ) → list_numbers ≤ length (lists i)) → Every Message ms
    → calls type lists ms ≡ map as_listed (history_of type ms)
calls_list_the_history type lists ms room h = calls_owe type lists ms room (every_bytes ms h) ∙ owed_listed type ms [] h

-- ---- of a recording's messages, as the division gives them
given_messages : (r : Run) → ((p : ℕ) (m : List ℕ) → given.Given r p m → Message m) → Every Message (given_in r)
given_messages (refused r) h = tt
given_messages unfinished h = tt
given_messages (ended g) h = tt
given_messages (gave g m r) h = (h g m (inl (refl, refl)), given_messages r (λ p m' q. later p m' q))
  where
    later : (p : ℕ) (m' : List ℕ) → given.Given r p m' → Message m'
    later p m' q =
        let before = g + length m in
        let z : p + before - before ≡ p = omega arith in
        h (p + before) m' (inr (omega arith, rw z q))

recording_messages : (s : List ℕ) → Bytes s → Every Message (given_in (messages s))
recording_messages s b =
    given_messages (messages s) (λ p m q. let v = (valid_if_given s p m q).0 in record { bytes = rw v.stands (part_bytes s p (length m) b); accepted = v.accepted })

pub recording_listed : (type : ℕ) (lists : ℕ → List ℕ) (s : List ℕ) → ((i : ℕ) → list_numbers ≤ length (lists i)) → Bytes s
    → calls type lists (given_in (messages s)) ≡ map as_listed (history_of type (given_in (messages s)))
recording_listed type lists s room b = calls_list_the_history type lists (given_in (messages s)) room (recording_messages s b)

-- and the program, which runs no checksum again, prints what such a call lists
pub breaks_printed : (position : ℕ) (m recording ws list : List ℕ) → given.Given (messages recording) position m → breaks_text position (claimed_call m ws list) ≡ breaks_text position (next_call m ws list)
breaks_printed position m recording ws list g =
    let a = accepted_so m (valid_if_given recording position m g).0.accepted in
    ap (λ head. breaks_text position (call_by head m ws list)) (claimed_head_lem m a.0 a.1 a.2)

-- ---- old messages and other TYPEs are passed over: no entries, and the history and the list as they were; of the TYPE's own every observation counts
not_of : (type : ℕ) (f : Form) → PassedOver type f → is_of type f ≡ false
not_of type (New signal tfom) p = ne_eqb signal type p
not_of type (Old version) p = refl

module _ (m : List ℕ) (h : Header) (n : ℕ) (read : head_of m ≡ Ok (h, n)) where
  pub passed_over : (ws list : List ℕ) → PassedOver (type_in ws) h.form → list_numbers ≤ length list → Leaves (next_call m ws list) (Ok 0) ws list
  passed_over ws list p room = rw read (call_passes_over m ws list h n room (not_of (type_in ws) h.form p))

  pub none_seen : (type : ℕ) → PassedOver type h.form → seen_in type m ≡ []
  none_seen type p = rw (read, not_of type h.form p)

  pub all_seen : (type tfom : ℕ) → h.form ≡ New type tfom → seen_in type m ≡ map (appears h.time) (observations_of m)
  all_seen type tfom e = rw (read, e, eq-eqb type type refl)

-- ---- two sequences of messages that agree in a SID's observations and their message times have the same entries for it
module _ (sid type type' : ℕ) (ms ms' : List (List ℕ)) where
  pub by_its_own : of_sid sid (flatten (map (seen_in type) ms)) ≡ of_sid sid (flatten (map (seen_in type') ms'))
      → entries_of sid (flatten (history_of type ms)) ≡ entries_of sid (flatten (history_of type' ms'))
  unfolding of_sid
  by_its_own e = own type ms ∙ ap (breaks_since []) e ∙ sym (own type' ms')
    where
      own : (t : ℕ) (ns : List (List ℕ)) → entries_of sid (flatten (history_of t ns)) ≡ breaks_since [] (of_sid sid (flatten (map (seen_in t) ns)))
      own t ns = ap (entries_of sid) (lists_joined [] (map (seen_in t) ns)) ∙ breaks_own sid [] (flatten (map (seen_in t) ns))

  -- and if they agree message by message, so do the entries
  pub message_by_message : map (of_sid sid) (map (seen_in type) ms) ≡ map (of_sid sid) (map (seen_in type') ms')
      → map (entries_of sid) (history_of type ms) ≡ map (entries_of sid) (history_of type' ms')
  unfolding of_sid
  message_by_message e = lists_own sid [] (map (seen_in type) ms) ∙ ap (lists_since []) e ∙ sym (lists_own sid [] (map (seen_in type') ms'))
