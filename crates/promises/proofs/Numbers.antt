-- Each entry refuses by document 01's numbers: each number under its condition and no other, and 0 where none holds. Assumes nothing.
use Rattle.std.specs.Prelude.{Result, Ok, Err}
use Prim.Native.Nat.{ℕ, ◌-◌, ◌≤◌}
use mathlib.Core.Path.{◌≡◌, refl, sym, ap, ◌∙◌}
use mathlib.Core.Bool.{Bool, true, false, cond, ◌&&◌, true≢false}
use mathlib.Core.Logic.{◌⊎◌, inl, inr, ⊎_elim}
use mathlib.Core.List.{List, ◌++◌}
use native.Mathlib.Omega.{arith}
use lib.ListN.{length, get_or, take, drop, take-append-drop, length-drop}
use lib.Dec.{ltb, leb, eqb}
use borrow.Author.Tests.{ltb-true, ltb-false, leb-true, leb-false, eqb-true, eqb-false, le-ltb}
use Rattle.octets.specs.Begins.{fit, begins}
use Rattle.refusal.specs.declared.Refusal.{Refusal}
use Rattle.refusal.specs.declared.Refusal.TheVariants.{TooShort, NoSync, WrongLength, NoObservation, NoRoom, OtherForm, SmallBuffer, PastEnd, OtherLength, OtherSignal, TooWide}
use Rattle.refusal.specs.Numbers.{number_of}
use Rattle.refusal.proofs.Numbered.{positive}
use Rattle.macm.specs.declared.Form.{Form}
use Rattle.macm.specs.declared.Form.TheVariants.{New, Old}
use Rattle.macm.specs.declared.Header.{Header}
use Rattle.macm.specs.Form.{new_sync, old_sync, lead, count_at, size}
use Rattle.macm.specs.Check.{agrees, shape_as, shape_by, shape_of, verdict}
use Rattle.macm.specs.Answers.{check_number}
use Rattle.macm.specs.Read.{header_of, claimed_head, head_of, observed_as, observed_of}
use Rattle.macm.proofs.CheckSteps.{five, is_new, is_old, is_neither, too_short, shaped_by, wrong_length, right_length, shaped, refuses, accepts, wrong_checksum, fine}
use Rattle.macm.proofs.ReadSteps.{claimed_refused, claimed_there, head_refused, head_accepted, observed_refused, observed_accepted, observed_other_length, observed_there, observed_far}
use Rattle.macm.proofs.Leads.{lead_of}
use Rattle.refusal.specs.Written.{written_number}
use Rattle.compose.specs.Start.{start_of}
use Rattle.compose.specs.Set.{set_by, set_of}
use Rattle.compose.specs.Convert.{allowed, convert_by, convert_of}
use Rattle.history.specs.Words.{type_in}
use Rattle.history.specs.Appearances.{appearances_in}
use Rattle.history.specs.Breaks.{Kept, after_all, begun}
use Rattle.history.specs.Calls.{refusing, listing, call_by, next_call, claimed_call}
use Rattle.division.specs.Division.{Division, last, part as onward, divide}
use Rattle.division.specs.Plain.{first_of, next_of}
use Rattle.front.specs.declared.Claim.{Claim}
use Rattle.front.specs.declared.Claim.TheVariants.{Nothing, AtLeast, Long}
use Rattle.front.specs.Claim.{claim}
use Rattle.reason.specs.declared.Reason.TheVariants.{Inside, Given, CutShort, Checksum}
use Rattle.reason.specs.Reason.{residue_of, summed, said_by, here_of, cover_of, reason_of}
use Rattle.reason.proofs.HereSteps.{here_some}
use Rattle.stream.specs.declared.State.{State}
use Rattle.stream.specs.Feed.{Fed, given, more, feed, finish}
use Rattle.stream.specs.Reader.{feed_call, finish_call, fed_call, finished_call}
use Rattle.stream.specs.Steps.{Allowed}
use Rattle.stream.proofs.Cases.{Small, Bad, finish_cases, feed_cases}
use Rattle.bits.specs.Fields.{cut}
use Rattle.novatel.specs.declared.Record.{Record}
use Rattle.novatel.specs.Record.{record_of, fits}
use Rattle.novatel.specs.Entries.{reading_of, writing_of, says_gps, correction_in, correction_of}
use Rattle.novatel.specs.Rolls.{rolls_of, corrected_of}
use Rattle.promises.proofs.RecordBack.{fitting, holding}
use Rattle.promises.specs.Numbers.{head_number, observed_number, breaks_number, next_number, reason_number, record_number, correction_number, answer_number, OfForm, AfterShape, Differs, CheckTable, ClaimedTable, HeadTable, Index, IndexTable, KnownTable, Room, StartTable, ConvertTable, Listable, BreaksTable, ClaimedBreaksTable, NextTable, ReasonTable, Buffers, Sound, FinishTable, FeedTable, RecordTable, CorrectionTable, RecordWriteTable}
use Rattle.novatel.specs.declared.Corrected.{Corrected}

-- ---- the message check
module _ (m : List ℕ) where
  -- a list that begins with a sync string, as the check sees it
  begins_so : (t : List ℕ) → (begins t (t ++ drop 4 m) ≡ true) → take 4 m ≡ t → begins t m ≡ true
  begins_so t w e = ap (begins t) (sym (take-append-drop 4 m) ∙ ap (λ s. s ++ drop 4 m) e) ∙ w

  new_so : take 4 m ≡ new_sync → begins new_sync m ≡ true
  unfolding fit
  new_so e = begins_so new_sync refl e

  old_so : take 4 m ≡ old_sync → begins old_sync m ≡ true
  unfolding fit
  old_so e = begins_so old_sync refl e

  checksum_differs : 15 ≤ length m → agrees m ≡ false → Differs m
  unfolding agrees
  checksum_differs l e = eqb-false _ _ (rw (le-ltb (length m) 5 (omega arith)) at e)

  checksum_agrees : 15 ≤ length m → agrees m ≡ true → Differs m → ⊥
  unfolding agrees
  checksum_agrees l e d = d (eqb-true _ _ (rw (le-ltb (length m) 5 (omega arith)) at e))

  first_four : (f : Form) → m ≡ lead f ++ drop (count_at f) m → take 4 m ≡ take 4 (lead f)
  first_four f e = ap (take 4) e ∙ go f
    where
      go : (g : Form) → take 4 (lead g ++ drop (count_at f) m) ≡ take 4 (lead g)
      go (New t q) = refl
      go (Old v) = refl

  -- 1 to 3, of any answer that gives them as the check does before its checksum
  module _ (T : ℕ → Type 0) (i : ℕ) (refused : (r : Refusal) → shape_of m ≡ Err r → i ≡ number_of r) (shaped-so : (f : Form) (n : ℕ) → shape_of m ≡ Ok (f, n) → T i) where
    of_form : (f : Form) → take 4 m ≡ take 4 (lead f) → shape_of m ≡ shape_as f m → OfForm T f m i
    of_form f sync e = (sync, go (eqb (length m) s) refl)
      where
        s : ℕ
        s = size f (get_or m (count_at f) 0)

        go : (a : Bool) → eqb (length m) s ≡ a → ((i ≡ 3) × (length m ≡ s → ⊥)) ⊎ ((length m ≡ s) × T i)
        go false p =
            let n = eqb-false (length m) s p in
            inl (refused WrongLength (e ∙ sym (wrong_length m f (count_at f) s refl refl n)), n)
        go true p =
            let n = eqb-true (length m) s p in
            inr (n, shaped-so f _ (e ∙ sym (right_length m f (count_at f) s refl refl n)))

    after_shape : AfterShape T m i
    unfolding shape_by
    after_shape = go (ltb (length m) 15) refl (begins new_sync m) refl (begins old_sync m) refl
      where
        go : (a : Bool) → ltb (length m) 15 ≡ a → (b : Bool) → begins new_sync m ≡ b → (c : Bool) → begins old_sync m ≡ c → AfterShape T m i
        go true p b q c r = let l = ltb-true (length m) 15 p in inl (refused TooShort (sym (too_short m l)), l)
        go false p true q c r =
            let l = ltb-false (length m) 15 p in
            let k = sym (is_new m q) in
            let f = New (get_or m 4 0) (get_or m 5 0) in
            inr (l, inr (f, of_form f (first_four f (lead_of m f l k)) (sym (shaped_by m _ l k))))
        go false p false q true r =
            let l = ltb-false (length m) 15 p in
            let k = sym (is_old m q r) in
            let f = Old (get_or m 4 0) in
            inr (l, inr (f, of_form f (first_four f (lead_of m f l k)) (sym (shaped_by m _ l k))))
        go false p false q false r =
            let l = ltb-false (length m) 15 p in
            inr (l, inl (refused NoSync (sym (shaped_by m _ l (sym (is_neither m q r)))), (λ e. not (sym (new_so e) ∙ q)), (λ e. not (sym (old_so e) ∙ r))))
          where
            not : true ≡ false → ⊥
            not e = let z : ◌≡◌ {A = ℕ} 0 1 = cc in omega arith

  pub check_table : CheckTable m (check_number (verdict m))
  check_table = after_shape (λ i. ((i ≡ 4) × Differs m) ⊎ ((i ≡ 0) × (Differs m → ⊥))) (check_number (verdict m)) (λ r e. ap check_number (sym (refuses m r e))) (λ f n e. summed f n e (agrees m) refl)
    where
      summed : (f : Form) (n : ℕ) → shape_of m ≡ Ok (f, n) → (b : Bool) → agrees m ≡ b
          → ((check_number (verdict m) ≡ 4) × Differs m) ⊎ ((check_number (verdict m) ≡ 0) × (Differs m → ⊥))
      summed f n e false q = inl (ap check_number (sym (wrong_checksum m f n e q)), checksum_differs (omega (arith, five f, (shaped m f n e).long)) q)
      summed f n e true q = inr (ap check_number (sym (accepts m f n e q)), checksum_agrees (omega (arith, five f, (shaped m f n e).long)) q)

  pub claimed_table : ClaimedTable m (head_number (claimed_head m))
  claimed_table = after_shape (λ i. i ≡ 0) (head_number (claimed_head m)) (λ r e. ap head_number (sym (claimed_refused m r e))) (λ f n e. ap head_number (sym (claimed_there m f n (header_of f m) e refl)))

-- ---- reading and writing
pub head_table : (m : List ℕ) → HeadTable m (head_number (head_of m))
head_table m = go (verdict m) refl
  where
    go : (v : Result (Form × ℕ) Refusal) → verdict m ≡ v → HeadTable m (head_number (head_of m))
    go (Err r) e = let z = ap head_number (sym (head_refused m r e)) in inl (z ∙ ap check_number (sym e), rw z (positive r))
    go (Ok (f, k)) e = inr (f, k, e, ap head_number (sym (head_accepted m f k e)))

pub known_table : (f : Form) (k : ℕ) (m : List ℕ) (j : ℕ) → KnownTable f k m j (observed_number (observed_as f k m j))
known_table f k m j = go (eqb (length m) (size f k)) refl (ltb j k) refl
  where
    go : (a : Bool) → eqb (length m) (size f k) ≡ a → (b : Bool) → ltb j k ≡ b → KnownTable f k m j (observed_number (observed_as f k m j))
    go false p b q = let n = eqb-false (length m) (size f k) p in inl (ap observed_number (sym (observed_other_length m j f k n)), n)
    go true p true q = let n = eqb-true (length m) (size f k) p in inr (n, inr (ap observed_number (sym (observed_there m j f k n (ltb-true j k q) _ refl)), ltb-true j k q))
    go true p false q = let n = eqb-true (length m) (size f k) p in inr (n, inl (ap observed_number (sym (observed_far m j f k n (ltb-false j k q))), ltb-false j k q))

pub observed_table : (m : List ℕ) (j : ℕ) → IndexTable m j (observed_number (observed_of m j))
observed_table m j = go (verdict m) refl
  where
    long : (f : Form) (k : ℕ) → verdict m ≡ Ok (f, k) → KnownTable f k m j (observed_number (observed_as f k m j)) → Index k j (observed_number (observed_as f k m j))
    long f k e (inl n) = absurd (n.1 (fine m f k e).long)
    long f k e (inr t) = t.1

    go : (v : Result (Form × ℕ) Refusal) → verdict m ≡ v → IndexTable m j (observed_number (observed_of m j))
    go (Err r) e = let z = ap observed_number (sym (observed_refused m j r e)) in inl (z ∙ ap check_number (sym e), rw z (positive r))
    go (Ok (f, k)) e = inr (f, k, e, rw (← (observed_accepted m j f k e)) (long f k e (known_table f k m j)))

pub set_table : (m : List ℕ) (j : ℕ) → IndexTable m j (written_number (set_of m j))
unfolding set_of set_by
set_table m j = go (verdict m) refl
  where
    go : (v : Result (Form × ℕ) Refusal) → verdict m ≡ v → IndexTable m j (written_number (set_by v m j))
    go (Err r) e = inl (ap check_number (sym e), positive r)
    go (Ok (f, k)) e = inr (f, k, e, test (ltb j k) refl)
      where
        test : (a : Bool) → ltb j k ≡ a → Index k j (written_number (cond a (Ok (length m)) (Err NoObservation)))
        test true p = inr (refl, ltb-true j k p)
        test false p = inl (refl, ltb-false j k p)

room_table : (needed there : ℕ) → Room needed there (written_number (cond (leb needed there) (Ok needed) (Err NoRoom)))
room_table needed there = go (leb needed there) refl
  where
    go : (a : Bool) → leb needed there ≡ a → Room needed there (written_number (cond a (Ok needed) (Err NoRoom)))
    go true p = inr (refl, leb-true needed there p)
    go false p = inl (refl, leb-false needed there p)

pub start_table : (h : Header) (n : ℕ) (out : List ℕ) → StartTable h n out (written_number (start_of h n out))
unfolding start_of
start_table h n out = room_table (size h.form n) (length out)

pub convert_table : (g : Form) (m out : List ℕ) → ConvertTable g m out (written_number (convert_of g m out))
unfolding convert_of convert_by
convert_table g m out = go (verdict m) refl
  where
    go : (v : Result (Form × ℕ) Refusal) → verdict m ≡ v → ConvertTable g m out (written_number (convert_by v g out))
    go (Err r) e = inl (ap check_number (sym e), positive r)
    go (Ok (f, k)) e = inr (f, k, e, test (allowed f g) refl)
      where
        test : (a : Bool) → allowed f g ≡ a
            → let i = written_number (cond a (cond (leb (size g k) (length out)) (Ok (size g k)) (Err NoRoom)) (Err OtherForm)) in
            ((i ≡ 7) × (allowed f g ≡ false)) ⊎ ((allowed f g ≡ true) × Room (size g k) (length out) i)
        test true p = inr (p, room_table (size g k) (length out))
        test false p = inl (refl, p)

-- ---- breaks of lock
module _ (m ws list : List ℕ) where
  list_table : (h : Header) (n : ℕ) → Listable list (breaks_number (call_by (Ok (h, n)) m ws list).answer)
  unfolding call_by
  list_table h n = go (ltb (length list) 765) refl (after_all (begun ws) (appearances_in (type_in ws) h n m))
    where
      go : (a : Bool) → ltb (length list) 765 ≡ a → (k : Kept) → Listable list (breaks_number (cond a (refusing SmallBuffer ws list) (listing k list)).answer)
      go true p k = inl (refl, ltb-true (length list) 765 p)
      go false p k = inr (refl, ltb-false (length list) 765 p)

  refused_head : (head : Result (Header × ℕ) Refusal) (r : Refusal) → Err r ≡ head → breaks_number (call_by head m ws list).answer ≡ number_of r
  unfolding call_by
  refused_head head r e = ap (λ h. breaks_number (call_by h m ws list).answer) (sym e)

  pub breaks_table : BreaksTable m list (breaks_number (next_call m ws list).answer)
  breaks_table = go (verdict m) refl
    where
      go : (v : Result (Form × ℕ) Refusal) → verdict m ≡ v → BreaksTable m list (breaks_number (next_call m ws list).answer)
      go (Err r) e = let z = refused_head (head_of m) r (head_refused m r e) in inl (z ∙ ap check_number (sym e), rw z (positive r))
      go (Ok (f, k)) e = inr (f, k, e, rw (sym (head_accepted m f k e)) (list_table (header_of f m) k))

  pub claimed_breaks_table : ClaimedBreaksTable m list (breaks_number (claimed_call m ws list).answer)
  claimed_breaks_table =
      after_shape m (Listable list) (breaks_number (claimed_call m ws list).answer) (λ r e. refused_head (claimed_head m) r (claimed_refused m r e))
      (λ f n e. rw (sym (claimed_there m f n (header_of f m) e refl)) (list_table (header_of f m) n))

-- ---- the plain reader
pub next_table : (s : List ℕ) (start : ℕ) → NextTable s start (next_number (next_of s start))
unfolding next_of
next_table s start = go (ltb (length s) start) refl (divide (drop start s) 0)
  where
    go : (a : Bool) → ltb (length s) start ≡ a → (d : Division) → NextTable s start (next_number (cond a (Err PastEnd) (Ok (first_of start d))))
    go true p d = inl (refl, ltb-true (length s) start p)
    go false p (last g) = inr (refl, ltb-false (length s) start p)
    go false p (onward g m d) = inr (refl, ltb-false (length s) start p)

-- ---- the reason at a position
said_number : (c : Claim) (xs : List ℕ) → reason_number (Ok (said_by c xs)) ≡ 0
unfolding said_by summed
said_number Nothing xs = refl
said_number (AtLeast k) xs = refl
said_number (Long n) xs = go (leb n (length xs)) (eqb (residue_of n xs) 0)
  where
    go : (a b : Bool) → reason_number (Ok (cond a (cond b (Given n) (Checksum (residue_of n xs))) (CutShort (n - length xs)))) ≡ 0
    go true true = refl
    go true false = refl
    go false b = refl

pub reason_table : (s : List ℕ) (p : ℕ) → ReasonTable s p (reason_number (reason_of s p))
unfolding reason_of
reason_table s p = go (ltb p (length s)) refl (ltb (cover_of s p) p)
  where
    go : (a : Bool) → ltb p (length s) ≡ a → (b : Bool) → ReasonTable s p (reason_number (cond a (cond b (Ok (Inside (cover_of s p))) (here_of (drop p s))) (Err PastEnd)))
    go false e b = inl (refl, ltb-false p (length s) e)
    go true e true = inr (refl, ltb-true p (length s) e)
    go true e false =
        let l = ltb-true p (length s) e in
        inr (rw (here_some (drop p s) (λ z. omega (arith, length-drop p s))) (said_number (claim (drop p s)) (drop p s)), l)

-- ---- the range record
pub record_table : (s : List ℕ) → RecordTable s (record_number (reading_of s))
unfolding reading_of
record_table s = go (eqb (length s) 24) refl
  where
    go : (a : Bool) → eqb (length s) 24 ≡ a → RecordTable s (record_number (cond a (Ok (record_of s)) (Err OtherLength)))
    go true p = inr (refl, eqb-true (length s) 24 p)
    go false p = inl (refl, eqb-false (length s) 24 p)

pub correction_table : (s : List ℕ) → CorrectionTable s (correction_number (correction_of s))
unfolding correction_of correction_in says_gps
correction_table s = go (eqb (length s) 24) refl (eqb (cut 16 3 status) 0) refl (eqb (cut 21 5 status) 0) refl
  where
    status : ℕ
    status = (record_of s).status

    there : Result Corrected Refusal
    there = Ok (record { rolls = rolls_of (record_of s).range (record_of s).adr; adr = corrected_of (record_of s).range (record_of s).adr })

    go : (a : Bool) → eqb (length s) 24 ≡ a → (b : Bool) → eqb (cut 16 3 status) 0 ≡ b → (c : Bool) → eqb (cut 21 5 status) 0 ≡ c
        → CorrectionTable s (correction_number (cond a (cond (b && c) there (Err OtherSignal)) (Err OtherLength)))
    go false p b q c r = inl (refl, eqb-false (length s) 24 p)
    go true p false q c r = inr (eqb-true (length s) 24 p, inl (refl, λ g. eqb-false (cut 16 3 status) 0 q g.0))
    go true p true q false r = inr (eqb-true (length s) 24 p, inl (refl, λ g. eqb-false (cut 21 5 status) 0 r g.1))
    go true p true q true r = inr (eqb-true (length s) 24 p, inr (refl, (eqb-true (cut 16 3 status) 0 q, eqb-true (cut 21 5 status) 0 r)))

pub record_write_table : (r : Record) (out : List ℕ) → RecordWriteTable r out (written_number (writing_of r out))
unfolding writing_of
record_write_table r out = go (fits r) refl
  where
    go : (a : Bool) → fits r ≡ a → RecordWriteTable r out (written_number (cond a (cond (leb 24 (length out)) (Ok 24) (Err NoRoom)) (Err TooWide)))
    go true p = inr (fitting r p, room_table 24 (length out))
    go false p = inl (refl, λ h. true≢false (sym (holding r h) ∙ p))

-- ---- the stream reader
module _ (s : State) (w o : List ℕ) where
  small_buffers : Small (length w) (length o) → Buffers w o → ⊥
  small_buffers b k = ⊎_elim (λ l. omega (arith, k.0)) (λ l. omega (arith, k.1)) b

  bad_state : Bad s → Sound s → ⊥
  bad_state b k = ⊎_elim (λ l. omega (arith, k.0)) (λ c. ⊎_elim (λ l. omega (arith, k.1)) (λ d. ⊎_elim (λ l. omega (arith, k.3)) (λ l. omega (arith, k.2)) d) c) b

  sound_state : (p : ℕ) → Allowed s (length w) (length o) p → Buffers w o × Sound s
  sound_state p a = ((a.window, a.output), (a.held, omega (arith, a.fits), a.sums, a.counted))

  pub finish_table : FinishTable s w o (answer_number (finish_call s w o).answer)
  finish_table =
      finish_cases s w o (λ c. FinishTable s w o (answer_number c.answer)) (λ b. inl (refl, small_buffers b)) (λ i j b. inr ((i, j), inl (refl, bad_state b)))
      (λ a. let k = sound_state 0 a in inr (k.0, inr (k.1, go (finish _ _))))
    where
      go : (f : Fed) → answer_number (finished_call s w o f).answer ≡ 0
      go (given g m h q) = refl
      go (more g h) = refl

  pub feed_table : (p : List ℕ) → FeedTable s p w o (answer_number (feed_call s p w o).answer)
  feed_table p =
      feed_cases s w o (λ c. FeedTable s p w o (answer_number c.answer)) (λ b. inl (refl, small_buffers b)) (λ i j b. inr ((i, j), inl (refl, bad_state b))) p
      (λ a n. let k = sound_state 0 a in inr (k.0, inr (k.1, inl (refl, n))))
      (λ a z l. let k = sound_state 0 a in inr (k.0, inr (k.1, inr (z, inl (refl, l)))))
      (λ a z. let k = sound_state (length p) a in inr (k.0, inr (k.1, inr (z, inr (go (feed _ _ p), a.fits)))))
    where
      go : (f : Fed) → answer_number (fed_call s w o p f).answer ≡ 0
      go (given g m h q) = refl
      go (more g h) = refl
