-- Where an answer refuses, the bytes lent and the reader's state are those of the entry. Assumes nothing.
use Rattle.std.specs.Prelude.{Result, Ok, Err}
use Prim.Native.Nat.{ℕ}
use mathlib.Core.Path.{◌≡◌, refl}
use mathlib.Core.Bool.{Bool, true, false, cond}
use mathlib.Core.List.{List}
use lib.ListN.{length}
use lib.Dec.{ltb, leb}
use Rattle.refusal.specs.declared.Refusal.TheVariants.{NoObservation, NoRoom, OtherForm, SmallBuffer, TooWide}
use Rattle.octets.specs.Parts.{over}
use Rattle.macm.specs.declared.Form.{Form}
use Rattle.macm.specs.declared.Header.{Header}
use Rattle.macm.specs.declared.Observation.{Observation}
use Rattle.macm.specs.Form.{size}
use Rattle.macm.specs.Check.{verdict}
use Rattle.refusal.specs.Written.{written_length}
use Rattle.compose.specs.Start.{started, start_of, start_bytes}
use Rattle.compose.specs.Set.{with_observation, set_by, set_of, set_bytes_by, set_bytes}
use Rattle.compose.specs.Convert.{allowed, converted, convert_by, convert_of, convert_bytes_by, convert_bytes}
use Rattle.novatel.specs.declared.Record.{Record}
use Rattle.novatel.specs.Record.{record_bytes, fits}
use Rattle.novatel.specs.Entries.{writing_of, writing_bytes}
use Rattle.history.specs.Words.{type_in}
use Rattle.history.specs.Appearances.{appearances_in}
use Rattle.history.specs.Breaks.{Kept, after_all, begun}
use Rattle.history.specs.Calls.{list_numbers, refusing, listing, call_by}
use Rattle.stream.specs.declared.State.{State}
use Rattle.stream.specs.Feed.{Fed, given, more, feed, finish}
use Rattle.stream.specs.Reader.{fed_call, feed_call, finished_call, finish_call}
use Rattle.stream.proofs.Cases.{finish_cases, feed_cases}
use Rattle.promises.specs.Numbers.{Refuses, Unchanged, UnchangedHistory}
use Rattle.refusal.specs.declared.Refusal.{Refusal}

-- ---- writing
pub start_unchanged : (h : Header) (n : ℕ) (out : List ℕ) → Refuses (start_of h n out) → start_bytes h n out ≡ out
unfolding start_of start_bytes
start_unchanged h n out = go (leb (size h.form n) (length out))
  where
    go : (b : Bool) → Refuses (cond b (Ok (size h.form n)) (Err NoRoom)) → cond b (over (started h n) out) out ≡ out
    go true r = absurd (r refl)
    go false r = refl

pub set_unchanged : (m : List ℕ) (j : ℕ) (o : Observation) → Refuses (set_of m j) → set_bytes m j o ≡ m
unfolding set_of set_by set_bytes set_bytes_by
set_unchanged m j o = go (verdict m)
  where
    go : (v : Result (Form × ℕ) Refusal) → Refuses (set_by v m j) → set_bytes_by v m j o ≡ m
    go (Err r) h = refl
    go (Ok (f, n)) h = test (ltb j n) h
      where
        test : (b : Bool) → Refuses (cond b (Ok (length m)) (Err NoObservation)) → cond b (with_observation f j o m) m ≡ m
        test true h = absurd (h refl)
        test false h = refl

-- to the new form g or to the old
pub convert_unchanged : (g : Form) (m out : List ℕ) → Refuses (convert_of g m out) → convert_bytes g m out ≡ out
unfolding convert_of convert_by convert_bytes convert_bytes_by
convert_unchanged g m out = go (verdict m)
  where
    go : (v : Result (Form × ℕ) Refusal) → Refuses (convert_by v g out) → convert_bytes_by v g m out ≡ out
    go (Err r) h = refl
    go (Ok (f, n)) h = test (allowed f g) (leb (size g n) (length out)) h
      where
        test : (a b : Bool) → Refuses (cond a (cond b (Ok (size g n)) (Err NoRoom)) (Err OtherForm)) → cond a (cond b (over (converted f g m) out) out) out ≡ out
        test true true h = absurd (h refl)
        test true false h = refl
        test false b h = refl

pub record_unchanged : (r : Record) (out : List ℕ) → Refuses (writing_of r out) → writing_bytes r out ≡ out
unfolding writing_of writing_bytes
record_unchanged r out = go (fits r) (leb 24 (length out))
  where
    go : (a b : Bool) → Refuses (cond a (cond b (Ok 24) (Err NoRoom)) (Err TooWide)) → cond a (cond b (over (record_bytes r) out) out) out ≡ out
    go true true h = absurd (h refl)
    go true false h = refl
    go false b h = refl

pub no_length : (w : Result ℕ Refusal) → Refuses w → written_length w ≡ 0
no_length (Err r) h = refl
no_length (Ok n) h = absurd (h refl)

-- ---- breaks of lock, by whatever header
pub history_unchanged : (head : Result (Header × ℕ) Refusal) (m ws list : List ℕ) → UnchangedHistory ws list (call_by head m ws list)
unfolding call_by
history_unchanged (Err r) m ws list h = (refl, refl)
history_unchanged (Ok (k, n)) m ws list h = go (ltb (length list) list_numbers) (after_all (begun ws) (appearances_in (type_in ws) k n m)) h
  where
    go : (b : Bool) (k : Kept) → UnchangedHistory ws list (cond b (refusing SmallBuffer ws list) (listing k list))
    go true k h = (refl, refl)
    go false k h = absurd (h refl)

-- ---- the stream reader
module _ (s : State) (w o : List ℕ) where
  pub feed_unchanged : (p : List ℕ) → Unchanged s w o (feed_call s p w o)
  feed_unchanged p = feed_cases s w o (Unchanged s w o) (λ b h. same) (λ i j b h. same) p (λ a n h. same) (λ a z m h. same) (λ a z. go (feed _ _ p))
    where
      same : (s ≡ s) × (w ≡ w) × (o ≡ o)
      same = (refl, refl, refl)

      go : (f : Fed) → Unchanged s w o (fed_call s w o p f)
      go (given g m h q) r = absurd (r refl)
      go (more g h) r = absurd (r refl)

  pub finish_unchanged : Unchanged s w o (finish_call s w o)
  finish_unchanged = finish_cases s w o (Unchanged s w o) (λ b h. same) (λ i j b h. same) (λ a. go (finish _ _))
    where
      same : (s ≡ s) × (w ≡ w) × (o ≡ o)
      same = (refl, refl, refl)

      go : (f : Fed) → Unchanged s w o (finished_call s w o f)
      go (given g m h q) r = absurd (r refl)
      go (more g h) r = absurd (r refl)
