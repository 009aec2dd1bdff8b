-- The numbers of documents 01 and 02, each with the condition under which an entry gives it, in the order of the tests. Definitions only.
use Rattle.std.specs.Prelude.{ℕ, ◌+◌, ◌-◌, ◌^◌, ◌≤◌, ◌<◌, ◌≡◌, true, false, ◌⊎◌, List, length, get_or, take, Result, Ok, Err}
use Rattle.octets.specs.Checksum.{checksum_of}
use Rattle.octets.specs.Parts.{part}
use Rattle.refusal.specs.Numbers.{number_of}
use Rattle.macm.specs.declared.Form.{Form}
use Rattle.macm.specs.declared.Header.{Header}
use Rattle.macm.specs.Form.{new_sync, old_sync, lead, count_at, size}
use Rattle.macm.specs.Check.{verdict}
use Rattle.macm.specs.Answers.{check_number}
use Rattle.refusal.specs.Written.{written_number}
use Rattle.compose.specs.Convert.{allowed}
use Rattle.history.specs.Calls as history
use Rattle.division.specs.declared.Next.{Next}
use Rattle.division.specs.declared.Next.TheVariants.{Message as Found, End as NoneLeft}
use Rattle.reason.specs.declared.Reason.{Reason}
use Rattle.reason.specs.declared.Reason.TheVariants.{Inside, Given, Sync, CutUnknown, CutShort, Checksum}
use Rattle.stream.specs.declared.State.{State}
use Rattle.stream.specs.declared.Answer.{Answer}
use Rattle.stream.specs.declared.Answer.TheVariants.{NeedsMore, Message, End}
use Rattle.stream.specs.Reader.{Call}
use Rattle.novatel.specs.declared.Record.{Record}
use Rattle.novatel.specs.Record.{record_of}
use Rattle.promises.specs.Record.{Holds, OfGps}
use Rattle.macm.specs.declared.Observation.{Observation}
use Rattle.novatel.specs.declared.Corrected.{Corrected}
use Rattle.refusal.specs.declared.Refusal.{Refusal}

-- ---- the number of an answer: 0 where it is no refusal
abbrev pub head_number : Result (Header × ℕ) Refusal → ℕ
head_number (Err r) = number_of r
head_number (Ok (h, n)) = 0

abbrev pub observed_number : Result Observation Refusal → ℕ
observed_number (Err r) = number_of r
observed_number (Ok o) = 0

abbrev pub next_number : Result Next Refusal → ℕ
next_number (Err r) = number_of r
next_number (Ok (Found p n g)) = 0
next_number (Ok (NoneLeft g)) = 0

abbrev pub reason_number : Result Reason Refusal → ℕ
reason_number (Err r) = number_of r
reason_number (Ok (Inside q)) = 0
reason_number (Ok (Given n)) = 0
reason_number (Ok (Sync k)) = 0
reason_number (Ok CutUnknown) = 0
reason_number (Ok (CutShort n)) = 0
reason_number (Ok (Checksum residue)) = 0

abbrev pub record_number : Result Record Refusal → ℕ
record_number (Err r) = number_of r
record_number (Ok r) = 0

abbrev pub correction_number : Result Corrected Refusal → ℕ
correction_number (Err r) = number_of r
correction_number (Ok c) = 0

abbrev pub answer_number : Result Answer Refusal → ℕ
answer_number (Err r) = number_of r
answer_number (Ok NeedsMore) = 0
answer_number (Ok (Message n g t)) = 0
answer_number (Ok (End g)) = 0

abbrev pub breaks_number : Result ℕ Refusal → ℕ
breaks_number (Err r) = number_of r
breaks_number (Ok n) = 0

-- a call of writing refuses where its number is not 0
abbrev pub Refuses : Result ℕ Refusal → Type 0
Refuses w = (written_number w ≡ 0 → ⊥)

-- a call of the stream reader whose number is not 0 leaves the state, the window and the output of its entry
abbrev pub Unchanged : State → List ℕ → List ℕ → Call → Type 0
Unchanged s w o c = (answer_number c.answer ≡ 0 → ⊥) → (c.state ≡ s) × (c.window ≡ w) × (c.output ≡ o)

-- a call for breaks whose number is not 0 leaves the history and the list of its entry
abbrev pub UnchangedHistory : List ℕ → List ℕ → history.Call → Type 0
UnchangedHistory ws list c = (breaks_number c.answer ≡ 0 → ⊥) → (c.words ≡ ws) × (c.list ≡ list)

-- ---- the message check: 1 fewer than 15 bytes; 2 the first four are neither sync string; 3 the number of bytes is not the one that form and N
-- require; then what follows
abbrev pub OfForm : (ℕ → Type 0) → Form → List ℕ → ℕ → Type 0
OfForm T f m n =
    (take 4 m ≡ take 4 (lead f))
    × (((n ≡ 3) × (length m ≡ size f (get_or m (count_at f) 0) → ⊥)) ⊎ ((length m ≡ size f (get_or m (count_at f) 0)) × T n))

abbrev pub AfterShape : (ℕ → Type 0) → List ℕ → ℕ → Type 0
AfterShape T m n =
    ((n ≡ 1) × (length m < 15))
    ⊎ ((15 ≤ length m) × (((n ≡ 2) × (take 4 m ≡ new_sync → ⊥) × (take 4 m ≡ old_sync → ⊥)) ⊎ ((f : Form) × OfForm T f m n)))

-- 4 the checksum differs
abbrev pub Differs : List ℕ → Type 0
Differs m = (checksum_of (part 4 (length m - 5) m) ≡ get_or m (length m - 1) 0 → ⊥)

abbrev pub CheckTable : List ℕ → ℕ → Type 0
CheckTable m n = AfterShape (λ i. ((i ≡ 4) × Differs m) ⊎ ((i ≡ 0) × (Differs m → ⊥))) m n

-- reading a header whose checksum has been run before: 1 to 3
abbrev pub ClaimedTable : List ℕ → ℕ → Type 0
ClaimedTable m n = AfterShape (λ i. i ≡ 0) m n

-- 1 to 4 as the check says; of an accepted message what follows
abbrev pub AfterCheck : (Form → ℕ → ℕ → Type 0) → List ℕ → ℕ → Type 0
AfterCheck T m n = ((n ≡ check_number (verdict m)) × (0 < n)) ⊎ ((f : Form) × (k : ℕ) × (verdict m ≡ Ok (f, k)) × T f k n)

-- reading a header: 1 to 4 and nothing more
abbrev pub HeadTable : List ℕ → ℕ → Type 0
HeadTable m n = AfterCheck (λ f k i. i ≡ 0) m n

-- 5 the index is N or more: with N = 0 every index
abbrev pub Index : ℕ → ℕ → ℕ → Type 0
Index k j n = ((n ≡ 5) × (k ≤ j)) ⊎ ((n ≡ 0) × (j < k))

-- reading and setting an observation
abbrev pub IndexTable : List ℕ → ℕ → ℕ → Type 0
IndexTable m j n = AfterCheck (λ f k i. Index k j i) m n

-- reading one of a form and a count that are known: 3, then 5
abbrev pub KnownTable : Form → ℕ → List ℕ → ℕ → ℕ → Type 0
KnownTable f k m j n = ((n ≡ 3) × (length m ≡ size f k → ⊥)) ⊎ ((length m ≡ size f k) × Index k j n)

-- 6 the output has fewer bytes than the message needs
abbrev pub Room : ℕ → ℕ → ℕ → Type 0
Room needed there n = ((n ≡ 6) × (there < needed)) ⊎ ((n ≡ 0) × (needed ≤ there))

abbrev pub StartTable : Header → ℕ → List ℕ → ℕ → Type 0
StartTable h k out n = Room (size h.form k) (length out) n

-- 7, before 6: the message is not of the form converted from, or, to the old form, TYPE is not 0
abbrev pub ConvertTable : Form → List ℕ → List ℕ → ℕ → Type 0
ConvertTable g m out n = AfterCheck (λ f k i. ((i ≡ 7) × (allowed f g ≡ false)) ⊎ ((allowed f g ≡ true) × Room (size g k) (length out) i)) m n

-- 8 the list has no room for 255 entries, of three numbers each: whether the message is passed over or not
abbrev pub Listable : List ℕ → ℕ → Type 0
Listable list n = ((n ≡ 8) × (length list < 765)) ⊎ ((n ≡ 0) × (765 ≤ length list))

-- after 1 to 4, or, where the checksum has been run before, 1 to 3
abbrev pub BreaksTable : List ℕ → List ℕ → ℕ → Type 0
BreaksTable m list n = AfterCheck (λ f k i. Listable list i) m n

abbrev pub ClaimedBreaksTable : List ℕ → List ℕ → ℕ → Type 0
ClaimedBreaksTable m list n = AfterShape (Listable list) m n

-- 12 the start is past the end of the slice
abbrev pub NextTable : List ℕ → ℕ → ℕ → Type 0
NextTable s start n = ((n ≡ 12) × (length s < start)) ⊎ ((n ≡ 0) × (start ≤ length s))

-- 12 the position is at the end or past it
abbrev pub ReasonTable : List ℕ → ℕ → ℕ → Type 0
ReasonTable s p n = ((n ≡ 12) × (length s ≤ p)) ⊎ ((n ≡ 0) × (p < length s))

-- 8 window or output has fewer than 6,136 bytes; 9 a held count above 6,136, a total above 2^48, gap + held above total, or more than 2^60 bytes summed
abbrev pub Buffers : List ℕ → List ℕ → Type 0
Buffers w o = (6136 ≤ length w) × (6136 ≤ length o)

abbrev pub Sound : State → Type 0
Sound s = (s.held ≤ 6136) × (s.total ≤ 2 ^ 48) × (s.gap + s.held ≤ s.total) × (s.summed ≤ 2 ^ 60)

-- then what follows
abbrev pub AfterState : (ℕ → Type 0) → State → List ℕ → List ℕ → ℕ → Type 0
AfterState T s w o n = ((n ≡ 8) × (Buffers w o → ⊥)) ⊎ (Buffers w o × (((n ≡ 9) × (Sound s → ⊥)) ⊎ (Sound s × T n)))

abbrev pub FinishTable : State → List ℕ → List ℕ → ℕ → Type 0
FinishTable s w o n = AfterState (λ i. i ≡ 0) s w o n

-- 10 feed after the end was announced; 11 total + length of the offered piece is above 2^48
abbrev pub FeedTable : State → List ℕ → List ℕ → List ℕ → ℕ → Type 0
FeedTable s p w o n =
    AfterState (λ i. ((i ≡ 10) × (s.ended ≡ 0 → ⊥)) ⊎ ((s.ended ≡ 0) × (((i ≡ 11) × (2 ^ 48 < s.total + length p)) ⊎ ((i ≡ 0) × (s.total + length p ≤ 2 ^ 48))))) s w o n

-- ---- a range record: 13 a length other than 24; 22 a corrected ADR of another signal
abbrev pub RecordTable : List ℕ → ℕ → Type 0
RecordTable s n = ((n ≡ 13) × (length s ≡ 24 → ⊥)) ⊎ ((n ≡ 0) × (length s ≡ 24))

abbrev pub CorrectionTable : List ℕ → ℕ → Type 0
CorrectionTable s n =
    ((n ≡ 13) × (length s ≡ 24 → ⊥)) ⊎ ((length s ≡ 24) × (((n ≡ 22) × (OfGps (record_of s).status → ⊥)) ⊎ ((n ≡ 0) × OfGps (record_of s).status)))

-- 23 a number that its field cannot hold, then 6
abbrev pub RecordWriteTable : Record → List ℕ → ℕ → Type 0
RecordWriteTable r out n = ((n ≡ 23) × (Holds r → ⊥)) ⊎ (Holds r × Room 24 (length out) n)
