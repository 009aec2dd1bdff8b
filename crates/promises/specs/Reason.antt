-- What each reason says of a position of a recording: over the messages that the division gives, and the bytes themselves. Definitions only.
use Rattle.std.specs.Prelude.{ℕ, ◌+◌, ◌-◌, ◌≤◌, ◌<◌, ◌≡◌, ◌⊎◌, List, length, get_or, take, drop, Result, Ok, Err}
use Rattle.octets.specs.Checksum.{checksum_of}
use Rattle.octets.specs.Parts.{part}
use Rattle.refusal.specs.declared.Refusal.TheVariants.{PastEnd}
use Rattle.macm.specs.declared.Form.{Form}
use Rattle.macm.specs.Form.{lead, count_at, size}
use Rattle.division.specs.Division.{divide}
use Rattle.reason.specs.declared.Reason.{Reason}
use Rattle.reason.specs.declared.Reason.TheVariants.{Inside, Given as GivenHere, Sync, CutUnknown, CutShort, Checksum}
use Rattle.promises.specs.Run.{Run, as_run}
use Rattle.promises.specs.Given.{Given, Uncovered}
use Rattle.refusal.specs.declared.Refusal.{Refusal}

-- the messages that the division of a recording gives
abbrev pub messages : List ℕ → Run
messages s = as_run (divide s 0)

-- a position of the recording where none is given, and which none covers
pub record Free (s : List ℕ) (p : ℕ) : Type 0 where
  pub there : p < length s
  pub none_given : (m : List ℕ) → Given (messages s) p m → ⊥
  pub none_covers : Uncovered (messages s) p

-- MAC2 or MACM
abbrev pub sync_of : Form → List ℕ
sync_of f = take 4 (lead f)

-- byte k is the first that fits neither form: the bytes before it are those of one form's sync string, and with it they are those of neither
pub record FitsNeither (xs : List ℕ) (k : ℕ) : Type 0 where
  pub from_one : 1 ≤ k
  pub to_four : k ≤ 4
  pub here : k ≤ length xs
  pub form : Form
  pub before : take (k - 1) xs ≡ take (k - 1) (sync_of form)
  pub neither : (f : Form) → take k xs ≡ take k (sync_of f) → ⊥

-- the bytes end before the count byte of a form, and what there is of the sync string is that form's
pub record EndsBeforeCount (xs : List ℕ) : Type 0 where
  pub form : Form
  pub sync : take 4 xs ≡ take (length xs) (sync_of form)
  pub ends : length xs ≤ count_at form

-- a form's sync string stands there, and its count byte says n bytes
pub record Claims (xs : List ℕ) (n : ℕ) : Type 0 where
  pub form : Form
  pub sync : take 4 xs ≡ sync_of form
  pub counted : count_at form < length xs
  pub long : n ≡ size form (get_or xs (count_at form) 0)

-- all n bytes are here, and the exclusive or of byte 5 up to and with the checksum is not 0
pub record ChecksumOff (xs : List ℕ) (n residue : ℕ) : Type 0 where
  pub claims : Claims xs n
  pub here : n ≤ length xs
  pub off : residue ≡ checksum_of (part 4 (n - 4) xs)
  pub never_zero : residue ≡ 0 → ⊥

abbrev pub Holds : List ℕ → ℕ → Result Reason Refusal → Type 0
Holds s p (Err r) = (r ≡ PastEnd) × (length s ≤ p)
Holds s p (Ok (Inside q)) = (m : List ℕ) × Given (messages s) q m × (q < p) × (p < q + length m)
Holds s p (Ok (GivenHere n)) = (m : List ℕ) × Given (messages s) p m × (n ≡ length m)
Holds s p (Ok (Sync k)) = Free s p × FitsNeither (drop p s) k
Holds s p (Ok CutUnknown) = Free s p × EndsBeforeCount (drop p s)
Holds s p (Ok (CutShort n)) = Free s p × (1 ≤ n) × Claims (drop p s) (length (drop p s) + n)
Holds s p (Ok (Checksum residue)) = Free s p × ((n : ℕ) × ChecksumOff (drop p s) n residue)

-- ---- a part of the recording in its place

-- the reason at a position that is counted from q on, counted from the recording's start
abbrev pub shifted : ℕ → Result Reason Refusal → Result Reason Refusal
shifted q (Err r) = Err r
shifted q (Ok (Inside start)) = Ok (Inside (q + start))
shifted q (Ok (GivenHere n)) = Ok (GivenHere n)
shifted q (Ok (Sync k)) = Ok (Sync k)
shifted q (Ok CutUnknown) = (Ok CutUnknown)
shifted q (Ok (CutShort n)) = Ok (CutShort n)
shifted q (Ok (Checksum residue)) = Ok (Checksum residue)

-- q is the first byte of the given message that covers p, or p itself where none does
abbrev pub CoverBegins : List ℕ → ℕ → ℕ → Type 0
CoverBegins s p q = ((q ≡ p) × Uncovered (messages s) p) ⊎ ((q < p) × ((m : List ℕ) × Given (messages s) q m × (p < q + length m)))
