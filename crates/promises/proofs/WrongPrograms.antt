-- The wrong versions that document 01 names: no such program meets the contract, each shown at an input or two. Assumes nothing.
use Rattle.std.specs.Prelude.{Result, Ok, Err}
use Prim.Native.Nat.{ℕ}
use mathlib.Core.Path.{◌≡◌, refl, sym, ap, ◌∙◌}
use mathlib.Core.List.{List, [], ◌∷◌, ◌++◌}
use native.Mathlib.Omega.{arith}
use lib.ListN.{length, get_or, replicate}
use lib.IntN.{pos}
use contract.Lifetimes.{Lfts}
use denote.Ref.{Bor, MutBor}
use denote.Triple.Entry.{Args}
use Rattle.octets.specs.Begins.{fit}
use Rattle.octets.specs.Checksum.{checksum_from}
use Rattle.octets.specs.Numbers.{number_from, bytes_of}
use Rattle.units.specs.Units.{lock_of}
use Rattle.refusal.specs.declared.Refusal.{Refusal}
use Rattle.refusal.proofs.Numbered.{positive}
use Rattle.macm.specs.declared.Form.TheVariants.{New, Old}
use Rattle.macm.specs.declared.Observation.{Observation}
use Rattle.macm.specs.Check.{form_of, agrees, shape_as, shape_by, shape_of, verdict_by, verdict}
use Rattle.macm.specs.Observation.{observation_bytes}
use Rattle.macm.specs.Read.{header_of, head_by, head_of, observed_as, observed_by, observed_of}
use Rattle.macm.specs.Answers.{check_number, header_in}
use Rattle.compose.specs.Seal.{sealed}
use Rattle.compose.specs.Set.{with_observation, set_of, set_bytes_by, set_bytes}
use Rattle.front.specs.Claim.{counted, claim_by, claim}
use Rattle.front.specs.Look.{judged, look_by, look}
use Rattle.stream.specs.declared.State.{State}
use Rattle.stream.specs.declared.Answer.TheVariants.{NeedsMore, Message}
use Rattle.stream.specs.Scan.{settle, seen, scanned, scan}
use Rattle.stream.specs.Feed.{fed, feed}
use Rattle.stream.specs.Reader.{fresh_state, checked, feed_checked_by, feed_checked, Call, reply_of, feed_call}
use Rattle.promises.specs.Numbers.{observed_number}
use Rattle.samples.specs.Table.{A, B, All}
use Rattle.samples.proofs.Proved.{samples}
use Rattle.owed.specs.Meets.{Program, Meets}
use Rattle.macm.specs.contracts as macm_contracts
use Rattle.macm.proofs as macm
use Rattle.compose.specs.contracts as compose_contracts
use Rattle.compose.proofs as compose
use Rattle.stream.specs.contracts as stream_contracts
use Rattle.stream.proofs as stream
use Rattle.macm.specs.declared.Header.{Header}

-- a reference to these bytes, wherever they stand, and one by which they may change
abbrev reference : List ℕ → Bor (List ℕ)
reference xs = record { ref_ptr = (0, 0); now = xs }

abbrev mutable : List ℕ → MutBor (List ℕ)
mutable xs = record { ref_ptr = (0, 0); ghost_name = 0; now = xs }

-- ---- a check that refuses everything: A is accepted
A_accepted : check_number (verdict A) ≡ 0
unfolding All
A_accepted = samples.1.1.0

B_accepted : check_number (verdict B) ≡ 0
unfolding All
B_accepted = samples.1.1.1.0

pub not_refusing_everything :
    (check : Program macm_contracts.check.ended) → ((κs : Lfts 1) (a : Args macm_contracts.check.signature κs) → (r : Refusal) × (check.answers κs a ≡ Err r)) →
    Meets macm_contracts.check.ended macm.check.Reads.Learnt check →
    ⊥
not_refusing_everything check refuses meets =
    let κs : Lfts 1 = ([], tt) in
    let a : Args macm_contracts.check.signature κs = (reference A, tt) in
    let r = refuses κs a in
    let z : check_number (verdict A) ≡ check_number (Err r.0) = ap check_number (sym (meets κs a) ∙ r.1) in
    omega (arith, positive r.0, A_accepted, z)

-- ---- a read of the header that gives one fixed answer, be it only of accepted messages: A and B are of different forms
A_read : head_of A ≡ Ok (record { form = New 0 0; time = 245370000; offset = 0x407C1000 }, 0)
unfolding head_of head_by header_of verdict verdict_by shape_of shape_by shape_as form_of agrees fit checksum_from number_from
A_read = refl

B_read : head_of B ≡ Ok (record { form = Old 2; time = 245370000; offset = 0x407C1000 }, 0)
unfolding head_of head_by header_of verdict verdict_by shape_of shape_by shape_as form_of agrees fit checksum_from number_from
B_read = refl

pub not_one_fixed_header :
    (read : Program macm_contracts.read_header.ended) (fixed : Result (Header × ℕ) Refusal) →
    ((κs : Lfts 1) (a : Args macm_contracts.read_header.signature κs) → check_number (verdict a.0.now) ≡ 0 → read.answers κs a ≡ fixed) →
    Meets macm_contracts.read_header.ended macm.read_header.Reads.Learnt read →
    ⊥
not_one_fixed_header read fixed always meets =
    let κs : Lfts 1 = ([], tt) in
    let p = sym (always κs (reference A, tt) A_accepted) ∙ meets κs (reference A, tt) ∙ A_read in
    let q = sym (always κs (reference B, tt) B_accepted) ∙ meets κs (reference B, tt) ∙ B_read in
    let e : New 0 0 ≡ Old 2 = ap (λ r. (header_in r).form) (sym p ∙ q) in
    let z : ◌≡◌ {A = ℕ} 0 1 = cc in
    omega arith

-- ---- a read of an observation that gives one fixed answer: a message with one observation has none at index 1
abbrev one : List ℕ
one = 0x4D ∷ 0x41 ∷ 0x43 ∷ 0x4D ∷ 0 ∷ 1 ∷ (replicate 32 0 ++ (1 ∷ []))

one_accepted : check_number (verdict one) ≡ 0
unfolding verdict verdict_by shape_of shape_by shape_as form_of agrees fit checksum_from
one_accepted = refl

first_read : observed_number (observed_of one 0) ≡ 0
unfolding observed_of observed_by observed_as verdict verdict_by shape_of shape_by shape_as form_of agrees fit checksum_from
first_read = refl

second_read : observed_number (observed_of one 1) ≡ 5
unfolding observed_of observed_by observed_as verdict verdict_by shape_of shape_by shape_as form_of agrees fit checksum_from
second_read = refl

pub not_one_fixed_observation :
    (read : Program macm_contracts.read_observation.ended) (fixed : Result Observation Refusal) →
    ((κs : Lfts 1) (a : Args macm_contracts.read_observation.signature κs) → check_number (verdict a.0.now) ≡ 0 → read.answers κs a ≡ fixed) →
    Meets macm_contracts.read_observation.ended macm.read_observation.Reads.Learnt read →
    ⊥
not_one_fixed_observation read fixed always meets =
    let κs : Lfts 1 = ([], tt) in
    let p = sym (always κs (reference one, (0, tt)) one_accepted) ∙ meets κs (reference one, (0, tt)) in
    let q = sym (always κs (reference one, (1, tt)) one_accepted) ∙ meets κs (reference one, (1, tt)) in
    let z : ◌≡◌ {A = ℕ} 0 5 = sym first_read ∙ ap observed_number (sym p ∙ q) ∙ second_read in
    omega arith

-- ---- a set that writes nothing: in a message with one all-zero observation it owes the SID given
abbrev seven : Observation
seven = record { sid = 7; condition = 0; cn0 = 0; phase = 0; pseudorange = 0; rate = pos 0; lock = lock_of 0 }

set_owes : get_or (set_bytes one 0 seven) 14 0 ≡ 7
unfolding set_bytes set_bytes_by with_observation sealed observation_bytes bytes_of verdict verdict_by shape_of shape_by shape_as form_of agrees fit checksum_from
set_owes = refl

pub not_writing_nothing :
    (set : Program compose_contracts.set.ended) → ((κs : Lfts 1) (a : Args compose_contracts.set.signature κs) → (set.leaves κs a).0 ≡ a.0.now) →
    Meets compose_contracts.set.ended compose.set.Reads.Learnt set →
    ⊥
not_writing_nothing set Writes-nothing meets =
    let κs : Lfts 1 = ([], tt) in
    let a : Args compose_contracts.set.signature κs = (mutable one, (0, (seven, tt))) in
    let z : ◌≡◌ {A = ℕ} 0 7 = ap (λ m. get_or m 14 0) (sym (Writes-nothing κs a) ∙ (meets κs a).1) ∙ set_owes in
    omega arith

-- ---- the stream reader, lent a window and an output of 6,136 zeros
abbrev lent : List ℕ
lent = replicate 6136 0

abbrev Fed : (κs : Lfts 3) → State → List ℕ → Args stream_contracts.feed.signature κs
Fed κs s p = (s, (reference p, (mutable lent, (mutable lent, tt))))

-- one that finds the first message and then, once bytes are taken, only says that it needs more: fed A again, it owes A
abbrev later : State
later = record { held = 0; gap = 0; total = 16; ended = 0; summed = 0 }

later_owes : (feed_call later A lent lent).answer ≡ Ok (Message 16 0 16)
unfolding feed_call feed_checked feed_checked_by checked feed fed scan scanned seen settle look look_by judged claim claim_by counted fit agrees checksum_from
later_owes = refl

pub not_only_the_first :
    (feed : Program stream_contracts.feed.ended) → ((κs : Lfts 3) (a : Args stream_contracts.feed.signature κs) → (a.0.total ≡ 0 → ⊥) → (feed.answers κs a).answer ≡ (Ok NeedsMore)) →
    Meets stream_contracts.feed.ended stream.feed.Reads.Learnt feed →
    ⊥
not_only_the_first feed only-needs meets =
    let κs : Lfts 3 = ([], ([], ([], tt))) in
    let a = Fed κs later A in
    let p : (Ok NeedsMore) ≡ Ok (Message 16 0 16) = sym (only-needs κs a (λ e. omega arith)) ∙ ap (λ r. r.answer) (meets κs a).reply ∙ later_owes in
    let z : ◌≡◌ {A = ℕ} 0 1 = cc in
    omega arith

-- one that invents its gap or its taken counts, without regard to the bytes: a zero before A and a zero behind it differ in both
before_owes : (feed_call fresh_state (0 ∷ A) lent lent).answer ≡ Ok (Message 16 1 17)
unfolding feed_call feed_checked feed_checked_by checked feed fed scan scanned seen settle look look_by judged claim claim_by counted fit agrees checksum_from
before_owes = refl

behind_owes : (feed_call fresh_state (A ++ (0 ∷ [])) lent lent).answer ≡ Ok (Message 16 0 16)
unfolding feed_call feed_checked feed_checked_by checked feed fed scan scanned seen settle look look_by judged claim claim_by counted fit agrees checksum_from
behind_owes = refl

module _ (feed : Program stream_contracts.feed.ended) (guess : State → ℕ → ℕ) (meets : Meets stream_contracts.feed.ended stream.feed.Reads.Learnt feed) where
  lifetimes : Lfts 3
  lifetimes = ([], ([], ([], tt)))

  before : (feed.answers lifetimes (Fed lifetimes fresh_state (0 ∷ A))).answer ≡ Ok (Message 16 1 17)
  before = ap (λ r. r.answer) (meets lifetimes (Fed lifetimes fresh_state (0 ∷ A))).reply ∙ before_owes

  behind : (feed.answers lifetimes (Fed lifetimes fresh_state (A ++ (0 ∷ [])))).answer ≡ Ok (Message 16 0 16)
  behind = ap (λ r. r.answer) (meets lifetimes (Fed lifetimes fresh_state (A ++ (0 ∷ [])))).reply ∙ behind_owes

  pub not_an_invented_gap : ((κs : Lfts 3) (a : Args stream_contracts.feed.signature κs) (n g t : ℕ) → (feed.answers κs a).answer ≡ Ok (Message n g t) → g ≡ guess a.0 (length a.1.0.now)) → ⊥
  not_an_invented_gap invents = omega (arith, invents lifetimes _ 16 1 17 before, invents lifetimes _ 16 0 16 behind)

  pub not_an_invented_taken_count : ((κs : Lfts 3) (a : Args stream_contracts.feed.signature κs) (n g t : ℕ) → (feed.answers κs a).answer ≡ Ok (Message n g t) → t ≡ guess a.0 (length a.1.0.now)) → ⊥
  not_an_invented_taken_count invents = omega (arith, invents lifetimes _ 16 1 17 before, invents lifetimes _ 16 0 16 behind)

-- ---- and no contract of these shuts out everything: what the definitions say meets it
pub right_check : Meets macm_contracts.check.ended macm.check.Reads.Learnt (record { answers = λ κs a. verdict a.0.now; leaves = λ κs a. (tt, tt) })
right_check κs a = refl

pub right_header : Meets macm_contracts.read_header.ended macm.read_header.Reads.Learnt (record { answers = λ κs a. head_of a.0.now; leaves = λ κs a. (tt, tt) })
right_header κs a = refl

pub right_observation :
    Meets macm_contracts.read_observation.ended macm.read_observation.Reads.Learnt (record { answers = λ κs a. observed_of a.0.now a.1.0; leaves = λ κs a. (tt, (tt, tt)) })
right_observation κs a = refl

pub right_set :
    Meets compose_contracts.set.ended compose.set.Reads.Learnt
    (record { answers = λ κs a. set_of a.0.now a.1.0; leaves = λ κs a. (set_bytes a.0.now a.1.0 a.1.1.0, (tt, (tt, tt))) })
right_set κs a = (refl, refl)

abbrev fed_as : (κs : Lfts 3) → Args stream_contracts.feed.signature κs → Call
fed_as κs a = feed_call a.0 a.1.0.now a.1.1.0.now a.1.1.1.0.now

pub right_feed :
    Meets stream_contracts.feed.ended stream.feed.Reads.Learnt
    (record { answers = λ κs a. reply_of (fed_as κs a); leaves = λ κs a. (tt, (tt, ((fed_as κs a).window, ((fed_as κs a).output, tt)))) })
right_feed κs a = record { reply = refl; window = refl; output = refl }
