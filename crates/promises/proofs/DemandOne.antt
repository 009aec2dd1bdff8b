-- Demand 1: every entry open to callers takes all inputs and refuses by 01's numbers, and a refusal changes no lent buffer and no reader state. That an
-- entry ends is part of what `rt` proves of each function. Assumes nothing.
use Rattle.std.specs.Prelude.{Result}
use Prim.Native.Nat.{ℕ}
use mathlib.Core.Path.{◌≡◌, refl}
use mathlib.Core.List.{List}
use contract.Lifetimes.{Lfts}
use base.Logic.{emp}
use denote.Triple.Entry.{Args}
use borrow.Fn.World.{World}
use Rattle.macm.specs.declared.Form.{Form}
use Rattle.macm.specs.declared.Header.{Header}
use Rattle.macm.specs.declared.Observation.{Observation}
use Rattle.macm.specs.Check.{verdict}
use Rattle.macm.specs.Answers.{check_number}
use Rattle.macm.specs.Read.{claimed_head, head_of, observed_as, observed_of}
use Rattle.refusal.specs.Written.{written_number, written_length}
use Rattle.compose.specs.Start.{start_of, start_bytes}
use Rattle.compose.specs.Set.{set_of, set_bytes}
use Rattle.compose.specs.Convert.{convert_of, convert_bytes}
use Rattle.history.specs.Calls.{next_call, claimed_call}
use Rattle.division.specs.Plain.{next_of}
use Rattle.reason.specs.Reason.{reason_of}
use Rattle.novatel.specs.declared.Record.{Record}
use Rattle.novatel.specs.Entries.{reading_of, writing_of, writing_bytes, correction_of}
use Rattle.stream.specs.declared.State.{State}
use Rattle.stream.specs.Reader.{feed_call, finish_call}
use Rattle.owed.specs.Meets.{AsksNothing}
use Rattle.promises.specs.Numbers.{head_number, observed_number, breaks_number, next_number, reason_number, record_number, correction_number, answer_number, Refuses, Unchanged, UnchangedHistory, CheckTable, ClaimedTable, HeadTable, IndexTable, KnownTable, StartTable, ConvertTable, BreaksTable, ClaimedBreaksTable, NextTable, ReasonTable, FinishTable, FeedTable, RecordTable, CorrectionTable, RecordWriteTable}
use Rattle.promises.proofs.Numbers as numbers
use Rattle.promises.proofs.Unchanged as unchanged
use Rattle.octets.specs.contracts as octets_contracts
use Rattle.octets.proofs as octets
use Rattle.bits.specs.contracts as bits_contracts
use Rattle.bits.proofs as bits
use Rattle.units.specs.contracts as units_contracts
use Rattle.units.proofs as units
use Rattle.refusal.specs.contracts as refusal_contracts
use Rattle.refusal.proofs as refusals
use Rattle.macm.specs.contracts as macm_contracts
use Rattle.macm.proofs as macm
use Rattle.novatel.specs.contracts as novatel_contracts
use Rattle.novatel.proofs as novatel
use Rattle.compose.specs.contracts as compose_contracts
use Rattle.compose.proofs as compose
use Rattle.track.specs.contracts as track_contracts
use Rattle.track.proofs as track
use Rattle.history.specs.contracts as history_contracts
use Rattle.history.proofs as history
use Rattle.argument.specs.contracts as argument_contracts
use Rattle.argument.proofs as argument
use Rattle.front.specs.contracts as front_contracts
use Rattle.front.proofs as front
use Rattle.division.specs.contracts as division_contracts
use Rattle.division.proofs as division
use Rattle.stream.specs.contracts as stream_contracts
use Rattle.stream.proofs as stream
use Rattle.reason.specs.contracts as reason_contracts
use Rattle.reason.proofs as reason
use Rattle.account.specs.contracts as account_contracts
use Rattle.account.proofs as account
use Rattle.words.specs.contracts as words_contracts
use Rattle.words.proofs as words
use Rattle.text.specs.contracts as text_contracts
use Rattle.text.proofs as text
use Rattle.lines.specs.contracts as lines_contracts
use Rattle.lines.proofs as lines
use Rattle.board.specs.contracts as board_contracts
use Rattle.board.proofs as board
use Rattle.refusal.specs.declared.Refusal.{Refusal}

-- ---- it refuses by the numbers of 01 and 02: each under its condition, in the order of the tests, and 0 where none holds (promises/specs/Numbers.antt)
pub check_by_number : (m : List ℕ) → CheckTable m (check_number (verdict m))
check_by_number m = numbers.check_table m

pub header_by_number : (m : List ℕ) → HeadTable m (head_number (head_of m))
header_by_number m = numbers.head_table m

pub observation_by_number : (m : List ℕ) (j : ℕ) → IndexTable m j (observed_number (observed_of m j))
observation_by_number m j = numbers.observed_table m j

-- and those that run no checksum
pub claimed_by_number : (m : List ℕ) → ClaimedTable m (head_number (claimed_head m))
claimed_by_number m = numbers.claimed_table m

pub known_by_number : (f : Form) (k : ℕ) (m : List ℕ) (j : ℕ) → KnownTable f k m j (observed_number (observed_as f k m j))
known_by_number f k m j = numbers.known_table f k m j

pub start_by_number : (h : Header) (n : ℕ) (out : List ℕ) → StartTable h n out (written_number (start_of h n out))
start_by_number h n out = numbers.start_table h n out

pub set_by_number : (m : List ℕ) (j : ℕ) → IndexTable m j (written_number (set_of m j))
set_by_number m j = numbers.set_table m j

-- g is the form converted to: `to_new` and `to_old`
pub convert_by_number : (g : Form) (m out : List ℕ) → ConvertTable g m out (written_number (convert_of g m out))
convert_by_number g m out = numbers.convert_table g m out

-- breaks of lock, with the check and without its checksum
pub breaks_by_number : (m ws list : List ℕ) → BreaksTable m list (breaks_number (next_call m ws list).answer)
breaks_by_number m ws list = numbers.breaks_table m ws list

pub claimed_breaks_by_number : (m ws list : List ℕ) → ClaimedBreaksTable m list (breaks_number (claimed_call m ws list).answer)
claimed_breaks_by_number m ws list = numbers.claimed_breaks_table m ws list

pub next_by_number : (s : List ℕ) (start : ℕ) → NextTable s start (next_number (next_of s start))
next_by_number s start = numbers.next_table s start

pub why_by_number : (s : List ℕ) (p : ℕ) → ReasonTable s p (reason_number (reason_of s p))
why_by_number s p = numbers.reason_table s p

pub record_by_number : (s : List ℕ) → RecordTable s (record_number (reading_of s))
record_by_number s = numbers.record_table s

pub correction_by_number : (s : List ℕ) → CorrectionTable s (correction_number (correction_of s))
correction_by_number s = numbers.correction_table s

pub record_write_by_number : (r : Record) (out : List ℕ) → RecordWriteTable r out (written_number (writing_of r out))
record_write_by_number r out = numbers.record_write_table r out

pub feed_by_number : (s : State) (p w o : List ℕ) → FeedTable s p w o (answer_number (feed_call s p w o).answer)
feed_by_number s p w o = numbers.feed_table s w o p

pub finish_by_number : (s : State) (w o : List ℕ) → FinishTable s w o (answer_number (finish_call s w o).answer)
finish_by_number s w o = numbers.finish_table s w o

-- ---- a refusal changes no lent buffer and no history, and hands back no length
pub start_refused : (h : Header) (n : ℕ) (out : List ℕ) → Refuses (start_of h n out) → start_bytes h n out ≡ out
start_refused h n out r = unchanged.start_unchanged h n out r

pub set_refused : (m : List ℕ) (j : ℕ) (o : Observation) → Refuses (set_of m j) → set_bytes m j o ≡ m
set_refused m j o r = unchanged.set_unchanged m j o r

pub convert_refused : (g : Form) (m out : List ℕ) → Refuses (convert_of g m out) → convert_bytes g m out ≡ out
convert_refused g m out r = unchanged.convert_unchanged g m out r

pub record_write_refused : (r : Record) (out : List ℕ) → Refuses (writing_of r out) → writing_bytes r out ≡ out
record_write_refused r out h = unchanged.record_unchanged r out h

pub breaks_refused : (m ws list : List ℕ) → UnchangedHistory ws list (next_call m ws list)
breaks_refused m ws list = unchanged.history_unchanged (head_of m) m ws list

pub claimed_breaks_refused : (m ws list : List ℕ) → UnchangedHistory ws list (claimed_call m ws list)
claimed_breaks_refused m ws list = unchanged.history_unchanged (claimed_head m) m ws list

pub refused_hands_back_nothing : (w : Result ℕ Refusal) → Refuses w → written_length w ≡ 0
refused_hands_back_nothing w r = unchanged.no_length w r

-- ---- nor the reader's state, nor the window and the output lent to it
pub feed_refused : (s : State) (p w o : List ℕ) → Unchanged s w o (feed_call s p w o)
feed_refused s p w o = unchanged.feed_unchanged s w o p

pub finish_refused : (s : State) (w o : List ℕ) → Unchanged s w o (finish_call s w o)
finish_refused s w o = unchanged.finish_unchanged s w o

-- ---- it takes all inputs, so nobody has to check first: what an entry asks, which the checker makes of its `requires`, always holds
pub reading_asks_nothing :
    AsksNothing macm_contracts.check.ended macm.check.Reads.Asked
    × AsksNothing macm_contracts.read_header.ended macm.read_header.Reads.Asked
    × AsksNothing macm_contracts.read_observation.ended macm.read_observation.Reads.Asked
    × AsksNothing macm_contracts.claimed_header.ended macm.claimed_header.Reads.Asked
    × AsksNothing macm_contracts.observation_as.ended macm.observation_as.Reads.Asked
    × AsksNothing division_contracts.next_message.ended division.next_message.Reads.Asked
    × AsksNothing division_contracts.message_part.ended division.message_part.Reads.Asked
    × AsksNothing reason_contracts.reason_at.ended reason.reason_at.Reads.Asked
reading_asks_nothing = ((λ κs a. tt), (λ κs a. tt), (λ κs a. tt), (λ κs a. tt), (λ κs a. tt), (λ κs a. tt), (λ κs a. tt), (λ κs a. tt))

pub claimed_messages_ask_nothing :
    AsksNothing macm_contracts.claimed.Claimed.of.ended macm.claimed.Claimed.of.Reads.Asked
    × AsksNothing macm_contracts.claimed.Claimed.checked.ended macm.claimed.Claimed.checked.Reads.Asked
    × AsksNothing macm_contracts.claimed.Claimed.form.ended macm.claimed.Claimed.form.Reads.Asked
    × AsksNothing macm_contracts.claimed.Claimed.count.ended macm.claimed.Claimed.count.Reads.Asked
    × AsksNothing macm_contracts.claimed.Claimed.header.ended macm.claimed.Claimed.header.Reads.Asked
    × AsksNothing macm_contracts.claimed.Claimed.observation.ended macm.claimed.Claimed.observation.Reads.Asked
    × AsksNothing macm_contracts.claimed.Claimed.observations.ended macm.claimed.Claimed.observations.Reads.Asked
claimed_messages_ask_nothing = ((λ κs a. tt), (λ κs a. tt), (λ κs a. tt), (λ κs a. tt), (λ κs a. tt), (λ κs a. tt), (λ κs a. tt))

pub writing_asks_nothing :
    AsksNothing compose_contracts.start.ended compose.start.Reads.Asked
    × AsksNothing compose_contracts.set.ended compose.set.Reads.Asked
    × AsksNothing compose_contracts.to_new.ended compose.to_new.Reads.Asked
    × AsksNothing compose_contracts.to_old.ended compose.to_old.Reads.Asked
writing_asks_nothing = ((λ κs a. tt), (λ κs a. tt), (λ κs a. tt), (λ κs a. tt))

pub streaming_asks_nothing :
    AsksNothing stream_contracts.fresh.ended stream.fresh.Reads.Asked
    × AsksNothing stream_contracts.feed.ended stream.feed.Reads.Asked
    × AsksNothing stream_contracts.finish.ended stream.finish.Reads.Asked
streaming_asks_nothing = ((λ κs a. tt), (λ κs a. tt), (λ κs a. tt))

pub track_asks_nothing :
    AsksNothing track_contracts.range_of.ended track.range_of.Reads.Asked
    × AsksNothing track_contracts.plot_row.ended track.plot_row.Reads.Asked
    × AsksNothing track_contracts.phase_of.ended track.phase_of.Reads.Asked
    × AsksNothing track_contracts.offset_of.ended track.offset_of.Reads.Asked
    × AsksNothing track_contracts.condition_of.ended track.condition_of.Reads.Asked
track_asks_nothing = ((λ κs a. tt), (λ κs a. tt), (λ κs a. tt), (λ κs a. tt), (λ κs a. tt))

pub histories_ask_nothing :
    AsksNothing history_contracts.fresh.ended history.fresh.Reads.Asked
    × AsksNothing history_contracts.next_breaks.ended history.next_breaks.Reads.Asked
    × AsksNothing history_contracts.claimed_breaks.ended history.claimed_breaks.Reads.Asked
histories_ask_nothing = ((λ κs a. tt), (λ κs a. tt), (λ κs a. tt))

pub records_ask_nothing :
    AsksNothing novatel_contracts.read_record.ended novatel.read_record.Reads.Asked
    × AsksNothing novatel_contracts.write_record.ended novatel.write_record.Reads.Asked
    × AsksNothing novatel_contracts.corrected_adr.ended novatel.corrected_adr.Reads.Asked
    × AsksNothing novatel_contracts.deviation_of_range.ended novatel.deviation_of_range.Reads.Asked
    × AsksNothing novatel_contracts.deviation_of_adr.ended novatel.deviation_of_adr.Reads.Asked
records_ask_nothing = ((λ κs a. tt), (λ κs a. tt), (λ κs a. tt), (λ κs a. tt), (λ κs a. tt))

pub board_asks_nothing :
    AsksNothing board_contracts.cs_check.ended board.cs_check.Reads.Asked
    × AsksNothing board_contracts.cs_read_header.ended board.cs_read_header.Reads.Asked
    × AsksNothing board_contracts.cs_read_observation.ended board.cs_read_observation.Reads.Asked
    × AsksNothing board_contracts.cs_start.ended board.cs_start.Reads.Asked
    × AsksNothing board_contracts.cs_set.ended board.cs_set.Reads.Asked
    × AsksNothing board_contracts.cs_to_new.ended board.cs_to_new.Reads.Asked
    × AsksNothing board_contracts.cs_to_old.ended board.cs_to_old.Reads.Asked
    × AsksNothing board_contracts.cs_next.ended board.cs_next.Reads.Asked
    × AsksNothing board_contracts.cs_why.ended board.cs_why.Reads.Asked
    × AsksNothing board_contracts.cs_fresh.ended board.cs_fresh.Reads.Asked
    × AsksNothing board_contracts.cs_feed.ended board.cs_feed.Reads.Asked
    × AsksNothing board_contracts.cs_finish.ended board.cs_finish.Reads.Asked
    × AsksNothing board_contracts.cs_breaks_fresh.ended board.cs_breaks_fresh.Reads.Asked
    × AsksNothing board_contracts.cs_breaks.ended board.cs_breaks.Reads.Asked
    × AsksNothing board_contracts.cs_range_um.ended board.cs_range_um.Reads.Asked
    × AsksNothing board_contracts.cs_lock_ms.ended board.cs_lock_ms.Reads.Asked
    × AsksNothing board_contracts.cs_phase.ended board.cs_phase.Reads.Asked
    × AsksNothing board_contracts.cs_plot_row.ended board.cs_plot_row.Reads.Asked
    × AsksNothing board_contracts.cs_rangecmp_read.ended board.cs_rangecmp_read.Reads.Asked
    × AsksNothing board_contracts.cs_rangecmp_write.ended board.cs_rangecmp_write.Reads.Asked
    × AsksNothing board_contracts.cs_rangecmp_adr.ended board.cs_rangecmp_adr.Reads.Asked
    × AsksNothing board_contracts.cs_rangecmp_range_mm.ended board.cs_rangecmp_range_mm.Reads.Asked
    × AsksNothing board_contracts.cs_rangecmp_adr_512ths.ended board.cs_rangecmp_adr_512ths.Reads.Asked
board_asks_nothing =
    ((λ κs a. tt), (λ κs a. tt), (λ κs a. tt), (λ κs a. tt), (λ κs a. tt), (λ κs a. tt), (λ κs a. tt), (λ κs a. tt), (λ κs a. tt), (λ κs a. tt), (λ κs a. tt), (λ κs a. tt), (λ κs a. tt), (λ κs a. tt), (λ κs a. tt), (λ κs a. tt), (λ κs a. tt), (λ κs a. tt), (λ κs a. tt), (λ κs a. tt), (λ κs a. tt), (λ κs a. tt), (λ κs a. tt))

-- and the parts that the entries are made of
pub bytes_ask_nothing :
    AsksNothing octets_contracts.checksum.ended octets.checksum.Reads.Asked
    × AsksNothing octets_contracts.common_to.ended octets.common_to.Reads.Asked
    × AsksNothing octets_contracts.fits.ended octets.fits.Reads.Asked
    × AsksNothing octets_contracts.starts.ended octets.starts.Reads.Asked
    × AsksNothing octets_contracts.number_of.ended octets.number_of.Reads.Asked
    × AsksNothing octets_contracts.put_number.ended octets.put_number.Reads.Asked
    × AsksNothing octets_contracts.signed_in.ended octets.signed_in.Reads.Asked
    × AsksNothing octets_contracts.raw_in.ended octets.raw_in.Reads.Asked
    × AsksNothing octets_contracts.holds_signed.ended octets.holds_signed.Reads.Asked
    × AsksNothing octets_contracts.copy.ended octets.copy.Reads.Asked
bytes_ask_nothing = ((λ κs a. tt), (λ κs a. tt), (λ κs a. tt), (λ κs a. tt), (λ κs a. tt), (λ κs a. tt), (λ κs a. tt), (λ κs a. tt), (λ κs a. tt), (λ κs a. tt))

pub fields_ask_nothing :
    AsksNothing bits_contracts.Field.read.ended bits.Field.read.Reads.Asked
    × AsksNothing bits_contracts.Field.write.ended bits.Field.write.Reads.Asked
    × AsksNothing bits_contracts.Field.read_signed.ended bits.Field.read_signed.Reads.Asked
    × AsksNothing bits_contracts.Field.write_signed.ended bits.Field.write_signed.Reads.Asked
    × AsksNothing bits_contracts.Field.holds.ended bits.Field.holds.Reads.Asked
    × AsksNothing bits_contracts.Field.holds_signed.ended bits.Field.holds_signed.Reads.Asked
fields_ask_nothing = ((λ κs a. tt), (λ κs a. tt), (λ κs a. tt), (λ κs a. tt), (λ κs a. tt), (λ κs a. tt))

pub units_ask_nothing :
    AsksNothing units_contracts.LockCount.from_count.ended units.LockCount.from_count.Reads.Asked
    × AsksNothing units_contracts.LockCount.count.ended units.LockCount.count.Reads.Asked
    × AsksNothing units_contracts.Millis.from_number.ended units.Millis.from_number.Reads.Asked
    × AsksNothing units_contracts.Millis.number.ended units.Millis.number.Reads.Asked
    × AsksNothing units_contracts.since_lock.ended units.since_lock.Reads.Asked
    × AsksNothing units_contracts.plus.ended units.plus.Reads.Asked
units_ask_nothing = ((λ κs a. tt), (λ κs a. tt), (λ κs a. tt), (λ κs a. tt), (λ κs a. tt), (λ κs a. tt))

pub parts_ask_nothing :
    AsksNothing refusal_contracts.number.ended refusals.number.Reads.Asked
    × AsksNothing macm_contracts.count_at.ended macm.count_at.Reads.Asked
    × AsksNothing macm_contracts.size_of.ended macm.size_of.Reads.Asked
    × AsksNothing macm_contracts.agreeing.ended macm.agreeing.Reads.Asked
    × AsksNothing front_contracts.claims.ended front.claims.Reads.Asked
    × AsksNothing division_contracts.walk.ended division.walk.Reads.Asked
    × AsksNothing reason_contracts.reason_here.ended reason.reason_here.Reads.Asked
parts_ask_nothing = ((λ κs a. tt), (λ κs a. tt), (λ κs a. tt), (λ κs a. tt), (λ κs a. tt), (λ κs a. tt), (λ κs a. tt))

pub words_ask_nothing :
    AsksNothing words_contracts.FormFromHeaderWords.from.ended words.FormFromHeaderWords.from.Reads.Asked
    × AsksNothing words_contracts.HeaderFromHeaderWords.from.ended words.HeaderFromHeaderWords.from.Reads.Asked
    × AsksNothing words_contracts.ObservationFromObservationWords.from.ended words.ObservationFromObservationWords.from.Reads.Asked
    × AsksNothing words_contracts.RecordFromRecordWords.from.ended words.RecordFromRecordWords.from.Reads.Asked
    × AsksNothing words_contracts.HeaderWordsFromHeader.from.ended words.HeaderWordsFromHeader.from.Reads.Asked
    × AsksNothing words_contracts.ObservationWordsFromObservation.from.ended words.ObservationWordsFromObservation.from.Reads.Asked
    × AsksNothing words_contracts.HeadWordsFromResultTuple2HeaderU8Refusal.from.ended words.HeadWordsFromResultTuple2HeaderU8Refusal.from.Reads.Asked
    × AsksNothing words_contracts.ObservedWordsFromResultObservationRefusal.from.ended words.ObservedWordsFromResultObservationRefusal.from.Reads.Asked
    × AsksNothing words_contracts.WrittenWordsFromResultUsizeRefusal.from.ended words.WrittenWordsFromResultUsizeRefusal.from.Reads.Asked
    × AsksNothing words_contracts.ListedWordsFromResultUsizeRefusal.from.ended words.ListedWordsFromResultUsizeRefusal.from.Reads.Asked
    × AsksNothing words_contracts.FoundWordsFromResultNextRefusal.from.ended words.FoundWordsFromResultNextRefusal.from.Reads.Asked
    × AsksNothing words_contracts.ReasonWordsFromResultReasonRefusal.from.ended words.ReasonWordsFromResultReasonRefusal.from.Reads.Asked
    × AsksNothing words_contracts.answer_words.ended words.answer_words.Reads.Asked
    × AsksNothing words_contracts.PhaseWordsFromPhase.from.ended words.PhaseWordsFromPhase.from.Reads.Asked
    × AsksNothing words_contracts.RecordWordsFromResultRecordRefusal.from.ended words.RecordWordsFromResultRecordRefusal.from.Reads.Asked
    × AsksNothing words_contracts.AdrWordsFromResultCorrectedRefusal.from.ended words.AdrWordsFromResultCorrectedRefusal.from.Reads.Asked
words_ask_nothing =
    ((λ κs a. tt), (λ κs a. tt), (λ κs a. tt), (λ κs a. tt), (λ κs a. tt), (λ κs a. tt), (λ κs a. tt), (λ κs a. tt), (λ κs a. tt), (λ κs a. tt), (λ κs a. tt), (λ κs a. tt), (λ κs a. tt), (λ κs a. tt), (λ κs a. tt), (λ κs a. tt))

pub text_asks_nothing :
    AsksNothing text_contracts.Text.new.ended text.Text.new.Reads.Asked
    × AsksNothing text_contracts.Text.behind.ended text.Text.behind.Reads.Asked
    × AsksNothing text_contracts.Text.at.ended text.Text.at.Reads.Asked
    × AsksNothing text_contracts.Text.written.ended text.Text.written.Reads.Asked
    × AsksNothing text_contracts.Text.clear.ended text.Text.clear.Reads.Asked
    × AsksNothing text_contracts.Text.put.ended text.Text.put.Reads.Asked
    × AsksNothing text_contracts.Text.put_all.ended text.Text.put_all.Reads.Asked
    × AsksNothing text_contracts.front.ended text.front.Reads.Asked
    × AsksNothing text_contracts.Text.put_decimal.ended text.Text.put_decimal.Reads.Asked
    × AsksNothing text_contracts.Text.put_hex.ended text.Text.put_hex.Reads.Asked
    × AsksNothing text_contracts.Text.put_number.ended text.Text.put_number.Reads.Asked
    × AsksNothing text_contracts.Text.put_long.ended text.Text.put_long.Reads.Asked
    × AsksNothing text_contracts.Text.put_short.ended text.Text.put_short.Reads.Asked
    × AsksNothing text_contracts.Text.put_count.ended text.Text.put_count.Reads.Asked
    × AsksNothing text_contracts.Text.put_metres.ended text.Text.put_metres.Reads.Asked
    × AsksNothing text_contracts.Text.put_hertz.ended text.Text.put_hertz.Reads.Asked
    × AsksNothing text_contracts.Text.put_cycles.ended text.Text.put_cycles.Reads.Asked
    × AsksNothing lines_contracts.put_line.ended lines.put_line.Reads.Asked
    × AsksNothing lines_contracts.put_end.ended lines.put_end.Reads.Asked
    × AsksNothing lines_contracts.put_rows.ended lines.put_rows.Reads.Asked
    × AsksNothing lines_contracts.put_breaks.ended lines.put_breaks.Reads.Asked
    × AsksNothing argument_contracts.small_number.ended argument.small_number.Reads.Asked
    × AsksNothing account_contracts.put_report.ended account.put_report.Reads.Asked
text_asks_nothing =
    ((λ κs a. tt), (λ κs a. tt), (λ κs a. tt), (λ κs a. tt), (λ κs a. tt), (λ κs a. tt), (λ κs a. tt), (λ κs a. tt), (λ κs a. tt), (λ κs a. tt), (λ κs a. tt), (λ κs a. tt), (λ κs a. tt), (λ κs a. tt), (λ κs a. tt), (λ κs a. tt), (λ κs a. tt), (λ κs a. tt), (λ κs a. tt), (λ κs a. tt), (λ κs a. tt), (λ κs a. tt), (λ κs a. tt))

-- and of the two over a lent state: their `requires` is empty in every model of the logic
pub cs_feed_asks_nothing : (w : World) (κs : Lfts 4) (a : Args board_contracts.cs_feed.signature κs) → (board_contracts.cs_feed.clauses w.𝓛 w.𝓜.mem w.𝓡.run κs a).requires tt ≡ emp w.𝓤
cs_feed_asks_nothing w κs a = refl

pub cs_finish_asks_nothing : (w : World) (κs : Lfts 3) (a : Args board_contracts.cs_finish.signature κs) → (board_contracts.cs_finish.clauses w.𝓛 w.𝓜.mem w.𝓡.run κs a).requires tt ≡ emp w.𝓤
cs_finish_asks_nothing w κs a = refl
