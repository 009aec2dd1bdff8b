-- Each conversion of `words`, and `answer_words`, determines its answer by its contract. Each theorem has the name of the definition that the contract
-- cites. Assumes nothing.
use Rattle.owed.specs.Determined.{Determined}
use Rattle.owed.proofs.Same.{both}
use Rattle.words.specs.contracts as contracts
use Rattle.words.proofs as words

pub form_in_determined : Determined contracts.FormFromHeaderWords.from.ended words.FormFromHeaderWords.from.Reads.Learnt
form_in_determined κs a z z' w w' p q = search both

pub header_in_determined : Determined contracts.HeaderFromHeaderWords.from.ended words.HeaderFromHeaderWords.from.Reads.Learnt
header_in_determined κs a z z' w w' p q = search both

pub observation_in_determined : Determined contracts.ObservationFromObservationWords.from.ended words.ObservationFromObservationWords.from.Reads.Learnt
observation_in_determined κs a z z' w w' p q = search both

pub record_in_determined : Determined contracts.RecordFromRecordWords.from.ended words.RecordFromRecordWords.from.Reads.Learnt
record_in_determined κs a z z' w w' p q = search both

pub header_words_determined : Determined contracts.HeaderWordsFromHeader.from.ended words.HeaderWordsFromHeader.from.Reads.Learnt
header_words_determined κs a z z' w w' p q = search both

pub observation_words_determined : Determined contracts.ObservationWordsFromObservation.from.ended words.ObservationWordsFromObservation.from.Reads.Learnt
observation_words_determined κs a z z' w w' p q = search both

pub head_words_determined : Determined contracts.HeadWordsFromResultTuple2HeaderU8Refusal.from.ended words.HeadWordsFromResultTuple2HeaderU8Refusal.from.Reads.Learnt
head_words_determined κs a z z' w w' p q = search both

pub observed_words_determined : Determined contracts.ObservedWordsFromResultObservationRefusal.from.ended words.ObservedWordsFromResultObservationRefusal.from.Reads.Learnt
observed_words_determined κs a z z' w w' p q = search both

pub written_words_determined : Determined contracts.WrittenWordsFromResultUsizeRefusal.from.ended words.WrittenWordsFromResultUsizeRefusal.from.Reads.Learnt
written_words_determined κs a z z' w w' p q = search both

pub listed_words_determined : Determined contracts.ListedWordsFromResultUsizeRefusal.from.ended words.ListedWordsFromResultUsizeRefusal.from.Reads.Learnt
listed_words_determined κs a z z' w w' p q = search both

pub found_words_determined : Determined contracts.FoundWordsFromResultNextRefusal.from.ended words.FoundWordsFromResultNextRefusal.from.Reads.Learnt
found_words_determined κs a z z' w w' p q = search both

pub reason_words_determined : Determined contracts.ReasonWordsFromResultReasonRefusal.from.ended words.ReasonWordsFromResultReasonRefusal.from.Reads.Learnt
reason_words_determined κs a z z' w w' p q = search both

pub answer_words_determined : Determined contracts.answer_words.ended words.answer_words.Reads.Learnt
answer_words_determined κs a z z' w w' p q = search both

pub phase_words_determined : Determined contracts.PhaseWordsFromPhase.from.ended words.PhaseWordsFromPhase.from.Reads.Learnt
phase_words_determined κs a z z' w w' p q = search both

pub record_words_determined : Determined contracts.RecordWordsFromResultRecordRefusal.from.ended words.RecordWordsFromResultRecordRefusal.from.Reads.Learnt
record_words_determined κs a z z' w w' p q = search both

pub adr_words_determined : Determined contracts.AdrWordsFromResultCorrectedRefusal.from.ended words.AdrWordsFromResultCorrectedRefusal.from.Reads.Learnt
adr_words_determined κs a z z' w w' p q = search both
