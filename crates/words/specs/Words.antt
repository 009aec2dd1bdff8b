-- What the C host's words stand for, and what each answer is in words: document 01's number for a refusal, 0 for none, and every other word 0 where a
-- call refuses. Definitions only.
use Rattle.std.specs.Prelude.{ℕ, suc, ◌-◌, ◌^◌, ◌%◌, cond, eqb, ℤ, pos, negsuc, Result, Ok, Err}
use Rattle.std.specs.Float.{binary64}
use Rattle.std.specs.Float.Ieee.{of_bits}
use Rattle.octets.specs.Signed.{signed_of, half}
use Rattle.units.specs.Units.{lock_of, count_in}
use Rattle.refusal.specs.Numbers.{number_of}
use Rattle.macm.specs.declared.Form.{Form}
use Rattle.macm.specs.declared.Form.TheVariants.{New, Old}
use Rattle.macm.specs.declared.Header.{Header}
use Rattle.macm.specs.declared.Observation.{Observation}
use Rattle.refusal.specs.Written.{written_number, written_length}
use Rattle.division.specs.declared.Next.{Next}
use Rattle.division.specs.declared.Next.TheVariants.{Message as Found, End as NoneLeft}
use Rattle.reason.specs.declared.Reason.{Reason}
use Rattle.reason.specs.declared.Reason.TheVariants.{Inside, Given, Sync, CutUnknown, CutShort, Checksum}
use Rattle.stream.specs.declared.Answer.{Answer}
use Rattle.stream.specs.declared.Answer.TheVariants.{NeedsMore, Message, End}
use Rattle.track.specs.declared.Phase.{Phase}
use Rattle.track.specs.declared.Phase.TheVariants.{Withheld, NotFinite, PolarityUnknown, NotCorrected, DueHalf, PolarityUndefined}
use Rattle.novatel.specs.declared.Record.{Record}
use Rattle.words.specs.declared.HeaderWords.{HeaderWords}
use Rattle.words.specs.declared.ObservationWords.{ObservationWords}
use Rattle.words.specs.declared.HeadWords.{HeadWords}
use Rattle.words.specs.declared.ObservedWords.{ObservedWords}
use Rattle.words.specs.declared.WrittenWords.{WrittenWords}
use Rattle.words.specs.declared.FoundWords.{FoundWords}
use Rattle.words.specs.declared.ReasonWords.{ReasonWords}
use Rattle.words.specs.declared.AnswerWords.{AnswerWords}
use Rattle.words.specs.declared.PhaseWords.{PhaseWords}
use Rattle.words.specs.declared.ListedWords.{ListedWords}
use Rattle.words.specs.declared.RecordWords.{RecordWords}
use Rattle.words.specs.declared.AdrWords.{AdrWords}
use Rattle.novatel.specs.declared.Corrected.{Corrected}
use Rattle.refusal.specs.declared.Refusal.{Refusal}

-- ---- words in: of each the low bits that its field holds
abbrev pub low_bits : ℤ → ℕ
low_bits (pos n) = n % 2 ^ 32
low_bits (negsuc n) = 2 ^ 32 - suc (n % 2 ^ 32)

-- 1 is the old form, anything else the new one
abbrev pub form_in : ℕ → ℕ → ℕ → ℕ → Form
form_in form version signal tfom = cond (eqb form 1) (Old (version % 256)) (New (signal % 256) (tfom % 256))

abbrev pub header_in : HeaderWords → Header
header_in w = record { form = form_in w.form w.version w.signal w.tfom; time = w.time % 2 ^ 32; offset = w.offset % 2 ^ 32 }

abbrev pub observation_in : ObservationWords → Observation
observation_in w =
    record {
      sid = w.sid % 256;
      condition = w.condition % 65536;
      cn0 = w.cn0 % 256;
      phase = w.phase;
      pseudorange = w.pseudorange % 2 ^ 32;
      rate = signed_of (half 32) (low_bits w.rate);
      lock = lock_of (w.lock % 2 ^ 32);
    }

-- all of them but the refusal, and none is cut
abbrev pub record_in : RecordWords → Record
record_in w =
    record {
      status = w.status;
      doppler = w.doppler;
      range = w.range;
      adr = w.adr;
      range_deviation = w.range_deviation;
      adr_deviation = w.adr_deviation;
      prn = w.prn;
      lock = w.lock;
      cn0 = w.cn0;
      reserved = w.reserved;
    }

-- ---- words out
abbrev pub form_words : Form → ℕ → ℕ → HeaderWords
form_words (New signal tfom) time offset = record { form = 2; version = 0; signal = signal; tfom = tfom; time = time; offset = offset }
form_words (Old version) time offset = record { form = 1; version = version; signal = 0; tfom = 0; time = time; offset = offset }

abbrev pub header_words : Header → HeaderWords
header_words h = form_words h.form h.time h.offset

abbrev pub observation_words : Observation → ObservationWords
observation_words o =
    record {
      sid = o.sid;
      condition = o.condition;
      cn0 = o.cn0;
      phase = o.phase;
      pseudorange = o.pseudorange;
      rate = o.rate;
      lock = count_in o.lock;
    }

abbrev pub no_header : HeaderWords
no_header = record { form = 0; version = 0; signal = 0; tfom = 0; time = 0; offset = 0 }

abbrev pub no_observation : ObservationWords
no_observation = record { sid = 0; condition = 0; cn0 = 0; phase = 0; pseudorange = 0; rate = pos 0; lock = 0 }

abbrev pub head_words : Result (Header × ℕ) Refusal → HeadWords
head_words (Err r) = record { refusal = number_of r; count = 0; header = no_header }
head_words (Ok (h, n)) = record { refusal = 0; count = n; header = header_words h }

abbrev pub observed_words : Result Observation Refusal → ObservedWords
observed_words (Err r) = record { refusal = number_of r; observation = no_observation }
observed_words (Ok o) = record { refusal = 0; observation = observation_words o }

abbrev pub written_words : Result ℕ Refusal → WrittenWords
written_words w = record { refusal = written_number w; length = written_length w }

-- how many breaks are listed
abbrev pub listed_words : Result ℕ Refusal → ListedWords
listed_words (Err r) = record { refusal = number_of r; count = 0 }
listed_words (Ok n) = record { refusal = 0; count = n }

-- kind 1 is a message, 2 the end
abbrev pub found_words : Result Next Refusal → FoundWords
found_words (Err r) = record { refusal = number_of r; kind = 0; position = 0; length = 0; gap = 0 }
found_words (Ok (Found p n g)) = record { refusal = 0; kind = 1; position = p; length = n; gap = g }
found_words (Ok (NoneLeft g)) = record { refusal = 0; kind = 2; position = 0; length = 0; gap = g }

-- kind 1 is inside, 2 given, 3 a wrong sync, 4 cut short before the count byte, 5 cut short, 6 a wrong checksum
abbrev pub reason_words : Result Reason Refusal → ReasonWords
reason_words (Err r) = record { refusal = number_of r; kind = 0; value = 0 }
reason_words (Ok (Inside q)) = record { refusal = 0; kind = 1; value = q }
reason_words (Ok (Given n)) = record { refusal = 0; kind = 2; value = n }
reason_words (Ok (Sync k)) = record { refusal = 0; kind = 3; value = k }
reason_words (Ok CutUnknown) = record { refusal = 0; kind = 4; value = 0 }
reason_words (Ok (CutShort n)) = record { refusal = 0; kind = 5; value = n }
reason_words (Ok (Checksum residue)) = record { refusal = 0; kind = 6; value = residue }

-- kind 0 needs more, and then all of the bytes offered are taken; 1 is a message, 2 the end
abbrev pub answer_words : Result Answer Refusal → ℕ → AnswerWords
answer_words (Err r) offered = record { refusal = number_of r; kind = 0; length = 0; gap = 0; taken = 0 }
answer_words (Ok NeedsMore) offered = record { refusal = 0; kind = 0; length = 0; gap = 0; taken = offered }
answer_words (Ok (Message n g t)) offered = record { refusal = 0; kind = 1; length = n; gap = g; taken = t }
answer_words (Ok (End g)) offered = record { refusal = 0; kind = 2; length = 0; gap = g; taken = 0 }

-- kind 0 is withheld, 1 not finite; the others have cycles and the code of their polarity: 2 is unknown, 3 not corrected since lock, 4 due half a cycle,
-- 5 undefined
abbrev pub phase_words : Phase → PhaseWords
phase_words Withheld = record { kind = 0; code = 0; cycles = of_bits binary64 0 }
phase_words NotFinite = record { kind = 1; code = 0; cycles = of_bits binary64 0 }
phase_words (PolarityUnknown x) = record { kind = 2; code = 0; cycles = x }
phase_words (NotCorrected x) = record { kind = 3; code = 5; cycles = x }
phase_words (DueHalf x) = record { kind = 4; code = 7; cycles = x }
phase_words (PolarityUndefined code x) = record { kind = 5; code = code; cycles = x }

abbrev pub record_out : ℕ → Record → RecordWords
record_out k r =
    record {
      refusal = k;
      status = r.status;
      doppler = r.doppler;
      range = r.range;
      adr = r.adr;
      range_deviation = r.range_deviation;
      adr_deviation = r.adr_deviation;
      prn = r.prn;
      lock = r.lock;
      cn0 = r.cn0;
      reserved = r.reserved;
    }

abbrev pub no_record : Record
no_record = record { status = 0; doppler = pos 0; range = 0; adr = pos 0; range_deviation = 0; adr_deviation = 0; prn = 0; lock = 0; cn0 = 0; reserved = 0 }

abbrev pub record_words : Result Record Refusal → RecordWords
record_words (Err r) = record_out (number_of r) no_record
record_words (Ok r) = record_out 0 r

abbrev pub adr_words : Result Corrected Refusal → AdrWords
adr_words (Err r) = record { refusal = number_of r; rolls = pos 0; adr = pos 0 }
adr_words (Ok c) = record { refusal = 0; rolls = c.rolls; adr = c.adr }
