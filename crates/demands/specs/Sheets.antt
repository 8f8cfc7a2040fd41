-- What the demands ask of an answered sheet: every refusal of the sheet, every byte of the area, and each record, wherever it stands in the sheet.
use Rattle.std.specs.Prelude.{◌≡◌, cond, false, List, ◌∷◌, ◌++◌, ℕ, ◌^◌, ◌<◌, ◌≤◌, eqb, ℤ, length, drop, Err, Ok, Result, Some}
use Rattle.advisory.specs.Catalogue.{CodeWithin}
use Rattle.question.specs.declared.Encounter.{Encounter}
use Rattle.question.specs.declared.Question.{Question}
use Rattle.limits.specs.Limits.{no_limit}
use Rattle.question.specs.Refusals.{encounter_within, puck_within, delay_acceleration_within, first_refusal}
use Rattle.coded.specs.Coded.{coded_question}
use Rattle.judge.specs.Answers.{answer_record}
use Rattle.record.specs.declared.Record.{Record}
use Rattle.record.specs.Records.{records}
use Rattle.record.specs.SheetCheck.{longest_sheet, fault_after, sheet_check}
use Rattle.record.specs.Numbers.{word_at}
use Rattle.reply.specs.AnswerBytes.{record_bytes, big_endian}
use Rattle.reply.proofs.NumbersExact as exact
use Rattle.answering.specs.declared.State.{State}
use Rattle.answering.specs.States as states
use Rattle.answering.specs.States.{starting_state, with_puck, with_delay_acceleration, state_after, state_after_all}
use Rattle.answering.specs.Replies.{reply_to, coded_checks, free_checks, refusal_in}
use Rattle.answering.proofs.StoredWithinLimits as stored
use Rattle.sheet.specs.WholeSheet.{answers_from, sheet_answer}
use Rattle.sheet.specs.Example.{example_sheet, example_answer}
use Rattle.sheet.proofs.ExampleHolds as example
use Rattle.binding.specs.declared.SheetResult.{SheetResult}
use Rattle.demands.specs.Demand2.{CodeDemand2}
use Rattle.demands.specs.Maintain.{NeverIssued, MaintainAnswered}
use Rattle.demands.specs.PlainAnswer.{RightlyAnswered}
use Rattle.question.specs.declared.refusal.Refusal.{Refusal}
use Rattle.verdict.specs.declared.Verdict.{Verdict}
use Rattle.question.specs.RefusalNumbers.{refusal_number}

-- ---- a record of a sheet: `earlier` are the records before it, `later` those after it
module _ (answers : List ℕ) (earlier : List Record) (given : Record) (later : List Record) where
  -- the state in which it is answered
  abbrev pub state_there : State
  state_there = state_after_all starting_state earlier

  -- its answer record stands after the answers to the records before it, and before the answers to those after it
  abbrev pub AnsweredBy : Result Verdict Refusal → Type 0
  AnsweredBy r = answers ≡ answers_from starting_state earlier ++ (record_bytes (answer_record r) ++ answers_from (state_after state_there given) later)

  -- a free question: 7, 4, 5, 14, 15, 16, 6 (`free_checks`); asked of an encounter, the plain answer
  pub record FreeAnswered (z : Question) (r : Result Verdict Refusal) : Type 0 where
    pub placed : AnsweredBy r
    pub order : refusal_in r ≡ first_refusal (free_checks state_there.encounter z)
    pub right : (x : Encounter) → state_there.encounter ≡ Some x → RightlyAnswered x state_there.settings z r

  -- a coded question: "Coded: 7, 8, 9, 6", and 17 "after 9 and before 6"; asked of an encounter, the plain answer to the question that the code stands for, 17 where it is
  -- never issued, and "for the accepted ones" Table 1's region without a limit
  pub record CodedAnswered (code : ℕ) (limit : ℤ) (r : Result Verdict Refusal) : Type 0 where
    pub placed : AnsweredBy r
    pub order : refusal_in r ≡ first_refusal (coded_checks state_there.encounter code limit)
    pub right : (x : Encounter) (z : Question) → state_there.encounter ≡ Some x → coded_question code x.speed limit ≡ Ok z → RightlyAnswered x state_there.settings z r
    pub maintain : (x : Encounter) → state_there.encounter ≡ Some x → MaintainAnswered x state_there.settings code limit r
    pub region : (x : Encounter) → state_there.encounter ≡ Some x → CodeWithin 1 16 code → ¬ NeverIssued code x.speed → limit ≡ no_limit → CodeDemand2 x state_there.settings code r

  -- "1 an encounter field outside its limits; 2 puck; 3 e". A code is a byte.
  pub record RecordAnswered : Type 0 where
    pub encounter : (x : Encounter) → given ≡ Record.Encounter x → encounter_within x ≡ false → AnsweredBy (Err Refusal.EncounterOutside)
    pub puck : (p k : ℤ) → given ≡ Record.Puck p k → puck_within (with_puck state_there.settings p k) ≡ false → AnsweredBy (Err Refusal.PuckOutside)
    pub acceleration : (e : ℤ) → given ≡ Record.DelayAcceleration e → delay_acceleration_within (with_delay_acceleration state_there.settings e) ≡ false → AnsweredBy (Err Refusal.DelayAccelerationOutside)
    pub free : (z : Question) → given ≡ Record.Free z → (r : Result Verdict Refusal) × FreeAnswered z r
    pub coded : (code : ℕ) (limit : ℤ) → code < 256 → given ≡ Record.Coded code limit → (r : Result Verdict Refusal) × CodedAnswered code limit r

-- every record of a sheet
abbrev pub EachRecord : List ℕ → List ℕ → Type 0
EachRecord sheet answers = (earlier : List Record) (given : Record) (later : List Record) → records sheet ≡ earlier ++ (given ∷ later) → RecordAnswered answers earlier given later

-- ---- the whole sheet, the area before and after, and the outcome: the answer's length, or the refusal's number
pub record SheetAnswered (sheet before after : List ℕ) (o : Result ℕ ℕ) : Type 0 where
  -- "10 longer than 8,192 bytes"
  pub too_long : longest_sheet < length sheet → o ≡ Err 10
  -- "11 unknown kind; 12 a body cut short; the earlier in the sheet is reported"
  pub faulty : length sheet ≤ longest_sheet → (why : Refusal) → fault_after 0 sheet ≡ Err why → o ≡ Err (refusal_number why)
  -- "13, the answer area is shorter than the whole answer, tested after 10 to 12"
  pub too_short : sheet_check sheet ≡ Ok tt → length before < length (sheet_answer sheet) → o ≡ Err 13
  pub accepted : sheet_check sheet ≡ Ok tt → length (sheet_answer sheet) ≤ length before → o ≡ Ok (length (sheet_answer sheet))
  -- "no byte changed"
  pub unchanged : (number : ℕ) → o ≡ Err number → after ≡ before
  -- "Bytes past the answer keep their values."
  pub written : (size : ℕ) → o ≡ Ok size → after ≡ sheet_answer sheet ++ drop size before
  pub each : EachRecord sheet (sheet_answer sheet)

-- the outcome in the two numbers that C and Rust get
abbrev pub outcome_in : SheetResult → Result ℕ ℕ
outcome_in r = cond (eqb r.refusal 0) (Ok r.length) (Err r.refusal)

-- ---- "settings and encounter unchanged", and within their limits, whatever records a sheet has had
pub refused_unchanged : (state : State) (given : Record) (r : Result Verdict Refusal) → reply_to state given ≡ Some r → state_after state given ≡ state
refused_unchanged = stored.answered_unchanged

pub stored_within : (earlier : List Record) → states.StoredWithin (state_after_all starting_state earlier)
stored_within = stored.stored_within

-- ---- "Whole example, hex."
pub whole_example : (sheet_check example_sheet ≡ Ok tt) × (sheet_answer example_sheet ≡ example_answer)
whole_example = (example.example_accepted, example.example_answer_lem)

-- ---- "4 unsigned bytes each": such a number is read back as itself
pub read_back : (n : ℕ) → n < 2 ^ 32 → word_at (big_endian n) 0 ≡ n
read_back = exact.read_back
