-- "Answer records: kind 65 clear, body 1 byte (1 lower side clear, 2 upper, 3 both; one-sided always 1); kind 66 one-sided conflict, whole seconds, remainder,
-- divisor, 4 unsigned bytes each; kind 67 two such times, lower first; kind 68 one byte, the refusal number." (A verdict's kinds and values: judge, specs/Answers.antt.)
use Rattle.std.specs.Prelude.{cond, ◌||◌, List, [], ◌∷◌, ◌++◌, ℕ, ◌/◌, ◌%◌, eqb, Err, None, Ok, Option, Result, Some}
use Rattle.judge.specs.Answers.{AnswerRecord, answers, answer_record}
use Rattle.question.specs.RefusalNumbers.{refusal_number}
use Rattle.question.specs.declared.refusal.Refusal.{Refusal}
use Rattle.verdict.specs.declared.Verdict.{Verdict}

-- the four bytes of an unsigned number below 2³², the most significant first; of a larger one, the bytes of its remainder by 2³² (no time
-- shown has one: `ShownTime.small`)
abbrev pub big_endian : ℕ → List ℕ
big_endian n = n / 16777216 % 256 ∷ n / 65536 % 256 ∷ n / 256 % 256 ∷ n % 256 ∷ []

-- a value of a record's body: four bytes in kinds 66 and 67, else one
abbrev pub value_bytes : ℕ → ℕ → List ℕ
value_bytes kind value = cond (eqb kind 66 || eqb kind 67) (big_endian value) (value ∷ [])

abbrev pub body_bytes : ℕ → List ℕ → List ℕ
body_bytes kind [] = []
body_bytes kind (value ∷ rest) = value_bytes kind value ++ body_bytes kind rest

-- the kind's byte, then the body
abbrev pub record_bytes : AnswerRecord → List ℕ
record_bytes r = r.kind ∷ body_bytes r.kind r.values

-- an answer's record: a verdict's, or kind 68 with the refusal's number
abbrev pub numbered_record : {R : Type 0} → (R → ℕ) → Result Verdict R → AnswerRecord
numbered_record number (Ok verdict) = answer_record (Ok verdict)
numbered_record number (Err why) = answers 68 (number why ∷ [])

-- a reply's answer record, if it has one
abbrev pub numbered_bytes : {R : Type 0} → (R → ℕ) → Option (Result Verdict R) → List ℕ
numbered_bytes number None = []
numbered_bytes number (Some answer) = record_bytes (numbered_record number answer)

-- the same, by the refusals' own numbers: `answer_record`'s bytes (`answer_bytes`)
abbrev pub reply_bytes : Option (Result Verdict Refusal) → List ℕ
reply_bytes = numbered_bytes refusal_number
