-- "Marked for proof": M1 to M15, in one table; and three of document 02's two-sided questions with a delay.
use Rattle.std.specs.Prelude.{List, [], ◌∷◌, ℕ, ℤ, pos, neg_ℤ, Ok, Result}
use Prim.Native.String.{String}
use Rattle.question.specs.declared.Encounter.{Encounter}
use Rattle.question.specs.declared.Question.{Question}
use Rattle.limits.specs.Limits.{no_limit}
use Rattle.coded.specs.Coded.{coded_question}
use Rattle.judge.specs.Answers.{answer, AnswerRecord, answers}
use Rattle.question.specs.declared.refusal.Refusal.{Refusal}

-- an example: its name, its encounter, what is asked there, and the answer
pub record Example : Type 0 where
  pub name : String
  pub encounter : Encounter
  pub question : Result Question Refusal
  pub answer : AnswerRecord

-- r, h, c, v; "vi = 0"
abbrev pub meet : ℤ → ℤ → ℤ → ℤ → Encounter
meet r h c v = record { distance = r; height = h; closing_speed = c; speed = v; intruder_speed = pos 0 }

-- A free question, as what is asked. (M10 asks by code: `coded_question`.)
abbrev pub freely : Question → Result Question Refusal
freely = Ok

-- "one-sided with upper fields 0, strength 500", no delay: sense, target, limit
abbrev pub one_sided : ℤ → ℤ → ℤ → Result Question Refusal
one_sided sense target limit = freely (record { sides = pos 1; sense = sense; target = target; upper_target = pos 0; strength = pos 500; upper_strength = pos 0; delay = pos 0; limit = limit })

abbrev pub climb : ℤ → ℤ → Result Question Refusal
climb = one_sided (pos 1)

abbrev pub descend : ℤ → ℤ → Result Question Refusal
descend = one_sided (pos 0)

-- "two-sided, sense climb, both targets 0", strength and upper strength 500
abbrev pub between_zero : Result Question Refusal
between_zero = freely (record { sides = pos 2; sense = pos 1; target = pos 0; upper_target = pos 0; strength = pos 500; upper_strength = pos 500; delay = pos 0; limit = no_limit })

abbrev pub clear : ℕ → AnswerRecord
clear sides = answers 65 (sides ∷ [])

-- a one-sided conflict, at a whole second and at seconds, remainder, divisor
abbrev pub conflict_at : ℕ → ℕ → ℕ → AnswerRecord
conflict_at seconds remainder divisor = answers 66 (seconds ∷ remainder ∷ divisor ∷ [])

abbrev pub example : String → Encounter → Result Question Refusal → AnswerRecord → Example
example name encounter question answer = record { name = name; encounter = encounter; question = question; answer = answer }

unfoldable pub examples : List Example
unfolding coded_question
examples =
    example "M1" (meet (pos 300000) (pos 32249) (pos 10000) (pos 0)) (climb (pos 1500) no_limit) (clear 1)
    ∷ example "M2" (meet (pos 300000) (pos 32250) (pos 10000) (pos 0)) (climb (pos 1500) no_limit) (conflict_at 27 0 1)
    ∷ example "M3" (meet (pos 300000) (neg_ℤ (pos 32249)) (pos 10000) (pos 0)) (descend (neg_ℤ (pos 1500)) no_limit) (clear 1)
    ∷ example "M4" (meet (pos 0) (neg_ℤ (pos 7001)) (pos 10000) (neg_ℤ (pos 1000))) (climb (pos 0) no_limit) (clear 1)
    ∷ example "M5" (meet (pos 0) (neg_ℤ (pos 7000)) (pos 10000) (neg_ℤ (pos 1000))) (climb (pos 0) no_limit) (conflict_at 2 0 1)
    ∷ example "M6" (meet (pos 0) (neg_ℤ (pos 6000)) (pos 10000) (neg_ℤ (pos 1000))) (climb (pos 0) no_limit) (conflict_at 0 0 1)
    ∷ example "M7" (meet (pos 0) (neg_ℤ (pos 6751)) (pos 10000) (neg_ℤ (pos 1000))) (climb (pos 0) (pos 1)) (clear 1)
    ∷ example "M8" (meet (pos 0) (neg_ℤ (pos 6750)) (pos 10000) (neg_ℤ (pos 1000))) (climb (pos 0) (pos 1)) (conflict_at 1 0 1)
    ∷ example "M9" (meet (pos 0) (neg_ℤ (pos 6050)) (pos 0) (neg_ℤ (pos 100))) (climb (neg_ℤ (pos 100)) no_limit) (conflict_at 1 0 1)
    ∷ example "M10" (meet (pos 0) (neg_ℤ (pos 42225)) (pos 0) (pos 0)) (coded_question 12 (pos 0) no_limit) (conflict_at 15 0 1)
    ∷ example "M11" (meet (pos 300000) (pos 0) (pos 7000) (pos 0)) (climb (pos 0) no_limit) (conflict_at 38 4 7)
    ∷ example "M12" (meet (pos 0) (pos 6001) (pos 0) (pos 0)) between_zero (clear 2)
    ∷ example "M13" (meet (pos 0) (pos 6000) (pos 0) (pos 0)) between_zero (answers 67 (0 ∷ 0 ∷ 1 ∷ 0 ∷ 0 ∷ 1 ∷ []))
    ∷ example "M14" (meet (neg_ℤ (pos 30001)) (pos 0) (pos 10000) (pos 0)) (climb (pos 0) no_limit) (clear 1)
    ∷ example "M15" (meet (neg_ℤ (pos 30000)) (neg_ℤ (pos 6000)) (pos 10000) (pos 0)) (climb (pos 0) no_limit) (conflict_at 0 0 1)
    ∷ []

-- Two-sided with a delay of 8 s: "sense climb, both targets 0", both strengths 500; e is 966, and the window from 5 s to 11 s. The upper path accelerates to 7,728
-- and keeps that. D1: beyond the puck's edge throughout. D2: the edge touches at 11 s alone. D3: at 8 s too, the end of the delay, and 8 s is no instant of the
-- upper rule.
abbrev pub slowly : Result Question Refusal
slowly = freely (record { sides = pos 2; sense = pos 1; target = pos 0; upper_target = pos 0; strength = pos 500; upper_strength = pos 500; delay = pos 8; limit = no_limit })

unfoldable pub delayed_examples : List Example
delayed_examples =
    example "D1" (meet (pos 80000) (pos 60097) (pos 10000) (pos 0)) slowly (clear 2)
    ∷ example "D2" (meet (pos 80000) (pos 60096) (pos 10000) (pos 0)) slowly (answers 67 (5 ∷ 0 ∷ 1 ∷ 11 ∷ 0 ∷ 1 ∷ []))
    ∷ example "D3" (meet (pos 80000) (pos 30000) (pos 10000) (pos 0)) slowly (answers 67 (5 ∷ 0 ∷ 1 ∷ 11 ∷ 0 ∷ 1 ∷ []))
    ∷ []
