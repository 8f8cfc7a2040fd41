-- What a record is answered, and the order of its refusals.
use Rattle.std.specs.Prelude.{Bool, true, false, cond, ◌&&◌, ◌||◌, List, [], ◌∷◌, ℕ, leb, ℤ, Err, None, Ok, Option, Result, Some, ⊤}
use Rattle.question.specs.declared.Encounter.{Encounter}
use Rattle.question.specs.declared.Settings.{Settings}
use Rattle.question.specs.declared.Question.{Question}
use Rattle.limits.specs.Limits.{limit_within, no_limit}
use Rattle.question.specs.Refusals.{is_number, encounter_within, puck_within, delay_acceleration_within, Check, check, question_checks}
use Rattle.coded.specs.Coded.{maintainable, coded_question}
use Rattle.judge.specs.Answers.{answer}
use Rattle.record.specs.declared.Record.{Record}
use Rattle.answering.specs.declared.State.{State}
use Rattle.answering.specs.States.{with_puck, with_delay_acceleration}
use Rattle.question.specs.declared.refusal.Refusal.{Refusal}
use Rattle.verdict.specs.declared.Verdict.{Verdict}

-- "Accepted settings write nothing"; others get their number.
abbrev pub settings_reply : Bool → Refusal → Option (Result Verdict Refusal)
settings_reply accepted why = cond accepted None (Some (Err why))

-- a question by code that is asked, or its refusal 8, 9 or 17
abbrev pub asked_answer : Encounter → Settings → Result Question Refusal → Result Verdict Refusal
asked_answer x y (Ok z) = answer x y z
asked_answer x y (Err why) = Err why

-- "7 a question before an accepted encounter"; then "8 code outside 1 to 18; 9 code 17 or 18" and 17 by the ownship's speed; then the plain judge's answer
unfoldable pub coded_answer : Option Encounter → Settings → ℕ → ℤ → Result Verdict Refusal
coded_answer None y code limit = Err Refusal.NoEncounter
coded_answer (Some x) y code limit = asked_answer x y (coded_question code x.speed limit)

-- 7; then the plain judge's answer
unfoldable pub free_answer : Option Encounter → Settings → Question → Result Verdict Refusal
free_answer None y z = Err Refusal.NoEncounter
free_answer (Some x) y z = answer x y z

-- "1 an encounter field outside its limits; 2 puck; 3 e"
unfoldable pub reply_to : State → Record → Option (Result Verdict Refusal)
reply_to state (Record.Encounter x) = settings_reply (encounter_within x) Refusal.EncounterOutside
reply_to state (Record.Puck p k) = settings_reply (puck_within (with_puck state.settings p k)) Refusal.PuckOutside
reply_to state (Record.DelayAcceleration e) = settings_reply (delay_acceleration_within (with_delay_acceleration state.settings e)) Refusal.DelayAccelerationOutside
reply_to state (Record.Coded code limit) = Some (coded_answer state.encounter state.settings code limit)
reply_to state (Record.Free z) = Some (free_answer state.encounter state.settings z)

-- The order of refusals, as one list of tests for each kind of question.
abbrev pub present : Option Encounter → Bool
present None = false
present (Some x) = true

-- a code from `low` to `high`
abbrev pub code_from : ℕ → ℕ → ℕ → Bool
code_from low high code = leb low code && leb code high

-- whether the ownship's speed can be maintained, as the code asks; without an encounter 7 comes first
abbrev pub maintained : Option Encounter → ℕ → Bool
maintained None code = true
maintained (Some x) code = maintainable code x.speed

-- "Coded: 7, 8, 9, 6.", and 17 "after 9 and before 6"
abbrev pub coded_checks : Option Encounter → ℕ → ℤ → List Check
coded_checks met code limit =
    check Refusal.NoEncounter (present met)
    ∷ check Refusal.CodeUnknown (code_from 1 18 code)
    ∷ check Refusal.CodeNotJudged (code_from 1 16 code)
    ∷ check Refusal.NeverIssued (maintained met code)
    ∷ check Refusal.TimesOutside (limit_within limit || is_number no_limit limit)
    ∷ []

-- "Free: 7, 4, 5, 6", with document 02's numbers "right after 5": 7, 4, 5, 14, 15, 16, 6
abbrev pub free_checks : Option Encounter → Question → List Check
free_checks encounter z = check Refusal.NoEncounter (present encounter) ∷ question_checks z

-- the refusal of an answer, if it is one
abbrev pub refusal_in : Result Verdict Refusal → Result ⊤ Refusal
refusal_in (Ok v) = Ok tt
refusal_in (Err why) = Err why
