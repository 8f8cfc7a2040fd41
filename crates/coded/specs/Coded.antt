-- A question by code: "coded question, 3: code (1), limit (2); one-sided, delay from the table". Codes 9 and 10 take the ownship's v as target.
use Rattle.std.specs.Prelude.{Bool, not, cond, ◌&&◌, ◌||◌, ℕ, eqb, ℤ, pos, Err, Ok, Result}
use Rattle.std.specs.Int.Signed.{le_z}
use Rattle.advisory.specs.declared.Sense.{Sense}
use Rattle.advisory.specs.declared.Sense.TheVariants.{Climb, Descend}
use Rattle.advisory.specs.declared.Instruction.{Instruction}
use Rattle.advisory.specs.Catalogue.{rate_of}
use Rattle.advisory.specs.Advised.{advised_of}
use Rattle.question.specs.declared.Question.{Question}
use Rattle.question.specs.RefusalNumbers.{code_refusal}
use Rattle.advisory.specs.declared.CodeError.{CodeError}
use Rattle.question.specs.declared.refusal.Refusal.{Refusal}

-- "sense 0 descend or 1 climb"
abbrev pub sense_number : Sense → ℤ
sense_number Descend = pos 0
sense_number Climb = pos 1

-- an instruction as a one-sided free question, for an ownship of speed v
abbrev pub instructed : Instruction → ℤ → ℤ → Question
instructed i v limit = record {
  sides = pos 1;
  sense = sense_number i.sense;
  target = rate_of i.target v;
  upper_target = pos 0;
  strength = pos i.strength;
  upper_strength = pos 0;
  delay = pos i.delay;
  limit = limit;
}

-- "MCL with v < 0 and MDES with v > 0 can no longer be judged; v = 0 can." MCL is code 10, MDES code 9; v is the ownship's own speed, whatever the intruder's.
abbrev pub maintainable : ℕ → ℤ → Bool
maintainable code v = (not (eqb code 10) || le_z (pos 0) v) && (not (eqb code 9) || le_z v (pos 0))

-- "8 code outside 1 to 18; 9 code 17 or 18"; "It refuses these with 17, after 9 and before 6."
abbrev pub asked : ℕ → Result Instruction CodeError → ℤ → ℤ → Result Question Refusal
asked code (Ok i) v limit = cond (maintainable code v) (Ok (instructed i v limit)) (Err Refusal.NeverIssued)
asked code (Err why) v limit = Err (code_refusal why)

unfoldable pub coded_question : ℕ → ℤ → ℤ → Result Question Refusal
unfolding advised_of
coded_question code v limit = asked code (advised_of code) v limit
