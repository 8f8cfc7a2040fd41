-- The question that an advisory's code asks, as C and Rust get it: "one-sided, delay from the table"; "8 code outside 1 to 18; 9 code 17 or 18"; and document 02,
-- "Maintain what?": 17.
use Rattle.std.specs.Prelude.{◌≡◌, ℕ, ℤ, pos, Some}
use Rattle.advisory.specs.declared.Instruction.{Instruction}
use Rattle.advisory.specs.Catalogue.{rate_of, CodeWithin}
use Rattle.advisory.specs.Table1.{printed_at}
use Rattle.coded.specs.Coded.{sense_number}
use Rattle.binding.specs.declared.QuestionResult.{QuestionResult}
use Rattle.demands.specs.Maintain.{NeverIssued}

-- a refused code has no field
abbrev pub refused_code : ℕ → QuestionResult
refused_code number = record {
  refusal = number;
  sides = pos 0;
  sense = pos 0;
  target = pos 0;
  upper_target = pos 0;
  strength = pos 0;
  upper_strength = pos 0;
  delay = pos 0;
  limit = pos 0;
}

-- a line of Table 1 asked of an ownship of speed v: one-sided, so "both upper fields are 0"; "9 MDES v; 10 MCL v"
abbrev pub asked_line : Instruction → ℤ → ℤ → QuestionResult
asked_line line v limit = record {
  refusal = 0;
  sides = pos 1;
  sense = sense_number line.sense;
  target = rate_of line.target v;
  upper_target = pos 0;
  strength = pos line.strength;
  upper_strength = pos 0;
  delay = pos line.delay;
  limit = limit;
}

-- whatever number the code is
pub record RightlyCoded (code : ℕ) (v limit : ℤ) (f : QuestionResult) : Type 0 where
  pub outside : ¬ CodeWithin 1 18 code → f ≡ refused_code 8
  pub named : CodeWithin 17 18 code → f ≡ refused_code 9
  pub never_issued : NeverIssued code v → f ≡ refused_code 17
  pub asked : (line : Instruction) → printed_at code ≡ Some line → ¬ NeverIssued code v → f ≡ asked_line line v limit
