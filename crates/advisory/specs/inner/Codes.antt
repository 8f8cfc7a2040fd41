-- Definitions that only inner contracts use; an instructor need not read them.
-- Which codes get which answer, and that what the tables give is within document 01's limits.
use Rattle.std.specs.Prelude.{◌⊎◌, ℕ, ◌≤◌, ◌<◌, ℤ, pos, neg_ℤ, ◌≤ℤ◌, Err, Ok, Result}
use Rattle.limits.specs.Limits.{max_speed, min_strength, max_strength, max_delay}
use Rattle.advisory.specs.Catalogue.{rate_of, CodeWithin}
use Rattle.advisory.specs.declared.Instruction.{Instruction}
use Rattle.advisory.specs.declared.CodeError.{CodeError}

-- a code outside a range
abbrev pub CodeOutside : ℕ → ℕ → ℕ → Type 0
CodeOutside low high code = (code < low) ⊎ (high < code)

-- The codes of each answer: "8 code outside 1 to 18; 9 code 17 or 18", and the others are judged.
abbrev pub Standing : ℕ → Result Instruction CodeError → Type 0
Standing code (Ok i) = CodeWithin 1 16 code
Standing code (Err CodeError.NotJudged) = CodeWithin 17 18 code
Standing code (Err CodeError.Unknown) = CodeOutside 1 18 code

-- Document 01's limits on strength, delay and target, the ownship's speed v being in its own.
pub record InLimits (i : Instruction) : Type 0 where
  pub strength_from : min_strength ≤ i.strength
  pub strength_to : i.strength ≤ max_strength
  pub delay_to : i.delay ≤ max_delay
  pub target_from : (v : ℤ) → neg_ℤ (pos max_speed) ≤ℤ v → neg_ℤ (pos max_speed) ≤ℤ rate_of i.target v
  pub target_to : (v : ℤ) → v ≤ℤ pos max_speed → rate_of i.target v ≤ℤ pos max_speed
