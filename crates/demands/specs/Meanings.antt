-- What is asked of a verdict's meaning: it says what the verdict says, and nothing that the verdict denies. x is an encounter, y the settings, z a question, s the
-- question in its sense.
use Rattle.std.specs.Prelude.{◌≡◌, Bool, cond, ◌↔◌, ℕ, ◌≤◌, Err, Ok, Result, Some}
use Rattle.advisory.specs.declared.Sense.{Sense}
use Rattle.path.specs.declared.SensedQuestion.{SensedQuestion}
use Rattle.path.specs.declared.Side.{Side}
use Rattle.path.specs.declared.Side.TheVariants.{Lower, Upper}
use Rattle.path.specs.Letters.{p, k}
use Rattle.question.specs.declared.Encounter.{Encounter}
use Rattle.question.specs.declared.Settings.{Settings}
use Rattle.question.specs.declared.Question.{Question}
use Rattle.question.specs.declared.refusal.Refusal.{Refusal}
use Rattle.question.specs.Refusals.{sense_of, two_sided}
use Rattle.sensed.specs.Sensed.{sensed_question}
use Rattle.verdict.specs.declared.ClearSides.{ClearSides}
use Rattle.verdict.specs.declared.Verdict.{Verdict}
use Rattle.meaning.specs.declared.gaps.Nearness.TheVariants.{Farther}
use Rattle.meaning.specs.declared.gaps.Gap.{Gap}
use Rattle.meaning.specs.declared.Explained.{Explained}
use Rattle.meaning.specs.declared.Finding.{Finding}
use Rattle.meaning.specs.declared.Finding.TheVariants.{NeverNear, Clear, Conflict, Conflicts}
use Rattle.meaning.specs.declared.Meaning.{Meaning}
use Rattle.meaning.specs.Gaps.{clear_direction}
use Rattle.demands.specs.Instants.{WindowAt}

-- the verdict that a finding tells: where the intruder never comes near, every side that is asked is clear
abbrev pub told : Bool → Finding → Verdict
told two NeverNear = cond two (Verdict.Clear ClearSides.Both) (Verdict.Clear ClearSides.Lower)
told two (Clear sides) = Verdict.Clear sides
told two (Conflict f) = Verdict.Conflict f.time
told two (Conflicts f j) = Verdict.Conflicts f.time j.time

-- the side's time is explained so
abbrev pub ExplainedOn : Side → Finding → Explained → Type 0
ExplainedOn Lower (Conflict f) e = f ≡ e
ExplainedOn Lower (Conflicts f j) e = f ≡ e
ExplainedOn Lower (Clear sides) e = ⊥
ExplainedOn Lower NeverNear e = ⊥
ExplainedOn Upper (Conflicts f j) e = j ≡ e
ExplainedOn Upper (Conflict f) e = ⊥
ExplainedOn Upper (Clear sides) e = ⊥
ExplainedOn Upper NeverNear e = ⊥

-- more than k beyond the path, where the side is clear
abbrev pub ClearBeyond : Side → Sense → Gap → Type 0
ClearBeyond side w gap = (gap.nearness ≡ Farther) × (gap.direction ≡ Some (clear_direction side w))

pub record RightMeaning (z : Question) (s : SensedQuestion) (v : Verdict) (m : Meaning) : Type 0 where
  -- the numbers that it speaks of are the question's
  pub sense : m.sense ≡ sense_of z
  pub two : m.two_sided ≡ two_sided z
  pub radius : m.radius ≡ p s
  pub half : m.half_height ≡ k s
  pub limit : m.limit ≡ s.limit
  -- the same times, and the same sides clear
  pub verdict : told m.two_sided m.finding ≡ v
  -- "never comes near" exactly where no time is in the window
  pub away : (m.finding ≡ NeverNear) ↔ ((n d : ℕ) → 1 ≤ d → ¬ WindowAt s n d)
  -- no time in conflict is explained by an intruder that is clear
  pub beyond : (side : Side) (e : Explained) → ExplainedOn side m.finding e → ¬ ClearBeyond side m.sense e.gap

-- `judged` is the judge's answer, `found` what it means
pub record RightlyExplained (x : Encounter) (y : Settings) (z : Question) (judged : Result Verdict Refusal) (found : Result Meaning Refusal) : Type 0 where
  pub refused : (why : Refusal) → judged ≡ Err why → found ≡ Err why
  pub explained : (v : Verdict) → judged ≡ Ok v → (m : Meaning) × (found ≡ Ok m) × RightMeaning z (sensed_question x y z) v m
