-- Demand 3: what it is for an answer to be right. Conflict times are those of the paths (`path`, specs/Conflict.antt).
use Rattle.std.specs.Prelude.{Bool, true, false, Err, Ok, Result, Some}
use Rattle.instant.specs.declared.Instant.{Instant}
use Rattle.instant.specs.declared.Time.{Time}
use Rattle.instant.specs.LowestTerms.{LowestTerms, SizedTime}
use Rattle.path.specs.declared.SensedQuestion.{SensedQuestion}
use Rattle.path.specs.declared.Side.{Side}
use Rattle.path.specs.declared.Side.TheVariants.{Lower, Upper}
use Rattle.path.specs.Conflict.{ConflictTime, ConflictExists}
use Rattle.shown.specs.TimeRule.{Picks}
use Rattle.question.specs.declared.Question.{Question}
use Rattle.verdict.specs.declared.ClearSides.{ClearSides}
use Rattle.verdict.specs.declared.Verdict.{Verdict}
use Rattle.verdict.specs.declared.Verdict.TheVariants.{Clear, Conflict, Conflicts}
use Rattle.question.specs.Refusals.{two_sided}
use Rattle.question.specs.declared.refusal.Refusal.{Refusal}

-- A time shown on a side: it is a conflict time there, and so in the window; it is the one that the time rule picks; it stands in lowest terms, and its
-- three numbers are below 2³².
pub record ShownTime (side : Side) (s : SensedQuestion) (t : Time) : Type 0 where
  pub instant : Instant
  pub conflict : ConflictTime side s instant
  pub picked : Picks side s (Some instant)
  pub lowest : LowestTerms instant.n instant.m t
  pub small : SizedTime t

-- "One-sided, the side is the lower one": a conflict with its time, or clear where no conflict time exists
abbrev pub RightOneSided : SensedQuestion → Verdict → Type 0
RightOneSided s (Clear ClearSides.Lower) = ¬ ConflictExists Lower s
RightOneSided s (Clear ClearSides.Upper) = ⊥
RightOneSided s (Clear ClearSides.Both) = ⊥
RightOneSided s (Conflict t) = ShownTime Lower s t
RightOneSided s (Conflicts t u) = ⊥

-- Two-sided: a conflict on both sides with two times, or clear, naming exactly the sides that have no conflict time
abbrev pub RightTwoSided : SensedQuestion → Verdict → Type 0
RightTwoSided s (Clear ClearSides.Lower) = (¬ ConflictExists Lower s) × ConflictExists Upper s
RightTwoSided s (Clear ClearSides.Upper) = ConflictExists Lower s × (¬ ConflictExists Upper s)
RightTwoSided s (Clear ClearSides.Both) = (¬ ConflictExists Lower s) × (¬ ConflictExists Upper s)
RightTwoSided s (Conflict t) = ⊥
RightTwoSided s (Conflicts t u) = ShownTime Lower s t × ShownTime Upper s u

-- by whether the question is two-sided
abbrev pub RightVerdict : Bool → SensedQuestion → Verdict → Type 0
RightVerdict false s v = RightOneSided s v
RightVerdict true s v = RightTwoSided s v

-- an accepted question is judged, and the verdict is right
abbrev pub RightAnswer : Question → SensedQuestion → Result Verdict Refusal → Type 0
RightAnswer z s (Ok v) = RightVerdict (two_sided z) s v
RightAnswer z s (Err why) = ⊥

-- the verdict is "conflict"
abbrev pub SaysConflict : Verdict → Type 0
SaysConflict (Clear sides) = ⊥
SaysConflict (Conflict t) = Unit {0}
SaysConflict (Conflicts t u) = Unit {0}
