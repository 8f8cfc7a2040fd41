-- What a verdict means. x is an encounter, y the settings, z a question, s the question in its sense w.
use Rattle.std.specs.Prelude.{cond, Err, None, Ok, Option, Result, Some, ⊤}
use Rattle.std.specs.Option.{is_none, option_map}
use Rattle.advisory.specs.declared.Sense.{Sense}
use Rattle.instant.specs.declared.Instant.{Instant}
use Rattle.path.specs.declared.SensedQuestion.{SensedQuestion}
use Rattle.path.specs.declared.Side.{Side}
use Rattle.path.specs.declared.Side.TheVariants.{Lower, Upper}
use Rattle.path.specs.Letters.{p, k}
use Rattle.path.specs.inner.Tests.{opening}
use Rattle.question.specs.declared.Encounter.{Encounter}
use Rattle.question.specs.declared.Settings.{Settings}
use Rattle.question.specs.declared.Question.{Question}
use Rattle.question.specs.declared.refusal.Refusal.{Refusal}
use Rattle.question.specs.Refusals.{refusal, sense_of, two_sided}
use Rattle.sensed.specs.Sensed.{sensed_question}
use Rattle.shown.specs.TimeShown.{time_shown}
use Rattle.verdict.specs.declared.ClearSides.{ClearSides}
use Rattle.verdict.specs.Verdicts.{time_of}
use Rattle.meaning.specs.declared.Explained.{Explained}
use Rattle.meaning.specs.declared.Finding.{Finding}
use Rattle.meaning.specs.declared.Finding.TheVariants.{NeverNear, Clear, Conflict, Conflicts}
use Rattle.meaning.specs.declared.Meaning.{Meaning}
use Rattle.meaning.specs.Gaps.{gap_at}
use Rattle.meaning.specs.Moments.{moment_at}

-- a time shown on a side
unfoldable pub explained_at : Sense → Side → SensedQuestion → Instant → Explained
unfolding gap_at moment_at
explained_at w side s t = record { time = time_of t; moment = moment_at side s t; gap = gap_at w side s t }

-- by the times shown on the two sides, as the verdict (`verdict`, specs/Verdicts.antt)
abbrev pub one_sided_finding : Option Explained → Finding
one_sided_finding None = Clear ClearSides.Lower
one_sided_finding (Some f) = Conflict f

abbrev pub two_sided_finding : Option Explained → Option Explained → Finding
two_sided_finding None None = Clear ClearSides.Both
two_sided_finding None (Some j) = Clear ClearSides.Lower
two_sided_finding (Some f) None = Clear ClearSides.Upper
two_sided_finding (Some f) (Some j) = Conflicts f j

abbrev pub shown_finding : Question → Option Explained → Option Explained → Finding
shown_finding z lower upper = cond (two_sided z) (two_sided_finding lower upper) (one_sided_finding lower)

abbrev pub explained_on : Question → Side → SensedQuestion → Option Explained
explained_on z side s = option_map (explained_at (sense_of z) side s) (time_shown side s)

-- the intruder never comes near where the window is empty: where it does not hold its start
unfoldable pub finding_on : Question → SensedQuestion → Finding
unfolding explained_at opening time_shown
finding_on z s = cond (is_none (opening s)) NeverNear (shown_finding z (explained_on z Lower s) (explained_on z Upper s))

unfoldable pub meaning_of : Question → SensedQuestion → Meaning
unfolding finding_on
meaning_of z s = record { sense = sense_of z; two_sided = two_sided z; radius = p s; half_height = k s; limit = s.limit; finding = finding_on z s }

-- refused as the entry for plain numbers refuses
abbrev pub checked_meaning : Result ⊤ Refusal → Meaning → Result Meaning Refusal
checked_meaning (Ok _) found = Ok found
checked_meaning (Err why) found = Err why

unfoldable pub meaning_answer : Encounter → Settings → Question → Result Meaning Refusal
unfolding refusal sensed_question meaning_of
meaning_answer x y z = checked_meaning (refusal x y z) (meaning_of z (sensed_question x y z))
