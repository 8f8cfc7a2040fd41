-- "Prove that where the verdict is clear, no obeying flight is inside the puck at a rational time up to its end and the limit." For the verdict "conflict" nothing
-- is promised of flights. Assumes nothing.
use Rattle.std.specs.Prelude.{Ok}
use mathlib.Core.Path.{◌≡◌}
use mathlib.Core.Bool.{false}
use mathlib.Core.List.{List}
use Prim.Native.Nat.{◌≤◌}
use Rattle.integers.specs.Extremes.{max0}
use Rattle.integers.proofs.Certificates.{nat≤}
use Rattle.integers.proofs.Laws.{≤ℤ_trans, max0_ge}
use Rattle.path.specs.Letters.{k}
use Rattle.question.specs.declared.Encounter.{Encounter}
use Rattle.question.specs.declared.Settings.{Settings}
use Rattle.question.specs.declared.Question.{Question}
use Rattle.question.specs.Refusals.{sense_of, two_sided, refusal}
use Rattle.question.proofs.WithinLimits.{within_limits}
use Rattle.sensed.specs.Sensed.{sensed_question}
use Rattle.verdict.specs.Verdicts.{verdict}
use Rattle.judge.specs.Demand3.{SaysConflict}
use Rattle.judge.proofs.Demand3.{one_sided_exactly}
use Rattle.flight.specs.declared.Stretch.{Stretch}
use Rattle.flight.specs.SensedFlight.{sensed_flight}
use Rattle.flight.specs.Obeying.{Obeys}
use Rattle.flight.specs.Inside.{NeverInside}
use Rattle.flight.proofs.Safe.{never_inside}

module _ (x : Encounter) (y : Settings) (z : Question) (accepted : refusal x y z ≡ Ok tt) where
  -- what the test of a second asks for: the band from k below to k above the intruder is no line
  pub accepted_half_height : 1 ≤ k (sensed_question x y z)
  unfolding sensed_question
  accepted_half_height = nat≤ {m = 1} {n = max0 y.half_height} (≤ℤ_trans (within_limits x y z accepted).half.from (max0_ge y.half_height))

  pub clear_never_inside : two_sided z ≡ false → ¬ SaysConflict (verdict z (sensed_question x y z)) → (l : List Stretch) → Obeys (sensed_question x y z) (sensed_flight (sense_of z) l) → NeverInside (sensed_question x y z) (sensed_flight (sense_of z) l)
  clear_never_inside one clear l obeys = never_inside (sensed_question x y z) (sensed_flight (sense_of z) l) obeys (λ e. clear ((one_sided_exactly x y z accepted one).1 e))
