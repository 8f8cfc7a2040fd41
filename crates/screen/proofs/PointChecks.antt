-- A point is accepted exactly if its question is and its second is at most 600, and else the question's refusal comes first. Assumes nothing.
use Rattle.std.specs.Prelude.{Err, Ok}
use mathlib.Core.Path.{◌≡◌, ◌∙◌}
use mathlib.Core.List.{[], ◌∷◌}
use Prim.Native.Nat.{ℕ, ◌≤◌, ◌<◌}
use lib.Dec.{leb}
use borrow.Author.Tests.{le-leb, lt-leb}
use Rattle.std.proofs.lemmas.Bool.{cond-true, cond-false}
use Rattle.question.specs.declared.Encounter.{Encounter}
use Rattle.question.specs.declared.Settings.{Settings}
use Rattle.question.specs.declared.Question.{Question}
use Rattle.question.specs.Refusals.{check, plain_checks, refusal}
use Rattle.refusals.proofs.TestedInOrder.{accepted_first, refused_first}
use Rattle.pieces.specs.Pieces.{last_second}
use Rattle.screen.specs.Points.{point_refusal}
use Rattle.question.specs.declared.refusal.Refusal.{Refusal}

module _ (x : Encounter) (y : Settings) (z : Question) (t : ℕ) where
  pub in_time_lem : refusal x y z ≡ Ok tt → t ≤ last_second → point_refusal x y z t ≡ Ok tt
  unfolding point_refusal refusal
  in_time_lem e h = accepted_first (plain_checks x y z) (check Refusal.TimesOutside (leb t last_second) ∷ []) e ∙ cond-true (leb t last_second) (Ok tt) (Err Refusal.TimesOutside) (le-leb t last_second h)

  -- an accepted question's second above 600 gets 6
  pub late_second : refusal x y z ≡ Ok tt → last_second < t → point_refusal x y z t ≡ Err Refusal.TimesOutside
  unfolding point_refusal refusal
  late_second e h = accepted_first (plain_checks x y z) (check Refusal.TimesOutside (leb t last_second) ∷ []) e ∙ cond-false (leb t last_second) (Ok tt) (Err Refusal.TimesOutside) (lt-leb t last_second h)

  -- a refused question keeps its number, whatever the second
  pub refused_point : (n : Refusal) → refusal x y z ≡ Err n → point_refusal x y z t ≡ Err n
  unfolding point_refusal refusal
  refused_point n e = refused_first n (plain_checks x y z) (check Refusal.TimesOutside (leb t last_second) ∷ []) e
