-- The refusals of a whole sheet: 10 to 12 come whatever the area (from length and kinds alone: record, proofs/CheckByKinds.antt); 13 comes from the answer's
-- length; an area of 65,536 bytes holds every answer. Assumes nothing.
use Rattle.std.specs.Prelude.{Err, Ok, Result, ⊤}
use mathlib.Core.Path.{◌≡◌, ap, ◌∙◌}
use mathlib.Core.Bool.{cond}
use mathlib.Core.List.{List}
use Prim.Native.Nat.{ℕ, ◌≤◌, ◌<◌}
use native.Mathlib.Omega.{arith}
use borrow.Author.Tests.{le-leb, lt-leb}
use lib.Dec.{leb}
use lib.ListN.{length}
use Rattle.std.proofs.lemmas.Bool.{cond-true, cond-false}
use Rattle.record.specs.SheetCheck.{sheet_check}
use Rattle.sheet.specs.WholeSheet.{sheet_answer, outcome_for, outcome, area_after, area_for}
use Rattle.sheet.proofs.AnswerBound.{sheet_answer_short}
use Rattle.question.specs.declared.refusal.Refusal.{Refusal}

-- ---- a refused sheet: the same number for every area, and no byte changed
pub refused_in_any_area : (s : List ℕ) (why : Refusal) → sheet_check s ≡ Err why → (room : ℕ) → outcome s room ≡ Err why
refused_in_any_area s why e room = ap (λ (c : Result ⊤ Refusal). outcome_for c (length (sheet_answer s)) room) e

pub refused_unchanged : (s area : List ℕ) (why : Refusal) → outcome s (length area) ≡ Err why → area_after s area ≡ area
refused_unchanged s area why e = ap (λ (o : Result ℕ Refusal). area_for o (sheet_answer s) area) e

-- ---- 13 by the answer's length alone
module _ (s : List ℕ) (room : ℕ) (accepted : sheet_check s ≡ Ok tt) where
  by_length : outcome s room ≡ cond (leb (length (sheet_answer s)) room) (Ok (length (sheet_answer s))) (Err Refusal.AreaTooShort)
  by_length = ap (λ (c : Result ⊤ Refusal). outcome_for c (length (sheet_answer s)) room) accepted

  pub too_short : room < length (sheet_answer s) → outcome s room ≡ Err Refusal.AreaTooShort
  too_short h = by_length ∙ cond-false _ _ _ (lt-leb _ _ h)

  pub long_enough : length (sheet_answer s) ≤ room → outcome s room ≡ Ok (length (sheet_answer s))
  long_enough h = by_length ∙ cond-true _ _ _ (le-leb _ _ h)

-- "an answer area of 65,536 bytes, more than any sheet can fill"
pub ample_area : (s : List ℕ) → sheet_check s ≡ Ok tt → outcome s 65536 ≡ Ok (length (sheet_answer s))
ample_area s e = long_enough s 65536 e (omega (arith, sheet_answer_short s e))
