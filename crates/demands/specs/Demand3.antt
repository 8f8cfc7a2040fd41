-- Demand 3: the verdict is "conflict" exactly if a rational conflict time exists (two-sided: on each side); each time shown is one and is the one that document
-- 01's rule picks; "conflict time" is defined by the paths alone.
use Rattle.std.specs.Prelude.{◌≡◌, Bool, true, false, ◌↔◌, ℕ, ◌*◌, ◌/◌, ◌≤◌, ◌<◌, pos, ◌+ℤ◌, ◌-ℤ◌, ◌*ℤ◌, nat_abs, ◌≤ℤ◌, None, Option, Some}
use Rattle.std.specs.Int.{◌∣◌}
use Rattle.instant.specs.declared.Time.{Time}
use Rattle.instant.specs.Order.{◌÷◌, ◌≈◌}
use Rattle.instant.specs.LowestTerms.{LowestTerms, SizedTime, whole_time}
use Rattle.instant.specs.Lowest.{lowest}
use Rattle.instant.proofs.LowestTerms as terms
use Rattle.path.specs.declared.SensedQuestion.{SensedQuestion}
use Rattle.path.specs.declared.Side.{Side}
use Rattle.path.specs.declared.Side.TheVariants.{Lower, Upper}
use Rattle.path.specs.Letters.{r, c, p, k, wh, a, b}
use Rattle.path.specs.Paths.{lower_path, upper_path}
use Rattle.shown.specs.TimeRule.{Picks}
use Rattle.verdict.specs.declared.ClearSides.{ClearSides}
use Rattle.verdict.specs.declared.Verdict.{Verdict}
use Rattle.verdict.specs.declared.Verdict.TheVariants.{Clear, Conflict, Conflicts}

-- "up to the limit if one is set"
abbrev pub WithinLimit : Option ℕ → ℕ → ℕ → Type 0
WithinLimit None n m = Unit {0}
WithinLimit (Some limit) n m = n ≤ limit * m

-- "not strictly beyond it vertically": w × h + k ≥ f(t), times 2 × a × m²; upper: w × h − k ≤ j(t), times 2 × b × m²
abbrev pub NotStrictlyBeyond : Side → SensedQuestion → ℕ → ℕ → Type 0
NotStrictlyBeyond Lower s n m = lower_path s n m ≤ℤ (pos 2 *ℤ pos (a s) *ℤ pos m *ℤ pos m *ℤ (wh s +ℤ pos (k s)))
NotStrictlyBeyond Upper s n m = (pos 2 *ℤ pos (b s) *ℤ pos m *ℤ pos m *ℤ (wh s -ℤ pos (k s))) ≤ℤ upper_path s n m

-- n/m is a conflict time: "A rational time is n/m with whole n ≥ 0 and m ≥ 1"; "|r − c × t| ≤ p", times m
pub record ConflictAt (side : Side) (s : SensedQuestion) (n m : ℕ) : Type 0 where
  pub rational : 1 ≤ m
  pub near : nat_abs (r s *ℤ pos m -ℤ pos (c s) *ℤ pos n) ≤ p s * m
  pub limited : WithinLimit s.limit n m
  pub vertical : NotStrictlyBeyond side s n m

-- a rational conflict time exists
abbrev pub SomeConflict : Side → SensedQuestion → Type 0
SomeConflict side s = (n : ℕ) × (m : ℕ) × ConflictAt side s n m

-- "One-sided, the side is the lower one"; two-sided, on each side
abbrev pub ConflictOnEachSide : Bool → SensedQuestion → Type 0
ConflictOnEachSide false s = SomeConflict Lower s
ConflictOnEachSide true s = SomeConflict Lower s × SomeConflict Upper s

-- the verdict is "conflict"
abbrev pub SaysConflict : Verdict → Type 0
SaysConflict (Clear sides) = ⊥
SaysConflict (Conflict t) = Unit {0}
SaysConflict (Conflicts t u) = Unit {0}

-- A time shown is a conflict time, the one that the rule picks, in lowest terms, and "4 unsigned bytes each" hold its numbers.
pub record Shown (side : Side) (s : SensedQuestion) (t : Time) : Type 0 where
  pub n : ℕ
  pub m : ℕ
  pub conflict : ConflictAt side s n m
  pub picked : Picks side s (Some (n ÷ m))
  pub lowest : LowestTerms n m t
  pub small : SizedTime t

-- What is said besides "conflict": each time shown; and of a clear verdict, "naming the sides that have none". One-sided, a conflict has one time and clear
-- names the lower side.
abbrev pub Said : Bool → SensedQuestion → Verdict → Type 0
Said false s (Clear ClearSides.Lower) = ¬ SomeConflict Lower s
Said false s (Clear ClearSides.Upper) = ⊥
Said false s (Clear ClearSides.Both) = ⊥
Said false s (Conflict t) = Shown Lower s t
Said false s (Conflicts t u) = ⊥
Said true s (Clear ClearSides.Lower) = (¬ SomeConflict Lower s) × SomeConflict Upper s
Said true s (Clear ClearSides.Upper) = SomeConflict Lower s × (¬ SomeConflict Upper s)
Said true s (Clear ClearSides.Both) = (¬ SomeConflict Lower s) × (¬ SomeConflict Upper s)
Said true s (Conflict t) = ⊥
Said true s (Conflicts t u) = Shown Lower s t × Shown Upper s u

-- the demand, for a verdict on a question that is two-sided or not
pub record Demand3 (two : Bool) (s : SensedQuestion) (v : Verdict) : Type 0 where
  pub exactly : SaysConflict v ↔ ConflictOnEachSide two s
  pub said : Said two s v

-- Equal rational times, and only these, are shown as one time.
pub one_time : (n m n' m' : ℕ) → 0 < m → 0 < m' → (t t' : Time) → LowestTerms n m t → LowestTerms n' m' t' → (t ≡ t') ↔ (n ÷ m ≈ n' ÷ m')
one_time = terms.terms_same

-- "a whole time has remainder 0 and divisor 1"
pub whole_times : (n m : ℕ) → 0 < m → m ∣ n → (t : Time) → LowestTerms n m t → t ≡ whole_time (n / m)
whole_times = terms.terms_whole

-- The form that computes a time gives the only one in lowest terms.
pub computed_time : (n m : ℕ) → 0 < m → (t : Time) → LowestTerms n m t → t ≡ lowest n m
computed_time = terms.lowest_unique
