-- The bounds of a question's distance, closing speed and radius and of an instant's numbers, as rules for `search`. Assumes nothing.
use mathlib.Core.Path.{sym, subst}
use Prim.Native.Nat.{ℕ, ◌+◌, ◌*◌, ◌≤◌}
use native.Mathlib.Omega.{arith}
use lib.Dec.{T}
use lib.IntN.{ℤ, pos, negsuc, nat_abs}
use mir.Syntax.{w64}
use mir.Val.{to_z}
use Rattle.limits.specs.Limits.{max_distance, max_closing_speed, max_radius}
use Rattle.integers.specs.Extremes.{max0}
use Rattle.integers.proofs.Difference.{neg_part}
use Rattle.integers.proofs.Machine.{Reading, bounded, bounded_natural, bounded_word, plain_terms}
use Rattle.path.specs.declared.SensedQuestion.{SensedQuestion}
use Rattle.path.specs.declared.Side.{Side}
use Rattle.path.specs.declared.Side.TheVariants.{Upper}
use Rattle.path.specs.Letters.{r, c, p}
use Rattle.path.specs.Window.{distance_at}
use Rattle.path.specs.inner.Sizes.{Sizes, farthest, InReach}

-- ---- an instant
module _ (side : Side) (n m : ℕ) (h : InReach side n m) where
  abbrev pub read_n : Reading (to_z w64 n)
  read_n = bounded_word n (farthest side) h.n_hi

  abbrev pub read_m : Reading (to_z w64 m)
  read_m = bounded_word m max_closing_speed h.m_hi

-- ---- a question
module _ (s : SensedQuestion) (z : Sizes s) where
  abbrev pub read_distance : Reading s.distance
  read_distance = bounded (r s) max_distance z.r_lo z.r_hi

  abbrev pub read_closing_speed : Reading (to_z w64 s.closing_speed)
  read_closing_speed = bounded_word (c s) max_closing_speed z.c_hi

  abbrev pub read_radius : Reading (to_z w64 s.radius)
  read_radius = bounded_word (p s) max_radius z.p_hi

-- `search numbers` finds the reading of a machine term, where the sizes of its question and the reach of its instant are in scope
pub ruleset numbers = (plain_terms, read_n, read_m, read_distance, read_closing_speed, read_radius)

-- ---- the size of a term is within the bound of its reading
number_size : (z : ℤ) (B : ℕ) → max0 z + neg_part z ≤ B → nat_abs z ≤ B
number_size (pos n) B h = omega arith
number_size (negsuc n) B h = omega arith

pub size : (t : ℤ) (x : Reading t) → T x.guard → nat_abs t ≤ x.bound
size t x g = subst (λ (z : ℤ). nat_abs z ≤ x.bound) (sym (x.is g)) (number_size x.number x.bound (x.small g))

-- r − c × t, times m, at most
abbrev pub most_distance : ℕ
most_distance = max_distance * max_closing_speed + max_closing_speed * farthest Upper

pub distance_size : (s : SensedQuestion) (n m : ℕ) → Sizes s → InReach Upper n m → nat_abs (distance_at s n m) ≤ most_distance
distance_size s n m z h =
    let closing-speed = bounded_natural (c s) max_closing_speed z.c_hi in
    let time = bounded_natural n (farthest Upper) h.n_hi in
    let divisor = bounded_natural m max_closing_speed h.m_hi in
    size (distance_at s n m) (search numbers depth 20) tt
