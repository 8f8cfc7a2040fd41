-- Instants over one denominator, and what lies between two of them. Assumes nothing.
use Rattle.std.specs.Prelude.{Option}
use Rattle.std.specs.Option.{option_to_list}
use mathlib.Core.Path.{◌≡◌, refl, sym, ap}
use mathlib.Core.List.{List, [], ◌∷◌}
use mathlib.Core.Logic.{inl, inr}
use Prim.Native.Nat.{ℕ, zero, suc, ◌*◌, ◌<◌, ◌≤◌}
use native.Mathlib.Nat.{mul-le-mul_right, le_of_mul-le-mul_right, mul-pos}
use native.Mathlib.Omega.{arith}
use Rattle.instant.specs.declared.Instant.{Instant}
use Rattle.instant.specs.Order.{◌÷◌, ◌≼◌}
use Rattle.path.specs.Instants.{Among}

-- n/m is no earlier than `first` and, where there is a `last`, no later than it
pub record Between (first : Instant) (last : Option Instant) (n m : ℕ) : Type 0 where
  pub after : first ≼ n ÷ m
  pub before : (t : Instant) → Among t (option_to_list last) → n ÷ m ≼ t

-- ---- a denominator for all the instants of a list: the product of theirs
pub denominator : List Instant → ℕ
denominator [] = 1
denominator (t ∷ l) = t.m * denominator l

pub denominator_positive : (l : List Instant) → ((t : Instant) → Among t l → 0 < t.m) → 0 < denominator l
unfolding denominator
denominator_positive [] h = omega arith
denominator_positive (t ∷ l) h = mul-pos (h t (inl refl)) (denominator_positive l (λ x i. h x (inr i)))

-- M is a multiple of t's denominator
abbrev pub Multiple : ℕ → Instant → Type 0
Multiple M t = (s : ℕ) × (M ≡ t.m * s)

pub denominator_multiple : (l : List Instant) (t : Instant) → Among t l → Multiple (denominator l) t
unfolding denominator
denominator_multiple [] t i = absurd i
denominator_multiple (x ∷ l) t (inl e) = (denominator l, ap (λ (z : Instant). z.m * denominator l) (sym e))
denominator_multiple (x ∷ l) t (inr i) = let s = denominator_multiple l t i in let h = s.1 in (x.m * s.0, omega (arith, ap (λ (z : ℕ). x.m * z) h))

-- ---- x/M is the instant t: its numerator and denominator, both times a factor
pub record Over (t : Instant) (x M : ℕ) : Type 0 where
  pub factor : ℕ
  pub positive : 0 < factor
  pub numerator : x ≡ t.n * factor
  pub divisor : M ≡ t.m * factor

pub over_multiple : (t : Instant) (s M : ℕ) → 0 < M → M ≡ t.m * s → Over t (t.n * s) M
over_multiple t zero M p e = absurd (omega arith)
over_multiple t (suc s) M p e = record { factor = suc s; positive = omega arith; numerator = refl; divisor = e }

-- x/M is one of the instants
pub record Place (l : List Instant) (x M : ℕ) : Type 0 where
  pub t : Instant
  pub among : Among t l
  pub over : Over t x M

-- y/M against t is y against x
module _ (t : Instant) (x M : ℕ) (o : Over t x M) (y : ℕ) where
  pub over_le : 0 < t.m → y ÷ M ≼ t → y ≤ x
  over_le p h =
      let n = o.numerator in let d = o.divisor in
      le_of_mul-le-mul_right {m = y} {n = x} {k = t.m} (omega (arith, ap (λ (z : ℕ). t.n * z) d, ap (λ (z : ℕ). z * t.m) n)) p

  pub over_ge : 0 < t.m → t ≼ y ÷ M → x ≤ y
  over_ge p h =
      let n = o.numerator in let d = o.divisor in
      le_of_mul-le-mul_right {m = x} {n = y} {k = t.m} (omega (arith, ap (λ (z : ℕ). t.n * z) d, ap (λ (z : ℕ). z * t.m) n)) p

  pub le_over : y ≤ x → y ÷ M ≼ t
  le_over h = let n = o.numerator in let d = o.divisor in omega (arith, ap (λ (z : ℕ). t.n * z) d, ap (λ (z : ℕ). z * t.m) n, mul-le-mul_right t.m h)

  pub ge_over : x ≤ y → t ≼ y ÷ M
  ge_over h = let n = o.numerator in let d = o.divisor in omega (arith, ap (λ (z : ℕ). t.n * z) d, ap (λ (z : ℕ). z * t.m) n, mul-le-mul_right t.m h)
