-- The bounds of a piece's parts, as rules for `search`, and the sizes of the three pieces. Assumes nothing.
use mathlib.Core.Path.{◌≡◌}
use mathlib.Core.Bool.{Bool, true, false, cond}
use Prim.Native.Nat.{ℕ, ◌<◌, ◌≤◌}
use native.Mathlib.Nat.{mul-le-mul}
use native.Mathlib.Omega.{arith}
use lib.IntN.{ℤ, pos, nat_abs}
use mir.Syntax.{w64}
use mir.Val.{to_z}
use Rattle.limits.specs.Limits.{max_strength, max_delay_acceleration, max_delay}
use Rattle.integers.proofs.Machine.{Reading, bounded_natural, bounded_word, bounded_absolute, equal_to, word_equal_to}
use Rattle.instant.specs.declared.Instant.{Instant}
use Rattle.instant.specs.inner.Sizes.{SizedInstant}
use Rattle.path.specs.declared.SensedQuestion.{SensedQuestion}
use Rattle.path.specs.declared.Side.{Side}
use Rattle.path.specs.declared.side_question.SideQuestion.{SideQuestion}
use Rattle.path.specs.Letters.{u, d}
use Rattle.path.specs.Paths.{delay_height}
use Rattle.path.specs.inner.Sizes.{max_speed_after_delay, Sized}
use Rattle.path.proofs.SideSizes.{sizes_of, sized_of}
use Rattle.window.proofs.Fields.{size}
use Rattle.conflict.specs.inner.Divided.{bend, speed_after_delay, strength_of, target_of, rule_of}
use Rattle.conflict.specs.inner.RuleSizes.{most_start}
use Rattle.conflict.proofs.Fields.{bend_natural, start_size, rule_sizes, missing_size, numbers}
use Rattle.pieces.specs.declared.WholePiece.{WholePiece}
use Rattle.pieces.specs.Pieces.{height_after_delay, missing_speed, delay_piece, arc_piece, last_piece, has_begun, piece_at}
use Rattle.pieces.specs.inner.PieceSizes.{most_height_after_delay, most_gap, PieceSizes}

module _ (side : Side) (s : SensedQuestion) (z : Sized side s) where
  -- the numbers themselves, as a definition has them
  abbrev strength : Reading (pos (strength_of side s))
  strength = bounded_natural (strength_of side s) max_strength (rule_sizes side s z).strength_hi

  pub strength_positive : 0 < strength_of side s
  strength_positive = (rule_sizes side s z).strength_lo

  abbrev delay : Reading (pos (d s))
  delay = bounded_natural (d s) max_delay (sizes_of side s z).d_hi

  abbrev acceleration : Reading (bend side s)
  acceleration = bounded_absolute (bend side s) max_delay_acceleration (bend_natural s (sizes_of side s z) side)

  -- u_d, q, 2 × a × f_d and G
  abbrev speed_after : Reading (speed_after_delay side s)
  speed_after = bounded_absolute (speed_after_delay side s) max_speed_after_delay (rule_sizes side s z).speed_hi

  abbrev target : Reading (target_of side s)
  target = bounded_absolute (target_of side s) max_speed_after_delay (rule_sizes side s z).target_hi

  pub height_size : nat_abs (height_after_delay side s) ≤ most_height_after_delay
  unfolding height_after_delay
  height_size =
      let a = strength in
      let start = bounded_absolute (delay_height (bend side s) (u s) (d s) 1) most_start (start_size s (sizes_of side s z) side) in
      size (height_after_delay side s) (search numbers depth 20) tt

  abbrev height : Reading (height_after_delay side s)
  height = bounded_absolute (height_after_delay side s) most_height_after_delay height_size

  pub gap_size : missing_speed side s ≤ most_gap
  gap_size = missing_size (rule_of side s) (rule_sizes side s z)

  abbrev gap : Reading (pos (missing_speed side s))
  gap = bounded_natural (missing_speed side s) most_gap gap_size

  -- ---- the three pieces
  pub delay_sizes : PieceSizes (delay_piece side s)
  delay_sizes =
      let y = sizes_of side s z in
      let a = strength in
      let e = acceleration in
      record {
        square_hi = omega (arith, size (delay_piece side s).square (search numbers depth 20) tt);
        linear_hi = omega (arith, size (delay_piece side s).linear (search numbers depth 20) tt);
        constant_hi = omega arith;
      }

  pub arc_sizes : PieceSizes (arc_piece side s)
  arc_sizes =
      let a = strength in
      let d = delay in
      let after = speed_after in
      let f = height in
      record {
        square_hi = omega (arith, size (arc_piece side s).square (search numbers depth 20) tt);
        linear_hi = omega (arith, size (arc_piece side s).linear (search numbers depth 20) tt);
        constant_hi = omega (arith, size (arc_piece side s).constant (search numbers depth 20) tt);
      }

  pub last_sizes : PieceSizes (last_piece side s)
  last_sizes =
      let a = strength in
      let d = delay in
      let q = target in
      let g = gap in
      let f = height in
      record {
        square_hi = omega arith;
        linear_hi = omega (arith, size (last_piece side s).linear (search numbers depth 20) tt);
        constant_hi = omega (arith, size (last_piece side s).constant (search numbers depth 20) tt);
      }

  pub piece_at_sizes : (t : Instant) → PieceSizes (piece_at side s t)
  piece_at_sizes t = go (has_begun (last_piece side s) t) (has_begun (arc_piece side s) t)
    where
      go : (l m : Bool) → PieceSizes (cond l (last_piece side s) (cond m (arc_piece side s) (delay_piece side s)))
      go true m = last_sizes
      go false true = arc_sizes
      go false false = delay_sizes

  -- ---- their times
  pub last_from_sized : SizedInstant (last_piece side s).from
  last_from_sized =
      let r = rule_sizes side s z in
      record { n = omega (arith, mul-le-mul (sizes_of side s z).d_hi r.strength_hi, gap_size); m = omega (arith, r.strength_hi) }

-- ---- a call's result is the definition's, and small
module _ (asked : SideQuestion) where
  abbrev pub read_strength : {r : ℕ} → r ≡ strength_of asked.side asked.question.sensed → Reading (to_z w64 r)
  read_strength e = word_equal_to e (bounded_word (strength_of asked.side asked.question.sensed) max_strength (rule_sizes asked.side asked.question.sensed (sized_of asked)).strength_hi)

  abbrev pub read_gap : {r : ℕ} → r ≡ missing_speed asked.side asked.question.sensed → Reading (to_z w64 r)
  read_gap e = word_equal_to e (bounded_word (missing_speed asked.side asked.question.sensed) most_gap (gap_size asked.side asked.question.sensed (sized_of asked)))

  module _ {r : ℤ} where
    abbrev pub read_acceleration : r ≡ bend asked.side asked.question.sensed → Reading r
    read_acceleration e = equal_to e (acceleration asked.side asked.question.sensed (sized_of asked))

    abbrev pub read_speed_after : r ≡ speed_after_delay asked.side asked.question.sensed → Reading r
    read_speed_after e = equal_to e (speed_after asked.side asked.question.sensed (sized_of asked))

    abbrev pub read_target : r ≡ target_of asked.side asked.question.sensed → Reading r
    read_target e = equal_to e (target asked.side asked.question.sensed (sized_of asked))

    abbrev pub read_height : r ≡ height_after_delay asked.side asked.question.sensed → Reading r
    read_height e = equal_to e (height asked.side asked.question.sensed (sized_of asked))

-- a piece is its time and its three coefficients
pub same_piece : {t t' : Instant} {x x' y y' z z' : ℤ} → t ≡ t' → x ≡ x' → y ≡ y' → z ≡ z' → ◌≡◌ {A = WholePiece} (record { from = t; square = x; linear = y; constant = z }) (record { from = t'; square = x'; linear = y'; constant = z' })
same_piece i f g h = cc
