-- A side's path as pieces, in whole numbers: "Split it into at most three pieces: each piece is an arc or a straight". "Heights
-- are scaled by twice the strength, which makes every coefficient a whole number." (Document 02, "The path on the screen".) A piece is
-- square × t² + linear × t + constant in t itself, not in the time since the piece begins. The upper path is split as the lower is, with its own four numbers
-- (`conflict`, specs/inner/Divided.antt):
--   `strength_of`: a; upper b
--   `bend`, the acceleration during the delay: −e; upper e
--   `speed_after_delay`: u_d, u − e × d; upper "the speed reached", u + e × d
--   `target_of`: q; upper "max(w × (upper target − vi), u)", with the speed reached for u
use Rattle.std.specs.Prelude.{Bool, cond, List, [], ◌∷◌, ℕ, ◌+◌, ◌*◌, eqb, ℤ, pos, ◌+ℤ◌, ◌-ℤ◌, ◌*ℤ◌}
use Rattle.integers.specs.Extremes.{max0}
use Rattle.instant.specs.declared.Instant.{Instant}
use Rattle.instant.specs.Order.{◌÷◌, no_later}
use Rattle.path.specs.declared.SensedQuestion.{SensedQuestion}
use Rattle.path.specs.declared.Side.{Side}
use Rattle.path.specs.Letters.{u, d}
use Rattle.path.specs.Paths.{delay_height}
use Rattle.conflict.specs.inner.Divided.{bend, speed_after_delay, strength_of, target_of}
use Rattle.pieces.specs.declared.WholePiece.{WholePiece}

-- f_d, times 2 × a
unfoldable pub height_after_delay : Side → SensedQuestion → ℤ
unfolding delay_height
height_after_delay side s = pos (strength_of side s) *ℤ delay_height (bend side s) (u s) (d s) 1

-- "G = max(0, q − u_d)"
abbrev pub missing_speed : Side → SensedQuestion → ℕ
missing_speed side s = max0 (target_of side s -ℤ speed_after_delay side s)

-- "0 ≤ t ≤ d: f = u × t − e × t²/2"
abbrev pub delay_piece : Side → SensedQuestion → WholePiece
delay_piece side s = record {
  from = 0 ÷ 1;
  square = pos (strength_of side s) *ℤ bend side s;
  linear = pos 2 *ℤ pos (strength_of side s) *ℤ u s;
  constant = pos 0;
}

-- "After d, with s = t − d": "while s < G/a, f = f_d + u_d × s + a × s²/2"
abbrev pub arc_piece : Side → SensedQuestion → WholePiece
arc_piece side s =
    let a = pos (strength_of side s) in
    let u_d = speed_after_delay side s in
    record {
      from = d s ÷ 1;
      square = a *ℤ a;
      linear = pos 2 *ℤ a *ℤ u_d -ℤ pos 2 *ℤ a *ℤ a *ℤ pos (d s);
      constant = height_after_delay side s -ℤ pos 2 *ℤ a *ℤ u_d *ℤ pos (d s) +ℤ a *ℤ a *ℤ pos (d s) *ℤ pos (d s);
    }

-- "from then on f = f_d + q × s − G²/(2 × a)", without an end
abbrev pub last_piece : Side → SensedQuestion → WholePiece
last_piece side s =
    let a = pos (strength_of side s) in
    let G = pos (missing_speed side s) in
    record {
      from = d s * strength_of side s + missing_speed side s ÷ strength_of side s;
      square = pos 0;
      linear = pos 2 *ℤ a *ℤ target_of side s;
      constant = height_after_delay side s -ℤ pos 2 *ℤ a *ℤ target_of side s *ℤ pos (d s) -ℤ G *ℤ G;
    }

-- "pieces of no length are left out": the delay where d is 0, the arc where G is 0
abbrev pub unless : {A : Type 0} → Bool → A → List A → List A
unless b x l = cond b l (x ∷ l)

abbrev pub pieces : Side → SensedQuestion → List WholePiece
pieces side s = unless (eqb (d s) 0) (delay_piece side s) (unless (eqb (missing_speed side s) 0) (arc_piece side s) (last_piece side s ∷ []))

-- the piece that holds at a time: the latest that has begun
abbrev pub has_begun : WholePiece → Instant → Bool
has_begun p t = no_later p.from t

abbrev pub piece_at : Side → SensedQuestion → Instant → WholePiece
piece_at side s t =
    cond (has_begun (last_piece side s) t) (last_piece side s) (cond (has_begun (arc_piece side s) t) (arc_piece side s) (delay_piece side s))

-- "each whole second from 0 to 600"
abbrev pub last_second : ℕ
last_second = 600

-- the height of a piece at n/m, times m²
abbrev pub piece_height : WholePiece → ℕ → ℕ → ℤ
piece_height p n m = p.square *ℤ pos n *ℤ pos n +ℤ p.linear *ℤ pos n *ℤ pos m +ℤ p.constant *ℤ pos m *ℤ pos m
