-- What it is for a list of pieces to split a side's path: "Pieces meet where the paths of document 01 change rule, at times kept as whole seconds,
-- remainder and divisor; pieces of no length are left out." A height at n/m stands times 2 × a × m², upper 2 × b × m², as `path` has it.
use Rattle.std.specs.Prelude.{◌≡◌, List, [], ◌∷◌, ◌⊎◌, ℕ, ◌+◌, ◌*◌, ◌≤◌, eqb, ℤ}
use Rattle.instant.specs.declared.Instant.{Instant}
use Rattle.instant.specs.declared.Time.{Time}
use Rattle.instant.specs.Order.{◌÷◌, ◌≼◌, ◌≺◌, ◌≈◌}
use Rattle.instant.specs.Lowest.{lowest}
use Rattle.path.specs.declared.SensedQuestion.{SensedQuestion}
use Rattle.path.specs.declared.Side.{Side}
use Rattle.path.specs.declared.Side.TheVariants.{Lower, Upper}
use Rattle.path.specs.Letters.{d}
use Rattle.path.specs.Paths.{lower_path, upper_path}
use Rattle.conflict.specs.inner.Divided.{strength_of}
use Rattle.pieces.specs.declared.WholePiece.{WholePiece}
use Rattle.pieces.specs.Pieces.{missing_speed, unless, piece_height}

-- the path of a side: f or j
abbrev pub path_of : Side → SensedQuestion → ℕ → ℕ → ℤ
path_of Lower s = lower_path s
path_of Upper s = upper_path s

-- the first piece holds from 0
abbrev pub FromStart : List WholePiece → Type 0
FromStart [] = ⊥
FromStart (p ∷ l) = p.from ≈ 0 ÷ 1

-- each piece has a length, and the pieces are in time's order: each begins before the next
abbrev pub InOrder : List WholePiece → Type 0
InOrder [] = Unit {0}
InOrder (p ∷ []) = Unit {0}
InOrder (p ∷ r ∷ l) = (p.from ≺ r.from) × InOrder (r ∷ l)

-- each piece is the path at every rational time from its own to the next one's, both included, and the last one without an end
abbrev pub FollowPath : Side → SensedQuestion → List WholePiece → Type 0
FollowPath side s [] = Unit {0}
FollowPath side s (p ∷ []) = (n m : ℕ) → 1 ≤ m → p.from ≼ n ÷ m → piece_height p n m ≡ path_of side s n m
FollowPath side s (p ∷ r ∷ l) = ((n m : ℕ) → 1 ≤ m → p.from ≼ n ÷ m → n ÷ m ≼ r.from → piece_height p n m ≡ path_of side s n m) × FollowPath side s (r ∷ l)

-- two pieces agree where they meet
abbrev pub Agree : List WholePiece → Type 0
Agree [] = Unit {0}
Agree (p ∷ []) = Unit {0}
Agree (p ∷ r ∷ l) = ((n m : ℕ) → 1 ≤ m → n ÷ m ≈ r.from → piece_height p n m ≡ piece_height r n m) × Agree (r ∷ l)

-- the times at which pieces meet
abbrev pub meeting_times : List WholePiece → List Time
meeting_times [] = []
meeting_times (p ∷ []) = []
meeting_times (p ∷ r ∷ l) = lowest r.from.n r.from.m ∷ meeting_times (r ∷ l)

-- the times at which the path changes rule: at d, if there is a delay, and at d + G/a, if speed is missing
abbrev pub rule_changes : Side → SensedQuestion → List Time
rule_changes side s =
    unless (eqb (d s) 0) (lowest (d s) 1)
    (unless (eqb (missing_speed side s) 0) (lowest (d s * strength_of side s + missing_speed side s) (strength_of side s)) [])

pub record RightPieces (side : Side) (s : SensedQuestion) (l : List WholePiece) : Type 0 where
  pub start : FromStart l
  pub order : InOrder l
  pub follow : FollowPath side s l
  pub agree : Agree l
  pub meetings : meeting_times l ≡ rule_changes side s

-- p is the piece of the list that holds at t: it has begun, and the next one has not
abbrev pub Holds : List WholePiece → WholePiece → Instant → Type 0
Holds [] p t = ⊥
Holds (x ∷ []) p t = (p ≡ x) × (x.from ≼ t)
Holds (x ∷ y ∷ l) p t = ((p ≡ x) × (x.from ≼ t) × (t ≺ y.from)) ⊎ Holds (y ∷ l) p t
