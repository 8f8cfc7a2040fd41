-- "The path on the screen" (document 02): what it asks of a drawing and of a screen point; and the same of the upper path of a two-sided question. x is an encounter, y the
-- settings, z a question.
use Rattle.std.specs.Prelude.{◌≡◌, true, false, cond, List, [], ◌∷◌, ◌++◌, ℕ, ◌+◌, ◌*◌, ◌≤◌, ◌<◌, eqb, length, take, ℤ, pos, ◌+ℤ◌, ◌-ℤ◌, ◌*ℤ◌, Float, Err, None, Ok, Option, Result, Some}
use Rattle.integers.specs.Extremes.{max0}
use Rattle.instant.specs.declared.Instant.{Instant}
use Rattle.instant.specs.declared.Time.{Time}
use Rattle.instant.specs.Order.{◌÷◌, ◌≼◌, ◌≺◌}
use Rattle.instant.specs.LowestTerms.{shows, LowestTerms, whole_time}
use Rattle.path.specs.declared.SensedQuestion.{SensedQuestion}
use Rattle.path.specs.declared.Side.{Side}
use Rattle.path.specs.declared.Side.TheVariants.{Lower, Upper}
use Rattle.path.specs.Letters.{q, a, d, b}
use Rattle.path.specs.Paths.{u_d, speed_reached, upper_target}
use Rattle.question.specs.declared.Encounter.{Encounter}
use Rattle.question.specs.declared.Settings.{Settings}
use Rattle.question.specs.declared.Question.{Question}
use Rattle.question.specs.Refusals.{refusal, two_sided}
use Rattle.sensed.specs.Sensed.{sensed_question}
use Rattle.pieces.specs.Pieces.{piece_at}
use Rattle.pieces.specs.RightPieces.{path_of}
use Rattle.screen.specs.declared.Piece.{Piece}
use Rattle.screen.specs.declared.DrawnPiece.{DrawnPiece}
use Rattle.screen.specs.declared.ScreenPoint.{ScreenPoint}
use Rattle.screen.specs.Floats.{float, Exactly}
use Rattle.screen.specs.Drawings.{float_piece}
use Rattle.screen.specs.Points.{evaluated}
use Rattle.screen.specs.RightScreen.{ExactOnTheWay}
use Rattle.binding.specs.declared.PieceResult.{PieceResult}
use Rattle.binding.specs.declared.DrawingResult.{DrawingResult}
use Rattle.binding.specs.declared.PointResult.{PointResult}
use Rattle.binding.specs.declared.UpperPointResult.{UpperPointResult}
use Rattle.question.specs.declared.refusal.Refusal.{Refusal}
use Rattle.question.specs.RefusalNumbers.{refusal_number}

-- a 64-bit float whose value is exactly the whole number z: z's own float, so that 0 is +0
abbrev pub IsFloat : Float → ℤ → Type 0
IsFloat x z = (x ≡ float z) × Exactly x z

-- "each piece is an arc or a straight, with its coefficients in t as 64-bit floats", those of t², t and 1, each "a whole number"; "a piece is a straight exactly
-- if its t² has coefficient 0"
abbrev pub HasCoefficients : Piece → ℤ → ℤ → ℤ → Type 0
HasCoefficients (Piece.Arc x y z) square linear constant = IsFloat x square × IsFloat y linear × IsFloat z constant × ¬ (square ≡ pos 0)
HasCoefficients (Piece.Straight y z) square linear constant = IsFloat y linear × IsFloat z constant × (square ≡ pos 0)

-- no later than the next piece's time, if another piece follows
abbrev pub BeforeNext : List DrawnPiece → Instant → Type 0
BeforeNext [] t = Unit {0}
BeforeNext (next ∷ l) t = t ≼ shows next.from

-- "pieces of no length are left out"
abbrev pub HasLength : DrawnPiece → List DrawnPiece → Type 0
HasLength p [] = Unit {0}
HasLength p (next ∷ l) = shows p.from ≺ shows next.from

-- A piece is its side's path, f or j, from its time to the next piece's, both included, or without an end. "Heights are scaled by twice the strength": 2 × a × f,
-- upper 2 × b × j, here at a rational time n/m times m² (`path_of`, crates/pieces/specs/RightPieces.antt).
pub record DrawsStretch (side : Side) (s : SensedQuestion) (p : DrawnPiece) (later : List DrawnPiece) : Type 0 where
  pub square : ℤ
  pub linear : ℤ
  pub constant : ℤ
  pub coefficients : HasCoefficients p.piece square linear constant
  pub long : HasLength p later
  pub every_time : (n m : ℕ) → 1 ≤ m → shows p.from ≼ n ÷ m → BeforeNext later (n ÷ m)
      → square *ℤ pos n *ℤ pos n +ℤ linear *ℤ pos n *ℤ pos m +ℤ constant *ℤ pos m *ℤ pos m ≡ path_of side s n m
  -- "For each whole second from 0 to 600 the drawn height must equal the scaled path height": by products and sums of the floats
  pub every_second : (t : ℕ) → t ≤ 600 → shows p.from ≼ t ÷ 1 → BeforeNext later (t ÷ 1) → evaluated p.piece (float (pos t)) ≡ float (path_of side s t 1)

abbrev pub EachDraws : Side → SensedQuestion → List DrawnPiece → Type 0
EachDraws side s [] = Unit {0}
EachDraws side s (p ∷ l) = DrawsStretch side s p l × EachDraws side s l

-- the first piece's time, and those of the others
abbrev pub StartsAt : Time → List DrawnPiece → Type 0
StartsAt t [] = ⊥
StartsAt t (p ∷ l) = p.from ≡ t

abbrev pub times : List DrawnPiece → List Time
times [] = []
times (p ∷ l) = p.from ∷ times l

abbrev pub later_times : List DrawnPiece → List Time
later_times [] = []
later_times (p ∷ l) = times l

-- where "the paths of document 01 change rule": at d, if there is a delay, and at d + G/a, if the speed G is missing there
abbrev pub changes : ℕ → ℕ → ℕ → List Instant
changes delay strength G = cond (eqb delay 0) [] ((delay ÷ 1) ∷ []) ++ cond (eqb G 0) [] ((delay * strength + G ÷ strength) ∷ [])

abbrev pub rule_changes : Side → SensedQuestion → List Instant
rule_changes Lower s = changes (d s) (a s) (max0 (q s -ℤ u_d s))
rule_changes Upper s = changes (d s) (b s) (max0 (upper_target s -ℤ speed_reached s))

-- "at times kept as whole seconds, remainder and divisor": these are those, each in lowest terms
abbrev pub Kept : List Time → List Instant → Type 0
Kept [] [] = Unit {0}
Kept [] (i ∷ k) = ⊥
Kept (t ∷ l) [] = ⊥
Kept (t ∷ l) (i ∷ k) = LowestTerms i.n i.m t × Kept l k

-- "The lesson screen draws the lower path"; "at most three pieces"; "Pieces meet where the paths of document 01 change rule"
pub record DrawsPath (side : Side) (s : SensedQuestion) (l : List DrawnPiece) : Type 0 where
  pub few : length l ≤ 3
  pub start : StartsAt (whole_time 0) l
  pub meetings : Kept (later_times l) (rule_changes side s)
  pub each : EachDraws side s l

-- "the other refusals are those of the entry for plain numbers"
pub record RightlyDrawn (x : Encounter) (y : Settings) (z : Question) (c : Result (List DrawnPiece) ℕ) : Type 0 where
  pub refused : (why : Refusal) → refusal x y z ≡ Err why → c ≡ Err (refusal_number why)
  pub drawn : refusal x y z ≡ Ok tt → (l : List DrawnPiece) × (c ≡ Ok l) × DrawsPath Lower (sensed_question x y z) l

-- Only a two-sided question has an upper path.
pub record UpperRightlyDrawn (x : Encounter) (y : Settings) (z : Question) (c : Result (Option (List DrawnPiece)) ℕ) : Type 0 where
  pub refused : (why : Refusal) → refusal x y z ≡ Err why → c ≡ Err (refusal_number why)
  pub one_sided : refusal x y z ≡ Ok tt → two_sided z ≡ false → c ≡ Ok None
  pub drawn : refusal x y z ≡ Ok tt → two_sided z ≡ true → (l : List DrawnPiece) × (c ≡ Ok (Some l)) × DrawsPath Upper (sensed_question x y z) l

-- "A screen point holds a time and a height as two 64-bit floats": the second, and 2 × a × f there, upper 2 × b × j; "since every operation on the way is exact"
pub record OnPath (side : Side) (s : SensedQuestion) (t : ℕ) (p : ScreenPoint) : Type 0 where
  pub time : IsFloat p.time (pos t)
  pub height : IsFloat p.height (path_of side s t 1)
  pub way : let held = piece_at side s (t ÷ 1) in ExactOnTheWay held (float_piece held) (pos t) p.time

-- "A second above 600 gets 6", after 1 to 5
pub record RightlyPlaced (x : Encounter) (y : Settings) (z : Question) (t : ℕ) (r : Result ScreenPoint ℕ) : Type 0 where
  pub refused : (why : Refusal) → refusal x y z ≡ Err why → r ≡ Err (refusal_number why)
  pub late : refusal x y z ≡ Ok tt → 600 < t → r ≡ Err 6
  pub drawn : refusal x y z ≡ Ok tt → t ≤ 600 → (p : ScreenPoint) × (r ≡ Ok p) × OnPath Lower (sensed_question x y z) t p

pub record UpperRightlyPlaced (x : Encounter) (y : Settings) (z : Question) (t : ℕ) (r : Result (Option ScreenPoint) ℕ) : Type 0 where
  pub refused : (why : Refusal) → refusal x y z ≡ Err why → r ≡ Err (refusal_number why)
  pub late : 600 < t → refusal x y z ≡ Ok tt → r ≡ Err 6
  pub one_sided : refusal x y z ≡ Ok tt → two_sided z ≡ false → t ≤ 600 → r ≡ Ok None
  pub drawn : refusal x y z ≡ Ok tt → two_sided z ≡ true → t ≤ 600 → (p : ScreenPoint) × (r ≡ Ok (Some p)) × OnPath Upper (sensed_question x y z) t p

-- the drawing and the point in the structs of numbers that C and Rust get
abbrev pub time_in : PieceResult → Time
time_in f = record { seconds = f.seconds; remainder = f.remainder; divisor = f.divisor }

abbrev pub piece_in : PieceResult → DrawnPiece
piece_in f = record { from = time_in f; piece = cond (eqb f.kind 2) (Piece.Arc f.square f.linear f.constant) (Piece.Straight f.linear f.constant) }

abbrev pub pieces_in : DrawingResult → List DrawnPiece
pieces_in f = take f.pieces (piece_in f.first ∷ piece_in f.second ∷ piece_in f.third ∷ [])

abbrev pub content_in : DrawingResult → Result (List DrawnPiece) ℕ
content_in f = cond (eqb f.refusal 0) (Ok (pieces_in f)) (Err f.refusal)

-- no piece is no path
abbrev pub upper_content_in : DrawingResult → Result (Option (List DrawnPiece)) ℕ
upper_content_in f = cond (eqb f.refusal 0) (Ok (cond (eqb f.pieces 0) None (Some (pieces_in f)))) (Err f.refusal)

abbrev pub point_in : PointResult → Result ScreenPoint ℕ
point_in f = cond (eqb f.refusal 0) (Ok (record { time = f.time; height = f.height })) (Err f.refusal)

abbrev pub upper_point_in : UpperPointResult → Result (Option ScreenPoint) ℕ
upper_point_in f = cond (eqb f.refusal 0) (Ok (cond (eqb f.asked 1) (Some (record { time = f.time; height = f.height })) None)) (Err f.refusal)
