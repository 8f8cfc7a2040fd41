-- "The textbook describes a two-sided verdict as one band from k below the lower path to k above the upper, edges included." (document 02, "The band between the
-- paths".) s is a sensed question; a time is n/m.
use Rattle.std.specs.Prelude.{◌⊎◌, ℕ, ◌*◌, ◌≤◌, ℤ, pos, ◌+ℤ◌, ◌-ℤ◌, ◌*ℤ◌, nat_abs, ◌≤ℤ◌, ◌<ℤ◌, Err, Ok, Result}
use Rattle.path.specs.declared.SensedQuestion.{SensedQuestion}
use Rattle.path.specs.Letters.{p, k, wh, a, b}
use Rattle.path.specs.Paths.{lower_path, upper_path}
use Rattle.path.specs.Window.{InTime, distance_at}
use Rattle.verdict.specs.declared.Verdict.TheVariants.{Clear, Conflict, Conflicts}
use Rattle.question.specs.declared.refusal.Refusal.{Refusal}
use Rattle.verdict.specs.declared.Verdict.{Verdict}

-- A height in grains as a fraction: a whole number over a divisor, which is positive where m, a and b are.
pub record Height : Type 0 where
  pub number : ℤ
  pub divisor : ℕ

-- The lower path f and the upper path j at n/m, as heights: `lower_path` is 2 × a × m² × f, and `upper_path` 2 × b × m² × j.
abbrev pub lower_height : SensedQuestion → ℕ → ℕ → Height
lower_height s n m = record { number = lower_path s n m; divisor = 2 * a s * m * m }

abbrev pub upper_height : SensedQuestion → ℕ → ℕ → Height
upper_height s n m = record { number = upper_path s n m; divisor = 2 * b s * m * m }

-- x grains below a height, and x grains above it
abbrev pub lowered : ℕ → Height → Height
lowered x height = record { number = height.number -ℤ pos x *ℤ pos height.divisor; divisor = height.divisor }

abbrev pub raised : ℕ → Height → Height
raised x height = record { number = height.number +ℤ pos x *ℤ pos height.divisor; divisor = height.divisor }

-- a whole number of grains is strictly below a height; it is strictly above it: times the divisor
abbrev pub Below : ℤ → Height → Type 0
Below x height = (x *ℤ pos height.divisor) <ℤ height.number

abbrev pub Above : ℤ → Height → Type 0
Above x height = height.number <ℤ (x *ℤ pos height.divisor)

-- a height is no higher than another: times both divisors
abbrev pub NoHigher : Height → Height → Type 0
NoHigher x y = (x.number *ℤ pos y.divisor) ≤ℤ (y.number *ℤ pos x.divisor)

-- The band at n/m: "from k below the lower path to k above the upper", from f − k to j + k.
pub record Band : Type 0 where
  pub from : Height
  pub to : Height

abbrev pub band_at : SensedQuestion → ℕ → ℕ → Band
band_at s n m = record { from = lowered (k s) (lower_height s n m); to = raised (k s) (upper_height s n m) }

-- "outside that band", "edges included": on an edge is not outside
abbrev pub Outside : ℤ → Band → Type 0
Outside x band = Below x band.from ⊎ Above x band.to

-- a "rational time of the window": "n/m with whole n ≥ 0 and m ≥ 1", "up to the limit if one is set, with |r − c × t| ≤ p"
pub record WindowTime (s : SensedQuestion) (n m : ℕ) : Type 0 where
  pub divisor : 1 ≤ m
  pub near : nat_abs (distance_at s n m) ≤ p s * m
  pub intime : InTime s.limit n m

-- "at every rational time of the window the intruder's sensed height is outside that band"
abbrev pub AlwaysOutside : SensedQuestion → Type 0
AlwaysOutside s = (n m : ℕ) → WindowTime s n m → Outside (wh s) (band_at s n m)

-- the answer is clear, whichever sides it names
abbrev pub SaysClear : Result Verdict Refusal → Type 0
SaysClear (Ok (Clear sides)) = Unit {0}
SaysClear (Ok (Conflict t)) = ⊥
SaysClear (Ok (Conflicts t u)) = ⊥
SaysClear (Err why) = ⊥
