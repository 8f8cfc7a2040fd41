-- "A candidate may name any instant, and the key must already hold the answer for that instant and for every one nobody tried." What it asks of the answer at an
-- instant n/m. x is an encounter, y the settings, z a question.
use Rattle.std.specs.Prelude.{◌≡◌, ◌⊎◌, Bool, true, false, cond, ◌↔◌, ℕ, ◌*◌, ◌≤◌, eqb, pos, ◌-ℤ◌, ◌*ℤ◌, nat_abs, Err, None, Ok, Option, Result, Some}
use Rattle.instant.specs.declared.Instant.{Instant}
use Rattle.instant.specs.declared.Time.{Time}
use Rattle.instant.specs.Order.{◌÷◌, ◌≈◌}
use Rattle.instant.specs.LowestTerms.{LowestTerms, shows}
use Rattle.path.specs.declared.SensedQuestion.{SensedQuestion}
use Rattle.path.specs.declared.Side.{Side}
use Rattle.path.specs.declared.Side.TheVariants.{Lower, Upper}
use Rattle.path.specs.Letters.{r, c, p}
use Rattle.question.specs.declared.Encounter.{Encounter}
use Rattle.question.specs.declared.Settings.{Settings}
use Rattle.question.specs.declared.Question.{Question}
use Rattle.question.specs.declared.refusal.Refusal.{Refusal}
use Rattle.question.specs.RefusalNumbers.{refusal_number}
use Rattle.question.specs.Refusals.{two_sided, refusal}
use Rattle.sensed.specs.Sensed.{sensed_question}
use Rattle.verdict.specs.declared.ClearSides.{ClearSides}
use Rattle.verdict.specs.declared.Verdict.{Verdict}
use Rattle.verdict.specs.declared.Verdict.TheVariants.{Clear, Conflict, Conflicts}
use Rattle.named_instant.specs.Reach.{value, in_reach}
use Rattle.named_instant.proofs.InReach as reach
use Rattle.named_instant.specs.declared.Standing.{Standing}
use Rattle.named_instant.specs.declared.InstantAnswer.{InstantAnswer}
use Rattle.named_instant.specs.declared.InstantAnswer.TheVariants.{Judged, OutOfReach}
use Rattle.binding.specs.declared.InstantResult.{InstantResult}
use Rattle.demands.specs.Demand3.{WithinLimit, ConflictAt}

-- "The window is every rational t ≥ 0, up to the limit if one is set, with |r − c × t| ≤ p"
pub record WindowAt (s : SensedQuestion) (n m : ℕ) : Type 0 where
  pub near : nat_abs (r s *ℤ pos m -ℤ pos (c s) *ℤ pos n) ≤ p s * m
  pub limited : WithinLimit s.limit n m

-- In the judge's reach: in lowest terms a fraction with a divisor up to 150,000 and a numerator up to 12,060,000, or a whole second up to 201,680,060
abbrev pub WithinReach : Time → Type 0
WithinReach t = (t.divisor ≤ 150000) × (((shows t).n ≤ 12060000) ⊎ ((t.divisor ≡ 1) × (t.seconds ≤ 201680060)))

pub record Reached (n m : ℕ) : Type 0 where
  pub rational : 1 ≤ m
  pub time : Time
  pub lowest : LowestTerms n m time
  pub within : WithinReach time

-- "in the window or not, and for each side asked whether it is a conflict time there"; one-sided, the upper side is not asked
abbrev pub UpperSaid : Bool → SensedQuestion → ℕ → ℕ → Option Bool → Type 0
UpperSaid false s n m upper = upper ≡ None
UpperSaid true s n m upper = (b : Bool) × (upper ≡ Some b) × ((b ≡ true) ↔ ConflictAt Upper s n m)

pub record RightStanding (two : Bool) (s : SensedQuestion) (n m : ℕ) (found : Standing) : Type 0 where
  pub window : (found.in_window ≡ true) ↔ WindowAt s n m
  pub lower : (found.lower ≡ true) ↔ ConflictAt Lower s n m
  pub upper : UpperSaid two s n m found.upper

pub record RightlyNamed (x : Encounter) (y : Settings) (z : Question) (t : Instant) (answer : Result InstantAnswer ℕ) : Type 0 where
  -- refused as the entry for plain numbers refuses
  pub refused : (why : Refusal) → refusal x y z ≡ Err why → answer ≡ Err (refusal_number why)
  -- m = 0, or numbers out of reach
  pub out_of_reach : refusal x y z ≡ Ok tt → ¬ Reached t.n t.m → answer ≡ Ok OutOfReach
  pub judged : refusal x y z ≡ Ok tt → Reached t.n t.m → (found : Standing) × (answer ≡ Ok (Judged found)) × RightStanding (two_sided z) (sensed_question x y z) t.n t.m found

-- ---- Against the judge's own answer to the same question
-- t is shown on the side
abbrev pub ShownOn : Side → Verdict → Time → Type 0
ShownOn Lower (Conflict t) time = t ≡ time
ShownOn Lower (Conflicts t u) time = t ≡ time
ShownOn Lower (Clear sides) time = ⊥
ShownOn Upper (Conflicts t u) time = u ≡ time
ShownOn Upper (Conflict t) time = ⊥
ShownOn Upper (Clear sides) time = ⊥

-- the verdict says that no conflict time exists on the side
abbrev pub ClearOn : Side → Verdict → Type 0
ClearOn Lower (Clear ClearSides.Lower) = Unit {0}
ClearOn Lower (Clear ClearSides.Upper) = ⊥
ClearOn Lower (Clear ClearSides.Both) = Unit {0}
ClearOn Upper (Clear ClearSides.Lower) = ⊥
ClearOn Upper (Clear ClearSides.Upper) = Unit {0}
ClearOn Upper (Clear ClearSides.Both) = Unit {0}
ClearOn side (Conflict t) = ⊥
ClearOn side (Conflicts t u) = ⊥

-- the instant is judged, and found to be a conflict time on the side, or to be none
abbrev pub FoundOn : Side → Standing → Bool → Type 0
FoundOn Lower found b = found.lower ≡ b
FoundOn Upper found b = found.upper ≡ Some b

abbrev pub NamedOn : Side → Result InstantAnswer Refusal → Bool → Type 0
NamedOn side named b = (found : Standing) × (named ≡ Ok (Judged found)) × FoundOn side found b

-- `judged` is the judge's answer, `named` the answer at t
pub record AgreesAt (t : Instant) (judged : Result Verdict Refusal) (named : Result InstantAnswer Refusal) : Type 0 where
  -- every time shown is judged a conflict time on its side, whatever fraction of that value names it
  pub shown : (side : Side) (v : Verdict) (time : Time) → judged ≡ Ok v → ShownOn side v time → 1 ≤ t.m → t ≈ shows time → NamedOn side named true
  -- where the verdict is clear on a side, no instant whatever is judged a conflict there
  pub clear : (side : Side) (v : Verdict) → judged ≡ Ok v → ClearOn side v → ¬ NamedOn side named true

-- The answer depends on the value n/m alone: a and b are the answers at t and at u.
abbrev pub OneAnswer : Instant → Instant → Result InstantAnswer Refusal → Result InstantAnswer Refusal → Type 0
OneAnswer t u a b = 1 ≤ t.m → 1 ≤ u.m → t ≈ u → a ≡ b

-- every decimal of three places up to 12,000 s is in reach
pub decimals_reached : (n : ℕ) → n ≤ 12000 * 1000 → in_reach (value (n ÷ 1000)) ≡ true
decimals_reached = reach.decimals_reached

-- the answer in the struct of numbers that C and Rust get: 1 for "is so"; of a side 2 for a conflict time, 0 where it is not asked
abbrev pub standing_in : InstantResult → Standing
standing_in f = record { in_window = eqb f.in_window 1; lower = eqb f.lower 2; upper = cond (eqb f.upper 0) None (Some (eqb f.upper 2)) }

abbrev pub instant_in : InstantResult → Result InstantAnswer ℕ
instant_in f = cond (eqb f.refusal 0) (Ok (cond (eqb f.in_reach 0) OutOfReach (Judged (standing_in f)))) (Err f.refusal)
