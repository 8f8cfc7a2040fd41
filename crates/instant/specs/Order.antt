-- Rational times and their order: "A rational time is n/m with whole n ≥ 0 and m ≥ 1; each comparison at it is multiplied through by its divisors, all
-- positive (m, m², 2, a or b), so that only whole numbers are compared" (document 01, "Paths and conflict").
use Rattle.std.specs.Prelude.{Bool, cond, ◌≡◌, ℕ, ◌*◌, ◌≤◌, ◌<◌, leb}
use Rattle.instant.specs.declared.Instant.{Instant}

infix 40 ◌÷◌
infix 30 ◌≼◌ ◌≺◌ ◌≈◌
-- n/m seconds
abbrev pub ◌÷◌ : ℕ → ℕ → Instant
n ÷ m = record { n = n; m = m }

-- a is no later than b
abbrev pub ◌≼◌ : Instant → Instant → Type 0
a ≼ b = a.n * b.m ≤ b.n * a.m

-- a is earlier than b
abbrev pub ◌≺◌ : Instant → Instant → Type 0
a ≺ b = a.n * b.m < b.n * a.m

-- a and b are the same rational time, as 1/2 and 2/4 are
abbrev pub ◌≈◌ : Instant → Instant → Type 0
a ≈ b = a.n * b.m ≡ b.n * a.m

-- the test of a ≼ b
abbrev pub no_later : Instant → Instant → Bool
no_later a b = leb (a.n * b.m) (b.n * a.m)

-- the earlier of two instants: a where a is no later than b, else b
abbrev pub earlier : Instant → Instant → Instant
earlier a b = cond (no_later a b) a b
