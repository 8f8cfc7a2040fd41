-- Lowest terms in a form that computes. What is believed is `LowestTerms`, in the file of that name; that this is the time of which it holds is proved:
-- `lowest_is`, `lowest_unique`, in `proofs/LowestTerms.antt`.
use Rattle.std.specs.Prelude.{ℕ, zero, suc, ◌/◌, ◌%◌}
use Rattle.instant.specs.declared.Time.{Time}

-- the answer for n/0: no time, since no remainder is below 0
abbrev pub no_time : Time
no_time = record { seconds = 0; remainder = 0; divisor = 0 }

-- Euclid's algorithm in at most `steps` steps: gcd(a, 0) is a, and gcd(a, b) is gcd(b, a mod b)
abbrev pub euclid : ℕ → ℕ → ℕ → ℕ
euclid zero a b = a
euclid (suc steps) a zero = a
euclid (suc steps) a (suc b) = euclid steps (suc b) (a % suc b)

-- the greatest common divisor; b falls at each step, so b steps are enough
abbrev pub gcd : ℕ → ℕ → ℕ
gcd a b = euclid b a b

-- n/m for an m above 0: the whole seconds; what is left of n, and m, both divided by their greatest common divisor
abbrev pub reduced : ℕ → ℕ → Time
reduced n m = record { seconds = n / m; remainder = n % m / gcd m (n % m); divisor = m / gcd m (n % m) }

-- n/m in lowest terms
abbrev pub lowest : ℕ → ℕ → Time
lowest n zero = no_time
lowest n (suc m) = reduced n (suc m)
