-- A rule over all codes or all places is one test that antt computes: what passes at every number below a bound passes at each.
use mathlib.Core.Path.{◌≡◌, subst, sym}
use mathlib.Core.Logic.{◌↔◌}
use mathlib.Core.Bool.{Bool, true, ◌&&◌}
use Prim.Native.Nat.{ℕ, zero, suc, ◌<◌}
use native.Mathlib.Nat.{not-suc-le-zero, le_of_suc-le-suc}
use lib.Dec.{T}
use mir.Facts.{and_yes}
use Rattle.std.proofs.lemmas.Bool.{agree_below, agree_below_at}

-- the test passes at every number below the bound
abbrev pub every : (ℕ → Bool) → ℕ → Bool
every test zero = true
every test (suc n) = test zero && every (λ (k : ℕ). test (suc k)) n

pub below : (test : ℕ → Bool) (n : ℕ) → T (every test n) → (k : ℕ) → k < n → T (test k)
below test zero t k h = absurd (not-suc-le-zero h)
below test (suc n) t zero h = (and_yes (test zero) (every (λ (k : ℕ). test (suc k)) n) t).0
below test (suc n) t (suc k) h =
    below (λ (k : ℕ). test (suc k)) n (and_yes (test zero) (every (λ (k : ℕ). test (suc k)) n) t).1 k (le_of_suc-le-suc h)

-- two tests agree at every number below the bound: the library's `agree_below` computes it
pub iff_below : (p q : ℕ → Bool) (n : ℕ) → agree_below p q n ≡ true → (k : ℕ) → k < n → T (p k) ↔ T (q k)
iff_below p q n t k h = let e = agree_below_at p q n k t h in (subst T e, subst T (sym e))
