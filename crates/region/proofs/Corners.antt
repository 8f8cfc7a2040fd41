-- Corners: each bound of the figures is a comparison of the path with the puck's edge at one instant of the window, the instant of a corner. Here is
-- what both figures share: how a comparison at a corner's instant is carried to another instant, and where the instants (r - p)/c and (r + p)/c, at
-- which the window starts and ends, stand in it and against an instant g/a. Assumes nothing.
use mathlib.Core.Path.{◌≡◌, refl, sym, ap, ◌∙◌}
use mathlib.Core.Bool.{Bool, cond}
use mathlib.Core.List.{[], ◌∷◌}
use mathlib.Core.Logic.{⊎_elim, ◌↔◌}
use Prim.Native.Nat.{ℕ, zero, suc, ◌*◌, ◌<◌, ◌≤◌}
use native.Mathlib.Nat.{lt_of_mul-lt-mul_left, mul-pos}
use native.Mathlib.Omega.{arith}
use lib.Dec.{leb-zero}
use lib.IntN.{ℤ, pos, negsuc, neg_ℤ, ◌+ℤ◌, ◌-ℤ◌, ◌*ℤ◌}
use lib.Signed.{◌≤ℤ◌, ◌<ℤ◌, <ℤ_irrefl}
use Rattle.integers.specs.Extremes.{max0, maxℤ, minℤ}
use Rattle.integers.proofs.Quotation.{quote}
use Rattle.integers.proofs.Certificates.{by≤, by<, div≤, gap≤, gap<, ◌⊞◌, ◌⊠◌, 0≤pos, pos≤, pos<, nat≤, nat<, split<}
use Rattle.integers.proofs.Laws.{≤ℤ-of-≡, ≤ℤ_trans, times<, over<, max0_same}

-- ---- max(0, z) and min(0, z), as the figures print them
pub max_is : (z : ℤ) → maxℤ (pos 0) z ≡ pos (max0 z)
max_is (pos n) = ap (λ (b : Bool). cond b (pos n) (pos 0)) (leb-zero n)
max_is (negsuc n) = refl

pub min_is : (z : ℤ) → minℤ (pos 0) z ≡ neg_ℤ (pos (max0 (neg_ℤ z)))
min_is (pos zero) = refl
min_is (pos (suc n)) = ap (λ (b : Bool). cond b (pos 0) (pos (suc n))) (leb-zero (suc n))
min_is (negsuc n) = refl

pub positive_right : (x n c : ℕ) → x < n * c → 0 < c
positive_right x n c h = lt_of_mul-lt-mul_left n {m = 0} (omega arith)

-- y - x is k times b - a, with k positive
pub same_sign : {a b x y : ℤ} (k : ℤ) → pos 0 <ℤ k → y -ℤ x ≡ k *ℤ (b -ℤ a) → (a <ℤ b) ↔ (x <ℤ y)
same_sign k p e = (times< k p e, over< k p e)

-- ---- a path F and a level K, both on a scale of m*m: strictly beyond it at n/m, and throughout the times that W describes
abbrev pub Beyond : (ℕ → ℕ → ℤ) → ℤ → ℕ → ℕ → Type 0
Beyond F K n m = (pos m *ℤ pos m *ℤ K) <ℤ F n m

abbrev pub Clear : (ℕ → ℕ → Type 0) → (ℕ → ℕ → ℤ) → ℤ → Type 0
Clear W F K = (n m : ℕ) → 0 < m → W n m → Beyond F K n m

-- n₁/m₁ is an instant of W at which `bound` says that the path is beyond the level
pub record Corner (W : ℕ → ℕ → Type 0) (F : ℕ → ℕ → ℤ) (K : ℤ) (n₁ m₁ : ℕ) (bound : Type 0) : Type 0 where
  pub positive : 0 < m₁
  pub within : W n₁ m₁
  pub says : bound ↔ Beyond F K n₁ m₁

module _ {W : ℕ → ℕ → Type 0} {F : ℕ → ℕ → ℤ} {K : ℤ} {n₁ m₁ : ℕ} {bound : Type 0} (corner : Corner W F K n₁ m₁ bound) where
  -- a clear path is beyond the level there
  pub bounded : Clear W F K → bound
  bounded clear = corner.says.1 (clear n₁ m₁ corner.positive corner.within)

  -- and where it is beyond the level there, it is so wherever it is no lower
  pub carried : ((n m s : ℕ) → F (n * s) (m * s) ≡ pos s *ℤ pos s *ℤ F n m) → bound → (n m : ℕ) → 0 < m → F (n₁ * m) (m * m₁) ≤ℤ F (n * m₁) (m * m₁) → Beyond F K n m
  carried F-scale b n m pm l =
      let here : F (n₁ * m) (m * m₁) ≡ pos m *ℤ pos m *ℤ F n₁ m₁ = ap (λ (t : ℕ). F (n₁ * m) t) {x = m * m₁} {y = m₁ * m} (omega arith) ∙ F-scale n₁ m₁ m in
      let lower : (pos m *ℤ pos m *ℤ F n₁ m₁) ≤ℤ (pos m₁ *ℤ pos m₁ *ℤ F n m) = ≤ℤ_trans (≤ℤ-of-≡ (sym here)) (≤ℤ_trans l (≤ℤ-of-≡ (F-scale n m m₁))) in
      ⊎_elim (λ y. y)
      (λ (y : F n m ≤ℤ (pos m *ℤ pos m *ℤ K)). absurd (<ℤ_irrefl {a = pos 0} (by< (m ∷ m₁ ∷ []) (K ∷ F n m ∷ F n₁ m₁ ∷ [])
      (0≤pos (m₁ * m₁) ⊠ gap≤ y ⊞ 0≤pos (m * m) ⊠ gap< (corner.says.0 b) ⊞ gap≤ lower ⊞ gap< (pos< {m = 0} {n = m * m} (mul-pos pm pm))) (λ v. search quote depth 20) tt)))
      (split< (pos m *ℤ pos m *ℤ K) (F n m))

-- ---- the window of a distance r that shrinks by c a second, for a puck of radius p: |r - c*n/m| ≤ p
pub record Within (c p : ℕ) (r : ℤ) (n m : ℕ) : Type 0 where
  pub from : ((r -ℤ pos p) *ℤ pos m) ≤ℤ (pos c *ℤ pos n)
  pub till : (pos c *ℤ pos n) ≤ℤ ((r +ℤ pos p) *ℤ pos m)

-- where it has a time, r is -p or more: the intruder has not passed
pub not_passed : {c p n m : ℕ} {r : ℤ} → 0 < m → Within c p r n m → neg_ℤ (pos p) ≤ℤ r
not_passed {c} {p} {n} {m} {r} pm w = div≤ (c ∷ p ∷ n ∷ m ∷ []) (r ∷ []) (pos< pm) (gap≤ w.till) (λ v. search quote depth 20) tt

-- and where the distance does not shrink, r is p or less
pub still : {c p n m : ℕ} {r : ℤ} → c ≡ 0 → 0 < m → Within c p r n m → r ≤ℤ pos p
still {c} {p} {n} {m} {r} e pm w = div≤ (c ∷ p ∷ n ∷ m ∷ []) (r ∷ []) (pos< pm) (gap≤ w.from ⊞ 0≤pos n ⊠ gap≤ (pos≤ {m = c} {n = 0} (omega arith))) (λ v. search quote depth 20) tt

pub exit_is : (p : ℕ) (r : ℤ) → neg_ℤ (pos p) ≤ℤ r → pos (max0 (r +ℤ pos p)) ≡ r +ℤ pos p
exit_is p r h = max0_same (r +ℤ pos p) (by≤ (p ∷ []) (r ∷ []) (gap≤ h) (λ v. search quote depth 20) tt)

pub start_is : (p : ℕ) (r : ℤ) → pos p ≤ℤ r → pos (max0 (r -ℤ pos p)) ≡ r -ℤ pos p
start_is p r h = max0_same (r -ℤ pos p) (by≤ (p ∷ []) (r ∷ []) (gap≤ h) (λ v. search quote depth 20) tt)

-- y/c is the exit, y = r + p
module _ (c p : ℕ) (r : ℤ) (y : ℕ) (is : pos y ≡ r +ℤ pos p) where
  pub exit_within : Within c p r y c
  exit_within = record {
    from = by≤ (c ∷ p ∷ y ∷ []) (r ∷ []) (0≤pos c ⊠ gap≤ (≤ℤ-of-≡ (sym is))) (λ v. search quote depth 20) tt;
    till = by≤ (c ∷ p ∷ y ∷ []) (r ∷ []) (0≤pos c ⊠ gap≤ (≤ℤ-of-≡ is)) (λ v. search quote depth 20) tt;
  }

  pub exit_last : {n m : ℕ} → Within c p r n m → n * c ≤ y * m
  exit_last {n} {m} w = nat≤ {m = n * c} {n = y * m} (by≤ (c ∷ p ∷ n ∷ m ∷ y ∷ []) (r ∷ []) (gap≤ w.till ⊞ 0≤pos m ⊠ gap≤ (≤ℤ-of-≡ (sym is))) (λ v. search quote depth 20) tt)

  -- before g/a, or from there on; the cases write the edge c*g - a*p in several ways
  module _ (a g : ℕ) {edge : ℤ} (same : edge ≡ neg_ℤ (pos a *ℤ pos p) +ℤ pos c *ℤ pos g) where
    pub exit_before : (pos a *ℤ r) <ℤ edge → a * y < g * c
    exit_before l = nat< (by< (a ∷ c ∷ p ∷ y ∷ g ∷ []) (r ∷ edge ∷ []) (gap< l ⊞ 0≤pos a ⊠ gap≤ (≤ℤ-of-≡ is) ⊞ gap≤ (≤ℤ-of-≡ same)) (λ v. search quote depth 20) tt)

    pub exit_after : edge ≤ℤ (pos a *ℤ r) → g * c ≤ a * y
    exit_after l = nat≤ {m = g * c} {n = a * y} (by≤ (a ∷ c ∷ p ∷ y ∷ g ∷ []) (r ∷ edge ∷ []) (gap≤ l ⊞ 0≤pos a ⊠ gap≤ (≤ℤ-of-≡ (sym is)) ⊞ gap≤ (≤ℤ-of-≡ (sym same))) (λ v. search quote depth 20) tt)

-- y/c is the start, y = r - p
module _ (c p : ℕ) (r : ℤ) (y : ℕ) (is : pos y ≡ r -ℤ pos p) where
  pub start_within : Within c p r y c
  start_within = record {
    from = by≤ (c ∷ p ∷ y ∷ []) (r ∷ []) (0≤pos c ⊠ gap≤ (≤ℤ-of-≡ (sym is))) (λ v. search quote depth 20) tt;
    till = by≤ (c ∷ p ∷ y ∷ []) (r ∷ []) (0≤pos c ⊠ gap≤ (≤ℤ-of-≡ is)) (λ v. search quote depth 20) tt;
  }

  pub start_first : {n m : ℕ} → Within c p r n m → y * m ≤ n * c
  start_first {n} {m} w = nat≤ {m = y * m} {n = n * c} (by≤ (c ∷ p ∷ n ∷ m ∷ y ∷ []) (r ∷ []) (gap≤ w.from ⊞ 0≤pos m ⊠ gap≤ (≤ℤ-of-≡ is)) (λ v. search quote depth 20) tt)

  -- after g/a, or up to there
  module _ (a g : ℕ) {edge : ℤ} (same : edge ≡ pos a *ℤ pos p +ℤ pos c *ℤ pos g) where
    pub start_after : edge <ℤ (pos a *ℤ r) → g * c < a * y
    start_after l = nat< (by< (a ∷ c ∷ p ∷ y ∷ g ∷ []) (r ∷ edge ∷ []) (gap< l ⊞ 0≤pos a ⊠ gap≤ (≤ℤ-of-≡ (sym is)) ⊞ gap≤ (≤ℤ-of-≡ (sym same))) (λ v. search quote depth 20) tt)

    pub start_before : (pos a *ℤ r) ≤ℤ edge → a * y ≤ g * c
    start_before l = nat≤ {m = a * y} {n = g * c} (by≤ (a ∷ c ∷ p ∷ y ∷ g ∷ []) (r ∷ edge ∷ []) (gap≤ l ⊞ 0≤pos a ⊠ gap≤ (≤ℤ-of-≡ is) ⊞ gap≤ (≤ℤ-of-≡ same)) (λ v. search quote depth 20) tt)
