-- The arcs of the paths as bare polynomials: where they rise and fall, and that their scale is free. Each is one certificate; the crate `path` cites
-- them. m is the denominator of a time, n, n₁, n₂ numerators, the speeds u and q are times m. Assumes nothing.
use mathlib.Core.Path.{◌≡◌, ap}
use mathlib.Core.List.{[], ◌∷◌}
use Prim.Native.Nat.{ℕ, ◌+◌, ◌*◌, ◌≤◌}
use lib.IntN.{ℤ, pos, neg_ℤ, ◌+ℤ◌, ◌-ℤ◌, ◌*ℤ◌}
use lib.Signed.{◌≤ℤ◌}
use Rattle.integers.proofs.Quotation.{quote}
use Rattle.integers.proofs.Certificates.{ring, modulo, by≤, gap≤, ◌⊞◌, ◌⊠◌, 0≤pos, 0≤square, pos≤}

-- ---- a delay arc: u*t + g*t²/2 at t = n/m, times 2*m²
abbrev pub delay_arc : ℤ → ℤ → ℕ → ℕ → ℤ
delay_arc g u n m = pos 2 *ℤ u *ℤ pos n *ℤ pos m +ℤ g *ℤ pos n *ℤ pos n

-- bent downwards, g = -e, or upwards, g = e
module _ (e n₁ n₂ m : ℕ) (u : ℤ) (l : n₁ ≤ n₂) where
  -- downwards, it rises up to n₂ where the speed there, u - e*n₂/m, is not negative
  pub delay_arc_rises : (pos e *ℤ pos n₂) ≤ℤ (u *ℤ pos m) → delay_arc (neg_ℤ (pos e)) u n₁ m ≤ℤ delay_arc (neg_ℤ (pos e)) u n₂ m
  delay_arc_rises h = by≤ (e ∷ n₁ ∷ n₂ ∷ m ∷ []) (u ∷ []) (0≤pos 2 ⊠ gap≤ (pos≤ l) ⊠ gap≤ h ⊞ 0≤pos e ⊠ 0≤square (pos n₂ -ℤ pos n₁)) (λ v. search quote depth 20) tt

  -- and falls from n₁ on where the speed there is not positive
  pub delay_arc_falls : (u *ℤ pos m) ≤ℤ (pos e *ℤ pos n₁) → delay_arc (neg_ℤ (pos e)) u n₂ m ≤ℤ delay_arc (neg_ℤ (pos e)) u n₁ m
  delay_arc_falls h = by≤ (e ∷ n₁ ∷ n₂ ∷ m ∷ []) (u ∷ []) (0≤pos 2 ⊠ gap≤ (pos≤ l) ⊠ gap≤ h ⊞ 0≤pos e ⊠ 0≤square (pos n₂ -ℤ pos n₁)) (λ v. search quote depth 20) tt

  -- upwards, it rises from n₁ on where the speed there, u + e*n₁/m, is not negative
  pub upward_arc_rises : pos 0 ≤ℤ (u *ℤ pos m +ℤ pos e *ℤ pos n₁) → delay_arc (pos e) u n₁ m ≤ℤ delay_arc (pos e) u n₂ m
  upward_arc_rises h = by≤ (e ∷ n₁ ∷ n₂ ∷ m ∷ []) (u ∷ []) (0≤pos 2 ⊠ gap≤ (pos≤ l) ⊠ gap≤ h ⊞ 0≤pos e ⊠ 0≤square (pos n₂ -ℤ pos n₁)) (λ v. search quote depth 20) tt

  -- and falls up to n₂ where the speed there is not positive
  pub upward_arc_falls : (u *ℤ pos m +ℤ pos e *ℤ pos n₂) ≤ℤ pos 0 → delay_arc (pos e) u n₂ m ≤ℤ delay_arc (pos e) u n₁ m
  upward_arc_falls h = by≤ (e ∷ n₁ ∷ n₂ ∷ m ∷ []) (u ∷ []) (0≤pos 2 ⊠ gap≤ (pos≤ l) ⊠ gap≤ h ⊞ 0≤pos e ⊠ 0≤square (pos n₂ -ℤ pos n₁)) (λ v. search quote depth 20) tt

-- the time n*s/m*s is n/m: only the scale changes
pub delay_arc_scale : (g : ℤ) (n m s : ℕ) (u : ℤ) → delay_arc g u (n * s) (m * s) ≡ pos s *ℤ pos s *ℤ delay_arc g u n m
delay_arc_scale g n m s u = ring (n ∷ m ∷ s ∷ []) (g ∷ u ∷ []) (λ v. search quote depth 20) tt

-- ---- the advice rule's arc and straight in one: 2*a*q*n*m - (g*m)² + w², where g is the speed missing at first, and w, times m, that missing at n/m
unfoldable pub advice_arc : ℕ → ℤ → ℕ → ℕ → ℕ → ℕ → ℤ
advice_arc a q g w n m = pos 2 *ℤ pos a *ℤ q *ℤ pos n *ℤ pos m -ℤ pos g *ℤ pos g *ℤ pos m *ℤ pos m +ℤ pos w *ℤ pos w

module _ (a g w₁ w₂ n₁ n₂ m : ℕ) (q : ℤ) (l : n₁ ≤ n₂) where
  -- it rises from n₁ on where the speed there, q - w₁/m, is not negative
  pub advice_arc_rises : w₁ + a * n₁ ≤ w₂ + a * n₂ → pos w₁ ≤ℤ (q *ℤ pos m) → advice_arc a q g w₁ n₁ m ≤ℤ advice_arc a q g w₂ n₂ m
  unfolding advice_arc
  advice_arc_rises k h =
      by≤ (a ∷ g ∷ w₁ ∷ w₂ ∷ n₁ ∷ n₂ ∷ m ∷ []) (q ∷ [])
      (0≤pos (2 * a) ⊠ gap≤ (pos≤ l) ⊠ gap≤ h ⊞ 0≤pos (2 * w₁) ⊠ gap≤ (pos≤ k) ⊞ 0≤square (pos w₁ -ℤ pos w₂))
      (λ v. search quote depth 20) tt

  -- and falls up to n₂ where the speed there is not positive
  pub advice_arc_falls : w₂ * (w₂ + a * n₂) ≤ w₂ * (w₁ + a * n₁) → (q *ℤ pos m) ≤ℤ pos w₂ → advice_arc a q g w₂ n₂ m ≤ℤ advice_arc a q g w₁ n₁ m
  unfolding advice_arc
  advice_arc_falls k h =
      by≤ (a ∷ g ∷ w₁ ∷ w₂ ∷ n₁ ∷ n₂ ∷ m ∷ []) (q ∷ [])
      (0≤pos (2 * a) ⊠ gap≤ (pos≤ l) ⊠ gap≤ h ⊞ 0≤pos 2 ⊠ gap≤ (pos≤ k) ⊞ 0≤square (pos w₁ -ℤ pos w₂))
      (λ v. search quote depth 20) tt

pub advice_arc_scale : (a g w w' n m s : ℕ) (q : ℤ) → w' ≡ w * s → advice_arc a q g w' (n * s) (m * s) ≡ pos s *ℤ pos s *ℤ advice_arc a q g w n m
unfolding advice_arc
advice_arc_scale a g w w' n m s q e = modulo (pos (w' + w * s)) (ap pos e) (ring (a ∷ g ∷ w ∷ w' ∷ n ∷ m ∷ s ∷ []) (q ∷ []) (λ v. search quote depth 20) tt)
