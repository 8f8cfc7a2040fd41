-- The advice rule and the delay over one denominator m: where they rise and where they fall, and bounds. The rule's two branches are one
-- formula, 2*a*q*n*m - (G*m)² + W², where W = max(0, G*m - a*n) is the speed that is still missing, times m; all else goes through it. Assumes nothing.
use mathlib.Core.Path.{◌≡◌, refl, sym, ap, ◌∙◌, subst}
use mathlib.Core.List.{[], ◌∷◌}
use mathlib.Core.Logic.{◌⊎◌, inl, inr, ⊎_elim}
use Prim.Native.Nat.{ℕ, zero, suc, ◌+◌, ◌*◌, ◌-◌, ◌<◌, ◌≤◌}
use native.Mathlib.Nat.{mul-le-mul_left, mul-le-mul_right, mul-sub}
use native.Mathlib.Omega.{arith}
use lib.Dec.{ltb, ltb→lt, nltb→le}
use lib.IntN.{ℤ, pos, negsuc, neg_ℤ, ◌+ℤ◌, ◌-ℤ◌, ◌*ℤ◌}
use lib.Signed.{◌≤ℤ◌, ≤ℤ_refl}
use Rattle.integers.specs.Extremes.{max0}
use Rattle.integers.proofs.Difference.{cond_by}
use Rattle.integers.proofs.Quotation.{quote}
use Rattle.integers.proofs.Certificates.{ring, modulo, by≤, gap≤, ◌⊠◌, 0≤pos, pos≤}
use Rattle.integers.proofs.Laws.{≤ℤ-of-≡, ≤ℤ_trans, split≤, max0_is, max0_le}
use Rattle.integers.proofs.Arcs.{delay_arc_rises, delay_arc_falls, upward_arc_rises, upward_arc_falls, delay_arc_scale, advice_arc, advice_arc_rises, advice_arc_falls, advice_arc_scale}
use Rattle.path.specs.Paths.{advice_gain, delay_height}

-- ---- the rule in one formula
-- the speed that is still missing at n/m, times m
abbrev pub missing : ℕ → ℤ → ℤ → ℕ → ℕ → ℕ
missing a q x n m = max0 (q -ℤ x) * m - a * n

arc_formula : (a g w n m : ℕ) (q x : ℤ) → x ≡ q -ℤ pos g → w + a * n ≡ g * m → pos a *ℤ (pos 2 *ℤ x *ℤ pos n *ℤ pos m +ℤ pos a *ℤ pos n *ℤ pos n) ≡ advice_arc a q g w n m
unfolding advice_arc
arc_formula a g w n m q x e f =
    modulo (pos (2 * a * n * m)) e (modulo (neg_ℤ (pos (g * m) -ℤ pos (a * n) +ℤ pos w)) (ap pos f)
    (ring (a ∷ g ∷ w ∷ n ∷ m ∷ []) (q ∷ x ∷ []) (λ v. search quote depth 20) tt))

straight_formula : (a g w n m : ℕ) (q : ℤ) → w ≡ 0 → pos 2 *ℤ pos a *ℤ q *ℤ pos n *ℤ pos m -ℤ pos g *ℤ pos g *ℤ pos m *ℤ pos m ≡ advice_arc a q g w n m
unfolding advice_arc
straight_formula a g w n m q e = modulo (neg_ℤ (pos w)) (ap pos e) (ring (a ∷ g ∷ w ∷ n ∷ m ∷ []) (q ∷ []) (λ v. search quote depth 20) tt)

speed_from_gap : (g : ℕ) (q x : ℤ) → pos g ≡ q -ℤ x → x ≡ q -ℤ pos g
speed_from_gap g q x h = modulo (pos 1) h (ring (g ∷ []) (q ∷ x ∷ []) (λ v. search quote depth 20) tt)

positive_factor : (g m k : ℕ) → k < g * m → 0 < g
positive_factor zero m k h = absurd (omega arith)
positive_factor (suc g) m k h = omega arith

-- the speed x is q less the gap, where there is one
gap_speed : (q x : ℤ) → 0 < max0 (q -ℤ x) → x ≡ q -ℤ pos (max0 (q -ℤ x))
gap_speed q x h = speed_from_gap (max0 (q -ℤ x)) q x (max0_is (q -ℤ x) h)

pub gain_formula : (a n m : ℕ) (q x : ℤ) → advice_gain a q x n m ≡ advice_arc a q (max0 (q -ℤ x)) (missing a q x n m) n m
unfolding advice_gain
gain_formula a n m q x = cond_by (ltb (a * n) (max0 (q -ℤ x) * m)) _ _ (λ z. z ≡ advice_arc a q (max0 (q -ℤ x)) (missing a q x n m) n m)
    (λ t. let l = ltb→lt (a * n) (max0 (q -ℤ x) * m) t in
    arc_formula a (max0 (q -ℤ x)) (missing a q x n m) n m q x (gap_speed q x (positive_factor (max0 (q -ℤ x)) m (a * n) l)) (omega arith))
    (λ t. straight_formula a (max0 (q -ℤ x)) (missing a q x n m) n m q (omega (arith, nltb→le (a * n) (max0 (q -ℤ x) * m) t)))

-- ---- its two branches; at G/a both hold
zero_or_positive : (n : ℕ) → (n ≡ 0) ⊎ (0 < n)
zero_or_positive zero = inl refl
zero_or_positive (suc n) = inr (omega arith)

no_time_lem : (a n : ℕ) → 0 < a → a * n ≤ 0 → n ≡ 0
no_time_lem a zero p h = refl
no_time_lem a (suc n) p h = absurd (omega (arith, mul-le-mul_right (suc n) p))

pub gain_zero : (a m : ℕ) (q x : ℤ) → advice_gain a q x 0 m ≡ pos 0
unfolding advice_arc
gain_zero a m q x =
    let g = max0 (q -ℤ x) in
    gain_formula a 0 m q x
    ∙ modulo (pos (missing a q x 0 m + g * m)) (ap pos {x = missing a q x 0 m} {y = g * m} (omega arith)) (ring (a ∷ max0 (q -ℤ x) ∷ missing a q x 0 m ∷ m ∷ []) (q ∷ []) (λ v. search quote depth 20) tt)

module _ (a n m : ℕ) (q x : ℤ) where
  -- from G/a on
  pub gain_straight : max0 (q -ℤ x) * m ≤ a * n → advice_gain a q x n m ≡ pos 2 *ℤ pos a *ℤ q *ℤ pos n *ℤ pos m -ℤ pos (max0 (q -ℤ x)) *ℤ pos (max0 (q -ℤ x)) *ℤ pos m *ℤ pos m
  gain_straight h = gain_formula a n m q x ∙ sym (straight_formula a (max0 (q -ℤ x)) (missing a q x n m) n m q (omega arith))

  -- up to G/a
  pub gain_arc : 0 < a → a * n ≤ max0 (q -ℤ x) * m → advice_gain a q x n m ≡ pos a *ℤ (pos 2 *ℤ x *ℤ pos n *ℤ pos m +ℤ pos a *ℤ pos n *ℤ pos n)
  gain_arc p h = ⊎_elim
      (λ (z : max0 (q -ℤ x) ≡ 0).
      let i : n ≡ 0 = no_time_lem a n p (omega (arith, ap (λ (t : ℕ). t * m) z)) in
      subst (λ (t : ℕ). advice_gain a q x t m ≡ pos a *ℤ (pos 2 *ℤ x *ℤ pos t *ℤ pos m +ℤ pos a *ℤ pos t *ℤ pos t)) (sym i)
      (gain_zero a m q x ∙ ring (a ∷ m ∷ []) (x ∷ []) (λ v. search quote depth 20) tt))
      (λ (z : 0 < max0 (q -ℤ x)). gain_formula a n m q x ∙ sym (arc_formula a (max0 (q -ℤ x)) (missing a q x n m) n m q x (gap_speed q x z) (omega arith)))
      (zero_or_positive (max0 (q -ℤ x)))

-- ---- the rule rises from n₁ on where the speed there, q - W/m, is not negative, and falls up to n₂ where the speed there is not positive
-- W falls as n grows, by no more than a*n
missing_least : (b x y : ℕ) → x ≤ y → b - x + x ≤ b - y + y
missing_least b x y h = omega arith

missing_most : (b x y : ℕ) → (b - y) * (b - y + y) ≤ (b - y) * (b - x + x)
missing_most b x y = ⊎_elim
    (λ (l : b ≤ y). let z : b - y ≡ 0 = omega arith in rw z (omega arith))
    (λ (l : y < b). mul-le-mul_left (b - y) (omega arith))
    (split≤ b y)

module _ (a n₁ n₂ m : ℕ) (q x : ℤ) (l : n₁ ≤ n₂) where
  pub gain_rises : pos (missing a q x n₁ m) ≤ℤ (q *ℤ pos m) → advice_gain a q x n₁ m ≤ℤ advice_gain a q x n₂ m
  gain_rises h =
      rw (gain_formula a n₁ m q x, gain_formula a n₂ m q x)
      (advice_arc_rises a (max0 (q -ℤ x)) _ _ n₁ n₂ m q l (missing_least (max0 (q -ℤ x) * m) (a * n₁) (a * n₂) (mul-le-mul_left a l)) h)

  pub gain_falls : (q *ℤ pos m) ≤ℤ pos (missing a q x n₂ m) → advice_gain a q x n₂ m ≤ℤ advice_gain a q x n₁ m
  gain_falls h =
      rw (gain_formula a n₁ m q x, gain_formula a n₂ m q x)
      (advice_arc_falls a (max0 (q -ℤ x)) _ _ n₁ n₂ m q l (missing_most (max0 (q -ℤ x) * m) (a * n₁) (a * n₂)) h)

-- ---- bounds: 2*a*q*n*m - (G*m)² ≤ gain ≤ 2*a*q*n*m
module _ (a n m : ℕ) (q x : ℤ) where
  pub gain_at_most : advice_gain a q x n m ≤ℤ (pos 2 *ℤ pos a *ℤ q *ℤ pos n *ℤ pos m)
  unfolding advice_arc
  gain_at_most =
      let g = max0 (q -ℤ x) in
      let w = missing a q x n m in
      let l : w ≤ g * m = omega arith in
      ≤ℤ_trans (≤ℤ-of-≡ (gain_formula a n m q x))
      (by≤ (a ∷ n ∷ m ∷ max0 (q -ℤ x) ∷ missing a q x n m ∷ []) (q ∷ []) (gap≤ (pos≤ l) ⊠ 0≤pos (g * m + w)) (λ v. search quote depth 20) tt)

  pub gain_at_least : (pos 2 *ℤ pos a *ℤ q *ℤ pos n *ℤ pos m -ℤ pos (max0 (q -ℤ x)) *ℤ pos (max0 (q -ℤ x)) *ℤ pos m *ℤ pos m) ≤ℤ advice_gain a q x n m
  unfolding advice_arc
  gain_at_least =
      ≤ℤ_trans (by≤ (a ∷ n ∷ m ∷ max0 (q -ℤ x) ∷ missing a q x n m ∷ []) (q ∷ []) (0≤pos 0) (λ v. search quote depth 20) tt)
      (≤ℤ-of-≡ (sym (gain_formula a n m q x)))

-- ---- where the rule turns: max(0, -x)/a after it begins, for a target that is not negative
at_once : (a n₁ n₂ m : ℕ) (q x : ℤ) → 0 < a → n₁ ≤ n₂ → a * n₂ ≤ 0 * m → advice_gain a q x n₂ m ≤ℤ advice_gain a q x n₁ m
at_once a n₁ n₂ m q x p l h =
    subst (λ (s : ℕ). advice_gain a q x s m ≤ℤ advice_gain a q x n₁ m) {x = n₁} {y = n₂} (omega (arith, mul-le-mul_right n₂ p)) (≤ℤ_refl (advice_gain a q x n₁ m))

module _ (a n₁ n₂ m q : ℕ) where
  pub falls_to_turning : (x : ℤ) → 0 < a → n₁ ≤ n₂ → a * n₂ ≤ max0 (neg_ℤ x) * m → advice_gain a (pos q) x n₂ m ≤ℤ advice_gain a (pos q) x n₁ m
  falls_to_turning (pos zero) p l h = at_once a n₁ n₂ m (pos q) (pos zero) p l h
  falls_to_turning (pos (suc x)) p l h = at_once a n₁ n₂ m (pos q) (pos (suc x)) p l h
  falls_to_turning (negsuc x) p l h = gain_falls a n₁ n₂ m (pos q) (negsuc x) l (pos≤ (omega arith))

  pub rises_from_turning : (x : ℤ) → n₁ ≤ n₂ → max0 (neg_ℤ x) * m ≤ a * n₁ → advice_gain a (pos q) x n₁ m ≤ℤ advice_gain a (pos q) x n₂ m
  rises_from_turning (pos x) l h = gain_rises a n₁ n₂ m (pos q) (pos x) l
      (pos≤ (omega (arith, mul-le-mul_right m (max0_le (pos q -ℤ pos x) q (by≤ (q ∷ x ∷ []) [] (0≤pos 0) (λ v. search quote depth 20) tt)))))
  rises_from_turning (negsuc x) l h = gain_rises a n₁ n₂ m (pos q) (negsuc x) l (pos≤ (omega arith))

-- a target that is not positive: it falls for ever
pub gain_sinks : (a n₁ n₂ m : ℕ) (q x : ℤ) → q ≤ℤ pos 0 → n₁ ≤ n₂ → advice_gain a q x n₂ m ≤ℤ advice_gain a q x n₁ m
gain_sinks a n₁ n₂ m q x h l = gain_falls a n₁ n₂ m q x l (by≤ (m ∷ missing a q x n₂ m ∷ []) (q ∷ []) (gap≤ h ⊠ 0≤pos m) (λ v. search quote depth 20) tt)

-- ---- the lower delay rises up to n₂ where the speed there, u - e*n₂/m, is not negative, and falls from n₁ on where the speed there is not positive
module _ (e n₁ n₂ m : ℕ) (u : ℤ) (l : n₁ ≤ n₂) where
  pub delay_rises : (pos e *ℤ pos n₂) ≤ℤ (u *ℤ pos m) → delay_height (neg_ℤ (pos e)) u n₁ m ≤ℤ delay_height (neg_ℤ (pos e)) u n₂ m
  unfolding delay_height
  delay_rises = delay_arc_rises e n₁ n₂ m u l

  pub delay_falls : (u *ℤ pos m) ≤ℤ (pos e *ℤ pos n₁) → delay_height (neg_ℤ (pos e)) u n₂ m ≤ℤ delay_height (neg_ℤ (pos e)) u n₁ m
  unfolding delay_height
  delay_falls = delay_arc_falls e n₁ n₂ m u l

  -- the upper delay rises from n₁ on where the speed there, u + e*n₁/m, is not negative, and falls up to n₂ where the speed there is not positive
  pub upper_delay_rises : pos 0 ≤ℤ (u *ℤ pos m +ℤ pos e *ℤ pos n₁) → delay_height (pos e) u n₁ m ≤ℤ delay_height (pos e) u n₂ m
  unfolding delay_height
  upper_delay_rises = upward_arc_rises e n₁ n₂ m u l

  pub upper_delay_falls : (u *ℤ pos m +ℤ pos e *ℤ pos n₂) ≤ℤ pos 0 → delay_height (pos e) u n₂ m ≤ℤ delay_height (pos e) u n₁ m
  unfolding delay_height
  upper_delay_falls = upward_arc_falls e n₁ n₂ m u l

-- ---- a time may be written with any denominator: the heights at (n*s)/(m*s) are those at n/m, times s*s
pub difference_scale : (b x s b' x' : ℕ) → b' ≡ s * b → x' ≡ s * x → b' - x' ≡ (b - x) * s
difference_scale b x s b' x' e f = omega (arith, mul-sub s b x)

pub gain_scale : (a n m s : ℕ) (q x : ℤ) → advice_gain a q x (n * s) (m * s) ≡ pos s *ℤ pos s *ℤ advice_gain a q x n m
gain_scale a n m s q x =
    let g = max0 (q -ℤ x) in
    gain_formula a (n * s) (m * s) q x
    ∙ advice_arc_scale a g (missing a q x n m) (missing a q x (n * s) (m * s)) n m s q (difference_scale (g * m) (a * n) s (g * (m * s)) (a * (n * s)) (omega arith) (omega arith))
    ∙ ap (λ (z : ℤ). pos s *ℤ pos s *ℤ z) (sym (gain_formula a n m q x))

pub delay_scale : (g : ℤ) (n m s : ℕ) (u : ℤ) → delay_height g u (n * s) (m * s) ≡ pos s *ℤ pos s *ℤ delay_height g u n m
unfolding delay_height
delay_scale g n m s u = delay_arc_scale g n m s u
