-- Figure 3 says exactly that the advice rule's path is strictly beyond the puck's edge throughout the window. Each case names a corner: the window's exit
-- on the arc (1, 5), the turning instant (2), the window's start on the arc (3) and on the straight (4), its exit on the straight (6); the path is
-- nowhere lower in the window than at the corner whose case holds. Only where c = 0 do cases 4 and 6 name no corner. Assumes a positive strength.
use mathlib.Core.Path.{◌≡◌, refl, sym, ap, subst}
use mathlib.Core.List.{[], ◌∷◌}
use mathlib.Core.Logic.{◌⊎◌, inl, inr, ⊎_elim, ◌↔◌}
use Prim.Native.Nat.{ℕ, zero, suc, ◌*◌, ◌<◌, ◌≤◌}
use native.Mathlib.Nat.{eq-zero-or-pos, mul-le-mul_left, mul-le-mul_right, mul-pos}
use native.Mathlib.Omega.{arith}
use lib.IntN.{ℤ, pos, negsuc, neg_ℤ, ◌+ℤ◌, ◌-ℤ◌, ◌*ℤ◌}
use lib.Signed.{◌≤ℤ◌, ◌<ℤ◌, lt_z_yes, <ℤ_irrefl, clash_ℤ}
use Rattle.integers.specs.Extremes.{max0, maxℤ, minℤ}
use Rattle.integers.proofs.Quotation.{quote}
use Rattle.integers.proofs.Certificates.{ring, modulo, by≤, by<, div≤, gap≤, gap<, ◌⊞◌, ◌⊠◌, 0≤pos, pos≤, pos<, nat≡, split<}
use Rattle.integers.proofs.Laws.{≤ℤ-of-≡, ≤ℤ_trans, <ℤ_≤ℤ, split≤, max0_ge, max0_none, max0_le}
use Rattle.path.specs.Paths.{advice_gain}
use Rattle.path.proofs.AdviceRule.{gain_arc, gain_straight, falls_to_turning, rises_from_turning, gain_sinks, gain_at_most, gain_scale}
use Rattle.region.specs.Formula.{Formula, Says, ◌²}
use Rattle.region.specs.Figure3.{case₁, case₂, case₃, case₄, case₅, case₆, bound₁, bound₂, bound₃, bound₄, bound₅, bound₆, L_expl⁻¹}
use Rattle.region.proofs.Corners.{max_is, min_is, positive_right, same_sign, Beyond, Clear, Corner, bounded, carried, Within, not_passed, still, exit_is, start_is, exit_within, exit_last, exit_before, exit_after, start_within, start_first, start_after, start_before}

-- ---- the speed downward at first, max(0, -u): its square is min(0, u)², and -u times it
downward_square : (u : ℤ) → minℤ (pos 0) u ² ≡ pos (max0 (neg_ℤ u)) ²
downward_square u = subst (λ (t : ℤ). t ² ≡ pos (max0 (neg_ℤ u)) ²) (sym (min_is u)) (ring (max0 (neg_ℤ u) ∷ []) [] (λ v. search quote depth 20) tt)

downward_speed : (u : ℤ) → u *ℤ pos (max0 (neg_ℤ u)) ≡ neg_ℤ (pos (max0 (neg_ℤ u)) ²)
downward_speed (pos zero) = refl
downward_speed (pos (suc x)) = ring (x ∷ []) [] (λ v. search quote depth 20) tt
downward_speed (negsuc x) = refl

-- for a target that is not negative it is no more than the speed that is missing
downward_missing : (q : ℕ) (u : ℤ) → max0 (neg_ℤ u) ≤ max0 (pos q -ℤ u)
downward_missing q u = max0_le (neg_ℤ u) (max0 (pos q -ℤ u)) (≤ℤ_trans (by≤ (q ∷ []) (u ∷ []) (0≤pos 0) (λ v. search quote depth 20) tt) (max0_ge (pos q -ℤ u)))

-- where the first of two is false, the second alone counts
second_of : {X Y Z : Type 0} → ¬ X → Y ↔ Z → (X ⊎ Y) ↔ Z
second_of f i = (⊎_elim (λ x. absurd (f x)) i.0, λ z. inr (i.1 z))

module _ (c p k a : ℕ) (pa : 0 < a) (r h u q : ℤ) where
  abbrev Rule : ℕ → ℕ → ℤ
  Rule = advice_gain a q u

  -- the edge 2wh + 2*k, times a as the rule is
  abbrev level : ℤ
  level = pos a *ℤ (h +ℤ pos 2 *ℤ pos k)

  -- the speed missing at first, so that the arc ends at missing/a; the path turns at downward/a
  abbrev missing : ℕ
  missing = max0 (q -ℤ u)

  abbrev downward : ℕ
  downward = max0 (neg_ℤ u)

  -- the window is from start/c to exit/c
  abbrev start : ℕ
  start = max0 (r -ℤ pos p)

  abbrev exit : ℕ
  exit = max0 (r +ℤ pos p)

  -- what a definition of Figure 3 says of these numbers, and that it says so of n/m
  abbrev Says₃ : (ℤ → ℤ → ℤ → ℤ → ℤ → ℤ → ℤ → ℤ → Formula) → Type 0
  Says₃ f = Says (f (pos c) (pos p) (pos k) (pos a) r h u q)

  abbrev At : ℕ → ℕ → (ℤ → ℤ → ℤ → ℤ → ℤ → ℤ → ℤ → ℤ → Formula) → Type 0
  At n m bound = Corner (Within c p r) Rule level n m (Says₃ bound)

  -- ---- the bounds are the path's, multiplied by a, by c and by a²
  abbrev Arc : ℤ → ℤ
  Arc z = pos a *ℤ z ² +ℤ pos 2 *ℤ pos c *ℤ u *ℤ z -ℤ pos 2 *ℤ pos c ² *ℤ pos k

  abbrev Straight : ℤ → ℤ
  Straight z = pos 2 *ℤ pos a *ℤ q *ℤ z -ℤ pos c *ℤ maxℤ (pos 0) (q -ℤ u) ² -ℤ pos 2 *ℤ pos a *ℤ pos c *ℤ pos k

  arc_says : (z : ℤ) (y : ℕ) → pos y ≡ z → a * y ≤ missing * c → ((pos c ² *ℤ h) <ℤ Arc z) ↔ Beyond Rule level y c
  arc_says z y is l =
      let same : Rule y c -ℤ pos c *ℤ pos c *ℤ level ≡ pos a *ℤ (Arc (pos y) -ℤ pos c ² *ℤ h) =
      modulo (pos 1) (gain_arc a y c q u pa l) (ring (a ∷ c ∷ k ∷ y ∷ []) (h ∷ u ∷ advice_gain a q u y c ∷ []) (λ v. search quote depth 20) tt) in
      subst (λ (t : ℤ). ((pos c ² *ℤ h) <ℤ Arc t) ↔ Beyond Rule level y c) is (same_sign (pos a) (pos< pa) same)

  straight_says : (z : ℤ) (y : ℕ) → 0 < c → pos y ≡ z → missing * c ≤ a * y → ((pos a *ℤ pos c *ℤ h) <ℤ Straight z) ↔ Beyond Rule level y c
  straight_says z y pc is l =
      let same : Rule y c -ℤ pos c *ℤ pos c *ℤ level ≡ pos c *ℤ (Straight (pos y) -ℤ pos a *ℤ pos c *ℤ h) =
      modulo (pos 1) (gain_straight a y c q u l) (modulo (pos c *ℤ pos c *ℤ (maxℤ (pos 0) (q -ℤ u) +ℤ pos missing)) (max_is (q -ℤ u))
      (ring (a ∷ c ∷ k ∷ y ∷ max0 (q -ℤ u) ∷ []) (h ∷ q ∷ maxℤ (pos 0) (q -ℤ u) ∷ advice_gain a q u y c ∷ []) (λ v. search quote depth 20) tt)) in
      subst (λ (t : ℤ). ((pos a *ℤ pos c *ℤ h) <ℤ Straight t) ↔ Beyond Rule level y c) is (same_sign (pos c) (pos< pc) same)

  turning_says : downward ≤ missing → Says₃ bound₂ ↔ Beyond Rule level downward a
  turning_says l =
      let same : Rule downward a -ℤ pos a *ℤ pos a *ℤ level ≡ pos (a * a) *ℤ (neg_ℤ (minℤ (pos 0) u ²) -ℤ pos 2 *ℤ pos a *ℤ pos k -ℤ pos a *ℤ h) =
      modulo (pos 1) (gain_arc a downward a q u pa (omega (arith, mul-le-mul_left a l))) (modulo (pos (2 * a * a)) (downward_speed u) (modulo (pos (a * a)) (downward_square u)
      (ring (a ∷ k ∷ max0 (neg_ℤ u) ∷ []) (h ∷ u ∷ minℤ (pos 0) u ∷ advice_gain a q u (max0 (neg_ℤ u)) a ∷ []) (λ v. search quote depth 20) tt))) in
      same_sign (pos (a * a)) (pos< {m = 0} {n = a * a} (mul-pos pa pa)) same

  -- ---- the corner of each case
  -- an edge of a case: at the turning instant, and at the end of the arc
  turning_edge : (x : ℤ) → x -ℤ pos c *ℤ minℤ (pos 0) u ≡ x +ℤ pos c *ℤ pos downward
  turning_edge x = subst (λ (t : ℤ). x -ℤ pos c *ℤ t ≡ x +ℤ pos c *ℤ pos downward) (sym (min_is u)) (ring (c ∷ max0 (neg_ℤ u) ∷ []) (x ∷ []) (λ v. search quote depth 20) tt)

  arc_edge : (x : ℤ) → x +ℤ pos c *ℤ maxℤ (pos 0) (q -ℤ u) ≡ x +ℤ pos c *ℤ pos missing
  arc_edge x = ap (λ (t : ℤ). x +ℤ pos c *ℤ t) (max_is (q -ℤ u))

  abbrev exit_edge : ℤ
  exit_edge = neg_ℤ (pos a *ℤ pos p)

  abbrev start_edge : ℤ
  start_edge = pos a *ℤ pos p

  moving : 0 < c → ¬ (pos c ≡ pos 0)
  moving pc e = let z : c ≡ 0 = nat≡ e in omega arith

  starts : (g : ℕ) {edge : ℤ} → edge ≡ start_edge +ℤ pos c *ℤ pos g → edge <ℤ (pos a *ℤ r) → pos start ≡ r -ℤ pos p
  starts g {edge} same l = start_is p r (div≤ (a ∷ c ∷ p ∷ g ∷ []) (r ∷ edge ∷ []) (pos< pa) (gap< l ⊞ gap≤ (≤ℤ-of-≡ (sym same))) (λ v. search quote depth 20) tt)

  exit_on_arc : (g : ℕ) → g ≤ missing → neg_ℤ (pos p) ≤ℤ r → a * exit < g * c → At exit c bound₁
  exit_on_arc g l o before = record {
    positive = positive_right (a * exit) g c before;
    within = exit_within c p r exit (exit_is p r o);
    says = arc_says (r +ℤ pos p) exit (exit_is p r o) (omega (arith, mul-le-mul_right c l));
  }

  exit_before_turning : Says₃ case₁ → a * exit < downward * c
  exit_before_turning i = exit_before c p r exit (exit_is p r i.0) a downward (turning_edge exit_edge) i.1

  corner₁ : downward ≤ missing → Says₃ case₁ → At exit c bound₁
  corner₁ l i = exit_on_arc downward l i.0 (exit_before_turning i)

  corner₂ : downward ≤ missing → Says₃ case₂ → At downward a bound₂
  corner₂ l i = record {
    positive = pa;
    within = record {
      from = by≤ (a ∷ c ∷ p ∷ max0 (neg_ℤ u) ∷ []) (r ∷ minℤ (pos 0) u ∷ []) (gap≤ i.1 ⊞ 0≤pos c ⊠ gap≤ (≤ℤ-of-≡ (sym (min_is u)))) (λ v. search quote depth 20) tt;
      till = by≤ (a ∷ c ∷ p ∷ max0 (neg_ℤ u) ∷ []) (r ∷ minℤ (pos 0) u ∷ []) (gap≤ i.0 ⊞ 0≤pos c ⊠ gap≤ (≤ℤ-of-≡ (min_is u))) (λ v. search quote depth 20) tt;
    };
    says = turning_says l;
  }

  corner₃ : Says₃ case₃ → At start c bound₃
  corner₃ i =
      let is = starts downward (turning_edge start_edge) i.0 in
      let after = start_after c p r start is a downward (turning_edge start_edge) i.0 in
      let before = start_before c p r start is a missing (arc_edge start_edge) i.1 in
      record {
        positive = positive_right (downward * c) missing c (omega arith);
        within = start_within c p r start is;
        says = arc_says (r -ℤ pos p) start is before;
      }

  corner₄ : 0 < c → Says₃ case₄ → At start c bound₄
  corner₄ pc i =
      let is = starts missing (arc_edge start_edge) i in
      let after = start_after c p r start is a missing (arc_edge start_edge) i in
      record {
        positive = pc;
        within = start_within c p r start is;
        says = second_of (moving pc) (straight_says (r -ℤ pos p) start pc is (omega arith));
      }

  corner₅ : Says₃ case₅ → At exit c bound₅
  corner₅ i = exit_on_arc missing (omega arith) i.0 (exit_before c p r exit (exit_is p r i.0) a missing (arc_edge exit_edge) i.1)

  corner₆ : 0 < c → neg_ℤ (pos p) ≤ℤ r → Says₃ case₆ → At exit c bound₆
  corner₆ pc o i =
      let is = exit_is p r o in
      record {
        positive = pc;
        within = exit_within c p r exit is;
        says = second_of (λ b. moving pc b.0) (straight_says (r +ℤ pos p) exit pc is (exit_after c p r exit is a missing (arc_edge exit_edge) i));
      }

  abbrev Cases₁₋₄ : Type 0
  Cases₁₋₄ = (Says₃ case₁ → Says₃ bound₁) × ((Says₃ case₂ → Says₃ bound₂) × ((Says₃ case₃ → Says₃ bound₃) × (Says₃ case₄ → Says₃ bound₄)))

  abbrev Cases₅₋₆ : Type 0
  Cases₅₋₆ = (Says₃ case₅ → Says₃ bound₅) × (Says₃ case₆ → Says₃ bound₆)

  abbrev Throughout : Type 0
  Throughout = Clear (Within c p r) Rule level

  scale : (n m x : ℕ) → Rule (n * x) (m * x) ≡ pos x *ℤ pos x *ℤ Rule n m
  scale n m x = gain_scale a n m x q u

  -- ---- a target that is not negative: the path falls to the turning instant and rises from there
  module _ (l : downward ≤ missing)
      (falls : (n₁ n₂ m : ℕ) → n₁ ≤ n₂ → a * n₂ ≤ downward * m → Rule n₂ m ≤ℤ Rule n₁ m)
      (rises : (n₁ n₂ m : ℕ) → n₁ ≤ n₂ → downward * m ≤ a * n₁ → Rule n₁ m ≤ℤ Rule n₂ m) where
    module _ (f : Cases₁₋₄) (n m : ℕ) (pm : 0 < m) (w : Within c p r n m) where
      -- the window ends before the turning instant: its exit is lowest
      by_exit : Says₃ case₁ → Beyond Rule level n m
      by_exit i = carried (corner₁ l i) scale (f.0 i) n m pm
          (falls (n * c) (exit * m) (m * c) (exit_last c p r exit (exit_is p r i.0) w) (omega (arith, mul-le-mul_right m (exit_before_turning i))))

      -- the turning instant is in the window
      by_turning : Says₃ case₂ → Beyond Rule level n m
      by_turning i = carried (corner₂ l i) scale (f.1.0 i) n m pm
          (⊎_elim
          (λ (x : n * a ≤ downward * m). falls (n * a) (downward * m) (m * a) x (omega arith))
          (λ (x : downward * m < n * a). rises (downward * m) (n * a) (m * a) (omega arith) (omega arith))
          (split≤ (n * a) (downward * m)))

      -- the window starts after the turning instant: its start is lowest
      by_start : (start_edge -ℤ pos c *ℤ minℤ (pos 0) u) <ℤ (pos a *ℤ r) → Beyond Rule level n m
      by_start i =
          let is = starts downward (turning_edge start_edge) i in
          let after = start_after c p r start is a downward (turning_edge start_edge) i in
          let order = rises (start * m) (n * c) (m * c) (start_first c p r start is w) (omega (arith, mul-le-mul_right m after)) in
          ⊎_elim
          (λ (j : Says₃ case₄). ⊎_elim
          (λ (z : c ≡ 0). let none = max0_none (r -ℤ pos p) (by≤ (p ∷ []) (r ∷ []) (gap≤ (still z pm w)) (λ v. search quote depth 20) tt) in absurd (omega (arith, ap (λ (t : ℕ). a * t) none)))
          (λ pc. carried (corner₄ pc j) scale (f.1.1.1 j) n m pm order)
          (eq-zero-or-pos c))
          (λ j. carried (corner₃ (i, j)) scale (f.1.1.0 (i, j)) n m pm order)
          (split< (start_edge +ℤ pos c *ℤ maxℤ (pos 0) (q -ℤ u)) (pos a *ℤ r))

      beyond₁₋₄ : Beyond Rule level n m
      beyond₁₋₄ = ⊎_elim
          (λ i. by_exit (not_passed pm w, i))
          (λ i. ⊎_elim by_start (λ j. by_turning (i, j)) (split< (start_edge -ℤ pos c *ℤ minℤ (pos 0) u) (pos a *ℤ r)))
          (split< (pos a *ℤ r) (exit_edge -ℤ pos c *ℤ minℤ (pos 0) u))

    cases₁₋₄ : Cases₁₋₄ ↔ Throughout
    cases₁₋₄ = (
      λ f n m pm w. beyond₁₋₄ f n m pm w,
      λ clear. (
        λ i. bounded (corner₁ l i) clear,
        (
          λ i. bounded (corner₂ l i) clear,
          (
            λ i. bounded (corner₃ i) clear,
            λ i. ⊎_elim (λ z. inl (ap pos z)) (λ pc. bounded (corner₄ pc i) clear) (eq-zero-or-pos c),
          ),
        ),
      ),
    )

  -- ---- a negative target: the path falls for ever, so that the window's exit is lowest
  module _ (negative : q <ℤ pos 0) where
    -- c = 0: bound 6 is false where the window has a time
    refused : c ≡ 0 → {n m : ℕ} → 0 < m → Within c p r n m → ¬ Says₃ bound₆
    refused z pm w = ⊎_elim
        (λ b. clash_ℤ b.1 (still z pm w))
        (λ b. <ℤ_irrefl {a = pos 0} (by< (a ∷ p ∷ k ∷ []) (r ∷ h ∷ q ∷ maxℤ (pos 0) (q -ℤ u) ∷ [])
        (gap< (subst (λ (t : ℕ). (pos a *ℤ pos t *ℤ h) <ℤ (pos 2 *ℤ pos a *ℤ q *ℤ (r +ℤ pos p) -ℤ pos t *ℤ maxℤ (pos 0) (q -ℤ u) ² -ℤ pos 2 *ℤ pos a *ℤ pos t *ℤ pos k)) z b)
        ⊞ 0≤pos (2 * a) ⊠ gap≤ (not_passed pm w) ⊠ gap≤ (<ℤ_≤ℤ negative)) (λ v. search quote depth 20) tt))

    beyond₅₋₆ : Cases₅₋₆ → Throughout
    beyond₅₋₆ f n m pm w =
        let o = not_passed pm w in
        let order = gain_sinks a (n * c) (exit * m) (m * c) q u (<ℤ_≤ℤ negative) (exit_last c p r exit (exit_is p r o) w) in
        ⊎_elim
        (λ i. carried (corner₅ (o, i)) scale (f.0 (o, i)) n m pm order)
        (λ (i : Says₃ case₆). ⊎_elim (λ z. absurd (refused z pm w (f.1 i))) (λ pc. carried (corner₆ pc o i) scale (f.1 i) n m pm order) (eq-zero-or-pos c))
        (split< (pos a *ℤ r) (exit_edge +ℤ pos c *ℤ maxℤ (pos 0) (q -ℤ u)))

    -- c = 0 and r from -p to p: the window has no end, and the path is not beyond the edge at a late second
    late : ℕ
    late = max0 (neg_ℤ (h +ℤ pos 2 *ℤ pos k))

    sunk : Rule late 1 ≤ℤ (pos 1 *ℤ pos 1 *ℤ level)
    unfolding late
    sunk = ≤ℤ_trans (gain_at_most a late 1 q u) (by≤ (a ∷ k ∷ max0 (neg_ℤ (h +ℤ pos 2 *ℤ pos k)) ∷ []) (h ∷ q ∷ [])
        (0≤pos a ⊠ gap≤ (max0_ge (neg_ℤ (h +ℤ pos 2 *ℤ pos k))) ⊞ 0≤pos (2 * a * late) ⊠ gap< negative) (λ v. search quote depth 20) tt)

    endless : c ≡ 0 → neg_ℤ (pos p) ≤ℤ r → r ≤ℤ pos p → ¬ Throughout
    endless z o b clear = clash_ℤ (clear late 1 (omega arith) (record {
      from = by≤ (c ∷ p ∷ late ∷ []) (r ∷ []) (gap≤ b) (λ v. search quote depth 20) tt;
      till = by≤ (c ∷ p ∷ late ∷ []) (r ∷ []) (gap≤ o ⊞ gap≤ (pos≤ {m = c} {n = 0} (omega arith)) ⊠ 0≤pos late) (λ v. search quote depth 20) tt;
    })) sunk

    bounded₆ : Throughout → Says₃ case₆ → Says₃ bound₆
    bounded₆ clear i =
        let o : neg_ℤ (pos p) ≤ℤ r = div≤ (a ∷ c ∷ p ∷ max0 (q -ℤ u) ∷ []) (r ∷ maxℤ (pos 0) (q -ℤ u) ∷ []) (pos< pa) (gap≤ i ⊞ 0≤pos c ⊠ gap≤ (≤ℤ-of-≡ (sym (max_is (q -ℤ u))))) (λ v. search quote depth 20) tt in
        ⊎_elim
        (λ z. ⊎_elim (λ b. inl (ap pos z, b)) (λ b. absurd (endless z o b clear)) (split< (pos p) r))
        (λ pc. bounded (corner₆ pc o i) clear)
        (eq-zero-or-pos c)

    cases₅₋₆ : Cases₅₋₆ ↔ Throughout
    cases₅₋₆ = (beyond₅₋₆, λ clear. (λ i. bounded (corner₅ i) clear, bounded₆ clear))

-- ---- Figure 3
pub figure_3 : (c p k a : ℕ) → 0 < a → (r h u q : ℤ) → Says (L_expl⁻¹ (pos c) (pos p) (pos k) (pos a) r h u q) ↔ Clear (Within c p r) (advice_gain a q u) (pos a *ℤ (h +ℤ pos 2 *ℤ pos k))
figure_3 c p k a pa r h u (pos q) =
    let both = cases₁₋₄ c p k a pa r h u (pos q) (downward_missing q u) (λ n₁ n₂ m. falls_to_turning a n₁ n₂ m q u pa) (λ n₁ n₂ m. rises_from_turning a n₁ n₂ m q u) in
    (λ t. both.0 (t.0 (0≤pos q)), λ clear. (λ _. both.1 clear, λ t. clash_ℤ t (0≤pos q)))
figure_3 c p k a pa r h u (negsuc q) =
    let both = cases₅₋₆ c p k a pa r h u (negsuc q) (lt_z_yes tt) in
    (λ t. both.0 (t.1 (lt_z_yes tt)), λ clear. (λ t. absurd {A = Cases₁₋₄ c p k a pa r h u (negsuc q)} t.le, λ _. both.1 clear))
