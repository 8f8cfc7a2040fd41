-- The region theorem: for a question without a limit, Figure 3 (without a delay) and Figure 5 (with any) say exactly that no conflict time exists on the
-- lower side. A conflict up to d is the delay's, a conflict from d on is that of the advice rule begun at d; `Immediate` and `Delayed` do the rest. Of a
-- question's sizes only the positive strength is used.
use Rattle.std.specs.Prelude.{None, Option}
use mathlib.Core.Path.{◌≡◌, sym, ap, ◌∙◌, subst}
use mathlib.Core.List.{[], ◌∷◌}
use mathlib.Core.Logic.Iff
use mathlib.Core.Logic.{⊎_elim, ◌↔◌}
use Prim.Native.Nat.{ℕ, ◌+◌, ◌*◌, ◌-◌, ◌<◌, ◌≤◌}
use native.Mathlib.Omega.{arith}
use lib.IntN.{ℤ, pos, neg_ℤ, ◌+ℤ◌, ◌-ℤ◌, ◌*ℤ◌}
use lib.Signed.{◌<ℤ◌, clash_ℤ}
use Rattle.integers.proofs.Quotation.{quote}
use Rattle.integers.proofs.Certificates.{ring, modulo, by≤, gap≤, pos<, split<}
use Rattle.integers.proofs.Laws.{split≤}
use Rattle.instant.specs.Order.{◌÷◌}
use Rattle.path.specs.declared.SensedQuestion.{SensedQuestion}
use Rattle.path.specs.declared.Side.TheVariants.{Lower}
use Rattle.path.specs.Letters.{r, c, p, k, wh, u, q, a, d, e}
use Rattle.path.specs.Paths.{advice_gain, delay_height, u_d, lower_path}
use Rattle.path.specs.Window.{InTime, Window}
use Rattle.path.specs.Conflict.{lower_edge, Conflict, ConflictExists}
use Rattle.path.specs.inner.Sizes.{Sizes}
use Rattle.path.proofs.AdviceRule.{gain_zero}
use Rattle.path.proofs.Continued.{continued_before, continued_after}
use Rattle.path.proofs.WindowEnds.{window_from, window_till, window_by}
use Rattle.region.specs.Formula.{Says, ◌²}
use Rattle.region.specs.Regions.{L_expl, D_expl}
use Rattle.region.proofs.Corners.{same_sign, Beyond, Clear, Within}
use Rattle.region.proofs.Immediate.{figure_3}
use Rattle.region.proofs.Delayed.{Until, After, figure_5}

module _ (s : SensedQuestion) (pa : 0 < a s) (endless : s.limit ≡ None) where
  abbrev Delay : ℕ → ℕ → ℤ
  Delay = delay_height (neg_ℤ (pos (e s))) (u s)

  abbrev Rule : ℕ → ℕ → ℤ
  Rule = advice_gain (a s) (q s) (u_d s)

  -- twice the intruder's sensed height, and twice the delay's height at d
  abbrev 2wh : ℤ
  2wh = pos 2 *ℤ wh s

  abbrev 2wh_d : ℤ
  2wh_d = neg_ℤ (pos (e s) *ℤ pos (d s) ²) +ℤ pos 2 *ℤ u s *ℤ pos (d s)

  -- the edges that the delay and the rule must be beyond
  abbrev delay_level : ℤ
  delay_level = 2wh +ℤ pos 2 *ℤ pos (k s)

  abbrev rule_level : ℤ
  rule_level = pos (a s) *ℤ (2wh -ℤ 2wh_d +ℤ pos 2 *ℤ pos (k s))

  -- ---- the window, also as seen from d
  window_is : (n m : ℕ) → Window s n m ↔ Within (c s) (p s) (r s) n m
  window_is n m = (
    λ w. record { from = window_from w; till = window_till w },
    λ w. window_by w.from w.till (subst (λ (l : Option ℕ). InTime l n m) (sym endless) tt),
  )

  window_after : (x m : ℕ) → Window s (d s * m + x) m ↔ Within (c s) (p s) (r s -ℤ pos (c s) *ℤ pos (d s)) x m
  window_after x m = Iff.trans (window_is (d s * m + x) m) (
    λ w. record {
      from = by≤ (c s ∷ p s ∷ d s ∷ x ∷ m ∷ []) (r s ∷ []) (gap≤ w.from) (λ v. search quote depth 20) tt;
      till = by≤ (c s ∷ p s ∷ d s ∷ x ∷ m ∷ []) (r s ∷ []) (gap≤ w.till) (λ v. search quote depth 20) tt;
    },
    λ w. record {
      from = by≤ (c s ∷ p s ∷ d s ∷ x ∷ m ∷ []) (r s ∷ []) (gap≤ w.from) (λ v. search quote depth 20) tt;
      till = by≤ (c s ∷ p s ∷ d s ∷ x ∷ m ∷ []) (r s ∷ []) (gap≤ w.till) (λ v. search quote depth 20) tt;
    },
  )

  -- ---- no conflict at n/m: where f is to a level as the path is to the edge, f is above the level or n/m is not in the window
  module _ (n m : ℕ) {W : Type 0} (window : Window s n m ↔ W) {f level : ℤ} (j : ℤ) (positive : pos 0 <ℤ j) (same : lower_path s n m -ℤ lower_edge s m ≡ j *ℤ (f -ℤ level)) where
    unreached : (¬ Conflict Lower s n m) ↔ (W → level <ℤ f)
    unreached = (
      λ none w. ⊎_elim (same_sign j positive same).1 (λ l. absurd (none (record { window = window.1 w; vertical = l }))) (split< (lower_edge s m) (lower_path s n m)),
      λ above conflict. clash_ℤ ((same_sign j positive same).0 (above (window.0 conflict.window))) conflict.vertical,
    )

  -- up to d, the delay's arc
  clear_before : (n m : ℕ) → n ≤ d s * m → (¬ Conflict Lower s n m) ↔ (Within (c s) (p s) (r s) n m → Beyond Delay delay_level n m)
  clear_before n m l = unreached n m (window_is n m) (pos (a s)) (pos< pa)
      (modulo (pos 1) (continued_before (a s) Delay (d s) 1 Rule (λ m. gain_zero (a s) m (q s) (u_d s)) n m l)
      (ring (a s ∷ k s ∷ m ∷ []) (wh s ∷ delay_height (neg_ℤ (pos (e s))) (u s) n m ∷ lower_path s n m ∷ []) (λ v. search quote depth 20) tt))

  -- x/m after d, the rule's path
  path_after : (x m : ℕ) → lower_path s (d s * m + x) m ≡ pos (a s) *ℤ Delay (d s * m) m +ℤ pos 1 *ℤ Rule x m
  path_after x m =
      continued_after (a s) Delay (d s) 1 Rule (λ m. gain_zero (a s) m (q s) (u_d s)) (d s * m + x) m (omega arith)
      ∙ ap (λ (t : ℕ). pos (a s) *ℤ Delay (d s * m) m +ℤ pos 1 *ℤ Rule t m) {x = d s * m + x - d s * m} {y = x} (omega arith)

  clear_after : (x m : ℕ) → (¬ Conflict Lower s (d s * m + x) m) ↔ (Within (c s) (p s) (r s -ℤ pos (c s) *ℤ pos (d s)) x m → Beyond Rule rule_level x m)
  unfolding delay_height
  clear_after x m = unreached (d s * m + x) m (window_after x m) (pos 1) (pos< (omega arith))
      (modulo (pos 1) (path_after x m)
      (ring (a s ∷ d s ∷ e s ∷ k s ∷ m ∷ []) (u s ∷ wh s ∷ advice_gain (a s) (q s) (u_d s) x m ∷ lower_path s (d s * m + x) m ∷ []) (λ v. search quote depth 20) tt))

  -- ---- no conflict time at all
  abbrev UpToDelay : Type 0
  UpToDelay = Clear (Until (c s) (p s) (d s) (r s)) Delay delay_level

  abbrev FromDelay : Type 0
  FromDelay = After (c s) (p s) (k s) (a s) (e s) (r s) 2wh (u s) (q s) (pos (d s))

  abbrev NoConflict : Type 0
  NoConflict = (n m : ℕ) → 0 < m → ¬ Conflict Lower s n m

  none_exists : NoConflict ↔ (¬ ConflictExists Lower s)
  none_exists = (
    λ none t. none t.0.n t.0.m t.1.divisor t.1.conflict,
    λ none n m pm conflict. none (n ÷ m, record { divisor = pm; conflict = conflict }),
  )

  none_after : FromDelay → (n m : ℕ) → 0 < m → d s * m ≤ n → ¬ Conflict Lower s n m
  none_after clear n m pm l =
      subst (λ (t : ℕ). ¬ Conflict Lower s t m) {x = d s * m + (n - d s * m)} {y = n} (omega arith) ((clear_after (n - d s * m) m).1 (clear (n - d s * m) m pm))

  from_delay : NoConflict → FromDelay
  from_delay none x m pm = (clear_after x m).0 (none (d s * m + x) m pm)

  two_parts : (UpToDelay × FromDelay) ↔ NoConflict
  two_parts = (
    λ clear n m pm. ⊎_elim
        (λ l. (clear_before n m l).1 (λ w. clear.0 n m pm (record { early = l; within = w })))
        (λ (l : d s * m < n). none_after clear.1 n m pm (omega arith))
        (split≤ n (d s * m)),
    λ none. (λ n m pm w. (clear_before n m w.early).0 (none n m pm) w.within, from_delay none),
  )

  -- ---- without a delay the rule begins at once
  module _ (at_once : d s ≡ 0) where
    abbrev Begun : ℤ → ℤ → ℤ → Type 0
    Begun x y z = Clear (Within (c s) (p s) x) (advice_gain (a s) (q s) z) (pos (a s) *ℤ (y +ℤ pos 2 *ℤ pos (k s)))

    r_now : r s -ℤ pos (c s) *ℤ pos (d s) ≡ r s
    r_now = modulo (neg_ℤ (pos (c s))) (ap pos at_once) (ring (c s ∷ d s ∷ []) (r s ∷ []) (λ v. search quote depth 20) tt)

    2wh_now : 2wh -ℤ 2wh_d ≡ 2wh
    2wh_now = modulo (pos (e s) *ℤ pos (d s) -ℤ pos 2 *ℤ u s) (ap pos at_once) (ring (d s ∷ e s ∷ []) (wh s ∷ u s ∷ []) (λ v. search quote depth 20) tt)

    u_now : u_d s ≡ u s
    u_now = modulo (neg_ℤ (pos (e s))) (ap pos at_once) (ring (d s ∷ e s ∷ []) (u s ∷ []) (λ v. search quote depth 20) tt)

    no_delay_lem : FromDelay ↔ Begun (r s) 2wh (u s)
    no_delay_lem =
        subst (λ (x : ℤ). FromDelay ↔ Begun x 2wh (u s)) r_now
        (subst (λ (y : ℤ). FromDelay ↔ Begun (r s -ℤ pos (c s) *ℤ pos (d s)) y (u s)) 2wh_now
        (subst (λ (z : ℤ). FromDelay ↔ Begun (r s -ℤ pos (c s) *ℤ pos (d s)) (2wh -ℤ 2wh_d) z) u_now (Iff.rfl {A = FromDelay})))

    all_after : FromDelay ↔ NoConflict
    all_after = (λ clear n m pm. none_after clear n m pm (omega (arith, ap (λ (t : ℕ). t * m) at_once)), from_delay)

-- ---- the theorem
-- Figure 3, without a delay
pub immediate_region : (s : SensedQuestion) → Sizes s → s.limit ≡ None → s.delay ≡ 0 → Says (L_expl s) ↔ (¬ ConflictExists Lower s)
unfolding L_expl
immediate_region s sizes endless at_once =
    Iff.trans (figure_3 (c s) (p s) (k s) (a s) sizes.a_lo (r s) (pos 2 *ℤ wh s) (u s) (q s))
    (Iff.trans (Iff.symm (no_delay_lem s sizes.a_lo endless at_once)) (Iff.trans (all_after s sizes.a_lo endless at_once) (none_exists s sizes.a_lo endless)))

-- Figure 5, with any delay
pub delayed_region : (s : SensedQuestion) → Sizes s → s.limit ≡ None → Says (D_expl s) ↔ (¬ ConflictExists Lower s)
unfolding D_expl
delayed_region s sizes endless =
    Iff.trans (figure_5 (c s) (p s) (k s) (a s) (e s) (d s) sizes.a_lo (r s) (pos 2 *ℤ wh s) (u s) (q s))
    (Iff.trans (two_parts s sizes.a_lo endless) (none_exists s sizes.a_lo endless))
