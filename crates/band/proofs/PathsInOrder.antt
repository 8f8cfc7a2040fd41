-- Why the paths do not cross (`PathOrder` states it): during the delay they part by e; then the upper rule begins no slower, and gains no less. It stands in a file of its own, so that each
-- statement of `PathOrder` falls by itself where its hypotheses are turned.
use mathlib.Core.List.{[], ◌∷◌}
use mathlib.Core.Logic.{⊎_elim}
use mathlib.Core.Path.{◌≡◌}
use Prim.Native.Nat.{ℕ, ◌*◌, ◌-◌, ◌<◌, ◌≤◌}
use native.Mathlib.Omega.{arith}
use lib.IntN.{ℤ, pos, neg_ℤ, ◌+ℤ◌, ◌-ℤ◌, ◌*ℤ◌}
use lib.Signed.{◌≤ℤ◌}
use Rattle.integers.specs.Extremes.{max0}
use Rattle.integers.proofs.Quotation.{quote}
use Rattle.integers.proofs.Certificates.{by≤, gap≤, ◌⊞◌, ◌⊠◌, 0≤pos}
use Rattle.integers.proofs.Laws.{≤ℤ-of-≡, ≤ℤ_trans, split≤, max0_ge, max0_same, maxℤ_left, maxℤ_right}
use Rattle.path.specs.declared.SensedQuestion.{SensedQuestion}
use Rattle.path.specs.Letters.{u, q, a, d, e, upper_q, b}
use Rattle.path.specs.Paths.{advice_gain, delay_height, u_d, lower_path, speed_reached, upper_target, upper_path}
use Rattle.path.proofs.AdviceRule.{gain_zero}
use Rattle.path.proofs.Continued.{continued_before, continued_after}
use Rattle.band.proofs.RuleOrder.{gains_ordered}

-- the upper rule begins no slower: what it misses exceeds what the lower rule misses by no more than the targets differ
missing_order : (e d : ℕ) (u q q' : ℤ) → (u +ℤ pos e *ℤ pos d) ≤ℤ q' → pos (max0 (q' -ℤ (u +ℤ pos e *ℤ pos d))) ≤ℤ (pos (max0 (q -ℤ (u -ℤ pos e *ℤ pos d))) +ℤ (q' -ℤ q))
missing_order e d u q q' h =
    ≤ℤ_trans (≤ℤ-of-≡ (max0_same (q' -ℤ (u +ℤ pos e *ℤ pos d)) (gap≤ h)))
    (by≤ (e ∷ d ∷ max0 (q -ℤ (u -ℤ pos e *ℤ pos d)) ∷ []) (u ∷ q ∷ q' ∷ []) (gap≤ (max0_ge (q -ℤ (u -ℤ pos e *ℤ pos d)))) (λ v. search quote depth 20) tt)

delays_ordered : (e n m : ℕ) (u : ℤ) → delay_height (neg_ℤ (pos e)) u n m ≤ℤ delay_height (pos e) u n m
unfolding delay_height
delays_ordered e n m u = by≤ (e ∷ n ∷ m ∷ []) (u ∷ []) (0≤pos 0) (λ v. search quote depth 20) tt

module _ (s : SensedQuestion) (strengths : a s ≤ b s) (targets : q s ≤ℤ upper_q s) where
  abbrev rule : ℕ → ℕ → ℤ
  rule = advice_gain (a s) (q s) (u_d s)

  abbrev upper_rule : ℕ → ℕ → ℤ
  upper_rule = advice_gain (b s) (upper_target s) (speed_reached s)

  rule_zero : (m : ℕ) → rule 0 m ≡ pos 0
  rule_zero m = gain_zero (a s) m (q s) (u_d s)

  upper_rule_zero : (m : ℕ) → upper_rule 0 m ≡ pos 0
  upper_rule_zero m = gain_zero (b s) m (upper_target s) (speed_reached s)

  rules_ordered : (n m : ℕ) → (pos (b s) *ℤ rule n m) ≤ℤ (pos (a s) *ℤ upper_rule n m)
  rules_ordered n m = gains_ordered (a s) (b s) n m (q s) (upper_target s) (u_d s) (speed_reached s) strengths (≤ℤ_trans targets (maxℤ_left (upper_q s) (speed_reached s)))
      (missing_order (e s) (d s) (u s) (q s) (upper_target s) (maxℤ_right (upper_q s) (speed_reached s)))

  -- each on its scale, 2*a*m² and 2*b*m²
  pub paths_in_order : (n m : ℕ) → (pos (b s) *ℤ lower_path s n m) ≤ℤ (pos (a s) *ℤ upper_path s n m)
  paths_in_order n m =
      let f = delay_height (neg_ℤ (pos (e s))) (u s) in
      let g = delay_height (pos (e s)) (u s) in
      ⊎_elim
      (λ (i : n ≤ d s * m). rw (continued_before (a s) f (d s) 1 rule rule_zero n m i, continued_before (b s) g (d s) 1 upper_rule upper_rule_zero n m i)
      (by≤ (a s ∷ b s ∷ []) (f n m ∷ g n m ∷ []) (0≤pos (a s * b s) ⊠ gap≤ (delays_ordered (e s) n m (u s))) (λ v. search quote depth 20) tt))
      (λ (i : d s * m < n).
      let r = n - d s * m in
      rw (continued_after (a s) f (d s) 1 rule rule_zero n m (omega arith), continued_after (b s) g (d s) 1 upper_rule upper_rule_zero n m (omega arith))
      (by≤ (a s ∷ b s ∷ []) (f (d s * m) m ∷ g (d s * m) m ∷ rule r m ∷ upper_rule r m ∷ [])
      (0≤pos (a s * b s) ⊠ gap≤ (delays_ordered (e s) (d s * m) m (u s)) ⊞ gap≤ (rules_ordered r m)) (λ v. search quote depth 20) tt))
      (split≤ n (d s * m))
