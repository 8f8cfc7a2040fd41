-- Figure 5 says exactly that the path is strictly beyond the puck's edge in the window up to d, where it is the delay's arc, and from d on, where it
-- is the advice rule's. The arc is lowest at an end of its part of the window: at its start (cases 7 and 8), at the exit (case 9), or at d, where
-- the rule begins. Assumes a positive strength.
use mathlib.Core.Path.{◌≡◌, sym, subst}
use mathlib.Core.List.{[], ◌∷◌}
use mathlib.Core.Logic.{⊎_elim, ◌↔◌}
use Prim.Native.Nat.{ℕ, ◌*◌, ◌<◌, ◌≤◌}
use native.Mathlib.Omega.{arith}
use lib.IntN.{ℤ, pos, neg_ℤ, ◌+ℤ◌, ◌-ℤ◌, ◌*ℤ◌}
use lib.Signed.{◌≤ℤ◌, ◌<ℤ◌}
use Rattle.integers.specs.Extremes.{max0, maxℤ}
use Rattle.integers.proofs.Quotation.{quote}
use Rattle.integers.proofs.Certificates.{ring, modulo, by≤, by<, div≤, gap≤, gap<, ◌⊞◌, ◌⊠◌, 0≤pos, pos≤, pos<, nat≤, nat<, split<}
use Rattle.integers.proofs.Laws.{≤ℤ-of-≡, <ℤ_≤ℤ, over<}
use Rattle.path.specs.Paths.{advice_gain, delay_height}
use Rattle.path.proofs.AdviceRule.{gain_zero, delay_rises, delay_falls, delay_scale}
use Rattle.region.specs.Formula.{Formula, Says, ◌²}
use Rattle.region.specs.Figure3.{L_expl⁻¹}
use Rattle.region.specs.Figure5.{rᵈ, uᵈ, 2whᵈ, case₇, case₈, case₉, bound₇, bound₈, bound₉, D_explᵈ}
use Rattle.region.proofs.Corners.{max_is, positive_right, same_sign, Beyond, Clear, Corner, bounded, carried, Within, not_passed, exit_is, start_is, exit_within, exit_last, start_within, start_first}
use Rattle.region.proofs.Immediate.{figure_3}

-- n/m is in the window and no later than the second d
pub record Until (c p d : ℕ) (r : ℤ) (n m : ℕ) : Type 0 where
  pub early : n ≤ d * m
  pub within : Within c p r n m

-- ---- up to d
module _ (c p k a e d : ℕ) (r h u q : ℤ) where
  -- what a definition of Figure 5 says of these numbers
  abbrev Says₅ : (ℤ → ℤ → ℤ → ℤ → ℤ → ℤ → ℤ → ℤ → ℤ → ℤ → Formula) → Type 0
  Says₅ f = Says (f (pos c) (pos p) (pos k) (pos a) (pos e) (pos d) r h u q)

  abbrev Delay : ℕ → ℕ → ℤ
  Delay = delay_height (neg_ℤ (pos e)) u

  abbrev level : ℤ
  level = h +ℤ pos 2 *ℤ pos k

  abbrev exit : ℕ
  exit = max0 (r +ℤ pos p)

  abbrev start : ℕ
  start = max0 (r -ℤ pos p)

  abbrev At : ℕ → ℕ → Type 0 → Type 0
  At = Corner (Until c p d r) Delay level

  abbrev Arc : ℤ → ℤ
  Arc z = neg_ℤ (pos e *ℤ z ²) +ℤ pos 2 *ℤ pos c *ℤ u *ℤ z -ℤ pos 2 *ℤ pos c ² *ℤ pos k

  arc_says : (z : ℤ) (y : ℕ) → pos y ≡ z → ((pos c ² *ℤ h) <ℤ Arc z) ↔ Beyond Delay level y c
  unfolding delay_height
  arc_says z y is =
      let same : Delay y c -ℤ pos c *ℤ pos c *ℤ level ≡ pos 1 *ℤ (Arc (pos y) -ℤ pos c ² *ℤ h) = ring (c ∷ k ∷ e ∷ y ∷ []) (h ∷ u ∷ []) (λ v. search quote depth 20) tt in
      subst (λ (t : ℤ). ((pos c ² *ℤ h) <ℤ Arc t) ↔ Beyond Delay level y c) is (same_sign (pos 1) (pos< (omega arith)) same)

  now_says : (h <ℤ neg_ℤ (pos 2 *ℤ pos k)) ↔ Beyond Delay level 0 1
  unfolding delay_height
  now_says =
      let same : Delay 0 1 -ℤ pos 1 *ℤ pos 1 *ℤ level ≡ pos 1 *ℤ (neg_ℤ (pos 2 *ℤ pos k) -ℤ h) = ring (k ∷ e ∷ []) (h ∷ u ∷ []) (λ v. search quote depth 20) tt in
      same_sign (pos 1) (pos< (omega arith)) same

  corner₇ : Says₅ case₇ → At 0 1 (Says₅ bound₇)
  corner₇ i = record {
    positive = omega arith;
    within = record {
      early = omega arith;
      within = record {
        from = by≤ (c ∷ p ∷ []) (r ∷ []) (gap≤ i.1) (λ v. search quote depth 20) tt;
        till = by≤ (c ∷ p ∷ []) (r ∷ []) (gap≤ i.0) (λ v. search quote depth 20) tt;
      };
    };
    says = now_says;
  }

  -- max(0, d) is d
  delay_is : maxℤ (pos 0) (pos d) ≡ pos d
  delay_is = max_is (pos d)

  corner₈ : Says₅ case₈ → At start c (Says₅ bound₈)
  corner₈ i =
      let is = start_is p r (<ℤ_≤ℤ i.0) in
      let before : start ≤ d * c = nat≤ {m = start} {n = d * c} (by≤ (c ∷ d ∷ p ∷ max0 (r -ℤ pos p) ∷ []) (r ∷ maxℤ (pos 0) (pos d) ∷ []) (gap≤ i.1 ⊞ gap≤ (≤ℤ-of-≡ is) ⊞ 0≤pos c ⊠ gap≤ (≤ℤ-of-≡ delay_is)) (λ v. search quote depth 20) tt) in
      let later : 0 < d * c = nat< (by< (c ∷ d ∷ p ∷ []) (r ∷ maxℤ (pos 0) (pos d) ∷ []) (gap< i.0 ⊞ gap≤ i.1 ⊞ 0≤pos c ⊠ gap≤ (≤ℤ-of-≡ delay_is)) (λ v. search quote depth 20) tt) in
      record {
        positive = positive_right 0 d c later;
        within = record { early = before; within = start_within c p r start is };
        says = arc_says (r -ℤ pos p) start is;
      }

  corner₉ : Says₅ case₉ → At exit c (Says₅ bound₉)
  corner₉ i =
      let is = exit_is p r i.0 in
      let before : exit < d * c = nat< (by< (c ∷ d ∷ p ∷ max0 (r +ℤ pos p) ∷ []) (r ∷ maxℤ (pos 0) (pos d) ∷ []) (gap< i.1 ⊞ gap≤ (≤ℤ-of-≡ is) ⊞ 0≤pos c ⊠ gap≤ (≤ℤ-of-≡ delay_is)) (λ v. search quote depth 20) tt) in
      record {
        positive = positive_right exit d c before;
        within = record { early = omega arith; within = exit_within c p r exit is };
        says = arc_says (r +ℤ pos p) exit is;
      }

  abbrev Cases : Type 0
  Cases = (Says₅ case₇ → Says₅ bound₇) × ((Says₅ case₈ → Says₅ bound₈) × (Says₅ case₉ → Says₅ bound₉))

  -- where d is in the window, the path is beyond the level there
  abbrev Joined : Type 0
  Joined = Within c p r d 1 → Beyond Delay level d 1

  scale : (n m x : ℕ) → Delay (n * x) (m * x) ≡ pos x *ℤ pos x *ℤ Delay n m
  scale n m x = delay_scale (neg_ℤ (pos e)) n m x u

  module _ (f : Cases) (joined : Joined) (n m : ℕ) (pm : 0 < m) (w : Until c p d r n m) where
    -- the window starts before d
    soon : (r -ℤ pos p) ≤ℤ (pos c *ℤ pos d)
    soon = div≤ (c ∷ p ∷ d ∷ n ∷ m ∷ []) (r ∷ []) (pos< pm) (gap≤ w.within.from ⊞ 0≤pos c ⊠ gap≤ (pos≤ {m = n} {n = d * m} w.early)) (λ v. search quote depth 20) tt

    -- the path rises up to n/m: no lower there than at the start
    rising : (pos e *ℤ pos n) ≤ℤ (u *ℤ pos m) → Beyond Delay level n m
    rising s = ⊎_elim
        (λ (i : pos p <ℤ r).
        let case : Says₅ case₈ = (i, by≤ (c ∷ d ∷ p ∷ []) (r ∷ maxℤ (pos 0) (pos d) ∷ []) (gap≤ soon ⊞ 0≤pos c ⊠ gap≤ (≤ℤ-of-≡ (sym delay_is))) (λ v. search quote depth 20) tt) in
        carried (corner₈ case) scale (f.1.0 case) n m pm
        (delay_rises e (start * m) (n * c) (m * c) u (start_first c p r start (start_is p r (<ℤ_≤ℤ i)) w.within) (by≤ (e ∷ n ∷ m ∷ c ∷ []) (u ∷ []) (0≤pos c ⊠ gap≤ s) (λ v. search quote depth 20) tt)))
        (λ (i : r ≤ℤ pos p).
        let case : Says₅ case₇ = (not_passed pm w.within, i) in
        carried (corner₇ case) scale (f.0 case) n m pm (delay_rises e (0 * m) (n * 1) (m * 1) u (omega arith) (by≤ (e ∷ n ∷ m ∷ []) (u ∷ []) (gap≤ s) (λ v. search quote depth 20) tt)))
        (split< (pos p) r)

    -- it falls from n/m on: no lower there than at the exit, or at d
    falling : (u *ℤ pos m) ≤ℤ (pos e *ℤ pos n) → Beyond Delay level n m
    falling s = ⊎_elim
        (λ i.
        let case : Says₅ case₉ = (not_passed pm w.within, i) in
        carried (corner₉ case) scale (f.1.1 case) n m pm
        (delay_falls e (n * c) (exit * m) (m * c) u (exit_last c p r exit (exit_is p r case.0) w.within) (by≤ (e ∷ n ∷ m ∷ c ∷ []) (u ∷ []) (0≤pos c ⊠ gap≤ s) (λ v. search quote depth 20) tt)))
        (λ (i : (pos c *ℤ maxℤ (pos 0) (pos d) -ℤ pos p) ≤ℤ r).
        let here : Within c p r d 1 = record {
          from = by≤ (c ∷ d ∷ p ∷ []) (r ∷ []) (gap≤ soon) (λ v. search quote depth 20) tt;
          till = by≤ (c ∷ d ∷ p ∷ []) (r ∷ maxℤ (pos 0) (pos d) ∷ []) (gap≤ i ⊞ 0≤pos c ⊠ gap≤ (≤ℤ-of-≡ (sym delay_is))) (λ v. search quote depth 20) tt;
        } in
        let end : At d 1 (Beyond Delay level d 1) = record { positive = omega arith; within = record { early = omega arith; within = here }; says = (λ b. b, λ b. b) } in
        carried end scale (joined here) n m pm (delay_falls e (n * 1) (d * m) (m * 1) u (let l = w.early in omega arith) (by≤ (e ∷ n ∷ m ∷ []) (u ∷ []) (gap≤ s) (λ v. search quote depth 20) tt)))
        (split< r (pos c *ℤ maxℤ (pos 0) (pos d) -ℤ pos p))

    beyond : Beyond Delay level n m
    beyond = ⊎_elim (λ s. falling (<ℤ_≤ℤ s)) rising (split< (u *ℤ pos m) (pos e *ℤ pos n))

  bounds : Clear (Until c p d r) Delay level → Cases
  bounds clear = (λ i. bounded (corner₇ i) clear, (λ i. bounded (corner₈ i) clear, λ i. bounded (corner₉ i) clear))

-- ---- from d on: the rule, with the distance, the height and the speed at d
abbrev pub After : (c p k a e : ℕ) (r h u q : ℤ) → ℤ → Type 0
After c p k a e r h u q d =
    Clear (Within c p (r -ℤ pos c *ℤ d)) (advice_gain a q (u -ℤ pos e *ℤ d)) (pos a *ℤ (h -ℤ (neg_ℤ (pos e *ℤ d ²) +ℤ pos 2 *ℤ u *ℤ d) +ℤ pos 2 *ℤ pos k))

module _ (c p k a e d : ℕ) (pa : 0 < a) (r h u q : ℤ) where
  -- the rule's first height is the delay's last
  joined : After c p k a e r h u q (pos d) → Joined c p k a e d r h u q
  unfolding delay_height
  joined clear w =
      over< (pos a) (pos< pa)
      (modulo (pos 1) (gain_zero a 1 q (u -ℤ pos e *ℤ pos d)) (ring (a ∷ d ∷ e ∷ k ∷ []) (h ∷ u ∷ advice_gain a q (u -ℤ pos e *ℤ pos d) 0 1 ∷ []) (λ v. search quote depth 20) tt))
      (clear 0 1 (omega arith) (record {
        from = by≤ (c ∷ p ∷ d ∷ []) (r ∷ []) (gap≤ w.from) (λ v. search quote depth 20) tt;
        till = by≤ (c ∷ p ∷ d ∷ []) (r ∷ []) (gap≤ w.till) (λ v. search quote depth 20) tt;
      }))

  -- a quantity of Figure 5, of these numbers
  abbrev of : (ℤ → ℤ → ℤ → ℤ → ℤ → ℤ → ℤ → ℤ → ℤ → ℤ → ℤ) → ℤ
  of f = f (pos c) (pos p) (pos k) (pos a) (pos e) (pos d) r h u q

  after : Says (L_expl⁻¹ (pos c) (pos p) (pos k) (pos a) (r -ℤ of rᵈ) (h -ℤ of 2whᵈ) (of uᵈ) q) ↔ After c p k a e r h u q (pos d)
  after =
      subst (λ (x : ℤ). Says (L_expl⁻¹ (pos c) (pos p) (pos k) (pos a) (r -ℤ of rᵈ) (h -ℤ of 2whᵈ) (of uᵈ) q) ↔ After c p k a e r h u q x) (max_is (pos d))
      (figure_3 c p k a pa (r -ℤ of rᵈ) (h -ℤ of 2whᵈ) (of uᵈ) q)

  pub figure_5 : Says (D_explᵈ (pos c) (pos p) (pos k) (pos a) (pos e) (pos d) r h u q) ↔ (Clear (Until c p d r) (delay_height (neg_ℤ (pos e)) u) (h +ℤ pos 2 *ℤ pos k) × After c p k a e r h u q (pos d))
  figure_5 = (
    λ t. let rule = after.0 t.1 in (beyond c p k a e d r h u q t.0 (joined rule), rule),
    λ clear. (bounds c p k a e d r h u q clear.0, after.1 clear.1),
  )
