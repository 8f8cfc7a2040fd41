-- The two sides as profiles, so that a conflict time on a side gives one among the instants that the rule tries, or a window without an end in which the
-- path goes towards the intruder for ever; there it reaches the intruder's level by a numeral second. The delay is a hill; the advice rule is a valley, or
-- goes down for ever; the upper path, turned over, is a hill or goes up for ever. Assumes nothing.
use Rattle.std.specs.Prelude.{None}
use Rattle.std.specs.Option.{option_to_list}
use mathlib.Core.Path.{◌≡◌, refl, sym, ap, ◌∙◌, subst}
use mathlib.Core.List.{List, [], ◌∷◌}
use mathlib.Core.Logic.{◌⊎◌, inl, inr, ⊎_elim}
use Prim.Native.Nat.{ℕ, ◌+◌, ◌*◌, ◌-◌, ◌<◌, ◌≤◌}
use native.Mathlib.Nat.{mul-le-mul_left}
use native.Mathlib.Omega.{arith}
use lib.IntN.{ℤ, pos, negsuc, neg_ℤ, ◌+ℤ◌, ◌-ℤ◌, ◌*ℤ◌}
use lib.Signed.{◌≤ℤ◌, ◌<ℤ◌, le_z_yes, lt_z_yes}
use Rattle.integers.specs.Extremes.{max0}
use Rattle.integers.proofs.Quotation.{quote}
use Rattle.integers.proofs.Certificates.{ring, by≤, gap≤, gap<, ◌⊞◌, ◌⊠◌, 0≤pos, pos≤, split<}
use Rattle.integers.proofs.Laws.{≤ℤ-of-≡, <ℤ_≤ℤ, ≤ℤ_trans, negℤ_mono, negℤ_cancel, max0_same, maxℤ_above, maxℤ_right}
use Rattle.instant.specs.declared.Instant.{Instant}
use Rattle.instant.specs.Order.{◌÷◌, ◌≼◌}
use Rattle.path.specs.declared.SensedQuestion.{SensedQuestion}
use Rattle.path.specs.declared.Side.{Side}
use Rattle.path.specs.declared.Side.TheVariants.{Lower, Upper}
use Rattle.path.specs.Paths.{advice_gain, delay_height, continued, u_d, lower_path, speed_reached, upper_target, upper_path}
use Rattle.path.specs.Window.{Window, window_start, window_end}
use Rattle.path.specs.Conflict.{lower_edge, upper_edge, NotBeyond, Conflict}
use Rattle.path.specs.Instants.{Among, turning_instant, path_instants, instants}
use Rattle.path.specs.inner.Sizes.{max_speed_difference, Sizes, Sized, search_seconds, search_end}
use Rattle.path.proofs.Membership.{among_one, among_either}
use Rattle.path.proofs.AdviceRule.{missing, gain_rises, gain_falls, gain_at_most, gain_at_least, gain_zero, falls_to_turning, rises_from_turning, gain_sinks, delay_rises, delay_falls, upper_delay_rises, upper_delay_falls, gain_scale, delay_scale}
use Rattle.path.proofs.Pieces.{Pieces, last_hill, last_rise, last_valley, EndsInHill}
use Rattle.path.proofs.Continued.{later, continued_after, continued_pieces, continued_scale, Valley, Rising, Falling, FallingTo, joined_valley, joined_falling}
use Rattle.path.proofs.Interval.{Multiple, Over, over_multiple, Place}
use Rattle.path.proofs.WindowEnds.{window_between, between_window, window_start_divisor, window_end_divisor}
use Rattle.path.proofs.Profile.{Shape, Profile, Low, low_instant}

-- the path goes towards the intruder for ever
abbrev pub Approaches : Side → SensedQuestion → Type 0
Approaches Lower s = s.target <ℤ pos 0
Approaches Upper s = pos 0 <ℤ upper_target s

-- ---- the delay is a hill
delay_pieces : (e M : ℕ) (u : ℤ) → Pieces (λ n. delay_height (neg_ℤ (pos e)) u n M) 0 []
delay_pieces e M u = last_hill (λ x y z i j k. ⊎_elim
    (λ (h : (u *ℤ pos M) <ℤ (pos e *ℤ pos y)). inr (delay_falls e y z M u k (<ℤ_≤ℤ h)))
    (λ (h : (pos e *ℤ pos y) ≤ℤ (u *ℤ pos M)). inl (delay_rises e x y M u j h))
    (split< (u *ℤ pos M) (pos e *ℤ pos y)))

-- ---- the advice rule begun at the second w with speed x: it falls to the turning instant and rises from there, or falls for ever
pub record RuleShape (a w : ℕ) (q x : ℤ) (M : ℕ) : Type 0 where
  pub marks : List ℕ
  pub pieces : Pieces (λ n. advice_gain a q x n M) 0 marks
  pub places : (y : ℕ) → Among y (later (w * M) marks) → Place (option_to_list (turning_instant q a w x)) y M
  pub tail : EndsInHill pieces → q <ℤ pos 0

pub rule_shape : (a w : ℕ) (q x : ℤ) (M : ℕ) → 0 < a → 0 < M → ((t : Instant) → Among t (option_to_list (turning_instant q a w x)) → Multiple M t) → RuleShape a w q x M
rule_shape a w (pos q) x M pa pM f =
    let g = max0 (neg_ℤ x) in
    let t = w * a + g ÷ a in
    let k = f t (inl refl) in
    let s = k.0 in
    let m : M ≡ a * s = k.1 in
    let h : a * (g * s) ≡ g * M = omega (arith, ap (λ (z : ℕ). g * z) m) in
    record {
      marks = g * s ∷ [];
      pieces = last_valley {A = 0} (g * s) (omega arith)
          (λ (y z : ℕ) i (j : y ≤ z) (k : z ≤ g * s). falls_to_turning a y z M q x pa j (omega (arith, mul-le-mul_left a k)))
          (λ (y z : ℕ) (i : g * s ≤ y) (j : y ≤ z). rises_from_turning a y z M q x j (omega (arith, mul-le-mul_left a i)));
      places = λ y. among_one (λ z. Place (t ∷ []) z M) (w * M + g * s) y (record {
        t = t;
        among = inl refl;
        over = subst (λ (z : ℕ). Over t z M) {x = (w * a + g) * s} {y = w * M + g * s} (omega (arith, ap (λ (z : ℕ). w * z) m)) (over_multiple t s M pM m);
      });
      tail = λ h. absurd h;
    }
rule_shape a w (negsuc q) x M pa pM f = record {
  marks = [];
  pieces = last_hill (λ z₁ y z i j k. inr (gain_sinks a y z M (negsuc q) x (le_z_yes tt) k));
  places = λ y i. absurd i;
  tail = λ h. lt_z_yes tt;
}

-- ---- the lower path: the delay, continued by the rule
pub second_over : (w M : ℕ) → 0 < M → Over (w ÷ 1) (w * M) M
second_over w M p = over_multiple (w ÷ 1) M M p (omega arith)

pub lower_shape : (s : SensedQuestion) → 0 < s.strength → (M : ℕ) → 0 < M → ((t : Instant) → Among t (path_instants Lower s) → Multiple M t) → Shape (lower_path s) (path_instants Lower s) (Approaches Lower s) M
lower_shape s pa M pM f =
    let rule = advice_gain s.strength s.target (u_d s) in
    let r = rule_shape s.strength s.delay s.target (u_d s) M pa pM (λ t i. f t (inr i)) in
    let c = continued_pieces s.strength (delay_height (neg_ℤ (pos s.delay_acceleration)) s.speed) s.delay 1 rule (λ m. gain_zero s.strength m s.target (u_d s)) M
    (delay_pieces s.delay_acceleration M s.speed) r.pieces in
    record {
      marks = c.marks;
      pieces = c.pieces;
      places = λ x i. ⊎_elim
          (λ h. record { t = s.delay ÷ 1; among = inl refl; over = subst (λ (z : ℕ). Over (s.delay ÷ 1) z M) (sym h) (second_over s.delay M pM) })
          (λ h. let p = r.places x h in record { t = p.t; among = inr p.among; over = p.over })
          (c.among x i);
      tail = λ h. r.tail (c.hilly h);
    }

pub lower_scale : (s : SensedQuestion) (n m x : ℕ) → lower_path s (n * x) (m * x) ≡ pos x *ℤ pos x *ℤ lower_path s n m
lower_scale s = continued_scale s.strength (delay_height (neg_ℤ (pos s.delay_acceleration)) s.speed) s.delay 1 (advice_gain s.strength s.target (u_d s)) (λ m. gain_zero s.strength m s.target (u_d s))
    (λ n m x. delay_scale (neg_ℤ (pos s.delay_acceleration)) n m x s.speed) (λ n m x. gain_scale s.strength n m x s.target (u_d s))

pub lower_edge_scale : (s : SensedQuestion) (m x : ℕ) → lower_edge s (m * x) ≡ pos x *ℤ pos x *ℤ lower_edge s m
lower_edge_scale s m x = ring (s.strength ∷ m ∷ x ∷ s.half_height ∷ []) (s.level ∷ []) (λ v. search quote depth 20) tt

turning_divisor : (q : ℤ) (a d : ℕ) (x : ℤ) (t : Instant) → 0 < a → Among t (option_to_list (turning_instant q a d x)) → 0 < t.m
turning_divisor (pos q) a d x t h i = among_one (λ y. 0 < y.m) (d * a + max0 (neg_ℤ x) ÷ a) t h i
turning_divisor (negsuc q) a d x t h i = absurd i

-- ---- the upper path turned over: a hill, or for ever up
turned_scale : (s : ℕ) (x y : ℤ) → x ≡ pos s *ℤ pos s *ℤ y → neg_ℤ x ≡ pos s *ℤ pos s *ℤ neg_ℤ y
turned_scale s x y h = ap neg_ℤ h ∙ ring (s ∷ []) (y ∷ []) (λ v. search quote depth 20) tt

-- it is a valley, as its speed never falls: it is u + e*t during the delay, and goes on from the speed reached
module _ (b e d M : ℕ) (u Q : ℤ) (reached : (u +ℤ pos e *ℤ pos d) ≤ℤ Q) where
  abbrev v : ℤ
  v = u +ℤ pos e *ℤ pos d

  delay_valley : Valley (λ n. delay_height (pos e) u n M)
  delay_valley x y z l k = ⊎_elim
      (λ (h : (u *ℤ pos M +ℤ pos e *ℤ pos y) <ℤ pos 0). inl (upper_delay_falls e x y M u l (<ℤ_≤ℤ h)))
      (λ (h : pos 0 ≤ℤ (u *ℤ pos M +ℤ pos e *ℤ pos y)). inr (upper_delay_rises e y z M u k h))
      (split< (u *ℤ pos M +ℤ pos e *ℤ pos y) (pos 0))

  rule_valley : Valley (λ n. advice_gain b Q v n M)
  rule_valley x y z l k = ⊎_elim
      (λ (h : (Q *ℤ pos M) <ℤ pos (missing b Q v y M)). inl (gain_falls b x y M Q v l (<ℤ_≤ℤ h)))
      (λ (h : pos (missing b Q v y M) ≤ℤ (Q *ℤ pos M)). inr (gain_rises b y z M Q v k h))
      (split< (Q *ℤ pos M) (pos (missing b Q v y M)))

  delay_falling : v ≤ℤ pos 0 → FallingTo (d * M) (λ n. delay_height (pos e) u n M)
  delay_falling h x z l i = upper_delay_falls e x z M u l (by≤ (e ∷ d ∷ M ∷ z ∷ []) (u ∷ []) (0≤pos M ⊠ gap≤ h ⊞ 0≤pos e ⊠ gap≤ (pos≤ i)) (λ v. search quote depth 20) tt)

  -- what the rule misses at first is Q - v
  rule_rising : pos 0 ≤ℤ v → Rising (λ n. advice_gain b Q v n M)
  rule_rising h x z l = gain_rises b x z M Q v l
      (≤ℤ_trans (pos≤ {m = missing b Q v x M} {n = max0 (Q -ℤ v) * M} (omega arith))
      (by≤ (e ∷ d ∷ M ∷ max0 (Q -ℤ (u +ℤ pos e *ℤ pos d)) ∷ []) (u ∷ Q ∷ []) (0≤pos M ⊠ (gap≤ (≤ℤ-of-≡ (max0_same (Q -ℤ v) (gap≤ reached))) ⊞ gap≤ h)) (λ v. search quote depth 20) tt))

  abbrev upward : ℕ → ℕ → ℤ
  upward = continued b (delay_height (pos e) u) d 1 (advice_gain b Q v)

  pub upper_valley : Valley (λ n. continued b (delay_height (pos e) u) d 1 (advice_gain b Q (u +ℤ pos e *ℤ pos d)) n M)
  upper_valley = joined_valley b (delay_height (pos e) u) d 1 (advice_gain b Q v) (λ m. gain_zero b m Q v) M delay_valley rule_valley
      (⊎_elim (λ (h : v <ℤ pos 0). inl (delay_falling (<ℤ_≤ℤ h))) (λ (h : pos 0 ≤ℤ v). inr (rule_rising h)) (split< v (pos 0)))

  pub upper_falling : Q ≤ℤ pos 0 → Falling (λ n. continued b (delay_height (pos e) u) d 1 (advice_gain b Q (u +ℤ pos e *ℤ pos d)) n M)
  upper_falling h = joined_falling b (delay_height (pos e) u) d 1 (advice_gain b Q v) (λ m. gain_zero b m Q v) M (delay_falling (≤ℤ_trans reached h)) (λ x z l. gain_sinks b x z M Q v h l)

  upper_shape : Shape (λ n m. neg_ℤ (upward n m)) [] (pos 0 <ℤ Q) M
  upper_shape = ⊎_elim
      (λ (t : pos 0 <ℤ Q). record {
        marks = [];
        places = λ x h. absurd h;
        tail = λ _. t;
        pieces = last_hill (λ x y z i l k. ⊎_elim (λ h. inl (negℤ_mono h)) (λ h. inr (negℤ_mono h)) (upper_valley x y z l k));
      })
      (λ (t : Q ≤ℤ pos 0). record {
        marks = [];
        places = λ x h. absurd h;
        tail = λ h. absurd h;
        pieces = last_rise (λ x z i l. negℤ_mono (upper_falling t x z l));
      })
      (split< (pos 0) Q)

pub upper_scale : (s : SensedQuestion) (n m x : ℕ) → upper_path s (n * x) (m * x) ≡ pos x *ℤ pos x *ℤ upper_path s n m
upper_scale s = continued_scale s.upper_strength (delay_height (pos s.delay_acceleration) s.speed) s.delay 1 (advice_gain s.upper_strength (upper_target s) (speed_reached s)) (λ m. gain_zero s.upper_strength m (upper_target s) (speed_reached s))
    (λ n m x. delay_scale (pos s.delay_acceleration) n m x s.speed) (λ n m x. gain_scale s.upper_strength n m x (upper_target s) (speed_reached s))

pub upper_edge_scale : (s : SensedQuestion) (m x : ℕ) → upper_edge s (m * x) ≡ pos x *ℤ pos x *ℤ upper_edge s m
upper_edge_scale s m x = ring (s.upper_strength ∷ m ∷ x ∷ s.half_height ∷ []) (s.level ∷ []) (λ v. search quote depth 20) tt

-- ---- the two profiles
pub path_divisor : (side : Side) (s : SensedQuestion) → Sized side s → (t : Instant) → Among t (path_instants side s) → 0 < t.m
path_divisor Lower s z t (inl e) = omega (arith, ap (λ (x : Instant). x.m) e)
path_divisor Lower s z t (inr i) = turning_divisor s.target s.strength s.delay (u_d s) t z.a_lo i
path_divisor Upper s z t i = absurd i

pub instants_divisor : (side : Side) (s : SensedQuestion) → Sized side s → (t : Instant) → Among t (instants side s) → 0 < t.m
instants_divisor side s z t (inl e) = subst (λ (x : Instant). 0 < x.m) (sym e) (window_start_divisor s)
instants_divisor side s z t (inr i) = ⊎_elim (path_divisor side s z t) (window_end_divisor s t) (among_either t (path_instants side s) (option_to_list (window_end s)) i)

profile : (side : Side) (s : SensedQuestion) → Sized side s → Profile
profile Lower s z = record {
  In = Window s;
  first = window_start s;
  last = window_end s;
  in_between = λ n m p. window_between s n m;
  between_in = between_window s;
  height = lower_path s;
  edge = lower_edge s;
  height_scale = lower_scale s;
  edge_scale = lower_edge_scale s;
  mids = path_instants Lower s;
  sinks = Approaches Lower s;
  shape = lower_shape s z.a_lo;
  divisor = instants_divisor Lower s z;
}
profile Upper s z = record {
  In = Window s;
  first = window_start s;
  last = window_end s;
  in_between = λ n m p. window_between s n m;
  between_in = between_window s;
  height = λ n m. neg_ℤ (upper_path s n m);
  edge = λ m. neg_ℤ (upper_edge s m);
  height_scale = λ n m x. turned_scale x (upper_path s (n * x) (m * x)) (upper_path s n m) (upper_scale s n m x);
  edge_scale = λ m x. turned_scale x (upper_edge s (m * x)) (upper_edge s m) (upper_edge_scale s m x);
  mids = path_instants Upper s;
  sinks = Approaches Upper s;
  shape = λ M p f. upper_shape s.upper_strength s.delay_acceleration s.delay M s.speed (upper_target s) (maxℤ_right s.upper_target (speed_reached s));
  divisor = instants_divisor Upper s z;
}

conflict_low : (side : Side) (s : SensedQuestion) (z : Sized side s) (n m : ℕ) → Conflict side s n m → Low (profile side s z) n m
unfolding profile
conflict_low Lower s z n m c = record { window = c.window; below = c.vertical }
conflict_low Upper s z n m c = record { window = c.window; below = negℤ_mono c.vertical }

low_conflict : (side : Side) (s : SensedQuestion) (z : Sized side s) (n m : ℕ) → Low (profile side s z) n m → Conflict side s n m
unfolding profile
low_conflict Lower s z n m l = record { window = l.window; vertical = l.below }
low_conflict Upper s z n m l = record { window = l.window; vertical = negℤ_cancel l.below }

-- ---- what a conflict time on a side gives
-- a listed instant with a conflict
pub record Hit (side : Side) (s : SensedQuestion) : Type 0 where
  pub t : Instant
  pub among : Among t (instants side s)
  pub conflict : Conflict side s t.n t.m

-- no end, and the path goes towards the intruder for ever; from its start on, every whole second is in the window
pub record Endless (side : Side) (s : SensedQuestion) : Type 0 where
  pub endless : window_end s ≡ None
  pub approaches : Approaches side s
  pub inside : (j : ℕ) → window_start s ≼ j ÷ 1 → Window s j 1

pub conflict_instant : (side : Side) (s : SensedQuestion) → Sized side s → (n m : ℕ) → 0 < m → Conflict side s n m → Hit side s ⊎ Endless side s
unfolding profile
conflict_instant Lower s z n m pm c = low_instant (profile Lower s z) n m pm (conflict_low Lower s z n m c) (Hit Lower s ⊎ Endless Lower s)
    (λ t i l. inl (record { t = t; among = i; conflict = low_conflict Lower s z t.n t.m l }))
    (λ e a w. inr (record { endless = e; approaches = a; inside = w }))
conflict_instant Upper s z n m pm c = low_instant (profile Upper s z) n m pm (conflict_low Upper s z n m c) (Hit Upper s ⊎ Endless Upper s)
    (λ t i l. inl (record { t = t; among = i; conflict = low_conflict Upper s z t.n t.m l }))
    (λ e a w. inr (record { endless = e; approaches = a; inside = w }))

-- ---- such a path has reached the intruder at `search_end`
lower_reaches : (s : SensedQuestion) → Sizes s → s.target <ℤ pos 0 → lower_path s (search_end Lower s) 1 ≤ℤ lower_edge s 1
unfolding delay_height
lower_reaches s z h =
    let rule = advice_gain s.strength s.target (u_d s) in
    let f = delay_height (neg_ℤ (pos s.delay_acceleration)) s.speed in
    let j = search_seconds Lower in
    ≤ℤ_trans
    (≤ℤ-of-≡ (continued_after s.strength f s.delay 1 rule (λ m. gain_zero s.strength m s.target (u_d s)) (search_end Lower s) 1 (omega arith)
    ∙ ap (λ (x : ℕ). pos s.strength *ℤ f (s.delay * 1) 1 +ℤ pos 1 *ℤ rule x 1) {x = search_end Lower s - s.delay * 1} {y = j} (omega arith)))
    (by≤ (s.strength ∷ s.delay ∷ s.delay_acceleration ∷ s.half_height ∷ []) (s.speed ∷ s.target ∷ s.level ∷ advice_gain s.strength s.target (u_d s) j 1 ∷ [])
    (gap≤ (gain_at_most s.strength j 1 s.target (u_d s))
    ⊞ 0≤pos (2 * s.strength) ⊠ (gap≤ z.wh_lo ⊞ 0≤pos s.delay ⊠ gap≤ z.u_hi ⊞ 0≤pos max_speed_difference ⊠ gap≤ (pos≤ z.d_hi) ⊞ gap< h ⊠ 0≤pos j))
    (λ v. search quote depth 20) tt)

-- G × G is at most maxSpeedDifference × maxSpeedDifference × b
upper_reaches : (s : SensedQuestion) → Sized Upper s → pos 0 <ℤ upper_target s → upper_edge s 1 ≤ℤ upper_path s (search_end Upper s) 1
unfolding delay_height
upper_reaches s (z, y) h =
    let b = s.upper_strength in
    let rule = advice_gain b (upper_target s) (speed_reached s) in
    let f = delay_height (pos s.delay_acceleration) s.speed in
    let j = search_seconds Upper in
    let most = max_speed_difference in
    let g : max0 (upper_target s -ℤ speed_reached s) ≤ most =
    maxℤ_above s.upper_target (speed_reached s) most (by≤ (s.delay_acceleration ∷ s.delay ∷ []) (s.speed ∷ s.upper_target ∷ []) (gap≤ y.change) (λ v. search quote depth 20) tt) in
    ≤ℤ_trans
    (by≤ (s.upper_strength ∷ s.half_height ∷ s.delay ∷ s.delay_acceleration ∷ max0 (upper_target s -ℤ speed_reached s) ∷ []) (s.speed ∷ s.level ∷ upper_target s ∷ advice_gain s.upper_strength (upper_target s) (speed_reached s) j 1 ∷ [])
    (gap≤ (gain_at_least b j 1 (upper_target s) (speed_reached s))
    ⊞ 0≤pos (2 * b) ⊠ (gap≤ z.wh_hi ⊞ 0≤pos s.delay ⊠ gap≤ z.u_lo ⊞ 0≤pos most ⊠ gap≤ (pos≤ z.d_hi) ⊞ 0≤pos j ⊠ gap< h)
    ⊞ 0≤pos (most * most) ⊠ gap≤ (pos≤ y.b_lo) ⊞ gap≤ (pos≤ g) ⊠ 0≤pos (most + max0 (upper_target s -ℤ speed_reached s)))
    (λ v. search quote depth 20) tt)
    (≤ℤ-of-≡ (sym (continued_after b f s.delay 1 rule (λ m. gain_zero b m (upper_target s) (speed_reached s)) (search_end Upper s) 1 (omega arith)
    ∙ ap (λ (x : ℕ). pos b *ℤ f (s.delay * 1) 1 +ℤ pos 1 *ℤ rule x 1) {x = search_end Upper s - s.delay * 1} {y = j} (omega arith))))

pub reaches_end : (side : Side) (s : SensedQuestion) → Sized side s → Approaches side s → NotBeyond side s (search_end side s) 1
reaches_end Lower s z h = lower_reaches s z h
reaches_end Upper s z h = upper_reaches s z h
