-- The window is what lies between its start and its end: a time in the window lies between them (`window_between`), and where the window has a time,
-- all that lies between them is in it (`between_window`). Nothing else about a window is used. Assumes nothing.
use Rattle.std.specs.Prelude.{None, Option, Some}
use Rattle.std.specs.Option.{option_to_list}
use mathlib.Core.Path.{◌≡◌, refl, sym, ap, subst}
use mathlib.Core.List.{[], ◌∷◌}
use mathlib.Core.Logic.{inl}
use Prim.Native.Nat.{ℕ, zero, suc, ◌*◌, ◌<◌, ◌≤◌}
use native.Mathlib.Omega.{arith}
use lib.IntN.{ℤ, pos, negsuc, ◌+ℤ◌, ◌-ℤ◌, ◌*ℤ◌}
use lib.Signed.{◌≤ℤ◌, ◌<ℤ◌, lt_z_yes, clash_ℤ}
use Rattle.integers.specs.Extremes.{max0}
use Rattle.integers.proofs.Quotation.{quote}
use Rattle.integers.proofs.Certificates.{by≤, by<, div≤, gap≤, gap<, ◌⊞◌, ◌⊠◌, 0≤pos, pos≤, pos<, nat≤}
use Rattle.integers.proofs.Laws.{≤ℤ-of-≡, max0_ge, max0_scale, nat_abs_hi, nat_abs_lo, nat_abs_in}
use Rattle.instant.specs.declared.Instant.{Instant}
use Rattle.instant.specs.Order.{◌÷◌, ◌≼◌, earlier}
use Rattle.instant.proofs.TimeOrder.{earlier_elim, earlier_left, earlier_right, earlier_latest, ≼_trans}
use Rattle.path.specs.declared.SensedQuestion.{SensedQuestion}
use Rattle.path.specs.Window.{InTime, distance_at, Window, start_of, end_of, window_start, window_end}
use Rattle.path.specs.Instants.{Among}
use Rattle.path.proofs.Membership.{among_one}
use Rattle.path.proofs.Interval.{Between}

-- ---- |r - c*t| ≤ p as two orders
module _ {s : SensedQuestion} {n m : ℕ} where
  pub window_from : Window s n m → ((s.distance -ℤ pos s.radius) *ℤ pos m) ≤ℤ (pos s.closing_speed *ℤ pos n)
  window_from w = by≤ (s.closing_speed ∷ s.radius ∷ n ∷ m ∷ []) (s.distance ∷ []) (gap≤ (nat_abs_hi (distance_at s n m) (s.radius * m) w.near)) (λ v. search quote depth 20) tt

  pub window_till : Window s n m → (pos s.closing_speed *ℤ pos n) ≤ℤ ((s.distance +ℤ pos s.radius) *ℤ pos m)
  window_till w = by≤ (s.closing_speed ∷ s.radius ∷ n ∷ m ∷ []) (s.distance ∷ []) (gap≤ (nat_abs_lo (distance_at s n m) (s.radius * m) w.near)) (λ v. search quote depth 20) tt

  pub window_by : ((s.distance -ℤ pos s.radius) *ℤ pos m) ≤ℤ (pos s.closing_speed *ℤ pos n) → (pos s.closing_speed *ℤ pos n) ≤ℤ ((s.distance +ℤ pos s.radius) *ℤ pos m) → InTime s.limit n m → Window s n m
  window_by l h t = record {
    near = nat_abs_in (distance_at s n m) (s.radius * m)
        (by≤ (s.closing_speed ∷ s.radius ∷ n ∷ m ∷ []) (s.distance ∷ []) (gap≤ h) (λ v. search quote depth 20) tt)
        (by≤ (s.closing_speed ∷ s.radius ∷ n ∷ m ∷ []) (s.distance ∷ []) (gap≤ l) (λ v. search quote depth 20) tt);
    intime = t;
  }

-- ---- in the window: not before its start, not after its end
start_first : (c p : ℕ) (r : ℤ) (n m : ℕ) → ((r -ℤ pos p) *ℤ pos m) ≤ℤ (pos c *ℤ pos n) → start_of c r p ≼ n ÷ m
start_first zero p r n m h = omega arith
start_first (suc c) p r n m h = omega (arith, max0_scale (r -ℤ pos p) m (suc c * n) h)

-- where c is not 0, (r + p)/c
exit_last : (c p : ℕ) (r : ℤ) (n m : ℕ) → (pos (suc c) *ℤ pos n) ≤ℤ ((r +ℤ pos p) *ℤ pos m) → n ÷ m ≼ max0 (r +ℤ pos p) ÷ suc c
exit_last c p r n m h = nat≤ {m = n * suc c} {n = max0 (r +ℤ pos p) * m}
    (by≤ (c ∷ p ∷ n ∷ m ∷ max0 (r +ℤ pos p) ∷ []) (r ∷ []) (gap≤ h ⊞ gap≤ (max0_ge (r +ℤ pos p)) ⊠ 0≤pos m) (λ v. search quote depth 20) tt)

limit_last : (L n m : ℕ) → n ≤ L * m → n ÷ m ≼ L ÷ 1
limit_last L n m h = omega arith

end_last : (c p : ℕ) (r : ℤ) (l : Option ℕ) (n m : ℕ) (t : Instant) → (pos c *ℤ pos n) ≤ℤ ((r +ℤ pos p) *ℤ pos m) → InTime l n m → Among t (option_to_list (end_of c r p l)) → n ÷ m ≼ t
end_last zero p r None n m t h i a = absurd a
end_last zero p r (Some L) n m t h i a = among_one (λ x. n ÷ m ≼ x) (L ÷ 1) t (limit_last L n m i) a
end_last (suc c) p r None n m t h i a = among_one (λ x. n ÷ m ≼ x) (max0 (r +ℤ pos p) ÷ suc c) t (exit_last c p r n m h) a
end_last (suc c) p r (Some L) n m t h i a = among_one (λ x. n ÷ m ≼ x) (earlier (max0 (r +ℤ pos p) ÷ suc c) (L ÷ 1)) t
    (earlier_latest (max0 (r +ℤ pos p) ÷ suc c) (L ÷ 1) (n ÷ m) (exit_last c p r n m h) (limit_last L n m i)) a

pub window_between : (s : SensedQuestion) (n m : ℕ) → Window s n m → Between (window_start s) (window_end s) n m
window_between s n m w = record {
  after = start_first s.closing_speed s.radius s.distance n m (window_from w);
  before = λ t. end_last s.closing_speed s.radius s.distance s.limit n m t (window_till w) w.intime;
}

-- ---- and where a time n/m is in it, all that lies between is
start_in : (c p : ℕ) (r : ℤ) (n m x y : ℕ) → 0 < m → ((r -ℤ pos p) *ℤ pos m) ≤ℤ (pos c *ℤ pos n) → start_of c r p ≼ x ÷ y → ((r -ℤ pos p) *ℤ pos y) ≤ℤ (pos c *ℤ pos x)
start_in zero p r n m x y pm h a = div≤ (p ∷ n ∷ m ∷ x ∷ y ∷ []) (r ∷ []) (pos< pm) (0≤pos y ⊠ gap≤ h) (λ v. search quote depth 20) tt
start_in (suc c) p r n m x y pm h a =
    by≤ (c ∷ p ∷ x ∷ y ∷ max0 (r -ℤ pos p) ∷ []) (r ∷ []) (gap≤ (max0_ge (r -ℤ pos p)) ⊠ 0≤pos y ⊞ gap≤ (pos≤ {m = max0 (r -ℤ pos p) * y} {n = x * suc c} a)) (λ v. search quote depth 20) tt

not_passed : (z : ℤ) (k m : ℕ) → 0 < m → pos k ≤ℤ (z *ℤ pos m) → pos (max0 z) ≡ z
not_passed (pos n) k m p h = refl
not_passed (negsuc n) k m p h = clash_ℤ (by< (k ∷ m ∷ []) (negsuc n ∷ []) (gap< (pos< p) ⊞ gap< negative ⊠ 0≤pos m) (λ v. search quote depth 20) tt) h
  where
    negative : negsuc n <ℤ pos 0
    negative = lt_z_yes tt

exit_still : (p : ℕ) (r : ℤ) (n m x y : ℕ) → 0 < m → (pos 0 *ℤ pos n) ≤ℤ ((r +ℤ pos p) *ℤ pos m) → (pos 0 *ℤ pos x) ≤ℤ ((r +ℤ pos p) *ℤ pos y)
exit_still p r n m x y pm h = div≤ (p ∷ n ∷ m ∷ x ∷ y ∷ []) (r ∷ []) (pos< pm) (0≤pos y ⊠ gap≤ h) (λ v. search quote depth 20) tt

exit_in : (c p : ℕ) (r : ℤ) (n m x y : ℕ) → 0 < m → (pos (suc c) *ℤ pos n) ≤ℤ ((r +ℤ pos p) *ℤ pos m) → x ÷ y ≼ max0 (r +ℤ pos p) ÷ suc c → (pos (suc c) *ℤ pos x) ≤ℤ ((r +ℤ pos p) *ℤ pos y)
exit_in c p r n m x y pm h a =
    by≤ (c ∷ p ∷ x ∷ y ∷ max0 (r +ℤ pos p) ∷ []) (r ∷ [])
    (gap≤ (≤ℤ-of-≡ (not_passed (r +ℤ pos p) (suc c * n) m pm h)) ⊠ 0≤pos y ⊞ gap≤ (pos≤ {m = x * suc c} {n = max0 (r +ℤ pos p) * y} a)) (λ v. search quote depth 20) tt

-- what is no later than the earlier of two instants is no later than each
before_both : (n m g c L : ℕ) → 0 < c → n ÷ m ≼ earlier (g ÷ c) (L ÷ 1) → (n ÷ m ≼ g ÷ c) × (n ÷ m ≼ L ÷ 1)
before_both n m g c L pc h =
    let positive : 0 < (earlier (g ÷ c) (L ÷ 1)).m = earlier_elim (g ÷ c) (L ÷ 1) (λ t. 0 < t.m) (λ _. pc) (λ _. omega arith) in
    (≼_trans (n ÷ m) (earlier (g ÷ c) (L ÷ 1)) (g ÷ c) positive h (earlier_left (g ÷ c) (L ÷ 1)), ≼_trans (n ÷ m) (earlier (g ÷ c) (L ÷ 1)) (L ÷ 1) positive h (earlier_right (g ÷ c) (L ÷ 1)))

pub record Ended (c p : ℕ) (r : ℤ) (l : Option ℕ) (x y : ℕ) : Type 0 where
  pub exit : (pos c *ℤ pos x) ≤ℤ ((r +ℤ pos p) *ℤ pos y)
  pub intime : InTime l x y

end_in : (c p : ℕ) (r : ℤ) (l : Option ℕ) (n m x y : ℕ) → 0 < m → (pos c *ℤ pos n) ≤ℤ ((r +ℤ pos p) *ℤ pos m) → ((t : Instant) → Among t (option_to_list (end_of c r p l)) → x ÷ y ≼ t) → Ended c p r l x y
end_in zero p r None n m x y pm h f = record { exit = exit_still p r n m x y pm h; intime = tt }
end_in zero p r (Some L) n m x y pm h f = record { exit = exit_still p r n m x y pm h; intime = omega (arith, f (L ÷ 1) (inl refl)) }
end_in (suc c) p r None n m x y pm h f = record { exit = exit_in c p r n m x y pm h (f (max0 (r +ℤ pos p) ÷ suc c) (inl refl)); intime = tt }
end_in (suc c) p r (Some L) n m x y pm h f =
    let b = before_both x y (max0 (r +ℤ pos p)) (suc c) L (omega arith) (f (earlier (max0 (r +ℤ pos p) ÷ suc c) (L ÷ 1)) (inl refl)) in
    let k = b.1 in
    record { exit = exit_in c p r n m x y pm h b.0; intime = omega arith }

pub between_window : (s : SensedQuestion) (n m x y : ℕ) → 0 < m → Window s n m → Between (window_start s) (window_end s) x y → Window s x y
between_window s n m x y pm w b =
    let e = end_in s.closing_speed s.radius s.distance s.limit n m x y pm (window_till w) b.before in
    window_by (start_in s.closing_speed s.radius s.distance n m x y pm (window_from w) b.after) e.exit e.intime

-- ---- the two ends have a divisor
start_divisor : (c p : ℕ) (r : ℤ) → 0 < (start_of c r p).m
start_divisor zero p r = omega arith
start_divisor (suc c) p r = omega arith

end_divisor : (c p : ℕ) (r : ℤ) (l : Option ℕ) (t : Instant) → Among t (option_to_list (end_of c r p l)) → 0 < t.m
end_divisor zero p r None t a = absurd a
end_divisor zero p r (Some L) t a = among_one (λ x. 0 < x.m) (L ÷ 1) t (omega arith) a
end_divisor (suc c) p r None t a = among_one (λ x. 0 < x.m) (max0 (r +ℤ pos p) ÷ suc c) t (omega arith) a
end_divisor (suc c) p r (Some L) t a = among_one (λ x. 0 < x.m) (earlier (max0 (r +ℤ pos p) ÷ suc c) (L ÷ 1)) t
    (earlier_elim (max0 (r +ℤ pos p) ÷ suc c) (L ÷ 1) (λ x. 0 < x.m) (λ _. omega arith) (λ _. omega arith)) a

pub window_start_divisor : (s : SensedQuestion) → 0 < (window_start s).m
window_start_divisor s = start_divisor s.closing_speed s.radius s.distance

pub window_end_divisor : (s : SensedQuestion) (t : Instant) → Among t (option_to_list (window_end s)) → 0 < t.m
window_end_divisor s = end_divisor s.closing_speed s.radius s.distance s.limit

-- ---- without an end c is 0, and the window starts at 0
pub endless_start_zero : (s : SensedQuestion) → window_end s ≡ None → window_start s ≡ 0 ÷ 1
endless_start_zero s e = go s.closing_speed s.limit (ap option_to_list e)
  where
    go : (c : ℕ) (l : Option ℕ) → option_to_list (end_of c s.distance s.radius l) ≡ [] → start_of c s.distance s.radius ≡ 0 ÷ 1
    go zero l h = refl
    go (suc c) None h = absurd (let z : ◌≡◌ {A = ℕ} 0 1 = cc in omega arith)
    go (suc c) (Some L) h = absurd (let z : ◌≡◌ {A = ℕ} 0 1 = cc in omega arith)

pub endless_start : (s : SensedQuestion) → window_end s ≡ None → (j : ℕ) → window_start s ≼ j ÷ 1
endless_start s e j = subst (λ (t : Instant). t ≼ j ÷ 1) (sym (endless_start_zero s e)) (omega arith)
