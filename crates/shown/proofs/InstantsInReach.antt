-- The instants that the rule tries, and the second that it searches for, are small: the comparisons at them fit 64 bits, and so do a time's three numbers
-- 32. Assumes nothing.
use Rattle.std.specs.Prelude.{Option, Some}
use Rattle.std.specs.Option.{option_to_list}
use mathlib.Core.Path.{◌≡◌, refl, sym, subst}
use mathlib.Core.List.{[], ◌∷◌}
use mathlib.Core.Logic.{inl, inr, ⊎_elim}
use Prim.Native.Nat.{◌+◌, ◌*◌, ◌<◌, ◌≤◌}
use native.Mathlib.Nat.{mul-le-mul}
use native.Mathlib.Omega.{arith}
use lib.IntN.{ℤ, pos, negsuc, neg_ℤ}
use Rattle.limits.specs.Limits.{max_delay}
use Rattle.integers.specs.Extremes.{max0}
use Rattle.integers.proofs.Quotation.{quote}
use Rattle.integers.proofs.Certificates.{by≤, gap≤, ◌⊞◌, ◌⊠◌, 0≤pos, pos≤}
use Rattle.integers.proofs.Laws.{split≤, max0_le}
use Rattle.instant.specs.declared.Instant.{Instant}
use Rattle.instant.specs.Order.{◌÷◌}
use Rattle.instant.specs.inner.Sizes.{SizedInstant}
use Rattle.path.specs.declared.SensedQuestion.{SensedQuestion}
use Rattle.path.specs.declared.Side.{Side}
use Rattle.path.specs.declared.Side.TheVariants.{Lower, Upper}
use Rattle.path.specs.Paths.{u_d}
use Rattle.path.specs.Window.{window_end}
use Rattle.path.specs.Instants.{Among, turning_instant, path_instants, instants}
use Rattle.path.specs.inner.Sizes.{max_speed_after_delay, Sizes, Sized, farthest, InReach, Compared, search_end}
use Rattle.path.proofs.Membership.{among_one, among_either}
use Rattle.path.proofs.WindowEnds.{endless_start}
use Rattle.path.proofs.Reach.{side_reach, compared_in_upper}
use Rattle.path.proofs.SideSizes.{sizes_of}
use Rattle.path.proofs.SideProfiles.{Hit, Endless, conflict_instant, reaches_end}
use Rattle.window.proofs.EndsInReach.{Near, second_near, window_start_near, window_end_near}
use Rattle.shown.specs.TimeRule.{Picks}

-- ---- d and the turning instant
module _ (s : SensedQuestion) (z : Sizes s) where
  pub delay_near : Near (s.delay ÷ 1)
  delay_near = second_near s.delay (omega (arith, z.d_hi))

  -- -u_d is e*d - u
  pub back_size : max0 (neg_ℤ (u_d s)) ≤ max_speed_after_delay
  back_size = max0_le (neg_ℤ (u_d s)) max_speed_after_delay
      (by≤ (s.delay_acceleration ∷ s.delay ∷ []) (s.speed ∷ [])
      (gap≤ z.u_lo ⊞ 0≤pos max_delay ⊠ gap≤ (pos≤ z.e_hi) ⊞ 0≤pos s.delay_acceleration ⊠ gap≤ (pos≤ z.d_hi)) (λ v. search quote depth 20) tt)

  pub turning_near : Near (s.delay * s.strength + max0 (neg_ℤ (u_d s)) ÷ s.strength)
  turning_near = record {
    n_hi = omega (arith, back_size, mul-le-mul z.d_hi z.a_hi);
    m_lo = z.a_lo;
    m_hi = omega (arith, z.a_hi);
  }

pub turnings_near : (s : SensedQuestion) → Sizes s → (q : ℤ) (t : Instant) → Among t (option_to_list (turning_instant q s.strength s.delay (u_d s))) → Near t
turnings_near s z (pos q) t i = among_one Near (s.delay * s.strength + max0 (neg_ℤ (u_d s)) ÷ s.strength) t (turning_near s z) i
turnings_near s z (negsuc q) t i = absurd i

pub turning_reach : (s : SensedQuestion) → Sizes s → (t : Instant) → turning_instant s.target s.strength s.delay (u_d s) ≡ Some t → Near t
turning_reach s z t e = turnings_near s z s.target t (subst (λ (m : Option Instant). Among t (option_to_list m)) (sym e) (inl refl))

path_near : (side : Side) (s : SensedQuestion) → Sizes s → (t : Instant) → Among t (path_instants side s) → Near t
path_near Lower s z t (inl e) = subst Near (sym e) (delay_near s z)
path_near Lower s z t (inr i) = turnings_near s z s.target t i
path_near Upper s z t i = absurd i

pub instants_near : (side : Side) (s : SensedQuestion) → Sizes s → (t : Instant) → Among t (instants side s) → Near t
instants_near side s z t (inl e) = subst Near (sym e) (window_start_near s z)
instants_near side s z t (inr i) = ⊎_elim (path_near side s z t) (window_end_near s z t) (among_either t (path_instants side s) (option_to_list (window_end s)) i)

-- ---- the window's end, in the reach of its side
pub end_reach : (side : Side) (s : SensedQuestion) → Sized side s → (t : Instant) → window_end s ≡ Some t → InReach side t.n t.m
end_reach side s z t e = side_reach side (window_end_near s (sizes_of side s z) t (subst (λ (m : Option Instant). Among t (option_to_list m)) (sym e) (inl refl)))

-- ---- the whole second that a search finds
last_small : (side : Side) (s : SensedQuestion) → Sized side s → search_end side s ≤ farthest Upper
last_small Lower s z = omega (arith, z.d_hi)
last_small Upper s z = omega arith

-- ---- a moment that the rule picks: near, or a whole second that a search finds
pub picked_compared : (side : Side) (s : SensedQuestion) → Sized side s → (t : Instant) → Picks side s (Some t) → Compared Lower t.n t.m
picked_compared side s z t (inl e) = inl (instants_near side s (sizes_of side s z) t e.among)
picked_compared side s z t (inr f) = ⊎_elim
    (λ (l : t.n ≤ search_end side s). let m = f.whole in inr (record { n_hi = omega (arith, last_small side s z); m_lo = omega arith; m_hi = omega arith }, m))
    (λ (l : search_end side s < t.n). absurd (⊎_elim
    (λ (h : Hit side s). f.none h.t h.among h.conflict)
    (λ (e : Endless side s). f.first (search_end side s) l (record { window = e.inside (search_end side s) (endless_start s e.endless (search_end side s)); vertical = reaches_end side s z e.approaches }))
    (conflict_instant side s z t.n 1 (omega arith) f.conflict)))
    (split≤ t.n (search_end side s))

pub picked_sized : (side : Side) (s : SensedQuestion) → Sized side s → (t : Instant) → Picks side s (Some t) → SizedInstant t
picked_sized side s z t h =
    let reach = compared_in_upper Lower (picked_compared side s z t h) in
    record { n = omega (arith, reach.n_hi); m = omega (arith, reach.m_hi) }
