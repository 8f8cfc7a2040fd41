-- An accepted question has the sizes that the paths and the code ask for. Assumes nothing.
use Rattle.std.specs.Prelude.{None, Ok, Some}
use mathlib.Core.Path.{◌≡◌, refl, subst}
use mathlib.Core.Bool.{Bool, true, false, cond, ◌||◌}
use mathlib.Core.List.{[], ◌∷◌}
use mathlib.Core.Logic.{⊎_elim}
use Prim.Native.Nat.{ℕ, ◌≤◌}
use lib.Dec.{T}
use lib.IntN.{ℤ, pos, neg_ℤ, ◌-ℤ◌}
use lib.Signed.{◌≤ℤ◌}
use Rattle.limits.specs.Limits.{max_height, max_closing_speed, max_speed, max_radius, max_half_height, min_strength, max_strength, max_delay_acceleration, max_delay, max_limit, limit_within, no_limit}
use Rattle.integers.specs.Extremes.{max0}
use Rattle.integers.proofs.Quotation.{quote}
use Rattle.integers.proofs.Certificates.{by≤, gap≤, ◌⊞◌, nat≤}
use Rattle.integers.proofs.Laws.{≤ℤ_trans, max0_le, max0_ge}
use Rattle.advisory.specs.declared.Sense.{Sense}
use Rattle.advisory.specs.declared.Sense.TheVariants.{Climb, Descend}
use Rattle.advisory.specs.Sign.{sensed}
use Rattle.path.specs.inner.Sizes.{LimitSize, max_speed_difference, Sizes, UpperSizes}
use Rattle.question.specs.declared.Encounter.{Encounter}
use Rattle.question.specs.declared.Settings.{Settings}
use Rattle.question.specs.declared.Question.{Question}
use Rattle.question.specs.Refusals.{is_number, sense_of, two_sided, refusal}
use Rattle.std.proofs.Math.Facts.{or_yes}
use Rattle.question.proofs.WithinLimits.{Between, between, within_limits, upper_limits}
use Rattle.sensed.specs.Sensed.{limit_of, sensed_question}

-- w × z is as large as z
pub sensed_between : (w : Sense) (B : ℕ) (z : ℤ) → Between (neg_ℤ (pos B)) (pos B) z → Between (neg_ℤ (pos B)) (pos B) (sensed w z)
sensed_between Climb B z h = record {
  from = by≤ (B ∷ []) (z ∷ []) (gap≤ h.from) (λ v. search quote depth 20) tt;
  to = by≤ (B ∷ []) (z ∷ []) (gap≤ h.to) (λ v. search quote depth 20) tt;
}
sensed_between Descend B z h = record {
  from = by≤ (B ∷ []) (z ∷ []) (gap≤ h.to) (λ v. search quote depth 20) tt;
  to = by≤ (B ∷ []) (z ∷ []) (gap≤ h.from) (λ v. search quote depth 20) tt;
}

-- the difference of two speeds
pub speed_between : (x y : ℤ) → Between (neg_ℤ (pos max_speed)) (pos max_speed) x → Between (neg_ℤ (pos max_speed)) (pos max_speed) y → Between (neg_ℤ (pos max_speed_difference)) (pos max_speed_difference) (x -ℤ y)
speed_between x y h k = record {
  from = by≤ [] (x ∷ y ∷ []) (gap≤ h.from ⊞ gap≤ k.to) (λ v. search quote depth 20) tt;
  to = by≤ [] (x ∷ y ∷ []) (gap≤ h.to ⊞ gap≤ k.from) (λ v. search quote depth 20) tt;
}

-- w × (x − z) − w × (y − z) is w × (x − y)
change_size : (w : Sense) (x y z : ℤ) → Between (neg_ℤ (pos max_speed)) (pos max_speed) x → Between (neg_ℤ (pos max_speed)) (pos max_speed) y → (sensed w (x -ℤ z) -ℤ sensed w (y -ℤ z)) ≤ℤ pos max_speed_difference
change_size Climb x y z h k = by≤ [] (x ∷ y ∷ z ∷ []) (gap≤ h.to ⊞ gap≤ k.from) (λ v. search quote depth 20) tt
change_size Descend x y z h k = by≤ [] (x ∷ y ∷ z ∷ []) (gap≤ h.from ⊞ gap≤ k.to) (λ v. search quote depth 20) tt

at_least : (k : ℕ) (z : ℤ) → pos k ≤ℤ z → k ≤ max0 z
at_least k z h = nat≤ {m = k} {n = max0 z} (≤ℤ_trans h (max0_ge z))

limit_size : (l : ℤ) → T (limit_within l || is_number no_limit l) → LimitSize (limit_of l)
limit_size l t = go (is_number no_limit l) refl
  where
    go : (b : Bool) → is_number no_limit l ≡ b → LimitSize (cond b None (Some (max0 l)))
    go true e = tt
    go false e = ⊎_elim
        (λ h. max0_le l max_limit (between (pos 0) (pos max_limit) l h).to)
        (λ h. absurd (subst T e h))
        (or_yes (limit_within l) (is_number no_limit l) t)

module _ (x : Encounter) (y : Settings) (z : Question) (e : refusal x y z ≡ Ok tt) where
  pub accepted_sizes : Sizes (sensed_question x y z)
  unfolding sensed_question
  accepted_sizes =
      let l = within_limits x y z e in
      let w = sense_of z in
      let wh = sensed_between w max_height x.height l.height in
      let u = sensed_between w max_speed_difference (x.speed -ℤ x.intruder_speed) (speed_between x.speed x.intruder_speed l.speed l.intruder) in
      let q = sensed_between w max_speed_difference (z.target -ℤ x.intruder_speed) (speed_between z.target x.intruder_speed l.target l.intruder) in
      record {
        r_lo = l.distance.from;
        r_hi = l.distance.to;
        c_hi = max0_le x.closing_speed max_closing_speed l.closing.to;
        p_hi = max0_le y.radius max_radius l.radius.to;
        k_hi = max0_le y.half_height max_half_height l.half.to;
        wh_lo = wh.from;
        wh_hi = wh.to;
        u_lo = u.from;
        u_hi = u.to;
        q_lo = q.from;
        q_hi = q.to;
        a_lo = at_least min_strength z.strength l.strength.from;
        a_hi = max0_le z.strength max_strength l.strength.to;
        d_hi = max0_le z.delay max_delay l.delay.to;
        e_hi = max0_le y.delay_acceleration max_delay_acceleration l.acceleration.to;
        limit_hi = limit_size z.limit l.limit;
      }

  pub accepted_upper_sizes : two_sided z ≡ true → UpperSizes (sensed_question x y z)
  unfolding sensed_question
  accepted_upper_sizes two =
      let l = within_limits x y z e in
      let w = sense_of z in
      let upper = upper_limits x y z e two in
      let target = upper.0 in
      let strength = upper.1 in
      let q = sensed_between w max_speed_difference (z.upper_target -ℤ x.intruder_speed) (speed_between z.upper_target x.intruder_speed target l.intruder) in
      record {
        b_lo = at_least min_strength z.upper_strength strength.from;
        b_hi = max0_le z.upper_strength max_strength strength.to;
        upper_q_lo = q.from;
        upper_q_hi = q.to;
        change = change_size w z.upper_target x.speed x.intruder_speed target l.speed;
      }
