-- An accepted question is within document 01's limits, field by field: the tie from the ordered refusals to every bound. Assumes nothing.
use Rattle.std.specs.Prelude.{Err, Ok}
use mathlib.Core.Path.{◌≡◌, refl, sym, subst}
use mathlib.Core.Bool.{Bool, true, false, not, cond, ◌&&◌, ◌||◌}
use mathlib.Core.List.{List, [], ◌∷◌}
use mathlib.Core.Logic.{⊎_elim}
use Prim.Native.Nat.{ℕ}
use native.Mathlib.Omega.{arith}
use lib.Dec.{T}
use Rattle.std.proofs.Math.Facts.{or_yes}
use lib.Ieee.Fits.{and_i, and_l, and_r}
use lib.IntN.{ℤ, pos, neg_ℤ}
use lib.Signed.{◌≤ℤ◌, le_z, le_z_yes}
use Rattle.limits.specs.Limits.{within, max_distance, distance_within, max_height, height_within, max_closing_speed, closing_speed_within, max_speed, speed_within, max_radius, radius_within, min_half_height, max_half_height, half_height_within, min_strength, max_strength, strength_within, target_within, max_delay_acceleration, max_delay, delay_within, max_limit, limit_within, no_limit}
use Rattle.integers.proofs.Quotation.{quote}
use Rattle.integers.proofs.Certificates.{by≤, gap≤}
use Rattle.integers.proofs.Laws.{≤ℤ_trans}
use Rattle.question.specs.declared.Encounter.{Encounter}
use Rattle.question.specs.declared.Settings.{Settings}
use Rattle.question.specs.declared.Question.{Question}
use Rattle.question.specs.Refusals.{is_number, two_sided, sides_known, targets_within, strengths_ordered, strengths_within, upper_target_in_sense, upper_zero, upper_unused, limit_allowed, Check, first_refusal, plain_checks, refusal}

-- ---- accepted: every test is passed
abbrev pub AllPass : List Check → Type 0
AllPass [] = Unit {0}
AllPass (c ∷ l) = T c.passes × AllPass l

pub all_pass : (l : List Check) → first_refusal l ≡ Ok tt → AllPass l
all_pass [] e = tt
all_pass (c ∷ l) e = go c.passes (all_pass l) e
  where
    go : (b : Bool) → (first_refusal l ≡ Ok tt → AllPass l) → cond b (first_refusal l) (Err c.refusal) ≡ Ok tt → T b × AllPass l
    go true f h = (tt, f h)
    go false f h = absurd (let z : ◌≡◌ {A = ℕ} 0 1 = cc in omega arith)

-- ---- a number within limits
pub record Between (lo hi x : ℤ) : Type 0 where
  pub from : lo ≤ℤ x
  pub to : x ≤ℤ hi

pub between : (lo hi x : ℤ) → T (within lo hi x) → Between lo hi x
between lo hi x t = record { from = le_z_yes (and_l (le_z lo x) (le_z x hi) t); to = le_z_yes (and_r (le_z lo x) (le_z x hi) t) }

pub within_in : {lo hi x : ℤ} → lo ≤ℤ x → x ≤ℤ hi → T (within lo hi x)
within_in {lo} {hi} {x} h k = and_i (le_z lo x) (le_z x hi) h.le k.le

-- a test that is asked only where a holds
pub asked_where : (a b : Bool) → T (not a || b) → a ≡ true → T b
asked_where true b t e = t
asked_where false b t e = absurd (subst T (sym e) tt)

-- ---- the fields of an accepted question, each within its limits
pub record WithinLimits (x : Encounter) (y : Settings) (z : Question) : Type 0 where
  pub distance : Between (neg_ℤ (pos max_distance)) (pos max_distance) x.distance
  pub height : Between (neg_ℤ (pos max_height)) (pos max_height) x.height
  pub closing : Between (pos 0) (pos max_closing_speed) x.closing_speed
  pub speed : Between (neg_ℤ (pos max_speed)) (pos max_speed) x.speed
  pub intruder : Between (neg_ℤ (pos max_speed)) (pos max_speed) x.intruder_speed
  pub radius : Between (pos 0) (pos max_radius) y.radius
  pub half : Between (pos min_half_height) (pos max_half_height) y.half_height
  pub acceleration : Between (pos 0) (pos max_delay_acceleration) y.delay_acceleration
  pub known : T (sides_known z)
  pub target : Between (neg_ℤ (pos max_speed)) (pos max_speed) z.target
  pub strength : Between (pos min_strength) (pos max_strength) z.strength
  pub targets : T (targets_within z)
  pub strengths : T (strengths_within z)
  pub in_sense : T (upper_target_in_sense z)
  pub unused : T (upper_unused z)
  pub delay : Between (pos 0) (pos max_delay) z.delay
  pub limit : T (limit_allowed z)

module _ (x : Encounter) (y : Settings) (z : Question) (e : refusal x y z ≡ Ok tt) where
  passed : AllPass (plain_checks x y z)
  unfolding refusal
  passed = all_pass (plain_checks x y z) e

  pub within_limits : WithinLimits x y z
  within_limits =
      let r = distance_within x.distance in
      let h = height_within x.height in
      let c = closing_speed_within x.closing_speed in
      let v = speed_within x.speed in
      let i = speed_within x.intruder_speed in
      let t₁ = passed.0 in
      let t₂ = and_l (((r && h) && c) && v) i t₁ in
      let t₃ = and_l ((r && h) && c) v t₂ in
      let t₄ = and_l (r && h) c t₃ in
      let t₅ = passed.1.1.1.1.0 in
      let t₁₄ = passed.1.1.1.1.1.0 in
      let t₆ = passed.1.1.1.1.1.1.1.1.0 in
      let limits = limit_allowed z in
      record {
        distance = between (neg_ℤ (pos max_distance)) (pos max_distance) x.distance (and_l r h t₄);
        height = between (neg_ℤ (pos max_height)) (pos max_height) x.height (and_r r h t₄);
        closing = between (pos 0) (pos max_closing_speed) x.closing_speed (and_r (r && h) c t₃);
        speed = between (neg_ℤ (pos max_speed)) (pos max_speed) x.speed (and_r ((r && h) && c) v t₂);
        intruder = between (neg_ℤ (pos max_speed)) (pos max_speed) x.intruder_speed (and_r (((r && h) && c) && v) i t₁);
        radius = between (pos 0) (pos max_radius) y.radius (and_l (radius_within y.radius) (half_height_within y.half_height) passed.1.0);
        half = between (pos min_half_height) (pos max_half_height) y.half_height (and_r (radius_within y.radius) (half_height_within y.half_height) passed.1.0);
        acceleration = between (pos 0) (pos max_delay_acceleration) y.delay_acceleration passed.1.1.0;
        known = passed.1.1.1.0;
        target = between (neg_ℤ (pos max_speed)) (pos max_speed) z.target (and_l (target_within z.target) (not (two_sided z) || target_within z.upper_target) t₅);
        strength = between (pos min_strength) (pos max_strength) z.strength (and_l (strength_within z.strength) (not (two_sided z) || (strength_within z.upper_strength && strengths_ordered z)) t₁₄);
        targets = t₅;
        strengths = t₁₄;
        in_sense = passed.1.1.1.1.1.1.0;
        unused = passed.1.1.1.1.1.1.1.0;
        delay = between (pos 0) (pos max_delay) z.delay (and_l (delay_within z.delay) limits t₆);
        limit = and_r (delay_within z.delay) limits t₆;
      }

  -- the limit field, within its limits or 65,535
  pub limit_between : Between (pos 0) no_limit z.limit
  limit_between = ⊎_elim
      (λ h. let b = between (pos 0) (pos max_limit) z.limit h in record { from = b.from; to = ≤ℤ_trans b.to (le_z_yes tt) })
      (λ h. let b = between no_limit no_limit z.limit h in record { from = ≤ℤ_trans (le_z_yes tt) b.from; to = b.to })
      (or_yes (limit_within z.limit) (is_number no_limit z.limit) within_limits.limit)

  -- two-sided, the upper fields are within their limits too
  pub upper_limits : two_sided z ≡ true → Between (neg_ℤ (pos max_speed)) (pos max_speed) z.upper_target × Between (pos min_strength) (pos max_strength) z.upper_strength
  upper_limits two =
      let l = within_limits in
      let target = target_within z.upper_target in
      let strength = strength_within z.upper_strength in (
        between (neg_ℤ (pos max_speed)) (pos max_speed) z.upper_target (asked_where (two_sided z) target (and_r (target_within z.target) (not (two_sided z) || target) l.targets) two),
        between (pos min_strength) (pos max_strength) z.upper_strength (
            and_l strength (strengths_ordered z) (asked_where (two_sided z) (strength && strengths_ordered z) (and_r (strength_within z.strength) (not (two_sided z) || (strength && strengths_ordered z)) l.strengths) two)),
      )

  -- the upper fields, within their limits or 0
  pub upper_between : Between (neg_ℤ (pos max_speed)) (pos max_speed) z.upper_target × Between (pos 0) (pos max_strength) z.upper_strength
  upper_between = go (two_sided z) refl within_limits.unused
    where
      widen : (v : ℤ) (B : ℕ) → Between (pos 0) (pos 0) v → Between (neg_ℤ (pos B)) (pos B) v
      widen v B h = record { from = by≤ (B ∷ []) (v ∷ []) (gap≤ h.from) (λ v. search quote depth 20) tt; to = by≤ (B ∷ []) (v ∷ []) (gap≤ h.to) (λ v. search quote depth 20) tt }

      go : (b : Bool) → two_sided z ≡ b → T (b || upper_zero z) → Between (neg_ℤ (pos max_speed)) (pos max_speed) z.upper_target × Between (pos 0) (pos max_strength) z.upper_strength
      go true two t = let u = upper_limits two in (u.0, record { from = ≤ℤ_trans (le_z_yes tt) u.1.from; to = u.1.to })
      go false one t =
          let b = between (pos 0) (pos 0) z.upper_strength (and_r (is_number (pos 0) z.upper_target) (is_number (pos 0) z.upper_strength) t) in
          (widen z.upper_target max_speed (between (pos 0) (pos 0) z.upper_target (and_l (is_number (pos 0) z.upper_target) (is_number (pos 0) z.upper_strength) t)), record { from = b.from; to = (widen z.upper_strength max_strength b).to })
