-- The fields of an accepted question as `search machine` reads them: each is within its limits, so it fits 64 bits. Assumes nothing.
use Rattle.std.specs.Prelude.{Ok}
use mathlib.Core.Path.{◌≡◌}
use Prim.Native.Nat.{ℕ, ◌^◌}
use lib.Dec.{T, ltb}
use lib.IntN.{ℤ, pos, neg_ℤ, ◌-ℤ◌}
use lib.Signed.{◌≤ℤ◌, le_z_yes}
use mir.Syntax.{w64}
use mir.Val.{to_z, of_z}
use mir.Facts.{to_z-of_z}
use Rattle.limits.specs.Limits.{max_distance, max_height, max_closing_speed, max_speed, max_radius, max_half_height, max_strength, max_delay_acceleration, max_delay, no_limit}
use Rattle.integers.proofs.Machine.{Reading, bounded, bounded_non_negative, fits}
use Rattle.integers.specs.Extremes.{max0}
use Rattle.integers.proofs.Laws.{≤ℤ_trans}
use Rattle.advisory.specs.Sign.{sensed}
use Rattle.path.specs.inner.Sizes.{max_speed_difference}
use Rattle.question.specs.declared.Encounter.{Encounter}
use Rattle.question.specs.declared.Settings.{Settings}
use Rattle.question.specs.declared.Question.{Question}
use Rattle.sensed.specs.declared.Motion.{Motion}
use Rattle.question.specs.Refusals.{sense_of, refusal}
use Rattle.sensed.specs.Sensed.{sensed_motion}
use Rattle.question.proofs.WithinLimits.{Between, within_limits, upper_between, limit_between}
use Rattle.sensed.proofs.AcceptedSizes.{sensed_between, speed_between}

-- a number within limits that a word holds is read back as it was stored
exact : (B : ℕ) (x : ℤ) → T (ltb B (2 ^ 63)) → Between (neg_ℤ (pos B)) (pos B) x → to_z w64 (of_z w64 x) ≡ x
exact B x t h = to_z-of_z (fits (bounded x B h.from h.to) t)

exact_natural : (B : ℕ) (x : ℤ) → T (ltb B (2 ^ 63)) → pos 0 ≤ℤ x → x ≤ℤ pos B → to_z w64 (of_z w64 x) ≡ x
exact_natural B x t h k = to_z-of_z (fits (bounded_non_negative x B h k) t)

-- every field, stored and read back
pub record Exact (x : Encounter) (y : Settings) (z : Question) : Type 0 where
  pub distance : to_z w64 (of_z w64 x.distance) ≡ x.distance
  pub closing : to_z w64 (of_z w64 x.closing_speed) ≡ x.closing_speed
  pub radius : to_z w64 (of_z w64 y.radius) ≡ y.radius
  pub half : to_z w64 (of_z w64 y.half_height) ≡ y.half_height
  pub acceleration : to_z w64 (of_z w64 y.delay_acceleration) ≡ y.delay_acceleration
  pub strength : to_z w64 (of_z w64 z.strength) ≡ z.strength
  pub upper : to_z w64 (of_z w64 z.upper_strength) ≡ z.upper_strength
  pub delay : to_z w64 (of_z w64 z.delay) ≡ z.delay
  pub limit : to_z w64 (of_z w64 z.limit) ≡ z.limit

module _ (x : Encounter) (y : Settings) (z : Question) (e : refusal x y z ≡ Ok tt) where
  abbrev pub read_height : Reading x.height
  read_height = let b = (within_limits x y z e).height in bounded x.height max_height b.from b.to

  abbrev pub read_speed : Reading x.speed
  read_speed = let b = (within_limits x y z e).speed in bounded x.speed max_speed b.from b.to

  abbrev pub read_intruder : Reading x.intruder_speed
  read_intruder = let b = (within_limits x y z e).intruder in bounded x.intruder_speed max_speed b.from b.to

  abbrev pub read_target : Reading z.target
  read_target = let b = (within_limits x y z e).target in bounded z.target max_speed b.from b.to

  abbrev pub read_upper_target : Reading z.upper_target
  read_upper_target = let b = (upper_between x y z e).0 in bounded z.upper_target max_speed b.from b.to

  pub exact_fields : Exact x y z
  exact_fields =
      let l = within_limits x y z e in
      let u = upper_between x y z e in
      let m = limit_between x y z e in
      record {
        distance = exact max_distance x.distance tt l.distance;
        closing = exact_natural max_closing_speed x.closing_speed tt l.closing.from l.closing.to;
        radius = exact_natural max_radius y.radius tt l.radius.from l.radius.to;
        half = exact_natural max_half_height y.half_height tt (≤ℤ_trans (le_z_yes tt) l.half.from) l.half.to;
        acceleration = exact_natural max_delay_acceleration y.delay_acceleration tt l.acceleration.from l.acceleration.to;
        strength = exact_natural max_strength z.strength tt (≤ℤ_trans (le_z_yes tt) l.strength.from) l.strength.to;
        upper = exact_natural max_strength z.upper_strength tt u.1.from u.1.to;
        delay = exact_natural max_delay z.delay tt l.delay.from l.delay.to;
        limit = exact_natural (max0 no_limit) z.limit tt m.from m.to;
      }

-- ---- the sensed heights and speeds, stored and read back
pub record ExactMotion (m : Motion) : Type 0 where
  pub level : to_z w64 (of_z w64 m.level) ≡ m.level
  pub speed : to_z w64 (of_z w64 m.speed) ≡ m.speed
  pub target : to_z w64 (of_z w64 m.target) ≡ m.target
  pub upper : to_z w64 (of_z w64 m.upper_target) ≡ m.upper_target

pub exact_motion : (x : Encounter) (y : Settings) (z : Question) → refusal x y z ≡ Ok tt → ExactMotion (sensed_motion x z)
exact_motion x y z e =
    let l = within_limits x y z e in
    let w = sense_of z in
    let between : (v : ℤ) → Between (neg_ℤ (pos max_speed)) (pos max_speed) v → Between (neg_ℤ (pos max_speed_difference)) (pos max_speed_difference) (sensed w (v -ℤ x.intruder_speed)) =
    λ v h. sensed_between w max_speed_difference (v -ℤ x.intruder_speed) (speed_between v x.intruder_speed h l.intruder) in
    record {
      level = exact max_height (sensed w x.height) tt (sensed_between w max_height x.height l.height);
      speed = exact max_speed_difference (sensed w (x.speed -ℤ x.intruder_speed)) tt (between x.speed l.speed);
      target = exact max_speed_difference (sensed w (z.target -ℤ x.intruder_speed)) tt (between z.target l.target);
      upper = exact max_speed_difference (sensed w (z.upper_target -ℤ x.intruder_speed)) tt (between z.upper_target (upper_between x y z e).0);
    }
