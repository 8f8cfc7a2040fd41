-- Turning the sense with all heights and speeds negated leaves the answer: the sensed question is the same one, so climb and descend are proved once, and
-- M3 is M1. Assumes nothing.
use Rattle.std.specs.Prelude.{Err, Ok}
use mathlib.Core.Path.{◌≡◌, refl, sym, ap, ap₂, ◌∙◌, subst}
use mathlib.Core.Bool.{Bool, true, false, cond, not, ◌&&◌, ◌||◌}
use mathlib.Core.List.{List, [], ◌∷◌}
use mathlib.Core.Logic.{⊎_elim}
use Prim.Native.Nat.{ℕ}
use lib.Dec.{T}
use lib.Ieee.Fits.{and_i, and_l, and_r}
use lib.IntN.{ℤ, pos, neg_ℤ, ◌-ℤ◌}
use lib.Signed.{le_z}
use Rattle.integers.proofs.Quotation.{quote}
use Rattle.integers.proofs.Certificates.{ring, by≤, gap≤}
use Rattle.integers.proofs.Laws.{≤ℤ_antisym, negℤ_mono}
use Rattle.advisory.specs.declared.Sense.{Sense}
use Rattle.advisory.specs.declared.Sense.TheVariants.{Climb, Descend}
use Rattle.advisory.specs.Sign.{sensed}
use Rattle.path.specs.declared.SensedQuestion.{SensedQuestion}
use Rattle.question.specs.declared.Encounter.{Encounter}
use Rattle.question.specs.declared.Settings.{Settings}
use Rattle.question.specs.declared.Question.{Question}
use Rattle.limits.specs.Limits.{within, distance_within, max_height, height_within, closing_speed_within, max_speed, speed_within, target_within, no_limit}
use Rattle.question.specs.Refusals.{is_number, sense_of, two_sided, targets_ordered, upper_zero, Check, first_refusal, plain_checks, refusal}
use Rattle.sensed.specs.Sensed.{sensed_question}
use Rattle.verdict.specs.Verdicts.{verdict}
use Rattle.judge.specs.Answers.{answer}
use Rattle.question.specs.StartingSettings.{starting_settings}
use Rattle.judge.specs.Examples.{meet, descend}
use Rattle.judge.proofs.ExampleAnswers.{answer_to}
use Rattle.judge.specs.Mirror.{mirrored, turned}
use Rattle.std.proofs.Math.Facts.{or_yes}
use Rattle.question.proofs.WithinLimits.{AllPass, all_pass, between, within_in}
use Rattle.judge.proofs.Demand3.{judged}

-- ---- the senses
abbrev opposite : Sense → Sense
opposite Climb = Descend
opposite Descend = Climb

-- a known sense, and the turned one
pub record Turned (z : Question) : Type 0 where
  pub w : Sense
  pub here : sense_of z ≡ w
  pub there : sense_of (turned z) ≡ opposite w
  pub known : T (is_number (pos 0) (pos 1 -ℤ z.sense) || is_number (pos 1) (pos 1 -ℤ z.sense))

is_number_lem : (n x : ℤ) → T (is_number n x) → x ≡ n
is_number_lem n x t = let b = between n n x t in ≤ℤ_antisym b.to b.from

turned_sense : (z : Question) → T (is_number (pos 0) z.sense || is_number (pos 1) z.sense) → Turned z
turned_sense z t = ⊎_elim
    (λ (h : T (is_number (pos 0) z.sense)). let e = is_number_lem (pos 0) z.sense h in record {
      w = Descend;
      here = ap (λ (x : ℤ). cond (is_number (pos 1) x) Climb Descend) e;
      there = ap (λ (x : ℤ). cond (is_number (pos 1) (pos 1 -ℤ x)) Climb Descend) e;
      known = subst (λ (x : ℤ). T (is_number (pos 0) (pos 1 -ℤ x) || is_number (pos 1) (pos 1 -ℤ x))) (sym e) tt;
    })
    (λ (h : T (is_number (pos 1) z.sense)). let e = is_number_lem (pos 1) z.sense h in record {
      w = Climb;
      here = ap (λ (x : ℤ). cond (is_number (pos 1) x) Climb Descend) e;
      there = ap (λ (x : ℤ). cond (is_number (pos 1) (pos 1 -ℤ x)) Climb Descend) e;
      known = subst (λ (x : ℤ). T (is_number (pos 0) (pos 1 -ℤ x) || is_number (pos 1) (pos 1 -ℤ x))) (sym e) tt;
    })
    (or_yes (is_number (pos 0) z.sense) (is_number (pos 1) z.sense) t)

-- -w × -z is w × z
turned_value : (w : Sense) (x : ℤ) → sensed (opposite w) (neg_ℤ x) ≡ sensed w x
turned_value Climb x = ring [] (x ∷ []) (λ v. search quote depth 20) tt
turned_value Descend x = ring [] (x ∷ []) (λ v. search quote depth 20) tt

turned_difference : (w : Sense) (x y : ℤ) → sensed (opposite w) (neg_ℤ x -ℤ neg_ℤ y) ≡ sensed w (x -ℤ y)
turned_difference Climb x y = ring [] (x ∷ y ∷ []) (λ v. search quote depth 20) tt
turned_difference Descend x y = ring [] (x ∷ y ∷ []) (λ v. search quote depth 20) tt

-- ---- the sensed question is the same
module _ (x : Encounter) (y : Settings) (z : Question) (t : Turned z) where
  same_value : (v : ℤ) → sensed (sense_of (turned z)) (neg_ℤ v) ≡ sensed (sense_of z) v
  same_value v = ap (λ (w : Sense). sensed w (neg_ℤ v)) t.there ∙ turned_value t.w v ∙ ap (λ (w : Sense). sensed w v) (sym t.here)

  same_difference : (v : ℤ) → sensed (sense_of (turned z)) (neg_ℤ v -ℤ neg_ℤ x.intruder_speed) ≡ sensed (sense_of z) (v -ℤ x.intruder_speed)
  same_difference v = ap (λ (w : Sense). sensed w (neg_ℤ v -ℤ neg_ℤ x.intruder_speed)) t.there ∙ turned_difference t.w v x.intruder_speed
      ∙ ap (λ (w : Sense). sensed w (v -ℤ x.intruder_speed)) (sym t.here)

  with_sensed : ℤ → ℤ → ℤ → ℤ → SensedQuestion
  unfolding sensed_question
  with_sensed level speed target upper =
      let s = sensed_question x y z in
      record {
        distance = s.distance;
        closing_speed = s.closing_speed;
        radius = s.radius;
        half_height = s.half_height;
        level = level;
        speed = speed;
        target = target;
        strength = s.strength;
        delay = s.delay;
        delay_acceleration = s.delay_acceleration;
        upper_target = upper;
        upper_strength = s.upper_strength;
        limit = s.limit;
      }

  same_sensed : sensed_question (mirrored x) y (turned z) ≡ sensed_question x y z
  unfolding sensed_question with_sensed
  same_sensed =
      ap₂ (λ (a b : ℤ). with_sensed a b (sensed (sense_of (turned z)) (neg_ℤ z.target -ℤ neg_ℤ x.intruder_speed)) (sensed (sense_of (turned z)) (neg_ℤ z.upper_target -ℤ neg_ℤ x.intruder_speed)))
      (same_value x.height) (same_difference x.speed)
      ∙ ap₂ (λ (a b : ℤ). with_sensed (sensed (sense_of z) x.height) (sensed (sense_of z) (x.speed -ℤ x.intruder_speed)) a b) (same_difference z.target) (same_difference z.upper_target)

-- ---- and it is accepted too
mirror_within : (B : ℕ) (x : ℤ) → T (within (neg_ℤ (pos B)) (pos B) x) → T (within (neg_ℤ (pos B)) (pos B) (neg_ℤ x))
mirror_within B x t =
    let b = between (neg_ℤ (pos B)) (pos B) x t in
    within_in (negℤ_mono b.to) (by≤ (B ∷ []) (x ∷ []) (gap≤ b.from) (λ v. search quote depth 20) tt)

zero_mirror : (x : ℤ) → T (is_number (pos 0) x) → T (is_number (pos 0) (neg_ℤ x))
zero_mirror x t = subst (λ (v : ℤ). T (is_number (pos 0) (neg_ℤ v))) (sym (is_number_lem (pos 0) x t)) tt

or_mapped : (a b b' : Bool) → (T b → T b') → T (a || b) → T (a || b')
or_mapped true b b' f t = tt
or_mapped false b b' f t = f t

accepts : (l : List Check) → AllPass l → first_refusal l ≡ Ok tt
accepts [] a = refl
accepts (c ∷ l) a = go c.passes a.0 (accepts l a.1)
  where
    go : (b : Bool) → T b → first_refusal l ≡ Ok tt → cond b (first_refusal l) (Err c.refusal) ≡ Ok tt
    go true t h = h
    go false t h = absurd t

module _ (x : Encounter) (y : Settings) (z : Question) (accepted : refusal x y z ≡ Ok tt) where
  passed : AllPass (plain_checks x y z)
  unfolding refusal
  passed = all_pass (plain_checks x y z) accepted

  turn : Turned z
  turn = turned_sense z (and_r (is_number (pos 1) z.sides || is_number (pos 2) z.sides) (is_number (pos 0) z.sense || is_number (pos 1) z.sense) passed.1.1.1.0)

  targets_turned : T (target_within (neg_ℤ z.target) && (not (two_sided z) || target_within (neg_ℤ z.upper_target)))
  targets_turned =
      let t = target_within z.target in
      let t' = target_within z.upper_target in
      let passes = passed.1.1.1.1.0 in
      and_i (target_within (neg_ℤ z.target)) (not (two_sided z) || target_within (neg_ℤ z.upper_target))
      (mirror_within max_speed z.target (and_l t (not (two_sided z) || t') passes))
      (or_mapped (not (two_sided z)) t' (target_within (neg_ℤ z.upper_target)) (mirror_within max_speed z.upper_target) (and_r t (not (two_sided z) || t') passes))

  order_turned : T (not (two_sided z) || targets_ordered (turned z))
  order_turned =
      or_mapped (not (two_sided z)) (targets_ordered z) (targets_ordered (turned z))
      (λ t. subst T (sym (ap₂ le_z (same_value x y z turn z.target) (same_value x y z turn z.upper_target))) t)
      passed.1.1.1.1.1.1.0

  zeros_turned : T (two_sided z || upper_zero (turned z))
  zeros_turned =
      let t = is_number (pos 0) z.upper_target in
      let s = is_number (pos 0) z.upper_strength in
      or_mapped (two_sided z) (upper_zero z) (upper_zero (turned z))
      (λ h. and_i (is_number (pos 0) (neg_ℤ z.upper_target)) s (zero_mirror z.upper_target (and_l t s h)) (and_r t s h))
      passed.1.1.1.1.1.1.1.0

  pub mirror_accepted : refusal (mirrored x) y (turned z) ≡ Ok tt
  unfolding refusal
  mirror_accepted =
      let r = distance_within x.distance in
      let h = height_within x.height in
      let h' = height_within (neg_ℤ x.height) in
      let c = closing_speed_within x.closing_speed in
      let v = speed_within x.speed in
      let v' = speed_within (neg_ℤ x.speed) in
      let i = speed_within x.intruder_speed in
      let i' = speed_within (neg_ℤ x.intruder_speed) in
      let t₁ = passed.0 in
      let t₂ = and_l (((r && h) && c) && v) i t₁ in
      let t₃ = and_l ((r && h) && c) v t₂ in
      let t₄ = and_l (r && h) c t₃ in
      let sides = is_number (pos 1) z.sides || is_number (pos 2) z.sides in
      accepts (plain_checks (mirrored x) y (turned z)) (
        and_i (((r && h') && c) && v') i' (and_i ((r && h') && c) v' (and_i (r && h') c (and_i r h' (and_l r h t₄) (mirror_within max_height x.height (and_r r h t₄))) (and_r (r && h) c t₃)) (mirror_within max_speed x.speed (and_r ((r && h) && c) v t₂))) (mirror_within max_speed x.intruder_speed (and_r (((r && h) && c) && v) i t₁)),
        (
          passed.1.0,
          (
            passed.1.1.0,
            (
              and_i sides (is_number (pos 0) (pos 1 -ℤ z.sense) || is_number (pos 1) (pos 1 -ℤ z.sense)) (and_l sides (is_number (pos 0) z.sense || is_number (pos 1) z.sense) passed.1.1.1.0) turn.known,
              (
                targets_turned,
                (passed.1.1.1.1.1.0, (order_turned, (zeros_turned, (passed.1.1.1.1.1.1.1.1.0, tt)))),
              ),
            ),
          ),
        ),
      )

  -- the answer is the same
  pub mirror_answer : answer (mirrored x) y (turned z) ≡ answer x y z
  unfolding verdict
  mirror_answer = judged (mirrored x) y (turned z) mirror_accepted ∙ ap (λ (s : SensedQuestion). Ok (verdict z s)) (same_sensed x y z turn) ∙ sym (judged x y z accepted)

-- ---- M3 is M1 mirrored
abbrev m1 : Encounter
m1 = meet (pos 300000) (pos 32249) (pos 10000) (pos 0)

abbrev climb_1500 : Question
climb_1500 = record { sides = pos 1; sense = pos 1; target = pos 1500; upper_target = pos 0; strength = pos 500; upper_strength = pos 0; delay = pos 0; limit = no_limit }

pub m3_is_m1 : answer_to (meet (pos 300000) (neg_ℤ (pos 32249)) (pos 10000) (pos 0)) starting_settings (descend (neg_ℤ (pos 1500)) no_limit) ≡ answer m1 starting_settings climb_1500
unfolding refusal
m3_is_m1 = mirror_answer m1 starting_settings climb_1500 refl
