-- `sensed::sensed_motion` meets its contract: the differences of speeds within their limits fit, and so do these times w, which is +1 or −1.
use Rattle.std.specs.Prelude.{Ok}
use mathlib.Core.Path.{◌≡◌, sym, ap, subst, ◌∙◌}
use lib.IntN.{ℤ, pos, neg_ℤ, ◌-ℤ◌, ◌*ℤ◌}
use lib.Signed.{le_z_yes}
use mir.Syntax.{w64}
use mir.Val.{to_z, of_z}
use Rattle.integers.proofs.Machine.{Reading, bounded, machine, fits, result}
use Rattle.advisory.specs.declared.Sense.{Sense}
use Rattle.advisory.specs.declared.Sense.TheVariants.{Climb, Descend}
use Rattle.advisory.specs.Sign.{sign}
use Rattle.question.proofs.WithinLimits.{Between}
use Rattle.question.specs.declared.Encounter.{Encounter}
use Rattle.question.specs.declared.Settings.{Settings}
use Rattle.question.specs.declared.Question.{Question}
use Rattle.question.specs.Refusals.{sense_of, refusal}
use Rattle.sensed.specs.declared.Motion.{Motion}
use Rattle.sensed.specs.Sensed.{sensed_motion}
use Rattle.sensed.proofs.PlainFields.{read_height, read_speed, read_intruder, read_target, read_upper_target}
use Rattle.sensed.proofs.sensed_motion.Goals as goal

sign_between : (sense : Sense) → Between (neg_ℤ (pos 1)) (pos 1) (sign sense)
sign_between Climb = record { from = le_z_yes tt; to = le_z_yes tt }
sign_between Descend = record { from = le_z_yes tt; to = le_z_yes tt }

abbrev read_sign : (w : ℤ) (sense : Sense) → w ≡ sign sense → Reading w
read_sign w sense e =
    let b = subst (Between (neg_ℤ (pos 1)) (pos 1)) (sym e) (sign_between sense) in
    bounded w 1 b.from b.to

pub overflow_mul-result : goal.overflow_mul-result
overflow_mul-result c =
    let s = read_sign _ _ c.sign_of-w.ensures in
    let h = read_height c.args.asked.encounter c.args.asked.settings c.args.asked.question c.args.asked.accepted in
    fits (search machine) tt

pub overflow_sub-result : goal.overflow_sub-result
overflow_sub-result c =
    let v = read_speed c.args.asked.encounter c.args.asked.settings c.args.asked.question c.args.asked.accepted in
    let i = read_intruder c.args.asked.encounter c.args.asked.settings c.args.asked.question c.args.asked.accepted in
    fits (search machine) tt

pub overflow_mul-result-2 : goal.overflow_mul-result-2
overflow_mul-result-2 c =
    let s = read_sign _ _ c.sign_of-w.ensures in
    let v = read_speed c.args.asked.encounter c.args.asked.settings c.args.asked.question c.args.asked.accepted in
    let i = read_intruder c.args.asked.encounter c.args.asked.settings c.args.asked.question c.args.asked.accepted in
    fits (search machine) tt

pub overflow_sub-result-2 : goal.overflow_sub-result-2
overflow_sub-result-2 c =
    let v = read_target c.args.asked.encounter c.args.asked.settings c.args.asked.question c.args.asked.accepted in
    let i = read_intruder c.args.asked.encounter c.args.asked.settings c.args.asked.question c.args.asked.accepted in
    fits (search machine) tt

pub overflow_mul-result-3 : goal.overflow_mul-result-3
overflow_mul-result-3 c =
    let s = read_sign _ _ c.sign_of-w.ensures in
    let v = read_target c.args.asked.encounter c.args.asked.settings c.args.asked.question c.args.asked.accepted in
    let i = read_intruder c.args.asked.encounter c.args.asked.settings c.args.asked.question c.args.asked.accepted in
    fits (search machine) tt

pub overflow_sub-result-3 : goal.overflow_sub-result-3
overflow_sub-result-3 c =
    let v = read_upper_target c.args.asked.encounter c.args.asked.settings c.args.asked.question c.args.asked.accepted in
    let i = read_intruder c.args.asked.encounter c.args.asked.settings c.args.asked.question c.args.asked.accepted in
    fits (search machine) tt

pub overflow_mul-result-4 : goal.overflow_mul-result-4
overflow_mul-result-4 c =
    let s = read_sign _ _ c.sign_of-w.ensures in
    let v = read_upper_target c.args.asked.encounter c.args.asked.settings c.args.asked.question c.args.asked.accepted in
    let i = read_intruder c.args.asked.encounter c.args.asked.settings c.args.asked.question c.args.asked.accepted in
    fits (search machine) tt

-- a stored value, and w times a stored difference
abbrev stored : ℤ → ℤ
stored v = to_z w64 (of_z w64 v)

abbrev stored_difference : ℤ → ℤ → ℤ → ℤ
stored_difference w v u = stored (stored w *ℤ stored (stored v -ℤ stored u))

same_motion : {a a' b b' c c' d d' : ℤ} → a ≡ a' → b ≡ b' → c ≡ c' → d ≡ d' → ◌≡◌ {A = Motion} (record { level = a; speed = b; target = c; upper_target = d }) (record { level = a'; speed = b'; target = c'; upper_target = d' })
same_motion e f g h = cc

-- what the code stores, for a w that is the sense's sign
is_motion : (x : Encounter) (y : Settings) (q : Question) → refusal x y q ≡ Ok tt → (w : ℤ) → w ≡ sign (sense_of q)
    → ◌≡◌ {A = Motion}
    (record { level = stored (stored w *ℤ stored x.height); speed = stored_difference w x.speed x.intruder_speed; target = stored_difference w q.target x.intruder_speed; upper_target = stored_difference w q.upper_target x.intruder_speed })
    (sensed_motion x q)
is_motion x y q e w is =
    let s = read_sign w (sense_of q) is in
    let h = read_height x y q e in
    let v = read_speed x y q e in
    let i = read_intruder x y q e in
    let t = read_target x y q e in
    let u = read_upper_target x y q e in
    let sensed : (z : ℤ) → w *ℤ z ≡ sign (sense_of q) *ℤ z = λ z. ap (λ (k : ℤ). k *ℤ z) is in
    same_motion
    (result {t = stored (stored w *ℤ stored x.height)} (search machine) tt ∙ sensed x.height)
    (result {t = stored_difference w x.speed x.intruder_speed} (search machine) tt ∙ sensed (x.speed -ℤ x.intruder_speed))
    (result {t = stored_difference w q.target x.intruder_speed} (search machine) tt ∙ sensed (q.target -ℤ x.intruder_speed))
    (result {t = stored_difference w q.upper_target x.intruder_speed} (search machine) tt ∙ sensed (q.upper_target -ℤ x.intruder_speed))

pub returns : goal.returns
returns c = is_motion c.args.asked.encounter c.args.asked.settings c.args.asked.question c.args.asked.accepted _ (c.sign_of-w.ensures ∙ ap sign c.sense_of.ensures)
