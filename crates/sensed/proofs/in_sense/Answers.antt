-- `sensed::in_sense` meets its contract: each field is stored exactly, and each part is the definition's. The upper strength is not negative, so
-- its cast keeps it.
use Rattle.std.specs.Prelude.{Ok, Option}
use mathlib.Core.Path.{◌≡◌, refl, sym, ap, ◌∙◌, subst}
use Prim.Native.Nat.{ℕ}
use lib.IntN.{ℤ, pos, nat_abs}
use lib.Signed.{◌≤ℤ◌, pos-nat_abs, yes_non_neg}
use mir.Syntax.{w64}
use mir.Val.{SFits}
use mir.Facts.{to_z-of_z, Fits-nat_abs}
use borrow.Author.Rules.{rules}
use Rattle.integers.specs.Extremes.{max0}
use Rattle.integers.proofs.Certificates.{nat≡}
use Rattle.integers.proofs.Laws.{max0_same}
use Rattle.path.specs.declared.SensedQuestion.{SensedQuestion}
use Rattle.question.specs.declared.Encounter.{Encounter}
use Rattle.question.specs.declared.Settings.{Settings}
use Rattle.question.specs.declared.Question.{Question}
use Rattle.question.specs.Refusals.{refusal}
use Rattle.sensed.specs.declared.Motion.{Motion}
use Rattle.sensed.specs.Sensed.{limit_of, sensed_motion, sensed_question}
use Rattle.question.proofs.WithinLimits.{upper_between}
use Rattle.sensed.proofs.PlainFields.{exact_fields, ExactMotion, exact_motion}
use Rattle.sensed.proofs.in_sense.Goals as goal

upper_natural : (x : Encounter) (y : Settings) (z : Question) → refusal x y z ≡ Ok tt → pos 0 ≤ℤ z.upper_strength
upper_natural x y z e = (upper_between x y z e).1.from

pub overflow_cast-result : goal.overflow_cast-result
overflow_cast-result c =
    let f : SFits w64 c.args.asked.question.upper_strength = search rules in
    rw (to_z-of_z f) (yes_non_neg (upper_natural c.args.asked.encounter c.args.asked.settings c.args.asked.question c.args.asked.accepted), Fits-nat_abs tt f)

same_question : {r r' level level' u u' q q' upper upper' : ℤ} {c c' p p' k k' a a' d d' e e' b b' : ℕ} {l l' : (Option ℕ)} → r ≡ r' → c ≡ c' → p ≡ p' → k ≡ k' → level ≡ level' → u ≡ u' → q ≡ q' → a ≡ a' → d ≡ d' → e ≡ e' → upper ≡ upper' → b ≡ b' → l ≡ l'
    → ◌≡◌ {A = SensedQuestion}
    (record { distance = r; closing_speed = c; radius = p; half_height = k; level = level; speed = u; target = q; strength = a; delay = d; delay_acceleration = e; upper_target = upper; upper_strength = b; limit = l })
    (record { distance = r'; closing_speed = c'; radius = p'; half_height = k'; level = level'; speed = u'; target = q'; strength = a'; delay = d'; delay_acceleration = e'; upper_target = upper'; upper_strength = b'; limit = l' })
same_question e₁ e₂ e₃ e₄ e₅ e₆ e₇ e₈ e₉ e₁₀ e₁₁ e₁₂ e₁₃ = rw (e₁, e₂, e₃, e₄, e₅, e₆, e₇, e₈, e₉, e₁₀, e₁₁, e₁₂, e₁₃) refl

pub returns : goal.returns
unfolding sensed_question
returns c =
    let x = c.args.asked.encounter in
    let y = c.args.asked.settings in
    let z = c.args.asked.question in
    let natural = upper_natural x y z c.args.asked.accepted in
    let f = exact_fields x y z c.args.asked.accepted in
    let e : c.sensed_motion-motion.result ≡ sensed_motion x z = c.sensed_motion-motion.ensures in
    let g = subst ExactMotion (sym e) (exact_motion x y z c.args.asked.accepted) in
    same_question
    f.distance
    (c.positive_part.ensures ∙ ap max0 f.closing)
    (c.positive_part-2.ensures ∙ ap max0 f.radius)
    (c.positive_part-3.ensures ∙ ap max0 f.half)
    (g.level ∙ ap (λ (n : Motion). n.level) e)
    (g.speed ∙ ap (λ (n : Motion). n.speed) e)
    (g.target ∙ ap (λ (n : Motion). n.target) e)
    (c.positive_part-4.ensures ∙ ap max0 f.strength)
    (c.positive_part-5.ensures ∙ ap max0 f.delay)
    (c.positive_part-6.ensures ∙ ap max0 f.acceleration)
    (g.upper ∙ ap (λ (n : Motion). n.upper_target) e)
    (ap nat_abs f.upper ∙ nat≡ (pos-nat_abs z.upper_strength (yes_non_neg natural) ∙ sym (max0_same z.upper_strength natural)))
    (c.limit_of.ensures ∙ ap limit_of f.limit)
