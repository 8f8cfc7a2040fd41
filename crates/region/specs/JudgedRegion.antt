-- What the judge's answer record is when it says clear, and Figure 5 with the columns of Table 1.
use Rattle.std.specs.Prelude.{[], ◌∷◌, pos, ◌-ℤ◌, ◌*ℤ◌}
use Rattle.advisory.specs.declared.Instruction.{Instruction}
use Rattle.advisory.specs.Sign.{sensed}
use Rattle.advisory.specs.Catalogue.{rate_of}
use Rattle.question.specs.declared.Encounter.{Encounter}
use Rattle.question.specs.declared.Settings.{Settings}
use Rattle.judge.specs.Answers.{AnswerRecord, answers}
use Rattle.region.specs.Formula.{Formula}
use Rattle.region.specs.Figure5.{D_explᵈ}

-- clear, of a one-sided question: "kind 65 clear, body 1 byte (1 lower side clear, 2 upper, 3 both; one-sided always 1)"
abbrev pub clear_record : AnswerRecord
clear_record = answers 65 (1 ∷ [])

-- D_expl for an encounter and settings, with w, v_lo, a_lo and δ of a line of Table 1; where v_lo is printed as v, it is the ownship's. Speeds are
-- relative to the intruder's. The letters are those of Figure5.antt.
unfoldable pub advisory_region : Encounter → Settings → Instruction → Formula
advisory_region x y line =
    let w = sensed line.sense in
    let v-lo = rate_of line.target x.speed in
    let c = x.closing_speed in
    let p = y.radius in
    let k = y.half_height in
    let a = pos line.strength in
    let e = y.delay_acceleration in
    let d = pos line.delay in
    let r = x.distance in
    let 2wh = pos 2 *ℤ w x.height in
    let u = w (x.speed -ℤ x.intruder_speed) in
    let q = w (v-lo -ℤ x.intruder_speed) in
    D_explᵈ c p k a e d r 2wh u q
