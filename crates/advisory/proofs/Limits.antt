-- Every instruction keeps document 01's limits on strength, delay and target: one test computed over all codes.
use Rattle.std.specs.Prelude.{Err, Ok, Result}
use mathlib.Core.Path.{◌≡◌, subst}
use mathlib.Core.Bool.{Bool, true, ◌&&◌}
use Prim.Native.Nat.{ℕ, ◌<◌}
use lib.Dec.{T, leb, leb→le}
use lib.IntN.{ℤ, pos, neg_ℤ}
use lib.Signed.{le_z, ◌≤ℤ◌, le_z_yes}
use mir.Facts.{and_yes}
use Rattle.limits.specs.Limits.{max_speed, min_strength, max_strength, max_delay}
use Rattle.advisory.specs.Catalogue.{article_entries, not_judged, catalogue_of, rate_of}
use Rattle.advisory.specs.ReactionTable.{reaction_table}
use Rattle.advisory.specs.Advised.{advised_of}
use Rattle.advisory.specs.inner.Codes.{InLimits}
use Rattle.advisory.specs.declared.Target.{Target}
use Rattle.advisory.specs.declared.Target.TheVariants.{Rate, Current}
use Rattle.advisory.specs.declared.Instruction.{Instruction}
use Rattle.advisory.proofs.EveryBelow.{below}
use Rattle.advisory.specs.declared.CodeError.{CodeError}

abbrev target_above : Target → Bool
target_above (Rate speed) = le_z (neg_ℤ (pos max_speed)) speed
target_above Current = true

target_from : (t : Target) → T (target_above t) → (v : ℤ) → neg_ℤ (pos max_speed) ≤ℤ v → neg_ℤ (pos max_speed) ≤ℤ rate_of t v
target_from (Rate speed) h v low = le_z_yes h
target_from Current h v low = low

abbrev target_below : Target → Bool
target_below (Rate speed) = le_z speed (pos max_speed)
target_below Current = true

target_to : (t : Target) → T (target_below t) → (v : ℤ) → v ≤ℤ pos max_speed → rate_of t v ≤ℤ pos max_speed
target_to (Rate speed) h v high = le_z_yes h
target_to Current h v high = high

abbrev limits : Instruction → Bool
limits i = leb min_strength i.strength && (leb i.strength max_strength && (leb i.delay max_delay && (target_above i.target && target_below i.target)))

limited : (i : Instruction) → T (limits i) → InLimits i
limited i h =
    let from = and_yes (leb min_strength i.strength) _ h in
    let to = and_yes (leb i.strength max_strength) _ from.1 in
    let delay = and_yes (leb i.delay max_delay) _ to.1 in
    let target = and_yes (target_above i.target) _ delay.1 in
    record {
      strength_from = leb→le min_strength i.strength from.0;
      strength_to = leb→le i.strength max_strength to.0;
      delay_to = leb→le i.delay max_delay delay.0;
      target_from = target_from i.target target.0;
      target_to = target_to i.target target.1;
    }

abbrev keeps : Result Instruction CodeError → Bool
keeps (Ok i) = limits i
keeps (Err CodeError.NotJudged) = true
keeps (Err CodeError.Unknown) = true

pub in_limits : (code : ℕ) → code < 256 → (i : Instruction) → advised_of code ≡ Ok i → InLimits i
unfolding advised_of catalogue_of article_entries not_judged reaction_table
in_limits code h i e =
    limited i (subst (λ (a : Result Instruction CodeError). T (keeps a)) e (below (λ (k : ℕ). keeps (advised_of k)) 256 tt code h))
