-- A test of equality on instructions, field by field, so that a rule about instructions can be computed.
use mathlib.Core.Path.{◌≡◌, refl, ap}
use mathlib.Core.Bool.{Bool, true, false, ◌&&◌}
use Rattle.std.specs.Prelude.{Option, Some, None}
use lib.Dec.{T, eqb, eqb→eq}
use lib.IntN.{ℤ, pos, negsuc}
use mir.Facts.{and_yes}
use Rattle.advisory.specs.declared.Sense.{Sense}
use Rattle.advisory.specs.declared.Sense.TheVariants.{Climb, Descend}
use Rattle.advisory.specs.declared.Target.{Target}
use Rattle.advisory.specs.declared.Target.TheVariants.{Rate, Current}
use Rattle.advisory.specs.declared.Instruction.{Instruction}

abbrev same_sense : Sense → Sense → Bool
same_sense Climb Climb = true
same_sense Climb Descend = false
same_sense Descend Climb = false
same_sense Descend Descend = true

same_sense_lem : (s t : Sense) → T (same_sense s t) → s ≡ t
same_sense_lem Climb Climb h = refl
same_sense_lem Climb Descend h = absurd h
same_sense_lem Descend Climb h = absurd h
same_sense_lem Descend Descend h = refl

abbrev same_number : ℤ → ℤ → Bool
same_number (pos m) (pos n) = eqb m n
same_number (pos m) (negsuc n) = false
same_number (negsuc m) (pos n) = false
same_number (negsuc m) (negsuc n) = eqb m n

same_number_lem : (x y : ℤ) → T (same_number x y) → x ≡ y
same_number_lem (pos m) (pos n) h = ap pos (eqb→eq m n h)
same_number_lem (pos m) (negsuc n) h = absurd h
same_number_lem (negsuc m) (pos n) h = absurd h
same_number_lem (negsuc m) (negsuc n) h = ap negsuc (eqb→eq m n h)

abbrev same_target : Target → Target → Bool
same_target (Rate x) (Rate y) = same_number x y
same_target (Rate x) Current = false
same_target Current (Rate y) = false
same_target Current Current = true

same_target_lem : (s t : Target) → T (same_target s t) → s ≡ t
same_target_lem (Rate x) (Rate y) h = ap Rate (same_number_lem x y h)
same_target_lem (Rate x) Current h = absurd h
same_target_lem Current (Rate y) h = absurd h
same_target_lem Current Current h = refl

abbrev same_instruction : Instruction → Instruction → Bool
same_instruction i j =
    same_sense i.sense j.sense
    && (same_target i.target j.target && (eqb i.strength j.strength && eqb i.delay j.delay))

same_instruction_lem : (i j : Instruction) → T (same_instruction i j) → i ≡ j
same_instruction_lem i j h =
    let fields = and_yes (same_sense i.sense j.sense) _ h in
    let others = and_yes (same_target i.target j.target) _ fields.1 in
    let numbers = and_yes (eqb i.strength j.strength) _ others.1 in
    λ k.
    record {
      sense = same_sense_lem i.sense j.sense fields.0 k;
      target = same_target_lem i.target j.target others.0 k;
      strength = eqb→eq i.strength j.strength numbers.0 k;
      delay = eqb→eq i.delay j.delay numbers.1 k;
    }

abbrev pub same_optional : Option Instruction → Option Instruction → Bool
same_optional None None = true
same_optional None (Some j) = false
same_optional (Some i) None = false
same_optional (Some i) (Some j) = same_instruction i j

pub same_optional_lem : (a b : Option Instruction) → T (same_optional a b) → a ≡ b
same_optional_lem None None h = refl
same_optional_lem None (Some j) h = absurd h
same_optional_lem (Some i) None h = absurd h
same_optional_lem (Some i) (Some j) h = ap {B = Option Instruction} Some (same_instruction_lem i j h)
