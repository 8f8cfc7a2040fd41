-- Of two lists of checks one after the other, the second is asked where the first accepts. Assumes nothing.
use Rattle.std.specs.Prelude.{Err, Ok}
use mathlib.Core.Path.{◌≡◌, refl}
use mathlib.Core.Bool.{Bool, true, false, cond}
use mathlib.Core.List.{List, [], ◌∷◌, ◌++◌}
use Rattle.question.specs.Refusals.{Check, first_refusal}
use Rattle.question.specs.declared.refusal.Refusal.{Refusal}

pub accepted_first : (l r : List Check) → first_refusal l ≡ Ok tt → first_refusal (l ++ r) ≡ first_refusal r
accepted_first [] r e = refl
accepted_first (c ∷ l) r e = go (accepted_first l r) c.passes e
  where
    go : (first_refusal l ≡ Ok tt → first_refusal (l ++ r) ≡ first_refusal r) → (b : Bool) → cond b (first_refusal l) (Err c.refusal) ≡ Ok tt → cond b (first_refusal (l ++ r)) (Err c.refusal) ≡ first_refusal r
    go f true e = f e
    go f false e = cc

pub refused_first : (n : Refusal) (l r : List Check) → first_refusal l ≡ Err n → first_refusal (l ++ r) ≡ Err n
refused_first n [] r e = cc
refused_first n (c ∷ l) r e = go (refused_first n l r) c.passes e
  where
    go : (first_refusal l ≡ Err n → first_refusal (l ++ r) ≡ Err n) → (b : Bool) → cond b (first_refusal l) (Err c.refusal) ≡ Err n → cond b (first_refusal (l ++ r)) (Err c.refusal) ≡ Err n
    go f true e = f e
    go f false e = e
