-- Questions at the corners of Figures 3 and 5, each at the edge of a case or a bound, with the regions' tests computed. Assumes nothing.
use Rattle.std.specs.Prelude.{None}
use Rattle.std.specs.List.{AllByRecursion}
use mathlib.Core.Path.{◌≡◌, refl, ap, subst}
use mathlib.Core.Bool.{Bool, true, false}
use mathlib.Core.List.{List, [], ◌∷◌, map}
use mathlib.Core.Logic.{◌↔◌}
use lib.Dec.{T}
use lib.ListN.{drop, get_or}
use Prim.Native.Nat.{ℕ}
use lib.IntN.{ℤ, pos, neg_ℤ}
use Rattle.path.specs.declared.SensedQuestion.{SensedQuestion}
use Rattle.region.specs.Formula.{Formula, Says}
use Rattle.region.specs.inner.Holds.{holds}
use Rattle.region.specs.Regions.{L_expl, D_expl}
use Rattle.region.proofs.Decided.{decides}

pub record Example : Type 0 where
  pub question : SensedQuestion
  pub clear : Bool

-- r, c, p, w × h, u, q, d, e, and whether there is no conflict time; k and a are 1
abbrev example : ℤ → ℕ → ℕ → ℤ → ℤ → ℤ → ℕ → ℕ → Bool → Example
example r c p wh u q d e clear = record {
  question = record {
    distance = r;
    closing_speed = c;
    radius = p;
    half_height = 1;
    level = wh;
    speed = u;
    target = q;
    strength = 1;
    delay = d;
    delay_acceleration = e;
    upper_target = pos 0;
    upper_strength = 0;
    limit = None;
  };
  clear = clear;
}

-- a region is said to hold of each exactly if there is none
pub record Agrees (region : SensedQuestion → Formula) (l : List Example) : Type 0 where
  pub each : AllByRecursion (λ (x : Example). T x.clear ↔ Says (region x.question)) l

-- the test computes it, and decides the formula
computed : {region : SensedQuestion → Formula} {l : List Example} → map (λ (x : Example). holds (region x.question)) l ≡ map (λ (x : Example). x.clear) l → Agrees region l
computed {region} {l} tests = record { each = go l tests }
  where
    go : (l : List Example) → map (λ (x : Example). holds (region x.question)) l ≡ map (λ (x : Example). x.clear) l → AllByRecursion (λ (x : Example). T x.clear ↔ Says (region x.question)) l
    go [] e = tt
    go (x ∷ l) e = (subst (λ (b : Bool). T b ↔ Says (region x.question)) (ap (λ (tests : List Bool). get_or tests 0 true) e) (decides (region x.question)), go l (ap (λ (tests : List Bool). drop 1 tests) e))

-- case 1: the window is 0 alone, and the intruder level with the ownship, then on the puck's edge
pub case_1 : Agrees L_expl (example (pos 0) 1 0 (pos 0) (neg_ℤ (pos 1)) (pos 0) 0 0 false ∷ example (pos 0) 1 0 (neg_ℤ (pos 1)) (neg_ℤ (pos 1)) (pos 0) 0 0 false ∷ [])
unfolding L_expl
case_1 = computed refl

-- case 2: a rising path that is lowest at 0; a level one on the puck's edge for ever; and one beyond it for ever, with r both at -p and at p
pub case_2 : Agrees L_expl (example (pos 0) 1 0 (pos 0) (pos 1) (pos 0) 0 0 false ∷ example (pos 0) 0 0 (neg_ℤ (pos 1)) (pos 0) (pos 0) 0 0 false ∷ example (pos 0) 0 0 (neg_ℤ (pos 2)) (pos 0) (pos 0) 0 0 true ∷ [])
unfolding L_expl
case_2 = computed refl

-- case 3: the window starts as the arc ends; it starts on the arc, and would be clear at its exit
pub case_3 : Agrees L_expl (example (pos 1) 1 0 (pos 0) (pos 0) (pos 1) 0 0 false ∷ example (pos 2) 1 1 (pos 0) (pos 0) (pos 1) 0 0 false ∷ [])
unfolding L_expl
case_3 = computed refl

-- case 4: never in the window
pub case_4 : Agrees L_expl (example (pos 1) 0 0 (pos 0) (pos 0) (pos 0) 0 0 true ∷ [])
unfolding L_expl
case_4 = computed refl

-- case 5: the window ends on the arc
pub case_5 : Agrees L_expl (example (pos 0) 2 1 (pos 0) (neg_ℤ (pos 2)) (neg_ℤ (pos 1)) 0 0 false ∷ [])
unfolding L_expl
case_5 = computed refl

-- case 6: in the window for ever, and sinking; never in the window
pub case_6 : Agrees L_expl (example (pos 0) 0 0 (pos 0) (pos 0) (neg_ℤ (pos 1)) 0 0 false ∷ example (pos 1) 0 0 (pos 0) (pos 0) (neg_ℤ (pos 1)) 0 0 true ∷ [])
unfolding L_expl
case_6 = computed refl

-- case 7: the intruder level with the ownship at 0, then on the puck's edge, and well below it later
pub case_7 : Agrees D_expl (example (pos 0) 0 0 (pos 0) (pos 1) (pos 0) 2 0 false ∷ example (pos 0) 0 0 (neg_ℤ (pos 1)) (pos 1) (pos 0) 1 0 false ∷ [])
unfolding D_expl
case_7 = computed refl

-- case 8: a path that rises in the delay, from the window's start on; then one that curves down
pub case_8 : Agrees D_expl (example (pos 2) 1 1 (pos 0) (pos 1) (pos 0) 2 0 false ∷ example (pos 2) 2 1 (pos 0) (pos 2) (pos 0) 1 1 false ∷ [])
unfolding D_expl
case_8 = computed refl

-- case 9: the window ends in the delay, on a path that falls, then on one that rises
pub case_9 : Agrees D_expl (example (pos 0) 1 1 (neg_ℤ (pos 2)) (neg_ℤ (pos 1)) (pos 0) 2 0 false ∷ example (pos 0) 1 1 (neg_ℤ (pos 2)) (pos 1) (pos 0) 2 0 true ∷ [])
unfolding D_expl
case_9 = computed refl

-- after the delay: the path goes on down at the speed that it has then; it has risen by all of u × d
pub after_delay : Agrees D_expl (example (pos 0) 0 0 (neg_ℤ (pos 2)) (pos 0) (pos 0) 1 1 false ∷ example (pos 2) 1 0 (pos 0) (pos 1) (pos 0) 2 0 true ∷ [])
unfolding D_expl
after_delay = computed refl
