-- Members of two lists joined, and of a list of one. Assumes nothing.
use mathlib.Core.Path.{sym, subst}
use mathlib.Core.List.{List, [], ◌∷◌, ◌++◌}
use mathlib.Core.Logic.{◌⊎◌, inl, inr, ⊎_elim}
use Rattle.path.specs.Instants.{Among}

pub among_left : {A : Type 0} (x : A) (l k : List A) → Among x l → Among x (l ++ k)
among_left x [] k i = absurd i
among_left x (y ∷ l) k (inl e) = inl e
among_left x (y ∷ l) k (inr i) = inr (among_left x l k i)

pub among_right : {A : Type 0} (x : A) (l k : List A) → Among x k → Among x (l ++ k)
among_right x [] k i = i
among_right x (y ∷ l) k i = inr (among_right x l k i)

pub among_either : {A : Type 0} (x : A) (l k : List A) → Among x (l ++ k) → Among x l ⊎ Among x k
among_either x [] k i = inr i
among_either x (y ∷ l) k (inl e) = inl (inl e)
among_either x (y ∷ l) k (inr i) = ⊎_elim (λ j. inl (inr j)) (λ j. inr j) (among_either x l k i)

-- what holds of x holds of each of the list of x alone
pub among_one : {A : Type 0} (P : A → Type 0) (x t : A) → P x → Among t (x ∷ []) → P t
among_one P x t h (inl e) = subst P (sym e) h
among_one P x t h (inr i) = absurd i
