-- A question's sixteen numbers, and an advice's thirteen, as a call passes them: each fits its word and is stored exactly, so the result is the same. Assumes
-- nothing.
use mathlib.Core.Path.{◌≡◌, ap, ap₂, ◌∙◌}
use lib.IntN.{ℤ}
use mir.Syntax.{w64}
use mir.Val.{SFits, to_z, of_z}
use mir.Facts.{to_z-of_z}
use Rattle.question.specs.declared.Encounter.{Encounter}
use Rattle.question.specs.declared.Settings.{Settings}
use Rattle.question.specs.declared.Question.{Question}
use Rattle.candidate.specs.declared.OneSidedAdvice.{OneSidedAdvice}
use Rattle.binding.specs.PlainNumbers.{plain_encounter, plain_settings, plain_question, plain_advice}

-- a number stored in a word and read back
abbrev stored : ℤ → ℤ
stored n = to_z w64 (of_z w64 n)

-- what is computed of the same three is the same
pub same_result : {Q R : Type 0} (of : Encounter → Settings → Q → R) {out : R} {x x' : Encounter} {y y' : Settings} {z z' : Q} → out ≡ of x y z → x ≡ x' → y ≡ y' → z ≡ z' → out ≡ of x' y' z'
same_result {Q} of {x' = x'} {y} {z = z} o e f g = o ∙ ap (λ (u : Encounter). of u y z) e ∙ ap₂ (λ (v : Settings) (w : Q). of x' v w) f g

-- each struct of stored numbers
module _ {r h c v vi : ℤ} (fr : SFits w64 r) (fh : SFits w64 h) (fc : SFits w64 c) (fv : SFits w64 v) (fvi : SFits w64 vi) where
  stored_encounter : plain_encounter (stored r) (stored h) (stored c) (stored v) (stored vi) ≡ plain_encounter r h c v vi
  stored_encounter = simp (to_z-of_z fr, to_z-of_z fh, to_z-of_z fc, to_z-of_z fv, to_z-of_z fvi)

module _ {p k e : ℤ} (fp : SFits w64 p) (fk : SFits w64 k) (fe : SFits w64 e) where
  stored_settings : plain_settings (stored p) (stored k) (stored e) ≡ plain_settings p k e
  stored_settings = simp (to_z-of_z fp, to_z-of_z fk, to_z-of_z fe)

module _ {sides sense q q' a b d l : ℤ} (fsides : SFits w64 sides) (fsense : SFits w64 sense) (fq : SFits w64 q) (fq' : SFits w64 q') (fa : SFits w64 a) (fb : SFits w64 b) (fd : SFits w64 d) (fl : SFits w64 l) where
  stored_question : plain_question (stored sides) (stored sense) (stored q) (stored q') (stored a) (stored b) (stored d) (stored l) ≡ plain_question sides sense q q' a b d l
  stored_question = simp (to_z-of_z fsides, to_z-of_z fsense, to_z-of_z fq, to_z-of_z fq', to_z-of_z fa, to_z-of_z fb, to_z-of_z fd, to_z-of_z fl)

-- what is computed of stored numbers is what is computed of the numbers
module _ {r h c v vi p k e sides sense q q' a b d l : ℤ}
    (fr : SFits w64 r) (fh : SFits w64 h) (fc : SFits w64 c) (fv : SFits w64 v) (fvi : SFits w64 vi) (fp : SFits w64 p) (fk : SFits w64 k) (fe : SFits w64 e) (fsides : SFits w64 sides) (fsense : SFits w64 sense) (fq : SFits w64 q) (fq' : SFits w64 q') (fa : SFits w64 a) (fb : SFits w64 b) (fd : SFits w64 d) (fl : SFits w64 l) where
  pub stored_result : {R : Type 0} (of : Encounter → Settings → Question → R) {out : R}
      → out ≡ of (plain_encounter (stored r) (stored h) (stored c) (stored v) (stored vi)) (plain_settings (stored p) (stored k) (stored e)) (plain_question (stored sides) (stored sense) (stored q) (stored q') (stored a) (stored b) (stored d) (stored l))
      → out ≡ of (plain_encounter r h c v vi) (plain_settings p k e) (plain_question sides sense q q' a b d l)
  stored_result of o = same_result of o (stored_encounter fr fh fc fv fvi) (stored_settings fp fk fe) (stored_question fsides fsense fq fq' fa fb fd fl)

-- ---- an advice's thirteen numbers
module _ {sense q a d l : ℤ} (fsense : SFits w64 sense) (fq : SFits w64 q) (fa : SFits w64 a) (fd : SFits w64 d) (fl : SFits w64 l) where
  stored_advice : plain_advice (stored sense) (stored q) (stored a) (stored d) (stored l) ≡ plain_advice sense q a d l
  stored_advice = simp (to_z-of_z fsense, to_z-of_z fq, to_z-of_z fa, to_z-of_z fd, to_z-of_z fl)

module _ {r h c v vi p k e sense q a d l : ℤ}
    (fr : SFits w64 r) (fh : SFits w64 h) (fc : SFits w64 c) (fv : SFits w64 v) (fvi : SFits w64 vi) (fp : SFits w64 p) (fk : SFits w64 k) (fe : SFits w64 e) (fsense : SFits w64 sense) (fq : SFits w64 q) (fa : SFits w64 a) (fd : SFits w64 d) (fl : SFits w64 l) where
  pub stored_flight : {R : Type 0} (of : Encounter → Settings → OneSidedAdvice → R) {out : R}
      → out ≡ of (plain_encounter (stored r) (stored h) (stored c) (stored v) (stored vi)) (plain_settings (stored p) (stored k) (stored e)) (plain_advice (stored sense) (stored q) (stored a) (stored d) (stored l))
      → out ≡ of (plain_encounter r h c v vi) (plain_settings p k e) (plain_advice sense q a d l)
  stored_flight of o = same_result of o (stored_encounter fr fh fc fv fvi) (stored_settings fp fk fe) (stored_advice fsense fq fa fd fl)
