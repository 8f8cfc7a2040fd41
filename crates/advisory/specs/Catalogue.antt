-- The catalogue of document 01: "The catalogue gives the sense and target of each code."
use Rattle.std.specs.Prelude.{◌≡◌, Bool, false, cond, ◌||◌, List, [], ◌∷◌, map, ℕ, ◌%◌, ◌≤◌, eqb, ℤ, pos, neg_ℤ, Err, Ok, Result}
use Prim.Native.String.{String}
use Rattle.advisory.specs.declared.Sense.{Sense}
use Rattle.advisory.specs.declared.Sense.TheVariants.{Climb, Descend}
use Rattle.advisory.specs.declared.Target.{Target}
use Rattle.advisory.specs.declared.Target.TheVariants.{Rate, Current}
use Rattle.advisory.specs.declared.Advice.{Advice}
use Rattle.advisory.specs.declared.CodeError.{CodeError}

-- A target upwards, level or downwards. "1 ft/min is 1 grain per second."
abbrev pub up : ℕ → Target
up speed = Rate (pos speed)

abbrev pub level : Target
level = Rate (pos 0)

abbrev pub down : ℕ → Target
down speed = Rate (neg_ℤ (pos speed))

-- The target as a number, v being the ownship's vertical speed: "9 MDES v; 10 MCL v".
abbrev pub rate_of : Target → ℤ → ℤ
rate_of (Rate speed) v = speed
rate_of Current v = v

-- A code with its name and target, as document 01 lists them.
pub record Entry : Type 0 where
  pub code : ℕ
  pub name : String
  pub target : Target

abbrev pub entry : ℕ → String → Target → Entry
entry code name target = record { code = code; name = name; target = target }

-- "1 DNC2000 2,000; 2 DND2000 −2,000; .. 16 SCL2500 2,500."
unfoldable pub article_entries : List Entry
article_entries =
    entry 1 "DNC2000" (up 2000)
    ∷ entry 2 "DND2000" (down 2000)
    ∷ entry 3 "DNC1000" (up 1000)
    ∷ entry 4 "DND1000" (down 1000)
    ∷ entry 5 "DNC500" (up 500)
    ∷ entry 6 "DND500" (down 500)
    ∷ entry 7 "DNC" level
    ∷ entry 8 "DND" level
    ∷ entry 9 "MDES" Current
    ∷ entry 10 "MCL" Current
    ∷ entry 11 "DES1500" (down 1500)
    ∷ entry 12 "CL1500" (up 1500)
    ∷ entry 13 "SDES1500" (down 1500)
    ∷ entry 14 "SCL1500" (up 1500)
    ∷ entry 15 "SDES2500" (down 2500)
    ∷ entry 16 "SCL2500" (up 2500)
    ∷ []

-- A code that has a name and nothing else.
pub record Named : Type 0 where
  pub code : ℕ
  pub name : String

abbrev pub named : ℕ → String → Named
named code name = record { code = code; name = name }

-- "Codes 17 (COC) and 18 (MTLO) are named but not judged."
unfoldable pub not_judged : List Named
not_judged = named 17 "COC" ∷ named 18 "MTLO" ∷ []

-- "Odd codes descend, even codes climb."
abbrev pub sense_of_code : ℕ → Sense
sense_of_code code = cond (eqb (code % 2) 0) Climb Descend

-- The target of the first entry with this code; without one the current speed stands in, and no answer uses it.
abbrev pub target_in : List Entry → ℕ → Target
target_in [] code = Current
target_in (e ∷ entries) code = cond (eqb code e.code) e.target (target_in entries code)

-- The target that the catalogue gives a code.
abbrev pub target_of : ℕ → Target
target_of code = target_in article_entries code

-- Whether a code is one of these.
abbrev pub among : ℕ → List ℕ → Bool
among code [] = false
among code (k ∷ codes) = eqb code k || among code codes

-- The codes with a sense and a target, and those with a name only.
abbrev pub article_codes : List ℕ
article_codes = map (λ (e : Entry). e.code) article_entries

abbrev pub not_judged_codes : List ℕ
not_judged_codes = map (λ (n : Named). n.code) not_judged

-- What the catalogue says of a code: its sense and target, named but not judged, or unknown.
unfoldable pub catalogue_of : ℕ → Result Advice CodeError
catalogue_of code =
    cond (among code article_codes) (Ok (record { sense = sense_of_code code; target = target_of code }))
    (cond (among code not_judged_codes) (Err CodeError.NotJudged) (Err CodeError.Unknown))

-- The catalogue lists a code: it gives it a sense and a target.
abbrev pub Listed : ℕ → Type 0
Listed code = (advice : Advice) × (catalogue_of code ≡ Ok advice)

-- A code of a range, as 1 to 16.
abbrev pub CodeWithin : ℕ → ℕ → ℕ → Type 0
CodeWithin low high code = (low ≤ code) × (code ≤ high)
