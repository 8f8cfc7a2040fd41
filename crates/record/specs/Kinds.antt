-- "One byte of kind, then a body whose length the kind fixes."
use Rattle.std.specs.Prelude.{cond, ℕ, eqb, None, ok_or, Option, Result, Some}
use Rattle.question.specs.declared.refusal.Refusal.{Refusal}
use Rattle.record.specs.declared.Kind.{Kind}
use Rattle.record.specs.declared.Kind.TheVariants.{Encounter, Puck, DelayAcceleration, Coded, Free}

-- "Kind 1, encounter"; "Kind 2, puck"; "Kind 3, delay acceleration"; "Kind 4, coded question"; "Kind 5, free question"
abbrev pub kind_of : ℕ → Option Kind
kind_of byte =
    cond (eqb byte 1) (Some Encounter)
    (cond (eqb byte 2) (Some Puck)
    (cond (eqb byte 3) (Some DelayAcceleration)
    (cond (eqb byte 4) (Some Coded)
    (cond (eqb byte 5) (Some Free)
    None))))

-- "11 unknown kind"
abbrev pub known_kind : ℕ → Result Kind Refusal
known_kind byte = ok_or (kind_of byte) Refusal.KindUnknown

-- "20 bytes", "8", "4", "3", "22"
abbrev pub body_length : Kind → ℕ
body_length Encounter = 20
body_length Puck = 8
body_length DelayAcceleration = 4
body_length Coded = 3
body_length Free = 22

-- the body after a kind's byte; an unknown kind has none
abbrev pub body_after : Option Kind → ℕ
body_after None = 0
body_after (Some kind) = body_length kind
