-- The records of a sheet, decoded.
use Rattle.std.specs.Prelude.{List, [], ◌∷◌, ℕ, zero, suc, pos, None, Option, Some}
use Rattle.question.specs.declared.Encounter.{Encounter}
use Rattle.question.specs.declared.Question.{Question}
use Rattle.record.specs.declared.Kind.{Kind}
use Rattle.record.specs.declared.Record.{Record}
use Rattle.record.specs.Numbers.{byte_at, short_at, number_at}
use Rattle.record.specs.Kinds.{kind_of, body_after}

-- "encounter, 20 bytes: r, h, c, v, vi"
unfoldable pub encounter_in : List ℕ → Encounter
encounter_in body = record {
  distance = number_at body 0;
  height = number_at body 4;
  closing_speed = number_at body 8;
  speed = number_at body 12;
  intruder_speed = number_at body 16;
}

-- "free question, 22: sides 1 or 2 (1); sense 0 descend or 1 climb (1); target, upper target, strength, upper strength (4 each); delay, limit (2 each)"
unfoldable pub question_in : List ℕ → Question
question_in body = record {
  sides = pos (byte_at body 0);
  sense = pos (byte_at body 1);
  target = number_at body 2;
  upper_target = number_at body 6;
  strength = number_at body 10;
  upper_strength = number_at body 14;
  delay = pos (short_at body 18);
  limit = pos (short_at body 20);
}

-- "puck, 8: p, k"; "delay acceleration, 4: e"; "coded question, 3: code (1), limit (2)"
abbrev pub record_of : Kind → List ℕ → Record
record_of Kind.Encounter body = Record.Encounter (encounter_in body)
record_of Kind.Puck body = Record.Puck (number_at body 0) (number_at body 4)
record_of Kind.DelayAcceleration body = Record.DelayAcceleration (number_at body 0)
record_of Kind.Coded body = Record.Coded (byte_at body 0) (pos (short_at body 1))
record_of Kind.Free body = Record.Free (question_in body)

-- the record of such a kind before those that follow; a byte of unknown kind has none, and its sheet is refused
abbrev pub record_before : Option Kind → List ℕ → List Record → List Record
record_before None body later = later
record_before (Some kind) body later = record_of kind body ∷ later

-- the records of the bytes that follow, where so many bytes of a body are left to pass over first
unfoldable pub records_after : ℕ → List ℕ → List Record
records_after left [] = []
records_after (suc left) (byte ∷ rest) = records_after left rest
records_after zero (kind ∷ rest) = record_before (kind_of kind) rest (records_after (body_after (kind_of kind)) rest)

-- a sheet's records, in order
abbrev pub records : List ℕ → List Record
records = records_after 0
