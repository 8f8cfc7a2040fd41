-- The first line ends behind the first of its end's bytes, or with the bytes.
use Rattle.std.proofs.Common.{◌≡◌, ℕ, ◌+◌, ◌==◌, List, [], ◌∷◌, take, drop, refl, arith, Some, None}
use Rattle.std.specs.List.{position, position_or_len}
use Rattle.std.specs.Io.BufRead.{take_through, drop_through}

take_position : (byte : ℕ) (bytes : List ℕ) → take (position_or_len (λ x. x == byte) bytes + 1) bytes ≡ take_through byte bytes
take_position byte [] = refl
take_position byte (x ∷ bytes) = let rest = take_position byte bytes in grind arith

drop_position : (byte : ℕ) (bytes : List ℕ) → drop (position_or_len (λ x. x == byte) bytes + 1) bytes ≡ drop_through byte bytes
drop_position byte [] = refl
drop_position byte (x ∷ bytes) = let rest = drop_position byte bytes in grind arith

pub split_at_end : (byte : ℕ) (bytes : List ℕ) (at : ℕ) → position (λ x. x == byte) bytes ≡ Some at → (take (at + 1) bytes ≡ take_through byte bytes) × (drop (at + 1) bytes ≡ drop_through byte bytes)
split_at_end byte bytes at found = grind (arith, take_position byte bytes, drop_position byte bytes)

pub no_end : (byte : ℕ) (bytes : List ℕ) → position (λ x. x == byte) bytes ≡ None → (bytes ≡ take_through byte bytes) × ([] ≡ drop_through byte bytes)
no_end byte [] none = (refl, refl)
no_end byte (x ∷ bytes) none = let rest = no_end byte bytes in grind arith
