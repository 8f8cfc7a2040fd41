-- The instants that a text names: "17 1/2" (a mixed number), "17.5" (a decimal), "35/2" (a fraction) and "17" (a whole number), in seconds. Each number that is
-- written, and each of the instant n/m, is below 2 ^ 64; every other text names no instant.
use Rattle.std.specs.Prelude.{List, ℕ, ◌+◌, ◌*◌, ◌^◌, ◌==◌, ◌&&◌, length, nat_lt, if◌then◌else◌, None, Option, Some, option_and_then}
use Rattle.std.specs.List.{position_or_len, before_first, after_first}
use Rattle.std.specs.Str.{all_ascii_digits, byte}
use Rattle.std.specs.Str.Parse.{digits_value}
use Rattle.instant.specs.declared.Instant.{Instant}
use Rattle.instant.specs.Order.{◌÷◌}

infixl 10 ◌>>=◌
abbrev pub ◌>>=◌ : {A B : Type 0} → Option A → (A → Option B) → Option B
o >>= f = option_and_then f o

-- a number of 64 bits
abbrev pub fitting : ℕ → Option ℕ
fitting n = if nat_lt n (2 ^ 64) then Some n else None

-- digits, one or more
unfoldable pub number : List ℕ → Option ℕ
number text = if nat_lt 0 (length text) && all_ascii_digits text then fitting (digits_value 10 text) else None

-- the text before the first mark, and the text behind it
unfoldable pub parts : ℕ → List ℕ → Option (List ℕ × List ℕ)
parts mark text =
    if nat_lt (position_or_len (λ c. c == mark) text) (length text) then Some (before_first (λ c. c == mark) text, after_first (λ c. c == mark) text) else None

-- w n/m seconds are (w * m + n)/m
unfoldable pub mixed_value : ℕ → ℕ → ℕ → Option Instant
mixed_value w n m = do
  all ← fitting (w * m + n)
  Some (all ÷ m)

-- "17 1/2"
unfoldable pub mixed : List ℕ → List ℕ → List ℕ → Option Instant
mixed whole above below = do
  w ← number whole
  n ← number above
  m ← number below
  mixed_value w n m

-- "35/2"
unfoldable pub fraction : List ℕ → List ℕ → Option Instant
fraction above below = do
  n ← number above
  m ← number below
  Some (n ÷ m)

-- "17.5" is 17 and 5/10, "0.125" is 0 and 125/1000
unfoldable pub decimal : List ℕ → List ℕ → Option Instant
decimal whole places = do
  w ← number whole
  n ← number places
  m ← fitting (10 ^ length places)
  mixed_value w n m

-- "17"
unfoldable pub whole_number : List ℕ → Option Instant
whole_number text = do
  n ← number text
  Some (n ÷ 1)

-- by the marks in it: with a slash a mixed number where a blank stands before the slash, else a fraction; without one a decimal or a whole number
abbrev pub with_slash : List ℕ → List ℕ → Option (List ℕ × List ℕ) → Option Instant
with_slash above below (Some split) = mixed split.0 split.1 below
with_slash above below None = fraction above below

abbrev pub without_slash : List ℕ → Option (List ℕ × List ℕ) → Option Instant
without_slash text (Some split) = decimal split.0 split.1
without_slash text None = whole_number text

abbrev pub by_slash : List ℕ → Option (List ℕ × List ℕ) → Option Instant
by_slash text (Some split) = with_slash split.0 split.1 (parts (byte " ") split.0)
by_slash text None = without_slash text (parts (byte ".") text)

unfoldable pub instant_in : List ℕ → Option Instant
instant_in text = by_slash text (parts (byte "/") text)
