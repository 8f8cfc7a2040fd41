-- "Numbers are big-endian: 4 bytes two's complement, 2 bytes unsigned." A list of numbers below 256 stands for bytes; positions count from 0.
use Rattle.std.specs.Prelude.{cond, List, ℕ, ◌+◌, ◌*◌, ltb, ℤ, pos, ◌-ℤ◌, get_or}

-- the byte at a position
abbrev pub byte_at : List ℕ → ℕ → ℕ
byte_at bytes at = get_or bytes at 0

-- two bytes, the first the more significant, as an unsigned number
abbrev pub short_at : List ℕ → ℕ → ℕ
short_at bytes at = byte_at bytes at * 256 + byte_at bytes (at + 1)

-- four bytes, the first the most significant, as an unsigned number
abbrev pub word_at : List ℕ → ℕ → ℕ
word_at bytes at = byte_at bytes at * 16777216 + byte_at bytes (at + 1) * 65536 + byte_at bytes (at + 2) * 256 + byte_at bytes (at + 3)

-- two's complement: from 2³¹ on, 2³² less
abbrev pub signed : ℕ → ℤ
signed n = cond (ltb n 2147483648) (pos n) (pos n -ℤ pos 4294967296)

unfoldable pub number_at : List ℕ → ℕ → ℤ
number_at bytes at = signed (word_at bytes at)
