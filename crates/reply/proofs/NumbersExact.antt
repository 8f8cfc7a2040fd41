-- Four bytes hold a number below 2³² exactly. Assumes nothing.
use Rattle.std.proofs.Common.{◌≡◌, ℕ, ◌<◌}
use Rattle.std.proofs.lemmas.Nat.{from_be_bytes-to_be_bytes_4}
use Rattle.record.specs.Numbers.{word_at}
use Rattle.reply.specs.AnswerBytes.{big_endian}

pub read_back : (n : ℕ) → n < 4294967296 → word_at (big_endian n) 0 ≡ n
read_back n h = from_be_bytes-to_be_bytes_4 n h
