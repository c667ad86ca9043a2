-- Numbers as bytes.
use Rattle.std.specs.Prelude.{ℕ, ◌+◌, List, get_or}
use Rattle.protocol.specs.Format.{word}

-- the two-byte number at a place
abbrev pub word_at : List ℕ → ℕ → ℕ
word_at bytes at = word (get_or bytes at 0) (get_or bytes (at + 1) 0)
