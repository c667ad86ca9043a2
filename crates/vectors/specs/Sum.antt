-- What is printed of a memory.
use Rattle.std.specs.Prelude.{ℕ, zero, suc, ◌+◌, ◌*◌, List, get_or}

-- the sum of (address + 1) × byte over so many addresses
unfoldable pub weighed : List ℕ → ℕ → ℕ
weighed memory zero = 0
weighed memory (suc address) = weighed memory address + (address + 1) * get_or memory address 0
