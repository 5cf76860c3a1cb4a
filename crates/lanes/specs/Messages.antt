-- docs/SCHEME.md, "Message lanes": 32 bytes of payload in 64 coefficients, and back.
use Rattle.std.specs.Prelude.{true, false, List, ℕ, ◌+◌, ◌*◌, ◌/◌, ◌%◌, ◌^◌, leb, get_or}
use Rattle.laws.specs.Lists.{tab}
use Rattle.laws.specs.Tests.{both}
use Rattle.laws.specs.Bits.{bit}
use Rattle.lanes.specs.FourLanes.{placed}

-- four bits of n from bit h on: bit h + j gives 2^(15 + 16 j)
unfoldable pub lifted : ℕ → ℕ → ℕ
lifted n h = placed (2 ^ 15 * bit n h) (2 ^ 15 * bit n (h + 1)) (2 ^ 15 * bit n (h + 2)) (2 ^ 15 * bit n (h + 3))

-- coefficient k: bits 0 to 3 of byte i where k = 2 i, bits 4 to 7 where k = 2 i + 1
abbrev pub embedded : List ℕ → ℕ → ℕ
embedded m k = lifted (get_or m (k / 2) 0) (4 * (k % 2))

unfoldable pub embed : List ℕ → List ℕ
embed m = tab 64 (λ k. embedded m k)

-- chunk j of sixteen bits, the lowest first
abbrev pub chunk : ℕ → ℕ → ℕ
chunk v j = v / 2 ^ (16 * j) % 2 ^ 16

-- a chunk below 16384 or above 49152 gives 0, any other 1
unfoldable pub chunk_bit : ℕ → ℕ
chunk_bit c = elim (both (leb 16384 c) (leb c 49152)) [ true ↦ 1 | false ↦ 0 ]

-- the four bits of a coefficient
unfoldable pub read : ℕ → ℕ
read v = chunk_bit (chunk v 0) + 2 * chunk_bit (chunk v 1) + 4 * chunk_bit (chunk v 2) + 8 * chunk_bit (chunk v 3)

-- byte i
abbrev pub extracted : List ℕ → ℕ → ℕ
extracted cs i = read (get_or cs (2 * i) 0) + 16 * read (get_or cs (2 * i + 1) 0)

unfoldable pub extract : List ℕ → List ℕ
extract cs = tab 32 (λ i. extracted cs i)
