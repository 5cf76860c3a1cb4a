-- Numbers of 64 bits as eight bytes, lowest first: docs/SCHEME.md, "Layouts".
use Rattle.std.specs.Prelude.{List, ℕ, ◌+◌, ◌*◌, ◌/◌, ◌%◌, length, get_or, set}
use Rattle.laws.specs.Lists.{tab}
use Rattle.laws.specs.Digits.{digit, number}

-- the number in the eight bytes from o on
unfoldable pub word : List ℕ → ℕ → ℕ
word l o = number 256 8 (λ k. get_or l (o + k) 0)

-- the numbers in a list of bytes; up to seven bytes at its end are left out
unfoldable pub words : List ℕ → List ℕ
words l = tab (length l / 8) (λ i. word l (8 * i))

-- byte j of a list of numbers
abbrev pub byte : List ℕ → ℕ → ℕ
byte w j = digit 256 (get_or w (j / 8) 0) (j % 8)

-- the bytes of a list of numbers
unfoldable pub bytes : List ℕ → List ℕ
bytes w = tab (8 * length w) (byte w)

-- a list with the eight bytes of x from o on
abbrev pub with_word : List ℕ → ℕ → ℕ → List ℕ
with_word l o x =
    set (set (set (set (set (set (set (set l o (digit 256 x 0)) (o + 1) (digit 256 x 1)) (o + 2) (digit 256 x 2)) (o + 3) (digit 256 x 3))
    (o + 4) (digit 256 x 4)) (o + 5) (digit 256 x 5)) (o + 6) (digit 256 x 6)) (o + 7) (digit 256 x 7)
