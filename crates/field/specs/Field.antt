-- The field's size, and Montgomery's reduction as a formula. docs/SCHEME.md, "Field".
use Rattle.std.specs.Prelude.{ℕ, ◌+◌, ◌*◌, ◌%◌, ◌^◌, List}
use Rattle.laws.specs.Lists.{Below}

-- 2^64 - 2^32 + 1
abbrev pub P : ℕ
P = 18446744069414584321

-- 2^128 modulo p
abbrev pub R2 : ℕ
R2 = 18446744065119617025

-- the number that two halves of 64 bits stand for
abbrev pub wide : ℕ → ℕ → ℕ
wide hi lo = hi * 2 ^ 64 + lo

-- x divided by 2^64 modulo p: 2^64 times R2 is 2^192, which is 1 modulo p
unfoldable pub reduced : ℕ → ℕ
reduced x = (x * R2) % P

-- n canonical coefficients
abbrev pub Coefficients : ℕ → List ℕ → Type 0
Coefficients n l = Below P n l
