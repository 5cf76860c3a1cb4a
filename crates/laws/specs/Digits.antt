-- Numbers and their digits in a base, lowest first.
use Rattle.std.specs.Prelude.{ℕ, ◌*◌, ◌/◌, ◌%◌, ◌^◌}
use Rattle.laws.specs.Sums.{total}

-- digit i of x in base b
unfoldable pub digit : ℕ → ℕ → ℕ → ℕ
digit b x i = x / b ^ i % b

-- the number with the digits f 0, f 1, .. , f (n - 1)
unfoldable pub number : ℕ → ℕ → (ℕ → ℕ) → ℕ
number b n f = total n (λ i. f i * b ^ i)
