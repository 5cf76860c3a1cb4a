-- Nobody needs to believe this file: `uncomplemented` (proofs/Flips) says that what is worked out over it is `keccak_p`, which is all that
-- `permute` promises. States with some lanes kept complemented.
use Rattle.std.specs.Prelude.{Bool, true, false, not, ◌||◌, List, ℕ, ◌+◌, ◌-◌, ◌*◌, ◌%◌, ◌^◌, eqb, get_or, set}
use Rattle.laws.specs.Lists.{tab}
use Rattle.keccak.specs.Lanes.{row}

-- a lane, complemented if so said
abbrev pub flip : Bool → ℕ → ℕ
flip true x = (2 ^ 64 - 1) - x
flip false x = x

abbrev pub differ : Bool → Bool → Bool
differ true b = not b
differ false b = b

-- the lanes that are kept complemented
abbrev pub over : ℕ → Bool
over i = eqb i 1 || eqb i 2 || eqb i 8 || eqb i 12 || eqb i 17 || eqb i 20

unfoldable pub flips : (ℕ → Bool) → ℕ → List ℕ → List ℕ
flips f n s = tab n (λ i. flip (f i) (get_or s i 0))

-- lane i complemented
abbrev pub flipped : List ℕ → ℕ → List ℕ
flipped s i = set s i ((2 ^ 64 - 1) - get_or s i 0)

unfoldable pub complemented : List ℕ → List ℕ
complemented s = flips over 25 s

-- which parities of such a state are complemented, and so which of theta's effects
abbrev pub over_parity : ℕ → Bool
over_parity x = differ (differ (differ (differ (over x) (over (x + 5))) (over (x + 10))) (over (x + 15))) (over (x + 20))

abbrev pub over_effect : ℕ → Bool
over_effect x = differ (over_parity ((x + 4) % 5)) (over_parity ((x + 1) % 5))

-- row y of a round before iota, of a state and of effects that are kept so, to be kept so
unfoldable pub kept_row : List ℕ → List ℕ → ℕ → List ℕ
kept_row s d y = flips (λ x. over (x + 5 * y)) 5 (row (complemented s) (flips over_effect 5 d) y)
