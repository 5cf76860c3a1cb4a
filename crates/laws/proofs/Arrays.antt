-- What a function is told of an array of unsigned integers that it gets by value: how many there are, and that each fits its width.
use mathlib.Core.List.{List, [], ◌∷◌}
use Prim.Native.Nat.{ℕ, zero, suc, ◌^◌, ◌<◌}
use mir.Syntax.{Width}
use mir.Val.{Val, bits}
use denote.Laws.{Is}
use denote.Plain.{UInt}
use denote.Shadow.{shadow}
use denote.Array.{each, Array}
use lib.ListN.{get_or}
use lib.Pow.{pow_pos}
use Rattle.laws.specs.Lists.{Below}

each_fits : (w : Width) (xs : List ℕ) (us : List Val) → shadow (each ℕ (UInt w).own_val xs us) → (i : ℕ) → get_or xs i 0 < 2 ^ bits w
each_fits w [] us s i = pow_pos (bits w)
each_fits w (x ∷ xs) [] s i = absurd s
each_fits w (x ∷ xs) (u ∷ us) s zero = s.0.1
each_fits w (x ∷ xs) (u ∷ us) s (suc i) = each_fits w xs us s.1 i

pub array_below : (w : Width) (n : ℕ) (xs : List ℕ) (vs : List Val) → Is (Array (UInt w) n) xs vs → Below (2 ^ bits w) n xs
array_below w n xs vs p = record { size = p.1.0.1; each = each_fits w xs p.0 p.1.1 }
