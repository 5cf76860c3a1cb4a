-- The halves of a secret key.
use native.Mathlib.Omega.{arith}
use mathlib.Core.Path.{◌≡◌, sym}
use mathlib.Core.List.{List}
use Prim.Native.Nat.{ℕ}
use lib.ListN.{length, drop, length-drop}
use lib.Seq.{take_all}
use Rattle.codec.specs.Sizes.{secret_key_bytes}
use Rattle.packets.specs.Parameters.{key_bytes, seed_bytes}
use Rattle.packets.specs.Packets.{seed_of}

-- what follows the key is the seed
pub whole_seed : (sk : List ℕ) → length sk ≡ secret_key_bytes → drop key_bytes sk ≡ seed_of sk
whole_seed sk h = sym (take_all seed_bytes (drop key_bytes sk) (omega (arith, length-drop key_bytes sk, h)))
