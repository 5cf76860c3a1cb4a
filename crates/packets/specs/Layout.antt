-- docs/SCHEME.md, "Layouts": a public key is its seed, then ga in eight bytes a coefficient. A ciphertext's bytes are those of its coefficients,
-- `bytes` and `words` of codec; a secret key is bytes already.
use Rattle.std.specs.Prelude.{List, ◌++◌, ℕ, take}
use Rattle.laws.specs.Lists.{part}
use Rattle.codec.specs.Layout.{words, bytes}
use Rattle.packets.specs.Parameters.{vector_bytes, seed_bytes}
use Rattle.packets.specs.Packets.{PublicKey}

unfoldable pub public_bytes : PublicKey → List ℕ
public_bytes pk = pk.seed ++ bytes pk.ga

unfoldable pub public_of : List ℕ → PublicKey
public_of l = record { seed = take seed_bytes l; ga = words (part seed_bytes vector_bytes l) }
