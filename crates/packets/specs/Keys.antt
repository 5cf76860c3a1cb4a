-- What opening gives as a key or none. `opens` and `key_or` of Packets tell it as a flag and a buffer.
use Rattle.std.specs.Prelude.{Option, Some, None, List, ℕ}
use Rattle.packets.specs.Packets.{Opened, key, differs}

unfoldable pub key_in : Opened → Option (List ℕ)
key_in (key k) = Some k
key_in differs = None
