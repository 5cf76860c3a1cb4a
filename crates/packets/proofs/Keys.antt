-- What opening gives, told in two ways: as a key or none, and as a flag beside a buffer.
use mathlib.Core.Bool.{Bool, true, false}
use mathlib.Core.Path.{◌≡◌, refl, ap}
use mathlib.Core.List.{List}
use Prim.Native.Nat.{ℕ}
use Rattle.std.specs.Prelude.{Option, Some, None, is_some}
use Rattle.std.specs.Option.{unwrap_or}
use Rattle.packets.specs.Packets.{Opened, key, differs, opens, key_or}
use Rattle.packets.specs.Keys.{key_in}

pub opens_with : (o : Opened) (k old : List ℕ) → Some k ≡ key_in o → (true ≡ opens o) × (k ≡ key_or o old)
unfolding opens key_or key_in
opens_with (key l) k old e = (refl, ap (λ (x : Option (List ℕ)). unwrap_or x old) e)
opens_with differs k old e = let z : ◌≡◌ {A = Bool} true false = ap is_some e in cc

pub opens-not : (o : Opened) (old : List ℕ) → None ≡ key_in o → (false ≡ opens o) × (old ≡ key_or o old)
unfolding opens key_or key_in
opens-not (key l) old e = let z : ◌≡◌ {A = Bool} false true = ap is_some e in cc
opens-not differs old e = (refl, refl)
