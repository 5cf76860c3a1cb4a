-- How long keys, packets and what they are made of are: docs/SCHEME.md, "Layouts". In Rattle the same names stand in src/lib.rt, in C in galmuriec.h.
use Rattle.std.specs.Prelude.{ℕ}

-- key 32, seed 32
abbrev pub secret_key_bytes : ℕ
secret_key_bytes = 64

-- seed 32, then ga as 256 numbers
abbrev pub public_key_bytes : ℕ
public_key_bytes = 2080

-- bg as 256 numbers, then bga_m as 64
abbrev pub ciphertext_numbers : ℕ
ciphertext_numbers = 320

abbrev pub ciphertext_bytes : ℕ
ciphertext_bytes = 2560

abbrev pub shared_key_bytes : ℕ
shared_key_bytes = 32

abbrev pub randomness_bytes : ℕ
randomness_bytes = 32
