-- What each public call asks of its arguments, inputs before outputs, one line a call: docs/SCHEME.md, "When a call says no". A list of numbers
-- stands for an argument whose coefficients must be canonical; one that is not looked into stands by its length alone.
use Rattle.std.specs.Prelude.{List, [], ◌∷◌, ℕ}
use Rattle.codec.specs.Sizes.{secret_key_bytes, public_key_bytes, ciphertext_numbers, ciphertext_bytes, shared_key_bytes, randomness_bytes}
use Rattle.refusals.specs.Arguments.{Asked, value, numbers, packed, room, at_most}

-- ---- field: a value counts as a coefficient with index 0; an exponent may be any number
abbrev pub field_value : ℕ → List Asked
field_value x = value x ∷ []

abbrev pub field_add : ℕ → ℕ → List Asked
field_add a b = value a ∷ value b ∷ []

abbrev pub field_sub : ℕ → ℕ → List Asked
field_sub a b = value a ∷ value b ∷ []

abbrev pub field_mul : ℕ → ℕ → List Asked
field_mul a b = value a ∷ value b ∷ []

abbrev pub field_neg : ℕ → List Asked
field_neg a = value a ∷ []

abbrev pub field_inverse : ℕ → List Asked
field_inverse a = value a ∷ []

abbrev pub field_mod_pow : ℕ → List Asked
field_mod_pow a = value a ∷ []

-- ---- ring: an element is 64 numbers; the transforms work in place
abbrev pub coset_ntt_noswap_64 : List ℕ → List Asked
coset_ntt_noswap_64 array = numbers 64 array ∷ []

abbrev pub coset_intt_noswap_64 : List ℕ → List Asked
coset_intt_noswap_64 array = numbers 64 array ∷ []

abbrev pub ring_add : List ℕ → List ℕ → ℕ → List Asked
ring_add lhs rhs out = numbers 64 lhs ∷ numbers 64 rhs ∷ room 64 out ∷ []

abbrev pub ring_sub : List ℕ → List ℕ → ℕ → List Asked
ring_sub lhs rhs out = numbers 64 lhs ∷ numbers 64 rhs ∷ room 64 out ∷ []

abbrev pub ring_mul : List ℕ → List ℕ → ℕ → List Asked
ring_mul lhs rhs out = numbers 64 lhs ∷ numbers 64 rhs ∷ room 64 out ∷ []

-- ---- matrix: 64 numbers for each ring element
abbrev pub matrix_times_column : List ℕ → List ℕ → ℕ → List Asked
matrix_times_column lhs rhs out = numbers 1024 lhs ∷ numbers 256 rhs ∷ room 256 out ∷ []

abbrev pub row_times_matrix : List ℕ → List ℕ → ℕ → List Asked
row_times_matrix lhs rhs out = numbers 256 lhs ∷ numbers 1024 rhs ∷ room 256 out ∷ []

abbrev pub row_times_column : List ℕ → List ℕ → ℕ → List Asked
row_times_column lhs rhs out = numbers 256 lhs ∷ numbers 256 rhs ∷ room 64 out ∷ []

-- ---- samplers and message lanes
abbrev pub sample_short_bfield_element : ℕ → List Asked
sample_short_bfield_element randomness = room 8 randomness ∷ []

abbrev pub sample_short : ℕ → ℕ → List Asked
sample_short randomness out = room 512 randomness ∷ room 64 out ∷ []

abbrev pub sample_uniform : ℕ → ℕ → List Asked
sample_uniform randomness out = room 576 randomness ∷ room 64 out ∷ []

abbrev pub embed_msg : ℕ → ℕ → List Asked
embed_msg msg out = room 32 msg ∷ room 64 out ∷ []

abbrev pub extract_msg : List ℕ → ℕ → List Asked
extract_msg embedding out = numbers 64 embedding ∷ room 32 out ∷ []

-- ---- hashes: a message fits one block
abbrev pub shake256 : ℕ → ℕ → List Asked
shake256 message output = at_most 135 message ∷ at_most 9216 output ∷ []

abbrev pub sha3_256 : ℕ → ℕ → List Asked
sha3_256 message output = at_most 135 message ∷ room 32 output ∷ []

-- ---- kem: a public key is a seed of 32 bytes and then coefficients, a ciphertext all coefficients, in bytes or as numbers
abbrev pub keygen : ℕ → ℕ → ℕ → List Asked
keygen randomness secret public = room randomness_bytes randomness ∷ room secret_key_bytes secret ∷ room public_key_bytes public ∷ []

abbrev pub enc : List ℕ → ℕ → ℕ → ℕ → List Asked
enc public randomness shared ciphertext =
    packed public_key_bytes 32 public ∷ room randomness_bytes randomness ∷ room shared_key_bytes shared ∷ room ciphertext_bytes ciphertext ∷ []

abbrev pub enc_numbers : List ℕ → ℕ → ℕ → ℕ → List Asked
enc_numbers public randomness shared ciphertext =
    packed public_key_bytes 32 public ∷ room randomness_bytes randomness ∷ room shared_key_bytes shared ∷ room ciphertext_numbers ciphertext ∷ []

abbrev pub dec : ℕ → List ℕ → ℕ → List Asked
dec secret ciphertext shared = room secret_key_bytes secret ∷ packed ciphertext_bytes 0 ciphertext ∷ room shared_key_bytes shared ∷ []

abbrev pub dec_numbers : ℕ → List ℕ → ℕ → List Asked
dec_numbers secret ciphertext shared = room secret_key_bytes secret ∷ numbers ciphertext_numbers ciphertext ∷ room shared_key_bytes shared ∷ []

abbrev pub clear : ℕ → List Asked
clear secret = room secret_key_bytes secret ∷ []
