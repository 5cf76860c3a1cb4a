-- How long the parts of keys and packets are, and how much is drawn for them: docs/SCHEME.md, "Keys and packets".
use Rattle.std.specs.Prelude.{ℕ}

-- a vector is four ring elements, the matrix 16
abbrev pub vector_numbers : ℕ
vector_numbers = 256

abbrev pub matrix_numbers : ℕ
matrix_numbers = 1024

-- nine bytes drawn for each number of the matrix
abbrev pub matrix_bytes : ℕ
matrix_bytes = 9216

-- eight for each of a vector, and eight hold one of ga; vectors are drawn by twos
abbrev pub vector_bytes : ℕ
vector_bytes = 2048

abbrev pub vectors_bytes : ℕ
vectors_bytes = 4096

abbrev pub key_bytes : ℕ
key_bytes = 32

abbrev pub seed_bytes : ℕ
seed_bytes = 32

abbrev pub payload_bytes : ℕ
payload_bytes = 32
