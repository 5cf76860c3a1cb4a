-- Reading and writing undo each other, and what a loop has done that writes numbers.
use mathlib.Core.Path.{◌≡◌, refl, sym, ap, ap₂, ◌∙◌, subst}
use mathlib.Core.List.{List, [], map, ◌++◌, append_assoc}
use Prim.Native.Nat.{ℕ, zero, suc, ◌+◌, ◌*◌, ◌/◌, ◌%◌, ◌^◌, ◌≤◌, ◌<◌}
use native.Mathlib.Nat.{zero-add, add-zero, mod-lt, mod-eq_of_lt, div-one}
use native.Mathlib.Omega.{arith}
use lib.Dec.{lit<}
use lib.ListN.{length, get_or, set, take, drop}
use lib.Seq.{ext_get_or, get_or-take, get_or-drop, drop-drop, sets-eq}
use Rattle.std.specs.Int.{from_le_bytes, to_le_bytes, w64}
use Rattle.std.specs.Simd.{first_chunks}
use Rattle.std.proofs.lemmas.List.{length-map, get_or-map}
use Rattle.laws.specs.Lists.{Below}
use Rattle.laws.specs.Sums.{total}
use Rattle.laws.specs.Digits.{digit, number}
use Rattle.laws.proofs.Lists.{length-tab, get_or-tab, is_tab}
use Rattle.laws.proofs.Bounds.{tab_below}
use Rattle.laws.proofs.Digits.{number_ext, number_digits, digit-number}
use Rattle.laws.proofs.Updates.{Filled, mapped_more}
use Rattle.codec.specs.Layout.{word, words, byte, bytes, with_word}

pub length-words : (l : List ℕ) → length (words l) ≡ length l / 8
unfolding words
length-words l = length-tab (length l / 8) (λ i. word l (8 * i))

pub get_d_words : (l : List ℕ) (i : ℕ) → i < length l / 8 → get_or (words l) i 0 ≡ word l (8 * i)
unfolding words
get_d_words l i h = get_or-tab (length l / 8) (λ j. word l (8 * j)) 0 i h

pub length-bytes : (w : List ℕ) → length (bytes w) ≡ 8 * length w
unfolding bytes
length-bytes w = length-tab (8 * length w) (byte w)

pub get_or-bytes : (w : List ℕ) (j : ℕ) → j < 8 * length w → get_or (bytes w) j 0 ≡ byte w j
unfolding bytes
get_or-bytes w j h = get_or-tab (8 * length w) (byte w) 0 j h

-- byte k of number i
byte_at : (w : List ℕ) (i k : ℕ) → k < 8 → byte w (8 * i + k) ≡ digit 256 (get_or w i 0) k
byte_at w i k h =
    let e : (8 * i + k) / 8 ≡ i = omega arith in
    let f : (8 * i + k) % 8 ≡ k = omega arith in
    λ t. digit 256 (get_or w (e t) 0) (f t)

word_of_bytes : (w : List ℕ) (i : ℕ) → i < length w → get_or w i 0 < 2 ^ 64 → word (bytes w) (8 * i) ≡ get_or w i 0
unfolding word
word_of_bytes w i h b =
    number_ext 256 8 (λ k. get_or (bytes w) (8 * i + k) 0) (digit 256 (get_or w i 0))
    (λ k g. get_or-bytes w (8 * i + k) (omega arith) ∙ byte_at w i k g)
    ∙ number_digits 256 8 (get_or w i 0) (lit< tt) ∙ mod-eq_of_lt b

byte_of_word : (s : List ℕ) → ((i : ℕ) → get_or s i 0 < 256) → (o k : ℕ) → k < 8 → digit 256 (word s o) k ≡ get_or s (o + k) 0
unfolding word
byte_of_word s b o k h = digit-number 256 8 (λ j. get_or s (o + j) 0) (lit< tt) (λ j g. b (o + j)) k h

-- the number at the front of what is left
pub word-drop : (l : List ℕ) (o : ℕ) → word (drop o l) 0 ≡ word l o
unfolding word
word-drop l o =
    number_ext 256 8 (λ k. get_or (drop o l) (0 + k) 0) (λ k. get_or l (o + k) 0)
    (λ k h. ap (λ (n : ℕ). get_or (drop o l) n 0) (zero-add k) ∙ get_or-drop o l k 0)

-- chunk i of eight bytes, and std's number of it
chunk-at : (n i : ℕ) (m d : List ℕ) → i < n → get_or (first_chunks 8 n m) i d ≡ take 8 (drop (8 * i) m)
chunk-at zero i m d h = absurd (omega arith)
chunk-at (suc n) zero m d h = refl
chunk-at (suc n) (suc i) m d h =
    let e : 8 + 8 * i ≡ 8 * suc i = omega arith in
    chunk-at n i (drop 8 m) d (omega arith) ∙ ap (take 8) (drop-drop (8 * i) 8 m ∙ ap (λ (k : ℕ). drop k m) e)

chunk-byte : (m : List ℕ) (o k : ℕ) → k < 8 → get_or (take 8 (drop o m)) k 0 ≡ get_or m (o + k) 0
chunk-byte m o k h = get_or-take 8 (drop o m) k 0 h ∙ get_or-drop o m k 0

pub word_of_chunk : (n i : ℕ) (m d : List ℕ) → i < n → from_le_bytes w64 (get_or (first_chunks 8 n m) i d) ≡ word m (8 * i)
unfolding word number total
word_of_chunk n i m d h =
    let o = 8 * i in
    ap (from_le_bytes w64) (chunk-at n i m d h)
    ∙ omega (
      arith,
      chunk-byte m o 0 (lit< tt),
      chunk-byte m o 1 (lit< tt),
      chunk-byte m o 2 (lit< tt),
      chunk-byte m o 3 (lit< tt),
      chunk-byte m o 4 (lit< tt),
      chunk-byte m o 5 (lit< tt),
      chunk-byte m o 6 (lit< tt),
      chunk-byte m o 7 (lit< tt),
    )

length_chunks : (n k : ℕ) (m : List ℕ) → length (first_chunks n k m) ≡ k
length_chunks n zero m = refl
length_chunks n (suc k) m = ap suc (length_chunks n k (drop n m))

-- all of them are the numbers in the bytes
pub words_of_chunks : (s : List ℕ) → map (from_le_bytes w64) (first_chunks 8 (length s / 8) s) ≡ words s
unfolding words
words_of_chunks s =
    let n = length s / 8 in
    let chunks = first_chunks 8 n s in
    let size = length_chunks 8 n s in
    is_tab n (λ i. word s (8 * i)) 0 (map (from_le_bytes w64) chunks) (length-map chunks (from_le_bytes w64) ∙ size)
    (λ i h. get_or-map (from_le_bytes w64) chunks i [] 0 (omega (arith, size)) ∙ word_of_chunk n i s [] h)

-- the bytes of a number that is x
pub bytes_as : (x y : ℕ) {ys : List ℕ} → ys ≡ to_le_bytes w64 y → y ≡ x → ys ≡ to_le_bytes w64 x
bytes_as x y e u = e ∙ ap (to_le_bytes w64) u

-- eight bytes that were written as a part of the list
pub with_bytes : (l ys : List ℕ) (o k x : ℕ) → o + 8 ≤ length l → k ≡ 8 → ys ≡ to_le_bytes w64 x
    → take o l ++ (ys ++ drop k (drop o l)) ≡ with_word l o x
unfolding digit
with_bytes l ys o k x h u e =
    let low : x % 256 ≡ x / 1 % 256 = ap (λ (n : ℕ). n % 256) (sym (div-one x)) in
    let o₁ : suc o ≡ o + 1 = omega arith in
    let o₂ : suc (suc o) ≡ o + 2 = omega arith in
    let o₃ : suc (suc (suc o)) ≡ o + 3 = omega arith in
    let o₄ : suc (suc (suc (suc o))) ≡ o + 4 = omega arith in
    let o₅ : suc (suc (suc (suc (suc o)))) ≡ o + 5 = omega arith in
    let o₆ : suc (suc (suc (suc (suc (suc o))))) ≡ o + 6 = omega arith in
    let o₇ : suc (suc (suc (suc (suc (suc (suc o)))))) ≡ o + 7 = omega arith in
    ap₂ (λ (n : ℕ) (z : List ℕ). take o l ++ (z ++ drop n (drop o l))) u e
    ∙ ap (λ (z : List ℕ). take o l ++ (to_le_bytes w64 x ++ z)) (drop-drop 8 o l)
    ∙ sym (append_assoc (take o l) (to_le_bytes w64 x) (drop (o + 8) l)) ∙ sym (sets-eq (to_le_bytes w64 x) l o h)
    ∙ (λ t. set (set (set (set (set (set (set (set l o (low t)) (o₁ t) (x / 256 ^ 1 % 256)) (o₂ t) (x / 256 ^ 2 % 256)) (o₃ t) (x / 256 ^ 3 % 256))
    (o₄ t) (x / 256 ^ 4 % 256)) (o₅ t) (x / 256 ^ 5 % 256)) (o₆ t) (x / 256 ^ 6 % 256)) (o₇ t) (x / 256 ^ 7 % 256))

-- numbers to bytes and back
pub words-bytes : (w : List ℕ) (n : ℕ) → Below (2 ^ 64) n w → words (bytes w) ≡ w
words-bytes w n b = ext_get_or 0 (words (bytes w)) w size each
  where
    size : length (words (bytes w)) ≡ length w
    size = length-words (bytes w) ∙ ap (λ (m : ℕ). m / 8) (length-bytes w) ∙ omega arith

    each : (i : ℕ) → i < length (words (bytes w)) → get_or (words (bytes w)) i 0 ≡ get_or w i 0
    each i h = get_d_words (bytes w) i (omega (arith, length-words (bytes w))) ∙ word_of_bytes w i (omega (arith, size)) (b.each i)

-- and bytes to numbers and back
pub bytes-words : (s : List ℕ) (n : ℕ) → Below 256 (8 * n) s → bytes (words s) ≡ s
bytes-words s n b = ext_get_or 0 (bytes (words s)) s size each
  where
    size : length (bytes (words s)) ≡ length s
    size = length-bytes (words s) ∙ ap (λ (m : ℕ). 8 * m) (length-words s) ∙ omega (arith, b.size)

    each : (j : ℕ) → j < length (bytes (words s)) → get_or (bytes (words s)) j 0 ≡ get_or s j 0
    each j h =
        let f : 8 * (j / 8) + j % 8 ≡ j = omega arith in
        get_or-bytes (words s) j (omega (arith, length-bytes (words s)))
        ∙ ap (λ (x : ℕ). digit 256 x (j % 8)) (get_d_words s (j / 8) (omega (arith, size, b.size)))
        ∙ byte_of_word s b.each (8 * (j / 8)) (j % 8) (omega arith) ∙ ap (λ (m : ℕ). get_or s m 0) f

-- sizes
pub bytes_below : (w : List ℕ) (n : ℕ) → length w ≡ n → Below 256 (8 * n) (bytes w)
unfolding bytes digit
bytes_below w n e =
    subst (λ (m : ℕ). Below 256 (8 * m) (bytes w)) e
    (tab_below 256 (8 * length w) (byte w) (lit< tt) (λ j h. mod-lt (get_or w (j / 8) 0 / 256 ^ (j % 8)) (lit< tt)))

-- ---- what a loop has done that fills a list eight bytes at a time
module _ (g : ℕ → ℕ) (o x : ℕ) (old : List ℕ) (room : o + 8 ≤ length old) (same : (k : ℕ) → k < 8 → digit 256 x k ≡ g (o + k)) where
  next : (k : ℕ) (l : List ℕ) → k < 8 → Filled g (o + k) old l → Filled g (o + suc k) old (set l (o + k) (digit 256 x k))
  next k l h m =
      let e : o + k + 1 ≡ o + suc k = omega arith in
      subst (λ (n : ℕ). Filled g n old (set l (o + k) (digit 256 x k))) e
      (mapped_more (λ j y. g j) (o + k) (digit 256 x k) old l (omega arith) (same k h) m)

  pub filled_word : (new : List ℕ) → Filled g o old new → Filled g (o + 8) old (with_word new o x)
  filled_word new m =
      next 7 _ (lit< tt) (next 6 _ (lit< tt) (next 5 _ (lit< tt) (next 4 _ (lit< tt)
      (next 3 _ (lit< tt) (next 2 _ (lit< tt) (next 1 _ (lit< tt)
      (mapped_more (λ j y. g j) o (digit 256 x 0) old new (omega arith) (same 0 (lit< tt) ∙ ap g (add-zero o)) m)))))))

-- one number more is packed
pub packed_more : (w : List ℕ) (i : ℕ) (old new : List ℕ) → i < length w → length old ≡ 8 * length w → Filled (byte w) (8 * i) old new
    → Filled (byte w) (8 * (i + 1)) old (with_word new (8 * i) (get_or w i 0))
packed_more w i old new h e m =
    let f : 8 * i + 8 ≡ 8 * (i + 1) = omega arith in
    subst (λ (k : ℕ). Filled (byte w) k old (with_word new (8 * i) (get_or w i 0))) f
    (filled_word (byte w) (8 * i) (get_or w i 0) old (omega arith) (λ k l. sym (byte_at w i k l)) new m)
