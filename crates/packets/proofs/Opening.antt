-- When a ciphertext opens: `opening`. The heart is `extracted-sealing`: what `dec` extracts from a sealing under the key's own public key.
use mathlib.Core.Path.{◌≡◌, refl, sym, ap, ap₂, ◌∙◌, subst}
use mathlib.Core.Bool.{Bool, true, false}
use mathlib.Core.Logic.{◌↔◌, ◌≢◌}
use mathlib.Core.List.{List, ◌++◌}
use Prim.Native.Nat.{ℕ, ◌+◌, ◌*◌, ◌<◌}
use native.Mathlib.Omega.{arith}
use lib.Dec.{T, eqb, eqb→eq, eqb_refl}
use lib.ListN.{length, get_or, take}
use lib.Seq.{ext_get_or, take_at, drop_at, take_all}
use Rattle.laws.specs.Choices.{pick}
use Rattle.laws.specs.Lists.{part}
use Rattle.laws.proofs.Tests.{all-at, all_of}
use Rattle.codec.specs.Sizes.{ciphertext_numbers}
use Rattle.ring.specs.Transform.{transform, untransform}
use Rattle.ring.specs.Elements.{plus, minus}
use Rattle.ring.specs.Matrices.{cell, transforms}
use Rattle.ring.proofs.Cells.{cell-transforms}
use Rattle.ring.proofs.Matrices.{dot_ext, matrix_single, bg, bga_m, opened}
use Rattle.ring.proofs.Products.{minus-canonical}
use Rattle.lanes.specs.Messages.{embed, extract}
use Rattle.lanes.proofs.Messages.{embed-canonical, extract-bytes}
use Rattle.noise.specs.Noise.{noise}
use Rattle.noise.proofs.Harmless.{noise_theorem}
use Rattle.hash.specs.Fips202.{sha3_256}
use Rattle.packets.specs.Parameters.{vector_numbers, payload_bytes}
use Rattle.packets.specs.Packets.{Bytes, key_of, seed_of, PublicKey, G, first, second, public_key, bg_of, bga_m_of, sealing, extracted}
use Rattle.packets.specs.Packets.{Opened, key, differs, same, dec}
use Rattle.packets.specs.Opening.{noise_of, Read, Quiet, Opens, Opening}
use Rattle.packets.proofs.Products.{ga-cell, bg_cell, bga_m_row}
use Rattle.packets.proofs.Canonical.{first_cell, second-cell, bg_canonical, bga_m_canonical, sealing-canonical}

-- ---- the comparison
same_refl : (n : ℕ) (s : List ℕ) → T (same n s s)
unfolding same
same_refl n s = all_of (λ i. eqb (get_or s i 0) (get_or s i 0)) n (λ i h. eqb_refl (get_or s i 0))

same_is : (n : ℕ) (s t : List ℕ) → length s ≡ n → length t ≡ n → T (same n s t) → s ≡ t
unfolding same
same_is n s t hs ht h =
    ext_get_or 0 s t (hs ∙ sym ht)
    (λ i q. let g : i < n = omega arith in eqb→eq (get_or s i 0) (get_or t i 0) (all-at (λ j. eqb (get_or s j 0) (get_or t j 0)) n h i g))

-- ---- the answer
key_yes : (b : Bool) (k : List ℕ) → T b → pick b (key k) differs ≡ key k
key_yes true k h = refl
key_yes false k h = absurd h

abbrev is_key : Opened → Type 0
is_key (key k) = Unit
is_key differs = ⊥

no_key : (b : Bool) (k : List ℕ) → (T b → ⊥) → pick b (key k) differs ≡ differs
no_key true k h = absurd (h tt)
no_key false k h = refl

yes_key : (b : Bool) (j k : List ℕ) → pick b (key j) differs ≡ key k → T b
yes_key true j k e = tt
yes_key false j k e = subst is_key (sym e) tt

module _ (count : ℕ → ℕ) where
  -- ---- a sealing under the key's own public key, as `opened` of the ring has it
  module _ (sk m : List ℕ) where
    abbrev g : ℕ → ℕ → List ℕ
    g r s = cell (G (seed_of sk)) (r * 4 + s)

    abbrev a : ℕ → List ℕ
    a = cell (first count (key_of sk))

    abbrev b : ℕ → List ℕ
    b = cell (first count m)

    abbrev c : ℕ → List ℕ
    c = cell (second count (key_of sk))

    abbrev d : ℕ → List ℕ
    d = cell (second count m)

    abbrev pk : PublicKey
    pk = public_key count sk

    abbrev G_sk : List ℕ
    G_sk = G (seed_of sk)

    bg_is : (i : ℕ) → i < 4 → cell (bg_of count G_sk m) i ≡ bg 4 4 g a b c d (embed m) i
    bg_is i h = bg_cell count G_sk m i h

    bga_m_is : bga_m_of count pk.ga m ≡ bga_m 4 4 g a b c d (embed m)
    unfolding public_key
    bga_m_is =
        bga_m_row count pk.ga m
        ∙ ap (λ (l : List ℕ). plus 64 l (transform (embed m)))
        (dot_ext 4 _ _ _ _ (λ q l. refl) (λ q l. ga-cell count G_sk (key_of sk) q l))

    -- its two parts, as `dec` takes them
    abbrev sealed_bg : List ℕ
    sealed_bg = bg_of count G_sk m

    abbrev sealed_bga_m : List ℕ
    sealed_bga_m = bga_m_of count pk.ga m

    abbrev key_vector : List ℕ
    key_vector = transforms 4 (first count (key_of sk))

    front : take vector_numbers (sealed_bg ++ sealed_bga_m) ≡ sealed_bg
    front = take_at sealed_bg sealed_bga_m vector_numbers (bg_canonical count G_sk m).size

    behind : part vector_numbers 64 (sealed_bg ++ sealed_bga_m) ≡ bga_m 4 4 g a b c d (embed m)
    behind =
        ap (take 64) (drop_at sealed_bg sealed_bga_m vector_numbers (bg_canonical count G_sk m).size)
        ∙ take_all 64 sealed_bga_m (omega (arith, (bga_m_canonical count pk.ga m).size)) ∙ bga_m_is

    -- what `dec` extracts from it: what extraction reads from embed(payload) + b·c - d·a
    pub extracted-sealing : extracted count sk (sealing count pk m) ≡ extract (plus 64 (embed m) (noise_of count sk m))
    unfolding extracted sealing noise_of noise public_key
    extracted-sealing =
        ap (λ (l : List ℕ). extract (untransform l)) (ap₂ (minus 64) behind
        (rw front (matrix_single 4 sealed_bg key_vector ∙ dot_ext 4 _ _ _ _ bg_is (λ q l. cell-transforms 4 (first count (key_of sk)) q l))))
        ∙ ap extract (opened 4 4 g a b c d (embed m) (λ i h. first_cell count (key_of sk) i) (λ i h. first_cell count m i)
        (λ i h. second-cell count (key_of sk) i) (λ i h. second-cell count m i) (embed-canonical m))

  -- ---- such a payload is the one that `dec` extracts
  opens-extracted : (sk ct m : List ℕ) → Opens count sk ct m → extracted count sk ct ≡ m
  opens-extracted sk ct m o = ap (extracted count sk) (sym o.sealed) ∙ extracted-sealing sk m ∙ o.read

  pub its_key_is : (sk ct m : List ℕ) → Opens count sk ct m → dec count sk ct ≡ key (sha3_256 m)
  unfolding dec
  its_key_is sk ct m o =
      let e = opens-extracted sk ct m o in
      rw e (key_yes (same ciphertext_numbers (sealing count (public_key count sk) m) ct) _ (rw o.sealed (same_refl ciphertext_numbers ct)))

  opens_if : (sk ct k : List ℕ) → length ct ≡ ciphertext_numbers → dec count sk ct ≡ key k → Opens count sk ct (extracted count sk ct)
  unfolding dec extracted
  opens_if sk ct k h e =
      let m : List ℕ = extracted count sk ct in
      let s : sealing count (public_key count sk) m ≡ ct =
      same_is ciphertext_numbers _ ct (sealing-canonical count (public_key count sk) m).size h
      (yes_key (same ciphertext_numbers (sealing count (public_key count sk) m) ct) (sha3_256 m) k e) in
      record { payload = extract-bytes _; sealed = s; read = sym (extracted-sealing sk m) ∙ ap (extracted count sk) s }

  -- it gives none exactly when the regenerated ciphertext differs
  pub differs_when : (sk ct : List ℕ) → length ct ≡ ciphertext_numbers
      → (dec count sk ct ≡ differs) ↔ (sealing count (public_key count sk) (extracted count sk ct) ≢ ct)
  unfolding dec
  differs_when sk ct h =
      let m = extracted count sk ct in
      let anew = sealing count (public_key count sk) m in
      let size = (sealing-canonical count (public_key count sk) m).size in (
        (λ e f. subst is_key (sym (key_yes (same ciphertext_numbers anew ct) (sha3_256 m) (rw f (same_refl ciphertext_numbers ct))) ∙ e) tt),
        (λ ne. no_key (same ciphertext_numbers anew ct) (sha3_256 m) (λ y. ne (same_is ciphertext_numbers anew ct size h y))),
      )

  -- `dec` answers and the extracted payload is m, exactly when m opens
  pub opens_as : (sk ct m : List ℕ) → length ct ≡ ciphertext_numbers
      → ((k : List ℕ) × (dec count sk ct ≡ key k) × (extracted count sk ct ≡ m)) ↔ Opens count sk ct m
  opens_as sk ct m h = (
    (λ o. subst (Opens count sk ct) o.2 (opens_if sk ct o.0 h o.1)),
    (λ o. (sha3_256 m, its_key_is sk ct m o, opens-extracted sk ct m o)),
  )

  pub quiet_read : (sk m : List ℕ) → Bytes payload_bytes m → Quiet count sk m → Read count sk m
  unfolding noise_of noise
  quiet_read sk m h q = noise_theorem m (noise_of count sk m) h (minus-canonical 64 _ _) q

  -- for every secret key and every ciphertext of 320 numbers
  pub opening : (sk ct : List ℕ) → length ct ≡ ciphertext_numbers → Opening count sk ct
  opening sk ct h = record {
    exactly = (
      (λ o. (extracted count sk ct, opens_if sk ct o.0 h o.1)),
      (λ o. (sha3_256 o.0, its_key_is sk ct o.0 o.1)),
    );
    only_one = λ m n om on. sym (opens-extracted sk ct m om) ∙ opens-extracted sk ct n on;
    its_key = its_key_is sk ct;
    small = quiet_read sk;
  }
