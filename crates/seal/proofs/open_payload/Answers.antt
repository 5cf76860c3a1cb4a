-- `open_payload` extracts and seals again as `dec` is defined.
use mathlib.Core.Path.{◌≡◌, ap, ◌∙◌, sym}
use mathlib.Core.List.{List}
use Prim.Native.Nat.{ℕ}
use Rattle.codec.specs.Sizes.{ciphertext_numbers}
use Rattle.ring.specs.Matrices.{transforms}
use Rattle.lanes.specs.Messages.{extract}
use Rattle.lanes.specs.Samplers.{ones, uniforms}
use Rattle.hash.specs.Fips202.{shake256}
use Rattle.packets.specs.Parameters.{matrix_numbers, matrix_bytes}
use Rattle.packets.specs.Packets.{G, first, second, ga_of, bg_of, bga_m_of, public_key, sealing, extracted, same}
use Rattle.seal.specs.Sealing.{sealed_for, unmasked}
use Rattle.seal.proofs.Halves.{whole_seed}
use Rattle.seal.proofs.Compare.{given, not_given}
use Rattle.seal.proofs.open_payload.Goals as goal
use Rattle.seal.proofs.open_payload.Goals.{After-begin_matrix-stream, After-extract_payload-payload, After-regenerates-is_same}

payload_is : (c : After-extract_payload-payload) → c.extract_payload-payload.result ≡ extracted ones c.args.secret.now c.args.ciphertext.numbers.now
unfolding extracted
payload_is c =
    let a = c.begin_matrix-stream.ensures.1.left_is ∙ (λ t. transforms 4 (first ones (c.split_at.ensures.front t))) in
    c.extract_payload-payload.ensures ∙ ap (λ (l : List ℕ). extract (unmasked l c.args.ciphertext.numbers.now)) a

is_same_as : (c : After-regenerates-is_same) → c.extract_payload-payload.result ≡ extracted ones c.args.secret.now c.args.ciphertext.numbers.now
    → c.regenerates-is_same.result
    ≡ same ciphertext_numbers (sealing ones (public_key ones c.args.secret.now) (extracted ones c.args.secret.now c.args.ciphertext.numbers.now))
    c.args.ciphertext.numbers.now
unfolding sealing public_key bg_of bga_m_of ga_of G
is_same_as c m =
    let made = c.begin_matrix-stream.ensures in
    let key = c.split_at.ensures.front in
    let seed = c.split_at.ensures.back ∙ whole_seed _ c.requires in
    let g = ap (uniforms matrix_numbers) (made.0.whole ∙ (λ t. shake256 (seed t) matrix_bytes)) in
    let a = made.1.left_is ∙ (λ t. transforms 4 (first ones (key t))) in
    let k = made.1.right_is ∙ (λ t. transforms 4 (second ones (key t))) in
    c.regenerates-is_same.ensures
    ∙ (λ t. same ciphertext_numbers (sealed_for (g t) (a t) (k t) (transforms 4 (first ones (m t))) (transforms 4 (second ones (m t))) (m t))
    c.args.ciphertext.numbers.now)

pub returns-then-is_same : goal.returns-then-is_same
returns-then-is_same c =
    let at = goal.at.returns-then-is_same c in
    let m = payload_is at.After-extract_payload-payload in
    given _ (sym (is_same_as at.After-regenerates-is_same m) ∙ c.if-is_same.true) m

pub returns-else-is_same : goal.returns-else-is_same
returns-else-is_same c =
    let at = goal.at.returns-else-is_same c in
    let m = payload_is at.After-extract_payload-payload in
    not_given _ _ (sym (is_same_as at.After-regenerates-is_same m) ∙ c.if-is_same.false)
