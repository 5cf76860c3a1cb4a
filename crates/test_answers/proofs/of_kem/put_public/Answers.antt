-- `put_public` leaves the bytes of a public key with coefficients below p.
use Rattle.std.proofs.Common.{◌≡◌, ℕ, List, ◌++◌, length, rules, arith, length-append}
use Rattle.codec.specs.Layout.{bytes}
use Rattle.codec.proofs.Layouts.{length-bytes}
use Rattle.field.specs.Field.{Coefficients}
use Rattle.laws.proofs.Parts.{put_two}
use Rattle.packets.specs.Packets.{PublicKey}
use Rattle.packets.specs.Layout.{public_bytes, public_of}
use Rattle.packets.proofs.Delivery.{public-back}
use Rattle.test_answers.proofs.of_kem.put_public.Goals as goal

-- bytes that are a seed and then packed coefficients
canonical : (q ga r l : List ℕ) → length q ≡ 32 → Coefficients 256 ga → r ≡ bytes ga → l ≡ q ++ r
    → (length l ≡ 2080) × Coefficients 256 (public_of l).ga
unfolding public_bytes
canonical q ga r l hq hg e p =
    let pk : PublicKey = record { seed = q; ga = ga } in
    (rw (p, length-append, e) (omega (arith, length-bytes ga, hg.size)), rw (p, e, public-back pk hq hg) hg)

pub returns : goal.returns
returns c =
    let q = c.copy_from_slice.new.self in
    let r = c.pack.new.out in
    let ga = c.args.ga.now in
    let hq : length q ≡ 32 = search rules in
    let hg : Coefficients 256 ga = search rules in
    let e : r ≡ bytes ga = c.pack.ensures in
    canonical q ga r _ hq hg e (put_two 32 2048 q r c.args.public.now hq (rw e (omega (arith, length-bytes ga, hg.size))) (search rules))
