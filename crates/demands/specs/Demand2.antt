-- DEMAND 2. On its stated domain each call gives the Rust's answer: that is shown by differential runs, docs/COMPARED.md. What of it is mathematics
-- is proved, of whatever the calls' contracts allow, by `demand_2` of proofs/Demand2.
use Rattle.std.specs.Prelude.{◌≡◌, List, ℕ, ◌+◌, ◌*◌, ◌^◌, ◌%◌, ◌≤◌, ◌<◌, get_or, Ok}
use Rattle.field.specs.Field.{P, Coefficients}
use Rattle.hash.specs.Fips202.{shake256, sha3_256}
use Rattle.ring.specs.Transform.{psi, brv, value}
use Rattle.ring.specs.Elements.{Remainder}
use Rattle.demands.specs.Outcomes.{size, size_mut}
use Rattle.demands.specs.Calls.{Shake256, Sha3_256, CosetNttNoswap64, CosetInttNoswap64, RingMul}

pub record Demand2 : Type 0 where
  -- Hashing is FIPS 202: the two functions on the right are the standard's own, algorithm by algorithm on bits
  pub shake256_is_fips202 : (o : Shake256) → size o.lent.0 ≤ 135 → size_mut o.lent.1.0 ≤ 9216
      → (o.answer ≡ Ok tt) × (o.after.1.0.now ≡ shake256 o.lent.0.now (size_mut o.lent.1.0))
  pub sha3_256_is_fips202 : (o : Sha3_256) → size o.lent.0 ≤ 135 → size_mut o.lent.1.0 ≡ 32
      → (o.answer ≡ Ok tt) × (o.after.1.0.now ≡ sha3_256 o.lent.0.now)
  -- The transform and its inverse undo each other on coefficients below p,
  pub there_and_back : (t : CosetNttNoswap64) (u : CosetInttNoswap64) → Coefficients 64 t.lent.0.now
      → u.lent.0.now ≡ t.after.0.now → (t.answer ≡ Ok tt) × (u.answer ≡ Ok tt) × (u.after.0.now ≡ t.lent.0.now)
  pub back_and_there : (u : CosetInttNoswap64) (t : CosetNttNoswap64) → Coefficients 64 u.lent.0.now
      → t.lent.0.now ≡ u.after.0.now → (u.answer ≡ Ok tt) × (t.answer ≡ Ok tt) × (t.after.0.now ≡ u.lent.0.now)
  -- (as two that do nothing would; but output k is the polynomial's value at psi^(2·brv(k)+1))
  pub values : (t : CosetNttNoswap64) → Coefficients 64 t.lent.0.now → (k : ℕ) → k < 64
      → (t.answer ≡ Ok tt) × (get_or t.after.0.now k 0 ≡ value (psi ^ (2 * brv k + 1) % P) t.lent.0.now)
  -- and the ring product is multiplication modulo X^64 + 1 and p: what the plain product leaves, and nothing else is left
  pub product_is_remainder : (o : RingMul) → Coefficients 64 o.lent.0.now → Coefficients 64 o.lent.1.0.now
      → size_mut o.lent.1.1.0 ≡ 64 → (o.answer ≡ Ok tt) × Remainder o.lent.0.now o.lent.1.0.now o.after.1.1.0.now
  pub only_remainder : (a b r s : List ℕ) → Coefficients 64 a → Coefficients 64 b → Remainder a b r → Remainder a b s → r ≡ s
