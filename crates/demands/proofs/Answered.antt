-- Every public call is proved to meet its contract, and its contract demands nothing.
use prog.Routine.{Env}
use contract.Running.{within}
use borrow.Fn.World.{World}
use Rattle.refusals.proofs as refusals
use Rattle.field_calls.proofs as field
use Rattle.ring_calls.proofs as ring
use Rattle.lane_calls.proofs as lane
use Rattle.hash_calls.proofs as hash
use Rattle.kem_calls.proofs as kem
use Rattle.job_calls.proofs as job
use Rattle.demands.specs.Answered.{Answered}

-- the world in which names mean what they mean in δ
abbrev at : World → Env → World
at w δ = record { M = w.M; 𝓤 = w.𝓤; 𝓛 = w.𝓛; 𝓜 = w.𝓜; 𝓡 = within w.𝓤 w.𝓛.H w.𝓜 w.𝓡 δ }

pub answered : Answered
answered = record {
  field_new = record {
    ends = field.new.Met.met;
    with_outcome = λ w δ γ k wired e.
        field.new.Reads.known (at w δ) γ k _ e
        (field.new.Met.met w.𝓤 w.𝓛 w.𝓜 (at w δ).𝓡 wired);
    demands_nothing = λ κs lent. tt;
  };
  field_value = record {
    ends = field.value.Met.met;
    with_outcome = λ w δ γ k wired e.
        field.value.Reads.known (at w δ) γ k _ e
        (field.value.Met.met w.𝓤 w.𝓛 w.𝓜 (at w δ).𝓡 wired);
    demands_nothing = λ κs lent. tt;
  };
  field_add = record {
    ends = field.add.Met.met;
    with_outcome = λ w δ γ k wired e.
        field.add.Reads.known (at w δ) γ k _ e
        (field.add.Met.met w.𝓤 w.𝓛 w.𝓜 (at w δ).𝓡 wired);
    demands_nothing = λ κs lent. tt;
  };
  field_sub = record {
    ends = field.sub.Met.met;
    with_outcome = λ w δ γ k wired e.
        field.sub.Reads.known (at w δ) γ k _ e
        (field.sub.Met.met w.𝓤 w.𝓛 w.𝓜 (at w δ).𝓡 wired);
    demands_nothing = λ κs lent. tt;
  };
  field_mul = record {
    ends = field.mul.Met.met;
    with_outcome = λ w δ γ k wired e.
        field.mul.Reads.known (at w δ) γ k _ e
        (field.mul.Met.met w.𝓤 w.𝓛 w.𝓜 (at w δ).𝓡 wired);
    demands_nothing = λ κs lent. tt;
  };
  field_neg = record {
    ends = field.neg.Met.met;
    with_outcome = λ w δ γ k wired e.
        field.neg.Reads.known (at w δ) γ k _ e
        (field.neg.Met.met w.𝓤 w.𝓛 w.𝓜 (at w δ).𝓡 wired);
    demands_nothing = λ κs lent. tt;
  };
  field_inverse = record {
    ends = field.inverse.Met.met;
    with_outcome = λ w δ γ k wired e.
        field.inverse.Reads.known (at w δ) γ k _ e
        (field.inverse.Met.met w.𝓤 w.𝓛 w.𝓜 (at w δ).𝓡 wired);
    demands_nothing = λ κs lent. tt;
  };
  field_mod_pow = record {
    ends = field.mod_pow.Met.met;
    with_outcome = λ w δ γ k wired e.
        field.mod_pow.Reads.known (at w δ) γ k _ e
        (field.mod_pow.Met.met w.𝓤 w.𝓛 w.𝓜 (at w δ).𝓡 wired);
    demands_nothing = λ κs lent. tt;
  };
  coset_ntt_noswap_64 = record {
    ends = ring.coset_ntt_noswap_64.Met.met;
    with_outcome = λ w δ γ k wired e.
        ring.coset_ntt_noswap_64.Reads.known (at w δ) γ k _ e
        (ring.coset_ntt_noswap_64.Met.met w.𝓤 w.𝓛 w.𝓜 (at w δ).𝓡 wired);
    demands_nothing = λ κs lent. tt;
  };
  coset_intt_noswap_64 = record {
    ends = ring.coset_intt_noswap_64.Met.met;
    with_outcome = λ w δ γ k wired e.
        ring.coset_intt_noswap_64.Reads.known (at w δ) γ k _ e
        (ring.coset_intt_noswap_64.Met.met w.𝓤 w.𝓛 w.𝓜 (at w δ).𝓡 wired);
    demands_nothing = λ κs lent. tt;
  };
  ring_add = record {
    ends = ring.add.Met.met;
    with_outcome = λ w δ γ k wired e.
        ring.add.Reads.known (at w δ) γ k _ e
        (ring.add.Met.met w.𝓤 w.𝓛 w.𝓜 (at w δ).𝓡 wired);
    demands_nothing = λ κs lent. tt;
  };
  ring_sub = record {
    ends = ring.sub.Met.met;
    with_outcome = λ w δ γ k wired e.
        ring.sub.Reads.known (at w δ) γ k _ e
        (ring.sub.Met.met w.𝓤 w.𝓛 w.𝓜 (at w δ).𝓡 wired);
    demands_nothing = λ κs lent. tt;
  };
  ring_mul = record {
    ends = ring.mul.Met.met;
    with_outcome = λ w δ γ k wired e.
        ring.mul.Reads.known (at w δ) γ k _ e
        (ring.mul.Met.met w.𝓤 w.𝓛 w.𝓜 (at w δ).𝓡 wired);
    demands_nothing = λ κs lent. tt;
  };
  matrix_times_column = record {
    ends = ring.matrix_times_column.Met.met;
    with_outcome = λ w δ γ k wired e.
        ring.matrix_times_column.Reads.known (at w δ) γ k _ e
        (ring.matrix_times_column.Met.met w.𝓤 w.𝓛 w.𝓜 (at w δ).𝓡 wired);
    demands_nothing = λ κs lent. tt;
  };
  row_times_matrix = record {
    ends = ring.row_times_matrix.Met.met;
    with_outcome = λ w δ γ k wired e.
        ring.row_times_matrix.Reads.known (at w δ) γ k _ e
        (ring.row_times_matrix.Met.met w.𝓤 w.𝓛 w.𝓜 (at w δ).𝓡 wired);
    demands_nothing = λ κs lent. tt;
  };
  row_times_column = record {
    ends = ring.row_times_column.Met.met;
    with_outcome = λ w δ γ k wired e.
        ring.row_times_column.Reads.known (at w δ) γ k _ e
        (ring.row_times_column.Met.met w.𝓤 w.𝓛 w.𝓜 (at w δ).𝓡 wired);
    demands_nothing = λ κs lent. tt;
  };
  sample_short_bfield_element = record {
    ends = lane.sample_short_bfield_element.Met.met;
    with_outcome = λ w δ γ k wired e.
        lane.sample_short_bfield_element.Reads.known (at w δ) γ k _ e
        (lane.sample_short_bfield_element.Met.met w.𝓤 w.𝓛 w.𝓜 (at w δ).𝓡 wired);
    demands_nothing = λ κs lent. tt;
  };
  sample_short = record {
    ends = lane.sample_short.Met.met;
    with_outcome = λ w δ γ k wired e.
        lane.sample_short.Reads.known (at w δ) γ k _ e
        (lane.sample_short.Met.met w.𝓤 w.𝓛 w.𝓜 (at w δ).𝓡 wired);
    demands_nothing = λ κs lent. tt;
  };
  sample_uniform = record {
    ends = lane.sample_uniform.Met.met;
    with_outcome = λ w δ γ k wired e.
        lane.sample_uniform.Reads.known (at w δ) γ k _ e
        (lane.sample_uniform.Met.met w.𝓤 w.𝓛 w.𝓜 (at w δ).𝓡 wired);
    demands_nothing = λ κs lent. tt;
  };
  embed_msg = record {
    ends = lane.embed_msg.Met.met;
    with_outcome = λ w δ γ k wired e.
        lane.embed_msg.Reads.known (at w δ) γ k _ e
        (lane.embed_msg.Met.met w.𝓤 w.𝓛 w.𝓜 (at w δ).𝓡 wired);
    demands_nothing = λ κs lent. tt;
  };
  extract_msg = record {
    ends = lane.extract_msg.Met.met;
    with_outcome = λ w δ γ k wired e.
        lane.extract_msg.Reads.known (at w δ) γ k _ e
        (lane.extract_msg.Met.met w.𝓤 w.𝓛 w.𝓜 (at w δ).𝓡 wired);
    demands_nothing = λ κs lent. tt;
  };
  shake256 = record {
    ends = hash.shake256.Met.met;
    with_outcome = λ w δ γ k wired e.
        hash.shake256.Reads.known (at w δ) γ k _ e
        (hash.shake256.Met.met w.𝓤 w.𝓛 w.𝓜 (at w δ).𝓡 wired);
    demands_nothing = λ κs lent. tt;
  };
  sha3_256 = record {
    ends = hash.sha3_256.Met.met;
    with_outcome = λ w δ γ k wired e.
        hash.sha3_256.Reads.known (at w δ) γ k _ e
        (hash.sha3_256.Met.met w.𝓤 w.𝓛 w.𝓜 (at w δ).𝓡 wired);
    demands_nothing = λ κs lent. tt;
  };
  keygen = record {
    ends = kem.keygen.Met.met;
    with_outcome = λ w δ γ k wired e.
        kem.keygen.Reads.known (at w δ) γ k _ e
        (kem.keygen.Met.met w.𝓤 w.𝓛 w.𝓜 (at w δ).𝓡 wired);
    demands_nothing = λ κs lent. tt;
  };
  enc = record {
    ends = kem.enc.Met.met;
    with_outcome = λ w δ γ k wired e.
        kem.enc.Reads.known (at w δ) γ k _ e
        (kem.enc.Met.met w.𝓤 w.𝓛 w.𝓜 (at w δ).𝓡 wired);
    demands_nothing = λ κs lent. tt;
  };
  enc_numbers = record {
    ends = kem.enc_numbers.Met.met;
    with_outcome = λ w δ γ k wired e.
        kem.enc_numbers.Reads.known (at w δ) γ k _ e
        (kem.enc_numbers.Met.met w.𝓤 w.𝓛 w.𝓜 (at w δ).𝓡 wired);
    demands_nothing = λ κs lent. tt;
  };
  dec = record {
    ends = kem.dec.Met.met;
    with_outcome = λ w δ γ k wired e.
        kem.dec.Reads.known (at w δ) γ k _ e
        (kem.dec.Met.met w.𝓤 w.𝓛 w.𝓜 (at w δ).𝓡 wired);
    demands_nothing = λ κs lent. tt;
  };
  dec_numbers = record {
    ends = kem.dec_numbers.Met.met;
    with_outcome = λ w δ γ k wired e.
        kem.dec_numbers.Reads.known (at w δ) γ k _ e
        (kem.dec_numbers.Met.met w.𝓤 w.𝓛 w.𝓜 (at w δ).𝓡 wired);
    demands_nothing = λ κs lent. tt;
  };
  clear = record {
    ends = kem.clear.Met.met;
    with_outcome = λ w δ γ k wired e.
        kem.clear.Reads.known (at w δ) γ k _ e
        (kem.clear.Met.met w.𝓤 w.𝓛 w.𝓜 (at w δ).𝓡 wired);
    demands_nothing = λ κs lent. tt;
  };
  job = record {
    ends = job.job.Met.met;
    with_outcome = λ w δ γ k wired e.
        job.job.Reads.known (at w δ) γ k _ e
        (job.job.Met.met w.𝓤 w.𝓛 w.𝓜 (at w δ).𝓡 wired);
    demands_nothing = λ κs lent. tt;
  };
  refusal_record = record {
    ends = refusals.RecordFromRefusal.from.Met.met;
    with_outcome = λ w δ γ k wired e.
        refusals.RecordFromRefusal.from.Reads.known (at w δ) γ k _ e
        (refusals.RecordFromRefusal.from.Met.met w.𝓤 w.𝓛 w.𝓜 (at w δ).𝓡 wired);
    demands_nothing = λ κs lent. tt;
  };
  step_unless = record {
    ends = refusals.unless.Met.met;
    with_outcome = λ w δ γ k wired e.
        refusals.unless.Reads.known (at w δ) γ k _ e
        (refusals.unless.Met.met w.𝓤 w.𝓛 w.𝓜 (at w δ).𝓡 wired);
    demands_nothing = λ κs lent. tt;
  };
  step_sized = record {
    ends = refusals.sized.Met.met;
    with_outcome = λ w δ γ k wired e.
        refusals.sized.Reads.known (at w δ) γ k _ e
        (refusals.sized.Met.met w.𝓤 w.𝓛 w.𝓜 (at w δ).𝓡 wired);
    demands_nothing = λ κs lent. tt;
  };
  step_value = record {
    ends = refusals.value.Met.met;
    with_outcome = λ w δ γ k wired e.
        refusals.value.Reads.known (at w δ) γ k _ e
        (refusals.value.Met.met w.𝓤 w.𝓛 w.𝓜 (at w δ).𝓡 wired);
    demands_nothing = λ κs lent. tt;
  };
  step_numbers = record {
    ends = refusals.numbers.Met.met;
    with_outcome = λ w δ γ k wired e.
        refusals.numbers.Reads.known (at w δ) γ k _ e
        (refusals.numbers.Met.met w.𝓤 w.𝓛 w.𝓜 (at w δ).𝓡 wired);
    demands_nothing = λ κs lent. tt;
  };
  step_packed = record {
    ends = refusals.packed.Met.met;
    with_outcome = λ w δ γ k wired e.
        refusals.packed.Reads.known (at w δ) γ k _ e
        (refusals.packed.Met.met w.𝓤 w.𝓛 w.𝓜 (at w δ).𝓡 wired);
    demands_nothing = λ κs lent. tt;
  };
}
