-- Any bytes of any length get an answer and an end, and public calls check lengths and coefficients themselves: each call always ends with an
-- outcome that its contract allows, and none demands anything. One entry a call.
use Rattle.refusals.proofs as refusals
use Rattle.field_calls.proofs as field
use Rattle.ring_calls.proofs as ring
use Rattle.lane_calls.proofs as lane
use Rattle.hash_calls.proofs as hash
use Rattle.kem_calls.proofs as kem
use Rattle.job_calls.proofs as job
use Rattle.demands.specs.Outcomes.{Total}

pub record Answered : Type 2 where
  pub field_new : Total _ field.new.Kinds.ps field.new.Kinds.r
      field.new.Symbol.name field.new.Symbol.code
      field.new.Reads.Asked field.new.Reads.Learnt field.new.Statement.statement
  pub field_value : Total _ field.value.Kinds.ps field.value.Kinds.r
      field.value.Symbol.name field.value.Symbol.code
      field.value.Reads.Asked field.value.Reads.Learnt field.value.Statement.statement
  pub field_add : Total _ field.add.Kinds.ps field.add.Kinds.r
      field.add.Symbol.name field.add.Symbol.code
      field.add.Reads.Asked field.add.Reads.Learnt field.add.Statement.statement
  pub field_sub : Total _ field.sub.Kinds.ps field.sub.Kinds.r
      field.sub.Symbol.name field.sub.Symbol.code
      field.sub.Reads.Asked field.sub.Reads.Learnt field.sub.Statement.statement
  pub field_mul : Total _ field.mul.Kinds.ps field.mul.Kinds.r
      field.mul.Symbol.name field.mul.Symbol.code
      field.mul.Reads.Asked field.mul.Reads.Learnt field.mul.Statement.statement
  pub field_neg : Total _ field.neg.Kinds.ps field.neg.Kinds.r
      field.neg.Symbol.name field.neg.Symbol.code
      field.neg.Reads.Asked field.neg.Reads.Learnt field.neg.Statement.statement
  pub field_inverse : Total _ field.inverse.Kinds.ps field.inverse.Kinds.r
      field.inverse.Symbol.name field.inverse.Symbol.code
      field.inverse.Reads.Asked field.inverse.Reads.Learnt field.inverse.Statement.statement
  pub field_mod_pow : Total _ field.mod_pow.Kinds.ps field.mod_pow.Kinds.r
      field.mod_pow.Symbol.name field.mod_pow.Symbol.code
      field.mod_pow.Reads.Asked field.mod_pow.Reads.Learnt field.mod_pow.Statement.statement
  pub coset_ntt_noswap_64 : Total _ ring.coset_ntt_noswap_64.Kinds.ps ring.coset_ntt_noswap_64.Kinds.r
      ring.coset_ntt_noswap_64.Symbol.name ring.coset_ntt_noswap_64.Symbol.code
      ring.coset_ntt_noswap_64.Reads.Asked ring.coset_ntt_noswap_64.Reads.Learnt ring.coset_ntt_noswap_64.Statement.statement
  pub coset_intt_noswap_64 : Total _ ring.coset_intt_noswap_64.Kinds.ps ring.coset_intt_noswap_64.Kinds.r
      ring.coset_intt_noswap_64.Symbol.name ring.coset_intt_noswap_64.Symbol.code
      ring.coset_intt_noswap_64.Reads.Asked ring.coset_intt_noswap_64.Reads.Learnt ring.coset_intt_noswap_64.Statement.statement
  pub ring_add : Total _ ring.add.Kinds.ps ring.add.Kinds.r
      ring.add.Symbol.name ring.add.Symbol.code
      ring.add.Reads.Asked ring.add.Reads.Learnt ring.add.Statement.statement
  pub ring_sub : Total _ ring.sub.Kinds.ps ring.sub.Kinds.r
      ring.sub.Symbol.name ring.sub.Symbol.code
      ring.sub.Reads.Asked ring.sub.Reads.Learnt ring.sub.Statement.statement
  pub ring_mul : Total _ ring.mul.Kinds.ps ring.mul.Kinds.r
      ring.mul.Symbol.name ring.mul.Symbol.code
      ring.mul.Reads.Asked ring.mul.Reads.Learnt ring.mul.Statement.statement
  pub matrix_times_column : Total _ ring.matrix_times_column.Kinds.ps ring.matrix_times_column.Kinds.r
      ring.matrix_times_column.Symbol.name ring.matrix_times_column.Symbol.code
      ring.matrix_times_column.Reads.Asked ring.matrix_times_column.Reads.Learnt ring.matrix_times_column.Statement.statement
  pub row_times_matrix : Total _ ring.row_times_matrix.Kinds.ps ring.row_times_matrix.Kinds.r
      ring.row_times_matrix.Symbol.name ring.row_times_matrix.Symbol.code
      ring.row_times_matrix.Reads.Asked ring.row_times_matrix.Reads.Learnt ring.row_times_matrix.Statement.statement
  pub row_times_column : Total _ ring.row_times_column.Kinds.ps ring.row_times_column.Kinds.r
      ring.row_times_column.Symbol.name ring.row_times_column.Symbol.code
      ring.row_times_column.Reads.Asked ring.row_times_column.Reads.Learnt ring.row_times_column.Statement.statement
  pub sample_short_bfield_element : Total _ lane.sample_short_bfield_element.Kinds.ps lane.sample_short_bfield_element.Kinds.r
      lane.sample_short_bfield_element.Symbol.name lane.sample_short_bfield_element.Symbol.code lane.sample_short_bfield_element.Reads.Asked
      lane.sample_short_bfield_element.Reads.Learnt lane.sample_short_bfield_element.Statement.statement
  pub sample_short : Total _ lane.sample_short.Kinds.ps lane.sample_short.Kinds.r
      lane.sample_short.Symbol.name lane.sample_short.Symbol.code
      lane.sample_short.Reads.Asked lane.sample_short.Reads.Learnt lane.sample_short.Statement.statement
  pub sample_uniform : Total _ lane.sample_uniform.Kinds.ps lane.sample_uniform.Kinds.r
      lane.sample_uniform.Symbol.name lane.sample_uniform.Symbol.code
      lane.sample_uniform.Reads.Asked lane.sample_uniform.Reads.Learnt lane.sample_uniform.Statement.statement
  pub embed_msg : Total _ lane.embed_msg.Kinds.ps lane.embed_msg.Kinds.r
      lane.embed_msg.Symbol.name lane.embed_msg.Symbol.code
      lane.embed_msg.Reads.Asked lane.embed_msg.Reads.Learnt lane.embed_msg.Statement.statement
  pub extract_msg : Total _ lane.extract_msg.Kinds.ps lane.extract_msg.Kinds.r
      lane.extract_msg.Symbol.name lane.extract_msg.Symbol.code
      lane.extract_msg.Reads.Asked lane.extract_msg.Reads.Learnt lane.extract_msg.Statement.statement
  pub shake256 : Total _ hash.shake256.Kinds.ps hash.shake256.Kinds.r
      hash.shake256.Symbol.name hash.shake256.Symbol.code
      hash.shake256.Reads.Asked hash.shake256.Reads.Learnt hash.shake256.Statement.statement
  pub sha3_256 : Total _ hash.sha3_256.Kinds.ps hash.sha3_256.Kinds.r
      hash.sha3_256.Symbol.name hash.sha3_256.Symbol.code
      hash.sha3_256.Reads.Asked hash.sha3_256.Reads.Learnt hash.sha3_256.Statement.statement
  pub keygen : Total _ kem.keygen.Kinds.ps kem.keygen.Kinds.r
      kem.keygen.Symbol.name kem.keygen.Symbol.code
      kem.keygen.Reads.Asked kem.keygen.Reads.Learnt kem.keygen.Statement.statement
  pub enc : Total _ kem.enc.Kinds.ps kem.enc.Kinds.r
      kem.enc.Symbol.name kem.enc.Symbol.code
      kem.enc.Reads.Asked kem.enc.Reads.Learnt kem.enc.Statement.statement
  pub enc_numbers : Total _ kem.enc_numbers.Kinds.ps kem.enc_numbers.Kinds.r
      kem.enc_numbers.Symbol.name kem.enc_numbers.Symbol.code
      kem.enc_numbers.Reads.Asked kem.enc_numbers.Reads.Learnt kem.enc_numbers.Statement.statement
  pub dec : Total _ kem.dec.Kinds.ps kem.dec.Kinds.r
      kem.dec.Symbol.name kem.dec.Symbol.code
      kem.dec.Reads.Asked kem.dec.Reads.Learnt kem.dec.Statement.statement
  pub dec_numbers : Total _ kem.dec_numbers.Kinds.ps kem.dec_numbers.Kinds.r
      kem.dec_numbers.Symbol.name kem.dec_numbers.Symbol.code
      kem.dec_numbers.Reads.Asked kem.dec_numbers.Reads.Learnt kem.dec_numbers.Statement.statement
  pub clear : Total _ kem.clear.Kinds.ps kem.clear.Kinds.r
      kem.clear.Symbol.name kem.clear.Symbol.code
      kem.clear.Reads.Asked kem.clear.Reads.Learnt kem.clear.Statement.statement
  pub job : Total _ job.job.Kinds.ps job.job.Kinds.r
      job.job.Symbol.name job.job.Symbol.code
      job.job.Reads.Asked job.job.Reads.Learnt job.job.Statement.statement
  -- and so are a refusal's record and the steps of judging
  pub refusal_record : Total _ refusals.RecordFromRefusal.from.Kinds.ps refusals.RecordFromRefusal.from.Kinds.r
      refusals.RecordFromRefusal.from.Symbol.name refusals.RecordFromRefusal.from.Symbol.code
      refusals.RecordFromRefusal.from.Reads.Asked refusals.RecordFromRefusal.from.Reads.Learnt refusals.RecordFromRefusal.from.Statement.statement
  pub step_unless : Total _ refusals.unless.Kinds.ps refusals.unless.Kinds.r
      refusals.unless.Symbol.name refusals.unless.Symbol.code
      refusals.unless.Reads.Asked refusals.unless.Reads.Learnt refusals.unless.Statement.statement
  pub step_sized : Total _ refusals.sized.Kinds.ps refusals.sized.Kinds.r
      refusals.sized.Symbol.name refusals.sized.Symbol.code
      refusals.sized.Reads.Asked refusals.sized.Reads.Learnt refusals.sized.Statement.statement
  pub step_value : Total _ refusals.value.Kinds.ps refusals.value.Kinds.r
      refusals.value.Symbol.name refusals.value.Symbol.code
      refusals.value.Reads.Asked refusals.value.Reads.Learnt refusals.value.Statement.statement
  pub step_numbers : Total _ refusals.numbers.Kinds.ps refusals.numbers.Kinds.r
      refusals.numbers.Symbol.name refusals.numbers.Symbol.code
      refusals.numbers.Reads.Asked refusals.numbers.Reads.Learnt refusals.numbers.Statement.statement
  pub step_packed : Total _ refusals.packed.Kinds.ps refusals.packed.Kinds.r
      refusals.packed.Symbol.name refusals.packed.Symbol.code
      refusals.packed.Reads.Asked refusals.packed.Reads.Learnt refusals.packed.Statement.statement
