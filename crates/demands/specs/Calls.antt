-- The outcomes of each public call, one line a call.
use Rattle.refusals.proofs as refusals
use Rattle.field_calls.proofs as field
use Rattle.ring_calls.proofs as ring
use Rattle.lane_calls.proofs as lane
use Rattle.hash_calls.proofs as hash
use Rattle.kem_calls.proofs as kem
use Rattle.job_calls.proofs as job
use Rattle.demands.specs.Outcomes.{Outcome}

abbrev pub RefusalRecord : Type 0
RefusalRecord =
    Outcome _ refusals.RecordFromRefusal.from.Kinds.ps refusals.RecordFromRefusal.from.Kinds.r refusals.RecordFromRefusal.from.Reads.Learnt

abbrev pub FieldNew : Type 0
FieldNew = Outcome _ field.new.Kinds.ps field.new.Kinds.r field.new.Reads.Learnt

abbrev pub FieldValue : Type 0
FieldValue = Outcome _ field.value.Kinds.ps field.value.Kinds.r field.value.Reads.Learnt

abbrev pub FieldAdd : Type 0
FieldAdd = Outcome _ field.add.Kinds.ps field.add.Kinds.r field.add.Reads.Learnt

abbrev pub FieldSub : Type 0
FieldSub = Outcome _ field.sub.Kinds.ps field.sub.Kinds.r field.sub.Reads.Learnt

abbrev pub FieldMul : Type 0
FieldMul = Outcome _ field.mul.Kinds.ps field.mul.Kinds.r field.mul.Reads.Learnt

abbrev pub FieldNeg : Type 0
FieldNeg = Outcome _ field.neg.Kinds.ps field.neg.Kinds.r field.neg.Reads.Learnt

abbrev pub FieldInverse : Type 0
FieldInverse = Outcome _ field.inverse.Kinds.ps field.inverse.Kinds.r field.inverse.Reads.Learnt

abbrev pub FieldModPow : Type 0
FieldModPow = Outcome _ field.mod_pow.Kinds.ps field.mod_pow.Kinds.r field.mod_pow.Reads.Learnt

abbrev pub CosetNttNoswap64 : Type 0
CosetNttNoswap64 = Outcome _ ring.coset_ntt_noswap_64.Kinds.ps ring.coset_ntt_noswap_64.Kinds.r ring.coset_ntt_noswap_64.Reads.Learnt

abbrev pub CosetInttNoswap64 : Type 0
CosetInttNoswap64 = Outcome _ ring.coset_intt_noswap_64.Kinds.ps ring.coset_intt_noswap_64.Kinds.r ring.coset_intt_noswap_64.Reads.Learnt

abbrev pub RingAdd : Type 0
RingAdd = Outcome _ ring.add.Kinds.ps ring.add.Kinds.r ring.add.Reads.Learnt

abbrev pub RingSub : Type 0
RingSub = Outcome _ ring.sub.Kinds.ps ring.sub.Kinds.r ring.sub.Reads.Learnt

abbrev pub RingMul : Type 0
RingMul = Outcome _ ring.mul.Kinds.ps ring.mul.Kinds.r ring.mul.Reads.Learnt

abbrev pub MatrixTimesColumn : Type 0
MatrixTimesColumn = Outcome _ ring.matrix_times_column.Kinds.ps ring.matrix_times_column.Kinds.r ring.matrix_times_column.Reads.Learnt

abbrev pub RowTimesMatrix : Type 0
RowTimesMatrix = Outcome _ ring.row_times_matrix.Kinds.ps ring.row_times_matrix.Kinds.r ring.row_times_matrix.Reads.Learnt

abbrev pub RowTimesColumn : Type 0
RowTimesColumn = Outcome _ ring.row_times_column.Kinds.ps ring.row_times_column.Kinds.r ring.row_times_column.Reads.Learnt

abbrev pub SampleShortBfieldElement : Type 0
SampleShortBfieldElement =
    Outcome _ lane.sample_short_bfield_element.Kinds.ps lane.sample_short_bfield_element.Kinds.r
    lane.sample_short_bfield_element.Reads.Learnt

abbrev pub SampleShort : Type 0
SampleShort = Outcome _ lane.sample_short.Kinds.ps lane.sample_short.Kinds.r lane.sample_short.Reads.Learnt

abbrev pub SampleUniform : Type 0
SampleUniform = Outcome _ lane.sample_uniform.Kinds.ps lane.sample_uniform.Kinds.r lane.sample_uniform.Reads.Learnt

abbrev pub EmbedMsg : Type 0
EmbedMsg = Outcome _ lane.embed_msg.Kinds.ps lane.embed_msg.Kinds.r lane.embed_msg.Reads.Learnt

abbrev pub ExtractMsg : Type 0
ExtractMsg = Outcome _ lane.extract_msg.Kinds.ps lane.extract_msg.Kinds.r lane.extract_msg.Reads.Learnt

abbrev pub Shake256 : Type 0
Shake256 = Outcome _ hash.shake256.Kinds.ps hash.shake256.Kinds.r hash.shake256.Reads.Learnt

abbrev pub Sha3_256 : Type 0
Sha3_256 = Outcome _ hash.sha3_256.Kinds.ps hash.sha3_256.Kinds.r hash.sha3_256.Reads.Learnt

abbrev pub Keygen : Type 0
Keygen = Outcome _ kem.keygen.Kinds.ps kem.keygen.Kinds.r kem.keygen.Reads.Learnt

abbrev pub Enc : Type 0
Enc = Outcome _ kem.enc.Kinds.ps kem.enc.Kinds.r kem.enc.Reads.Learnt

abbrev pub EncNumbers : Type 0
EncNumbers = Outcome _ kem.enc_numbers.Kinds.ps kem.enc_numbers.Kinds.r kem.enc_numbers.Reads.Learnt

abbrev pub Dec : Type 0
Dec = Outcome _ kem.dec.Kinds.ps kem.dec.Kinds.r kem.dec.Reads.Learnt

abbrev pub DecNumbers : Type 0
DecNumbers = Outcome _ kem.dec_numbers.Kinds.ps kem.dec_numbers.Kinds.r kem.dec_numbers.Reads.Learnt

abbrev pub Clear : Type 0
Clear = Outcome _ kem.clear.Kinds.ps kem.clear.Kinds.r kem.clear.Reads.Learnt

abbrev pub Job : Type 0
Job = Outcome _ job.job.Kinds.ps job.job.Kinds.r job.job.Reads.Learnt
