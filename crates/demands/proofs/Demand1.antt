-- DEMAND 1: `demand_1`. What a call promises is a `Call` of refusals, and the table holds of every such call.
use mathlib.Core.Path.{◌∙◌}
use Rattle.refusals.proofs.Calls.{as_each}
use Rattle.demands.specs.Demand1.{Refused, Demand1}
use Rattle.demands.proofs.Answered.{answered}
use Rattle.demands.proofs.Table.{the_table, plain_table}
use Rattle.demands.proofs.Causes.{verdict_late, inverse_late}
use Rattle.demands.proofs.Jobs.{five_when, front, no_room_left, keygen_kind, enc_kind, dec_kind, keygen_as, enc_as, dec_as}

refused : Refused
refused = record {
  field_new = λ o. o.allowed;
  field_value = λ o. plain_table _ _ _ _ _ o.allowed;
  field_add = λ o. plain_table _ _ _ _ _ o.allowed;
  field_sub = λ o. plain_table _ _ _ _ _ o.allowed;
  field_mul = λ o. plain_table _ _ _ _ _ o.allowed;
  field_neg = λ o. plain_table _ _ _ _ _ o.allowed;
  field_inverse = λ o. the_table _ _ _ _ _ _ _ (inverse_late o.lent.0) o.allowed;
  field_mod_pow = λ o. plain_table _ _ _ _ _ o.allowed;
  coset_ntt_noswap_64 = λ o. plain_table _ _ _ _ _ o.allowed;
  coset_intt_noswap_64 = λ o. plain_table _ _ _ _ _ o.allowed;
  ring_add = λ o. plain_table _ _ _ _ _ o.allowed;
  ring_sub = λ o. plain_table _ _ _ _ _ o.allowed;
  ring_mul = λ o. plain_table _ _ _ _ _ o.allowed;
  matrix_times_column = λ o. plain_table _ _ _ _ _ o.allowed;
  row_times_matrix = λ o. plain_table _ _ _ _ _ o.allowed;
  row_times_column = λ o. plain_table _ _ _ _ _ o.allowed;
  sample_short_bfield_element = λ o. plain_table _ _ _ _ _ o.allowed;
  sample_short = λ o. plain_table _ _ _ _ _ o.allowed;
  sample_uniform = λ o. plain_table _ _ _ _ _ o.allowed;
  embed_msg = λ o. plain_table _ _ _ _ _ o.allowed;
  extract_msg = λ o. plain_table _ _ _ _ _ o.allowed;
  shake256 = λ o. plain_table _ _ _ _ _ o.allowed;
  sha3_256 = λ o. plain_table _ _ _ _ _ o.allowed;
  keygen = λ o. plain_table _ _ _ _ _ o.allowed;
  enc = λ o. plain_table _ _ _ _ _ o.allowed;
  enc_numbers = λ o. plain_table _ _ _ _ _ o.allowed;
  dec = λ o. the_table _ _ _ _ _ _ _ (verdict_late _ _ _ (λ c. (as_each _ c).1.0.1.size)) o.allowed;
  dec_numbers = λ o. the_table _ _ _ _ _ _ _ (verdict_late _ _ _ (λ c. (as_each _ c).1.0.size)) o.allowed;
  clear = λ o. plain_table _ _ _ _ _ o.allowed;
  record_is = λ o. o.allowed;
  exactly_5 = λ o room. rw (front _ _ _ _ room o.allowed) (five_when o.lent.0.now);
  keygen_job = λ o k room j r s p. front _ _ _ _ room o.allowed ∙ keygen_kind _ j ∙ keygen_as _ _ _ _ _ _ _ _ _ r s p k.allowed;
  enc_job = λ o e room j pk r s t. front _ _ _ _ room o.allowed ∙ enc_kind _ j ∙ enc_as _ _ _ _ _ _ _ _ _ _ _ pk r s t e.allowed;
  dec_job = λ o d room j sk ct s. front _ _ _ _ room o.allowed ∙ dec_kind _ j ∙ dec_as _ _ _ _ _ _ _ _ sk ct s d.allowed;
  no_room = λ o h. no_room_left _ _ _ _ h o.allowed;
}

pub demand_1 : Demand1
demand_1 = record { answered = answered; refused = refused }
