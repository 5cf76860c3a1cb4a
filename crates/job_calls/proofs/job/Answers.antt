-- `job` has one answer for each kind, and number 5 for all else.
use native.Mathlib.Omega.{arith}
use Rattle.job_calls.specs.Jobs.{keygen_job_bytes, enc_job_bytes, dec_job_bytes}
use Rattle.job_calls.proofs.Choices.{job-size, keygen-written, enc-written, dec-written, no_job_written}
use Rattle.job_calls.proofs.job.Goals as goal

pub slice_bounds-keygen_job-end : goal.slice_bounds-keygen_job-end
slice_bounds-keygen_job-end c = let h = job-size _ 1 keygen_job_bytes _ c.is_job.ensures c.if-is_job.true in omega (arith, h)

pub slice_bounds-enc_job-end : goal.slice_bounds-enc_job-end
slice_bounds-enc_job-end c = let h = job-size _ 2 enc_job_bytes _ c.is_job-else-is_job.ensures c.if-is_job-2.true in omega (arith, h)

pub slice_bounds-enc_job-end-then-is_job-2 : goal.slice_bounds-enc_job-end-then-is_job-2
slice_bounds-enc_job-end-then-is_job-2 c = let h = job-size _ 2 enc_job_bytes _ c.is_job-else-is_job.ensures c.if-is_job-2.true in omega (arith, h)

pub slice_bounds-dec_job-end : goal.slice_bounds-dec_job-end
slice_bounds-dec_job-end c = let h = job-size _ 3 dec_job_bytes _ c.is_job-else-is_job-2.ensures c.if-is_job-3.true in omega (arith, h)

pub slice_bounds-dec_job-end-then-is_job-3 : goal.slice_bounds-dec_job-end-then-is_job-3
slice_bounds-dec_job-end-then-is_job-3 c = let h = job-size _ 3 dec_job_bytes _ c.is_job-else-is_job-2.ensures c.if-is_job-3.true in omega (arith, h)

pub returns-then-is_job : goal.returns-then-is_job
returns-then-is_job c = search keygen-written

pub returns-then-is_job-2 : goal.returns-then-is_job-2
returns-then-is_job-2 c = search enc-written

pub returns-then-is_job-3 : goal.returns-then-is_job-3
returns-then-is_job-3 c = search dec-written

pub returns-else-is_job-3 : goal.returns-else-is_job-3
returns-else-is_job-3 c = search no_job_written
