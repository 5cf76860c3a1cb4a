-- `squeeze` has drawn the first i bytes, and the state is what is then left.
use Rattle.std.proofs.Common.{◌≡◌, ◌≤◌, ◌-◌, ◌++◌, length, drop}
use Rattle.hash.specs.Running.{run, drawn, rest}
use Rattle.hash.proofs.Sponge.squeeze.Given as goal

abbrev pub invariant-loop-i : goal.invariant-loop-i
invariant-loop-i l =
    let s = l.self-inside in
    let start = l.initial.self-inside in
    record {
      within : l.at ≤ l.rate.bytes;
      begun : l.i ≤ length l.initial.out;
      left : run s.lanes l.at ≡ rest l.rate.bytes l.i (run start.lanes start.at);
      bytes : l.out ≡ drawn l.rate.bytes l.i (run start.lanes start.at) ++ drop l.i l.initial.out;
    }

abbrev pub decreases-loop-i : goal.decreases-loop-i
decreases-loop-i l = length l.initial.out - l.i
