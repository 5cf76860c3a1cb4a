-- `turned_lane` turns the lane that pi takes to (x, y).
use mathlib.Core.Path.{◌∙◌}
use Rattle.keccak.proofs.Computed.{offsets, lane_moved}
use Rattle.keccak.proofs.turned_lane.Goals as goal

pub returns : goal.returns
unfolding offsets
returns c = c.rotate_left.ensures ∙ lane_moved _ _ _ _ c.requires.0 c.requires.1
