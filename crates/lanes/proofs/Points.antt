-- The points at the edges hold: the definitions are run on each row of the table.
use mathlib.Core.Path.{refl}
use Rattle.laws.specs.Lists.{tab, tab_from}
use Rattle.laws.specs.Sums.{total}
use Rattle.laws.specs.Bits.{bit}
use Rattle.ring.specs.Transform.{brv, value, point, transform}
use Rattle.ring.specs.Elements.{shift, product}
use Rattle.lanes.specs.Samplers.{big_endian, uniform, ones, counts, short}
use Rattle.lanes.specs.Messages.{lifted, embed, chunk_bit, read}
use Rattle.lanes.specs.Points.{monomial, answer, points, Edges}

pub edges : Edges
unfolding points answer monomial tab tab_from total product shift transform value point brv bit chunk_bit read embed lifted uniform big_endian
    short counts ones
edges = refl
