-- Nobody above crate ring needs to believe this file: the matrix products there, proved over it, promise `matrix`.
-- What a sum of products of plain numbers stands for, held in three words of 64 bits.
use Rattle.std.specs.Prelude.{ℕ}
use Rattle.field.specs.declared.SumOfProducts.{SumOfProducts}
use Rattle.field.specs.Field.{wide}

unfoldable pub amount : SumOfProducts → ℕ
amount s = wide (wide s.top s.hi) s.lo

-- what the highest word counts: each product but the first adds 1 at most
unfoldable pub carries : SumOfProducts → ℕ
carries s = s.top
