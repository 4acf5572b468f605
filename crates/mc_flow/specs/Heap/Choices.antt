-- What a run is given from outside.
use Rattle.std.specs.Prelude.{ℕ, ℤ, List}
use Rattle.mc_flow.specs.Heap.Heap.{Block}

-- an input, an answer of `malloc`, or for an assumed shape a value with new blocks at their addresses
pub data Choice : Type 0 where
  input : ℤ → Choice
  malloc : ℕ → Choice
  shape : ℤ → List (ℕ × Block) → Choice
