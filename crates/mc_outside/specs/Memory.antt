-- Files and sinks in memory, as their callers see them.
use Rattle.std.specs.Prelude.{ℕ, List}
use Rattle.mc_outside.specs.Calls.{CallCount}
use Rattle.mc_outside.specs.Entries.{Entries}

-- files whose calls are counted
pub record CountedFiles : Type 0 where
  pub entries : Entries
  pub calls : CallCount

-- what was written by calls that are counted
pub record CountedBytes : Type 0 where
  pub bytes : List ℕ
  pub calls : CallCount
