-- Ranks of functions.
use Rattle.std.specs.Prelude.{◌<◌, ℕ, List, Contains}
use Rattle.mc_c_syntax.specs.Ast.Trees.{UnitTree}
use Rattle.mc_c_types.specs.Calls.{CallSite, call_sites}
use Rattle.mc_c_types.specs.Typing.{IsWellTyped}

-- each function has a rank above those of the functions that it calls
abbrev pub AreRanks : List CallSite → (List ℕ → ℕ) → Type 0
AreRanks sites rank = (site : CallSite) → Contains sites site → rank site.callee.text < rank site.caller

abbrev pub HasRanks : UnitTree → Type 0
HasRanks unit = (rank : List ℕ → ℕ) × AreRanks (call_sites unit) rank

-- the functions of each well typed program have ranks
abbrev pub CallsHaveRanks : Type 0
CallsHaveRanks = (unit : UnitTree) (entry : List ℕ) → IsWellTyped unit entry → HasRanks unit
