-- Addresses on which a predicate holds.
use Rattle.std.specs.Prelude.{◌==◌, ℕ, ℤ, List, None, IsSome, nat_eq, if◌then◌else◌}
use Rattle.std.specs.List.{AllByRecursion, list_any, IsDistinct}
use Rattle.mc_base.specs.declared.ids.PredId.{PredId}
use Rattle.mc_flow.specs.Heap.Heap.{Heap, Region, region_of}
use Rattle.mc_flow.specs.declared.defs.rules.Def.{Def}
use Rattle.mc_flow.specs.Defs.Meaning.{Sat}

-- what a region has at these addresses, and nothing else
abbrev pub region_at : Region → List ℕ → Region
region_at region addresses at = if list_any (λ own. own == at) addresses then region at else None

-- these addresses have blocks, none stands twice, and the predicate holds on what they have
pub record AreMeeting
    (defs : List Def) (pred : PredId) (value : ℤ) (args : List ℤ) (heap : Heap) (addresses : List ℕ) : Type 0 where
  pub distinct : IsDistinct nat_eq addresses
  pub blocks : AllByRecursion (λ at. IsSome (region_of heap at)) addresses
  pub meets : Sat defs pred value args (region_at (region_of heap) addresses)
