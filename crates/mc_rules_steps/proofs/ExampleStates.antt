-- The states of the small flow graph, and what stands for them.
use Rattle.std.proofs.Common.{◌≡◌, ◌≢◌, ℕ, [], ◌∷◌, Option, Some, None, refl, arith, inl, inr, ℤ, pos, ◌≤ℤ◌}
use Rattle.std.specs.Prelude.{IsSome}
use Rattle.std.specs.FinMap as map
use Rattle.std.specs.FinMap.{gets}
use Rattle.std.proofs.lemmas.Bool.{cases_eq}
use Rattle.std.proofs.lemmas.Bool.Decides.{nat_tests}
use Rattle.std.proofs.lemmas.Int.{ints}
use Rattle.mc_base.specs.declared.ids.PointId.{PointId}
use Rattle.mc_base.specs.declared.plain.Kind.TheVariants.{Int, Ptr}
use Rattle.mc_base.specs.Kinds.{InKind}
use Rattle.mc_flow.specs.Heap.Heap.{Block, region_of, HasAddresses}
use Rattle.mc_flow.specs.Heap.Instances.{nowhere}
use Rattle.mc_flow.specs.Heap.Parts.{Joins, Split, IsEmpty, IsCell}
use Rattle.mc_flow.specs.Defs.Examples.{defs}
use Rattle.mc_pure.specs.Examples.{node}
use Rattle.mc_pure.specs.Pure.{IsNode}
use Rattle.mc_state.specs.Fits.{IsBounded}
use Rattle.mc_state.specs.Stands.{VarsMeet, Parts, StandsBy}
use Rattle.mc_rules_steps.specs.Laws.{IsAt}
use Rattle.mc_rules_steps.specs.Examples as ex

-- ---- numbers in their bounds
one_there : IsNode ex.one_cell.kinds (node 1)
one_there = (Ptr, inr refl)

two_there : IsNode ex.one_cell.kinds (node 2)
two_there = (Int, inr refl)

pub one_cell_bounded : IsBounded ex.one_cell
one_cell_bounded =
    record {
      positive = omega arith;
      kinds = (omega arith, omega arith, (omega arith, omega arith, tt));
      ids = (omega arith, omega arith, tt);
      vars = (one_there, (two_there, tt));
      edges = ((one_there, ((Ptr, inl refl), tt)), tt);
      atoms = ((two_there, tt), tt);
    }

pub any_number_bounded : IsBounded ex.any_number
any_number_bounded =
    let b = one_cell_bounded in record { positive = b.positive; kinds = b.kinds; ids = b.ids; vars = b.vars; edges = b.edges; atoms = tt }

pub no_cell_bounded : IsBounded ex.no_cell
no_cell_bounded =
    let b = one_cell_bounded in record { positive = b.positive; kinds = b.kinds; ids = tt; vars = b.vars; edges = tt; atoms = b.atoms }

pub not_whole_bounded : IsBounded ex.not_whole
not_whole_bounded =
    let b = no_cell_bounded in record { positive = b.positive; kinds = b.kinds; ids = b.ids; vars = b.vars; edges = b.edges; atoms = b.atoms }

-- ---- the heap
pub block_there : region_of ex.heap 7 ≡ Some ex.block
block_there = grind (arith, gets, nat_tests)

pub nothing_else : (at : ℕ) → at ≢ 7 → region_of ex.heap at ≡ None
nothing_else at ne = grind (arith, gets, nat_tests)

pub empty_there : (at : ℕ) → region_of map.empty at ≡ None
empty_there at = grind (arith, gets, nat_tests)

pub freed_there : region_of (map.remove ex.heap 7) 7 ≡ None
freed_there = grind (arith, gets, nat_tests)

block_cell : IsCell (region_of ex.heap) 7 ex.block
block_cell = record { here = block_there; only = nothing_else }

is_some : {A : Type 0} (o : Option A) → o ≡ None → IsSome o → ⊥
is_some None e s = grind arith
is_some (Some a) e s = cc

pub heap_addresses : HasAddresses ex.heap
heap_addresses at some = elim (cases_eq at 7) [
  | inl e ↦ let is : at ≡ 7 = e in (omega arith, omega arith)
  | inr ne ↦ absurd (is_some (region_of ex.heap at) (nothing_else at ne) some)
]

pub empty_addresses : HasAddresses map.empty
empty_addresses at some = absurd (is_some (region_of map.empty at) (empty_there at) some)

nowhere_empty : IsEmpty nowhere
nowhere_empty = record { none = λ at. refl }

joins_self : (o : Option Block) → Joins o o None
joins_self None = refl
joins_self (Some b) = refl

-- ---- what stands
vars_meet : (number : ℤ) → VarsMeet (ex.valuation number) ex.one_cell.env (ex.values number)
vars_meet number = (refl, (refl, (tt, (tt, tt))))

parts : (number : ℤ) → Parts defs (ex.valuation number) (region_of ex.heap) ex.one_cell.graph.edges ex.one_cell.whole
parts number =
    let region = region_of ex.heap in
    let all : Split region region nowhere = record { joins = λ at. joins_self (region at) } in
    record {
      held = region;
      rest = nowhere;
      split = all;
      each = (region, nowhere, all, (7, refl, (None ∷ Some (pos 0) ∷ [], block_cell, (tt, (refl, tt)))), nowhere_empty);
      alone = λ whole. nowhere_empty;
    }

module _ (number : ℤ) where
  pub one_cell_stands : pos 5 ≤ℤ number → number ≤ℤ pos 7 → StandsBy defs (ex.valuation number) (ex.values number) (region_of ex.heap) ex.one_cell
  one_cell_stands low high =
      record {
        null = refl;
        kinds = ((omega (arith, ints), omega (arith, ints)), ((omega (arith, ints), omega (arith, ints)), tt));
        atoms = ((low, high), tt);
        vars = vars_meet number;
        parts = parts number;
      }

  pub with_one_stands : pos 5 ≤ℤ number → number ≤ℤ pos 7 → StandsBy defs (ex.valuation number) (ex.values number) (region_of ex.heap) ex.with_one
  with_one_stands low high =
      record {
        null = refl;
        kinds = ((omega (arith, ints), omega (arith, ints)), ((omega (arith, ints), omega (arith, ints)), ((omega (arith, ints), omega (arith, ints)), tt)));
        atoms = ((low, high), ((omega (arith, ints), omega (arith, ints)), tt));
        vars = vars_meet number;
        parts = parts number;
      }

  pub any_number_stands : InKind Int number → StandsBy defs (ex.valuation number) (ex.values number) (region_of ex.heap) ex.any_number
  any_number_stands fits =
      record { null = refl; kinds = ((omega (arith, ints), omega (arith, ints)), (fits, tt)); atoms = tt; vars = vars_meet number; parts = parts number }

  module _ (low : pos 5 ≤ℤ number) (high : number ≤ℤ pos 7) where
    pub no_cell_stands : StandsBy defs (ex.valuation number) (ex.values number) (region_of map.empty) ex.no_cell
    no_cell_stands =
        let st = one_cell_stands low high in
        let empty : IsEmpty (region_of map.empty) = record { none = empty_there } in
        let none : (o : Option Block) → o ≡ None → Joins o None None = λ o e. e in
        record {
          null = st.null;
          kinds = st.kinds;
          atoms = st.atoms;
          vars = st.vars;
          parts = record { held = nowhere; rest = nowhere; split = record { joins = λ at. none (region_of map.empty at) (empty_there at) }; each = nowhere_empty; alone = λ whole. nowhere_empty };
        }

    pub not_whole_stands : StandsBy defs (ex.valuation number) (ex.values number) (region_of map.empty) ex.not_whole
    not_whole_stands =
        let st = no_cell_stands in
        record {
          null = st.null;
          kinds = st.kinds;
          atoms = st.atoms;
          vars = st.vars;
          parts = record { held = st.parts.held; rest = st.parts.rest; split = st.parts.split; each = st.parts.each; alone = λ whole. absurd (cc whole) };
        }

    pub at_one_cell : (p : PointId) → IsAt defs (ex.valuation number) (ex.config p.0 number) p ex.one_cell
    at_one_cell p = record { point = refl; addresses = heap_addresses; stands = one_cell_stands low high }

    pub at_no_cell : (p : PointId) → IsAt defs (ex.valuation number) (ex.bare p.0 number) p ex.no_cell
    at_no_cell p = record { point = refl; addresses = empty_addresses; stands = no_cell_stands }

    pub at_not_whole : (p : PointId) → IsAt defs (ex.valuation number) (ex.bare p.0 number) p ex.not_whole
    at_not_whole p = record { point = refl; addresses = empty_addresses; stands = not_whole_stands }
