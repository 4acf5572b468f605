-- Heaps that stand for a cell and a list, and for a list.
use Rattle.std.proofs.Common.{◌≡◌, pos, [], ◌∷◌, Option, Some, None, refl, sym, subst, arith}
use Rattle.std.proofs.lemmas.Int.{ints}
use Rattle.mc_base.specs.declared.plain.Kind.TheVariants.{Ptr}
use Rattle.mc_base.specs.Kinds.{InKind}
use Rattle.mc_base.specs.Nodes.{Valuation}
use Rattle.mc_flow.specs.Heap.Heap as heap
use Rattle.mc_flow.specs.Heap.Heap.{Region, IsAtAddresses}
use Rattle.mc_flow.specs.Heap.Instances.{nowhere}
use Rattle.mc_flow.specs.Heap.Parts.{Joins}
use Rattle.mc_flow.specs.Defs.Conditions.{IsDefs}
use Rattle.mc_flow.specs.Defs.Examples.{defs, list_id, blocks, two_cells}
use Rattle.mc_flow.specs.Defs.Meaning.{Sat}
use Rattle.mc_state.specs.BodyLaws.{CoverMakesPredicate}
use Rattle.mc_state.specs.CoverExamples.{at, at_seven, cell_and_list}
use Rattle.mc_state.specs.Covers.{Cover}
use Rattle.mc_state.specs.Stands.{EdgesMeet, Stands, StandsBy}
use Rattle.mc_flow.proofs.DefsLemmas.SmallHeaps.{nowhere_list}
use Rattle.mc_joins.specs.Examples.{a_cell, a_list}
use Rattle.mc_joins.proofs.Regions.{SplitLaws, nowhere_empty, none_right}

pub cell_stands : StandsBy defs at_seven [] (blocks two_cells) cell_and_list → StandsBy defs at_seven (Some (pos 7) ∷ []) (blocks two_cells) a_cell
cell_stands st = record { null = st.null; kinds = st.kinds; atoms = tt; vars = (refl, tt); parts = st.parts }

-- a region with a list stands for a list there
list_stands : SplitLaws → (v : Valuation) (region : Region) → v 0 ≡ pos 0 → InKind Ptr (v 1) → Sat defs list_id (v 1) [] region → StandsBy defs v (Some (v 1) ∷ []) region a_list
list_stands splits v region zero_is fits sat = record {
  null = zero_is;
  kinds = (fits, tt);
  atoms = tt;
  vars = (refl, tt);
  parts = record {
    held = region;
    rest = nowhere;
    split = none_right splits region;
    each = (region, nowhere, none_right splits region, sat, nowhere_empty);
    alone = λ whole. nowhere_empty;
  };
}

pub cells_stand : SplitLaws → CoverMakesPredicate → IsDefs defs → IsAtAddresses (blocks two_cells) → StandsBy defs at_seven [] (blocks two_cells) cell_and_list
    → EdgesMeet defs at_seven cell_and_list.graph.edges (blocks two_cells) → Cover defs cell_and_list list_id (at 1) [] cell_and_list.graph.edges []
    → Stands defs (Some (pos 7) ∷ []) (blocks two_cells) a_list
cells_stand splits makes fit addresses st meets cover =
    let got = makes defs at_seven [] (blocks two_cells) (blocks two_cells) cell_and_list list_id (at 1) [] cell_and_list.graph.edges [] fit addresses st cover meets in
    let whole : blocks two_cells ≡ got.0 = splits.drops_empty (blocks two_cells) got.1 got.0 got.4 (splits.commutes (blocks two_cells) got.0 got.1 got.2) in
    let sat : Sat defs list_id (pos 7) [] (blocks two_cells) = subst (λ (r : Region). Sat defs list_id (pos 7) [] r) (sym whole) got.3 in
    (at_seven, list_stands splits at_seven (blocks two_cells) refl (omega (arith, ints), omega (arith, ints)) sat)

pub null_stands : SplitLaws → Stands defs (Some (pos 0) ∷ []) nowhere a_list
null_stands splits =
    (λ n. pos 0, list_stands splits (λ n. pos 0) nowhere refl (omega (arith, ints), omega (arith, ints)) nowhere_list)

-- there is no block where the whole has none
left_none : (x l r : Option heap.Block) (b : heap.Block) → Joins x l r → x ≡ None → l ≡ Some b → ⊥
left_none x None r b j none e = cc e
left_none x (Some c) None b j none e = cc (j, none)
left_none x (Some c) (Some d) b j none e = j

pub no_cell : Stands defs (Some (pos 0) ∷ []) nowhere a_cell → ⊥
no_cell st =
    let parts = st.1.parts in
    let each = parts.each in
    let address = each.3.0 in
    let held : parts.held address ≡ None = none_there (parts.held address) (parts.rest address) (parts.split.joins address) in
    left_none (parts.held address) (each.0 address) (each.1 address) _ (each.2.joins address) held each.3.2.1.here
  where
    none_there : (l r : Option heap.Block) → Joins None l r → l ≡ None
    none_there None r j = refl
    none_there (Some b) None j = absurd (cc j)
    none_there (Some b) (Some c) j = absurd j
