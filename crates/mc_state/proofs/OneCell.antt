-- A cell with two names, and a cell as an edge.
use Rattle.std.proofs.Common.{◌≡◌, ◌≢◌, ℕ, pos, Option, Some, None, [], ◌∷◌, false, refl, ◌∙◌, inl, arith}
use Rattle.std.specs.Cmp.{nat_cmp_total}
use Rattle.std.specs.FinMap as map
use Rattle.std.specs.FinMap.{get-from_entries}
use Rattle.std.proofs.lemmas.Int.{ints}
use Rattle.mc_base.specs.declared.plain.Kind.TheVariants.{Ptr}
use Rattle.mc_flow.specs.Heap.Heap.{Block}
use Rattle.mc_flow.specs.Heap.Instances.{nowhere}
use Rattle.mc_flow.specs.Heap.Parts.{Joins, Split, IsCell}
use Rattle.mc_flow.specs.Heap.PartLaws.{EmptyHeapIsEmpty, InsertChanges}
use Rattle.mc_flow.specs.Defs.Meaning.{Sat}
use Rattle.mc_flow.specs.Defs.Examples.{defs, list_id, cell_with, blocks, two_cells, first_cell, second_cell}
use Rattle.mc_pure.specs.Examples.{node}
use Rattle.mc_pure.specs.Pure.{kind, written}
use Rattle.mc_pure.specs.Derived.{LiesIn, base, turned, empty}
use Rattle.mc_state.specs.State.{pure_of, with_only_edges}
use Rattle.mc_state.specs.Facts.{AreEqual, IsFalse}
use Rattle.mc_state.specs.Stands.{EdgeMeets, EdgesMeet, StandsBy, Stands}
use Rattle.mc_state.specs.Examples.{edge, back, list_in_parts, at_seven, seven_and_nine, back_cell, two_names, both_at_seven, sevens, no_number}
use Rattle.mc_state.proofs.Parts.{SplitLaws, nowhere-IsEmpty, all_of_it}
use Rattle.mc_state.proofs.Worked.{no_block}

joins_nothing : (whole left right : Option Block) → Joins whole left right → left ≡ None → right ≡ None → whole ≡ None
joins_nothing whole None right j e f = j ∙ f
joins_nothing whole (Some b) right j e f = cc

two_at_nine : blocks two_cells 9 ≡ Some (cell_with (pos 6) (pos 0))
two_at_nine = get-from_entries nat_cmp_total two_cells 9

module _ (laws : SplitLaws) (none : EmptyHeapIsEmpty) (insert : InsertChanges) where
  alone : (at : ℕ) (b : Block) → IsCell (blocks ((at, b) ∷ [])) at b
  alone at b =
      let change = insert map.empty at b in
      record { here = change.here; only = λ other differ. change.others other differ ∙ none.none other }

  cell_meets : EdgesMeet defs sevens two_names.graph.edges (blocks first_cell)
  cell_meets =
      (blocks first_cell, nowhere, all_of_it laws (blocks first_cell), (7, refl, (Some (pos 5) ∷ Some (pos 9) ∷ [], alone 7 (cell_with (pos 5) (pos 9)), (tt, (tt, tt)))), nowhere-IsEmpty)

  pub names_stand : StandsBy defs sevens both_at_seven (blocks first_cell) two_names
  names_stand =
      record {
        null = refl;
        kinds = ((omega (arith, ints), omega (arith, ints)), ((omega (arith, ints), omega (arith, ints)), ((omega (arith, ints), omega (arith, ints)), tt)));
        atoms = (refl, tt);
        vars = (refl, (refl, tt));
        parts = record { held = blocks first_cell; rest = nowhere; split = all_of_it laws (blocks first_cell); each = cell_meets; alone = λ whole. nowhere-IsEmpty };
      }

  pub more_stands : Split (blocks two_cells) (blocks first_cell) (blocks second_cell) → Stands defs both_at_seven (blocks two_cells) (record two_names { whole = false })
  more_stands split =
      let st = names_stand in (
        sevens,
        record {
          null = st.null;
          kinds = st.kinds;
          atoms = st.atoms;
          vars = st.vars;
          parts = record { held = blocks first_cell; rest = blocks second_cell; split = split; each = cell_meets; alone = λ whole. absurd (cc whole) };
        },
      )

  -- the back of the list, and what is left without the front
  pub back_meets : EdgeMeets defs seven_and_nine back_cell (blocks second_cell)
  back_meets = (9, refl, (Some (pos 6) ∷ Some (pos 0) ∷ [], alone 9 (cell_with (pos 6) (pos 0)), (tt, (tt, tt))))

  pub back_stands : Sat defs list_id (pos 9) [] (blocks second_cell) → StandsBy defs seven_and_nine at_seven (blocks second_cell) (with_only_edges list_in_parts ((edge 1, back) ∷ []))
  back_stands list =
      record {
        null = refl;
        kinds = ((omega (arith, ints), omega (arith, ints)), ((omega (arith, ints), omega (arith, ints)), tt));
        atoms = tt;
        vars = (refl, tt);
        parts = record {
          held = blocks second_cell;
          rest = nowhere;
          split = all_of_it laws (blocks second_cell);
          each = (blocks second_cell, nowhere, all_of_it laws (blocks second_cell), list, nowhere-IsEmpty);
          alone = λ whole. nowhere-IsEmpty;
        };
      }

-- the second cell is in no part
pub two_do_not_stand : ¬ Stands defs both_at_seven (blocks two_cells) two_names
two_do_not_stand stands =
    let v = stands.0 in
    let p = stands.1.parts in
    let each = p.each in
    let cell = each.3 in
    let var : Some (pos 7) ≡ Some (v 1) = stands.1.vars.0 in
    let leads : v 1 ≡ pos cell.0 = cell.1 in
    let place : 7 ≡ cell.0 = cc in
    let other : 9 ≢ cell.0 = λ e. omega arith in
    let held = joins_nothing (p.held 9) (each.0 9) (each.1 9) (each.2.joins 9) (cell.2.1.only 9 other) (each.4.none 9) in
    no_block (blocks two_cells 9) (cell_with (pos 6) (pos 0)) two_at_nine (joins_nothing (blocks two_cells 9) (p.held 9) (p.rest 9) (p.split.joins 9) held ((p.alone refl).none 9))

pub names_equal : AreEqual two_names (node 1) (node 2)
names_equal = inl (turned (base (written 0 refl)))

pub lies_in_kind : LiesIn (pure_of two_names) Ptr (node 1) (pos 0)
lies_in_kind = inl (base (kind 0 refl))

pub none_between : IsFalse no_number
none_between = empty {a = node 3} {lo = pos 5} {hi = pos 4} (omega (arith, ints)) (base (written 1 refl))
