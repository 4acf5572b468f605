-- A heap of two cells, the first of which points to the second: a cell and a list.
use Rattle.std.proofs.Common.{pos, Some, [], ◌∷◌, refl, ◌∙◌, arith}
use Rattle.std.specs.FinMap as finmap
use Rattle.std.proofs.lemmas.Int.{ints}
use Rattle.mc_flow.specs.Heap.Heap.{IsAtAddresses}
use Rattle.mc_flow.specs.Heap.Instances.{nowhere}
use Rattle.mc_flow.specs.Heap.PartLaws.{EmptyHeapIsEmpty, InsertChanges, InsertKeepsAddresses}
use Rattle.mc_flow.specs.Heap.Parts.{Split, IsCell}
use Rattle.mc_flow.specs.Defs.Examples.{defs, list_id, list_rule, cell_with, blocks, two_cells, first_cell, second_cell}
use Rattle.mc_flow.specs.Defs.Meaning.{Sat}
use Rattle.mc_pure.specs.Examples.{node}
use Rattle.mc_state.specs.BodyLaws.{IsBody, IsBodyTo}
use Rattle.mc_state.specs.CoverExamples.{cell_and_list, at_seven}
use Rattle.mc_state.specs.Stands.{EdgesMeet, StandsBy}
use Rattle.mc_state.proofs.Parts.{SplitLaws, nowhere-IsEmpty}
use Rattle.mc_state.proofs.Stars.{none_left, none_right}

module _ (laws : SplitLaws) (empty : EmptyHeapIsEmpty) (insert : InsertChanges) (keeps : InsertKeepsAddresses) where
  cell_alone : IsCell (blocks first_cell) 7 (cell_with (pos 5) (pos 9))
  cell_alone =
      let change = insert (finmap.from_entries []) 7 (cell_with (pos 5) (pos 9)) in
      record { here = change.here; only = λ other ne. change.others other ne ∙ empty.none other }

  pub addresses : IsAtAddresses (blocks []) → IsAtAddresses (blocks two_cells)
  addresses all =
      keeps (finmap.from_entries second_cell) 7 (cell_with (pos 5) (pos 9)) (omega arith, omega arith)
      (keeps (finmap.from_entries []) 9 (cell_with (pos 6) (pos 0)) (omega arith, omega arith) all)

  module _ (split : Split (blocks two_cells) (blocks first_cell) (blocks second_cell)) (at_end : Sat defs list_id (pos 9) [] (blocks second_cell)) where
    pub edges : EdgesMeet defs at_seven cell_and_list.graph.edges (blocks two_cells)
    edges = (
      blocks first_cell,
      blocks second_cell,
      split,
      (7, refl, (Some (pos 5) ∷ Some (pos 9) ∷ [], cell_alone, (refl, (refl, tt)))),
      (blocks second_cell, nowhere, none_right laws (blocks second_cell), at_end, nowhere-IsEmpty),
    )

    pub stands : StandsBy defs at_seven [] (blocks two_cells) cell_and_list
    stands = record {
      null = refl;
      kinds = ((omega (arith, ints), omega (arith, ints)), ((omega (arith, ints), omega (arith, ints)), ((omega (arith, ints), omega (arith, ints)), tt)));
      atoms = tt;
      vars = tt;
      parts = record { held = blocks two_cells; rest = nowhere; split = none_right laws (blocks two_cells); each = edges; alone = λ t. nowhere-IsEmpty };
    }

    pub body : IsBody defs at_seven (node 1 ∷ node 2 ∷ node 3 ∷ []) list_rule.block list_rule.contents list_rule.calls (blocks two_cells)
    body = (
      blocks first_cell,
      blocks second_cell,
      split,
      (7, refl, cell_alone),
      (blocks second_cell, nowhere, none_right laws (blocks second_cell), at_end, nowhere-IsEmpty),
    )

  pub body_to : IsBodyTo defs at_seven (node 1 ∷ node 2 ∷ node 3 ∷ []) list_id (node 3) [] 0 list_rule.block list_rule.contents list_rule.calls (blocks first_cell)
  body_to = (
    blocks first_cell,
    nowhere,
    none_right laws (blocks first_cell),
    (7, refl, cell_alone),
    (nowhere, nowhere, none_left laws nowhere, (refl, record { height = 0; holds = (refl, refl, nowhere-IsEmpty) }), nowhere-IsEmpty),
  )
