-- Rules with arguments, atoms and two calls are folded.
use Rattle.std.proofs.Common.{pos, Some, [], ◌∷◌, refl, inl, inr, arith}
use Rattle.std.specs.Cmp.{nat_cmp_total}
use Rattle.std.specs.FinMap as finmap
use Rattle.std.specs.FinMap.{get-from_entries}
use Rattle.std.proofs.lemmas.Int.{ints}
use Rattle.mc_base.specs.declared.plain.Kind.TheVariants.{Int, Ptr}
use Rattle.mc_flow.specs.Heap.Heap.{IsAtAddresses}
use Rattle.mc_flow.specs.Heap.Instances.{nowhere}
use Rattle.mc_flow.specs.Heap.Parts.{Split}
use Rattle.mc_flow.specs.Heap.PartLaws.{InsertKeepsAddresses}
use Rattle.mc_flow.specs.Defs.Examples.{defs, cell_id, fork_id, lenlist_id, tree_id, lenlist_rule, tree_rule, lenlist_def, tree_def, cell_with, fork_with, blocks, two_cells, first_cell, second_cell, two_forks}
use Rattle.mc_state.specs.declared.graph.edge.Edge.TheVariants.{Block, Ind}
use Rattle.mc_pure.specs.Derived as pure
use Rattle.mc_pure.specs.Examples.{node}
use Rattle.mc_pure.specs.Pure as known
use Rattle.mc_state.specs.CoverExamples.{cell_and_length, fork_and_tree, other_list, entry}
use Rattle.mc_state.specs.Laws.{NoneStandsForFalse}
use Rattle.mc_state.specs.Stands.{StandsBy}
use Rattle.mc_rules_logic.specs.Fold.Examples.{edge, valued, length_folded, fork_as_segment, second_fork}
use Rattle.mc_rules_logic.specs.Fold.Folded.{FoldsInd, FoldsSeg, ind_fold, seg_fold}
use Rattle.mc_rules_logic.proofs.FoldLemmas.ExampleFolds.{itself}
use Rattle.mc_rules_logic.proofs.FoldLemmas.Parts.{PartLaws, nowhere-IsEmpty, none_left, none_right}
use Rattle.mc_flow.proofs.DefsLemmas.SmallHeaps.{added, one_block, nowhere_list, second_long, second_tree}

module _ (laws : PartLaws) where
  pub length_stands : Split (blocks two_cells) (blocks first_cell) (blocks second_cell) → StandsBy defs (valued (pos 7 ∷ pos 5 ∷ pos 9 ∷ pos 1 ∷ pos 2 ∷ [])) [] (blocks two_cells) cell_and_length
  length_stands split =
      record {
        null = refl;
        kinds = (
          (omega (arith, ints), omega (arith, ints)),
          ((omega (arith, ints), omega (arith, ints)), ((omega (arith, ints), omega (arith, ints)), ((omega (arith, ints), omega (arith, ints)), ((omega (arith, ints), omega (arith, ints)), tt)))),
        );
        atoms = (refl, tt);
        vars = tt;
        parts = record {
          held = blocks two_cells;
          rest = nowhere;
          split = none_right laws (blocks two_cells);
          each = (
            blocks first_cell,
            blocks second_cell,
            split,
            (7, refl, (Some (pos 5) ∷ Some (pos 9) ∷ [], one_block 7 (cell_with (pos 5) (pos 9)), (refl, (refl, tt)))),
            (blocks second_cell, nowhere, none_right laws (blocks second_cell), second_long, nowhere-IsEmpty),
          );
          alone = λ t. nowhere-IsEmpty;
        };
      }

  pub fork_stands : StandsBy defs (valued (pos 7 ∷ pos 9 ∷ [])) [] (blocks two_forks) fork_and_tree
  fork_stands =
      let first = added 7 (fork_with (pos 9) (pos 0)) second_fork (get-from_entries nat_cmp_total second_fork 7) in
      record {
        null = refl;
        kinds = (
          (omega (arith, ints), omega (arith, ints)),
          ((omega (arith, ints), omega (arith, ints)), ((omega (arith, ints), omega (arith, ints)), ((omega (arith, ints), omega (arith, ints)), tt))),
        );
        atoms = (refl, tt);
        vars = tt;
        parts = record {
          held = blocks two_forks;
          rest = nowhere;
          split = none_right laws (blocks two_forks);
          each = (
            nowhere,
            blocks two_forks,
            none_left laws (blocks two_forks),
            nowhere_list,
            (
              first.0,
              blocks second_fork,
              first.1,
              (7, refl, (Some (pos 9) ∷ Some (pos 0) ∷ [], first.2, (refl, (refl, tt)))),
              (blocks second_fork, nowhere, none_right laws (blocks second_fork), second_tree, nowhere-IsEmpty),
            ),
          );
          alone = λ t. nowhere-IsEmpty;
        };
      }

pub fork_addresses : InsertKeepsAddresses → IsAtAddresses (blocks []) → IsAtAddresses (blocks two_forks)
fork_addresses keeps none =
    keeps (finmap.from_entries second_fork) 7 (fork_with (pos 9) (pos 0)) (omega arith, omega arith)
    (keeps (finmap.from_entries []) 9 (fork_with (pos 0) (pos 0)) (omega arith, omega arith) none)

module _ (not_false : NoneStandsForFalse) where
  pub length_folds : IsAtAddresses (blocks two_cells) → StandsBy defs (valued (pos 7 ∷ pos 5 ∷ pos 9 ∷ pos 1 ∷ pos 2 ∷ [])) [] (blocks two_cells) cell_and_length
      → FoldsInd defs (ind_fold lenlist_id 1 (node 1 ∷ node 5 ∷ node 2 ∷ node 3 ∷ node 4 ∷ []) (Some (edge 0)) (edge 1 ∷ [])) cell_and_length (length_folded ∷ [])
  length_folds addresses st =
      let same = itself cell_and_length in
      record {
        consistent = λ wrong. not_false defs [] (blocks two_cells) cell_and_length addresses (valued (pos 7 ∷ pos 5 ∷ pos 9 ∷ pos 1 ∷ pos 2 ∷ []), st) wrong;
        body = record {
          blocks = Block (node 1) cell_id (Some (node 2) ∷ Some (node 3) ∷ []) ∷ [];
          inds = Ind (node 3) lenlist_id (node 4 ∷ []) ∷ [];
          left = [];
          picks = (refl, (refl, (refl, refl)));
          one_each = refl;
          def = lenlist_def;
          defined = refl;
          by = lenlist_rule;
          listed = refl;
          kinds = (inr refl, (inr refl, (inr refl, (inr refl, (inr refl, tt)))));
          this = node 1;
          args = node 5 ∷ [];
          others = node 2 ∷ node 3 ∷ node 4 ∷ [];
          front = refl;
          count = refl;
          block_fits = (refl, same (node 1) Ptr refl, (same (node 2) Int refl, (same (node 3) Ptr refl, tt)));
          calls_fit = ((refl, same (node 3) Ptr refl, (same (node 4) Int refl, tt)), tt);
          -- node 4 is one less than node 5
          atoms = (inl (pure.turned {a = node 5} {b = node 4} {c = pos 1} (pure.base (known.written 0 refl))), tt);
        };
        gives = refl;
      }

  pub fork_folds : IsAtAddresses (blocks two_forks) → StandsBy defs (valued (pos 7 ∷ pos 9 ∷ [])) [] (blocks two_forks) fork_and_tree
      → FoldsSeg defs (seg_fold tree_id 1 (node 1 ∷ node 2 ∷ node 3 ∷ []) (edge 1) (edge 2 ∷ []) 1) fork_and_tree (fork_as_segment ∷ [])
  fork_folds addresses st =
      let same = itself fork_and_tree in
      record {
        consistent = λ wrong. not_false defs [] (blocks two_forks) fork_and_tree addresses (valued (pos 7 ∷ pos 9 ∷ []), st) wrong;
        body = record {
          blocks = Block (node 1) fork_id (Some (node 2) ∷ Some (node 3) ∷ []) ∷ [];
          inds = Ind (node 2) tree_id [] ∷ [];
          left = entry 0 other_list ∷ [];
          picks = (refl, (refl, (refl, refl)));
          one_each = refl;
          def = tree_def;
          defined = refl;
          by = tree_rule;
          listed = refl;
          kinds = (inr refl, (inr refl, (inr refl, tt)));
          this = node 1;
          args = [];
          others = node 2 ∷ node 3 ∷ [];
          front = refl;
          count = refl;
          block_fits = (refl, same (node 1) Ptr refl, (same (node 2) Ptr refl, (same (node 3) Ptr refl, tt)));
          calls_fit = ((refl, same (node 2) Ptr refl, tt), tt);
          atoms = tt;
        };
        open_call = record { pred = tree_id; at = 2; args = [] };
        called = refl;
        own = refl;
        gives = refl;
      }
