-- Edges that are folded, and some that are not.
use Rattle.std.proofs.Common.{◌≡◌, pos, Some, List, [], ◌∷◌, map, refl, sym, ap, ◌∙◌, inl, inr, arith}
use Rattle.std.proofs.lemmas.Int.{ints}
use Rattle.mc_base.specs.declared.plain.Kind.{Kind}
use Rattle.mc_base.specs.declared.plain.Kind.TheVariants.{Int, Ptr}
use Rattle.mc_base.specs.declared.ids.NodeId.{NodeId}
use Rattle.mc_base.specs.Nodes.{at_node}
use Rattle.mc_flow.specs.Heap.Heap.{IsAtAddresses}
use Rattle.mc_flow.specs.Heap.Instances.{nowhere}
use Rattle.mc_flow.specs.Heap.Parts.{Split, IsEmpty}
use Rattle.mc_flow.specs.Defs.Examples.{defs, cell_id, list_id, lenlist_id, list_rule, list_def, blocks, two_cells, first_cell, second_cell}
use Rattle.mc_flow.specs.Defs.Meaning as meaning
use Rattle.mc_state.specs.declared.graph.edge.Edge.{Edge}
use Rattle.mc_state.specs.declared.graph.edge.Edge.TheVariants.{Block, Ind, Seg}
use Rattle.mc_pure.specs.Derived as pure
use Rattle.mc_pure.specs.Examples.{node}
use Rattle.mc_pure.specs.Pure as known
use Rattle.mc_state.specs.CoverExamples.{cell_and_list, rest_list, segment_and_list, entry, at_seven}
use Rattle.mc_state.specs.Facts.{IsFalse, AreEqual}
use Rattle.mc_state.specs.Laws.{NoneStandsForFalse, EqualNodesAreOne}
use Rattle.mc_state.specs.Stands.{StandsBy}
use Rattle.mc_state.specs.State.{State}
use Rattle.mc_rules_logic.specs.Fold.Examples.{edge, valued, cell_folded, cell_as_segment, segment_closed, two_segments, segments_joined, pointer, with_segment, other_length}
use Rattle.mc_rules_logic.specs.Fold.Folded.{FoldsInd, FoldsSeg, ClosesSeg, JoinsSegs, MakesEmptySeg, ind_fold, seg_fold}
use Rattle.mc_rules_logic.proofs.FoldLemmas.Parts.{PartLaws, nowhere-IsEmpty, none_left, none_right}

-- a node that is there is equal to itself
pub itself : (s : State) (n : NodeId) (k : Kind) → known.kind_of s.kinds n ≡ Some k → AreEqual s n n
itself s n k is = inl (pure.itself (k, inr is))

-- what stands is not false
module _ (not_false : NoneStandsForFalse) where
  cell_sound : IsAtAddresses (blocks two_cells) → StandsBy defs at_seven [] (blocks two_cells) cell_and_list → IsFalse cell_and_list → ⊥
  cell_sound addresses st wrong = not_false defs [] (blocks two_cells) cell_and_list addresses (at_seven, st) wrong

  module _ (addresses : IsAtAddresses (blocks two_cells)) (st : StandsBy defs at_seven [] (blocks two_cells) cell_and_list) where
    pub cell_folds : FoldsInd defs (ind_fold list_id 1 (node 1 ∷ node 2 ∷ node 3 ∷ []) (Some (edge 0)) (edge 1 ∷ [])) cell_and_list (cell_folded ∷ [])
    cell_folds =
        record {
          consistent = cell_sound addresses st;
          body = record {
            blocks = Block (node 1) cell_id (Some (node 2) ∷ Some (node 3) ∷ []) ∷ [];
            inds = rest_list ∷ [];
            left = [];
            picks = (refl, (refl, (refl, refl)));
            one_each = refl;
            def = list_def;
            defined = refl;
            by = list_rule;
            listed = refl;
            kinds = (inr refl, (inr refl, (inr refl, tt)));
            this = node 1;
            args = [];
            others = node 2 ∷ node 3 ∷ [];
            front = refl;
            count = refl;
            block_fits = (refl, itself cell_and_list (node 1) Ptr refl, (itself cell_and_list (node 2) Int refl, (itself cell_and_list (node 3) Ptr refl, tt)));
            calls_fit = ((refl, itself cell_and_list (node 3) Ptr refl, tt), tt);
            atoms = tt;
          };
          gives = refl;
        }

    pub cell_folds_open : FoldsSeg defs (seg_fold list_id 1 (node 1 ∷ node 2 ∷ node 3 ∷ []) (edge 0) [] 0) cell_and_list (cell_as_segment ∷ [])
    cell_folds_open =
        record {
          consistent = cell_sound addresses st;
          body = record {
            blocks = Block (node 1) cell_id (Some (node 2) ∷ Some (node 3) ∷ []) ∷ [];
            inds = [];
            left = entry 1 rest_list ∷ [];
            picks = (refl, (refl, refl));
            one_each = refl;
            def = list_def;
            defined = refl;
            by = list_rule;
            listed = refl;
            kinds = (inr refl, (inr refl, (inr refl, tt)));
            this = node 1;
            args = [];
            others = node 2 ∷ node 3 ∷ [];
            front = refl;
            count = refl;
            block_fits = (refl, itself cell_and_list (node 1) Ptr refl, (itself cell_and_list (node 2) Int refl, (itself cell_and_list (node 3) Ptr refl, tt)));
            calls_fit = tt;
            atoms = tt;
          };
          open_call = record { pred = list_id; at = 2; args = [] };
          called = refl;
          own = refl;
          gives = refl;
        }

  pub segment_closes : IsAtAddresses (blocks two_cells) → StandsBy defs (valued (pos 7 ∷ pos 9 ∷ [])) [] (blocks two_cells) segment_and_list → ClosesSeg (edge 0) (edge 1) segment_and_list (segment_closed ∷ [])
  segment_closes addresses st =
      record {
        consistent = λ wrong. not_false defs [] (blocks two_cells) segment_and_list addresses (valued (pos 7 ∷ pos 9 ∷ []), st) wrong;
        at = node 1;
        args = [];
        pred = list_id;
        stop = node 2;
        ends = [];
        from = node 2;
        from_args = [];
        left = [];
        picks = (refl, (refl, (refl, refl)));
        meet = itself segment_and_list (node 2) Ptr refl;
        args_meet = tt;
        gives = refl;
      }

  pub segments_join : IsAtAddresses (blocks two_cells) → StandsBy defs (valued (pos 7 ∷ pos 9 ∷ pos 0 ∷ [])) [] (blocks two_cells) two_segments → JoinsSegs (edge 0) (edge 1) two_segments (segments_joined ∷ [])
  segments_join addresses st =
      record {
        consistent = λ wrong. not_false defs [] (blocks two_cells) two_segments addresses (valued (pos 7 ∷ pos 9 ∷ pos 0 ∷ []), st) wrong;
        at = node 1;
        args = [];
        pred = list_id;
        stop = node 2;
        ends = [];
        from = node 2;
        from_args = [];
        last = node 3;
        last_args = [];
        left = [];
        picks = (refl, (refl, (refl, refl)));
        meet = itself two_segments (node 2) Ptr refl;
        args_meet = tt;
        gives = refl;
      }

  pub segment_made : IsAtAddresses (blocks []) → StandsBy defs (valued []) [] (blocks []) pointer → MakesEmptySeg defs list_id (node 1) [] (node 1) [] pointer (with_segment ∷ [])
  segment_made addresses st =
      record {
        consistent = λ wrong. not_false defs [] (blocks []) pointer addresses (valued [], st) wrong;
        at_is = inr refl;
        args_are = (list_def, refl, tt);
        stop_is = inr refl;
        ends_are = (list_def, refl, tt);
        meet = itself pointer (node 1) Ptr refl;
        args_meet = tt;
        gives = refl;
      }

module _ (laws : PartLaws) where
  pub pointer_stands : IsEmpty (blocks []) → StandsBy defs (valued []) [] (blocks []) pointer
  pointer_stands empty =
      record {
        null = refl;
        kinds = ((omega (arith, ints), omega (arith, ints)), tt);
        atoms = tt;
        vars = tt;
        parts = record { held = blocks []; rest = nowhere; split = none_right laws (blocks []); each = empty; alone = λ t. nowhere-IsEmpty };
      }

  module _ (split : Split (blocks two_cells) (blocks first_cell) (blocks second_cell)) (first : meaning.Seg defs list_id (pos 7) [] (pos 9) [] (blocks first_cell)) where
    pub closing_stands : meaning.Sat defs list_id (pos 9) [] (blocks second_cell) → StandsBy defs (valued (pos 7 ∷ pos 9 ∷ [])) [] (blocks two_cells) segment_and_list
    closing_stands second =
        record {
          null = refl;
          kinds = ((omega (arith, ints), omega (arith, ints)), ((omega (arith, ints), omega (arith, ints)), tt));
          atoms = tt;
          vars = tt;
          parts = record {
            held = blocks two_cells;
            rest = nowhere;
            split = none_right laws (blocks two_cells);
            each = (blocks first_cell, blocks second_cell, split, first, (blocks second_cell, nowhere, none_right laws (blocks second_cell), second, nowhere-IsEmpty));
            alone = λ t. nowhere-IsEmpty;
          };
        }

    pub joining_stands : meaning.Seg defs list_id (pos 9) [] (pos 0) [] (blocks second_cell) → StandsBy defs (valued (pos 7 ∷ pos 9 ∷ pos 0 ∷ [])) [] (blocks two_cells) two_segments
    joining_stands second =
        record {
          null = refl;
          kinds = ((omega (arith, ints), omega (arith, ints)), ((omega (arith, ints), omega (arith, ints)), ((omega (arith, ints), omega (arith, ints)), tt)));
          atoms = tt;
          vars = tt;
          parts = record {
            held = blocks two_cells;
            rest = nowhere;
            split = none_right laws (blocks two_cells);
            each = (blocks first_cell, blocks second_cell, split, first, (blocks second_cell, nowhere, none_right laws (blocks second_cell), second, nowhere-IsEmpty));
            alone = λ t. nowhere-IsEmpty;
          };
        }

  -- an empty segment, and a list of another length
  pub lengths_stand : meaning.Sat defs lenlist_id (pos 7) (pos 2 ∷ []) (blocks two_cells) → StandsBy defs (valued (pos 7 ∷ pos 3 ∷ pos 2 ∷ [])) [] (blocks two_cells) other_length
  lengths_stand two =
      record {
        null = refl;
        kinds = ((omega (arith, ints), omega (arith, ints)), ((omega (arith, ints), omega (arith, ints)), ((omega (arith, ints), omega (arith, ints)), tt)));
        atoms = tt;
        vars = tt;
        parts = record {
          held = blocks two_cells;
          rest = nowhere;
          split = none_right laws (blocks two_cells);
          each = (
            nowhere,
            blocks two_cells,
            none_left laws (blocks two_cells),
            record { height = 0; holds = (refl, refl, nowhere-IsEmpty) },
            (blocks two_cells, nowhere, none_right laws (blocks two_cells), two, nowhere-IsEmpty),
          );
          alone = λ t. nowhere-IsEmpty;
        };
      }

-- the nodes at the end of the segment and of the list may differ
pub lengths_differ : EqualNodesAreOne → IsAtAddresses (blocks two_cells) → StandsBy defs (valued (pos 7 ∷ pos 3 ∷ pos 2 ∷ [])) [] (blocks two_cells) other_length
    → (next : List State) → ClosesSeg (edge 0) (edge 1) other_length next → ⊥
lengths_differ equal addresses st next i =
    let v = valued (pos 7 ∷ pos 3 ∷ pos 2 ∷ []) in
    let first : ◌≡◌ {A = Edge} (Seg (node 1) (node 2 ∷ []) lenlist_id (node 1) (node 2 ∷ [])) (Seg i.at i.args i.pred i.stop i.ends) = cc (i.picks.0) in
    let second : ◌≡◌ {A = Edge} (Ind (node 1) lenlist_id (node 3 ∷ [])) (Ind i.from i.pred i.from_args) = cc (i.picks.1.0) in
    let ends : node 2 ∷ [] ≡ i.ends = cc first in
    let args : node 3 ∷ [] ≡ i.from_args = cc second in
    let same : map (at_node v) i.ends ≡ map (at_node v) i.from_args = equal defs v [] (blocks two_cells) other_length i.ends i.from_args addresses st i.args_meet in
    let three : pos 3 ∷ [] ≡ pos 2 ∷ [] = ap (map (at_node v)) ends ∙ same ∙ ap (map (at_node v)) (sym args) in
    cc three
