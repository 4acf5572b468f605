-- A list and a segment are unfolded.
use Rattle.std.proofs.Common.{ℕ, pos, Some, [], ◌∷◌, refl, arith, inl, inr}
use Rattle.std.proofs.lemmas.Int.{ints}
use Rattle.mc_base.specs.declared.plain.Kind.TheVariants.{Ptr}
use Rattle.mc_base.specs.Kinds.{InKind}
use Rattle.mc_flow.specs.Heap.Heap.{Region, IsAtAddresses}
use Rattle.mc_flow.specs.Heap.Instances.{nowhere}
use Rattle.mc_flow.specs.Heap.Parts.{Split, IsEmpty}
use Rattle.mc_flow.specs.Heap.PartLaws.{SplitCommutes, SplitAddsEmpty}
use Rattle.mc_flow.specs.Defs.Examples.{defs, structs, list_id, list_def, blocks, two_cells}
use Rattle.mc_flow.specs.Defs.Meaning as meaning
use Rattle.mc_pure.specs.Derived as pure
use Rattle.mc_pure.specs.Examples.{node}
use Rattle.mc_state.specs.CoverExamples.{at_seven}
use Rattle.mc_state.specs.Fits.{IsWellMade}
use Rattle.mc_state.specs.Laws.{NoneStandsForFalse}
use Rattle.mc_state.specs.Stands.{StandsBy}
use Rattle.mc_rules_logic.specs.Unfold.Examples.{edge, one_list, no_cell, cell_then_list, one_segment, no_segment, cell_then_segment, first_two}
use Rattle.mc_rules_logic.specs.Unfold.Unfolded.{UnfoldsInd, UnfoldsSeg}

pub nowhere-IsEmpty : IsEmpty nowhere
nowhere-IsEmpty = record { none = λ at. refl }

module _ (commutes : SplitCommutes) (adds_empty : SplitAddsEmpty) where
  pub none_left : (region : Region) → Split region nowhere region
  none_left region = adds_empty region nowhere nowhere-IsEmpty

  pub none_right : (region : Region) → Split region region nowhere
  none_right region = commutes region nowhere region (none_left region)

  pub list_stands : meaning.Sat defs list_id (pos 7) [] (blocks two_cells) → StandsBy defs at_seven [] (blocks two_cells) one_list
  list_stands sat =
      record {
        null = refl;
        kinds = ((omega (arith, ints), omega (arith, ints)), tt);
        atoms = tt;
        vars = tt;
        parts = record {
          held = blocks two_cells;
          rest = nowhere;
          split = none_right (blocks two_cells);
          each = (blocks two_cells, nowhere, none_right (blocks two_cells), sat, nowhere-IsEmpty);
          alone = λ t. nowhere-IsEmpty;
        };
      }

  pub segment_stands : (stop : ℕ) (region : Region) → InKind Ptr (pos stop) → meaning.Seg defs list_id (pos 7) [] (pos stop) [] region → StandsBy defs (first_two 7 stop) [] region one_segment
  segment_stands stop region small seg =
      record {
        null = refl;
        kinds = ((omega (arith, ints), omega (arith, ints)), (small, tt));
        atoms = tt;
        vars = tt;
        parts = record { held = region; rest = nowhere; split = none_right region; each = (region, nowhere, none_right region, seg, nowhere-IsEmpty); alone = λ t. nowhere-IsEmpty };
      }

module _ (not_false : NoneStandsForFalse) where
  pub list_unfolds : IsAtAddresses (blocks two_cells) → StandsBy defs at_seven [] (blocks two_cells) one_list → UnfoldsInd defs (Some (node 1)) (edge 0) one_list (no_cell ∷ cell_then_list ∷ [])
  list_unfolds addresses st =
      record {
        consistent = λ wrong. not_false defs [] (blocks two_cells) one_list addresses (at_seven, st) wrong;
        at = node 1;
        pred = list_id;
        args = [];
        there = refl;
        may = inr (inl (pure.itself (Ptr, inr refl)));
        def = list_def;
        defined = refl;
        gives = refl;
      }

  pub segment_unfolds : (region : Region) → IsAtAddresses region → StandsBy defs (first_two 7 9) [] region one_segment → UnfoldsSeg defs (Some (node 1)) (edge 0) one_segment (no_segment ∷ cell_then_segment ∷ [])
  segment_unfolds region addresses st =
      record {
        consistent = λ wrong. not_false defs [] region one_segment addresses (first_two 7 9, st) wrong;
        at = node 1;
        args = [];
        pred = list_id;
        stop = node 2;
        ends = [];
        there = refl;
        may = inr (inl (pure.itself (Ptr, inr refl)));
        def = list_def;
        defined = refl;
        gives = refl;
      }

pub list_made : IsWellMade defs [] structs one_list
list_made =
    record {
      bounded = record {
        positive = omega arith;
        kinds = (omega arith, omega arith, tt);
        ids = (omega arith, omega arith, tt);
        vars = tt;
        edges = (((Ptr, inr refl), tt), tt);
        atoms = tt;
      };
      atoms = tt;
      fits_defs = ((inr refl, (list_def, refl, tt)), tt);
      fits_program = record { vars_fit = tt; blocks_fit = (tt, tt) };
    }

pub segment_made : IsWellMade defs [] structs one_segment
segment_made =
    record {
      bounded = record {
        positive = omega arith;
        kinds = (omega arith, omega arith, (omega arith, omega arith, tt));
        ids = (omega arith, omega arith, tt);
        vars = tt;
        edges = (((Ptr, inr refl), ((Ptr, inr refl), tt)), tt);
        atoms = tt;
      };
      atoms = tt;
      fits_defs = ((inr refl, (list_def, refl, tt), inr refl, (list_def, refl, tt)), tt);
      fits_program = record { vars_fit = tt; blocks_fit = (tt, tt) };
    }
