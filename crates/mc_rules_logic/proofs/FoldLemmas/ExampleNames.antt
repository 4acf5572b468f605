-- Nodes that are named, merged and dropped with their edges, and a goal that is met.
use Rattle.std.proofs.Common.{◌≡◌, ℕ, zero, suc, pos, [], ◌∷◌, refl, sym, ap, ◌∙◌, inl, inr, arith}
use Rattle.std.proofs.lemmas.Int.{ints}
use Rattle.mc_base.specs.declared.ids.EdgeId.{EdgeId}
use Rattle.mc_base.specs.declared.ids.NodeId.{NodeId}
use Rattle.mc_base.specs.declared.plain.Kind.TheVariants.{Int, Ptr}
use Rattle.mc_base.specs.Nodes.{null}
use Rattle.mc_flow.specs.Heap.Heap.{IsAtAddresses}
use Rattle.mc_flow.specs.Heap.Instances.{nowhere}
use Rattle.mc_flow.specs.Heap.Parts.{IsEmpty}
use Rattle.mc_flow.specs.Defs.Examples.{defs, list_id, blocks, two_cells}
use Rattle.mc_flow.specs.Defs.Meaning as meaning
use Rattle.mc_state.specs.declared.graph.edge.Edge.{Edge}
use Rattle.mc_state.specs.declared.graph.edge.Edge.TheVariants.{Ind}
use Rattle.mc_state.specs.Graph.Edges.{start_of}
use Rattle.mc_pure.specs.Derived as pure
use Rattle.mc_pure.specs.Examples.{node}
use Rattle.mc_pure.specs.Pure as known
use Rattle.mc_state.specs.CoverExamples.{entry}
use Rattle.mc_state.specs.Facts.{IsReached, from_null, from_var, along_equal, along_edge}
use Rattle.mc_state.specs.Laws.{NoneStandsForFalse, EqualNodesAreOne}
use Rattle.mc_state.specs.Stands.{StandsBy}
use Rattle.mc_rules_logic.specs.Fold.Changed.{NamesSpare, MergesNodes, DropsEdge}
use Rattle.mc_rules_logic.specs.Fold.Examples.{edge, valued, small_number, with_spare, named_twice, named_once, lost_list, list_dropped, list_goal}
use Rattle.mc_rules_logic.specs.Fold.Goals.{MeetsGoal}
use Rattle.mc_rules_logic.proofs.FoldLemmas.ExampleFolds.{itself}
use Rattle.mc_rules_logic.proofs.FoldLemmas.Parts.{PartLaws, nowhere-IsEmpty, none_right}
use Rattle.mc_rules_logic.proofs.FoldLemmas.Standing.{one_value}

pub small_stands : PartLaws → IsEmpty (blocks []) → StandsBy defs (valued (pos 6 ∷ [])) [] (blocks []) small_number
small_stands laws empty =
    record {
      null = refl;
      kinds = ((omega (arith, ints), omega (arith, ints)), tt);
      atoms = ((omega (arith, ints), omega (arith, ints)), tt);
      vars = tt;
      parts = record { held = blocks []; rest = nowhere; split = none_right laws (blocks []); each = empty; alone = λ t. nowhere-IsEmpty };
    }

module _ (laws : PartLaws) (sat : meaning.Sat defs list_id (pos 7) [] (blocks two_cells)) where
  pub lost_stands : StandsBy defs (valued (pos 7 ∷ [])) [] (blocks two_cells) lost_list
  lost_stands =
      record {
        null = refl;
        kinds = ((omega (arith, ints), omega (arith, ints)), tt);
        atoms = tt;
        vars = tt;
        parts = record {
          held = blocks two_cells;
          rest = nowhere;
          split = none_right laws (blocks two_cells);
          each = (blocks two_cells, nowhere, none_right laws (blocks two_cells), sat, nowhere-IsEmpty);
          alone = λ t. nowhere-IsEmpty;
        };
      }

  pub twice_stands : StandsBy defs (valued (pos 7 ∷ pos 7 ∷ [])) [] (blocks two_cells) named_twice
  twice_stands =
      record {
        null = refl;
        kinds = ((omega (arith, ints), omega (arith, ints)), ((omega (arith, ints), omega (arith, ints)), tt));
        atoms = (omega (arith, ints), tt);
        vars = tt;
        parts = record {
          held = blocks two_cells;
          rest = nowhere;
          split = none_right laws (blocks two_cells);
          each = (blocks two_cells, nowhere, none_right laws (blocks two_cells), sat, nowhere-IsEmpty);
          alone = λ t. nowhere-IsEmpty;
        };
      }

one_or_two : node 1 ≡ node 2 → ⊥
one_or_two e = let numbers : ◌≡◌ {A = ℕ} 1 2 = ap (λ (m : NodeId). m.0) e in cc numbers

two_or_null : node 2 ≡ null → ⊥
two_or_null e = let numbers : ◌≡◌ {A = ℕ} 2 0 = ap (λ (m : NodeId). m.0) e in cc numbers

module _ (not_false : NoneStandsForFalse) where
  pub spare_named : IsAtAddresses (blocks []) → StandsBy defs (valued (pos 6 ∷ [])) [] (blocks []) small_number → NamesSpare (node 1) (pos 1) Int small_number (with_spare ∷ [])
  spare_named addresses st =
      record {
        consistent = λ wrong. not_false defs [] (blocks []) small_number addresses (valued (pos 6 ∷ []), st) wrong;
        there = (Int, inr refl);
        lies = inl (pure.widened {lo = pos 5} {hi = pos 7} (pure.base (known.written 0 refl)) (omega (arith, ints)) (omega (arith, ints)));
        one_kind = inr refl;
        gives = refl;
      }

  pub nodes_merged : IsAtAddresses (blocks two_cells) → StandsBy defs (valued (pos 7 ∷ pos 7 ∷ [])) [] (blocks two_cells) named_twice → MergesNodes (node 1) (node 2) named_twice (named_once ∷ [])
  nodes_merged addresses st =
      record {
        consistent = λ wrong. not_false defs [] (blocks two_cells) named_twice addresses (valued (pos 7 ∷ pos 7 ∷ []), st) wrong;
        can = record { keep_is = (Ptr, inr refl); gone_is = (Ptr, inr refl); differ = λ e. absurd (one_or_two e); not_null = λ e. absurd (two_or_null e); kind = (Ptr, inr refl, inr refl) };
        equal = inl (pure.turned {a = node 2} {b = node 1} {c = pos 0} (pure.base (known.written 0 refl)));
        gives = refl;
      }

  module _ (addresses : IsAtAddresses (blocks two_cells)) (st : StandsBy defs (valued (pos 7 ∷ [])) [] (blocks two_cells) lost_list) where
    pub goal_met : MeetsGoal list_goal (edge 0) lost_list
    goal_met =
        record {
          consistent = λ wrong. not_false defs [] (blocks two_cells) lost_list addresses (valued (pos 7 ∷ []), st) wrong;
          at = node 1;
          args = [];
          there = refl;
          meets = itself lost_list (node 1) Ptr refl;
          args_meet = tt;
        }

    module _ (equal : EqualNodesAreOne) where
      -- what is reached is null
      reached_null : (n : NodeId) → IsReached lost_list n → valued (pos 7 ∷ []) n.0 ≡ pos 0
      reached_null _ from_null = refl
      reached_null n (from_var place e) = absurd (cc e)
      reached_null _ (along_equal {a} {b} r same) = sym (one_value equal defs (valued (pos 7 ∷ [])) [] (blocks two_cells) lost_list a b addresses st same) ∙ reached_null a r
      reached_null n (along_edge zero id e there r c) =
          let both : entry 0 (Ind (node 1) list_id []) ≡ (id, e) = cc in
          let is : Ind (node 1) list_id [] ≡ e = ap (λ (x : EdgeId × Edge). x.1) both in
          let seven : pos 7 ≡ pos 0 = ap (λ (x : Edge). valued (pos 7 ∷ []) (start_of x).0) is ∙ reached_null (start_of e) r in
          absurd (cc seven)
      reached_null n (along_edge (suc place) id e there r c) = absurd (cc there)

      pub edge_drops : DropsEdge (edge 0) lost_list (list_dropped ∷ [])
      edge_drops =
          record {
            consistent = λ wrong. not_false defs [] (blocks two_cells) lost_list addresses (valued (pos 7 ∷ []), st) wrong;
            e = Ind (node 1) list_id [];
            there = refl;
            unreached = λ r. let seven : pos 7 ≡ pos 0 = reached_null (node 1) r in cc seven;
            gives = refl;
          }
