-- A segment may be empty, and may go on in any of a rule's calls.
use Rattle.std.proofs.Common.{◌≡◌, ◌⊎◌, ℕ, zero, suc, ℤ, pos, ◌+ℤ◌, Option, Some, None, List, [], ◌∷◌, slice_get, refl, sym, ◌∙◌, ap, subst, inl, inr, arith}
use Rattle.std.specs.FinMap as finmap
use Rattle.std.specs.FinMap.{get-from_entries}
use Rattle.std.specs.Cmp.{nat_cmp_total}
use Rattle.std.specs.List.{AllByRecursion}
use Rattle.std.proofs.lemmas.Int.{ints}
use Rattle.mc_base.specs.declared.plain.Kind.TheVariants.{Ptr}
use Rattle.mc_base.specs.Nodes.{Valuation}
use Rattle.mc_flow.specs.Heap.Heap.{Block, Region, IsAtAddresses}
use Rattle.mc_flow.specs.Heap.Instances.{nowhere}
use Rattle.mc_flow.specs.Heap.Parts.{IsEmpty, IsCell}
use Rattle.mc_flow.specs.Heap.PartLaws.{SplitCommutes, SplitAddsEmpty, EmptyHeapIsEmpty, InsertChanges, InsertKeepsAddresses}
use Rattle.mc_flow.specs.declared.defs.rules.Def.{Def}
use Rattle.mc_flow.specs.declared.defs.rules.Rule.{Rule}
use Rattle.mc_flow.specs.Defs.Examples.{defs, tree_id, list_id, null_rule, tree_rule, tree_def, fork_with, blocks}
use Rattle.mc_flow.specs.Defs.Laws.{SatUnfolds}
use Rattle.mc_flow.specs.Defs.Meaning as meaning
use Rattle.mc_flow.specs.Defs.Meaning.{RuleValues, BlockMeets, Sat}
use Rattle.mc_flow.specs.Defs.Values.{value_of}
use Rattle.mc_flow.specs.Defs.Values as named
use Rattle.mc_pure.specs.Derived as pure
use Rattle.mc_pure.specs.Examples.{node}
use Rattle.mc_state.specs.Fits.{IsBounded}
use Rattle.mc_state.specs.Laws.{NoneStandsForFalse}
use Rattle.mc_state.specs.Stands.{VarsMeet, AgreeBelow, StandsBy}
use Rattle.mc_state.specs.State.{State}
use Rattle.mc_rules_logic.specs.Unfold.Examples.{edge, one_segment, no_segment, cell_then_segment, first_two, tree_segment, goes_left, goes_right, right_fork}
use Rattle.mc_rules_logic.specs.Unfold.Unfolded.{UnfoldsSeg}
use Rattle.mc_rules_logic.specs.Unfold.WrongRules.{IsSoundRule, NeverEmpty, FirstCallOnly}
use Rattle.mc_rules_logic.proofs.UnfoldLemmas.ExampleStates.{nowhere-IsEmpty, none_left, none_right, segment_stands}
use Rattle.mc_flow.proofs.DefsLemmas.SmallHeaps.{leaf_by}
use Rattle.mc_rules_logic.proofs.BackLemmas.ExampleStates.{inside, one_of_one}

-- no cell is in nothing
no_cell_there : (w : Valuation) → IsEmpty (blocks []) → StandsBy defs w [] (blocks []) cell_then_segment → ⊥
no_cell_there w empty st =
    let p = st.parts in
    let cell = p.each.3 in
    let at = cell.0 in
    let here = inside p.held p.each.0 p.each.1 at _ p.each.2 cell.2.1.here in
    let there = inside (blocks []) p.held p.rest at _ p.split here in
    let none = empty.none at in
    cc

bounded_segment : IsBounded one_segment
bounded_segment =
    record {
      positive = omega arith;
      kinds = (omega arith, omega arith, (omega arith, omega arith, tt));
      ids = (omega arith, omega arith, tt);
      vars = tt;
      edges = (((Ptr, inr refl), ((Ptr, inr refl), tt)), tt);
      atoms = tt;
    }

module _ (commutes : SplitCommutes) (adds_empty : SplitAddsEmpty) (not_false : NoneStandsForFalse) where
  pub not_never_empty : IsEmpty (blocks []) → IsAtAddresses (blocks []) → meaning.Seg defs list_id (pos 7) [] (pos 7) [] (blocks []) → UnfoldsSeg defs (Some (node 1)) (edge 0) one_segment (no_segment ∷ cell_then_segment ∷ []) → IsSoundRule NeverEmpty → ⊥
  not_never_empty empty addresses seg unfolds sound =
      let st = segment_stands commutes adds_empty 7 (blocks []) (omega (arith, ints), omega (arith, ints)) seg in
      let some = sound defs (Some (node 1)) (edge 0) one_segment (cell_then_segment ∷ []) bounded_segment (no_segment, unfolds) (first_two 7 7) [] (blocks []) addresses st in
      no_cell_there some.2 empty (subst (λ s. StandsBy defs some.2 [] (blocks []) s) (sym (one_of_one cell_then_segment some.1 some.0 some.3)) some.5)

-- ---- trees

one_of_two : (r0 r1 rule : Rule) (place : ℕ) → slice_get (r0 ∷ r1 ∷ []) place ≡ Some rule → (r0 ≡ rule) ⊎ (r1 ≡ rule)
one_of_two r0 r1 rule zero e = let same : r0 ≡ rule = cc in inl same
one_of_two r0 r1 rule (suc zero) e = let same : r1 ≡ rule = cc in inr same
one_of_two r0 r1 rule (suc (suc n)) e = cc

-- a tree at 9 has a block at 9
tree_at_nine : SatUnfolds → (region : Region) → Sat defs tree_id (pos 9) [] region → (b : Block) × (region 9 ≡ Some b)
tree_at_nine unfolds region sat =
    let body = unfolds defs tree_id (pos 9) [] region sat in
    let by : RuleValues defs tree_id (pos 9) [] = body.0 in
    let d : tree_def ≡ by.def = cc (by.defined) in
    let listed : slice_get tree_def.rules by.place ≡ Some by.rule = subst (λ (x : Def). slice_get x.rules by.place ≡ Some by.rule) (sym d) by.listed in
    let first : value_of by.names 0 ≡ pos 9 = ap (λ names. value_of names 0) by.front in
    elim (one_of_two null_rule tree_rule by.rule by.place listed) [
      | inl e ↦
          let atoms = subst (λ (r : Rule). AllByRecursion (named.IsTrueAtom by.names) r.atoms) (sym e) by.atoms in
          let null : value_of by.names 0 ≡ pos 0 +ℤ pos 0 = atoms.0 in
          absurd (omega (arith, ints))
      | inr e ↦
          let block = subst (λ (r : Rule). BlockMeets r.block r.contents by.names body.1) (sym e) body.4 in
          let place : block.0 ≡ 9 = cc (block.1, first) in
          (_, ap region (sym place) ∙ inside region body.1 body.2 block.0 _ body.3 block.2.here)
    ]

abbrev fork_by : RuleValues defs tree_id (pos 7) []
fork_by =
    record {
      def = tree_def;
      defined = refl;
      rule = tree_rule;
      place = 1;
      listed = refl;
      names = pos 7 ∷ pos 0 ∷ pos 9 ∷ [];
      kinds = ((omega (arith, ints), omega (arith, ints)), ((omega (arith, ints), omega (arith, ints)), ((omega (arith, ints), omega (arith, ints)), tt)));
      count = refl;
      others = pos 0 ∷ pos 9 ∷ [];
      front = refl;
      atoms = tt;
    }

-- the field to the right has the value of its node
right_value : (w : Valuation) (zs : List (Option ℤ)) → zs ≡ Some (pos 0) ∷ Some (pos 9) ∷ [] → VarsMeet w (Some (node 3) ∷ Some (node 4) ∷ []) zs → w 4 ≡ pos 9
right_value w zs e m =
    let both = subst (VarsMeet w (Some (node 3) ∷ Some (node 4) ∷ [])) e m in
    cc (both.1.0)

bounded_tree : IsBounded tree_segment
bounded_tree =
    record {
      positive = omega arith;
      kinds = (omega arith, omega arith, (omega arith, omega arith, tt));
      ids = (omega arith, omega arith, tt);
      vars = tt;
      edges = (((Ptr, inr refl), ((Ptr, inr refl), tt)), tt);
      atoms = tt;
    }

module _ (commutes : SplitCommutes) (adds_empty : SplitAddsEmpty) (empty : EmptyHeapIsEmpty) (insert : InsertChanges) (keeps : InsertKeepsAddresses) where
  fork_alone : IsCell (blocks right_fork) 7 (fork_with (pos 0) (pos 9))
  fork_alone =
      let change = insert (finmap.from_entries []) 7 (fork_with (pos 0) (pos 9)) in
      record { here = change.here; only = λ other ne. change.others other ne ∙ empty.none other }

  fork_addresses : IsAtAddresses (blocks []) → IsAtAddresses (blocks right_fork)
  fork_addresses none = keeps (finmap.from_entries []) 7 (fork_with (pos 0) (pos 9)) (omega arith, omega arith) none

  leaf : Sat defs tree_id (pos 0) [] nowhere
  leaf = record { height = 1; holds = (leaf_by, nowhere, nowhere, none_left commutes adds_empty nowhere, nowhere-IsEmpty, nowhere-IsEmpty) }

  -- a tree's segment that goes on to the right
  right_segment : meaning.Seg defs tree_id (pos 7) [] (pos 9) [] (blocks right_fork)
  right_segment =
      let nothing = none_left commutes adds_empty nowhere in
      record {
        height = 1;
        holds = inr (
          fork_by,
          blocks right_fork,
          nowhere,
          none_right commutes adds_empty (blocks right_fork),
          (7, refl, fork_alone),
          1,
          (nowhere, nowhere, nothing, leaf, (nowhere, nowhere, nothing, (refl, (refl, refl, nowhere-IsEmpty)), nowhere-IsEmpty)),
        );
      }

  tree_stands : StandsBy defs (first_two 7 9) [] (blocks right_fork) tree_segment
  tree_stands =
      record {
        null = refl;
        kinds = ((omega (arith, ints), omega (arith, ints)), ((omega (arith, ints), omega (arith, ints)), tt));
        atoms = tt;
        vars = tt;
        parts = record {
          held = blocks right_fork;
          rest = nowhere;
          split = none_right commutes adds_empty (blocks right_fork);
          each = (blocks right_fork, nowhere, none_right commutes adds_empty (blocks right_fork), right_segment, nowhere-IsEmpty);
          alone = λ t. nowhere-IsEmpty;
        };
      }

  -- to the left the segment would leave a tree at 9, where nothing is
  not_to_left : SatUnfolds → (w : Valuation) → AgreeBelow 3 (first_two 7 9) w → StandsBy defs w [] (blocks right_fork) goes_left → ⊥
  not_to_left unfolds w agree st =
      let p = st.parts in
      let fork = p.each.3 in
      let others = p.each.4 in
      let trees = others.4 in
      let seven : w 1 ≡ pos 7 = agree 1 (omega arith) in
      let place : fork.0 ≡ 7 = cc (fork.1, seven) in
      let turned = commutes p.held p.each.0 p.each.1 p.each.2 in
      let here = inside (blocks right_fork) p.held p.rest fork.0 _ p.split (inside p.held p.each.0 p.each.1 fork.0 _ p.each.2 fork.2.1.here) in
      let there : blocks right_fork fork.0 ≡ Some (fork_with (pos 0) (pos 9)) = ap (blocks right_fork) place ∙ fork_alone.here in
      let same : ◌≡◌ {A = Block} (record { shape = 1; fields = fork.2.0 }) (fork_with (pos 0) (pos 9)) = cc (here, there) in
      let right : w 4 ≡ pos 9 = right_value w fork.2.0 (ap (λ (b : Block). b.fields) same) fork.2.2 in
      let tree : Sat defs tree_id (pos 9) [] trees.0 = subst (λ z. Sat defs tree_id z [] trees.0) right trees.3 in
      let block = tree_at_nine unfolds trees.0 tree in
      let inner = inside others.1 trees.0 trees.1 9 block.0 trees.2 block.1 in
      let outer = inside p.each.1 others.1 others.0 9 block.0 (commutes p.each.1 others.0 others.1 others.2) inner in
      let held = inside p.held p.each.1 p.each.0 9 block.0 turned outer in
      let nine = inside (blocks right_fork) p.held p.rest 9 block.0 p.split held in
      let none : blocks right_fork 9 ≡ None = get-from_entries nat_cmp_total right_fork 9 in
      cc (nine, none)

  abbrev after_fork : List State
  after_fork = no_segment ∷ goes_left ∷ []

  none_of_two : SatUnfolds → (place : ℕ) (t : State) (w : Valuation) → slice_get after_fork place ≡ Some t → AgreeBelow 3 (first_two 7 9) w → StandsBy defs w [] (blocks right_fork) t → ⊥
  none_of_two unfolds zero t w e agree st =
      let is : no_segment ≡ t = cc in
      let here = subst (λ s. StandsBy defs w [] (blocks right_fork) s) (sym is) st in
      let same : w 1 ≡ w 2 +ℤ pos 0 = here.atoms.0 in
      let seven : w 1 ≡ pos 7 = agree 1 (omega arith) in
      let nine : w 2 ≡ pos 9 = agree 2 (omega arith) in
      omega (arith, ints)
  none_of_two unfolds (suc zero) t w e agree st =
      let is : goes_left ≡ t = cc in
      not_to_left unfolds w agree (subst (λ s. StandsBy defs w [] (blocks right_fork) s) (sym is) st)
  none_of_two unfolds (suc (suc place)) t w e agree st = absurd (cc e)

  pub not_first_call_only : SatUnfolds → NoneStandsForFalse → IsAtAddresses (blocks []) → IsSoundRule FirstCallOnly → ⊥
  not_first_call_only unfolds not_false none sound =
      let addresses = fork_addresses none in
      let all : UnfoldsSeg defs (Some (node 1)) (edge 0) tree_segment (no_segment ∷ goes_left ∷ goes_right ∷ []) =
      record {
        consistent = λ wrong. not_false defs [] (blocks right_fork) tree_segment addresses (first_two 7 9, tree_stands) wrong;
        at = node 1;
        args = [];
        pred = tree_id;
        stop = node 2;
        ends = [];
        there = refl;
        may = inr (inl (pure.itself (Ptr, inr refl)));
        def = tree_def;
        defined = refl;
        gives = refl;
      } in
      let some = sound defs (Some (node 1)) (edge 0) tree_segment after_fork bounded_tree (no_segment ∷ goes_left ∷ goes_right ∷ [], all, refl) (first_two 7 9) [] (blocks right_fork) addresses tree_stands in
      none_of_two unfolds some.0 some.1 some.2 some.3 some.4 some.5
