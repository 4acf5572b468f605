-- One edge is not two calls, other arguments are not those at a segment's end, and what is dropped is allocated still.
use Rattle.std.proofs.Common.{◌≡◌, ◌<◌, ℕ, zero, suc, pos, true, Some, None, [], ◌∷◌, refl, sym, ◌∙◌, ap, subst, inr, arith}
use Rattle.std.specs.FinMap as finmap
use Rattle.std.specs.FinMap.{get-from_entries}
use Rattle.std.specs.Cmp.{nat_cmp_total}
use Rattle.std.proofs.lemmas.Int.{ints}
use Rattle.mc_base.specs.declared.ids.EdgeId.{EdgeId}
use Rattle.mc_base.specs.declared.plain.Kind.TheVariants.{Int, Ptr}
use Rattle.mc_base.specs.Nodes.{Valuation}
use Rattle.mc_flow.specs.Heap.Heap.{Region, IsAtAddresses}
use Rattle.mc_flow.specs.Heap.Instances.{nowhere}
use Rattle.mc_flow.specs.Heap.PartLaws.{InsertKeepsAddresses}
use Rattle.mc_flow.specs.Defs.Examples.{defs, fork_id, tree_id, lenlist_id, tree_rule, tree_def, fork_with, cell_with, blocks, two_cells, shared_fork}
use Rattle.mc_flow.specs.Defs.Meaning.{Sat}
use Rattle.mc_state.specs.declared.graph.edge.Edge.{Edge}
use Rattle.mc_state.specs.declared.graph.edge.Edge.TheVariants.{Block, Ind}
use Rattle.mc_pure.specs.Examples.{node}
use Rattle.mc_state.specs.Fits.{IsBounded}
use Rattle.mc_state.specs.Laws.{NoneStandsForFalse}
use Rattle.mc_state.specs.Rules.{StandsForSome}
use Rattle.mc_state.specs.Stands.{EdgeMeets, Parts, StandsBy}
use Rattle.mc_state.specs.State.{State}
use Rattle.mc_rules_logic.specs.Fold.Folded.{ind_fold}
use Rattle.mc_rules_logic.specs.Fold.Changed.{DropsEdge}
use Rattle.mc_rules_logic.specs.Fold.Examples.{edge, valued, shared_tree, shared_folded, other_length, length_closed, lost_list, list_dropped, second_fork}
use Rattle.mc_rules_logic.specs.Fold.WrongRules.{SharedFoldIsSound, ClosingAnyArgsIsSound, DroppingKeepsWhole}
use Rattle.mc_rules_logic.proofs.FoldLemmas.ExampleFolds.{itself}
use Rattle.mc_flow.proofs.DefsLemmas.SmallHeaps.{added, second_tree}
use Rattle.mc_rules_logic.proofs.FoldLemmas.Parts.{PartLaws, nowhere-IsEmpty, none_right, one_star}

-- what stands for one state
one_of_one : (n : ℕ) (v : Valuation) (region : Region) (s : State) → StandsForSome defs n v [] region (s ∷ []) → (w : Valuation) × ((m : ℕ) → m < n → w m ≡ v m) × StandsBy defs w [] region s
one_of_one n v region s (zero, t, w, e, agree, st) = let is : s ≡ t = cc in (w, agree, subst (StandsBy defs w [] region) (sym is) st)
one_of_one n v region s (suc place, t, w, e, agree, st) = absurd (cc e)

-- the one edge of a whole state has the whole heap
only_edge : PartLaws → (w : Valuation) (region : Region) (id : EdgeId) (e : Edge) → Parts defs w region ((id, e) ∷ []) true → EdgeMeets defs w e region
only_edge laws w region id e p =
    let same : region ≡ p.held = laws.drops_empty region p.rest p.held (p.alone refl) (laws.commutes region p.held p.rest p.split) in
    subst (EdgeMeets defs w e) (sym same) (one_star laws (λ (x : EdgeId × Edge). EdgeMeets defs w x.1) (id, e) p.held p.each)

-- ---- a fork with one tree for both its children

bounded_shared : IsBounded shared_tree
bounded_shared =
    record {
      positive = omega arith;
      kinds = (omega arith, omega arith, (omega arith, omega arith, tt));
      ids = (omega arith, omega arith, (omega arith, omega arith, tt));
      vars = tt;
      edges = (((Ptr, inr refl), ((Ptr, inr refl), ((Ptr, inr refl), tt))), (((Ptr, inr refl), tt), tt));
      atoms = tt;
    }

module _ (laws : PartLaws) (keeps : InsertKeepsAddresses) where
  shared_addresses : IsAtAddresses (blocks []) → IsAtAddresses (blocks shared_fork)
  shared_addresses none =
      keeps (finmap.from_entries second_fork) 7 (fork_with (pos 9) (pos 9)) (omega arith, omega arith)
      (keeps (finmap.from_entries []) 9 (fork_with (pos 0) (pos 0)) (omega arith, omega arith) none)

  shared_stands : StandsBy defs (valued (pos 7 ∷ pos 9 ∷ [])) [] (blocks shared_fork) shared_tree
  shared_stands =
      let first = added 7 (fork_with (pos 9) (pos 9)) second_fork (get-from_entries nat_cmp_total second_fork 7) in
      record {
        null = refl;
        kinds = ((omega (arith, ints), omega (arith, ints)), ((omega (arith, ints), omega (arith, ints)), tt));
        atoms = tt;
        vars = tt;
        parts = record {
          held = blocks shared_fork;
          rest = nowhere;
          split = none_right laws (blocks shared_fork);
          each = (
            first.0,
            blocks second_fork,
            first.1,
            (7, refl, (Some (pos 9) ∷ Some (pos 9) ∷ [], first.2, (refl, (refl, tt)))),
            (blocks second_fork, nowhere, none_right laws (blocks second_fork), second_tree, nowhere-IsEmpty),
          );
          alone = λ t. nowhere-IsEmpty;
        };
      }

  pub not_shared : NoneStandsForFalse → IsAtAddresses (blocks []) → ¬ Sat defs tree_id (pos 7) [] (blocks shared_fork) → SharedFoldIsSound → ⊥
  not_shared not_false none no_tree sound =
      let addresses = shared_addresses none in
      let v = valued (pos 7 ∷ pos 9 ∷ []) in
      let some =
      sound defs (ind_fold tree_id 1 (node 1 ∷ node 2 ∷ node 2 ∷ []) (Some (edge 0)) (edge 1 ∷ edge 1 ∷ [])) shared_tree (shared_folded ∷ []) bounded_shared
      (record {
        consistent = λ wrong. not_false defs [] (blocks shared_fork) shared_tree addresses (v, shared_stands) wrong;
        blocks = Block (node 1) fork_id (Some (node 2) ∷ Some (node 2) ∷ []) ∷ [];
        inds = Ind (node 2) tree_id [] ∷ Ind (node 2) tree_id [] ∷ [];
        named = (refl, (refl, (refl, tt)));
        one_each = refl;
        def = tree_def;
        defined = refl;
        by = tree_rule;
        listed = refl;
        kinds = (inr refl, (inr refl, (inr refl, tt)));
        this = node 1;
        args = [];
        others = node 2 ∷ node 2 ∷ [];
        front = refl;
        count = refl;
        block_fits = (refl, itself shared_tree (node 1) Ptr refl, (itself shared_tree (node 2) Ptr refl, (itself shared_tree (node 2) Ptr refl, tt)));
        calls_fit = ((refl, itself shared_tree (node 2) Ptr refl, tt), ((refl, itself shared_tree (node 2) Ptr refl, tt), tt));
        atoms = tt;
        gives = refl;
      }) v [] (blocks shared_fork) addresses shared_stands in
      let one = one_of_one 3 v (blocks shared_fork) shared_folded some in
      let seven : one.0 1 ≡ pos 7 = one.1 1 (omega arith) in
      let tree : Sat defs tree_id (one.0 1) [] (blocks shared_fork) = only_edge laws one.0 (blocks shared_fork) (edge 2) (Ind (node 1) tree_id []) one.2.parts in
      no_tree (subst (λ z. Sat defs tree_id z [] (blocks shared_fork)) seven tree)

-- ---- a segment and a list of another length

bounded_lengths : IsBounded other_length
bounded_lengths =
    record {
      positive = omega arith;
      kinds = (omega arith, omega arith, (omega arith, omega arith, (omega arith, omega arith, tt)));
      ids = (omega arith, omega arith, (omega arith, omega arith, tt));
      vars = tt;
      edges = (((Ptr, inr refl), ((Int, inr refl), ((Ptr, inr refl), ((Int, inr refl), tt)))), (((Ptr, inr refl), ((Int, inr refl), tt)), tt));
      atoms = tt;
    }

pub not_any_args : PartLaws → NoneStandsForFalse → IsAtAddresses (blocks two_cells) → StandsBy defs (valued (pos 7 ∷ pos 3 ∷ pos 2 ∷ [])) [] (blocks two_cells) other_length
    → ¬ Sat defs lenlist_id (pos 7) (pos 3 ∷ []) (blocks two_cells) → ClosingAnyArgsIsSound → ⊥
not_any_args laws not_false addresses st no_list sound =
    let v = valued (pos 7 ∷ pos 3 ∷ pos 2 ∷ []) in
    let some =
    sound defs (edge 0) (edge 1) other_length (length_closed ∷ []) bounded_lengths
    (record {
      consistent = λ wrong. not_false defs [] (blocks two_cells) other_length addresses (v, st) wrong;
      at = node 1;
      args = node 2 ∷ [];
      pred = lenlist_id;
      stop = node 1;
      ends = node 2 ∷ [];
      from = node 1;
      from_args = node 3 ∷ [];
      left = [];
      picks = (refl, (refl, (refl, refl)));
      meet = itself other_length (node 1) Ptr refl;
      gives = refl;
    }) v [] (blocks two_cells) addresses st in
    let one = one_of_one 4 v (blocks two_cells) length_closed some in
    let seven : one.0 1 ≡ pos 7 = one.1 1 (omega arith) in
    let three : one.0 2 ≡ pos 3 = one.1 2 (omega arith) in
    let held : Sat defs lenlist_id (one.0 1) (one.0 2 ∷ []) (blocks two_cells) = only_edge laws one.0 (blocks two_cells) (edge 2) (Ind (node 1) lenlist_id (node 2 ∷ [])) one.2.parts in
    no_list (subst (λ z. Sat defs lenlist_id z (pos 3 ∷ []) (blocks two_cells)) seven (subst (λ z. Sat defs lenlist_id (one.0 1) (z ∷ []) (blocks two_cells)) three held))

-- ---- a list that is dropped

bounded_lost : IsBounded lost_list
bounded_lost =
    record { positive = omega arith; kinds = (omega arith, omega arith, tt); ids = (omega arith, omega arith, tt); vars = tt; edges = (((Ptr, inr refl), tt), tt); atoms = tt }

pub not_whole : PartLaws → DropsEdge (edge 0) lost_list (list_dropped ∷ []) → IsAtAddresses (blocks two_cells) → StandsBy defs (valued (pos 7 ∷ [])) [] (blocks two_cells) lost_list → DroppingKeepsWhole → ⊥
not_whole laws drops addresses st sound =
    let v = valued (pos 7 ∷ []) in
    let kept : State = record list_dropped { whole = true } in
    let some = sound defs (edge 0) lost_list (kept ∷ []) bounded_lost (list_dropped, drops, refl) v [] (blocks two_cells) addresses st in
    let one = one_of_one 2 v (blocks two_cells) kept some in
    let p = one.2.parts in
    let rest : blocks two_cells ≡ p.rest = laws.drops_empty (blocks two_cells) p.held p.rest p.each p.split in
    let none : p.rest 7 ≡ None = (p.alone refl).none 7 in
    let here : blocks two_cells 7 ≡ Some (cell_with (pos 5) (pos 9)) = get-from_entries nat_cmp_total two_cells 7 in
    let gone : blocks two_cells 7 ≡ None = ap (λ (r : Region). r 7) rest ∙ none in
    cc (here, gone)
