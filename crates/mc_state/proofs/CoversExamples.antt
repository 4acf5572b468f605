-- Covers of small states.
use Rattle.std.proofs.Common.{◌≡◌, ℕ, pos, negsuc, Some, [], ◌∷◌, slice_get, refl, inl, inr}
use Rattle.mc_base.specs.declared.ids.NodeId.{NodeId}
use Rattle.mc_base.specs.declared.plain.Atom.{Atom}
use Rattle.mc_base.specs.declared.plain.Atom.TheVariants as atom
use Rattle.mc_base.specs.declared.plain.Kind.{Kind}
use Rattle.mc_base.specs.declared.plain.Kind.TheVariants.{Int, Ptr}
use Rattle.mc_base.specs.Nodes.{null}
use Rattle.mc_flow.specs.Defs.Examples.{defs, cell_id, list_id, lenlist_id, tree_id, null_rule, list_rule, lenlist_rule, tree_rule, list_def, lenlist_def, tree_def}
use Rattle.mc_state.specs.declared.graph.edge.Edge.TheVariants as edge
use Rattle.mc_state.specs.Graph.Graph.{Edges}
use Rattle.mc_pure.specs.Derived as pure
use Rattle.mc_pure.specs.Examples.{node}
use Rattle.mc_pure.specs.Pure as known
use Rattle.mc_pure.specs.Pure.{Base, kind_atom}
use Rattle.mc_state.specs.State.{State}
use Rattle.mc_state.specs.Facts.{Derives}
use Rattle.mc_state.specs.Terms.{plus}
use Rattle.mc_state.specs.Covers.{RuleTerms, BlockIsTaken, Cover, SegCover}
use Rattle.mc_state.specs.CoverExamples.{lone_pointer, cell_and_list, rest_list, segment_and_list, cell_and_length, fork_and_tree, other_list, at, entry}

-- ---- what follows at once
listed : (s : State) (n : NodeId) (k : Kind) (place : ℕ) → slice_get s.kinds place ≡ Some (n, k) → Derives s (kind_atom n k)
listed s n k place is = inl (pure.base (known.kind place is))

itself : (s : State) (n : NodeId) (k : Kind) → known.kind_of s.kinds n ≡ Some k → Derives s (atom.Eq n n (pos 0))
itself s n k is = inl (pure.itself (k, inr is))

written : (s : State) (f : Atom) (place : ℕ) → slice_get s.atoms place ≡ Some f → Derives s f
written s f place is = inl (pure.base (known.written place is))

-- ---- a list, by its rule
abbrev cell_terms : RuleTerms defs cell_and_list list_id (at 1) []
cell_terms =
    record {
      def = list_def;
      defined = refl;
      rule = list_rule;
      place = 1;
      listed = refl;
      count = refl;
      contents = node 2 ∷ node 3 ∷ [];
      contents_count = refl;
      names = at 1 ∷ at 2 ∷ at 3 ∷ [];
      fixed = [];
      front = refl;
      kinds = (listed cell_and_list (node 1) Ptr 0 refl, (listed cell_and_list (node 2) Int 1 refl, (listed cell_and_list (node 3) Ptr 2 refl, tt)));
      sums = tt;
      atoms = tt;
    }

cell_taken : BlockIsTaken cell_and_list (Some cell_id) (at 1) (node 2 ∷ node 3 ∷ []) cell_and_list.graph.edges (entry 1 rest_list ∷ [])
cell_taken = (record { 0 = 0 }, node 1, refl, itself cell_and_list (node 1) Ptr refl, refl)

pub by_rule : Cover defs cell_and_list list_id (at 1) [] cell_and_list.graph.edges []
by_rule =
    record {
      depth = 2;
      found = inr (inr (cell_terms, entry 1 rest_list ∷ [], cell_taken, ([], inl (record { 0 = 1 }, node 3, [], refl, itself cell_and_list (node 3) Ptr refl, tt, refl), refl)));
    }

-- ---- a list, by a segment
pub by_segment : Cover defs segment_and_list list_id (at 1) [] segment_and_list.graph.edges []
by_segment =
    record {
      depth = 2;
      found = inr (inl (
        record { 0 = 0 },
        node 1,
        [],
        node 2,
        [],
        refl,
        itself segment_and_list (node 1) Ptr refl,
        tt,
        inl (record { 0 = 1 }, node 2, [], refl, itself segment_and_list (node 2) Ptr refl, tt, refl),
      ));
    }

-- ---- a list of a length
abbrev length_terms : RuleTerms defs cell_and_length lenlist_id (at 1) (at 5 ∷ [])
length_terms =
    let s = cell_and_length in
    let more : Derives s (atom.In (node 5) (negsuc 2147483646) (pos 2147483648)) = inl (pure.shifted (pure.base (known.written 0 refl)) (pure.base (known.kind 3 refl))) in
    record {
      def = lenlist_def;
      defined = refl;
      rule = lenlist_rule;
      place = 1;
      listed = refl;
      count = refl;
      contents = node 2 ∷ node 3 ∷ [];
      contents_count = refl;
      names = at 1 ∷ at 5 ∷ at 2 ∷ at 3 ∷ plus (at 5) (negsuc 0) ∷ [];
      fixed = plus (at 5) (negsuc 0) ∷ [];
      front = refl;
      kinds = (listed s (node 1) Ptr 0 refl, (listed s (node 5) Int 4 refl, (listed s (node 2) Int 1 refl, (listed s (node 3) Ptr 2 refl, (more, tt)))));
      sums = (refl, tt);
      atoms = (itself s (node 5) Int refl, tt);
    }

pub with_length : Cover defs cell_and_length lenlist_id (at 1) (at 5 ∷ []) cell_and_length.graph.edges []
with_length =
    let s = cell_and_length in
    let rest : Edges = entry 1 (edge.Ind (node 3) lenlist_id (node 4 ∷ [])) ∷ [] in
    let one_less : Derives s (atom.Eq (node 5) (node 4) (pos 1)) = written s (atom.Eq (node 5) (node 4) (pos 1)) 0 refl in
    record {
      depth = 2;
      found = inr (inr (
        length_terms,
        rest,
        (record { 0 = 0 }, node 1, refl, itself s (node 1) Ptr refl, refl),
        ([], inl (record { 0 = 1 }, node 3, node 4 ∷ [], refl, itself s (node 3) Ptr refl, (one_less, tt), refl), refl),
      ));
    }

-- ---- a tree
abbrev fork_terms : RuleTerms defs fork_and_tree tree_id (at 1) []
fork_terms =
    record {
      def = tree_def;
      defined = refl;
      rule = tree_rule;
      place = 1;
      listed = refl;
      count = refl;
      contents = node 2 ∷ node 3 ∷ [];
      contents_count = refl;
      names = at 1 ∷ at 2 ∷ at 3 ∷ [];
      fixed = [];
      front = refl;
      kinds = (listed fork_and_tree (node 1) Ptr 0 refl, (listed fork_and_tree (node 2) Ptr 1 refl, (listed fork_and_tree (node 3) Ptr 2 refl, tt)));
      sums = tt;
      atoms = tt;
    }

abbrev leaf_terms : RuleTerms defs fork_and_tree tree_id (at 3) []
leaf_terms =
    record {
      def = tree_def;
      defined = refl;
      rule = null_rule;
      place = 0;
      listed = refl;
      count = refl;
      contents = [];
      contents_count = refl;
      names = at 3 ∷ [];
      fixed = [];
      front = refl;
      kinds = (listed fork_and_tree (node 3) Ptr 2 refl, tt);
      sums = (tt, tt);
      atoms = (written fork_and_tree (atom.Eq (node 3) null (pos 0)) 0 refl, tt);
    }

pub two_calls : Cover defs fork_and_tree tree_id (at 1) [] fork_and_tree.graph.edges (entry 0 other_list ∷ [])
two_calls =
    let s = fork_and_tree in
    let left : Edges = entry 0 other_list ∷ [] in
    let mid : Edges = entry 0 other_list ∷ entry 2 (edge.Ind (node 2) tree_id []) ∷ [] in
    record {
      depth = 2;
      found = inr (inr (
        fork_terms,
        mid,
        (record { 0 = 1 }, node 1, refl, itself s (node 1) Ptr refl, refl),
        (
          left,
          inl (record { 0 = 2 }, node 2, [], refl, itself s (node 2) Ptr refl, tt, refl),
          (left, inr (inr (leaf_terms, left, (refl, refl), refl)), refl),
        ),
      ));
    }

-- ---- segments
pub to_itself : SegCover defs lone_pointer list_id (at 1) [] (at 1) [] lone_pointer.graph.edges []
to_itself = record { depth = 0; found = (list_def, refl, itself lone_pointer (node 1) Ptr refl, tt, tt, refl) }

pub one_cell : SegCover defs cell_and_list list_id (at 1) [] (at 3) [] cell_and_list.graph.edges (entry 1 rest_list ∷ [])
one_cell =
    let left : Edges = entry 1 rest_list ∷ [] in
    record {
      depth = 1;
      found = inr (inr (
        cell_terms,
        left,
        cell_taken,
        0,
        (left, refl, (list_def, refl, itself cell_and_list (node 3) Ptr refl, tt, tt, refl), refl),
      ));
    }

pub one_segment : SegCover defs segment_and_list list_id (at 1) [] (at 2) [] segment_and_list.graph.edges (entry 1 (edge.Ind (node 2) list_id []) ∷ [])
one_segment =
    record {
      depth = 1;
      found = inr (inl (
        record { 0 = 0 },
        node 1,
        [],
        node 2,
        [],
        refl,
        itself segment_and_list (node 1) Ptr refl,
        tt,
        (list_def, refl, itself segment_and_list (node 2) Ptr refl, tt, tt, refl),
      ));
    }
