-- All that follows is written: a node for zero is named, and forgotten.
use Rattle.std.proofs.Common.{◌≡◌, inl, inr, ◌<◌, ℕ, zero, suc, pos, false, Option, Some, None, List, [], ◌∷◌, Contains, slice_get, refl, ◌∙◌, subst, arith, eqb-true}
use Rattle.std.specs.Prelude.{◌==◌, Bool, true}
use Rattle.std.specs.List.{AllByRecursion}
use Rattle.std.proofs.lemmas.Int.{ints}
use Rattle.mc_base.specs.declared.ids.EdgeId.{EdgeId}
use Rattle.mc_base.specs.declared.ids.NodeId.{NodeId}
use Rattle.mc_base.specs.declared.plain.Atom.{Atom}
use Rattle.mc_base.specs.declared.plain.Kind.{Kind}
use Rattle.mc_base.specs.declared.plain.Kind.TheVariants.{Ptr}
use Rattle.mc_base.specs.Atoms.{nodes_of_atom}
use Rattle.mc_base.specs.Nodes.{null}
use Rattle.mc_state.specs.declared.graph.edge.Edge.{Edge}
use Rattle.mc_state.specs.Graph.Edges.{known_nodes, nodes_of}
use Rattle.mc_state.specs.Graph.Graph.{block_starts}
use Rattle.mc_pure.specs.Derived.{Follows, base, widened}
use Rattle.mc_pure.specs.Known.{IsFit}
use Rattle.mc_pure.specs.Nodes.{RiseFrom}
use Rattle.mc_pure.specs.Pure as known
use Rattle.mc_pure.specs.Pure.{Base, HasKind, IsNode, IsWellFormed}
use Rattle.mc_pure.proofs.Growing.{still_there}
use Rattle.mc_pure.proofs.Placing.{kind_at}
use Rattle.mc_pure.proofs.True.{follows_from_more}
use Rattle.mc_state.specs.Facts.{IsFalse, IsUnnamed}
use Rattle.mc_state.specs.Fits.{AreNodes, IsBounded}
use Rattle.mc_state.specs.State.{State, pure_of, next_node}
use Rattle.mc_state.proofs.Bounds.{new_nodes_have_kinds, nodes_are_below}
use Rattle.mc_state.proofs.Lists.{all_at}
use Rattle.mc_rules_logic.specs.Fold.Changed.{NamesSpare, ForgetsNode, IsListWithout, left_over}
use Rattle.mc_rules_logic.proofs.FoldLemmas.ExampleForgets.{named}
use Rattle.mc_rules_logic.proofs.FoldLemmas.MadeNodes.{kept_kind}
use Rattle.mc_rules_logic.proofs.FoldLemmas.Reaching.{among_all, among_from}
use Rattle.mc_follow.specs.Ending.Ending.{IsLater}
use Rattle.mc_follow.proofs.EndingLemmas.Written.{spare}
use Rattle.mc_kernel.proofs.OracleLemmas.Known.{rises, starts_there}

-- ---- what is asked of a state that is well made

pub made_rises : (s : State) → IsBounded s → RiseFrom 1 s.kinds
made_rises s b = rises 1 s.kinds s.next b.kinds

pub made_fits : (s : State) → IsBounded s → AllByRecursion (IsWellFormed s.kinds) s.atoms → IsFit (pure_of s)
made_fits s b atoms = record {
  written = λ i f e. all_at (IsWellFormed s.kinds) s.atoms i f e atoms;
  starts = λ i a e. all_at (IsNode s.kinds) (block_starts s.graph.edges) i a e (starts_there s.kinds s.graph.edges b.edges);
}

-- ---- what follows names nodes that are there

module _ (s : State) (b : IsBounded s) where
  bases_named : (f : Atom) → Base (pure_of s) f → AreNodes s.kinds (nodes_of_atom f)
  bases_named f (known.written place e) = all_at (λ (g : Atom). AreNodes s.kinds (nodes_of_atom g)) s.atoms place f e b.atoms
  bases_named _ known.zero = ((Ptr, inl refl), tt)
  bases_named _ (known.kind {n} {k} place e) = ((k, inr (kind_at 1 s.kinds (made_rises s b) place n k e).0), tt)
  bases_named _ (known.block {a} place e) = (all_at (IsNode s.kinds) (block_starts s.graph.edges) place a e (starts_there s.kinds s.graph.edges b.edges), tt)
  bases_named _ (known.apart {a = x} {b = y} i j ne p q) = (
    all_at (IsNode s.kinds) (block_starts s.graph.edges) i x p (starts_there s.kinds s.graph.edges b.edges),
    (all_at (IsNode s.kinds) (block_starts s.graph.edges) j y q (starts_there s.kinds s.graph.edges b.edges), tt),
  )

  follows_named : (f : Atom) → Follows (pure_of s) f → AreNodes s.kinds (nodes_of_atom f)
  follows_named f h = named (pure_of s) bases_named f h

  -- the next node is none of those that are there
  next_new : IsNode s.kinds (next_node s) → ⊥
  next_new there = let less : s.next < s.next = nodes_are_below s (next_node s) b there in omega arith

  pub none_is_next : (ns : List NodeId) → AreNodes s.kinds ns → Contains ns (next_node s) → ⊥
  none_is_next ns there c = next_new (among_all (IsNode s.kinds) ns (next_node s) there (among_from ns (next_node s) c))

  var_there : (env : List (Option NodeId)) (place : ℕ) (n : NodeId) → slice_get env place ≡ Some (Some n) → AllByRecursion (IsNode s.kinds) (known_nodes env) → IsNode s.kinds n
  var_there [] place n e all = absurd (cc e)
  var_there (None ∷ env) zero n e all = absurd (cc e)
  var_there (None ∷ env) (suc place) n e all = var_there env place n e all
  var_there (Some m ∷ env) zero n e all = let same : m ≡ n = cc e in subst (IsNode s.kinds) same all.0
  var_there (Some m ∷ env) (suc place) n e all = var_there env place n e all.1

  -- the state with a node that is zero
  abbrev pub zeroed : State
  zeroed = spare s null (pos 0) Ptr

  pub names_zero : (IsFalse s → ⊥) → NamesSpare null (pos 0) Ptr s (zeroed ∷ [])
  names_zero consistent = record {
    consistent = consistent;
    there = (Ptr, inl refl);
    lies = inl (widened {lo = pos 0} {hi = pos 0} (base known.zero) (omega (arith, ints)) (omega (arith, ints)));
    one_kind = inl refl;
    gives = refl;
  }

  unnamed : IsUnnamed (next_node s) zeroed
  unnamed = record {
    vars = λ place e. next_new (var_there s.env place (next_node s) e b.vars);
    edges = λ place id e is c. none_is_next (nodes_of e) (all_at (λ (x : EdgeId × Edge). AreNodes s.kinds (nodes_of x.1)) s.graph.edges place (id, e) is b.edges) c;
  }

  more : (k : Kind) (n : NodeId) → HasKind s.kinds k n → HasKind zeroed.kinds k n
  more = (new_nodes_have_kinds s (Ptr ∷ []) b).1

  -- what followed follows still
  still_follows : (f : Atom) → Follows (pure_of s) f → Follows (pure_of zeroed) f
  still_follows f h = follows_from_more (pure_of s) (pure_of zeroed) (λ n is. (is.0, more is.0 n is.1)) bases f h
    where
      bases : (g : Atom) → Base (pure_of s) g → Follows (pure_of zeroed) g
      bases g (known.written place e) = base (known.written place (still_there s.atoms _ place g e))
      bases g known.zero = base known.zero
      bases _ (known.kind {n} {k} place e) = base (known.kind place (still_there s.kinds _ place (n, k) e))
      bases g (known.block place e) = base (known.block place e)
      bases g (known.apart i j ne p q) = base (known.apart i j ne p q)

  -- the state in which that node is forgotten
  module _ (atoms : List Atom) (consistent : IsFalse zeroed → ⊥) where
    abbrev pub forgotten : State
    forgotten = left_over zeroed (next_node s) atoms

    not_null : next_node s ≡ null → ⊥
    not_null e = next_new (Ptr, inl e)

    next_there : IsNode zeroed.kinds (next_node s)
    next_there = (Ptr, (new_nodes_have_kinds s (Ptr ∷ []) b).0.0)

    kept : (k : Kind) (n : NodeId) → HasKind s.kinds k n → HasKind forgotten.kinds k n
    kept k n (inl e) = inl e
    kept k n (inr e) = by (more k n (inr e)) (n.0 == s.next) refl
      where
        by : HasKind zeroed.kinds k n → (b : Bool) → (n.0 == s.next) ≡ b → HasKind forgotten.kinds k n
        by (inl h) same is = inl h
        by (inr h) false is = inr (kept_kind zeroed.kinds (next_node s) n is ∙ h)
        by (inr h) true is =
            let one : n.0 ≡ s.next = eqb-true n.0 s.next is in
            let less : n.0 < s.next = nodes_are_below s n b (k, inr e) in
            absurd (omega arith)

    module _ (list : IsListWithout (next_node s) zeroed atoms) where
      pub forgets_zero : ForgetsNode (next_node s) zeroed (forgotten ∷ [])
      forgets_zero = record {
        consistent = consistent;
        there = next_there;
        not_null = not_null;
        unnamed = unnamed;
        after = forgotten;
        forgets = list consistent next_there not_null unnamed;
        gives = refl;
      }

      -- all that followed is written
      pub forgotten_later : IsLater s forgotten
      forgotten_later = record {
        kinds = kept;
        known = λ f h.
            ((list consistent next_there not_null unnamed).derived f).1 (inl (still_follows f h), λ c. none_is_next (nodes_of_atom f) (follows_named f h) c);
      }
