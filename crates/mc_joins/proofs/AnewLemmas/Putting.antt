-- What is put into a state that is numbered anew.
use Rattle.std.proofs.Common.{◌≡◌, ℕ, zero, suc, List, Option, None, Bool, length, map, option_map, replicate, refl, sym, ◌∙◌, ap, subst}
use Rattle.std.specs.List.{AllByRecursion}
use Rattle.mc_base.specs.declared.ids.EdgeId.{EdgeId}
use Rattle.mc_base.specs.declared.ids.NodeId.{NodeId}
use Rattle.mc_base.specs.declared.plain.Atom.{Atom}
use Rattle.mc_base.specs.Atoms.{moved_atom}
use Rattle.mc_base.specs.Nodes.{moved}
use Rattle.mc_state.specs.declared.graph.edge.Edge.{Edge}
use Rattle.mc_state.specs.Graph.Edges.{known_nodes, nodes_of, moved_edge}
use Rattle.mc_state.specs.Graph.Graph.{Edges}
use Rattle.mc_pure.specs.Pure.{Kinds, IsWellFormed}
use Rattle.mc_pure.specs.Nodes.{RiseFrom}
use Rattle.mc_pure_ops.specs.Renaming.Images.{Images, image}
use Rattle.mc_state.specs.State.{State, with_atoms, with_edges}
use Rattle.mc_state.specs.Fits.{AreNodes, IsBounded}
use Rattle.mc_state.specs.Laws.{moved_kinds}
use Rattle.mc_joins.specs.Same.Same.{place_from, anew}
use Rattle.mc_joins.specs.Anew.Numbers.{AreNumbers, numbered_nodes}
use Rattle.mc_joins.proofs.AnewLemmas.Images.{vars_there, atoms_well, edges_there, all_anew}

long_none : (o : Option NodeId) (n : ℕ) → length (replicate n o) ≡ n
long_none o zero = refl
long_none o (suc n) = ap suc (long_none o n)

-- as many variables
pub vars_long : (s fresh : State) (env : List (Option NodeId)) → fresh ≡ numbered_nodes (length s.env) s.kinds → env ≡ s.env → length fresh.env ≡ length env
vars_long s fresh env e p = ap (λ (z : State). length z.env) e ∙ (long_none None (length s.env) ∙ ap (λ (z : List (Option NodeId)). length z) (sym p))

module _ (s : State) (rise : RiseFrom 1 s.kinds) (images : Images) (numbers : AreNumbers s.kinds images) where
  abbrev f : ℕ → ℕ
  f = image images

  abbrev new_kinds : Kinds
  new_kinds = moved_kinds (place_from 1 s.kinds) s.kinds

  -- the images of what the state names are there
  pub vars_fit : (kinds : Kinds) (env : List (Option NodeId)) → kinds ≡ new_kinds → env ≡ s.env → IsBounded s → AreNodes kinds (map (moved f) (known_nodes env))
  vars_fit kinds env e p bounded =
      subst (λ (z : Kinds). AreNodes z (map (moved f) (known_nodes env))) (sym e)
      (subst (λ (z : List (Option NodeId)). AreNodes new_kinds (map (moved f) (known_nodes z))) (sym p) (vars_there s.kinds rise images numbers s.env bounded.vars))

  pub atoms_fit : (kinds : Kinds) (atoms : List Atom) → kinds ≡ new_kinds → atoms ≡ s.atoms → AllByRecursion (IsWellFormed s.kinds) s.atoms → AllByRecursion (λ a. IsWellFormed kinds (moved_atom f a)) atoms
  atoms_fit kinds atoms e p well =
      subst (λ (z : Kinds). AllByRecursion (λ a. IsWellFormed z (moved_atom f a)) atoms) (sym e)
      (subst (λ (z : List Atom). AllByRecursion (λ a. IsWellFormed new_kinds (moved_atom f a)) z) (sym p) (atoms_well s.kinds rise images numbers s.atoms well))

  pub edges_fit : (kinds : Kinds) (es : Edges) → kinds ≡ new_kinds → es ≡ s.graph.edges → IsBounded s → AllByRecursion (λ e. AreNodes kinds (nodes_of (moved_edge f e.1))) es
  edges_fit kinds es e p bounded =
      subst (λ (z : Kinds). AllByRecursion (λ e. AreNodes z (nodes_of (moved_edge f e.1))) es) (sym e)
      (subst (λ (z : Edges). AllByRecursion (λ e. AreNodes new_kinds (nodes_of (moved_edge f e.1))) z) (sym p) (edges_there s.kinds rise images numbers s.graph.edges bounded.edges))

  -- and all of it is the state, numbered anew
  pub all_put : (fresh vars atoms edges whole : State) (env : List (Option NodeId)) (facts : List Atom) (es : Edges) (flag : Bool)
      → IsBounded s → env ≡ s.env → facts ≡ s.atoms → es ≡ s.graph.edges → flag ≡ s.whole
      → fresh ≡ numbered_nodes (length s.env) s.kinds
      → vars ≡ record fresh { env = map (option_map (moved f)) env }
      → atoms ≡ with_atoms vars (map (moved_atom f) facts)
      → edges ≡ with_edges atoms (map (λ (x : EdgeId × Edge). moved_edge f x.1) es)
      → whole ≡ record edges { whole = flag }
      → whole ≡ anew s
  all_put fresh vars atoms edges whole env facts es flag bounded p q r t a b c d e =
      all_anew s images fresh vars atoms edges whole rise bounded numbers a
      (b ∙ ap (λ (z : List (Option NodeId)). record fresh { env = map (option_map (moved f)) z }) p)
      (c ∙ ap (λ (z : List Atom). with_atoms vars (map (moved_atom f) z)) q)
      (d ∙ ap (λ (z : Edges). with_edges atoms (map (λ (x : EdgeId × Edge). moved_edge f x.1) z)) r)
      (e ∙ ap (λ (z : Bool). record edges { whole = z }) t)
