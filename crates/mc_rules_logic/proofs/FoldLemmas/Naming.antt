-- Nodes are named, merged and forgotten, and edges dropped.
use Rattle.std.proofs.Common.{◌≡◌, ℕ, ℤ, ◌+ℤ◌, ◌-ℤ◌, Some, List, [], ◌∷◌, map, slice_get, refl, sym, ◌∙◌, ap, subst, arith, false}
use Rattle.std.specs.List.{AllByRecursion}
use Rattle.std.proofs.lemmas.Int.{ints}
use Rattle.mc_base.specs.declared.ids.NodeId.{NodeId}
use Rattle.mc_base.specs.declared.plain.Kind.{Kind}
use Rattle.mc_base.specs.declared.plain.Kind.TheVariants.{Int, Ptr}
use Rattle.mc_base.specs.declared.plain.Atom.{Atom}
use Rattle.mc_base.specs.declared.plain.Atom.TheVariants.{Eq, In}
use Rattle.mc_base.specs.Atoms.{IsTrueAtom, nodes_of_atom}
use Rattle.mc_base.specs.Kinds.{InKind}
use Rattle.mc_base.specs.Nodes.{Valuation, at_node}
use Rattle.mc_state.specs.Graph.Graph.{without}
use Rattle.mc_pure.specs.Derived as pure
use Rattle.mc_pure.specs.Pure as known
use Rattle.mc_pure.specs.Pure.{IsNode, low_of, high_of}
use Rattle.mc_state.specs.Facts.{Derives, merged}
use Rattle.mc_pure.specs.Whole.{kinds_without}
use Rattle.mc_state.specs.Fits.{AreNodes, IsBounded}
use Rattle.mc_state.specs.Laws.{DerivedIsTrue, EqualNodesAreOne, NodesAreAdded, NodesHaveValues, AtomsAreAdded, AtomsAreDropped, EdgesAreDropped, NodeIsDropped, StandsMerged, NodesStayBounded, NewNodesAreThere, AtomsStayBounded, FewerEdgesStayBounded, MergedStaysBounded, DroppedStaysBounded}
use Rattle.mc_state.specs.Stands.{StandsBy, extended}
use Rattle.mc_state.specs.State.{State, next_node, with_nodes, with_atoms, with_only_edges}
use Rattle.mc_rules_logic.specs.Fold.Changed.{Forgets, left_over}
use Rattle.mc_rules_logic.specs.Fold.Laws.{IsLawful, LawOfSpare, LawOfMerge, LawOfDrop, LawOfForget}
use Rattle.mc_rules_logic.proofs.FoldLemmas.Lists.{all_places}
use Rattle.mc_rules_logic.proofs.FoldLemmas.Names.{node_below}

-- what the rules that name, merge and drop rest on
pub record NamingLaws : Type 0 where
  pub truth : DerivedIsTrue
  pub equal : EqualNodesAreOne
  pub nodes : NodesAreAdded
  pub values : NodesHaveValues
  pub atoms : AtomsAreAdded
  pub atoms_dropped : AtomsAreDropped
  pub edges_dropped : EdgesAreDropped
  pub node_dropped : NodeIsDropped
  pub merged : StandsMerged
  pub nodes_bounded : NodesStayBounded
  pub atoms_bounded : AtomsStayBounded
  pub fewer_bounded : FewerEdgesStayBounded
  pub merged_bounded : MergedStaysBounded
  pub dropped_bounded : DroppedStaysBounded
  pub new_there : NewNodesAreThere

-- a number between the ends of a kind
more_in : (kind : Kind) (z add : ℤ) → IsTrueAtom (λ n. z) (In (record { 0 = 0 }) (low_of kind -ℤ add) (high_of kind -ℤ add)) → InKind kind (z +ℤ add)
more_in Int z add t = (omega (arith, ints, t), omega (arith, ints, t))
more_in Ptr z add t = (omega (arith, ints, t), omega (arith, ints, t))

pub name_spare : NamingLaws → LawOfSpare
name_spare laws defs node add kind s next bounded i =
    let new : Atom = Eq (next_node s) node add in
    let wide : State = with_nodes s (kind ∷ []) in
    let there = laws.new_there s (kind ∷ []) in
    rw i.gives (
      λ v values region addresses st.
          let numbers : List ℤ = (v node.0 +ℤ add) ∷ [] in
          let w : Valuation = extended v s.next numbers in
          let fits : InKind kind (v node.0 +ℤ add) = more_in kind (v node.0) add (laws.truth defs v values region s (In node (low_of kind -ℤ add) (high_of kind -ℤ add)) addresses st i.lies) in
          let have = laws.values v s.next numbers in
          let own : w s.next ≡ v node.0 +ℤ add = cc (have.0) in
          let old : w node.0 ≡ v node.0 = have.1 node.0 (node_below 1 s.next s.kinds node bounded.positive bounded.kinds i.there) in
          let is : IsTrueAtom w new = own ∙ ap (λ z. z +ℤ add) (sym old) in
          let stands = laws.nodes defs v values region s (kind ∷ []) numbers bounded (fits, tt) st in
          (0, with_atoms wide (new ∷ []), w, refl, have.1, laws.atoms defs w values region wide (new ∷ []) (is, tt) stands),
      (laws.atoms_bounded wide (new ∷ []) (laws.nodes_bounded s (kind ∷ []) bounded) ((there.0.0, (there.1 node i.there, tt)), tt), tt),
    )

pub merge_nodes : NamingLaws → LawOfMerge
merge_nodes laws defs keep gone s next bounded i =
    let lawful : IsLawful defs s (merged keep gone s ∷ []) = (
      λ v values region addresses st. (0, merged keep gone s, v, refl, λ m below. refl, laws.merged defs v values region s keep gone addresses i.equal st),
      (laws.merged_bounded s keep gone i.can bounded, tt),
    ) in (
      rw i.gives lawful,
      λ v values region addresses st.
          let both : map (at_node v) (keep ∷ []) ≡ map (at_node v) (gone ∷ []) = laws.equal defs v values region s (keep ∷ []) (gone ∷ []) addresses st (i.equal, tt) in
          let same : v keep.0 ≡ v gone.0 = cc both in
          sym same,
    )

pub drop_edge : NamingLaws → LawOfDrop
drop_edge laws defs edge s next bounded i =
    let left = without s.graph.edges edge in
    let after : State = record (with_only_edges s left) { whole = false } in
    let less = laws.fewer_bounded s (edge ∷ []) (i.e ∷ []) left (i.there, (refl, refl)) bounded in
    let lawful : IsLawful defs s (after ∷ []) = (
      λ v values region addresses st. (0, after, v, refl, λ m below. refl, laws.edges_dropped defs v values region s (edge ∷ []) (i.e ∷ []) left (i.there, (refl, refl)) st),
      (record { positive = less.positive; kinds = less.kinds; ids = less.ids; vars = less.vars; edges = less.edges; atoms = less.atoms }, tt),
    ) in
    rw i.gives lawful

-- the state after is determined by its atoms
pub after_is : (s t : State) (n : NodeId) → Forgets n s t → t ≡ left_over s n t.atoms
after_is s t n f =
    ap (λ e. record { env = e; kinds = t.kinds; graph = t.graph; atoms = t.atoms; next = t.next; whole = t.whole }) f.env
    ∙ ap (λ k. record { env = s.env; kinds = k; graph = t.graph; atoms = t.atoms; next = t.next; whole = t.whole }) f.kinds
    ∙ ap (λ g. record { env = s.env; kinds = kinds_without s.kinds n; graph = g; atoms = t.atoms; next = t.next; whole = t.whole }) f.graph
    ∙ ap (λ m. record { env = s.env; kinds = kinds_without s.kinds n; graph = s.graph; atoms = t.atoms; next = m; whole = t.whole }) f.next
    ∙ ap (λ b. record { env = s.env; kinds = kinds_without s.kinds n; graph = s.graph; atoms = t.atoms; next = s.next; whole = b }) f.whole

-- what is written after was entailed before
was_derived : (s t : State) (n : NodeId) → Forgets n s t → (place : ℕ) (a : Atom) → slice_get t.atoms place ≡ Some a → Derives s a
was_derived s t n f place a e = ((f.derived a).0 (pure.base (known.written place e))).0

pub forget_node : NamingLaws → LawOfForget
forget_node laws defs node s next bounded i =
    let t = i.after in
    let f = i.forgets in
    let is = after_is s t node f in
    let named = subst (λ kinds. AllByRecursion (λ a. AreNodes kinds (nodes_of_atom a)) t.atoms) f.kinds f.named in
    let bounds : IsBounded t = subst IsBounded (sym is) (laws.dropped_bounded s node t.atoms bounded i.unnamed named) in
    let lawful : IsLawful defs s (t ∷ []) = (
      λ v values region addresses st.
          let true_atoms = all_places (IsTrueAtom v) t.atoms (λ place a e. laws.truth defs v values region s a addresses st (was_derived s t node f place a e)) in
          let less = laws.atoms_dropped defs v values region (record s { kinds = kinds_without s.kinds node }) t.atoms true_atoms (laws.node_dropped defs v values region s node st) in
          (0, t, v, refl, λ m below. refl, subst (StandsBy defs v values region) (sym is) less),
      (bounds, tt),
    ) in
    rw i.gives lawful
