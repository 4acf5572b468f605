-- States that are tidy, and states that are not.
use Rattle.std.proofs.Common.{◌≡◌, ℕ, zero, suc, ℤ, pos, Some, Option, List, [], ◌∷◌, map, slice_get, eqb-true, refl, ap, sym, ◌∙◌, subst, inl, inr, arith}
use Rattle.std.proofs.lemmas.Int.{ints}
use Rattle.std.specs.Ordering.{int_eq}
use Rattle.std.specs.Prelude.{◌⊎◌, ◌+ℤ◌, ◌==◌, if◌then◌else◌, true, false, Bool}
use Rattle.mc_base.specs.declared.ids.EdgeId.{EdgeId}
use Rattle.mc_base.specs.declared.ids.NodeId.{NodeId}
use Rattle.mc_base.specs.declared.plain.Kind.{Kind}
use Rattle.mc_base.specs.declared.plain.Kind.TheVariants.{Int}
use Rattle.mc_base.specs.Nodes.{Valuation, null}
use Rattle.mc_state.specs.declared.graph.edge.Edge.{Edge}
use Rattle.mc_base.specs.declared.plain.Atom.TheVariants.{Eq}
use Rattle.mc_flow.specs.Defs.Examples.{cell_id}
use Rattle.mc_state.specs.declared.graph.edge.Edge.TheVariants.{Block}
use Rattle.mc_state.specs.Graph.Edges.{start_of}
use Rattle.mc_state.specs.Graph.Graph.{Edges}
use Rattle.mc_pure.specs.Derived as pure
use Rattle.mc_pure.specs.Examples.{node}
use Rattle.mc_pure.specs.Laws.{IsTrue, DerivedIsTrue, TrueIsNotFalse}
use Rattle.mc_pure.specs.Pure as known
use Rattle.mc_pure.specs.Pure.{Kinds, IsNode, kind_of}
use Rattle.mc_state.specs.Facts.{IsReached, IsTidy, CanMerge, AreEqual, from_null, from_var, along_equal, along_edge}
use Rattle.mc_state.specs.State.{State, pure_of}
use Rattle.mc_kernel.specs.Shown.TidyStates.{last_cell, tidy, with_no_number, with_lost_cell, with_second_name, with_zero, with_offset}
use Rattle.mc_kernel.proofs.ShownLemmas.Numbers.{valued, numbers_fit}

-- a number more by nothing
plus_none : (a b : ℤ) → a ≡ b +ℤ pos 0 → a ≡ b
plus_none a b e = omega (arith, ints)

same_node : (a b : NodeId) → a.0 ≡ b.0 → a ≡ b
same_node a b e = ap (λ (n : ℕ). let r : NodeId = record { 0 = n } in r) e

-- the node that has a value
abbrev node_of_value : ℤ → ℕ
node_of_value z = if int_eq z (pos 7) then 1 else (if int_eq z (pos 5) then 2 else (if int_eq z (pos 6) then 3 else 0))

other_node : (a b : ℕ) → (a ≡ b → ⊥) → node a ≡ node b → ⊥
other_node a b differ e = differ (ap (λ (m : NodeId). m.0) e)

-- a number of a list
abbrev Among : List ℕ → ℕ → Type 0
Among [] n = ⊥
Among (m ∷ ms) n = (n ≡ m) ⊎ Among ms n

-- of nodes that are there, the number is that of one of the kinds, or 0
kind_at : (k : NodeId × Kind) (kinds : Kinds) (n : NodeId) (kind : Kind) → (kind_of kinds n ≡ Some kind → Among (map (λ k. k.0.0) kinds) n.0)
    → (b : Bool) → (k.0.0 == n.0) ≡ b → (if b then Some k.1 else kind_of kinds n) ≡ Some kind → Among (map (λ k. k.0.0) (k ∷ kinds)) n.0
kind_at k kinds n kind rest true is e = inl (sym (eqb-true k.0.0 n.0 is))
kind_at k kinds n kind rest false is e = inr (rest e)

kind_there : (kinds : Kinds) (n : NodeId) (kind : Kind) → kind_of kinds n ≡ Some kind → Among (map (λ k. k.0.0) kinds) n.0
kind_there [] n kind e = absurd (cc e)
kind_there (k ∷ kinds) n kind e = kind_at k kinds n kind (λ f. kind_there kinds n kind f) (k.0.0 == n.0) refl e

node_there : (kinds : Kinds) (n : NodeId) → IsNode kinds n → Among (0 ∷ map (λ k. k.0.0) kinds) n.0
node_there kinds n (kind, inl e) = inl (ap (λ (m : NodeId). m.0) e)
node_there kinds n (kind, inr e) = inr (kind_there kinds n kind e)

module _ (truth : DerivedIsTrue) (sound : TrueIsNotFalse) where
  -- equal nodes have one value
  one_value : (s : State) (v : Valuation) → IsTrue v (pure_of s) → (a b : NodeId) → AreEqual s a b → v a.0 ≡ v b.0
  one_value s v fits a b e = let sum : v a.0 ≡ v b.0 +ℤ pos 0 = truth (pure_of s) v fits (Eq a b (pos 0)) e in plus_none (v a.0) (v b.0) sum

  -- where a node is known by its value, none are merged
  never_merged : (s : State) (v : Valuation) → IsTrue v (pure_of s) → ((n : ℕ) → Among (0 ∷ map (λ k. k.0.0) s.kinds) n → node_of_value (v n) ≡ n)
      → (keep gone : NodeId) → CanMerge s.kinds keep gone → AreEqual s keep gone → ⊥
  never_merged s v fits told keep gone can e =
      let one = told keep.0 (node_there s.kinds keep can.keep_is) in
      let other = told gone.0 (node_there s.kinds gone can.gone_is) in
      can.differ (same_node keep gone (sym one ∙ ap node_of_value (one_value s v fits keep gone e) ∙ other))

  tidy_fits : IsTrue (valued (pos 7 ∷ pos 5 ∷ [])) (pure_of tidy)
  tidy_fits =
      numbers_fit (valued (pos 7 ∷ pos 5 ∷ [])) (pure_of tidy) refl
      ((omega (arith, ints), omega (arith, ints)), ((omega (arith, ints), omega (arith, ints)), tt)) tt ((omega (arith, ints), omega (arith, ints)), tt) (omega arith)

  offset_fits : IsTrue (valued (pos 7 ∷ pos 5 ∷ pos 6 ∷ [])) (pure_of with_offset)
  offset_fits =
      numbers_fit (valued (pos 7 ∷ pos 5 ∷ pos 6 ∷ [])) (pure_of with_offset) refl
      ((omega (arith, ints), omega (arith, ints)), ((omega (arith, ints), omega (arith, ints)), ((omega (arith, ints), omega (arith, ints)), tt)))
      (refl, tt) ((omega (arith, ints), omega (arith, ints)), tt) (omega arith)

  two_told : (n : ℕ) → Among (0 ∷ 1 ∷ 2 ∷ []) n → node_of_value (valued (pos 7 ∷ pos 5 ∷ []) n) ≡ n
  two_told n (inl e) = ap (λ (m : ℕ). node_of_value (valued (pos 7 ∷ pos 5 ∷ []) m)) e ∙ sym e
  two_told n (inr (inl e)) = ap (λ (m : ℕ). node_of_value (valued (pos 7 ∷ pos 5 ∷ []) m)) e ∙ sym e
  two_told n (inr (inr (inl e))) = ap (λ (m : ℕ). node_of_value (valued (pos 7 ∷ pos 5 ∷ []) m)) e ∙ sym e
  two_told n (inr (inr (inr e))) = absurd e

  three_told : (n : ℕ) → Among (0 ∷ 1 ∷ 2 ∷ 3 ∷ []) n → node_of_value (valued (pos 7 ∷ pos 5 ∷ pos 6 ∷ []) n) ≡ n
  three_told n (inl e) = ap (λ (m : ℕ). node_of_value (valued (pos 7 ∷ pos 5 ∷ pos 6 ∷ []) m)) e ∙ sym e
  three_told n (inr (inl e)) = ap (λ (m : ℕ). node_of_value (valued (pos 7 ∷ pos 5 ∷ pos 6 ∷ []) m)) e ∙ sym e
  three_told n (inr (inr (inl e))) = ap (λ (m : ℕ). node_of_value (valued (pos 7 ∷ pos 5 ∷ pos 6 ∷ []) m)) e ∙ sym e
  three_told n (inr (inr (inr (inl e)))) = ap (λ (m : ℕ). node_of_value (valued (pos 7 ∷ pos 5 ∷ pos 6 ∷ []) m)) e ∙ sym e
  three_told n (inr (inr (inr (inr e)))) = absurd e

  cell_reached : (s : State) → s.graph.edges ≡ last_cell → slice_get s.env 0 ≡ Some (Some (node 1)) → (place : ℕ) (id : EdgeId) (e : Edge) → slice_get s.graph.edges place ≡ Some (id, e) → IsReached s (start_of e)
  cell_reached s is first place id e there = at place (ap (λ (es : Edges). slice_get es place) (sym is) ∙ there)
    where
      at : (place : ℕ) → slice_get last_cell place ≡ Some (id, e) → IsReached s (start_of e)
      at zero e' = let same : ◌≡◌ {A = Option (EdgeId × Edge)} (Some (record { 0 = 0 }, Block (node 1) cell_id (Some (node 2) ∷ Some null ∷ []))) (Some (id, e)) = e' in
          let pair : ◌≡◌ {A = EdgeId × Edge} (record { 0 = 0 }, Block (node 1) cell_id (Some (node 2) ∷ Some null ∷ [])) (id, e) = cc same in
          let edge : ◌≡◌ {A = Edge} (Block (node 1) cell_id (Some (node 2) ∷ Some null ∷ [])) e = ap (λ (x : EdgeId × Edge). x.1) pair in
          subst (λ (x : Edge). IsReached s (start_of x)) edge (from_var 0 first)
      at (suc place) e' = absurd (cc e')

  pub is_tidy : IsTidy tidy
  is_tidy = record {
    consistent = λ wrong. sound (pure_of tidy) (valued (pos 7 ∷ pos 5 ∷ [])) tidy_fits wrong;
    reached = cell_reached tidy refl refl;
    merged = never_merged tidy (valued (pos 7 ∷ pos 5 ∷ [])) tidy_fits two_told;
  }

  pub offset_is_tidy : IsTidy with_offset
  offset_is_tidy = record {
    consistent = λ wrong. sound (pure_of with_offset) (valued (pos 7 ∷ pos 5 ∷ pos 6 ∷ [])) offset_fits wrong;
    reached = cell_reached with_offset refl refl;
    merged = never_merged with_offset (valued (pos 7 ∷ pos 5 ∷ pos 6 ∷ [])) offset_fits three_told;
  }

  pub no_number : IsTidy with_no_number → ⊥
  no_number t = t.consistent (pure.empty (omega (arith, ints)) (pure.base (known.written 0 refl)))

  -- what is reached of the lost cell's state is null
  only_null : (n : NodeId) → IsReached with_lost_cell n → valued (pos 7 ∷ pos 5 ∷ []) n.0 ≡ pos 0
  only_null _ from_null = refl
  only_null _ (from_var {n} zero e) = absurd (cc e)
  only_null _ (from_var {n} (suc place) e) = absurd (cc e)
  only_null _ (along_equal {a} {b} r e) = sym (one_value with_lost_cell (valued (pos 7 ∷ pos 5 ∷ [])) tidy_fits a b e) ∙ only_null a r
  only_null _ (along_edge {n} zero id e there r c) =
      let pair : ◌≡◌ {A = EdgeId × Edge} (record { 0 = 0 }, Block (node 1) cell_id (Some (node 2) ∷ Some null ∷ [])) (id, e) = cc there in
      let start : node 1 ≡ start_of e = ap (λ (x : EdgeId × Edge). start_of x.1) pair in
      let wrong : pos 7 ≡ pos 0 = ap (λ (m : NodeId). valued (pos 7 ∷ pos 5 ∷ []) m.0) start ∙ only_null (start_of e) r in
      absurd (cc wrong)
  only_null _ (along_edge {n} (suc place) id e there r c) = absurd (cc there)

  pub lost_cell : IsTidy with_lost_cell → ⊥
  lost_cell t = let wrong : pos 7 ≡ pos 0 = only_null (node 1) (t.reached 0 _ _ refl) in cc wrong

  pub second_name : IsTidy with_second_name → ⊥
  second_name t = t.merged (node 2) (node 3) (record { keep_is = (Int, inr refl); gone_is = (Int, inr refl); differ = other_node 2 3 (λ e. omega arith); not_null = other_node 3 0 (λ e. omega arith); kind = (Int, inr refl, inr refl) }) (inl (pure.turned (pure.base (known.written 0 refl))))

  pub zero_named : IsTidy with_zero → ⊥
  zero_named t = t.merged null (node 2) (record { keep_is = (Int, inl refl); gone_is = (Int, inr refl); differ = other_node 0 2 (λ e. omega arith); not_null = other_node 2 0 (λ e. omega arith); kind = (Int, inl refl, inr refl) }) (inl (pure.turned (pure.base (known.written 0 refl))))
