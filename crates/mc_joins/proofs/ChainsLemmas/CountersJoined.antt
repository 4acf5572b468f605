-- A C3 line by which two counters that are tied by an offset are widened.
use Rattle.std.proofs.Common.{◌≡◌, ◌⊎◌, ◌≤◌, ℕ, zero, suc, ℤ, pos, ◌+ℤ◌, ◌≤ℤ◌, [], ◌∷◌, Some, refl, sym, ap, subst, inl, inr, arith}
use Rattle.std.proofs.lemmas.Int.{ints}
use Rattle.mc_base.specs.declared.ids.NodeId.{NodeId}
use Rattle.mc_base.specs.declared.plain.Atom.TheVariants.{Eq, Ne, In}
use Rattle.mc_base.specs.declared.plain.Kind.TheVariants.{Int}
use Rattle.mc_base.specs.Nodes.{moved, null}
use Rattle.mc_pure.specs.Derived as derived
use Rattle.mc_pure.specs.Derived.{Follows, base}
use Rattle.mc_pure.specs.Examples.{node}
use Rattle.mc_pure.specs.Pure as known
use Rattle.mc_pure.specs.Pure.{IsNode}
use Rattle.mc_state.specs.Facts.{IsFalse, IsTidy, CanMerge, AreEqual, Derives}
use Rattle.mc_joins.specs.Chains.Examples.{CountersAreJoined}
use Rattle.mc_joins.specs.JointExamples.{two_kinds, two_known, tied}
use Rattle.mc_joins.specs.Same.Same.{AreSameUnder}
use Rattle.mc_joins.proofs.JointExamples.{ExampleLaws, two_values, nodes_are, counters_of, side_one, side_two, counter_true, tied_result, tied_joins, least_true, first_counter}

-- nodes 0, 1 and 2 have different numbers
differ : (i k : ℕ) → i ≤ 2 → k ≤ 2 → two_values (pos 1) (pos 2) i ≡ two_values (pos 1) (pos 2) k +ℤ pos 0 → i ≡ k
differ zero zero a b e = refl
differ zero (suc zero) a b e = absurd (let no : ⊥ = omega (arith, ints, e) in no)
differ zero (suc (suc k)) a b e = absurd (let no : ⊥ = omega (arith, ints, e) in no)
differ (suc zero) zero a b e = absurd (let no : ⊥ = omega (arith, ints, e) in no)
differ (suc zero) (suc zero) a b e = refl
differ (suc zero) (suc (suc k)) a b e = absurd (let no : ⊥ = omega (arith, ints, e) in no)
differ (suc (suc i)) zero a b e = absurd (let no : ⊥ = omega (arith, ints, e) in no)
differ (suc (suc i)) (suc zero) a b e = absurd (let no : ⊥ = omega (arith, ints, e) in no)
differ (suc (suc i)) (suc (suc k)) a b e = omega (arith, a, b)

below : (n : NodeId) → IsNode (two_kinds Int) n → n.0 ≤ 2
below n there = at (nodes_are n there)
  where
    number : {m : NodeId} → n ≡ m → n.0 ≡ m.0
    number e = ap (λ (x : NodeId). x.0) e

    at : (n ≡ null) ⊎ ((n ≡ node 1) ⊎ (n ≡ node 2)) → n.0 ≤ 2
    at (inl e) = let is = number e in omega arith
    at (inr (inl e)) = let is = number e in omega arith
    at (inr (inr e)) = let is = number e in omega arith

module _ (laws : ExampleLaws) where
  -- no two nodes of either state can be merged, and there is no edge
  tidy : (high : ℤ) → pos 1 ≤ℤ high → high ≤ℤ pos 2 → (derived.IsFalse (counters_of laws high) → ⊥) → IsTidy (two_known Int (tied high))
  tidy high low top consistent = record { consistent = consistent; reached = λ i id e is. absurd (cc is); merged = λ keep gone can eq. apart keep gone can eq }
    where
      same_node : (a b : NodeId) → a.0 ≡ b.0 → a ≡ b
      same_node a b e = ap (λ (n : ℕ). let x : NodeId = record { 0 = n } in x) e

      apart : (keep gone : NodeId) → CanMerge (two_kinds Int) keep gone → AreEqual (two_known Int (tied high)) keep gone → ⊥
      apart keep gone can (inr wrong) = consistent wrong
      apart keep gone can (inl d) =
          can.differ (same_node keep gone (differ keep.0 gone.0 (below keep can.keep_is) (below gone can.gone_is) (counter_true laws high low (pos 1) (omega (arith, ints)) (omega (arith, ints, low)) top (Eq keep gone (pos 0)) d)))

  -- what the join gives is not false
  not_false : IsFalse (tied_result laws) → ⊥
  not_false (derived.empty {a} {lo} {hi} less d) = let ends = least_true laws (In a lo hi) d in omega (arith, ints, less, ends.0, ends.1)
  not_false (derived.apart {a} d) = least_true laws (Ne a a (pos 0)) d (omega (arith, ints))
  not_false (derived.more {a} {c} other d) = let same = least_true laws (Eq a a c) d in other (omega (arith, ints, same))

  -- nor is it the state that was there
  changed : (f back : ℕ → ℕ) → AreSameUnder f back (tied_result laws) (two_known Int (tied (pos 1))) → ⊥
  changed f back same =
      let stays : moved f (node 1) ≡ node 1 = first_of same.env in
      let there : Derives (two_known Int (tied (pos 1))) (In (moved f (node 1)) (pos 0) (pos 1)) =
      subst (λ (n : NodeId). Derives (two_known Int (tied (pos 1))) (In n (pos 0) (pos 1))) (sym stays) (inl (base (known.written 0 refl))) in
      elim ((same.derived (In (node 1) (pos 0) (pos 1)) ((Int, inr refl), tt)).1 there) [
        | inl d ↦ (let ends = (first_counter laws).least (pos 0) (pos 1) d in omega (arith, ints, ends.1))
        | inr wrong ↦ not_false wrong
      ]
    where
      first_of : {a b c d : NodeId} → (Some a ∷ Some b ∷ []) ≡ (Some c ∷ Some d ∷ []) → a ≡ c
      first_of e = cc

  pub counters_are_joined : CountersAreJoined
  counters_are_joined w = (
    _,
    record {
      may = record { chain = refl; cut = record { plain = refl; at_cut = (0, omega arith, refl); has_moved = refl }; open_still = refl };
      consistent = (side_two laws).consistent;
      left = two_known Int (tied (pos 1));
      there = refl;
      tidy = record { own = tidy (pos 2) (omega (arith, ints)) (omega (arith, ints)) (side_two laws).consistent; others = (tidy (pos 1) (omega (arith, ints)) (omega (arith, ints)) (side_one laws).consistent, tt) };
      result = tied_result laws;
      joins = tied_joins laws w;
      changes = changed;
      ends = refl;
      gives = refl;
    },
  )
