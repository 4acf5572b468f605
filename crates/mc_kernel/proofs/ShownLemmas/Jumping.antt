-- Jumps of which each premise once is the first that is unmet.
use Rattle.std.proofs.Common.{◌≡◌, pos, true, false, not, Some, [], ◌∷◌, refl, inl, inr, arith}
use Rattle.std.proofs.lemmas.Int.{ints}
use Rattle.std.specs.Prelude.{◌≤ℤ◌}
use Rattle.mc_base.specs.declared.plain.Atom.TheVariants.{Eq, Ne, In}
use Rattle.mc_base.specs.declared.plain.Kind.TheVariants.{Ptr}
use Rattle.mc_base.specs.Nodes.{null}
use Rattle.mc_pure.specs.Derived as pure
use Rattle.mc_pure.specs.Examples.{node}
use Rattle.mc_pure.specs.Laws.{IsTrue, DerivedIsTrue, TrueIsNotFalse}
use Rattle.mc_pure.specs.Pure as known
use Rattle.mc_pure.specs.Pure.{kind_atom}
use Rattle.mc_state.specs.Known.{Test, Tells, is_false, has_kind}
use Rattle.mc_state.specs.Examples.{two_names, no_number}
use Rattle.mc_state.specs.State.{pure_of}
use Rattle.mc_kernel.specs.Examples.{at, edge}
use Rattle.mc_kernel.specs.Shown.Jumps.{arrived, not_whole, half_known, list_goal, FailsAt, EndsBy}
use Rattle.mc_kernel.proofs.ShownLemmas.Numbers.{valued, numbers_fit, passes, unknown}

-- ---- the place

pub before_step : FailsAt (record (arrived two_names) { moved = false }) 0 (null ∷ node 1 ∷ []) (edge 0 ∷ []) 1
before_step k tells = refl

pub on_side : FailsAt (record (arrived two_names) { goal = Some list_goal }) 0 (null ∷ node 1 ∷ []) (edge 0 ∷ []) 1
on_side k tells = refl

pub elsewhere : FailsAt (record (arrived two_names) { point = at 0 }) 0 (null ∷ node 1 ∷ []) (edge 0 ∷ []) 1
elsewhere k tells = refl

-- ---- a false state

pub of_false : FailsAt (arrived no_number) 0 (null ∷ node 1 ∷ []) (edge 0 ∷ []) 2
of_false k tells =
    let wrong : k.know no_number (Ne null null (pos 0)) ≡ true = (tells (Ne null null (pos 0))).1 (inr (pure.empty (omega (arith, ints)) (pure.base (known.written 1 refl)))) in
    rw wrong refl

module _ (truth : DerivedIsTrue) (sound : TrueIsNotFalse) where
  names_fit : IsTrue (valued (pos 7 ∷ pos 7 ∷ pos 5 ∷ [])) (pure_of two_names)
  names_fit =
      numbers_fit (valued (pos 7 ∷ pos 7 ∷ pos 5 ∷ [])) (pure_of two_names) refl
      ((omega (arith, ints), omega (arith, ints)), ((omega (arith, ints), omega (arith, ints)), ((omega (arith, ints), omega (arith, ints)), tt)))
      (refl, tt) ((omega (arith, ints), omega (arith, ints)), tt) (omega arith)

  -- what is known of the cell with two names
  module _ (know : Test) (tells : Tells know two_names) where
    consistent : not (is_false know) ≡ true
    consistent = passes truth sound two_names (valued (pos 7 ∷ pos 7 ∷ pos 5 ∷ [])) names_fit know tells

    one_kind : know (kind_atom (node 1) Ptr) ≡ true
    one_kind = (tells (kind_atom (node 1) Ptr)).1 (inl (pure.base (known.kind 0 refl)))

    null_kind : know (kind_atom null Ptr) ≡ true
    null_kind = (tells (kind_atom null Ptr)).1 (inl (pure.widened (pure.base known.zero) (omega (arith, ints)) (omega (arith, ints))))

    itself : know (Eq (node 1) (node 1) (pos 0)) ≡ true
    itself = (tells (Eq (node 1) (node 1) (pos 0))).1 (inl (pure.itself (Ptr, inr refl)))

    names_equal : know (Eq (node 1) (node 2) (pos 0)) ≡ true
    names_equal = (tells (Eq (node 1) (node 2) (pos 0))).1 (inl (pure.turned (pure.base (known.written 0 refl))))

    address : know (In (node 1) (pos 1) (pos 4611686018427387903)) ≡ true
    address = (tells (In (node 1) (pos 1) (pos 4611686018427387903))).1 (inl (pure.base (known.block 0 refl)))

    not_null : know (Eq null (node 1) (pos 0)) ≡ false
    not_null = unknown truth sound two_names (valued (pos 7 ∷ pos 7 ∷ pos 5 ∷ [])) names_fit know tells (Eq null (node 1) (pos 0)) (λ t. let wrong : pos 0 ≡ pos 7 = t in cc wrong)

    not_near : know (In (node 1) (pos 1) (pos 3)) ≡ false
    not_near = unknown truth sound two_names (valued (pos 7 ∷ pos 7 ∷ pos 5 ∷ [])) names_fit know tells (In (node 1) (pos 1) (pos 3)) (λ t. let most : pos 7 ≤ℤ pos 3 = t.1 in absurd (omega (arith, ints)))

  -- ---- 3: no such state

  pub no_state : FailsAt (arrived two_names) 5 (null ∷ node 1 ∷ []) (edge 0 ∷ []) 3
  no_state k tells = rw (consistent (k.know two_names) tells) refl

  -- ---- 4: images

  pub few_images : FailsAt (arrived two_names) 0 (null ∷ []) (edge 0 ∷ []) 4
  few_images k tells = rw (consistent (k.know two_names) tells) refl

  pub many_images : FailsAt (arrived two_names) 0 (null ∷ node 1 ∷ node 1 ∷ []) (edge 0 ∷ []) 4
  many_images k tells = rw (consistent (k.know two_names) tells) refl

  pub moved_null : FailsAt (arrived two_names) 0 (node 1 ∷ node 1 ∷ []) (edge 0 ∷ []) 4
  moved_null k tells = rw (consistent (k.know two_names) tells) refl

  pub number_for_pointer : FailsAt (arrived two_names) 0 (null ∷ node 3 ∷ []) (edge 0 ∷ []) 4
  unfolding has_kind
  number_for_pointer k tells = rw (consistent (k.know two_names) tells) refl

  pub pointer_for_number : FailsAt (arrived two_names) 4 (null ∷ node 1 ∷ []) [] 4
  unfolding has_kind
  pointer_for_number k tells = rw (consistent (k.know two_names) tells) refl

  pub absent_image : FailsAt (arrived two_names) 0 (null ∷ node 9 ∷ []) (edge 0 ∷ []) 4
  unfolding has_kind
  absent_image k tells = rw (consistent (k.know two_names) tells) refl

  -- ---- 5: variables

  pub other_node : FailsAt (arrived two_names) 0 (null ∷ null ∷ []) (edge 0 ∷ []) 5
  unfolding has_kind
  other_node k tells = rw (consistent (k.know two_names) tells) (rw (null_kind (k.know two_names) tells) (rw (not_null (k.know two_names) tells) refl))

  pub not_known : FailsAt (arrived half_known) 0 (null ∷ node 1 ∷ []) (edge 0 ∷ []) 5
  unfolding has_kind
  not_known k tells = rw (consistent (k.know half_known) tells) (rw (one_kind (k.know half_known) tells) (rw (itself (k.know half_known) tells) refl))

  -- ---- 6: as many edges, distinct

  pub few_edges : FailsAt (arrived two_names) 0 (null ∷ node 1 ∷ []) [] 6
  unfolding has_kind
  few_edges k tells =
      rw (consistent (k.know two_names) tells)
      (rw (one_kind (k.know two_names) tells) (rw (itself (k.know two_names) tells) (rw (names_equal (k.know two_names) tells) refl)))

  pub edge_twice : FailsAt (arrived two_names) 0 (null ∷ node 1 ∷ []) (edge 0 ∷ edge 0 ∷ []) 6
  unfolding has_kind
  edge_twice k tells =
      rw (consistent (k.know two_names) tells)
      (rw (one_kind (k.know two_names) tells) (rw (itself (k.know two_names) tells) (rw (names_equal (k.know two_names) tells) refl)))

  -- ---- 7: edges there, of the same form

  pub absent_edge : FailsAt (arrived two_names) 0 (null ∷ node 1 ∷ []) (edge 1 ∷ []) 7
  unfolding has_kind
  absent_edge k tells =
      rw (consistent (k.know two_names) tells)
      (rw (one_kind (k.know two_names) tells) (rw (itself (k.know two_names) tells) (rw (names_equal (k.know two_names) tells) refl)))

  pub cell_for_list : FailsAt (arrived two_names) 1 (null ∷ node 1 ∷ []) (edge 0 ∷ []) 7
  unfolding has_kind
  cell_for_list k tells =
      rw (consistent (k.know two_names) tells)
      (rw (one_kind (k.know two_names) tells) (rw (itself (k.know two_names) tells) (rw (names_equal (k.know two_names) tells) refl)))

  -- ---- 8: atoms

  pub not_derived : FailsAt (arrived two_names) 2 (null ∷ node 1 ∷ []) (edge 0 ∷ []) 8
  unfolding has_kind
  not_derived k tells =
      rw (consistent (k.know two_names) tells)
      (rw (one_kind (k.know two_names) tells) (rw (itself (k.know two_names) tells) (rw (names_equal (k.know two_names) tells)
      (rw (not_near (k.know two_names) tells) refl))))

  -- ---- 9: whole states

  pub whole_from_other : FailsAt (arrived not_whole) 0 (null ∷ node 1 ∷ []) (edge 0 ∷ []) 9
  unfolding has_kind
  whole_from_other k tells =
      rw (consistent (k.know not_whole) tells)
      (rw (one_kind (k.know not_whole) tells) (rw (itself (k.know not_whole) tells) (rw (names_equal (k.know not_whole) tells)
      (rw (address (k.know not_whole) tells) refl))))

  pub edge_left : FailsAt (arrived two_names) 3 (null ∷ node 1 ∷ []) [] 9
  unfolding has_kind
  edge_left k tells =
      rw (consistent (k.know two_names) tells)
      (rw (one_kind (k.know two_names) tells) (rw (itself (k.know two_names) tells) (rw (names_equal (k.know two_names) tells)
      (rw (address (k.know two_names) tells) refl))))

  -- ---- and a jump

  pub jumps : EndsBy (arrived two_names) 0 (null ∷ node 1 ∷ []) (edge 0 ∷ [])
  unfolding has_kind
  jumps k tells =
      rw (consistent (k.know two_names) tells)
      (rw (one_kind (k.know two_names) tells) (rw (itself (k.know two_names) tells) (rw (names_equal (k.know two_names) tells)
      (rw (address (k.know two_names) tells) refl))))
