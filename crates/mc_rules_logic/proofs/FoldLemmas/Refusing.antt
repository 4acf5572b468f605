-- First premises that are unmet.
use Rattle.std.proofs.Common.{◌≡◌, ◌<◌, ◌≤◌, ℕ, zero, suc, ◌-ℤ◌, pos, Bool, true, false, not, ◌&&◌, Some, None, List, [], ◌∷◌, length, slice_get, refl, ap, inl, inr, arith}
use Rattle.std.proofs.lemmas.Int.{ints}
use Rattle.std.specs.Prelude.{Err}
use Rattle.std.specs.List.{AllByRecursion}
use Rattle.mc_base.specs.declared.ids.NodeId.{NodeId}
use Rattle.mc_base.specs.declared.plain.Atom.{Atom}
use Rattle.mc_base.specs.declared.plain.Atom.TheVariants.{Eq, Ne, In}
use Rattle.mc_base.specs.declared.plain.Kind.{Kind}
use Rattle.mc_base.specs.declared.plain.Kind.TheVariants.{Int, Ptr}
use Rattle.mc_base.specs.Atoms.{IsTrueAtom}
use Rattle.mc_base.specs.Kinds.{InKind}
use Rattle.mc_base.specs.Nodes.{Valuation, null}
use Rattle.mc_flow.specs.Defs.Examples.{defs, list_id, lenlist_id, tree_id}
use Rattle.mc_pure.specs.Derived as pure
use Rattle.mc_pure.specs.Examples.{node}
use Rattle.mc_pure.specs.Laws.{IsTrue, DerivedIsTrue, TrueIsNotFalse}
use Rattle.mc_pure.specs.Pure as known
use Rattle.mc_pure.specs.Pure.{Pure, Base, IsNode, kind_atom, address_atom}
use Rattle.mc_state.specs.CoverExamples.{cell_and_list, segment_and_list, fork_and_tree, at_seven}
use Rattle.mc_state.specs.State.{State, pure_of}
use Rattle.mc_state.specs.Known.{Test, Tells, is_false, equal, has_kind}
use Rattle.mc_state.proofs.Tests.{is_sound, equal_to}
use Rattle.mc_rules_logic.specs.Fold.Folded.{ind_fold, seg_fold}
use Rattle.mc_rules_logic.specs.Fold.ChangeJudges.{is_there, naming_spare, merging_nodes, dropping_edge, forgetting_node}
use Rattle.mc_rules_logic.specs.Fold.Examples.{edge, valued, two_segments, pointer, small_number, named_twice, lost_list, other_length, list_apart, pointed_list, list_goal, null_goal, tree_goal, false_pointer, cell_unknown, other_defs, pointed_node}
use Rattle.mc_rules_logic.specs.Fold.Judges.{folding_ind, folding_seg, closing_seg, joining_segs, making_seg, meeting_goal}
use Rattle.mc_rules_logic.proofs.FoldLemmas.Reaching.{among_at, among_all}

-- ---- what is known from the beginning is true by some numbers

kind_true : (v : Valuation) (n : NodeId) (kind : Kind) → InKind kind (v n.0) → IsTrueAtom v (kind_atom n kind)
kind_true v n Int h = h
kind_true v n Ptr h = h

pub place_below : {X : Type 0} (xs : List X) (i : ℕ) (x : X) → slice_get xs i ≡ Some x → i < length xs
place_below [] i x e = absurd (cc e)
place_below (y ∷ ys) zero x e = omega arith
place_below (y ∷ ys) (suc i) x e = let rest = place_below ys i x e in omega arith

-- of kinds, atoms and one block at most
pub numbers_fit : (v : Valuation) (p : Pure) → v 0 ≡ pos 0 → AllByRecursion (λ k. InKind k.1 (v k.0.0)) p.kinds → AllByRecursion (IsTrueAtom v) p.written → AllByRecursion (λ a. IsTrueAtom v (address_atom a)) p.starts → length p.starts ≤ 1 → IsTrue v p
numbers_fit v p start kinds atoms starts few f (known.written place e) = among_all (IsTrueAtom v) p.written f atoms (among_at p.written place f e)
numbers_fit v p start kinds atoms starts few _ known.zero = (omega (arith, ints, start), omega (arith, ints, start))
numbers_fit v p start kinds atoms starts few _ (known.kind {n} {k} place e) = kind_true v n k (among_all (λ (x : NodeId × Kind). InKind x.1 (v x.0.0)) p.kinds (n, k) kinds (among_at p.kinds place (n, k) e))
numbers_fit v p start kinds atoms starts few _ (known.block {a} place e) = among_all (λ (x : NodeId). IsTrueAtom v (address_atom x)) p.starts a starts (among_at p.starts place a e)
numbers_fit v p start kinds atoms starts few _ (known.apart {a} {b} i j ne x y) =
    let first = place_below p.starts i a x in
    let second = place_below p.starts j b y in
    absurd (ne (omega arith))

-- ---- what a test that tells says then

and_false : (a : Bool) → (a && false) ≡ false
and_false true = refl
and_false false = refl

pub not_true : (b : Bool) → (b ≡ true → ⊥) → b ≡ false
not_true true n = absurd (n refl)
not_true false n = refl

-- ---- a false state

module _ (know : Test) (tells : Tells know false_pointer) where
  pub stopped : not (is_false know) ≡ false
  stopped = ap not ((tells (Ne null null (pos 0))).1 (inr (pure.apart (pure.base (known.written 0 refl)))))

module _ (truth : DerivedIsTrue) (sound : TrueIsNotFalse) where
  module _ (s : State) (v : Valuation) (fits : IsTrue v (pure_of s)) (know : Test) (tells : Tells know s) where
    passes : not (is_false know) ≡ true
    passes = is_sound know s tells (λ wrong. sound (pure_of s) v fits wrong)

    unknown : (f : Atom) → (IsTrueAtom v f → ⊥) → know f ≡ false
    unknown f n = not_true (know f) (λ e. n (truth (pure_of s) v fits f ((tells f).0 e)))

    same : (n : NodeId) → IsNode s.kinds n → equal know n n ≡ true
    same n there = equal_to know s tells n n (inl (pure.itself there))

  -- ---- segments

  segment_fits : IsTrue (valued (pos 7 ∷ pos 9 ∷ [])) (pure_of segment_and_list)
  segment_fits =
      numbers_fit (valued (pos 7 ∷ pos 9 ∷ [])) (pure_of segment_and_list) refl ((omega (arith, ints), omega (arith, ints)), ((omega (arith, ints), omega (arith, ints)), tt)) tt tt (omega arith)

  two_fit : IsTrue (valued (pos 7 ∷ pos 9 ∷ pos 0 ∷ [])) (pure_of two_segments)
  two_fit =
      numbers_fit (valued (pos 7 ∷ pos 9 ∷ pos 0 ∷ [])) (pure_of two_segments) refl
      ((omega (arith, ints), omega (arith, ints)), ((omega (arith, ints), omega (arith, ints)), ((omega (arith, ints), omega (arith, ints)), tt))) tt tt (omega arith)

  apart_fits : IsTrue (valued (pos 7 ∷ pos 9 ∷ pos 0 ∷ [])) (pure_of list_apart)
  apart_fits =
      numbers_fit (valued (pos 7 ∷ pos 9 ∷ pos 0 ∷ [])) (pure_of list_apart) refl
      ((omega (arith, ints), omega (arith, ints)), ((omega (arith, ints), omega (arith, ints)), ((omega (arith, ints), omega (arith, ints)), tt))) tt tt (omega arith)

  lengths_fit : IsTrue (valued (pos 7 ∷ pos 3 ∷ pos 2 ∷ [])) (pure_of other_length)
  lengths_fit =
      numbers_fit (valued (pos 7 ∷ pos 3 ∷ pos 2 ∷ [])) (pure_of other_length) refl
      ((omega (arith, ints), omega (arith, ints)), ((omega (arith, ints), omega (arith, ints)), ((omega (arith, ints), omega (arith, ints)), tt))) tt tt (omega arith)

  module _ (know : Test) (tells : Tells know segment_and_list) where
    pub close_absent : closing_seg know (edge 2) (edge 1) segment_and_list ≡ Err 3
    close_absent = rw (passes segment_and_list (valued (pos 7 ∷ pos 9 ∷ [])) segment_fits know tells) refl

    pub close_other : closing_seg know (edge 1) (edge 0) segment_and_list ≡ Err 3
    close_other = rw (passes segment_and_list (valued (pos 7 ∷ pos 9 ∷ [])) segment_fits know tells) refl

    pub close_twice : closing_seg know (edge 0) (edge 0) segment_and_list ≡ Err 4
    close_twice = rw (passes segment_and_list (valued (pos 7 ∷ pos 9 ∷ [])) segment_fits know tells) refl

    pub close_missing : closing_seg know (edge 0) (edge 2) segment_and_list ≡ Err 4
    close_missing = rw (passes segment_and_list (valued (pos 7 ∷ pos 9 ∷ [])) segment_fits know tells) refl

    pub join_list : joining_segs know (edge 0) (edge 1) segment_and_list ≡ Err 4
    join_list = rw (passes segment_and_list (valued (pos 7 ∷ pos 9 ∷ [])) segment_fits know tells) refl

  module _ (know : Test) (tells : Tells know two_segments) where
    pub close_segment : closing_seg know (edge 0) (edge 1) two_segments ≡ Err 4
    close_segment = rw (passes two_segments (valued (pos 7 ∷ pos 9 ∷ pos 0 ∷ [])) two_fit know tells) refl

    pub join_absent : joining_segs know (edge 2) (edge 0) two_segments ≡ Err 3
    join_absent = rw (passes two_segments (valued (pos 7 ∷ pos 9 ∷ pos 0 ∷ [])) two_fit know tells) refl

    pub join_twice : joining_segs know (edge 0) (edge 0) two_segments ≡ Err 4
    join_twice = rw (passes two_segments (valued (pos 7 ∷ pos 9 ∷ pos 0 ∷ [])) two_fit know tells) refl

    pub join_apart : joining_segs know (edge 1) (edge 0) two_segments ≡ Err 5
    join_apart =
        let differ : know (Eq (node 3) (node 1) (pos 0)) ≡ false = unknown two_segments (valued (pos 7 ∷ pos 9 ∷ pos 0 ∷ [])) two_fit know tells (Eq (node 3) (node 1) (pos 0)) (λ t. let wrong : pos 0 ≡ pos 7 = t in cc wrong) in
        rw (passes two_segments (valued (pos 7 ∷ pos 9 ∷ pos 0 ∷ [])) two_fit know tells) (rw differ refl)

  pub close_apart : (know : Test) → Tells know list_apart → closing_seg know (edge 0) (edge 1) list_apart ≡ Err 5
  close_apart know tells =
      let differ : know (Eq (node 2) (node 3) (pos 0)) ≡ false = unknown list_apart (valued (pos 7 ∷ pos 9 ∷ pos 0 ∷ [])) apart_fits know tells (Eq (node 2) (node 3) (pos 0)) (λ t. let wrong : pos 9 ≡ pos 0 = t in cc wrong) in
      rw (passes list_apart (valued (pos 7 ∷ pos 9 ∷ pos 0 ∷ [])) apart_fits know tells) (rw differ refl)

  module _ (know : Test) (tells : Tells know other_length) where
    lengths_differ : know (Eq (node 2) (node 3) (pos 0)) ≡ false
    lengths_differ = unknown other_length (valued (pos 7 ∷ pos 3 ∷ pos 2 ∷ [])) lengths_fit know tells (Eq (node 2) (node 3) (pos 0)) (λ t. let wrong : pos 3 ≡ pos 2 = t in cc wrong)

    one_start : know (Eq (node 1) (node 1) (pos 0)) ≡ true
    one_start = same other_length (valued (pos 7 ∷ pos 3 ∷ pos 2 ∷ [])) lengths_fit know tells (node 1) (Ptr, inr refl)

    pub close_lengths : closing_seg know (edge 0) (edge 1) other_length ≡ Err 6
    close_lengths = rw (passes other_length (valued (pos 7 ∷ pos 3 ∷ pos 2 ∷ [])) lengths_fit know tells) (rw one_start (rw lengths_differ refl))

    pub make_lengths : making_seg know defs lenlist_id (node 1) (node 2 ∷ []) (node 1) (node 3 ∷ []) other_length ≡ Err 5
    unfolding has_kind
    make_lengths = rw (passes other_length (valued (pos 7 ∷ pos 3 ∷ pos 2 ∷ [])) lengths_fit know tells) (rw one_start (rw lengths_differ refl))

  -- ---- a pointer

  pointer_fits : IsTrue (valued (pos 1 ∷ [])) (pure_of pointer)
  pointer_fits = numbers_fit (valued (pos 1 ∷ [])) (pure_of pointer) refl ((omega (arith, ints), omega (arith, ints)), tt) tt tt (omega arith)

  module _ (know : Test) (tells : Tells know pointer) where
    pub make_absent : making_seg know defs list_id (node 2) [] (node 1) [] pointer ≡ Err 3
    unfolding has_kind
    make_absent = rw (passes pointer (valued (pos 1 ∷ [])) pointer_fits know tells) refl

    pub make_more : making_seg know defs list_id (node 1) (node 1 ∷ []) (node 1) [] pointer ≡ Err 3
    unfolding has_kind
    make_more = rw (passes pointer (valued (pos 1 ∷ [])) pointer_fits know tells) refl

    pub make_apart : making_seg know defs list_id (node 1) [] null [] pointer ≡ Err 4
    unfolding has_kind
    make_apart =
        let differ : know (Eq (node 1) null (pos 0)) ≡ false = unknown pointer (valued (pos 1 ∷ [])) pointer_fits know tells (Eq (node 1) null (pos 0)) (λ t. let wrong : pos 1 ≡ pos 0 = t in cc wrong) in
        rw (passes pointer (valued (pos 1 ∷ [])) pointer_fits know tells) (rw differ refl)

    pub forget_null : (atoms : List Atom) → forgetting_node know atoms null pointer ≡ Err 3
    unfolding is_there
    forget_null atoms = rw (passes pointer (valued (pos 1 ∷ [])) pointer_fits know tells) refl

    pub forget_absent : (atoms : List Atom) → forgetting_node know atoms (node 2) pointer ≡ Err 3
    unfolding is_there
    forget_absent atoms = rw (passes pointer (valued (pos 1 ∷ [])) pointer_fits know tells) refl

  node_fits : IsTrue (valued (pos 1 ∷ [])) (pure_of pointed_node)
  node_fits = numbers_fit (valued (pos 1 ∷ [])) (pure_of pointed_node) refl ((omega (arith, ints), omega (arith, ints)), tt) tt tt (omega arith)

  pub forget_variable : (know : Test) → Tells know pointed_node → (atoms : List Atom) → forgetting_node know atoms (node 1) pointed_node ≡ Err 4
  unfolding is_there
  forget_variable know tells atoms = rw (passes pointed_node (valued (pos 1 ∷ [])) node_fits know tells) refl

  -- ---- a list

  lost_fits : IsTrue (valued (pos 7 ∷ [])) (pure_of lost_list)
  lost_fits = numbers_fit (valued (pos 7 ∷ [])) (pure_of lost_list) refl ((omega (arith, ints), omega (arith, ints)), tt) tt tt (omega arith)

  pointed_fits : IsTrue (valued (pos 7 ∷ [])) (pure_of pointed_list)
  pointed_fits = numbers_fit (valued (pos 7 ∷ [])) (pure_of pointed_list) refl ((omega (arith, ints), omega (arith, ints)), tt) tt tt (omega arith)

  module _ (know : Test) (tells : Tells know lost_list) where
    pub drop_absent : dropping_edge know (edge 1) lost_list ≡ Err 3
    drop_absent = rw (passes lost_list (valued (pos 7 ∷ [])) lost_fits know tells) refl

    pub forget_start : (atoms : List Atom) → forgetting_node know atoms (node 1) lost_list ≡ Err 4
    unfolding is_there
    forget_start atoms = rw (passes lost_list (valued (pos 7 ∷ [])) lost_fits know tells) refl

    pub meet_tree : meeting_goal know tree_goal (edge 0) lost_list ≡ Err 3
    meet_tree = rw (passes lost_list (valued (pos 7 ∷ [])) lost_fits know tells) refl

    pub meet_absent : meeting_goal know list_goal (edge 1) lost_list ≡ Err 3
    meet_absent = rw (passes lost_list (valued (pos 7 ∷ [])) lost_fits know tells) refl

    pub meet_null : meeting_goal know null_goal (edge 0) lost_list ≡ Err 4
    meet_null =
        let differ : know (Eq null (node 1) (pos 0)) ≡ false = unknown lost_list (valued (pos 7 ∷ [])) lost_fits know tells (Eq null (node 1) (pos 0)) (λ t. let wrong : pos 0 ≡ pos 7 = t in cc wrong) in
        rw (passes lost_list (valued (pos 7 ∷ [])) lost_fits know tells) (rw differ refl)

  pub drop_reached : (know : Test) → Tells know pointed_list → dropping_edge know (edge 0) pointed_list ≡ Err 4
  drop_reached know tells =
      let differ : know (Eq null (node 1) (pos 0)) ≡ false = unknown pointed_list (valued (pos 7 ∷ [])) pointed_fits know tells (Eq null (node 1) (pos 0)) (λ t. let wrong : pos 0 ≡ pos 7 = t in cc wrong) in
      let own : know (Eq (node 1) (node 1) (pos 0)) ≡ true = same pointed_list (valued (pos 7 ∷ [])) pointed_fits know tells (node 1) (Ptr, inr refl) in
      rw (passes pointed_list (valued (pos 7 ∷ [])) pointed_fits know tells) (rw differ (rw own refl))

  -- ---- numbers, and equal nodes

  small_fits : IsTrue (valued (pos 7 ∷ [])) (pure_of small_number)
  small_fits =
      numbers_fit (valued (pos 7 ∷ [])) (pure_of small_number) refl ((omega (arith, ints), omega (arith, ints)), tt) ((omega (arith, ints), omega (arith, ints)), tt) tt (omega arith)

  module _ (know : Test) (tells : Tells know small_number) where
    pub name_absent : naming_spare know (node 2) (pos 1) Int small_number ≡ Err 3
    unfolding is_there
    name_absent = rw (passes small_number (valued (pos 7 ∷ [])) small_fits know tells) refl

    pub name_large : naming_spare know (node 1) (pos 2147483645) Int small_number ≡ Err 4
    unfolding is_there
    name_large =
        let large : know (In (node 1) (known.low_of Int -ℤ pos 2147483645) (known.high_of Int -ℤ pos 2147483645)) ≡ false =
        unknown small_number (valued (pos 7 ∷ [])) small_fits know tells (In (node 1) (known.low_of Int -ℤ pos 2147483645) (known.high_of Int -ℤ pos 2147483645)) (λ t. let high = t.1 in omega (arith, ints)) in
        rw (passes small_number (valued (pos 7 ∷ [])) small_fits know tells) (rw large refl)

    pub name_pointer : naming_spare know (node 1) (pos 1) Ptr small_number ≡ Err 4
    unfolding is_there has_kind
    name_pointer =
        rw (passes small_number (valued (pos 7 ∷ [])) small_fits know tells) (rw (and_false (know (In (node 1) (known.low_of Ptr -ℤ pos 1) (known.high_of Ptr -ℤ pos 1)))) refl)

  twice_fits : IsTrue (valued (pos 7 ∷ pos 7 ∷ [])) (pure_of named_twice)
  twice_fits =
      numbers_fit (valued (pos 7 ∷ pos 7 ∷ [])) (pure_of named_twice) refl
      ((omega (arith, ints), omega (arith, ints)), ((omega (arith, ints), omega (arith, ints)), tt)) (omega (arith, ints), tt) tt (omega arith)

  module _ (know : Test) (tells : Tells know named_twice) where
    pub merge_itself : merging_nodes know (node 1) (node 1) named_twice ≡ Err 3
    unfolding is_there
    merge_itself = rw (passes named_twice (valued (pos 7 ∷ pos 7 ∷ [])) twice_fits know tells) refl

    pub merge_null : merging_nodes know (node 1) null named_twice ≡ Err 3
    unfolding is_there
    merge_null = rw (passes named_twice (valued (pos 7 ∷ pos 7 ∷ [])) twice_fits know tells) refl

    pub merge_absent : merging_nodes know (node 3) (node 1) named_twice ≡ Err 3
    unfolding is_there
    merge_absent = rw (passes named_twice (valued (pos 7 ∷ pos 7 ∷ [])) twice_fits know tells) refl

  cell_fits : IsTrue at_seven (pure_of cell_and_list)
  cell_fits =
      numbers_fit at_seven (pure_of cell_and_list) refl
      ((omega (arith, ints), omega (arith, ints)), ((omega (arith, ints), omega (arith, ints)), ((omega (arith, ints), omega (arith, ints)), tt))) tt
      ((omega (arith, ints), omega (arith, ints)), tt) (omega arith)

  module _ (know : Test) (tells : Tells know cell_and_list) where
    pub merge_kinds : merging_nodes know (node 1) (node 2) cell_and_list ≡ Err 4
    unfolding is_there has_kind
    merge_kinds = rw (passes cell_and_list at_seven cell_fits know tells) refl

    pub merge_apart : merging_nodes know (node 1) (node 3) cell_and_list ≡ Err 5
    unfolding is_there has_kind
    merge_apart =
        let differ : know (Eq (node 1) (node 3) (pos 0)) ≡ false = unknown cell_and_list at_seven cell_fits know tells (Eq (node 1) (node 3) (pos 0)) (λ t. let wrong : pos 7 ≡ pos 9 = t in cc wrong) in
        rw (passes cell_and_list at_seven cell_fits know tells) (rw differ refl)

    -- ---- folding

    pub fold_no_block : folding_ind know defs (ind_fold list_id 1 (node 1 ∷ node 2 ∷ node 3 ∷ []) None (edge 1 ∷ [])) cell_and_list ≡ Err 4
    unfolding has_kind
    fold_no_block = rw (passes cell_and_list at_seven cell_fits know tells) refl

    pub fold_kind : folding_ind know defs (ind_fold list_id 1 (node 1 ∷ node 1 ∷ node 3 ∷ []) (Some (edge 0)) (edge 1 ∷ [])) cell_and_list ≡ Err 4
    unfolding has_kind
    fold_kind = rw (passes cell_and_list at_seven cell_fits know tells) refl

    pub fold_elsewhere : folding_ind know defs (ind_fold list_id 1 (node 3 ∷ node 2 ∷ node 3 ∷ []) (Some (edge 0)) (edge 1 ∷ [])) cell_and_list ≡ Err 5
    unfolding has_kind
    fold_elsewhere =
        let differ : know (Eq (node 3) (node 1) (pos 0)) ≡ false = unknown cell_and_list at_seven cell_fits know tells (Eq (node 3) (node 1) (pos 0)) (λ t. let wrong : pos 9 ≡ pos 7 = t in cc wrong) in
        rw (passes cell_and_list at_seven cell_fits know tells) (rw differ refl)

    pub fold_other_call : folding_seg know other_defs (seg_fold lenlist_id 0 (node 1 ∷ node 2 ∷ node 3 ∷ []) (edge 0) [] 0) cell_and_list ≡ Err 4
    fold_other_call = rw (passes cell_and_list at_seven cell_fits know tells) refl

  unknown_fits : IsTrue at_seven (pure_of cell_unknown)
  unknown_fits =
      numbers_fit at_seven (pure_of cell_unknown) refl
      ((omega (arith, ints), omega (arith, ints)), ((omega (arith, ints), omega (arith, ints)), ((omega (arith, ints), omega (arith, ints)), tt))) tt
      ((omega (arith, ints), omega (arith, ints)), tt) (omega arith)

  pub fold_unknown : (know : Test) → Tells know cell_unknown → folding_ind know defs (ind_fold list_id 1 (node 1 ∷ node 2 ∷ node 3 ∷ []) (Some (edge 0)) (edge 1 ∷ [])) cell_unknown ≡ Err 5
  unfolding has_kind
  fold_unknown know tells =
      let one = same cell_unknown at_seven unknown_fits know tells (node 1) (Ptr, inr refl) in
      let two = same cell_unknown at_seven unknown_fits know tells (node 2) (Int, inr refl) in
      rw (passes cell_unknown at_seven unknown_fits know tells) (rw one (rw two refl))

  fork_fits : IsTrue (valued (pos 7 ∷ pos 9 ∷ [])) (pure_of fork_and_tree)
  fork_fits =
      numbers_fit (valued (pos 7 ∷ pos 9 ∷ [])) (pure_of fork_and_tree) refl
      ((omega (arith, ints), omega (arith, ints)), ((omega (arith, ints), omega (arith, ints)), ((omega (arith, ints), omega (arith, ints)), ((omega (arith, ints), omega (arith, ints)), tt))))
      (omega (arith, ints), tt) ((omega (arith, ints), omega (arith, ints)), tt) (omega arith)

  abbrev forks : List NodeId
  forks = node 1 ∷ node 2 ∷ node 3 ∷ []

  module _ (know : Test) (tells : Tells know fork_and_tree) where
    pub fold_twice : folding_ind know defs (ind_fold tree_id 1 forks (Some (edge 1)) (edge 2 ∷ edge 2 ∷ [])) fork_and_tree ≡ Err 3
    fold_twice = rw (passes fork_and_tree (valued (pos 7 ∷ pos 9 ∷ [])) fork_fits know tells) refl

    pub fold_block_twice : folding_ind know defs (ind_fold tree_id 1 forks (Some (edge 1)) (edge 1 ∷ edge 2 ∷ [])) fork_and_tree ≡ Err 3
    fold_block_twice = rw (passes fork_and_tree (valued (pos 7 ∷ pos 9 ∷ [])) fork_fits know tells) refl

    pub fold_absent : folding_ind know defs (ind_fold tree_id 1 forks (Some (edge 1)) (edge 2 ∷ edge 3 ∷ [])) fork_and_tree ≡ Err 3
    fold_absent = rw (passes fork_and_tree (valued (pos 7 ∷ pos 9 ∷ [])) fork_fits know tells) refl

    pub fold_fewer : folding_ind know defs (ind_fold tree_id 1 forks (Some (edge 1)) (edge 2 ∷ [])) fork_and_tree ≡ Err 4
    unfolding has_kind
    fold_fewer = rw (passes fork_and_tree (valued (pos 7 ∷ pos 9 ∷ [])) fork_fits know tells) refl

    pub fold_bare : folding_ind know defs (ind_fold tree_id 1 forks None (edge 2 ∷ [])) fork_and_tree ≡ Err 4
    unfolding has_kind
    fold_bare = rw (passes fork_and_tree (valued (pos 7 ∷ pos 9 ∷ [])) fork_fits know tells) refl

    pub fold_block : folding_ind know defs (ind_fold tree_id 0 (node 2 ∷ []) (Some (edge 1)) []) fork_and_tree ≡ Err 4
    unfolding has_kind
    fold_block = rw (passes fork_and_tree (valued (pos 7 ∷ pos 9 ∷ [])) fork_fits know tells) refl

    pub fold_no_rule : folding_ind know defs (ind_fold tree_id 2 forks (Some (edge 1)) (edge 2 ∷ [])) fork_and_tree ≡ Err 4
    fold_no_rule = rw (passes fork_and_tree (valued (pos 7 ∷ pos 9 ∷ [])) fork_fits know tells) refl

    own : (n : NodeId) → IsNode fork_and_tree.kinds n → know (Eq n n (pos 0)) ≡ true
    own n there = same fork_and_tree (valued (pos 7 ∷ pos 9 ∷ [])) fork_fits know tells n there

    pub fold_list : folding_ind know defs (ind_fold tree_id 1 forks (Some (edge 1)) (edge 2 ∷ edge 0 ∷ [])) fork_and_tree ≡ Err 6
    unfolding has_kind
    fold_list =
        let one = own (node 1) (Ptr, inr refl) in
        let two = own (node 2) (Ptr, inr refl) in
        let three = own (node 3) (Ptr, inr refl) in
        rw (passes fork_and_tree (valued (pos 7 ∷ pos 9 ∷ [])) fork_fits know tells) (rw one (rw two (rw three refl)))

    pub fold_not_null : folding_ind know defs (ind_fold tree_id 0 (node 1 ∷ []) None []) fork_and_tree ≡ Err 7
    unfolding has_kind
    fold_not_null =
        let differ : know (Eq (node 1) null (pos 0)) ≡ false = unknown fork_and_tree (valued (pos 7 ∷ pos 9 ∷ [])) fork_fits know tells (Eq (node 1) null (pos 0)) (λ t. let wrong : pos 7 ≡ pos 0 = t in cc wrong) in
        rw (passes fork_and_tree (valued (pos 7 ∷ pos 9 ∷ [])) fork_fits know tells) (rw differ refl)

    pub fold_no_call : folding_seg know defs (seg_fold tree_id 1 forks (edge 1) (edge 2 ∷ []) 2) fork_and_tree ≡ Err 4
    fold_no_call = rw (passes fork_and_tree (valued (pos 7 ∷ pos 9 ∷ [])) fork_fits know tells) refl

    pub fold_all_calls : folding_seg know defs (seg_fold tree_id 1 forks (edge 1) (edge 2 ∷ edge 0 ∷ []) 1) fork_and_tree ≡ Err 4
    unfolding has_kind
    fold_all_calls = rw (passes fork_and_tree (valued (pos 7 ∷ pos 9 ∷ [])) fork_fits know tells) refl
