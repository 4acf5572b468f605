-- A whole join has atoms.
use Rattle.std.proofs.Common.{◌≡◌, ◌≤◌, ℕ, zero, suc, ℤ, pos, List, [], ◌∷◌, Some, get_or, slice_get, refl, sym, ◌∙◌, ap, subst, inl, inr, arith}
use Rattle.std.proofs.lemmas.Int.{ints, clamps}
use Rattle.mc_base.specs.declared.ids.NodeId.{NodeId}
use Rattle.mc_base.specs.declared.plain.Atom.{Atom}
use Rattle.mc_base.specs.declared.plain.Atom.TheVariants.{Eq, Ne, In}
use Rattle.mc_base.specs.declared.plain.Kind.{Kind}
use Rattle.mc_base.specs.Atoms.{moved_atom}
use Rattle.mc_base.specs.Nodes.{moved, null}
use Rattle.mc_pure.specs.Pure as pure
use Rattle.mc_pure.specs.Pure.{Pure, Kinds, Base, IsNode, HasKind, kind_of, kind_atom}
use Rattle.mc_pure.specs.Nodes.{RiseFrom}
use Rattle.mc_pure.specs.Known.{IsFit}
use Rattle.mc_pure.specs.Derived as pure_facts
use Rattle.mc_pure.specs.Derived.{Follows, Derived, base, widened}
use Rattle.mc_pure_ops.specs.Join.Joint.{Pairs, StandsFor, AreJoinable, AreJointKinds, IsKindOfPair, IsJoin, IsOfBoth, sides}
use Rattle.mc_pure.proofs.Placing.{Entry, here_kind, later_kind}
use Rattle.mc_pure_ops.proofs.JoinLemmas.Pairing.{kind_once}
use Rattle.mc_state.specs.Laws.{NewNodesHaveKinds}
use Rattle.mc_state.specs.State.{State, pure_of}
use Rattle.mc_state.specs.Told.{KindIsTold}
use Rattle.mc_rules_logic.proofs.FoldLemmas.MadeNodes.{in_kind}
use Rattle.mc_kernel.proofs.OracleLemmas.Known.{made_rises, made_fits}
use Rattle.mc_joins.specs.Joinings.{Joining, Pair, begun}
use Rattle.mc_joins.specs.Laws.{JoinsAreThere}
use Rattle.mc_joins.specs.Same.Laws.{FalseRenamed}
use Rattle.mc_joins.specs.Whole.{AreJointAtoms, kinds_of_pairs, result_of}
use Rattle.mc_joins.proofs.AtomsLemmas.Consistent.{KnownLaws, IsGood, both_good}
use Rattle.mc_joins.proofs.AtomsLemmas.Joint.{ListLaws, IsSide, form_of, side_of, joint_list}
use Rattle.mc_joins.proofs.AtomsLemmas.Kinds.{joinable, joint_kinds}
use Rattle.mc_joins.proofs.AtomsLemmas.Whole.{canonical_list, whole_list}
use Rattle.mc_joins.proofs.JointKinds.{no_null}
use Rattle.mc_joins.proofs.JoinMade.{begun_inv, steps_inv}
use Rattle.mc_joins.proofs.JoinsStand.{get_there, range_holds}

some_entry : {x y : Entry} → Some x ≡ Some y → x ≡ y
some_entry e = cc

-- where nodes ascend, each place says the kind
rise_kind : (low : ℕ) (kinds : Kinds) → RiseFrom low kinds → (i : ℕ) (n : NodeId) (kind : Kind) → slice_get kinds i ≡ Some (n, kind) → (low ≤ n.0) × (kind_of kinds n ≡ Some kind)
rise_kind low [] r i n kind e = absurd (cc e)
rise_kind low (k ∷ kinds) r zero n kind e =
    let same : k ≡ (n, kind) = some_entry e in
    (subst (λ (x : Entry). low ≤ x.0.0) same r.0, subst (λ (x : Entry). kind_of (k ∷ kinds) x.0 ≡ Some x.1) same (here_kind k kinds k.0 refl))
rise_kind low (k ∷ kinds) r (suc i) n kind e =
    let rest = rise_kind (suc k.0.0) kinds r.1 i n kind e in
    let first = r.0 in
    let more = rest.0 in
    (omega arith, later_kind k kinds n (λ same. apart k.0 n more same) ∙ rest.1)
  where
    apart : (a b : NodeId) → suc a.0 ≤ b.0 → a ≡ b → ⊥
    apart a b less same = let number : a.0 ≡ b.0 = ap (λ (x : NodeId). x.0) same in omega arith

-- ---- what both sides say is false only where the left side is

module _ (left right : Pure) (pairs : Pairs) (ready : AreJoinable left right pairs) (round : ℕ) (thresholds : List ℤ) (kinds : Kinds) (joint : List Atom)
    (join : IsJoin left right pairs round thresholds (record { kinds = kinds; written = joint; starts = [] })) where
  abbrev own : Pure
  own = record { kinds = kinds; written = joint; starts = [] }

  -- the node of the left side
  on_left : ℕ → ℕ
  on_left n = (get_or pairs n (null, null)).0.0

  left_of : (n l r : NodeId) → StandsFor pairs n l r → moved on_left n ≡ l
  unfolding on_left
  left_of n l r e = ap (λ (p : Pair). p.0) (get_there pairs n.0 (null, null) (l, r) e)

  left_kind : (l r : NodeId) (n : NodeId) (kind : Kind) → StandsFor pairs n l r → IsKindOfPair left right l r kind → HasKind left.kinds kind l
  left_kind l r n kind e k =
      let one = ready.1 n l r e in
      subst (λ (x : Kind). HasKind left.kinds x l) (sym (kind_once left right l r one kind k)) one.1

  kind_moves : (n : NodeId) (kind : Kind) → kind_of kinds n ≡ Some kind → HasKind left.kinds kind (moved on_left n)
  kind_moves n kind e =
      let p = ((join.kinds.exact n kind).0 e).1 in
      subst (λ (m : NodeId). HasKind left.kinds kind m) (sym (left_of n p.0 p.1 p.2)) (left_kind p.0 p.1 n kind p.2 p.3)

  null_moves : moved on_left null ≡ null
  null_moves = left_of null null null ready.0

  node_moves : (n : NodeId) → IsNode kinds n → IsNode left.kinds (moved on_left n)
  node_moves n (kind, inl e) = (kind, inl (ap (moved on_left) e ∙ null_moves))
  node_moves n (kind, inr e) = (kind, kind_moves n kind e)

  of_both : (f : Atom) → IsOfBoth (sides left right pairs join.left_list join.right_list round thresholds) kinds f → Follows left (moved_atom on_left f)
  of_both (Eq a b c) o =
      subst (λ (x : NodeId). Follows left (Eq x (moved on_left b) c)) (sym (left_of a o.0 o.1 o.4))
      (subst (λ (y : NodeId). Follows left (Eq o.0 y c)) (sym (left_of b o.2 o.3 o.5)) o.6)
  of_both (Ne a b c) o =
      subst (λ (x : NodeId). Follows left (Ne x (moved on_left b) c)) (sym (left_of a o.0 o.1 o.4))
      (subst (λ (y : NodeId). Follows left (Ne o.0 y c)) (sym (left_of b o.2 o.3 o.5)) o.6)
  of_both (In n lo hi) o =
      let ends = range_holds o.0 round thresholds o.5 o.6 o.7 o.8 lo hi o.11 in
      subst (λ (x : NodeId). Follows left (In x lo hi)) (sym (left_of n o.2 o.3 o.4))
      (widened o.9.follows (omega (arith, ints, clamps, ends.0)) (omega (arith, ints, clamps, ends.1)))

  base_moves : (f : Atom) → Base own f → Follows left (moved_atom on_left f)
  base_moves f (pure.written i e) = of_both f (join.sound f (i, e)).1
  base_moves _ pure.zero = subst (λ (x : NodeId). Follows left (In x (pos 0) (pos 0))) (sym null_moves) (base pure.zero)
  base_moves _ (pure.kind {n} {k} i e) = in_kind left (moved on_left n) k (kind_moves n k (rise_kind 1 kinds join.kinds.rise i n k e).1)
  base_moves _ (pure.block i e) = absurd (cc e)
  base_moves _ (pure.apart i j ne e d) = absurd (cc e)

  pub joint_true : FalseRenamed → (pure_facts.IsFalse left → ⊥) → pure_facts.IsFalse own → ⊥
  joint_true renamed consistent wrong = consistent (renamed own left on_left node_moves base_moves wrong)

  no_starts : (i : ℕ) (a : NodeId) → (let none : List NodeId = [] in slice_get none i ≡ Some a) → IsNode kinds a
  no_starts i a e = absurd (cc e)

  pub joint_fits : IsFit own
  joint_fits = record { written = λ i f e. (join.sound f (i, e)).0; starts = no_starts }

-- ---- the atoms

module _ (laws : ListLaws) (renamed : FalseRenamed) (round : ℕ) (thresholds : List ℤ) (left right : State) (last : Joining) (L : IsSide (pure_of last.left.state)) (R : IsSide (pure_of last.right.state))
    (ready : AreJoinable (pure_of last.left.state) (pure_of last.right.state) last.pairs)
    (are : AreJointKinds (pure_of last.left.state) (pure_of last.right.state) last.pairs (kinds_of_pairs last last.pairs)) where
  abbrev l : Pure
  l = pure_of last.left.state

  abbrev r : Pure
  r = pure_of last.right.state

  abbrev kinds : Kinds
  kinds = kinds_of_pairs last last.pairs

  with_list : (joint : List Atom) → IsJoin l r last.pairs round thresholds (record { kinds = kinds; written = joint; starts = [] })
      → (atoms : List Atom) × AreJointAtoms round thresholds last (result_of left right last atoms)
  with_list joint join =
      let both : Pure = record { kinds = kinds; written = joint; starts = [] } in
      let fit = joint_fits l r last.pairs ready round thresholds kinds joint join in
      let consistent = joint_true l r last.pairs ready round thresholds kinds joint join renamed L.consistent in
      let w = whole_list laws.says laws.grows both fit consistent (form_of laws both are.rise fit consistent) refl in (
        w.0,
        record {
          joint = joint;
          join = join;
          fit = record { written = λ i f e. w.1.well f (i, e); starts = λ i a e. absurd (cc e) };
          same = w.1.same;
          listed = w.1.listed;
        },
      )

  pub atoms_there : (atoms : List Atom) × AreJointAtoms round thresholds last (result_of left right last atoms)
  atoms_there =
      let ll = canonical_list laws.says laws.grows l L.fit L.consistent L.form in
      let rl = canonical_list laws.says laws.grows r R.fit R.consistent R.form in
      let list = joint_list laws.says l r L R last.pairs ready round thresholds kinds are ll.0 rl.0 ll.1 rl.1 in
      with_list list.0 list.1

pub joins_are_there : KnownLaws → NewNodesHaveKinds → KindIsTold → FalseRenamed → JoinsAreThere
joins_are_there laws new_kinds told renamed defs vars structs know round thresholds left right steps last tells lm rm lt rt reached done =
    let i = steps_inv defs vars structs left right laws.judged laws.stays new_kinds told know tells steps (begun left right) last (begun_inv defs vars structs left right lm rm) reached in
    let good = both_good laws defs vars structs know tells left right steps last (lm, lt) (rm, rt) reached in
    let none = no_null 1 last.left.state.kinds last.left.state.next (omega arith) i.left_made.bounded.kinds in
    let ready = joinable last none i.rest i.front i.proper in
    let are = subst (λ (ks : Kinds). AreJointKinds (pure_of last.left.state) (pure_of last.right.state) last.pairs ks) (sym (ap (kinds_of_pairs last) i.front)) (joint_kinds last none i.rest i.front i.proper) in
    atoms_there laws.lists renamed round thresholds left right last (side last.left.state good.0) (side last.right.state good.1) ready are
  where
    side : (s : State) → IsGood defs vars structs s → IsSide (pure_of s)
    side s g = side_of laws.lists (pure_of s) (made_rises defs vars structs s g.0) (made_fits defs vars structs s g.0) g.1
