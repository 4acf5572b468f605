-- The state with its atoms is what the join gives.
use Rattle.std.proofs.Common.{◌≡◌, ℕ, ℤ, List, [], ◌&&◌, Bool, Some, slice_get, sym, ap, subst, ◌∙◌, arith}
use Rattle.std.specs.List.{AllByRecursion}
use Rattle.mc_base.specs.declared.ids.NodeId.{NodeId}
use Rattle.mc_base.specs.declared.plain.Atom.{Atom}
use Rattle.mc_pure.specs.Derived as pure_facts
use Rattle.mc_pure.specs.Pure.{Kinds, Pure, IsNode, IsWellFormed}
use Rattle.mc_pure_ops.specs.Join.Joint.{IsJoin}
use Rattle.mc_state.specs.Laws.{NodesAreBelow}
use Rattle.mc_state.specs.State.{State, next_node, pure_of, with_atoms}
use Rattle.mc_kernel.proofs.OracleLemmas.Decided.{all_get}
use Rattle.mc_joins.specs.Joinings.{Joining}
use Rattle.mc_joins.specs.Same.Laws.{FalseRenamed}
use Rattle.mc_joins.specs.Whole.{AreJointAtoms, all_used, kinds_of_pairs, result_of}
use Rattle.mc_joins.proofs.AtomsLemmas.Present.{joint_true}
use Rattle.mc_replay.specs.Whole.{MayBeMade, SaysAll, bare_result}
use Rattle.mc_replay.proofs.WholeLemmas.Kinds.{joint_once}

module _ (left right : State) (j : Joining) (ready : MayBeMade left right j) (round : ℕ) (thresholds : List ℤ) (known : Pure)
    (join : IsJoin (pure_of j.left.state) (pure_of j.right.state) j.pairs round thresholds known) where
  abbrev kinds : Kinds
  kinds = kinds_of_pairs j j.pairs

  abbrev over : List Atom → Pure
  over atoms = record { kinds = kinds; written = atoms; starts = [] }

  pub same_kinds : known.kinds ≡ kinds
  same_kinds = joint_once (pure_of j.left.state) (pure_of j.right.state) j.pairs known.kinds kinds join.kinds ready.joint_kinds

  -- what is known is over the nodes of the result
  pub known_is : known ≡ over known.written
  known_is = ap (λ (ks : Kinds). record known { kinds = ks }) same_kinds ∙ ap (λ (ns : List NodeId). record { kinds = kinds; written = known.written; starts = ns }) join.starts

  join_over : IsJoin (pure_of j.left.state) (pure_of j.right.state) j.pairs round thresholds (over known.written)
  join_over = subst (λ (p : Pure). IsJoin (pure_of j.left.state) (pure_of j.right.state) j.pairs round thresholds p) known_is join

  pub known_true : FalseRenamed → pure_facts.IsFalse known → ⊥
  known_true renamed wrong =
      joint_true (pure_of j.left.state) (pure_of j.right.state) j.pairs ready.joinable round thresholds kinds known.written join_over renamed ready.left_consistent
      (subst pure_facts.IsFalse known_is wrong)

  -- the next node of the result is new
  pub next_is_new : NodesAreBelow → (out : State) → out ≡ bare_result left right j → IsNode known.kinds (next_node out) → ⊥
  next_is_new below out is there =
      let at : IsNode kinds (next_node (result_of left right j [])) =
      subst (λ (s : State). IsNode kinds (next_node s)) is (subst (λ (ks : Kinds). IsNode ks (next_node out)) same_kinds there) in
      let less = below (result_of left right j []) (next_node (result_of left right j [])) ready.bounded at in
      omega arith

  pub atoms_fit : (out : State) (atoms : List Atom) → out ≡ bare_result left right j → SaysAll known atoms → AllByRecursion (IsWellFormed out.kinds) atoms
  atoms_fit out atoms is w =
      subst (λ (s : State). AllByRecursion (IsWellFormed s.kinds) atoms) (sym is) (subst (λ (ks : Kinds). AllByRecursion (IsWellFormed ks) atoms) same_kinds w.well)

  no_start : (i : ℕ) (a : NodeId) → (let none : List NodeId = [] in slice_get none i ≡ Some a) → IsNode kinds a
  no_start i a e = absurd (cc e)

  joint_atoms : (atoms : List Atom) → SaysAll (over known.written) atoms → AreJointAtoms round thresholds j (result_of left right j atoms)
  joint_atoms atoms w = record {
    joint = known.written;
    join = join_over;
    fit = record { written = all_get (IsWellFormed kinds) atoms w.well; starts = no_start };
    same = w.same;
    listed = w.listed;
  }

  -- the result
  module _ (out written ended : State) (atoms : List Atom) (whole : Bool) (bare : out ≡ bare_result left right j) (says : SaysAll known atoms) (put : written ≡ with_atoms out atoms)
      (flag : whole ≡ (left.whole && right.whole && all_used j)) (is : ended ≡ record written { whole = whole }) where
    made : ended ≡ result_of left right j atoms
    made =
        is
        ∙ (ap (λ (s : State). record s { whole = whole }) (put ∙ ap (λ (s : State). with_atoms s atoms) bare)
        ∙ ap (λ (b : Bool). record (result_of left right j atoms) { whole = b }) flag)

    pub gives : ended ≡ result_of left right j ended.atoms
    gives = made ∙ ap (λ (fs : List Atom). result_of left right j fs) (sym (ap (λ (s : State). s.atoms) made))

    pub has_atoms : AreJointAtoms round thresholds j ended
    has_atoms =
        subst (λ (s : State). AreJointAtoms round thresholds j s) (sym made) (joint_atoms atoms (subst (λ (p : Pure). SaysAll p atoms) known_is says))
