-- The atoms of whole joins as a function.
use Rattle.std.proofs.Common.{◌≡◌, ℕ, ℤ, pos, List, [], ◌∷◌, Bool, true, false, Some, refl, sym, ◌∙◌, ap, subst, inl, inr, arith}
use Rattle.std.specs.List.{AllByRecursion}
use Rattle.mc_base.specs.declared.ids.NodeId.{NodeId}
use Rattle.mc_base.specs.declared.plain.Atom.{Atom}
use Rattle.mc_base.specs.declared.plain.Atom.TheVariants.{Ne}
use Rattle.mc_base.specs.declared.plain.VarInfo.{VarInfo}
use Rattle.mc_base.specs.Nodes.{null}
use Rattle.mc_flow.specs.declared.defs.rules.Def.{Def}
use Rattle.mc_flow.specs.declared.defs.shapes.StructInfo.{StructInfo}
use Rattle.mc_pure.specs.Derived.{apart}
use Rattle.mc_pure.specs.Pure.{Kinds, HasKind}
use Rattle.mc_pure_ops.specs.Join.Joint.{Pairs, AreJointKinds}
use Rattle.mc_pure.proofs.Changing.{decide}
use Rattle.mc_state.specs.Facts.{IsFalse}
use Rattle.mc_state.specs.Fits.{IsWellMade}
use Rattle.mc_state.specs.Known.{Test}
use Rattle.mc_state.specs.Laws.{NewNodesHaveKinds}
use Rattle.mc_state.specs.State.{State, pure_of}
use Rattle.mc_state.specs.Told.{KindIsTold}
use Rattle.mc_state.specs.declared.line.JoinStep.{JoinStep}
use Rattle.mc_kernel.proofs.OracleLemmas.Known.{made_rises, made_fits}
use Rattle.mc_kernel.proofs.OracleLemmas.MadeOr.{made_or}
use Rattle.mc_joins.specs.Chains.Laws.{JointIsThere}
use Rattle.mc_joins.specs.Joinings.{Joining, Pair, begun}
use Rattle.mc_joins.specs.Same.Laws.{FalseRenamed}
use Rattle.mc_joins.specs.Laws.{KnowsMade}
use Rattle.mc_joins.specs.Steps.{after_steps}
use Rattle.mc_joins.specs.Whole.{AreJointAtoms, kinds_of_pairs, result_of}
use Rattle.mc_joins.proofs.AtomsLemmas.Consistent.{KnownLaws, IsGood, both_good}
use Rattle.mc_joins.proofs.AtomsLemmas.Finite.{Either}
use Rattle.mc_joins.proofs.AtomsLemmas.Joint.{IsSide, some_kind, has_or, if_or, side_of}
use Rattle.mc_joins.proofs.AtomsLemmas.Kinds.{joinable, joint_kinds}
use Rattle.mc_joins.proofs.AtomsLemmas.Listing.{both_or, as_or, number_same}
use Rattle.mc_joins.proofs.AtomsLemmas.Present.{atoms_there}
use Rattle.mc_joins.proofs.JointKinds.{OneKind, Proper, no_null}
use Rattle.mc_joins.proofs.JoinMade.{begun_inv, steps_inv}

-- ---- what is decided of a join

never_or : Either ⊥
never_or = inr (λ e. e)

proper_or : (lk rk : Kinds) (p : Pair) → Either (Proper lk rk p)
proper_or lk rk p =
    both_or (OneKind lk rk p) (p.0.0 ≡ 0 → p.1.0 ≡ 0 → ⊥)
    (as_or _ (OneKind lk rk p) (λ w. (w.0, w.1.0, w.1.1)) (λ w. (w.0, (w.1, w.2))) (some_kind lk (λ kind. HasKind lk kind p.0 × HasKind rk kind p.1) (λ kind. both_or _ _ (has_or lk kind p.0) (has_or rk kind p.1))))
    (if_or (p.0.0 ≡ 0) (p.1.0 ≡ 0 → ⊥) (number_same p.0.0 0) (if_or (p.1.0 ≡ 0) ⊥ (number_same p.1.0 0) never_or))

all_proper_or : (lk rk : Kinds) (ps : Pairs) → Either (AllByRecursion (Proper lk rk) ps)
all_proper_or lk rk [] = inl tt
all_proper_or lk rk (p ∷ ps) = both_or (Proper lk rk p) (AllByRecursion (Proper lk rk) ps) (proper_or lk rk p) (all_proper_or lk rk ps)

-- the pairs begin with node 0 twice, and the others are of one kind each
record HasPairs (j : Joining) : Type 0 where
  rest : Pairs
  front : j.pairs ≡ (null, null) ∷ rest
  proper : AllByRecursion (Proper j.left.state.kinds j.right.state.kinds) rest

pairs_or : (j : Joining) → Either (HasPairs j)
pairs_or j = at j.pairs refl
  where
    none_there : (rest : Pairs) → (let none : Pairs = [] in none ≡ (null, null) ∷ rest) → ⊥
    none_there rest e = cc

    first_is : {p q : Pair} {ps qs : Pairs} → (p ∷ ps) ≡ (q ∷ qs) → (p ≡ q) × (ps ≡ qs)
    first_is e = (cc, cc)

    with_front : (p : Pair) (ps : Pairs) → j.pairs ≡ p ∷ ps → Either (p ≡ (null, null)) → Either (HasPairs j)
    with_front p ps e (inr never) = inr (λ h. never (first_is (sym e ∙ h.front)).0)
    with_front p ps e (inl same) =
        as_or (AllByRecursion (Proper j.left.state.kinds j.right.state.kinds) ps) (HasPairs j)
        (λ a. record { rest = ps; front = e ∙ ap (λ (x : Pair). x ∷ ps) same; proper = a })
        (λ h. subst (λ (qs : Pairs). AllByRecursion (Proper j.left.state.kinds j.right.state.kinds) qs) (sym (first_is (sym e ∙ h.front)).1) h.proper)
        (all_proper_or j.left.state.kinds j.right.state.kinds ps)

    null_pair : (p : Pair) → (p.0 ≡ null) × (p.1 ≡ null) → p ≡ (null, null)
    null_pair p e = ap (λ (n : NodeId). let x : Pair = (n, p.1) in x) e.0 ∙ ap (λ (n : NodeId). let x : Pair = (null, n) in x) e.1

    at : (ps : Pairs) → j.pairs ≡ ps → Either (HasPairs j)
    at [] e = inr (λ h. none_there h.rest (sym e ∙ h.front))
    at (p ∷ ps) e =
        with_front p ps e (as_or ((p.0 ≡ null) × (p.1 ≡ null)) (p ≡ (null, null)) (null_pair p) (λ s. (ap (λ (q : Pair). q.0) s, ap (λ (q : Pair). q.1) s))
        (both_or (p.0 ≡ null) (p.1 ≡ null) (decide p.0 null) (decide p.1 null)))

bool_or : (b : Bool) (P : Type 0) → (b ≡ true → P) → (P → b ≡ true) → Either P
bool_or true P to from = inl (to refl)
bool_or false P to from = inr (λ p. let e = from p in cc)

module _ (laws : KnownLaws) (new_kinds : NewNodesHaveKinds) (told : KindIsTold) (renamed : FalseRenamed) (defs : List Def) (vars : List VarInfo) (structs : List StructInfo) where
  false_or : (s : State) → IsWellMade defs vars structs s → Either (IsFalse s)
  false_or s made =
      let test = laws.lists.decided (pure_of s) (made_rises defs vars structs s made) (made_fits defs vars structs s made) in
      bool_or (test.0 (Ne null null (pos 0))) (IsFalse s)
      (λ e. elim ((test.1 (Ne null null (pos 0))).0 e) [ inl d ↦ apart d | inr wrong ↦ wrong ])
      (λ wrong. (test.1 (Ne null null (pos 0))).1 (inr wrong))

  good_or : (s : State) → Either (IsGood defs vars structs s)
  good_or s = elim (made_or defs vars structs s) [
    | inr never ↦ inr (λ g. never g.0)
    | inl made ↦ elim (false_or s made) [
      | inl wrong ↦ inr (λ g. g.1 wrong)
      | inr consistent ↦ inl (made, consistent)
    ]
  ]

  -- both states are good, and the pairs are of one kind each
  record IsPresent (j : Joining) : Type 0 where
    left : IsGood defs vars structs j.left.state
    right : IsGood defs vars structs j.right.state
    pairs : HasPairs j

  present_or : (j : Joining) → Either (IsPresent j)
  present_or j =
      as_or (IsGood defs vars structs j.left.state × (IsGood defs vars structs j.right.state × HasPairs j)) (IsPresent j)
      (λ w. record { left = w.0; right = w.1.0; pairs = w.1.1 })
      (λ w. (w.left, (w.right, w.pairs)))
      (both_or _ _ (good_or j.left.state) (both_or _ _ (good_or j.right.state) (pairs_or j)))

  module _ (round : ℕ) (thresholds : List ℤ) where
    atoms_at : (j : Joining) → IsPresent j → (atoms : List Atom) × AreJointAtoms round thresholds j (result_of j.left.state j.right.state j atoms)
    atoms_at j p =
        let none = no_null 1 j.left.state.kinds j.left.state.next (omega arith) p.left.0.bounded.kinds in
        let are = subst (λ (ks : Kinds). AreJointKinds (pure_of j.left.state) (pure_of j.right.state) j.pairs ks) (sym (ap (kinds_of_pairs j) p.pairs.front)) (joint_kinds j none p.pairs.rest p.pairs.front p.pairs.proper) in
        atoms_there laws.lists renamed round thresholds j.left.state j.right.state j (side j.left.state p.left) (side j.right.state p.right) (joinable j none p.pairs.rest p.pairs.front p.pairs.proper) are
      where
        side : (s : State) → IsGood defs vars structs s → IsSide (pure_of s)
        side s g = side_of laws.lists (pure_of s) (made_rises defs vars structs s g.0) (made_fits defs vars structs s g.0) g.1

    joint_by : (j : Joining) → Either (IsPresent j) → List Atom
    joint_by j (inl p) = (atoms_at j p).0
    joint_by j (inr never) = []

    right_by : (j : Joining) (o : Either (IsPresent j)) → IsPresent j → (left right : State) → AreJointAtoms round thresholds j (result_of left right j (joint_by j o))
    unfolding joint_by
    right_by j (inl p) there left right = let a = (atoms_at j p).1 in record { joint = a.joint; join = a.join; fit = a.fit; same = a.same; listed = a.listed }
    right_by j (inr never) there left right = absurd (never there)

    pub joint_of : Joining → List Atom
    joint_of j = joint_by j (present_or j)

    pub joint_is_right : (know : State → Test) → KnowsMade defs vars structs know → (left right : State) (steps : List JoinStep) (last : Joining)
        → IsGood defs vars structs left → IsGood defs vars structs right → after_steps (record { know = know; defs = defs }) (begun left right) steps ≡ Some last
        → AreJointAtoms round thresholds last (result_of left right last (joint_of last))
    unfolding joint_of
    joint_is_right know tells left right steps last lg rg reached =
        let i = steps_inv defs vars structs left right laws.judged laws.stays new_kinds told know tells steps (begun left right) last (begun_inv defs vars structs left right lg.0 rg.0) reached in
        let good = both_good laws defs vars structs know tells left right steps last lg rg reached in
        right_by last (present_or last) (record { left = good.0; right = good.1; pairs = record { rest = i.rest; front = i.front; proper = i.proper } }) left right

pub joint_atoms_are_there : KnownLaws → NewNodesHaveKinds → KindIsTold → FalseRenamed → JointIsThere
joint_atoms_are_there laws new_kinds told renamed know flow defs tells = (
  λ round. joint_of laws new_kinds told renamed defs flow.vars flow.structs.list round flow.thresholds,
  λ round left right steps last is.
      joint_is_right laws new_kinds told renamed defs flow.vars flow.structs.list round flow.thresholds know tells left right steps last (is.left_made, is.left_tidy.consistent) (is.right_made, is.right_tidy.consistent) is.reached,
)
