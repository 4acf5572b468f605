-- What steps lead to may be put together.
use Rattle.std.proofs.Common.{◌<◌, [], ◌∷◌, drop, length, refl, sym, ap, subst, arith}
use Rattle.std.specs.List.{AllByRecursion}
use Rattle.mc_pure.specs.Pure.{Kinds}
use Rattle.mc_pure_ops.specs.Join.Joint.{Pairs, AreJointKinds}
use Rattle.mc_state.specs.Laws.{NewNodesHaveKinds}
use Rattle.mc_state.specs.State.{pure_of}
use Rattle.mc_state.specs.Told.{KindIsTold}
use Rattle.mc_joins.specs.Joinings.{Joining, begun}
use Rattle.mc_joins.specs.Same.Laws.{FalseRenamed}
use Rattle.mc_joins.specs.Whole.{kinds_of_pairs, result_of}
use Rattle.mc_joins.proofs.AtomsLemmas.Consistent.{KnownLaws, both_good}
use Rattle.mc_joins.proofs.AtomsLemmas.Kinds.{joinable, joint_kinds}
use Rattle.mc_joins.proofs.AtomsLemmas.Present.{joins_are_there}
use Rattle.mc_joins.proofs.JoinMade.{begun_inv, steps_inv, result_made}
use Rattle.mc_joins.proofs.JointKinds.{Proper, NoNull, no_null, pair_kind}
use Rattle.mc_replay.specs.Whole.{HasPairKind, ReachedMayBeMade}

-- proper pairs have kinds
have_kinds : (j : Joining) → NoNull j.left.state.kinds → (ps : Pairs) → AllByRecursion (Proper j.left.state.kinds j.right.state.kinds) ps → AllByRecursion (HasPairKind j) ps
have_kinds j none [] a = tt
have_kinds j none (p ∷ ps) a = ((a.0.0.0, pair_kind j none p a.0.0.0 a.0.0.1 a.0.0.2 a.0.1), have_kinds j none ps a.1)

pub may_be_made : KnownLaws → NewNodesHaveKinds → KindIsTold → FalseRenamed → ReachedMayBeMade
may_be_made laws new_kinds told renamed left right j r done =
    let m = r.tells.program in
    let i = steps_inv r.w.defs m.vars m.structs left right laws.judged laws.stays new_kinds told r.w.know r.tells.knows r.steps (begun left right) j
    (begun_inv r.w.defs m.vars m.structs left right m.left_made m.right_made) r.leads in
    let good = both_good laws r.w.defs m.vars m.structs r.w.know r.tells.knows left right r.steps j (m.left_made, r.left_consistent) (m.right_made, r.right_consistent) r.leads in
    let none = no_null 1 j.left.state.kinds j.left.state.next (omega arith) i.left_made.bounded.kinds in
    let there = joins_are_there laws new_kinds told renamed r.w.defs m.vars m.structs r.w.know 1 [] left right r.steps j r.tells.knows
    m.left_made m.right_made r.left_consistent r.right_consistent r.leads done in
    let made = result_made r.w.defs m.vars m.structs left right j i done 1 [] (result_of left right j there.0) refl there.1 m.left_made m.right_made in
    record {
      left_consistent = good.0.1;
      right_consistent = good.1.1;
      joinable = joinable j none i.rest i.front i.proper;
      joint_kinds = subst (λ (ks : Kinds). AreJointKinds (pure_of j.left.state) (pure_of j.right.state) j.pairs ks) (sym (ap (kinds_of_pairs j) i.front))
          (joint_kinds j none i.rest i.front i.proper);
      first = subst (λ (ps : Pairs). 0 < length ps) (sym i.front) (omega arith);
      others = subst (λ (ps : Pairs). AllByRecursion (HasPairKind j) (drop 1 ps)) (sym i.front) (have_kinds j none i.rest i.proper);
      bounded = record {
        positive = made.bounded.positive;
        kinds = made.bounded.kinds;
        ids = made.bounded.ids;
        vars = made.bounded.vars;
        edges = made.bounded.edges;
        atoms = tt;
      };
    }
