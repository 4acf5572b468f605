use Rattle.std.proofs.Common.{◌≡◌, ◌∷◌, ℕ, List, subst, sym}
use Rattle.mc_base.specs.declared.ids.NodeId.{NodeId}
use Rattle.mc_flow.specs.Defs.Instances.{node_of}
use Rattle.mc_pure.specs.Pure.{Kinds, IsNode}
use Rattle.mc_state.specs.Fits.{AreNodes}
use Rattle.mc_state.proofs.Lists.{all_append}
use Rattle.mc_apply_fold.proofs.FoldLemmas.There.{name_there, names_there, params_there}
use Rattle.mc_apply_fold.proofs.fold.folding.seg.Goals as goal

one_there : (kinds : Kinds) (ns : List NodeId) (name : ℕ) (n : NodeId) → AreNodes kinds ns → n ≡ node_of ns name → IsNode kinds n
one_there kinds ns name n there is = subst (IsNode kinds) (sym is) (name_there kinds ns name there)

pub returns-clause-there : goal.returns-clause-there
returns-clause-there c kinds there =
    let front : AreNodes kinds c.in_ok-args.args
    = subst (AreNodes kinds) (sym c.in_ok-args.ensures) (params_there kinds c.args.names.now c.args.count there) in
    let ends : AreNodes kinds c.in_ok-end_args.end_args
    = subst (AreNodes kinds) (sym c.in_ok-end_args.ensures) (names_there kinds c.args.names.now c.as_slice.result.now there) in (
      one_there kinds c.args.names.now 0 c.node_of.result there c.node_of.ensures,
      all_append (IsNode kinds) c.in_ok-args.args (c.node_of-2.result ∷ c.in_ok-end_args.end_args) front
          (one_there kinds c.args.names.now c.args.call.now.at c.node_of-2.result there c.node_of-2.ensures, ends),
    )
