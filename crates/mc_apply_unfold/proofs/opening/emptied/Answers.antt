use Rattle.std.proofs.Common.{◌∷◌, subst, sym}
use Rattle.std.specs.List.{AllByRecursion}
use Rattle.mc_pure.specs.Pure.{IsWellFormed}
use Rattle.mc_state.specs.State.{State}
use Rattle.mc_rules_logic.specs.Unfold.Unfolded.{equal_atoms}
use Rattle.mc_apply_unfold.proofs.opening.emptied.Goals as goal

pub assume_equal-requires : goal.assume_equal-requires
assume_equal-requires c =
    let seg = c.args.seg.now in
    subst (λ (t : State). AllByRecursion (IsWellFormed t.kinds) (equal_atoms (seg.at ∷ seg.args.now) (seg.stop ∷ seg.ends.now))) (sym c.in_ok-next.ensures) c.requires
