use Rattle.mc_state.proofs.ListLemmas.{both_from}
use Rattle.mc_state.specs.Known.{has_kind}
use Rattle.mc_state.specs.Fits.{AreNodes}
use Rattle.mc_apply_fold.proofs.fold.laws.kinds_are_there.Goals as goal

pub returns : goal.returns
returns c = λ kinds ks ns is.
    both_from (has_kind kinds) (λ ks ns. AreNodes kinds ns) tt (λ k m ks ms yes rest. ((k, (c.tests_tell.ensures.kind kinds k m).0 yes), rest)) ks ns is
