use Rattle.std.proofs.Common.{refl}
use Rattle.mc_state.specs.Known.{has_kind}
use Rattle.mc_joins.proofs.chains.examples.chain_lines_are_refused.Goals as goal

pub returns : goal.returns
unfolding has_kind
returns c = record {
  no_cut = λ k. refl;
  no_pass = λ k. refl;
  no_skip = λ k. refl;
  twice = λ k. refl;
  too_late = λ k. refl;
  pass_early = λ k. refl;
  end_early = λ k. refl;
  after_end = λ k. refl;
  no_change = λ k. refl;
}
