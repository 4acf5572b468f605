use Rattle.std.proofs.Common.{refl}
use Rattle.mc_state.specs.Known.{has_kind}
use Rattle.mc_joins.proofs.chains.examples.assertion_is_read.Goals as goal

pub returns : goal.returns
unfolding has_kind
returns c = record {
  alarm = λ k. record { last = _; read = refl; says = refl };
  early = λ k. record { last = _; read = refl; says = refl };
  open_still = λ k. record { last = _; read = refl; says = refl };
}
