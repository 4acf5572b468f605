use Rattle.std.proofs.Common.{refl}
use Rattle.mc_c_parse.proofs.FunctionLemmas.{not_in_body}
use Rattle.mc_c_parse.proofs.function.FunctionReader.with_body.Goals as goal

pub returns : goal.returns
returns c = rw (← c.replace.ensures.value, c.in-Body.is) (rw (c.in_ok-boxed-in-Body.ensures.ok, c.function_of-function.ensures) refl)

pub unreachable-requires : goal.unreachable-requires
unreachable-requires c = not_in_body c.replace.result c.in_default.not-Body (rw c.replace.ensures.value c.requires)
