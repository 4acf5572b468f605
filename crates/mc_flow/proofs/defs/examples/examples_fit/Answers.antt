use Rattle.mc_flow.proofs.DefsLemmas.ExamplesFit as proof
use Rattle.mc_flow.proofs.defs.examples.examples_fit.Goals as goal

pub returns : goal.returns
returns c = proof.examples_fit
