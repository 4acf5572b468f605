use Rattle.mc_rules_steps.proofs.WhatFits as proof
use Rattle.mc_rules_steps.proofs.fitting.instructions_fit.Goals as goal

pub returns : goal.returns
returns c = proof.instructions_fit
