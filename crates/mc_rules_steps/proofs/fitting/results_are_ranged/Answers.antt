use Rattle.mc_rules_steps.proofs.WhatFits as proof
use Rattle.mc_rules_steps.proofs.fitting.results_are_ranged.Goals as goal

pub returns : goal.returns
returns c = record { sums = proof.sums_are; differences = proof.differences_are; products = proof.products_are }
