use Rattle.mc_rules_steps.proofs.WhatFits as proof
use Rattle.mc_rules_steps.proofs.fitting.blocks_are_there.Goals as goal

pub returns : goal.returns
returns c = record { edges = proof.edges_are_there; fields = proof.fields_are_there; freed = proof.freed_may_be_written }
