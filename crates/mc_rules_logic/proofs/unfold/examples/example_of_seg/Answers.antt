use Rattle.std.proofs.Common.{arith}
use Rattle.std.proofs.lemmas.Int.{ints}
use Rattle.mc_flow.specs.Defs.Examples.{blocks, two_cells, first_cell, second_cell}
use Rattle.mc_rules_logic.proofs.UnfoldLemmas.ExampleStates.{segment_made, segment_stands, segment_unfolds}
use Rattle.mc_rules_logic.proofs.unfold.examples.example_of_seg.Goals as goal

pub returns-clause-made : goal.returns-clause-made
returns-clause-made c = segment_made

pub returns-clause-unfolds : goal.returns-clause-unfolds
returns-clause-unfolds c =
    segment_unfolds c.derived_is_true.ensures.not_false (blocks first_cell)
    (c.parts_regroup.ensures.keeps_addresses (blocks two_cells) (blocks first_cell) (blocks second_cell) c.example_premises.ensures.split c.body_premises.ensures.addresses)
    (segment_stands c.parts_regroup.ensures.commutes c.parts_regroup.ensures.adds_empty 9 (blocks first_cell) (omega (arith, ints), omega (arith, ints)) c.example_segments.ensures.one_cell)

pub returns-clause-addresses : goal.returns-clause-addresses
returns-clause-addresses c = c.parts_regroup.ensures.keeps_addresses (blocks two_cells) (blocks first_cell) (blocks second_cell) c.example_premises.ensures.split c.body_premises.ensures.addresses

pub returns-clause-stands : goal.returns-clause-stands
returns-clause-stands c =
    segment_stands c.parts_regroup.ensures.commutes c.parts_regroup.ensures.adds_empty 9 (blocks first_cell) (omega (arith, ints), omega (arith, ints)) c.example_segments.ensures.one_cell
