use Rattle.std.proofs.Common.{arith, pos}
use Rattle.std.proofs.lemmas.Int.{ints}
use Rattle.mc_flow.specs.Defs.Examples.{blocks, two_cells, first_cell, second_cell}
use Rattle.mc_rules_logic.proofs.UnfoldLemmas.ExampleStates.{segment_stands, segment_unfolds}
use Rattle.mc_rules_logic.proofs.UnfoldLemmas.WrongSegments.{not_never_empty, not_first_call_only}
use Rattle.mc_rules_logic.proofs.unfold.examples.wrong_segments.Goals as goal

pub returns : goal.returns
returns c =
    let p = c.parts_regroup.ensures in
    let h = c.heaps_change_one_address.ensures in
    let none = c.example_premises.ensures.addresses in
    let not_false = c.derived_is_true.ensures.not_false in
    let addresses = p.keeps_addresses (blocks two_cells) (blocks first_cell) (blocks second_cell) c.example_premises.ensures.split c.body_premises.ensures.addresses in
    let unfolds = segment_unfolds not_false (blocks first_cell) addresses (segment_stands p.commutes p.adds_empty 9 (blocks first_cell) (omega (arith, ints), omega (arith, ints)) c.example_segments.ensures.one_cell) in
    record {
      never_empty = not_never_empty p.commutes p.adds_empty not_false h.empty none (c.example_segments.ensures.itself (pos 7)) unfolds;
      first_call_only = not_first_call_only p.commutes p.adds_empty h.empty h.insert h.insert_keeps c.predicates_are_bodies.ensures.unfolds not_false none;
    }
