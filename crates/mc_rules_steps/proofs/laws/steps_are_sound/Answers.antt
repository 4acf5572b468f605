use Rattle.mc_rules_steps.proofs.LowerLaws.{StepLaws}
use Rattle.mc_rules_steps.proofs.Sound as proof
use Rattle.mc_rules_steps.proofs.laws.steps_are_sound.Goals as goal

pub returns : goal.returns
returns c =
    let laws : StepLaws = record {
      bounds = record {
        var = c.numbers_stay_bounded.ensures.var;
        nodes = c.numbers_stay_bounded.ensures.nodes;
        atoms = c.numbers_stay_bounded.ensures.atoms;
        edges = c.numbers_stay_bounded.ensures.edges;
        fewer_edges = c.numbers_stay_bounded.ensures.fewer_edges;
        replaced = c.numbers_stay_bounded.ensures.replaced;
        new = c.nodes_are_there.ensures.new;
        below = c.nodes_are_there.ensures.below;
      };
      states = record {
        derived = c.derived_is_true.ensures.derived;
        nodes = c.new_nodes_are_free.ensures.nodes;
        values = c.new_nodes_are_free.ensures.values;
        agree = c.new_nodes_are_free.ensures.values_agree;
        atoms = c.new_nodes_are_free.ensures.atoms;
        set = c.variables_change.ensures.set;
        forgotten = c.variables_change.ensures.forgotten;
        known = c.variables_change.ensures.known;
        taken = c.edges_come_and_go.ensures.taken;
        put = c.edges_come_and_go.ensures.put;
        replaced = c.edges_come_and_go.ensures.replaced;
        whole = c.nothing_is_allocated.ensures.whole;
      };
      heaps = record {
        commutes = c.parts_regroup.ensures.commutes;
        drops_empty = c.parts_regroup.ensures.drops_empty;
        adds_empty = c.parts_regroup.ensures.adds_empty;
        insert = c.heaps_change_one_address.ensures.insert;
        remove = c.heaps_change_one_address.ensures.remove;
        insert_keeps = c.heaps_change_one_address.ensures.insert_keeps;
        remove_keeps = c.heaps_change_one_address.ensures.remove_keeps;
        read = c.changes_are_local.ensures.read;
        added = c.changes_are_local.ensures.added;
        replaced = c.changes_are_local.ensures.replaced;
        removed = c.changes_are_local.ensures.removed;
        blocks = c.blocks_come_together.ensures.added;
        blocks_keep = c.blocks_come_together.ensures.keeps_addresses;
      };
    } in
    proof.steps_are_sound laws
