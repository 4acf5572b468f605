use Rattle.mc_joins.proofs.ExampleStands.{cell_stands, cells_stand}
use Rattle.mc_joins.proofs.Regions.{SplitLaws}
use Rattle.mc_joins.proofs.examples.cells_stand_for_join.Goals as goal

pub returns : goal.returns
returns c =
    let p = c.parts_regroup.ensures in
    let splits : SplitLaws = record { commutes = p.commutes; left = p.left; right = p.right; drops_empty = p.drops_empty; adds_empty = p.adds_empty } in
    let there = c.body_premises.ensures in
    record {
      cell = cell_stands there.stands;
      joined = cells_stand splits c.covers_are_sound.ensures.predicate there.definitions there.addresses there.stands there.edges c.example_covers.ensures.by_rule;
    }
