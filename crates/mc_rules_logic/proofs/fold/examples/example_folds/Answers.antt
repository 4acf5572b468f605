use Rattle.mc_rules_logic.proofs.FoldLemmas.ExampleFolds.{cell_folds, cell_folds_open}
use Rattle.mc_rules_logic.proofs.fold.examples.example_folds.Goals as goal

pub returns-clause-ind : goal.returns-clause-ind
returns-clause-ind c = cell_folds c.derived_is_true.ensures.not_false c.body_premises.ensures.addresses c.body_premises.ensures.stands

pub returns-clause-seg : goal.returns-clause-seg
returns-clause-seg c = cell_folds_open c.derived_is_true.ensures.not_false c.body_premises.ensures.addresses c.body_premises.ensures.stands
