use Rattle.mc_rules_logic.proofs.UnfoldLemmas.RulesMade.{rules_made, equals_formed, rule_of_fitting}
use Rattle.mc_rules_logic.proofs.unfold.laws.rules_are_made.Goals as goal

pub returns : goal.returns
returns c = record { fits = rule_of_fitting; rules = rules_made; equal = equals_formed }
