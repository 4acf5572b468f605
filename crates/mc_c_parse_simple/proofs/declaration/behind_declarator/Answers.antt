use Rattle.std.proofs.Common.{codes}
use Rattle.mc_c_syntax.specs.Ast.Names.{IsMark}
use Rattle.mc_c_parse_simple.proofs.Phrases.{takes_to, then_same}
use Rattle.mc_c_parse_simple.proofs.Tokens.{only_assign}
use Rattle.mc_c_parse_simple.proofs.Declarations.{declaration_step_along, declarator_assign, declarator_other, one_item}
use Rattle.mc_c_parse_simple.proofs.declaration.behind_declarator.Goals as goal

pub returns-in-Assign : goal.returns-in-Assign
returns-in-Assign c = λ aliases. let is : IsMark (codes "=") c.args.token.now = rw c.in-Assign.is at c.requires in takes_to (declarator_assign aliases _ _ _ is) (then_same (c.new-reader.ensures aliases))

pub returns-in_ok-push-in_default : goal.returns-in_ok-push-in_default
returns-in_ok-push-in_default c = λ aliases. declaration_step_along aliases _ (declarator_other aliases _ _ _ (λ i. c.in_default.not-Assign (only_assign _ _ c.requires i))) (one_item aliases _ _ _ _ _ _ c.in_ok-push-in_default.ensures.items (c.behind_initial.ensures aliases))
