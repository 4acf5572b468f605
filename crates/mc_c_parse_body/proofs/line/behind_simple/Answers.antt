use Rattle.mc_c_syntax.specs.declared.ast.class.Class.TheVariants as Class
use Rattle.mc_c_syntax.specs.Ast.Trees.{performs}
use Rattle.mc_c_syntax.specs.Ast.Views.{simple_of}
use Rattle.mc_c_parse_simple.proofs.Phrases.{next_stuck, next_closes}
use Rattle.mc_c_parse_body.proofs.Unique.{class_of_mark}
use Rattle.mc_c_parse_body.proofs.Tokens.{of_class}
use Rattle.mc_c_parse_body.proofs.line.behind_simple.Goals as goal

pub returns-in-Semicolon : goal.returns-in-Semicolon
returns-in-Semicolon c = λ aliases reader. next_closes (λ t. performs (simple_of c.args.simple)) (of_class c.args.token.now Class.Semicolon c.in-Semicolon.is c.requires)

pub returns-in_default : goal.returns-in_default
returns-in_default c = λ aliases reader. next_stuck (λ m. c.in_default.not-Semicolon (class_of_mark c.args.class Class.Semicolon c.args.token.now tt c.requires m))
