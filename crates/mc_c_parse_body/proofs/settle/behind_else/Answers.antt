use Rattle.mc_c_syntax.specs.declared.ast.class.Class.TheVariants as Class
use Rattle.mc_c_parse_simple.proofs.Phrases.{next_takes, next_stuck}
use Rattle.mc_c_parse_body.proofs.Unique.{class_of_word}
use Rattle.mc_c_parse_body.proofs.Tokens.{of_class}
use Rattle.mc_c_parse_body.proofs.settle.behind_else.Goals as goal

pub returns-in-Else : goal.returns-in-Else
returns-in-Else c = λ aliases. rw c.requires.ready (next_takes (of_class c.args.token.now Class.Else c.in-Else.is c.requires.kind))

pub returns-in_default : goal.returns-in_default
returns-in_default c = λ aliases. next_stuck (λ w. c.in_default.not-Else (class_of_word c.args.class Class.Else c.args.token.now tt c.requires.kind w))
