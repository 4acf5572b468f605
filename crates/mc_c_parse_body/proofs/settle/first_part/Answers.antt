use Rattle.mc_c_syntax.specs.declared.ast.class.Class.TheVariants as Class
use Rattle.mc_c_syntax.specs.Ast.Views.{condition_of, statement_of}
use Rattle.mc_c_parse_body.specs.Frames.{Behind}
use Rattle.mc_c_parse_body.proofs.Unique.{class_of_word}
use Rattle.mc_c_parse_body.proofs.Tokens.{of_class, agree}
use Rattle.mc_c_parse_body.proofs.FrameTurns.{first_else, first_only}
use Rattle.mc_c_parse_body.proofs.settle.first_part.Goals as goal

pub returns-in_ok-new-in-Else : goal.returns-in_ok-new-in-Else
returns-in_ok-new-in-Else c = λ aliases frames body. rw c.in_ok-new-in-Else.ensures.ok (agree (first_else aliases c.args.place (condition_of c.args.condition) (Behind aliases frames body) (statement_of c.args.statement) (of_class c.args.token.now Class.Else c.in-Else.is c.requires)))

pub returns-in_ok-whole-in_default : goal.returns-in_ok-whole-in_default
returns-in_ok-whole-in_default c = λ aliases frames body. rw c.in_ok-whole-in_default.ensures (agree (first_only aliases c.args.place (condition_of c.args.condition) (Behind aliases frames body) (statement_of c.args.statement) (λ w. c.in_default.not-Else (class_of_word c.args.class Class.Else c.args.token.now tt c.requires w))))
