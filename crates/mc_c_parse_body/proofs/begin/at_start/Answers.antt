use Rattle.mc_c_syntax.specs.declared.ast.class.Class.TheVariants as Class
use Rattle.mc_c_parse_body.specs.Frames.{frames_of, body_of}
use Rattle.mc_c_parse_body.proofs.Unique.{class_of_mark}
use Rattle.mc_c_parse_body.proofs.Tokens.{if_ok_map}
use Rattle.mc_c_parse_body.proofs.StateTurns.{body_step_along}
use Rattle.mc_c_parse_body.proofs.FrameTurns.{start_goes_on}
use Rattle.mc_c_parse_body.proofs.begin.at_start.Goals as goal

pub returns-in-CloseBrace : goal.returns-in-CloseBrace
returns-in-CloseBrace c = λ aliases e. c.close.ensures aliases

pub returns-in_default : goal.returns-in_default
returns-in_default c = λ aliases e. if_ok_map c.begin.result (λ step h. body_step_along aliases c.begin.new.reader step (start_goes_on aliases (frames_of c.args.reader.now.nest) (body_of c.args.reader.now.nest) (λ m. c.in_default.not-CloseBrace (class_of_mark c.args.class Class.CloseBrace c.args.token.now tt c.requires.kind m))) h) (c.begin.ensures aliases e)
