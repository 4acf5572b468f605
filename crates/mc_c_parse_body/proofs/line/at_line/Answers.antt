use Rattle.mc_c_syntax.specs.declared.ast.class.Class.TheVariants as Class
use Rattle.mc_c_parse_simple.proofs.Phrases.{same_at, takes_to, then_same}
use Rattle.mc_c_parse_body.specs.Lines.{CompletesLine}
use Rattle.mc_c_parse_body.proofs.Unique.{class_of_mark}
use Rattle.mc_c_parse_body.proofs.Tokens.{of_class, if_ok_map}
use Rattle.mc_c_parse_body.proofs.LineTurns.{line_step_along, no_declaration, line_semicolon, line_int, line_struct, line_other}
use Rattle.mc_c_parse_body.proofs.line.at_line.Goals as goal

pub returns-in-Semicolon : goal.returns-in-Semicolon
returns-in-Semicolon c = λ aliases e. line_semicolon aliases (of_class c.args.token.now Class.Semicolon c.in-Semicolon.is c.requires)

pub returns-in_ok-line-in-Int : goal.returns-in_ok-line-in-Int
returns-in_ok-line-in-Int c = λ aliases e. takes_to (line_int aliases (of_class c.args.token.now Class.Int c.in-Int.is c.requires)) (c.in_ok-line-in-Int.ensures aliases)

pub returns-in-Struct : goal.returns-in-Struct
returns-in-Struct c = λ aliases e. line_struct aliases (of_class c.args.token.now Class.Struct c.in-Struct.is c.requires)

pub returns-in-Name : goal.returns-in-Name
returns-in-Name c = λ aliases e. c.at_name.ensures aliases e

pub returns-in_default : goal.returns-in_default
returns-in_default c = λ aliases e.
    let other = line_other aliases {token = c.args.token.now}
    (λ m. c.in_default.not-Semicolon (class_of_mark c.args.class Class.Semicolon c.args.token.now tt c.requires m))
    (λ d tokens rest h. no_declaration c.args.class c.requires c.in_default.not-Int c.in_default.not-Struct c.in_default.not-Name h) in
    if_ok_map c.perform.result (λ step h. line_step_along (CompletesLine aliases c.perform.new.line) step other (line_step_along (CompletesLine aliases c.perform.new.line) step (same_at c.args.token.now (then_same record { forward = (c.new.ensures aliases).backward; backward = (c.new.ensures aliases).forward })) h)) (c.perform.ensures aliases e)
