use Rattle.std.proofs.Common.{refl}
use Rattle.mc_c_syntax.specs.declared.ast.class.Class.TheVariants as Class
use Rattle.mc_c_parse_simple.proofs.Phrases.{same_at, then_same, either_left, either_right}
use Rattle.mc_c_parse_body.specs.Lines.{CompletesLine, token_of}
use Rattle.mc_c_parse_body.proofs.Unique.{class_of_mark, class_of_name}
use Rattle.mc_c_parse_body.proofs.Tokens.{of_class, if_ok_map}
use Rattle.mc_c_parse_body.proofs.LineTurns.{line_step_along, simple_stuck_name, simple_stuck_star, declaration_stuck, token_is_name}
use Rattle.mc_c_parse_body.proofs.line.behind_known.Goals as goal

pub returns-in-Name : goal.returns-in-Name
returns-in-Name c = λ aliases e. if_ok_map c.declare.result (λ step h. line_step_along (CompletesLine aliases c.declare.new.line) step (either_left (simple_stuck_name aliases c.args.known.name (of_class c.args.token.now Class.Name c.in-Name.is c.requires))) h) (c.declare.ensures aliases e)

pub returns-in-Star : goal.returns-in-Star
returns-in-Star c = λ aliases e. if_ok_map c.declare-in-Star.result (λ step h. line_step_along (CompletesLine aliases c.declare-in-Star.new.line) step (either_left (simple_stuck_star aliases c.args.known.name (of_class c.args.token.now Class.Star c.in-Star.is c.requires))) h) (c.declare-in-Star.ensures aliases e)

pub returns-in_default : goal.returns-in_default
returns-in_default c = λ aliases e.
    let name = c.args.known.name in
    let same = c.behind_name-reader.ensures aliases (token_of name) (token_is_name name c.args.known.is_free) refl in
    let stuck = declaration_stuck aliases name {token = c.args.token.now}
    (λ n. c.in_default.not-Name (class_of_name c.args.class c.args.token.now c.requires n))
    (λ m. c.in_default.not-Star (class_of_mark c.args.class Class.Star c.args.token.now tt c.requires m)) in
    if_ok_map c.perform.result (λ step h. line_step_along (CompletesLine aliases c.perform.new.line) step (either_right stuck) (line_step_along (CompletesLine aliases c.perform.new.line) step (same_at c.args.token.now (then_same record { forward = same.backward; backward = same.forward })) h)) (c.perform.ensures aliases e)
