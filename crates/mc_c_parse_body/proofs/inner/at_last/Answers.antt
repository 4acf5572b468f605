use Rattle.std.proofs.Common.{refl}
use Rattle.std.specs.Option.{option_map}
use Rattle.mc_c_syntax.specs.declared.ast.class.Class.TheVariants as Class
use Rattle.mc_c_syntax.specs.Ast.Views.{condition_of, start_of}
use Rattle.mc_c_parse_simple.proofs.Phrases.{same_at, then_same}
use Rattle.mc_c_parse_body.specs.Frames.{Around}
use Rattle.mc_c_parse_body.proofs.Unique.{class_of_mark}
use Rattle.mc_c_parse_body.proofs.Tokens.{of_class, if_ok_map}
use Rattle.mc_c_parse_body.proofs.StateTurns.{body_step_along, for_no_last, for_last}
use Rattle.mc_c_parse_body.proofs.inner.at_last.Goals as goal

pub returns-in_ok-head-in-CloseParen : goal.returns-in_ok-head-in-CloseParen
returns-in_ok-head-in-CloseParen c = λ aliases e. if_ok_map c.enter.result (λ step h. body_step_along aliases c.enter.new.reader step (for_no_last aliases c.args.place (start_of c.args.start) (Around aliases c.args.reader.now.nest) (option_map condition_of c.args.condition) (of_class c.args.token.now Class.CloseParen c.in-CloseParen.is c.requires.kind)) h) (rw c.in_ok-head-in-CloseParen.ensures.ok at (c.enter.ensures aliases))

pub returns-in_ok-inner-in_default : goal.returns-in_ok-inner-in_default
returns-in_ok-inner-in_default c = λ aliases e.
    let other = for_last aliases c.args.place (start_of c.args.start) (Around aliases c.args.reader.now.nest) (option_map condition_of c.args.condition) {token = c.args.token.now} (λ m. c.in_default.not-CloseParen (class_of_mark c.args.class Class.CloseParen c.args.token.now tt c.requires.kind m)) in
    let new = c.new-fresh.ensures aliases in
    if_ok_map c.in_last.result (λ step h. body_step_along aliases c.in_last.new.reader step other (body_step_along aliases c.in_last.new.reader step (same_at c.args.token.now (then_same (record { forward = new.backward; backward = new.forward }))) h)) (rw c.in_ok-inner-in_default.ensures.ok at (c.in_last.ensures c.args.place c.args.start c.args.condition c.in_ok-inner-in_default.inner refl aliases e))
