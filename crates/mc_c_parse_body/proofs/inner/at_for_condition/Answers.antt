use Rattle.std.proofs.Common.{refl}
use Rattle.mc_c_syntax.specs.declared.ast.class.Class.TheVariants as Class
use Rattle.mc_c_syntax.specs.Ast.Views.{start_of}
use Rattle.mc_c_parse_simple.proofs.Phrases.{same_at, then_same}
use Rattle.mc_c_parse_body.specs.declared.state.Purpose.TheVariants as Purpose
use Rattle.mc_c_parse_body.specs.Frames.{Around}
use Rattle.mc_c_parse_body.proofs.Unique.{class_of_mark}
use Rattle.mc_c_parse_body.proofs.Tokens.{of_class, if_ok_map}
use Rattle.mc_c_parse_body.proofs.StateTurns.{body_step_along, for_no_condition, for_condition}
use Rattle.mc_c_parse_body.proofs.inner.at_for_condition.Goals as goal

pub returns-in-Semicolon : goal.returns-in-Semicolon
returns-in-Semicolon c = λ aliases. rw c.requires.ready (for_no_condition aliases c.args.place (start_of c.args.start) (Around aliases c.args.reader.now.nest) (of_class c.args.token.now Class.Semicolon c.in-Semicolon.is c.requires.kind))

pub returns-in_ok-inner-in_default : goal.returns-in_ok-inner-in_default
returns-in_ok-inner-in_default c = λ aliases.
    let other = for_condition aliases c.args.place (start_of c.args.start) (Around aliases c.args.reader.now.nest) {token = c.args.token.now} (λ m. c.in_default.not-Semicolon (class_of_mark c.args.class Class.Semicolon c.args.token.now tt c.requires.kind m)) in
    let new = c.new-fresh.ensures in
    if_ok_map c.in_condition.result (λ step h. body_step_along aliases c.in_condition.new.reader step other (body_step_along aliases c.in_condition.new.reader step (same_at c.args.token.now (then_same (record { forward = new.backward; backward = new.forward }))) h)) (rw c.in_ok-inner-in_default.ensures.ok at (c.in_condition.ensures (Purpose.For c.args.place c.args.start) c.in_ok-inner-in_default.inner refl aliases))
