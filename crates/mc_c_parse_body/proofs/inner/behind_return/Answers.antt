use Rattle.std.proofs.Common.{refl}
use Rattle.mc_c_syntax.specs.declared.ast.class.Class.TheVariants as Class
use Rattle.mc_c_parse_simple.proofs.Phrases.{same_at, then_same}
use Rattle.mc_c_parse_body.specs.Frames.{Around}
use Rattle.mc_c_parse_body.proofs.Unique.{class_of_mark}
use Rattle.mc_c_parse_body.proofs.Tokens.{of_class, if_ok_map}
use Rattle.mc_c_parse_body.proofs.StateTurns.{body_step_along, return_semicolon, return_value}
use Rattle.mc_c_parse_body.proofs.Seen.{return_seen}
use Rattle.mc_c_parse_body.proofs.inner.behind_return.Goals as goal

pub returns-in-Semicolon : goal.returns-in-Semicolon
returns-in-Semicolon c = λ aliases e. rw (c.requires.ready, return_seen) (return_semicolon aliases c.args.place (Around aliases c.args.reader.now.nest) (of_class c.args.token.now Class.Semicolon c.in-Semicolon.is c.requires.kind))

pub returns-in_ok-value-in_default : goal.returns-in_ok-value-in_default
returns-in_ok-value-in_default c = λ aliases e.
    let other = return_value aliases c.args.place (Around aliases c.args.reader.now.nest) {token = c.args.token.now} (λ m. c.in_default.not-Semicolon (class_of_mark c.args.class Class.Semicolon c.args.token.now tt c.requires.kind m)) in
    let new = c.new-fresh.ensures aliases in
    if_ok_map c.in_value.result (λ step h. body_step_along aliases c.in_value.new.reader step other (body_step_along aliases c.in_value.new.reader step (same_at c.args.token.now (then_same (record { forward = new.backward; backward = new.forward }))) h)) (rw c.in_ok-value-in_default.ensures.ok at (c.in_value.ensures c.args.place c.in_ok-value-in_default.value refl aliases e))
