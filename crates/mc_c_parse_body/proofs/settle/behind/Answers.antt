use Rattle.std.proofs.Common.{subst}
use Rattle.mc_c_syntax.specs.Ast.Views.{statement_of}
use Rattle.mc_c_parse_body.specs.Phrases.{AgreeAt}
use Rattle.mc_c_parse_body.specs.Frames.{Around}
use Rattle.mc_c_parse_body.specs.Turns.{AtSettled}
use Rattle.mc_c_parse_body.proofs.Tokens.{same, if_ok_map}
use Rattle.mc_c_parse_body.proofs.StateTurns.{body_step_along}
use Rattle.mc_c_parse_body.proofs.settle.behind.Goals as goal

pub returns-in-Start : goal.returns-in-Start
returns-in-Start c = λ aliases e. if_ok_map c.at_start.result (λ step h. body_step_along aliases c.at_start.new.reader step (same (subst (λ s. AgreeAt (Around aliases c.args.reader.now.nest (statement_of c.args.statement)) (AtSettled aliases s) c.args.token.now) c.in-Start.is (rw c.replace-nest.ensures.value at (c.in_ok-settled.ensures aliases)))) h) (c.at_start.ensures aliases e)

pub returns-in-Else : goal.returns-in-Else
returns-in-Else c = λ aliases e. body_step_along aliases c.behind_else.new.reader c.behind_else.result (same (subst (λ s. AgreeAt (Around aliases c.args.reader.now.nest (statement_of c.args.statement)) (AtSettled aliases s) c.args.token.now) c.in-Else.is (rw c.replace-nest.ensures.value at (c.in_ok-settled.ensures aliases)))) (c.behind_else.ensures aliases)

pub returns-in-Do : goal.returns-in-Do
returns-in-Do c = λ aliases e. if_ok_map c.behind_do.result (λ step h. body_step_along aliases c.behind_do.new.reader step (same (subst (λ s. AgreeAt (Around aliases c.args.reader.now.nest (statement_of c.args.statement)) (AtSettled aliases s) c.args.token.now) c.in-Do.is (rw c.replace-nest.ensures.value at (c.in_ok-settled.ensures aliases)))) h) (c.behind_do.ensures aliases)
