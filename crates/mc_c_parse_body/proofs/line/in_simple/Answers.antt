use Rattle.std.proofs.Common.{subst, refl}
use Rattle.std.specs.Prelude.{codes}
use Rattle.mc_c_parse_simple.specs.Simples.{CompletesSimple, IsSimpleStep}
use Rattle.mc_c_parse_body.specs.Lines.{SimpleLine}
use Rattle.mc_c_parse_simple.proofs.Phrases.{then_finds, then_stuck}
use Rattle.mc_c_parse_body.proofs.Tokens.{first_is, then_rejects}
use Rattle.mc_c_parse_body.proofs.LineTurns.{line_step_along}
use Rattle.mc_c_parse_body.proofs.line.in_simple.Goals as goal

pub returns-in-Taken : goal.returns-in-Taken
returns-in-Taken c = λ aliases e. then_rejects (codes ";") refl (λ x tokens rest y h. first_is h) (subst (λ s. IsSimpleStep (CompletesSimple aliases c.args.reader.now) (CompletesSimple aliases c.step.new.self) c.args.token.now s) c.in-Taken.is (c.in_ok-step.ensures aliases e))

pub returns-in-Found : goal.returns-in-Found
returns-in-Found c = λ aliases e. line_step_along (SimpleLine (CompletesSimple aliases c.step.new.self)) c.behind_simple.result (then_finds (subst (λ s. IsSimpleStep (CompletesSimple aliases c.args.reader.now) (CompletesSimple aliases c.step.new.self) c.args.token.now s) c.in-Found.is (c.in_ok-step.ensures aliases e))) (c.behind_simple.ensures aliases c.step.new.self)

pub returns-in-Stuck : goal.returns-in-Stuck
returns-in-Stuck c = λ aliases e. then_stuck (subst (λ s. IsSimpleStep (CompletesSimple aliases c.args.reader.now) (CompletesSimple aliases c.step.new.self) c.args.token.now s) c.in-Stuck.is (c.in_ok-step.ensures aliases e))
