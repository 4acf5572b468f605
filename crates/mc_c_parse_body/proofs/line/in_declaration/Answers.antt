use Rattle.std.proofs.Common.{subst}
use Rattle.mc_c_parse_simple.specs.Declarations.{CompletesDeclaration, IsDeclarationStep}
use Rattle.mc_c_parse_simple.proofs.Phrases.{then_moves, then_closes, then_stuck}
use Rattle.mc_c_parse_body.proofs.Tokens.{closes_ended}
use Rattle.mc_c_parse_body.proofs.line.in_declaration.Goals as goal

pub returns-in-Taken : goal.returns-in-Taken
returns-in-Taken c = λ aliases e. then_moves (subst (λ s. IsDeclarationStep (CompletesDeclaration aliases c.args.reader.now) (CompletesDeclaration aliases c.step.new.self) c.args.token.now s) c.in-Taken.is (c.in_ok-step.ensures aliases e))

pub returns-in-Closed : goal.returns-in-Closed
returns-in-Closed c = λ aliases e. closes_ended (then_closes (subst (λ s. IsDeclarationStep (CompletesDeclaration aliases c.args.reader.now) (CompletesDeclaration aliases c.step.new.self) c.args.token.now s) c.in-Closed.is (c.in_ok-step.ensures aliases e)))

pub returns-in-Stuck : goal.returns-in-Stuck
returns-in-Stuck c = λ aliases e. then_stuck (subst (λ s. IsDeclarationStep (CompletesDeclaration aliases c.args.reader.now) (CompletesDeclaration aliases c.step.new.self) c.args.token.now s) c.in-Stuck.is (c.in_ok-step.ensures aliases e))
