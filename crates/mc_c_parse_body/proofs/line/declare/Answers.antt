use Rattle.mc_c_parse_simple.specs.Declarations.{CompletesDeclaration}
use Rattle.mc_c_parse_simple.proofs.Phrases.{same_at, then_same, turned}
use Rattle.mc_c_parse_body.specs.Lines.{DeclarationLine}
use Rattle.mc_c_parse_body.proofs.LineTurns.{line_step_along}
use Rattle.mc_c_parse_body.proofs.line.declare.Goals as goal

pub returns : goal.returns
returns c = λ aliases e. line_step_along (DeclarationLine (CompletesDeclaration aliases c.in_declaration.new.reader)) c.in_ok-step.step (same_at c.args.token.now (then_same (turned (rw (c.deref_mut.ensures.value, c.in_ok-reader.ensures.ok) (c.behind_base-fresh.ensures aliases))))) (c.in_ok-step.ensures aliases e)
