use Rattle.std.proofs.Common.{[], ◌∷◌}
use Rattle.mc_c_syntax.specs.declared.ast.class.Class.TheVariants as Class
use Rattle.mc_c_parse_body.proofs.FrameTurns.{start_within}
use Rattle.mc_c_parse_body.proofs.inner.enter.Goals as goal

pub returns : goal.returns
returns c = λ aliases. start_within aliases c.expect.new.reader c.enter.new.self c.args.reader.now.nest c.args.frame (Class.CloseParen ∷ []) c.args.token.now c.expect.result c.in_ok-enter.ensures.0 c.in_ok-enter.ensures.1 (c.expect.ensures aliases)
