use Rattle.std.proofs.Common.{refl}
use Rattle.mc_c_parse_body.specs.declared.line.LineReader.TheVariants as LineReader
use Rattle.mc_c_parse_body.specs.declared.state.LinePurpose.TheVariants as LinePurpose
use Rattle.mc_c_parse_body.proofs.begin.begin_line.Goals as goal

pub returns : goal.returns
returns c = λ aliases e. c.in_line.ensures (LinePurpose.Statement c.args.token.now.place) LineReader.Start refl aliases e
