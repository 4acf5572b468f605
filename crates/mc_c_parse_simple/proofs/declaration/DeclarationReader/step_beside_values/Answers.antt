use Rattle.mc_c_parse_simple.specs.Declarations.{CompletesDeclaration}
use Rattle.mc_c_parse_simple.proofs.Declarations.{put_is}
use Rattle.mc_c_parse_simple.proofs.declaration.DeclarationReader.step_beside_values.Goals as goal

pub moved-requires : goal.moved-requires
moved-requires c = record { class = c.requires.class; beside = rw c.taken.ensures c.requires.beside }

pub returns : goal.returns
returns c = λ aliases. put_is aliases (CompletesDeclaration aliases c.args.self.now) c.args.token.now _ c.put.new.self c.put.result c.put.ensures (rw c.taken.ensures at (c.in_ok-step.ensures aliases))
