use Rattle.std.proofs.Common.{◌∙◌, sym}
use Rattle.mc_c_syntax.specs.Ast.Names.{is_same}
use Rattle.mc_def_read.proofs.Positions.{position_map}
use Rattle.mc_def_read.proofs.held.Fields.place.Goals as goal

pub returns-in-Few : goal.returns-in-Few
returns-in-Few c = rw c.in-Few.is (c.place_among.ensures ∙ sym (position_map (λ field. is_same field c.args.name.now) (λ field. field.name) c.in-Few.fields.now))
