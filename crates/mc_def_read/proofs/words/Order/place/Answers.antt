use Rattle.std.proofs.Common.{◌∙◌, sym}
use Rattle.mc_c_syntax.specs.Ast.Names.{is_same}
use Rattle.mc_def_read.proofs.Positions.{position_map}
use Rattle.mc_def_read.proofs.words.Order.place.Goals as goal

pub returns-in-Few : goal.returns-in-Few
returns-in-Few c = rw c.in-Few.is ((rw c.as_slice.ensures.value at c.place_among.ensures) ∙ sym (position_map (λ word. is_same word c.args.name.now) (λ word. word.now) c.in-Few.words.items))
