use Rattle.mc_def_parse.proofs.Numbers.{number_answer}
use Rattle.mc_def_parse.proofs.symbols.number.Goals as goal

pub returns-in-Number : goal.returns-in-Number
returns-in-Number c = number_answer c.args.token.now _ c.in-Number.is (rw c.as_slice.ensures at c.number_value.ensures)
