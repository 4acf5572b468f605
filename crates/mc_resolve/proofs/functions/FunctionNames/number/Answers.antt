use Rattle.mc_c_syntax.specs.Ast.Names.{is_same}
use Rattle.mc_resolve.proofs.FunctionNumbers.{number_of_none, number_of_some}
use Rattle.mc_resolve.proofs.functions.FunctionNames.number.Goals as goal

pub returns-in-None : goal.returns-in-None
returns-in-None c = rw c.len.ensures (number_of_none (λ n. is_same n c.args.name.now) c.args.self.now.names c.in-None.ensures)

pub returns-in-Some : goal.returns-in-Some
returns-in-Some c = number_of_some (λ n. is_same n c.args.name.now) c.args.self.now.names c.in-Some.number c.in-Some.ensures
