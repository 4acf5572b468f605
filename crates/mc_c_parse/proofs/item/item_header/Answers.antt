use Rattle.mc_c_parse.specs.Functions.{CompletesFunction}
use Rattle.mc_c_parse.specs.declared.function.FunctionReader.TheVariants as FunctionReader
use Rattle.mc_c_parse.proofs.Threads.{then_gives, then_stuck}
use Rattle.mc_c_parse.proofs.item.item_header.Goals as goal

pub returns-in-Closed : goal.returns-in-Closed
returns-in-Closed c = λ aliases known. then_gives _ (rw c.in-Closed.is at (c.in_ok-reader.ensures aliases known))

pub returns-in-Stuck : goal.returns-in-Stuck
returns-in-Stuck c = λ aliases known. then_stuck (CompletesFunction aliases (FunctionReader.Header c.args.static_place c.args.reader)) _ {token = c.args.token.now} (rw c.in-Stuck.is at (c.in_ok-reader.ensures aliases known))
