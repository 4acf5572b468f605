use Rattle.mc_c_syntax.specs.Ast.Views.{item_of}
use Rattle.mc_c_parse.specs.Items.{CompletesItem}
use Rattle.mc_c_parse.proofs.Threads.{put_is}
use Rattle.mc_c_parse.proofs.item.ItemReader.step_beside_functions.Goals as goal

pub returns : goal.returns
returns c = λ aliases known. put_is (CompletesItem aliases) item_of _ c.args.token.now _ c.put.new.reader c.in_ok-took.took c.in_ok-took.ensures (rw c.replace-reader.ensures.value at (c.in_ok-step.ensures aliases known))
