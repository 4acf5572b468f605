use Rattle.mc_c_syntax.specs.Ast.Views.{function_of}
use Rattle.mc_c_parse.specs.Functions.{CompletesFunction}
use Rattle.mc_c_parse.proofs.Threads.{put_is}
use Rattle.mc_c_parse.proofs.function.FunctionReader.step_before_body.Goals as goal

pub returns : goal.returns
returns c = λ aliases known. put_is (CompletesFunction aliases) function_of _ c.args.token.now _ c.put.new.reader c.in_ok-took.took c.in_ok-took.ensures (rw c.replace-reader.ensures.value at (c.in_ok-step.ensures aliases known))
