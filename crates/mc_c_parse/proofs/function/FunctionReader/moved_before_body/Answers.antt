use Rattle.mc_c_parse.proofs.Threads.{if_ok}
use Rattle.mc_c_parse.proofs.function.FunctionReader.moved_before_body.Goals as goal

pub returns-in-Header : goal.returns-in-Header
returns-in-Header c = rw c.in-Header.is c.within_header.ensures

pub returns-in-Behind : goal.returns-in-Behind
returns-in-Behind c = rw c.in-Behind.is (if_ok c.behind_signature.result (λ step says aliases known. says aliases) c.behind_signature.ensures)

pub returns-in-Parameters : goal.returns-in-Parameters
returns-in-Parameters c = rw c.in-Parameters.is c.within_parameters.ensures

pub unreachable-requires : goal.unreachable-requires
unreachable-requires c = c.requires.before (rw c.in-Body.is tt)
