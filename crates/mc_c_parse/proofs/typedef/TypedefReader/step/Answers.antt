use Rattle.mc_c_parse.proofs.Threads.{if_ok}
use Rattle.mc_c_parse.proofs.typedef.TypedefReader.step.Goals as goal

pub returns-in-Start : goal.returns-in-Start
returns-in-Start c = rw c.in-Start.is c.typedef_start.ensures

pub returns-in-Tagged : goal.returns-in-Tagged
returns-in-Tagged c = rw c.in-Tagged.is (if_ok c.typedef_tagged.result (λ step says aliases known. says aliases) c.typedef_tagged.ensures)

pub returns-in-Struct : goal.returns-in-Struct
returns-in-Struct c = rw c.in-Struct.is c.typedef_struct.ensures
