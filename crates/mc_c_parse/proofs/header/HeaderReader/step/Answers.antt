use Rattle.mc_c_parse.proofs.Threads.{if_ok}
use Rattle.mc_c_parse.proofs.header.HeaderReader.step.Goals as goal

pub returns-in-Start : goal.returns-in-Start
returns-in-Start c = rw c.in-Start.is c.header_start.ensures

pub returns-in-Base : goal.returns-in-Base
returns-in-Base c = rw c.in-Base.is c.header_base.ensures

pub returns-in-Value : goal.returns-in-Value
returns-in-Value c = rw c.in-Value.is (if_ok c.header_value.result (λ step says aliases known. says aliases) c.header_value.ensures)

pub returns-in-Returned : goal.returns-in-Returned
returns-in-Returned c = rw c.in-Returned.is (if_ok c.header_name.result (λ step says aliases known. says aliases) c.header_name.ensures)

pub returns-in-Named : goal.returns-in-Named
returns-in-Named c = λ aliases known. rw c.in-Named.is (c.header_end.ensures aliases _ c.requires)
