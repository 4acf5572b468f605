use Rattle.mc_c_parse.proofs.Threads.{if_ok}
use Rattle.mc_c_parse.proofs.base.BaseReader.step.Goals as goal

pub returns-in-Tag : goal.returns-in-Tag
returns-in-Tag c = rw c.in-Tag.is (if_ok c.base_tag.result (λ step says aliases known. says aliases) c.base_tag.ensures)
