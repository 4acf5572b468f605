use Rattle.mc_c_parse.proofs.HeaderLemmas.{header_void, header_valued}
use Rattle.mc_c_parse.proofs.Threads.{if_ok, same_step}
use Rattle.mc_c_parse.proofs.header.header_start.Goals as goal

pub returns-in-Void : goal.returns-in-Void
returns-in-Void c = λ aliases known. header_void aliases (rw c.in-Void.is at c.requires)

pub returns-in_default : goal.returns-in_default
returns-in_default c = if_ok c.header_base.result (λ step says aliases known. same_step _ _ (header_valued aliases _ c.requires c.in_default.not-Void) step (says aliases known)) c.header_base.ensures
