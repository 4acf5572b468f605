use Rattle.mc_c_parse.proofs.ItemLemmas.{item_struct, item_typedef, item_static, item_other}
use Rattle.mc_c_parse.proofs.Threads.{if_ok, same_step}
use Rattle.mc_c_parse.proofs.item.item_start.Goals as goal

pub returns-in-Struct : goal.returns-in-Struct
returns-in-Struct c = λ aliases known. item_struct aliases (rw c.in-Struct.is at c.requires)

pub returns-in-Typedef : goal.returns-in-Typedef
returns-in-Typedef c = λ aliases known. item_typedef aliases (rw c.in-Typedef.is at c.requires)

pub returns-in-Static : goal.returns-in-Static
returns-in-Static c = λ aliases known. rw c.new-reader.ensures (item_static aliases (rw c.in-Static.is at c.requires))

pub returns-in_default : goal.returns-in_default
returns-in_default c = if_ok c.item_header.result (λ step says aliases known. same_step _ _ (item_other aliases _ c.requires c.in_default.not-Struct c.in_default.not-Typedef c.in_default.not-Static) step (says aliases known)) c.item_header.ensures
