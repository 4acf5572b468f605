use Rattle.mc_c_parse.proofs.ItemLemmas.{tagged_opens, tagged_bare, brace_no_function}
use Rattle.mc_c_parse.proofs.Threads.{if_ok, same_step}
use Rattle.mc_c_parse.proofs.item.item_tagged.Goals as goal

pub returns-in-OpenBrace : goal.returns-in-OpenBrace
returns-in-OpenBrace c = λ aliases known. rw (c.new.ensures.none, c.new.ensures.starts) (tagged_opens aliases _ _ _ _ (rw c.in-OpenBrace.is at c.requires) (brace_no_function aliases _ (rw c.in-OpenBrace.is at c.requires)))

pub returns-in_default : goal.returns-in_default
returns-in_default c = if_ok c.item_header.result (λ step says aliases known. same_step _ _ (tagged_bare aliases _ _ _ _ _ c.requires c.in_default.not-OpenBrace) step (says aliases known)) c.item_header.ensures
