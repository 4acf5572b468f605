use Rattle.mc_kernel.proofs.ShownLemmas.HeadLines as head
use Rattle.mc_kernel.proofs.shown.heads.example_of_head.Goals as goal

pub returns : goal.returns
returns c =
    head.good_is_read
