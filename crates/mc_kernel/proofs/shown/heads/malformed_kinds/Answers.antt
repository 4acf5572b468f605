use Rattle.mc_kernel.proofs.ShownLemmas.HeadLines as head
use Rattle.mc_kernel.proofs.shown.heads.malformed_kinds.Goals as goal

pub returns : goal.returns
returns c =
    record {
      none = head.no_kinds;
      no_zero = head.no_zero;
      two_zeros = head.two_zeros;
    }
