use Rattle.mc_kernel.proofs.ShownLemmas.HeadLines as head
use Rattle.mc_kernel.proofs.shown.heads.malformed_atoms.Goals as goal

pub returns : goal.returns
returns c =
    record {
      absent = head.atom_absent;
      kinds = head.kinds_apart;
      offset = head.wide_offset;
      range = head.wide_range;
    }
