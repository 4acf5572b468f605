use Rattle.mc_kernel.proofs.ShownLemmas.HeadLines as head
use Rattle.mc_kernel.proofs.shown.heads.malformed_segments.Goals as goal

pub returns : goal.returns
returns c =
    record {
      few = head.few_seg_args;
      few_ends = head.few_ends;
      kind = head.end_of_kind;
      start = head.seg_at_number;
      stop = head.seg_to_number;
    }
