use Rattle.mc_kernel.proofs.ShownLemmas.HeadLines as head
use Rattle.mc_kernel.proofs.shown.heads.malformed_blocks.Goals as goal

pub returns : goal.returns
returns c =
    record {
      few = head.few_fields;
      many = head.many_fields;
      kind = head.field_of_kind;
      absent = head.no_struct;
      start = head.block_at_number;
    }
