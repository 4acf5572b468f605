use Rattle.mc_kernel.proofs.ShownLemmas.HeadLines as head
use Rattle.mc_kernel.proofs.shown.heads.malformed_lists.Goals as goal

pub returns : goal.returns
returns c =
    record {
      few = head.few_args;
      many = head.many_args;
      kind = head.arg_of_kind;
      absent = head.no_predicate;
      start = head.list_at_number;
    }
