use Rattle.mc_kernel.proofs.ShownLemmas.HeadLines as head
use Rattle.mc_kernel.proofs.shown.heads.malformed_variables.Goals as goal

pub returns : goal.returns
returns c =
    record {
      few = head.few_vars;
      many = head.many_vars;
      kind = head.var_of_kind;
      absent = head.var_absent;
    }
