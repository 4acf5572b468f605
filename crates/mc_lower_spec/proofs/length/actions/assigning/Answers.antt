use Rattle.std.proofs.Common.{sym, ap, ◌∙◌}
use Rattle.mc_semantics.specs.Resolved.Views.{right_of}
use Rattle.mc_lower_spec.specs.Length.Lengths.{assigning}
use Rattle.mc_lower_spec.proofs.length.actions.assigning.Goals as goal

pub returns-in_ok-count-in-Expression : goal.returns-in_ok-count-in-Expression
returns-in_ok-count-in-Expression c =
    c.in_ok-count-in-Expression.ensures c.args.table.now ∙ ap (λ r. assigning c.args.table.now (right_of r) c.args.fields) (sym c.in-Expression.is)

pub returns-in_ok-count-in-Malloc : goal.returns-in_ok-count-in-Malloc
returns-in_ok-count-in-Malloc c =
    c.in_ok-count-in-Malloc.ensures c.args.table.now c.in-Malloc.field-0.0 c.in-Malloc.field-1 ∙ ap (λ r. assigning c.args.table.now (right_of r) c.args.fields) (sym c.in-Malloc.is)
