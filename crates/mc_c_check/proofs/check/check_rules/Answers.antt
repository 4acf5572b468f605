use Rattle.std.proofs.Common.{ap, map, ◌∙◌}
use Rattle.mc_c_syntax.specs.Ast.Views.{item_of, unit_of}
use Rattle.mc_c_types.specs.Faults.{plain_faults}
use Rattle.mc_c_types.specs.First.{told_of}
use Rattle.mc_c_types.specs.Held.{tables_held}
use Rattle.mc_c_check.proofs.Faults.{rules_answer}
use Rattle.mc_c_check.proofs.check.check_rules.Goals as goal

pub returns : goal.returns
returns c =
    rules_answer (unit_of c.args.unit.now) (map item_of c.as_slice.result.now) (tables_held c.args.tables.now) c.check_plain.new.told.fault c.check_recursion.new.told.fault
    c.requires (ap (map item_of) c.as_slice.ensures.value) (c.in_ok-check_plain.ensures ∙ ap (λ o. told_of o (plain_faults (unit_of c.args.unit.now))) c.new-told.ensures)
    c.in_ok-check_recursion.ensures
