use Rattle.std.proofs.Common.{ap, subst, sym, ◌∙◌}
use Rattle.mc_c_syntax.specs.Ast.Views.{unit_of}
use Rattle.mc_c_types.specs.Held.{tables_held}
use Rattle.mc_c_check.specs.Collected.{functions_held}
use Rattle.mc_c_check.specs.Told.{IsToldOfRules}
use Rattle.mc_c_check.proofs.Faults.{broken_answer, entered, entry_missing, well_typed}
use Rattle.mc_c_check.proofs.Graphs.{never}
use Rattle.mc_c_check.proofs.check.first_fault.Goals as goal

pub returns-in-Some : goal.returns-in-Some
returns-in-Some c =
    broken_answer (unit_of c.args.unit.now) c.args.entry.now c.in-Some.fault (subst (IsToldOfRules (unit_of c.args.unit.now)) c.in-Some.is c.in_ok-fault.ensures)

pub returns-then-has_entry : goal.returns-then-has_entry
returns-then-has_entry c =
    well_typed (unit_of c.args.unit.now) c.args.entry.now (subst (IsToldOfRules (unit_of c.args.unit.now)) c.in-None.is c.in_ok-fault.ensures)
    (sym (entered c.args.entry.now c.as_slice.result.now (unit_of c.args.unit.now) (tables_held c.in_ok-tables.tables) c.has_entry.result c.in_ok-tables.ensures (ap functions_held c.as_slice.ensures) c.has_entry.ensures) ∙ c.if-has_entry.true)

pub returns : goal.returns
returns c =
    entry_missing (unit_of c.args.unit.now) c.args.entry.now (subst (IsToldOfRules (unit_of c.args.unit.now)) c.in-None.is c.in_ok-fault.ensures)
    (λ h. never
    (sym h
    ∙ sym (entered c.args.entry.now c.as_slice.result.now (unit_of c.args.unit.now) (tables_held c.in_ok-tables.tables) c.has_entry.result c.in_ok-tables.ensures (ap functions_held c.as_slice.ensures) c.has_entry.ensures)
    ∙ c.if-has_entry.false))
