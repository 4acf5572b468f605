use Rattle.std.proofs.Common.{sym}
use Rattle.std.proofs.lemmas.Result.{err_from_is_err_and}
use Rattle.mc_c_syntax.specs.Ast.Views.{unit_of}
use Rattle.mc_c_grammar.specs.Places.Places.{declared_places}
use Rattle.mc_load.specs.Read.Refusals.{by_types}
use Rattle.mc_load.proofs.ReadLemmas.Faults.{first_of}
use Rattle.mc_load.proofs.read.reading.read.Goals as goal

pub returns-in_err-unit-clause-read : goal.returns-in_err-unit-clause-read
returns-in_err-unit-clause-read c =
    let p = err_from_is_err_and c.from_residual.result c.from_residual.ensures.1 in
    rw (p.1, p.2) (c.in_err-unit.ensures c.args.entry.now)

pub returns-in-Err-Refused-clause-read : goal.returns-in-Err-Refused-clause-read
returns-in-Err-Refused-clause-read c =
    let unit = unit_of c.in_ok-unit.unit in
    let first = first_of unit c.args.entry.now c.in-Err-Refused.field-0 c.in-Err-Refused.fault c.in-Err-Refused.field-0-is c.in-Err-Refused.ensures in
    by_types unit c.in-Err-Refused.fault c.in_ok-unit.ensures first (sym c.of_typing.ensures)

pub check_types-requires-clause-small : goal.check_types-requires-clause-small
check_types-requires-clause-small c = c.numbers_are_small.ensures (unit_of c.in_ok-unit.unit) c.in_ok-unit.ensures.tokens c.in_ok-unit.ensures.spells

pub check_types-requires-clause-places : goal.check_types-requires-clause-places
check_types-requires-clause-places c =
    let unit = unit_of c.in_ok-unit.unit in
    let read = c.in_ok-unit.ensures in
    c.ascending_places_differ.ensures (declared_places unit) (c.declared_places_ascend.ensures c.args.text.now read.tokens unit read.lexes read.spells)
