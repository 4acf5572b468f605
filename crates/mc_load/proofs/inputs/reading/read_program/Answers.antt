use Rattle.std.proofs.Common.{rules, ◌≡◌, ℕ, List, subst}
use Rattle.mc_load.specs.Read.Refusals.{IsFault}
use Rattle.mc_c_types.specs.Typing.{IsWellTyped}
use Rattle.mc_c_syntax.specs.Ast.Views.{unit_of}
use Rattle.mc_load.proofs.InputsLemmas.Picking.{refused_of}
use Rattle.mc_load.proofs.inputs.reading.read_program.Goals as goal

pub returns-in-Ok-clause-well_formed : goal.returns-in-Ok-clause-well_formed
returns-in-Ok-clause-well_formed c =
    let program = c.in-Ok.ensures.read in
    let same : c.as_bytes.result.now ≡ c.args.start.now = search rules in
    record { typed = subst (λ (s : List ℕ). IsWellTyped (unit_of c.in-Ok.typed.unit) s) same program.typed; text = c.args.bytes.now; read = program.read }

pub returns-in-Err-Refused-clause-read : goal.returns-in-Err-Refused-clause-read
returns-in-Err-Refused-clause-read c =
    let same : c.as_bytes.result.now ≡ c.args.start.now = search rules in
    (c.requires, refused_of c.args.bytes.now c.args.start.now c.in-Err-Refused.field-0 c.in-Err-Refused.fault c.in-Err-Refused.field-0-is (subst (λ (s : List ℕ). IsFault c.args.bytes.now s c.in-Err-Refused.field-0) same c.in-Err-Refused.ensures.read))
