use Rattle.std.proofs.Common.{List, subst}
use Rattle.std.specs.Prelude.{Ok, Err}
use Rattle.mc_flow.specs.declared.defs.shapes.StructInfo.{StructInfo}
use Rattle.mc_flow.specs.Defs.Conditions.{DefsFit}
use Rattle.mc_def_read.specs.Readings.{ReadsAs}
use Rattle.mc_load.proofs.InputsLemmas.Picking.{undefined_of}
use Rattle.mc_load.proofs.inputs.reading.read_definitions.Goals as goal

pub returns-in-Ok-clause-read : goal.returns-in-Ok-clause-read
returns-in-Ok-clause-read c =
    (c.requires, subst (λ (infos : List StructInfo). ReadsAs c.args.bytes.now infos (Ok c.in-Ok.defs)) c.structs.ensures.infos c.in-Ok.ensures.read)

pub returns-in-Ok-clause-fit : goal.returns-in-Ok-clause-fit
returns-in-Ok-clause-fit c = subst (λ (infos : List StructInfo). DefsFit infos c.in-Ok.defs) c.structs.ensures.infos c.in-Ok.ensures.fit

pub returns-in-Err-Refused-clause-read : goal.returns-in-Err-Refused-clause-read
returns-in-Err-Refused-clause-read c =
    let read = undefined_of c.args.bytes.now c.structs.result.now.list c.in-Err-Refused.field-0 c.in-Err-Refused.fault c.in-Err-Refused.field-0-is c.in-Err-Refused.ensures.read in
    (c.requires, subst (λ (infos : List StructInfo). ReadsAs c.args.bytes.now infos (Err c.in-Err-Refused.fault)) c.structs.ensures.infos read)
