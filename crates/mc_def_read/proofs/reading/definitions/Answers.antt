use Rattle.std.proofs.Common.{◌≡◌, List, subst}
use Rattle.std.specs.Prelude.{Ok}
use Rattle.mc_flow.specs.declared.defs.shapes.StructInfo.{StructInfo}
use Rattle.mc_def_read.specs.Judging.{judged}
use Rattle.mc_def_read.proofs.reading.definitions.Goals as goal

pub fitting-requires : goal.fitting-requires
fitting-requires c =
    let said = subst (λ (infos : List StructInfo). judged infos c.args.file.now ≡ Ok c.in_ok-list.list) c.as_slice.ensures c.in_ok-list.ensures in
    c.files_fit.ensures c.args.structs.now.list c.args.file.now c.requires.0 c.in_ok-list.list c.requires.1 said
