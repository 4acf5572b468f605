use Rattle.std.proofs.Common.{◌≡◌, ◌∙◌, List, ap}
use Rattle.std.specs.Prelude.{position}
use Rattle.mc_c_syntax.specs.Ast.Names.{is_same}
use Rattle.mc_flow.specs.declared.defs.shapes.StructInfo.{StructInfo}
use Rattle.mc_run_values.proofs.ScriptLemmas.Blocks.{position_mapped}
use Rattle.mc_run_values.proofs.script.shapes.NamedStructs.number.Goals as goal

pub returns : goal.returns
returns c =
    c.place.ensures ∙ ap (position (λ n. is_same n c.args.name.now)) c.self.invariant
    ∙ position_mapped (λ (info : StructInfo). info.name) (λ n. is_same n c.args.name.now) c.self.inside.structs.now
    ∙ ap (λ (infos : List StructInfo). position (λ info. is_same info.name c.args.name.now) infos) c.self.view_is
