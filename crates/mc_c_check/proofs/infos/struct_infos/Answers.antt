use Rattle.std.proofs.Common.{ap, map, ◌∙◌}
use Rattle.mc_c_types.specs.Held.{tables_held}
use Rattle.mc_c_check.specs.Collected.{structs_held}
use Rattle.mc_c_check.specs.Infos.{struct_info}
use Rattle.mc_c_check.proofs.infos.struct_infos.Goals as goal

pub returns : goal.returns
returns c =
    c.in_ok-structs.ensures
    ∙ ap (λ structs. map (struct_info (tables_held c.in_ok-tables.tables)) (structs_held structs)) c.as_slice.ensures
    ∙ ap (λ tables. map (struct_info tables) tables.structs) c.in_ok-tables.ensures
