use Rattle.std.proofs.Common.{ap, ◌∙◌, reverse}
use Rattle.std.specs.Prelude.{find, option_map}
use Rattle.mc_c_syntax.specs.Ast.Names.{is_same}
use Rattle.mc_c_types.specs.Held.{variable_held}
use Rattle.mc_c_walk.proofs.Parted.{found_held}
use Rattle.mc_c_walk.proofs.variables.Variables.find.Goals as goal

pub returns : goal.returns
returns c =
    ap (option_map variable_held) c.find.ensures
    ∙ found_held c.args.name.now (reverse c.all.result.now)
    ∙ ap (find (λ v. is_same v.name c.args.name.now)) c.all.ensures
