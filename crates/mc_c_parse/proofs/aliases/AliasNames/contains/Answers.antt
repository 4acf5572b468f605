use Rattle.std.proofs.Common.{◌∙◌, ap}
use Rattle.mc_c_syntax.specs.Ast.Names.{is_in}
use Rattle.mc_c_parse.proofs.AliasLemmas.{found}
use Rattle.mc_c_parse.proofs.aliases.AliasNames.contains.Goals as goal

pub returns : goal.returns
returns c = c.contains.ensures ∙ (found c.args.name.now c.self.inside.names.keys ∙ ap (λ names. is_in names c.args.name.now) c.self.view_is)
