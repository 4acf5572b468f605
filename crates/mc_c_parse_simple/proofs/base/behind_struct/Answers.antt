use Rattle.mc_c_syntax.specs.Ast.Names.{IsName, name_of}
use Rattle.mc_c_syntax.specs.declared.ast.trees.Base.TheVariants as Base
use Rattle.mc_c_parse_simple.proofs.Phrases.{next_closes, next_stuck}
use Rattle.mc_c_parse_simple.proofs.Tokens.{only_name}
use Rattle.mc_c_parse_simple.proofs.base.behind_struct.Goals as goal

pub returns-in_ok-name-in-Name : goal.returns-in_ok-name-in-Name
returns-in_ok-name-in-Name c =
    λ aliases. let is : IsName c.args.token.now = rw c.in-Name.is at c.requires in rw c.in_ok-name-in-Name.ensures (next_closes (λ t. Base.Struct c.args.place (name_of t)) is)

pub returns-in_default : goal.returns-in_default
returns-in_default c = λ aliases. next_stuck (λ is. c.in_default.not-Name (only_name _ _ c.requires is))
