use Rattle.std.proofs.Common.{codes, ◌∙◌}
use Rattle.mc_c_syntax.specs.Ast.Names.{IsName, IsWord, IsAlias}
use Rattle.mc_c_parse_simple.proofs.Tokens.{only_name, only_int, only_struct}
use Rattle.mc_c_parse_simple.proofs.Bases.{base_int, base_struct, base_alias, base_stuck}
use Rattle.mc_c_parse_simple.proofs.base.start.Goals as goal

pub returns-in-Int : goal.returns-in-Int
returns-in-Int c = λ aliases e. let is : IsWord (codes "int") c.args.token.now = rw c.in-Int.is at c.requires in base_int aliases is

pub returns-in-Struct : goal.returns-in-Struct
returns-in-Struct c = λ aliases e. let is : IsWord (codes "struct") c.args.token.now = rw c.in-Struct.is at c.requires in base_struct aliases is

pub returns-in_ok-name-in-Name : goal.returns-in_ok-name-in-Name
returns-in_ok-name-in-Name c = λ aliases e. let is : IsName c.args.token.now = rw c.in-Name.is at c.requires in let a : IsAlias aliases c.args.token.now = record { name = is; known = e ∙ c.if-alias.true } in rw c.in_ok-name-in-Name.ensures (base_alias aliases a)

pub returns-in_default : goal.returns-in_default
returns-in_default c = λ aliases e. base_stuck aliases (λ i. c.in_default.not-Int (only_int _ _ c.requires i)) (λ i. c.in_default.not-Struct (only_struct _ _ c.requires i)) (λ a. c.in_default.not-Name (only_name _ _ c.requires a.name))
