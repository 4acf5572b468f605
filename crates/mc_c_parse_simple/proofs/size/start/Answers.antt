use Rattle.std.proofs.Common.{codes}
use Rattle.mc_c_syntax.specs.Ast.Names.{IsWord}
use Rattle.mc_c_parse_simple.proofs.Tokens.{only_sizeof}
use Rattle.mc_c_parse_simple.proofs.Sizes.{size_starts, size_stuck}
use Rattle.mc_c_parse_simple.proofs.size.start.Goals as goal

pub returns-in-Sizeof : goal.returns-in-Sizeof
returns-in-Sizeof c = λ aliases. let is : IsWord (codes "sizeof") c.args.token.now = rw c.in-Sizeof.is at c.requires in size_starts aliases is

pub returns-in_default : goal.returns-in_default
returns-in_default c = λ aliases. size_stuck aliases (λ i. c.in_default.not-Sizeof (only_sizeof _ _ c.requires i))
