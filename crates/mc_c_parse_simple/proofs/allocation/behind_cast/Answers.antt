use Rattle.std.proofs.Common.{codes}
use Rattle.mc_c_syntax.specs.Ast.Names.{IsWord}
use Rattle.mc_c_parse_simple.proofs.Phrases.{next_takes, next_stuck}
use Rattle.mc_c_parse_simple.proofs.Tokens.{only_malloc}
use Rattle.mc_c_parse_simple.proofs.allocation.behind_cast.Goals as goal

pub returns-in-Malloc : goal.returns-in-Malloc
returns-in-Malloc c = λ aliases. let is : IsWord (codes "malloc") c.args.token.now = rw c.in-Malloc.is at c.requires in next_takes is

pub returns-in_default : goal.returns-in_default
returns-in_default c = λ aliases. next_stuck (λ i. c.in_default.not-Malloc (only_malloc _ _ c.requires i))
