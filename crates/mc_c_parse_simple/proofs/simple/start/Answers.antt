use Rattle.std.proofs.Common.{codes}
use Rattle.mc_c_syntax.specs.Ast.Names.{IsMark, IsName}
use Rattle.mc_c_parse_simple.proofs.Phrases.{takes_more}
use Rattle.mc_c_parse_simple.proofs.Tokens.{only_name, only_plus_plus, only_minus_minus}
use Rattle.mc_c_parse_simple.proofs.Simples.{simple_name, simple_increment, simple_decrement, simple_stuck}
use Rattle.mc_c_parse_simple.proofs.simple.start.Goals as goal

pub returns-in_ok-name-in-Name : goal.returns-in_ok-name-in-Name
returns-in_ok-name-in-Name c = λ aliases. let is : IsName c.args.token.now = rw c.in-Name.is at c.requires in rw c.in_ok-name-in-Name.ensures (takes_more (simple_name aliases is))

pub returns-in-PlusPlus : goal.returns-in-PlusPlus
returns-in-PlusPlus c = λ aliases. let is : IsMark (codes "++") c.args.token.now = rw c.in-PlusPlus.is at c.requires in takes_more (simple_increment aliases is)

pub returns-in-MinusMinus : goal.returns-in-MinusMinus
returns-in-MinusMinus c = λ aliases. let is : IsMark (codes "--") c.args.token.now = rw c.in-MinusMinus.is at c.requires in takes_more (simple_decrement aliases is)

pub returns-in_default : goal.returns-in_default
returns-in_default c = λ aliases. simple_stuck aliases (λ i. c.in_default.not-Name (only_name _ _ c.requires i)) (λ i. c.in_default.not-PlusPlus (only_plus_plus _ _ c.requires i)) (λ i. c.in_default.not-MinusMinus (only_minus_minus _ _ c.requires i))
