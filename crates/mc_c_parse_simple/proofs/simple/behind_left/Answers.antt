use Rattle.std.proofs.Common.{codes}
use Rattle.mc_c_syntax.specs.Ast.Names.{IsMark}
use Rattle.mc_c_parse_simple.proofs.Phrases.{takes_more, takes_to, then_same}
use Rattle.mc_c_parse_simple.proofs.Tokens.{only_arrow, only_assign, only_plus_assign, only_minus_assign, only_plus_plus, only_minus_minus}
use Rattle.mc_c_parse_simple.proofs.Simples.{left_arrow, left_assign, left_add, left_subtract, left_increment, left_decrement, left_stuck}
use Rattle.mc_c_parse_simple.proofs.simple.behind_left.Goals as goal

pub returns-in-Arrow : goal.returns-in-Arrow
returns-in-Arrow c = λ aliases. let is : IsMark (codes "->") c.args.token.now = rw c.in-Arrow.is at c.requires in takes_more (left_arrow aliases _ is)

pub returns-in-Assign : goal.returns-in-Assign
returns-in-Assign c = λ aliases. let is : IsMark (codes "=") c.args.token.now = rw c.in-Assign.is at c.requires in takes_more (takes_to (left_assign aliases _ is) (then_same (c.new-reader.ensures aliases)))

pub returns-in_ok-reader-in-PlusAssign : goal.returns-in_ok-reader-in-PlusAssign
returns-in_ok-reader-in-PlusAssign c = λ aliases. let is : IsMark (codes "+=") c.args.token.now = rw c.in-PlusAssign.is at c.requires in takes_more (takes_to (left_add aliases _ is) (then_same c.in_ok-reader-in-PlusAssign.ensures))

pub returns-in_ok-reader-in-MinusAssign : goal.returns-in_ok-reader-in-MinusAssign
returns-in_ok-reader-in-MinusAssign c = λ aliases. let is : IsMark (codes "-=") c.args.token.now = rw c.in-MinusAssign.is at c.requires in takes_more (takes_to (left_subtract aliases _ is) (then_same c.in_ok-reader-in-MinusAssign.ensures))

pub returns-in-PlusPlus : goal.returns-in-PlusPlus
returns-in-PlusPlus c = λ aliases. let is : IsMark (codes "++") c.args.token.now = rw c.in-PlusPlus.is at c.requires in takes_more (left_increment aliases _ is)

pub returns-in-MinusMinus : goal.returns-in-MinusMinus
returns-in-MinusMinus c = λ aliases. let is : IsMark (codes "--") c.args.token.now = rw c.in-MinusMinus.is at c.requires in takes_more (left_decrement aliases _ is)

pub returns-in_default : goal.returns-in_default
returns-in_default c = λ aliases. left_stuck aliases _ (λ i. c.in_default.not-Arrow (only_arrow _ _ c.requires i)) (λ i. c.in_default.not-Assign (only_assign _ _ c.requires i)) (λ i. c.in_default.not-PlusAssign (only_plus_assign _ _ c.requires i)) (λ i. c.in_default.not-MinusAssign (only_minus_assign _ _ c.requires i)) (λ i. c.in_default.not-PlusPlus (only_plus_plus _ _ c.requires i)) (λ i. c.in_default.not-MinusMinus (only_minus_minus _ _ c.requires i))
