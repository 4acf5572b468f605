use Rattle.std.proofs.Common.{codes, inl, inr, refl}
use Rattle.mc_c_syntax.specs.Ast.Names.{IsWord}
use Rattle.mc_c_parse_simple.proofs.Phrases.{then_same, same_at, turned}
use Rattle.mc_c_parse_simple.proofs.Tokens.{only_name, only_int, only_struct}
use Rattle.mc_c_parse_simple.proofs.Rights.{right_step_along, opened_word, opened_other}
use Rattle.mc_c_parse_simple.proofs.right.opened.Goals as goal

pub returns-in_ok-step-in-Int : goal.returns-in_ok-step-in-Int
returns-in_ok-step-in-Int c = λ aliases e. let is : IsWord (codes "int") c.args.token.now = rw c.in-Int.is at c.requires in right_step_along aliases _ (opened_word aliases _ is (inl refl)) (c.in_ok-step-in-Int.ensures aliases e)

pub returns-in_ok-step-in-Struct : goal.returns-in_ok-step-in-Struct
returns-in_ok-step-in-Struct c = λ aliases e. let is : IsWord (codes "struct") c.args.token.now = rw c.in-Struct.is at c.requires in right_step_along aliases _ (opened_word aliases _ is (inr (inl refl))) (c.in_ok-step-in-Struct.ensures aliases e)

pub returns-in_ok-step-in_default : goal.returns-in_ok-step-in_default
returns-in_ok-step-in_default c = λ aliases e. right_step_along aliases _ (opened_other aliases _ (λ i. c.in_default.not-Int (only_int _ _ c.requires i)) (λ i. c.in_default.not-Struct (only_struct _ _ c.requires i)) (λ a. c.in_default.not-Name (only_name _ _ c.requires a.name))) (right_step_along aliases _ (same_at _ (then_same (then_same (turned c.in_ok-reader-in_default.ensures)))) (c.in_ok-step-in_default.ensures aliases))
