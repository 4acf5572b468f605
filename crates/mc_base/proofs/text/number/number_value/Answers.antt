use Rattle.std.proofs.Common.{◌≡◌, get_or, arith}
use Rattle.std.proofs.lemmas.List.{take_rest}
use Rattle.mc_base.proofs.TextLemmas.Spellings.{hex_answered}
use Rattle.mc_base.proofs.text.number.number_value.Goals as goal

pub returns-in-48-2 : goal.returns-in-48-2
returns-in-48-2 c =
    let word = c.args.word.now in
    hex_answered word _ _ c.in-48-2.len_at_least (let e : get_or word 0 0 ≡ 48 = omega arith in e) (let e : get_or word 1 0 ≡ 120 = omega arith in e) (take_rest word 2) c.numeral_value.ensures
