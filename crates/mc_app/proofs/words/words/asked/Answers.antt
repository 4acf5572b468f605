use Rattle.std.proofs.Common.{rules, string_bytes, codes}
use Rattle.mc_app.proofs.WordsLemmas.Asking.{first_word}
use Rattle.mc_app.proofs.words.words.asked.Goals as goal

pub asked_check-requires : goal.asked_check-requires
asked_check-requires c = first_word string_bytes c.args.words.now c.name-item.result (codes "check") c.in-len1-up.len_at_least c.name-item.is (search rules)

pub asked_analyse-requires : goal.asked_analyse-requires
asked_analyse-requires c = first_word string_bytes c.args.words.now c.name-item.result (codes "analyse") c.in-len1-up.len_at_least c.name-item.is (search rules)

pub asked_demo-requires : goal.asked_demo-requires
asked_demo-requires c = first_word string_bytes c.args.words.now c.name-item.result (codes "demo") c.in-len1-up.len_at_least c.name-item.is (search rules)

pub asked_run-requires : goal.asked_run-requires
asked_run-requires c = first_word string_bytes c.args.words.now c.name-item.result (codes "run") c.in-len1-up.len_at_least c.name-item.is (search rules)
