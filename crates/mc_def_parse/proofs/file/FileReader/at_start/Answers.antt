use Rattle.std.proofs.Common.{rules, arith, []}
use Rattle.std.proofs.lemmas.Grind.{common_steps}
use Rattle.std.specs.Prelude.{None}
use Rattle.mc_def_parse.specs.Files.{BodyEnds, ItemsEnd}
use Rattle.mc_def_parse.proofs.FileLemmas.{body_this, body_items, same_result}
use Rattle.mc_def_parse.proofs.file.FileReader.at_start.Goals as goal

pub returns-then-is_word : goal.returns-then-is_word
returns-then-is_word c = body_this _ _ _ (search rules)

pub returns-else-is_word : goal.returns-else-is_word
returns-else-is_word c = same_result (BodyEnds c.args.self.now.done c.args.self.now.head c.args.self.now.rules) (ItemsEnd c.args.self.now.done c.args.self.now.head c.args.self.now.rules None []) _ c.args.token.now (body_items _ _ _ c.args.token.now (λ w. grind (arith, common_steps))) c.behind_item.result (rw c.new.ensures at c.behind_item.ensures)
