use Rattle.std.proofs.Common.{◌∙◌, sym}
use Rattle.mc_def_parse.specs.Files.{ItemsEnd, ItemEnds}
use Rattle.mc_def_parse.specs.declared.item.ItemReader.TheVariants as ItemReader
use Rattle.mc_def_parse.specs.Readers.{CompletesItem}
use Rattle.mc_def_parse.specs.Steps.{Then}
use Rattle.mc_def_parse.proofs.FileLemmas.{items_close, items_item, same_result}
use Rattle.mc_def_parse.proofs.file.FileReader.behind_item.Goals as goal

pub returns-in_ok-end_rule-in-CloseBrace : goal.returns-in_ok-end_rule-in-CloseBrace
returns-in_ok-end_rule-in-CloseBrace c = rw (c.in_ok-end_rule-in-CloseBrace.ensures.at, c.in_ok-end_rule-in-CloseBrace.ensures.done, c.in_ok-end_rule-in-CloseBrace.ensures.head, c.in_ok-end_rule-in-CloseBrace.ensures.rules) (items_close _ _ _ _ _ (sym c.requires ∙ c.in-CloseBrace.is))

pub returns-in_default : goal.returns-in_default
returns-in_default c = same_result (ItemsEnd c.args.self.now.done c.args.self.now.head c.args.self.now.rules c.args.self.now.block c.args.self.now.items) (Then (CompletesItem ItemReader.Start) (ItemEnds c.args.self.now.done c.args.self.now.head c.args.self.now.rules c.args.self.now.block c.args.self.now.items)) _ c.args.token.now (items_item _ _ _ _ _ c.args.token.now (λ e. c.in_default.not-CloseBrace (c.requires ∙ e))) c.within_item.result c.within_item.ensures
