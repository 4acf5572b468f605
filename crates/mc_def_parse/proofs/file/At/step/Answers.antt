use Rattle.mc_def_parse.proofs.file.At.step.Goals as goal

pub returns-in-Outside : goal.returns-in-Outside
returns-in-Outside c = rw c.in-Outside.is c.outside.ensures

pub returns-in-Head : goal.returns-in-Head
returns-in-Head c = rw c.in-Head.is c.within_head.ensures

pub returns-in-Rules : goal.returns-in-Rules
returns-in-Rules c = rw c.in-Rules.is c.behind_rule.ensures

pub returns-in-Brace : goal.returns-in-Brace
returns-in-Brace c = rw c.in-Brace.is c.before_brace.ensures

pub returns-in-Start : goal.returns-in-Start
returns-in-Start c = rw c.in-Start.is c.at_start.ensures

pub returns-in-This : goal.returns-in-This
returns-in-This c = rw c.in-This.is c.behind_this.ensures

pub returns-in-Block : goal.returns-in-Block
returns-in-Block c = rw c.in-Block.is c.within_block.ensures

pub returns-in-Items : goal.returns-in-Items
returns-in-Items c = rw c.in-Items.is c.behind_item.ensures

pub returns-in-Item : goal.returns-in-Item
returns-in-Item c = rw c.in-Item.is c.within_item.ensures
