use Rattle.mc_check_line.specs.Judging.{path, setting_of}
use Rattle.mc_check_line.proofs.Forms.{at_line}
use Rattle.mc_check_line.proofs.lines.judge.Goals as goal

pub returns-in-Step : goal.returns-in-Step
returns-in-Step c = λ k asked. at_line k c.args.flow.now c.args.defs.now (setting_of c.args.setting) c.args.line.now _ (path c.args.branch) _ c.in-Step.is (c.step.ensures k asked)

pub returns-in-L1 : goal.returns-in-L1
returns-in-L1 c = λ k asked. at_line k c.args.flow.now c.args.defs.now (setting_of c.args.setting) c.args.line.now _ (path c.args.branch) _ c.in-L1.is (c.ind.ensures (k.know c.args.branch.state) asked.given.tells)

pub returns-in-L2 : goal.returns-in-L2
returns-in-L2 c = λ k asked. at_line k c.args.flow.now c.args.defs.now (setting_of c.args.setting) c.args.line.now _ (path c.args.branch) _ c.in-L2.is (c.seg.ensures (k.know c.args.branch.state) asked.given.tells)

pub returns-in-L3 : goal.returns-in-L3
returns-in-L3 c = λ k asked. at_line k c.args.flow.now c.args.defs.now (setting_of c.args.setting) c.args.line.now _ (path c.args.branch) _ c.in-L3.is (c.fold_to_ind.ensures (k.know c.args.branch.state) asked.given.tells)

pub returns-in-L4 : goal.returns-in-L4
returns-in-L4 c = λ k asked. at_line k c.args.flow.now c.args.defs.now (setting_of c.args.setting) c.args.line.now _ (path c.args.branch) _ c.in-L4.is (c.fold_to_seg.ensures (k.know c.args.branch.state) asked.given.tells)

pub returns-in-L5 : goal.returns-in-L5
returns-in-L5 c = λ k asked. at_line k c.args.flow.now c.args.defs.now (setting_of c.args.setting) c.args.line.now _ (path c.args.branch) _ c.in-L5.is (c.close.ensures (k.know c.args.branch.state) asked.given.tells)

pub returns-in-L6 : goal.returns-in-L6
returns-in-L6 c = λ k asked. at_line k c.args.flow.now c.args.defs.now (setting_of c.args.setting) c.args.line.now _ (path c.args.branch) _ c.in-L6.is (c.join.ensures (k.know c.args.branch.state) asked.given.tells)

pub returns-in-L7 : goal.returns-in-L7
returns-in-L7 c = λ k asked. at_line k c.args.flow.now c.args.defs.now (setting_of c.args.setting) c.args.line.now _ (path c.args.branch) _ c.in-L7.is (c.make.ensures (k.know c.args.branch.state) asked.given.tells)

pub returns-in-L8 : goal.returns-in-L8
returns-in-L8 c = λ k asked. at_line k c.args.flow.now c.args.defs.now (setting_of c.args.setting) c.args.line.now _ (path c.args.branch) _ c.in-L8.is (c.name_node.ensures (k.know c.args.branch.state) asked.given.tells)

pub returns-in-L9 : goal.returns-in-L9
returns-in-L9 c = λ k asked. at_line k c.args.flow.now c.args.defs.now (setting_of c.args.setting) c.args.line.now _ (path c.args.branch) _ c.in-L9.is (c.merge.ensures (k.know c.args.branch.state) asked.given.tells)

pub returns-in-L10 : goal.returns-in-L10
returns-in-L10 c = λ k asked. at_line k c.args.flow.now c.args.defs.now (setting_of c.args.setting) c.args.line.now _ (path c.args.branch) _ c.in-L10.is (c.drop.ensures (k.know c.args.branch.state) asked.given.tells)

pub returns-in-L11 : goal.returns-in-L11
returns-in-L11 c = λ k asked. at_line k c.args.flow.now c.args.defs.now (setting_of c.args.setting) c.args.line.now _ (path c.args.branch) _ c.in-L11.is (c.forget.ensures (k.know c.args.branch.state) (k.left c.args.branch.state c.in-L11.node) asked.given.tells (asked.left c.in-L11.node))

pub returns-in-L12 : goal.returns-in-L12
returns-in-L12 c = λ k asked. at_line k c.args.flow.now c.args.defs.now (setting_of c.args.setting) c.args.line.now _ (path c.args.branch) _ c.in-L12.is (c.end_false.ensures (k.know c.args.branch.state) asked.given.tells)

pub returns-in-L13 : goal.returns-in-L13
returns-in-L13 c = λ k asked. at_line k c.args.flow.now c.args.defs.now (setting_of c.args.setting) c.args.line.now _ (path c.args.branch) _ c.in-L13.is (c.jump_to.ensures (k.know c.args.branch.state) asked.given.tells)

pub returns-in-L14 : goal.returns-in-L14
returns-in-L14 c = λ k asked. at_line k c.args.flow.now c.args.defs.now (setting_of c.args.setting) c.args.line.now _ (path c.args.branch) _ c.in-L14.is (c.end_side.ensures (k.know c.args.branch.state) asked.given.tells)

pub returns-in-L15 : goal.returns-in-L15
returns-in-L15 c = λ k asked. at_line k c.args.flow.now c.args.defs.now (setting_of c.args.setting) c.args.line.now _ (path c.args.branch) _ c.in-L15.is (c.back.ensures (k.know c.args.branch.state) asked.given.tells)

pub returns-in-C1 : goal.returns-in-C1
returns-in-C1 c = λ k asked. at_line k c.args.flow.now c.args.defs.now (setting_of c.args.setting) c.args.line.now _ (path c.args.branch) _ c.in-C1.is (c.stick.ensures k asked)

pub ind-requires : goal.ind-requires
ind-requires c = record { vars = c.args.flow.now.vars; structs = c.args.flow.now.structs.list; fit = c.requires.valid.definitions; made = c.requires.made }

pub seg-requires : goal.seg-requires
seg-requires c = record { vars = c.args.flow.now.vars; structs = c.args.flow.now.structs.list; fit = c.requires.valid.definitions; made = c.requires.made }

pub back-requires : goal.back-requires
back-requires c = record { vars = c.args.flow.now.vars; structs = c.args.flow.now.structs.list; fit = c.requires.valid.definitions; made = c.requires.made }

pub name_node-requires : goal.name_node-requires
name_node-requires c = (c.args.defs.now, c.args.flow.now.vars, c.args.flow.now.structs.list, c.requires.made)

pub forget-requires : goal.forget-requires
forget-requires c = (c.args.defs.now, c.args.flow.now.vars, c.args.flow.now.structs.list, c.requires.made)
