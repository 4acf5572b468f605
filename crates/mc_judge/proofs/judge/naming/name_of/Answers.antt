use Rattle.std.proofs.Common.{refl}
use Rattle.mc_judge.proofs.JudgeLemmas.Entries.{named}
use Rattle.mc_judge.proofs.judge.naming.name_of.Goals as goal

pub returns-in-Header : goal.returns-in-Header
returns-in-Header c = named c.args.line.now _ (rw c.in-Header.is refl)

pub returns-in-Cut : goal.returns-in-Cut
returns-in-Cut c = named c.args.line.now _ (rw c.in-Cut.is refl)

pub returns-in-Head : goal.returns-in-Head
returns-in-Head c = named c.args.line.now _ (rw c.in-Head.is refl)

pub returns-in-L1 : goal.returns-in-L1
returns-in-L1 c = named c.args.line.now _ (rw c.in-L1.is refl)

pub returns-in-L2 : goal.returns-in-L2
returns-in-L2 c = named c.args.line.now _ (rw c.in-L2.is refl)

pub returns-in-L3 : goal.returns-in-L3
returns-in-L3 c = named c.args.line.now _ (rw c.in-L3.is refl)

pub returns-in-L4 : goal.returns-in-L4
returns-in-L4 c = named c.args.line.now _ (rw c.in-L4.is refl)

pub returns-in-L5 : goal.returns-in-L5
returns-in-L5 c = named c.args.line.now _ (rw c.in-L5.is refl)

pub returns-in-L6 : goal.returns-in-L6
returns-in-L6 c = named c.args.line.now _ (rw c.in-L6.is refl)

pub returns-in-L7 : goal.returns-in-L7
returns-in-L7 c = named c.args.line.now _ (rw c.in-L7.is refl)

pub returns-in-L8 : goal.returns-in-L8
returns-in-L8 c = named c.args.line.now _ (rw c.in-L8.is refl)

pub returns-in-L9 : goal.returns-in-L9
returns-in-L9 c = named c.args.line.now _ (rw c.in-L9.is refl)

pub returns-in-L10 : goal.returns-in-L10
returns-in-L10 c = named c.args.line.now _ (rw c.in-L10.is refl)

pub returns-in-L11 : goal.returns-in-L11
returns-in-L11 c = named c.args.line.now _ (rw c.in-L11.is refl)

pub returns-in-L13 : goal.returns-in-L13
returns-in-L13 c = named c.args.line.now _ (rw c.in-L13.is refl)

pub returns-in-L14 : goal.returns-in-L14
returns-in-L14 c = named c.args.line.now _ (rw c.in-L14.is refl)

pub returns-in-L15 : goal.returns-in-L15
returns-in-L15 c = named c.args.line.now _ (rw c.in-L15.is refl)

pub returns-in-C2 : goal.returns-in-C2
returns-in-C2 c = named c.args.line.now _ (rw c.in-C2.is refl)

pub returns-in-C3 : goal.returns-in-C3
returns-in-C3 c = named c.args.line.now _ (rw c.in-C3.is refl)
