use Rattle.mc_def_read.proofs.Numbering.{number_blank, number_front, number_behind, number_none}
use Rattle.std.proofs.Common.{◌∙◌, ◌++◌, sym}
use Rattle.mc_def_read.proofs.kept.Scope.place.Goals as goal

pub returns-then-is_blank : goal.returns-then-is_blank
returns-then-is_blank c = sym (number_blank (c.args.self.now.front.now ++ c.args.self.now.own) c.args.name.now (sym c.is_blank.ensures ∙ c.if-is_blank.true))

pub returns-in-Some : goal.returns-in-Some
returns-in-Some c = sym (number_front c.args.self.now.front.now c.args.self.now.own c.args.name.now _ (sym c.is_blank.ensures ∙ c.if-is_blank.false) (sym c.place.ensures ∙ c.in-Some.is))

pub returns-in-Some-place : goal.returns-in-Some-place
returns-in-Some-place c = rw c.len.ensures (sym (number_behind c.args.self.now.front.now c.args.self.now.own c.args.name.now _ (sym c.is_blank.ensures ∙ c.if-is_blank.false) (sym c.place.ensures ∙ c.in-None.is) (sym c.place-in-None.ensures ∙ c.in-Some-place.is)))

pub returns-in-None-place : goal.returns-in-None-place
returns-in-None-place c = sym (number_none c.args.self.now.front.now c.args.self.now.own c.args.name.now (sym c.is_blank.ensures ∙ c.if-is_blank.false) (sym c.place.ensures ∙ c.in-None.is) (sym c.place-in-None.ensures ∙ c.in-None-place.is))
