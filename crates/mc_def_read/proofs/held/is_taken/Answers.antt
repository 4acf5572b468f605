use Rattle.mc_def_read.proofs.Numbering.{number_front, number_behind, number_none}
use Rattle.std.proofs.Common.{◌∙◌, sym, ap}
use Rattle.std.specs.Prelude.{is_some}
use Rattle.mc_def_read.proofs.held.is_taken.Goals as goal

pub returns-in-Some : goal.returns-in-Some
returns-in-Some c = ap is_some (sym (number_front c.args.front.now c.args.own.now c.args.name.now _ (sym c.is_blank.ensures ∙ c.if-is_blank.false) (sym c.place.ensures ∙ c.in-Some.is)))

pub returns-in-Some-place : goal.returns-in-Some-place
returns-in-Some-place c = ap is_some (sym (number_behind c.args.front.now c.args.own.now c.args.name.now _ (sym c.is_blank.ensures ∙ c.if-is_blank.false) (sym c.place.ensures ∙ c.in-None.is) (sym c.place-in-None.ensures ∙ c.in-Some-place.is)))

pub returns-in-None-place : goal.returns-in-None-place
returns-in-None-place c = ap is_some (sym (number_none c.args.front.now c.args.own.now c.args.name.now (sym c.is_blank.ensures ∙ c.if-is_blank.false) (sym c.place.ensures ∙ c.in-None.is) (sym c.place-in-None.ensures ∙ c.in-None-place.is)))
