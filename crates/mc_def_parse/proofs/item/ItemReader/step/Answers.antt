use Rattle.mc_def_parse.proofs.item.ItemReader.step.Goals as goal

pub returns-in-Fixed : goal.returns-in-Fixed
returns-in-Fixed c = rw c.in-Fixed.is c.behind_fixed.ensures

pub returns-in-Arguments : goal.returns-in-Arguments
returns-in-Arguments c = rw c.in-Arguments.is c.behind_argument.ensures

pub returns-in-Negative : goal.returns-in-Negative
returns-in-Negative c = rw c.in-Negative.is c.behind_minus.ensures

pub returns-in-Offset : goal.returns-in-Offset
returns-in-Offset c = rw c.in-Offset.is c.before_offset.ensures

pub returns-in-Bound : goal.returns-in-Bound
returns-in-Bound c = rw c.in-Bound.is c.before_bound.ensures

pub returns-in-NegativeBound : goal.returns-in-NegativeBound
returns-in-NegativeBound c = rw c.in-NegativeBound.is c.behind_bound_minus.ensures

pub returns-in-Whole : goal.returns-in-Whole
returns-in-Whole c = rw c.in-Whole.is c.before_stop.ensures

pub returns-in-Sum : goal.returns-in-Sum
returns-in-Sum c = rw c.in-Sum.is c.before_sum.ensures
