use Rattle.mc_def_parse.proofs.front.HeadReader.step.Goals as goal

pub returns-in-This : goal.returns-in-This
returns-in-This c = rw c.in-This.is c.before_this.ensures

pub returns-in-Parameters : goal.returns-in-Parameters
returns-in-Parameters c = rw c.in-Parameters.is c.behind_parameter.ensures

pub returns-in-Kind : goal.returns-in-Kind
returns-in-Kind c = rw c.in-Kind.is c.before_kind.ensures

pub returns-in-Brace : goal.returns-in-Brace
returns-in-Brace c = rw c.in-Brace.is c.before_brace.ensures
