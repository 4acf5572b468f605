use Rattle.mc_load.proofs.read.laws.programs_have_distinct_places.Goals as goal

pub returns : goal.returns
returns c = λ text unit read. c.declared_places_ascend.ensures text read.tokens unit read.lexes read.spells
