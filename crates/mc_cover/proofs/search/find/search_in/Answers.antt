use Rattle.mc_cover.proofs.search.find.search_in.Goals as goal

pub invariant_of-result : goal.invariant_of-result
invariant_of-result c = record { told = (c.is_told.ensures.0, ∣ c.is_told.ensures.1 ∣₁); sound = c.requires.sound }
