use Rattle.std.proofs.Common.{◌≡◌, ◌++◌, map, take}
use Rattle.mc_cover.specs.declared.goals.Mark.TheVariants.{ByInd}
use Rattle.mc_cover.proofs.search.listing.push_inds.Given as goal

abbrev pub invariant-loop-id : goal.invariant-loop-id
invariant-loop-id l = l.all.items ≡ l.fn.all.items ++ map ByInd (take l.id-index l.ids)
