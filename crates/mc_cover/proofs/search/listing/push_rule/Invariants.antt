use Rattle.std.proofs.Common.{◌≡◌, ◌++◌, Some, map, take}
use Rattle.std.specs.List.{flat_map}
use Rattle.mc_cover.specs.Marks.{marks_with}
use Rattle.mc_cover.proofs.search.listing.push_rule.Given as goal

abbrev pub invariant-loop-id : goal.invariant-loop-id
invariant-loop-id l = l.all.items ≡ l.fn.all.items ++ flat_map (marks_with l.place l.rule) (map Some (take l.id-index l.ids))
