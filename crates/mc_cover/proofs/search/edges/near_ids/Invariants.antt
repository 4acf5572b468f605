use Rattle.std.proofs.Common.{◌≡◌, take}
use Rattle.std.specs.List.{filter}
use Rattle.mc_state.specs.Known.{Test, Tells}
use Rattle.mc_cover.specs.Marks.{ids_of}
use Rattle.mc_cover.specs.Near.{near}
use Rattle.mc_cover.specs.Search.Setting.{is_unused}
use Rattle.mc_cover.proofs.search.edges.near_ids.Given as goal

abbrev pub invariant-loop-e : goal.invariant-loop-e
invariant-loop-e l =
    (know : Test) → Tells know l.state → l.ids.items ≡ ids_of (near know l.at (filter (is_unused l.used) (take l.e-index l.state.graph.edges)))
