use Rattle.std.proofs.Common.{◌≡◌, rules}
use mir.Syntax.{w64}
use mir.Val.{to_z, of_z}
use Rattle.mc_pure_ops.proofs.canon.gaps.atom_gives.Goals as goal

pub returns-in-Ne : goal.returns-in-Ne
returns-in-Ne c =
    let d : to_z w64 (of_z w64 c.in-Ne.by) ≡ c.in-Ne.by = search rules in
    rw c.in-Ne.is (rw d at c.pair_gives.ensures)

pub pair_gives-requires-clause-first : goal.pair_gives-requires-clause-first
pair_gives-requires-clause-first c = (c.requires.known c.in-Ne.x c.in-Ne.y c.in-Ne.by c.in-Ne.is).0

pub pair_gives-requires-clause-second : goal.pair_gives-requires-clause-second
pair_gives-requires-clause-second c = (c.requires.known c.in-Ne.x c.in-Ne.y c.in-Ne.by c.in-Ne.is).1
