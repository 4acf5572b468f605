use Rattle.std.proofs.Common.{◌≤◌, length}
use Rattle.mc_find_view.proofs.GuessLemmas.Firsts.{count_end}
use Rattle.mc_find_view.proofs.guess.guesses.depth.Goals as goal

pub returns : goal.returns
returns c =
    let g = c.args.state.now.graph in
    let l : length g.edges ≤ c.loop-entry.entry-index = rw c.edges-entry-items.ensures at c.loop-entry-test.false in
    count_end c.args.used.now g.edges g.next c.loop-entry.entry-index c.loop-entry.count c.is_bounded.ensures.bounded.ids l c.loop-entry.invariant.1
