use Rattle.std.proofs.Common.{◌≡◌, ap, sym, ◌∙◌, ◌∷◌, reverse}
use Rattle.mc_shape_search.specs.Tries.Stack.{goals_at}
use Rattle.mc_shape_search.proofs.TriesLemmas.Arena.{read_cell}
use Rattle.mc_shape_search.proofs.tries.expand.Goals as goal

pub push_marks-requires-clause-within : goal.push_marks-requires-clause-within
push_marks-requires-clause-within g c = (read_cell _ c.args.cells.now.items c.args.top c.index-cell.result.now c.requires.arena c.requires.some c.requires.within c.index-cell.ensures).1

pub returns-clause-tried : goal.returns-clause-tried
returns-clause-tried g c =
    let r = read_cell _ c.args.cells.now.items c.args.top c.index-cell.result.now c.requires.arena c.requires.some c.requires.within c.index-cell.ensures in
    let gs : c.in_ok-goal.goal ∷ goals_at (reverse c.args.cells.now.items) c.index-cell.result.now.next ≡ goals_at (reverse c.args.cells.now.items) c.args.top = ap (λ x. x ∷ goals_at (reverse c.args.cells.now.items) c.index-cell.result.now.next) c.in_ok-goal.ensures ∙ sym r.0 in
    rw gs at c.push_marks.ensures.tried
