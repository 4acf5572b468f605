use Rattle.std.proofs.Common.{◌≡◌, ℕ, suc, List, length, ap, ◌∙◌, arith}
use Rattle.mc_flow.specs.declared.defs.rules.Def.{Def}
use Rattle.mc_cover.specs.Guessed.{guess_at}
use Rattle.mc_cover.specs.Search.Setting.{free_edges}
use Rattle.mc_find_view.proofs.guess.guesses.guess.Goals as goal

pub returns : goal.returns
returns c = λ know t.
    let es = free_edges c.args.state.now c.args.used.now in
    let count = c.depth.ensures in
    let n : c.in-Some.left ≡ suc (length (free_edges c.args.state.now c.args.used.now)) = omega (arith, c.in-Some.ensures) in
    c.in_ok-terms.ensures know t
    ∙ (ap (λ (d : List Def). guess_at know d c.args.stop.now c.in-Some.left c.args.pred c.args.at es) c.as_slice.ensures.same
    ∙ ap (λ (z : ℕ). guess_at know c.args.defs.now c.args.stop.now z c.args.pred c.args.at es) n)
