use Rattle.std.proofs.Common.{◌≤◌, drop, length, sym, ◌∙◌, arith}
use Rattle.mc_find_view.proofs.GuessLemmas.Given.{give_all_past}
use Rattle.mc_find_view.proofs.guess.names.take_guess.Goals as goal

pub returns-then-place-guess : goal.returns-then-place-guess
returns-then-place-guess c =
    let past : length c.args.guess.now ≤ c.loop-place.place = omega arith in
    sym (c.loop-place.invariant ∙ give_all_past c.loop-place.names.items (drop c.loop-place.place c.args.args.now) c.args.guess.now c.loop-place.place past)
