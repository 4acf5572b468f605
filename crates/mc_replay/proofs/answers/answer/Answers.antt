use Rattle.std.proofs.Common.{◌≡◌, Some, None, refl, sym, ◌∙◌}
use Rattle.mc_joins.specs.Joinings.{Pair}
use Rattle.mc_replay.proofs.answers.answer.Goals as goal

no_pair : {p : Pair} → Some p ≡ None → ⊥
no_pair e = cc

pub joined_state-requires-clause-done : goal.joined_state-requires-clause-done
joined_state-requires-clause-done c = sym c.in-None.ensures

pub returns-in-None : goal.returns-in-None
returns-in-None c = λ w d t. (sym c.in-None.ensures, c.in_ok-state-in-None.ensures.gives, c.in_ok-state-in-None.ensures.atoms)

pub returns : goal.returns
returns c = λ w d t. ((λ none. no_pair (c.in-Some.ensures ∙ none)), refl, c.in_ok-stuck.ensures w d t)
