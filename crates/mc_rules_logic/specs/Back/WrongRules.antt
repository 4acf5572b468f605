-- A rule that looks like the one that unfolds a segment from its end, and is not sound.
use Rattle.std.specs.Prelude.{◌∷◌}
use Rattle.mc_state.specs.State.{State}
use Rattle.mc_rules_logic.specs.Unfold.WrongRules.{EdgeRule}
use Rattle.mc_rules_logic.specs.Back.Unfolded.{UnfoldsBack}

-- L15 without the successor in which the Seg is empty
abbrev pub NeverEmpty : EdgeRule
NeverEmpty defs accessed edge s next = (first : State) × UnfoldsBack defs accessed edge s (first ∷ next)
