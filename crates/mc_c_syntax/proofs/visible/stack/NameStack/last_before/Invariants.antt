use Rattle.std.proofs.Common.{◌≡◌, ℕ, suc, ◌≤◌, take}
use Rattle.std.specs.Prelude.{option_map}
use Rattle.std.specs.Option.{unwrap_or}
use Rattle.mc_c_syntax.specs.Visible.Lasts.{last_place}
use Rattle.mc_c_syntax.specs.Visible.Stacks.{names_in}
use Rattle.mc_c_syntax.proofs.visible.stack.NameStack.last_before.Given as goal

-- it is the last place among so many first ones
abbrev pub invariant-loop-last : goal.invariant-loop-last
invariant-loop-last l = (k : ℕ) × (l.end ≤ k) × (l.last ≡ last_place (take k (names_in l.self-inside.entries.items)) l.name)

abbrev pub decreases-loop-last : goal.decreases-loop-last
decreases-loop-last l = unwrap_or (option_map (λ i. suc i) l.last) 0
