use Rattle.std.proofs.Common.{◌≡◌, take, Some}
use Rattle.mc_joins.specs.Joinings.{begun}
use Rattle.mc_joins.specs.Parts.{Basis}
use Rattle.mc_joins.specs.Steps.{after_steps}
use Rattle.mc_replay.specs.Good.{AreGood}
use Rattle.mc_replay.specs.Joined.{seen}
use Rattle.mc_replay.specs.Steps.{TellsBoth}
use Rattle.mc_replay.specs.Whole.{TellsOf}
use Rattle.mc_replay.proofs.answers.replay.Given as goal

abbrev pub invariant-loop-place : goal.invariant-loop-place
invariant-loop-place l = record {
  good : AreGood l.join;
  reached : (w : Basis) → w.defs ≡ l.defs → TellsOf w l.left l.right
      → (after_steps w (begun l.left l.right) (take l.place l.steps) ≡ Some (seen l.join)) × TellsBoth w l.join;
}
