use Rattle.std.proofs.Common.{◌≡◌, ◌≤◌, ◌-◌, ℕ, List, length, take}
use Rattle.mc_judge.specs.Judge.Stages.{StaysFor}
use Rattle.mc_outside.specs.Outside.{Stays, WhereTold}
use Rattle.mc_app.specs.Documents.{IsHeard}
use Rattle.mc_app.proofs.documents.hear.Given as goal

-- the judge has read the front of what is held, and no call has failed
abbrev pub invariant-loop-at : goal.invariant-loop-at
invariant-loop-at g l = record {
  heard : (text : List ℕ) × IsHeard text l.judge × WhereTold (g.F.Files.holds l.fn.files l.name) (λ bytes. text ≡ take l.at bytes);
  within : WhereTold (g.F.Files.holds l.fn.files l.name) (λ bytes. l.at ≤ length bytes);
  no_further : l.at ≤ l.size;
  same_judge : StaysFor l.fn.judge l.judge;
  same : Stays (g.F.Files.holds l.fn.files) (g.F.Files.holds l.files);
  count : g.F.Files.faults l.files ≡ g.F.Files.faults l.fn.files;
}

abbrev pub decreases-loop-at : goal.decreases-loop-at
decreases-loop-at g l = l.size - l.at
