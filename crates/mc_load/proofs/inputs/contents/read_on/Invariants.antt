use Rattle.std.proofs.Common.{◌≡◌, ◌≤◌, ◌-◌, length, take}
use Rattle.mc_outside.specs.Outside.{Stays, WhereTold}
use Rattle.mc_load.proofs.inputs.contents.read_on.Given as goal

-- what was read is the front of what is held, and no call has failed
abbrev pub invariant-loop-at : goal.invariant-loop-at
invariant-loop-at g l = record {
  told : WhereTold (g.F.Files.holds l.fn.files l.name) (λ bytes. l.read.items ≡ take l.at bytes);
  within : WhereTold (g.F.Files.holds l.fn.files l.name) (λ bytes. l.at ≤ length bytes);
  len : length l.read.items ≡ l.at;
  no_further : l.at ≤ l.size;
  same : Stays (g.F.Files.holds l.fn.files) (g.F.Files.holds l.files);
  count : g.F.Files.faults l.files ≡ g.F.Files.faults l.fn.files;
}

abbrev pub decreases-loop-at : goal.decreases-loop-at
decreases-loop-at g l = l.size - l.at
