use Rattle.std.proofs.Common.{◌≡◌, ◌++◌, drop, map}
use Rattle.mc_app.specs.Tried.{blank_for}
use Rattle.mc_app.proofs.tried.push_parted.Given as goal

abbrev pub invariant-loop-byte : goal.invariant-loop-byte
invariant-loop-byte l = l.out.items ++ map blank_for (drop l.byte-index l.script) ≡ l.fn.out.items ++ map blank_for l.script
