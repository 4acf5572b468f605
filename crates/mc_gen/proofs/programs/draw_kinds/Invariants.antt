use Rattle.std.proofs.Common.{◌≡◌, ◌++◌, ◌-◌, ◌≤◌, map}
use Rattle.mc_gen.specs.Draws.{after, draws}
use Rattle.mc_gen.specs.Texts.{kind_of}
use Rattle.mc_gen.proofs.programs.draw_kinds.Given as goal

-- with what is still to be drawn the kinds are all of them
abbrev pub invariant-loop : goal.invariant-loop
invariant-loop l = record {
  kinds : l.kinds.items ++ map kind_of (draws (l.count - l.counter) 5 l.x) ≡ map kind_of (draws l.count 5 l.fn.x);
  left : after (l.count - l.counter) l.x ≡ after l.count l.fn.x;
  within : l.counter ≤ l.count;
}
