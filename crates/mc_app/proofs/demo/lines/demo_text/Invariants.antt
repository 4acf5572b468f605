use Rattle.std.proofs.Common.{◌≡◌, length}
use Rattle.mc_app.specs.Demo.Demo.{AreSeen, lines_text}
use Rattle.mc_app.proofs.Seeing.{nth}
use Rattle.mc_app.proofs.demo.lines.demo_text.Given as goal

-- the programs so far are seen, and have their lines
abbrev pub invariant-loop-i : goal.invariant-loop-i
invariant-loop-i l = record {
  printed : l.text.items ≡ lines_text 1 l.number l.all.items;
  seen : AreSeen l.number l.all.items;
  next : l.x ≡ nth (length l.all.items) l.number;
  count : length l.all.items ≡ l.i;
}
