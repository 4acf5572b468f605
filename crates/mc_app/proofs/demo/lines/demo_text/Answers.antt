use Rattle.std.proofs.Common.{◌≡◌, ◌∙◌, suc, List, ap, arith, length, sym}
use Rattle.mc_app.specs.declared.demo.seen.Seen.{Seen}
use Rattle.mc_app.proofs.Seeing.{all_printed, all_seen, next_is, no_lines, none_seen, nth, one_longer}
use Rattle.mc_app.proofs.demo.lines.demo_text.Goals as goal

pub loop-i-init : goal.loop-i-init
loop-i-init c =
    let none = c.new-all.ensures.items in
    record {
      printed = c.new-text.ensures.items ∙ no_lines 1 c.args.number c.new-all.result.items none;
      seen = none_seen c.args.number c.new-all.result.items none;
      next = ap (λ (all : List Seen). nth (length all) c.args.number) (sym none);
      count = ap length none;
    }

pub loop-i-preserved : goal.loop-i-preserved
loop-i-preserved c =
    let so_far = c.loop-i.invariant in
    let made = c.in_ok-made.ensures in
    let number = c.args.number in
    let before = c.loop-i.all.items in
    let after = c.push.new.self.items in
    let seen = c.in_ok-seen.seen in
    let pushed = c.in_ok-push.ensures.items in
    let kinds = c.deref-in-loop-i.ensures.value ∙ made.kinds in
    let text = c.deref.ensures.value ∙ made.text in
    record {
      printed = all_printed number c.loop-i.i c.loop-i.x before so_far.next after seen c.deref-in-loop-i.result.now c.loop-i.text.items c.print_line.new.out.items so_far.count pushed kinds so_far.printed
          c.in_ok-print_line.ensures;
      seen = all_seen number c.loop-i.i c.loop-i.x before so_far.next after seen c.deref.result.now pushed text so_far.seen c.in_ok-seen.ensures;
      next = next_is number c.loop-i.i c.loop-i.x before so_far.next after seen c.in_ok-made.made.next pushed made.next;
      count =
          let longer : length after ≡ suc (length before) = ap length pushed ∙ one_longer before seen in
          omega (arith, longer, so_far.count);
    }
