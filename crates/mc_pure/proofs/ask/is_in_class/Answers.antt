use Rattle.std.proofs.Common.{sym, subst, length, List, ◌<◌}
use Rattle.mc_base.specs.declared.ids.NodeId.{NodeId}
use Rattle.mc_pure.specs.Known.{pure_of}
use Rattle.mc_pure.proofs.Changing.{number}
use Rattle.mc_pure.proofs.Asking.{start_node, class_no}
use Rattle.mc_pure.proofs.ask.is_in_class.Goals as goal

pub rep_of-first-requires-clause-there : goal.rep_of-first-requires-clause-there
rep_of-first-requires-clause-there c =
    let e = c.as_slice-starts.ensures.value in
    start_node (pure_of c.args.known.now) c.args.rows.now c.as_slice-starts.result.now c.args.i _ c.requires.sound e (subst (λ (z : List NodeId). c.args.i < length z) (sym e) c.requires.first)

pub returns-then-first-left : goal.returns-then-first-left
returns-then-first-left c = record {
  no =
      let e = c.as_slice-starts.ensures.value in
      λ _. class_no (pure_of c.args.known.now) c.args.rows.now c.as_slice-starts.result.now c.args.i _ c.rep_of-first.result c.args.left.now e (subst (λ (z : List NodeId). c.args.i < length z) (sym e) c.requires.first) c.rep_of-first.ensures (λ h. c.if-first-left.true (number h));
}
