use Rattle.std.proofs.Common.{get_or}
use Rattle.std.proofs.lemmas.Option.{slice_get-get_or}
use Rattle.mc_base.specs.Nodes.{null}
use Rattle.mc_pure.specs.Known.{nothing}
use Rattle.mc_pure_ops.proofs.JoinLemmas.Follow.{says}
use Rattle.mc_pure_ops.proofs.JoinLemmas.Pairing.{one_listed}
use Rattle.mc_pure_ops.proofs.join.differences.listed.Goals as goal

pub returns : goal.returns
returns c =
    let a = says c.entails.result _ c.entails.ensures c.if-not-entails.false in
    rw (c.differ_by-2.ensures, c.node_at.ensures, c.node_at-2.ensures) (one_listed nothing c.args.other.now c.args.pairs.now c.args.i c.args.j (get_or c.args.pairs.now c.args.i (null, null)) (get_or c.args.pairs.now c.args.j (null, null)) (slice_get-get_or c.args.pairs.now c.args.i (null, null) c.requires.first) (slice_get-get_or c.args.pairs.now c.args.j (null, null) c.requires.second) c.requires.not_false c.args.atom.now c.in-Ne.a c.in-Ne.b c.in-Ne.by c.in-Ne.is c.if-a-pairs.false c.if-b-pairs.false (rw c.differ_by.ensures at a))
