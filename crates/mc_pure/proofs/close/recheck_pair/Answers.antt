use Rattle.std.proofs.Common.{refl, sym, subst, length, List, ◌<◌}
use Rattle.mc_base.specs.declared.ids.NodeId.{NodeId}
use Rattle.mc_pure.specs.Known.{pure_of}
use Rattle.mc_pure.specs.Derived.{base}
use Rattle.mc_pure.specs.Steps.{PairSettled}
use Rattle.mc_pure.proofs.Looping.{pair_at, pair_settled, stepped_map}
use Rattle.mc_pure.proofs.close.recheck_pair.Goals as goal

pub part-requires-clause-derived : goal.part-requires-clause-derived
part-requires-clause-derived c =
    let e = c.as_slice-starts.ensures.value in
    base (pair_at (pure_of c.args.known.now) c.as_slice-starts.result.now c.args.i c.args.j _ e (subst (λ (z : List NodeId). c.args.i < length z) (sym e) c.requires.first) (subst (λ (z : List NodeId). c.args.j < length z) (sym e) c.requires.second) c.if-i-j.false)

pub part-requires-clause-left : goal.part-requires-clause-left
part-requires-clause-left c =
    let e = c.as_slice-starts.ensures.value in
    (c.requires.sound.known _ (pair_at (pure_of c.args.known.now) c.as_slice-starts.result.now c.args.i c.args.j _ e (subst (λ (z : List NodeId). c.args.i < length z) (sym e) c.requires.first) (subst (λ (z : List NodeId). c.args.j < length z) (sym e) c.requires.second) c.if-i-j.false)).0

pub part-requires-clause-right : goal.part-requires-clause-right
part-requires-clause-right c =
    let e = c.as_slice-starts.ensures.value in
    (c.requires.sound.known _ (pair_at (pure_of c.args.known.now) c.as_slice-starts.result.now c.args.i c.args.j _ e (subst (λ (z : List NodeId). c.args.i < length z) (sym e) c.requires.first) (subst (λ (z : List NodeId). c.args.j < length z) (sym e) c.requires.second) c.if-i-j.false)).1

pub returns-then-i-j : goal.returns-then-i-j
returns-then-i-j c = (refl, λ a b ne. absurd (ne c.if-i-j.true))

pub returns : goal.returns
returns c =
    let e = c.as_slice-starts.ensures.value in
    stepped_map (pure_of c.args.known.now) c.args.rows.now c.part.new.rows _ (PairSettled (pure_of c.args.known.now) c.args.rows.now c.args.i c.args.j) c.part.result (λ h. pair_settled (pure_of c.args.known.now) c.args.rows.now c.as_slice-starts.result.now c.args.i c.args.j _ e (subst (λ (z : List NodeId). c.args.i < length z) (sym e) c.requires.first) (subst (λ (z : List NodeId). c.args.j < length z) (sym e) c.requires.second) h) c.part.ensures
