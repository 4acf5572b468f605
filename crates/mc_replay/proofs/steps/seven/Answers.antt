use Rattle.std.proofs.Common.{◌≡◌, true, List, Option, Some, Bor, sym, ap, subst, ◌∙◌}
use Rattle.std.specs.Prelude.{option_map, option_and_then, slice_get}
use Rattle.std.specs.Option.{option_copied}
use Rattle.mc_base.specs.declared.ids.EdgeId.{EdgeId}
use Rattle.mc_base.specs.declared.ids.NodeId.{NodeId}
use Rattle.mc_state.specs.declared.graph.edge.Edge.{Edge}
use Rattle.mc_state.specs.declared.line.Side.{Side}
use Rattle.mc_joins.specs.Joinings.{across, half, of_side, edge_at}
use Rattle.mc_joins.specs.Parts.{Part, as_it_is}
use Rattle.mc_replay.specs.declared.folds.SegFold.{SegFold as KeptSeg}
use Rattle.mc_replay.specs.declared.folds.Part.{Part as KeptPart}
use Rattle.mc_replay.specs.Folds.{seen_part, seen_seg, seg_fold, partner_ends}
use Rattle.mc_replay.specs.Joined.{seen}
use Rattle.mc_replay.specs.Steps.{are_pointers, seen_ending, ends_to, is_seg}
use Rattle.mc_replay.proofs.StepLemmas.{seven_at, seg_with, tells_side, same_some, same_map, ends_seg}
use Rattle.mc_replay.proofs.steps.seven.Goals as goal

pub returns-in_default-2-clause-joins : goal.returns-in_default-2-clause-joins
returns-in_default-2-clause-joins c = λ w same t.
    let j = seen c.args.join.now in
    let e = seen_ending c.args.ending in
    let p = c.args.pair.now in
    let q = c.in-Some.end in
    let other = c.across-other.ensures in
    let stop = c.of_side.ensures ∙ ap (λ (s : Side). of_side s q) other in
    let there : slice_get j.pairs e.place ≡ Some q = sym c.pair_at.ensures ∙ c.in-Some.is in
    let edge : edge_at j (across e.side) p ≡ Some c.in-Some-edge_at.entry.now =
    ap (λ (s : Side). edge_at j s p) (sym other) ∙ (sym c.edge_at.ensures ∙ ap (λ (o : Option (Bor (EdgeId × Edge))). option_copied o) c.in-Some-edge_at.is) in
    let to : ends_to e.pred (of_side (across e.side) q) c.in-Some-edge_at.entry.now.1 ≡ Some c.in-Some-ends_to.others.now =
    ap (λ (n : NodeId). ends_to e.pred n c.in-Some-edge_at.entry.now.1) (sym stop) ∙ (sym c.ends_to.ensures
    ∙ ap (λ (o : Option (Bor (List NodeId))). option_copied o) c.in-Some-ends_to.is) in
    let pointers : are_pointers j q ≡ true = sym c.are_pointers.ensures ∙ c.if-not-are_pointers.false in
    let found : option_map seen_seg c.in_ok-fold.field-0 ≡ seg_fold w j e.side p e.pred (of_side e.side q) (partner_ends w j e.side e.pred
    (of_side e.side q) c.in-Some-ends_to.others.now) =
    c.in_ok-fold.ensures w same (tells_side w c.args.join.now c.args.ending.side t)
    ∙ ap (λ (n : NodeId). seg_fold w j e.side p e.pred n (partner_ends w j e.side e.pred n c.in-Some-ends_to.others.now)) c.of_side-stop.ensures in
    seven_at w j e p q there c.in-Some-edge_at.entry.now edge c.in-Some-ends_to.others.now to pointers (option_map seen_seg c.in_ok-fold.field-0) found
    ∙ ap (λ (o : Option KeptSeg). option_and_then (seg_with w j e p (as_it_is (half j (across e.side)) c.in-Some-edge_at.entry.now))
    (option_map seen_seg o)) c.in_default-2.is

pub returns-clause-joins : goal.returns-clause-joins
returns-clause-joins c = λ w same t.
    let j = seen c.args.join.now in
    let e = seen_ending c.args.ending in
    let p = c.args.pair.now in
    let q = c.in-Some.end in
    let other = c.across-other.ensures in
    let stop = c.of_side.ensures ∙ ap (λ (s : Side). of_side s q) other in
    let there : slice_get j.pairs e.place ≡ Some q = sym c.pair_at.ensures ∙ c.in-Some.is in
    let edge : edge_at j (across e.side) p ≡ Some c.in-Some-edge_at.entry.now =
    ap (λ (s : Side). edge_at j s p) (sym other) ∙ (sym c.edge_at.ensures ∙ ap (λ (o : Option (Bor (EdgeId × Edge))). option_copied o) c.in-Some-edge_at.is) in
    let to : ends_to e.pred (of_side (across e.side) q) c.in-Some-edge_at.entry.now.1 ≡ Some c.in-Some-ends_to.others.now =
    ap (λ (n : NodeId). ends_to e.pred n c.in-Some-edge_at.entry.now.1) (sym stop) ∙ (sym c.ends_to.ensures
    ∙ ap (λ (o : Option (Bor (List NodeId))). option_copied o) c.in-Some-ends_to.is) in
    let pointers : are_pointers j q ≡ true = sym c.are_pointers.ensures ∙ c.if-not-are_pointers.false in
    let found : option_map seen_seg c.in_ok-fold.field-0 ≡ seg_fold w j e.side p e.pred (of_side e.side q) (partner_ends w j e.side e.pred
    (of_side e.side q) c.in-Some-ends_to.others.now) =
    c.in_ok-fold.ensures w same (tells_side w c.args.join.now c.args.ending.side t)
    ∙ ap (λ (n : NodeId). seg_fold w j e.side p e.pred n (partner_ends w j e.side e.pred n c.in-Some-ends_to.others.now)) c.of_side-stop.ensures in
    seven_at w j e p q there c.in-Some-edge_at.entry.now edge c.in-Some-ends_to.others.now to pointers (option_map seen_seg c.in_ok-fold.field-0) found
    ∙ (ap (λ (o : Option KeptSeg). option_and_then (seg_with w j e p (as_it_is (half j (across e.side)) c.in-Some-edge_at.entry.now))
    (option_map seen_seg o)) c.in-Some-2.is
    ∙ (ap (λ (m : Part). seg_with w j e p m (seen_seg c.in-Some-2.fold)) (sym (c.in_ok-theirs.ensures (half j (across e.side))))
    ∙ same_map (seg_with w j e p (seen_part (half j (across e.side)).state c.in_ok-theirs.theirs) (seen_seg c.in-Some-2.fold))))

pub returns-clause-seg : goal.returns-clause-seg
returns-clause-seg c = λ w same t f is.
    subst (λ (z : KeptSeg × KeptPart). is_seg z.1.edge ≡ true) (same_some is)
    (ap (λ (x : Part). is_seg x.edge) (c.in_ok-theirs.ensures (half (seen c.args.join.now) (across c.args.ending.side)))
    ∙ ends_seg c.args.ending.pred c.of_side.result c.in-Some-edge_at.entry.now.1 c.in-Some-ends_to.others.now
    (sym c.ends_to.ensures ∙ ap (λ (o : Option (Bor (List NodeId))). option_copied o) c.in-Some-ends_to.is))
