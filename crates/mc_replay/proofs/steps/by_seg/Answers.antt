use Rattle.std.proofs.Common.{Bool, Option, Some, None, sym, ap, ◌∙◌}
use Rattle.std.specs.Prelude.{option_map, if◌then◌else◌}
use Rattle.mc_joins.specs.Joinings.{Joining, half}
use Rattle.mc_replay.specs.declared.joining.Half.{Half as KeptHalf}
use Rattle.mc_replay.specs.declared.folds.SegFold.{SegFold as KeptSeg}
use Rattle.mc_replay.specs.declared.folds.Part.{Part as KeptPart}
use Rattle.mc_replay.specs.Folds.{seen_part}
use Rattle.mc_replay.specs.Joined.{seen}
use Rattle.mc_replay.specs.Steps.{seen_ending, seg_found, closed_by}
use Rattle.mc_replay.proofs.StepLemmas.{seg_put, seg_unmade, tells_side, tells_named, tells_kept}
use Rattle.mc_replay.proofs.steps.by_seg.Goals as goal

pub returns-in_default-2-clause-takes : goal.returns-in_default-2-clause-takes
returns-in_default-2-clause-takes c = λ w same t.
    let old = c.args.join.now in
    let mid = c.folded_seg.new.join in
    let j = seen old in
    let e = seen_ending c.args.ending in
    let p = c.args.pair.now in
    let names = c.in_ok-mine.ensures.only in
    let found = c.in_ok-fold.ensures.joins w same t ∙ ap (λ (o : Option (KeptSeg × KeptPart)). seg_found c.args.step w j e p o) c.in-Some.is in
    let made = c.in_ok-mine.ensures.made w same (tells_side w old c.args.ending.side t) in
    record {
      joins =
          found
          ∙ ap (option_map (closed_by c.args.step e.side p)) (seg_unmade w old mid e p c.in-Some.fold c.in-Some.theirs names (sym (ap (option_map (seen_part
          (half (seen mid) e.side).state)) c.in_default-2.is) ∙ made));
      tells = tells_named e.side old mid names w t;
    }

pub returns-then-not-branch-clause-takes : goal.returns-then-not-branch-clause-takes
returns-then-not-branch-clause-takes c = λ w same t.
    let old = c.args.join.now in
    let mid = c.folded_seg.new.join in
    let j = seen old in
    let e = seen_ending c.args.ending in
    let p = c.args.pair.now in
    let names = c.in_ok-mine.ensures.only in
    let found = c.in_ok-fold.ensures.joins w same t ∙ ap (λ (o : Option (KeptSeg × KeptPart)). seg_found c.args.step w j e p o) c.in-Some.is in
    let made = c.in_ok-mine.ensures.made w same (tells_side w old c.args.ending.side t) in
    let put = seg_put w old mid e p c.in-Some.fold c.in-Some.theirs names c.in-Some-2.mine (if c.in_ok-put_from.field-0 then Some
    (seen c.put_from.new.join) else None)
    (sym (ap (option_map (seen_part (half (seen mid) e.side).state)) c.in-Some-2.is) ∙ made) c.in_ok-put_from.ensures.joins in
    let tells = tells_kept w mid c.put_from.new.join c.in_ok-put_from.ensures.left c.in_ok-put_from.ensures.right (tells_named e.side old mid names w t) in
    record {
      joins =
          found
          ∙ ap (option_map (closed_by c.args.step e.side p)) (put ∙ ap (λ (b : Bool). if b then Some
          (seen c.put_from.new.join) else None) c.if-not-branch.true);
      tells = tells;
    }

pub returns-clause-takes : goal.returns-clause-takes
returns-clause-takes c = λ w same t.
    let old = c.args.join.now in
    let mid = c.folded_seg.new.join in
    let j = seen old in
    let e = seen_ending c.args.ending in
    let p = c.args.pair.now in
    let names = c.in_ok-mine.ensures.only in
    let found = c.in_ok-fold.ensures.joins w same t ∙ ap (λ (o : Option (KeptSeg × KeptPart)). seg_found c.args.step w j e p o) c.in-Some.is in
    let made = c.in_ok-mine.ensures.made w same (tells_side w old c.args.ending.side t) in
    let put = seg_put w old mid e p c.in-Some.fold c.in-Some.theirs names c.in-Some-2.mine (if c.in_ok-put_from.field-0 then Some
    (seen c.put_from.new.join) else None)
    (sym (ap (option_map (seen_part (half (seen mid) e.side).state)) c.in-Some-2.is) ∙ made) c.in_ok-put_from.ensures.joins in
    let tells = tells_kept w mid c.put_from.new.join c.in_ok-put_from.ensures.left c.in_ok-put_from.ensures.right (tells_named e.side old mid names w t) in
    record {
      joins =
          found
          ∙ (ap (option_map (closed_by c.args.step e.side p)) (put ∙ ap (λ (b : Bool). if b then Some
          (seen c.put_from.new.join) else None) c.if-not-branch.false)
          ∙ ap (λ (z : Joining). Some z) (sym c.in_ok-close.ensures.seen));
      tells = tells_kept w c.put_from.new.join c.close.new.join (ap (λ (h : KeptHalf). h.state) c.in_ok-close.ensures.left) (ap (λ
          (h : KeptHalf). h.state) c.in_ok-close.ensures.right) tells;
    }
