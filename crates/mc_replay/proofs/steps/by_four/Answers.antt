use Rattle.std.proofs.Common.{Some, None, sym, ap, ◌∙◌}
use Rattle.std.specs.Prelude.{option_map, option_and_then, if◌then◌else◌}
use Rattle.mc_joins.specs.Joinings.{half}
use Rattle.mc_replay.specs.Folds.{seen_part}
use Rattle.mc_replay.specs.Joined.{seen}
use Rattle.mc_replay.specs.Steps.{four_joined}
use Rattle.mc_replay.proofs.StepLemmas.{four_put, four_unmade, tells_named, tells_kept, tells_side, if_ok_all}
use Rattle.mc_replay.proofs.steps.by_four.Goals as goal

pub returns-in_default-2-clause-takes : goal.returns-in_default-2-clause-takes
returns-in_default-2-clause-takes c = λ w same t.
    let old = c.args.join.now in
    let mid = c.folded_ind.new.join in
    let f = c.in-Some.field-0 in
    let p = c.args.pair.now in
    let made = c.in_ok-theirs.ensures.made w same (tells_side w old c.across.result t) in
    record {
      joins =
          c.in_ok-side.ensures.joins w same t
          ∙ (ap (option_and_then (four_joined w (seen old) p c.args.pred)) c.in-Some.is
          ∙ four_unmade w old mid p c.args.pred f c.across.result c.across.ensures
          (sym (ap (option_map (seen_part (half (seen mid) c.across.result).state)) c.in_default-2.is) ∙ made));
      tells = tells_named c.across.result old mid c.in_ok-theirs.ensures.only w t;
    }

pub returns-clause-takes : goal.returns-clause-takes
returns-clause-takes c =
    let old = c.args.join.now in
    let mid = c.folded_ind.new.join in
    let new = c.put_from.new.join in
    let f = c.in-Some.field-0 in
    let p = c.args.pair.now in
    if_ok_all c.put_from.result (λ done put left right w same t.
    let made = c.in_ok-theirs.ensures.made w same (tells_side w old c.across.result t) in
    record {
      joins =
          c.in_ok-side.ensures.joins w same t
          ∙ (ap (option_and_then (four_joined w (seen old) p c.args.pred)) c.in-Some.is
          ∙ four_put w old mid p c.args.pred f c.across.result c.across.ensures c.in-Some-2.theirs (if done then Some
          (seen new) else None) c.in_ok-theirs.ensures.only
          (sym (ap (option_map (seen_part (half (seen mid) c.across.result).state)) c.in-Some-2.is) ∙ made) put);
      tells = tells_kept w mid new left right (tells_named c.across.result old mid c.in_ok-theirs.ensures.only w t);
    })
    c.put_from.ensures.joins c.put_from.ensures.left c.put_from.ensures.right
