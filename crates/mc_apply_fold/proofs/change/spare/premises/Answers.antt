use Rattle.std.proofs.Common.{rules, refl}
use Rattle.mc_pure.specs.Pure.{HasKind, IsNode}
use Rattle.mc_apply_fold.proofs.change.spare.premises.Goals as goal

pub returns-clause-spare : goal.returns-clause-spare
returns-clause-spare c =
    let there : IsNode c.args.s.now.kinds c.args.rule.now.node = search rules in
    let one_kind : HasKind c.args.s.now.kinds c.args.rule.now.kind c.args.rule.now.node = search rules in
    record {
      consistent = λ w. absurd (cc (c.if-is_false.ensures.derived.1 w));
      there = there;
      lies = c.if-not-lies_in.ensures.derived.0 refl;
      one_kind = one_kind;
      gives = refl;
    }
