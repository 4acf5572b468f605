use Rattle.std.proofs.Common.{◌≡◌, ◌<◌, length, ap, arith}
use Rattle.std.proofs.lemmas.Bool.Decides.{nat_tests}
use Rattle.mc_lower.proofs.Agreeing.{undefined_none, undefined_some, is_none}
use Rattle.mc_lower.proofs.builder.Builder.undefine.Goals as goal

pub returns-then-is_empty-clause-leads : goal.returns-then-is_empty-clause-leads
returns-then-is_empty-clause-leads c = λ w agrees.
    let f = c.is_empty.ensures in
    let none : length c.args.variables.now ≡ 0 = grind (arith, nat_tests, c.if-is_empty.true) in
    (agrees, undefined_none w.graph c.args.place c.args.variables.now _ (is_none c.args.variables.now none))

pub returns-clause-leads : goal.returns-clause-leads
returns-clause-leads c = λ w agrees.
    let f = c.is_empty.ensures in
    let some : 0 < length c.args.variables.now = grind (arith, nat_tests, c.if-is_empty.false) in
    let later = c.in_ok-undefine_all.ensures.leads w agrees in
    (later.0, undefined_some w.graph c.args.place c.args.variables.now _ _ (λ is. let none : length c.args.variables.now ≡ 0 = ap length is in absurd (omega arith)) later.1)
