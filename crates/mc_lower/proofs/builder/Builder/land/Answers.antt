use Rattle.std.proofs.Common.{ap}
use Rattle.mc_lower.proofs.Agreeing.{fewer, landed, no_more}
use Rattle.mc_lower.proofs.Waiting.{taken_off}
use Rattle.mc_lower.specs.Lines.{label_of}
use Rattle.mc_lower.proofs.builder.Builder.land.Goals as goal

pub returns-clause-leads : goal.returns-clause-leads
returns-clause-leads c = λ a k is w agrees.
    let b = c.args.self.now in
    let e = c.in_ok-land.ensures in
    let marks = e.marks a k.waiting (ap (λ x. x.waiting) is) in
    (fewer w b _ _ _ _ e.points marks (no_more _ _ e.outs) agrees, landed w b _ (label_of b.lines.outs.items a) c.args.role c.args.place c.args.code _ e.points marks e.goal agrees)

pub returns-clause-rest : goal.returns-clause-rest
returns-clause-rest c = λ a k is.
    let e = c.in_ok-land.ensures in
    taken_off c.args.self.now c.land.new.self a k e.outs is (e.waiting a k.waiting (ap (λ x. x.waiting) is))

pub land-requires : goal.land-requires
land-requires c = (c.requires.0, c.requires.1.waiting, ap (λ x. x.waiting) c.requires.2)
