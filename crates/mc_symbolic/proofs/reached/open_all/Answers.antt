use Rattle.std.proofs.Common.{◌≡◌, ℕ, length, ap, subst, ◌∙◌, arith}
use Rattle.mc_symbolic.specs.Reached.{Opens}
use Rattle.mc_symbolic.proofs.Finding.{opens_step}
use Rattle.mc_symbolic.proofs.reached.open_all.Goals as goal

pub loop-place-preserved : goal.loop-place-preserved
loop-place-preserved c =
    let v = c.loop-place.invariant in
    let o = opens_step c.args.state.now c.args.node c.args.found.now.items c.args.used.now.items c.loop-place.place c.loop-place.found.items c.loop-place.used.items c.open_at.new.found.items c.open_at.new.used.items v.1 c.in_ok-open_at.ensures in
    (o.long ∙ c.requires.long, o)

pub returns : goal.returns
returns c =
    let v = c.loop-place.invariant in
    let n = ap length c.edges-place-end.ensures in
    let q : c.loop-place.place ≡ length c.args.state.now.graph.edges = omega arith in
    subst (λ (z : ℕ). Opens c.args.state.now c.args.node z c.args.found.now.items c.args.used.now.items c.loop-place.found.items c.loop-place.used.items) q v.1
