use Rattle.std.proofs.Common.{◌≡◌, ◌<◌, ◌≤◌, ◌+◌, ◌-◌, length, refl, sym, arith}
use Rattle.std.proofs.lemmas.Option.{slice_get_within}
use Rattle.mc_symbolic.specs.Reached.{pending}
use Rattle.mc_symbolic.proofs.Finding.{item_at, never, reached_false, reached_equal, searches_start, searches_step, unreached}
use Rattle.mc_symbolic.proofs.reached.is_reached.Goals as goal

pub returns-then-is_false : goal.returns-then-is_false
returns-then-is_false c = ((λ t. reached_false c.args.state.now c.args.node (c.if-is_false.ensures.derived.0 refl)), (λ r. refl))

pub loop-next-init : goal.loop-next-init
loop-next-init c = (omega arith, rw (c.in_ok-found.ensures, c.in_ok-used.ensures, c.edges.ensures) (searches_start c.args.state.now c.args.node))

pub returns-then-are_equal : goal.returns-then-are_equal
returns-then-are_equal c =
    let v = c.loop-next.invariant in
    let f = c.loop-next.found.items in
    let l : c.loop-next.next < length f = omega arith in
    let there = item_at f f c.loop-next.next c.index-start.result.now _ refl l c.index-start.ensures in
    ((λ t. reached_equal c.args.state.now f c.loop-next.next c.index-start.result.now c.args.node v.1.sound there (c.if-are_equal.ensures.derived.0 refl)), (λ r. refl))

pub loop-next-smaller : goal.loop-next-smaller
loop-next-smaller c =
    let v = c.loop-next.invariant in
    let f = c.loop-next.found.items in
    let l : c.loop-next.next < length f = omega arith in
    let there = item_at f f c.loop-next.next c.index-start.result.now _ refl l c.index-start.ensures in
    let o = c.in_ok-open_all.ensures in
    let m = slice_get_within c.open_all.new.found.items c.loop-next.next c.index-start.result.now (o.more c.loop-next.next c.index-start.result.now there) in
    let w = o.weight in
    omega arith

pub loop-next-preserved : goal.loop-next-preserved
loop-next-preserved c =
    let v = c.loop-next.invariant in
    let f = c.loop-next.found.items in
    let l : c.loop-next.next < length f = omega arith in
    let there = item_at f f c.loop-next.next c.index-start.result.now _ refl l c.index-start.ensures in
    let o = c.in_ok-open_all.ensures in
    let m = slice_get_within c.open_all.new.found.items c.loop-next.next c.index-start.result.now (o.more c.loop-next.next c.index-start.result.now there) in
    (omega arith, searches_step c.args.state.now c.args.node c.index-start.result.now c.loop-next.next f c.loop-next.used.items c.open_all.new.found.items c.open_all.new.used.items there (λ q. never (c.if-are_equal.ensures.derived.1 q)) v.1 o)

pub returns : goal.returns
returns c =
    let v = c.loop-next.invariant in
    let f = c.loop-next.found.items in
    let past : length f ≤ c.loop-next.next = omega arith in
    ((λ t. absurd (never t)), (λ r. absurd (unreached c.args.state.now c.is_bounded.ensures.bounded (λ w. never (c.if-is_false.ensures.derived.1 w)) c.args.node c.loop-next.next f c.loop-next.used.items past v.1 r)))
