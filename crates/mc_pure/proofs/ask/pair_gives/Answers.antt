use Rattle.std.proofs.Common.{sym, subst, length, List, ◌<◌, arith}
use Rattle.std.proofs.lemmas.Int.{ints}
use Rattle.mc_base.specs.declared.ids.NodeId.{NodeId}
use Rattle.mc_pure.specs.Known.{pure_of}
use Rattle.mc_pure.proofs.Clean.{same_cast, fits_small}
use Rattle.mc_pure.proofs.Asking.{start_node, pair_yes, pair_no}
use Rattle.mc_pure.proofs.ask.pair_gives.Goals as goal

pub row_of-first-requires-clause-there : goal.row_of-first-requires-clause-there
row_of-first-requires-clause-there c =
    let e = c.as_slice-starts.ensures.value in
    start_node (pure_of c.args.known.now) c.args.rows.now c.as_slice-starts.result.now c.args.i _ c.requires.sound e (subst (λ (z : List NodeId). c.args.i < length z) (sym e) c.requires.first)

pub row_of-second-requires-clause-there : goal.row_of-second-requires-clause-there
row_of-second-requires-clause-there c =
    let e = c.as_slice-starts.ensures.value in
    start_node (pure_of c.args.known.now) c.args.rows.now c.as_slice-starts.result.now c.args.j _ c.requires.sound e (subst (λ (z : List NodeId). c.args.j < length z) (sym e) c.requires.second)

pub returns-clause-yes : goal.returns-clause-yes
returns-clause-yes c =
    let e = c.as_slice-starts.ensures.value in
    let cs = c.requires.short in
    let g = same_cast c.args.c (fits_small c.args.c (omega (arith, ints)) (omega (arith, ints))) in
    λ t. pair_yes (pure_of c.args.known.now) c.args.rows.now c.as_slice-starts.result.now c.args.i c.args.j _ c.row_of-first.result c.row_of-second.result c.args.left.now c.args.right.now c.args.c e (subst (λ (z : List NodeId). c.args.i < length z) (sym e) c.requires.first) (subst (λ (z : List NodeId). c.args.j < length z) (sym e) c.requires.second) c.if-i-j.false c.row_of-first.ensures.is c.row_of-second.ensures.is (rw g at (c.is_moved.ensures.yes t))

pub returns-clause-no : goal.returns-clause-no
returns-clause-no c =
    let e = c.as_slice-starts.ensures.value in
    let cs = c.requires.short in
    let g = same_cast c.args.c (fits_small c.args.c (omega (arith, ints)) (omega (arith, ints))) in
    λ t. pair_no (pure_of c.args.known.now) c.args.rows.now c.as_slice-starts.result.now c.args.i c.args.j _ c.row_of-first.result c.row_of-second.result c.args.left.now c.args.right.now c.args.c e (subst (λ (z : List NodeId). c.args.i < length z) (sym e) c.requires.first) (subst (λ (z : List NodeId). c.args.j < length z) (sym e) c.requires.second) c.row_of-first.ensures.is c.row_of-second.ensures.is (rw g at (c.is_moved.ensures.no t))

pub returns-then-i-j-clause-no : goal.returns-then-i-j-clause-no
returns-then-i-j-clause-no c = λ _ p. p.2 c.if-i-j.true
