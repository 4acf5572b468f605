use Rattle.std.proofs.Common.{◌≡◌, refl}
use Rattle.mc_pure_ops.proofs.CanonLemmas.Nodes.{place_kept, place_heir, heir_long, place_none}
use Rattle.mc_pure_ops.proofs.canon.left.place.Goals as goal

pub beside-requires : goal.beside-requires
beside-requires c = heir_long c.args.pure.now c.args.left.now.lost c.in-Some.heir c.args.node c.class_of-place.result c.requires.not_false c.requires.there (rw c.in-Some.is at c.requires.left) c.class_of-place.ensures.least c.class_of-place.ensures.equal (c.if-is_left.ensures.no refl)

pub returns-then-is_left : goal.returns-then-is_left
returns-then-is_left c = place_kept c.args.pure.now c.args.left.now.lost c.args.node c.class_of-place.result c.class_of-place.ensures.least c.class_of-place.ensures.equal (c.if-is_left.ensures.yes refl)

pub returns-in-Some : goal.returns-in-Some
returns-in-Some c = place_heir c.args.pure.now c.args.left.now.lost c.in-Some.heir c.args.node c.class_of-place.result c.beside.result (rw c.in-Some.is at c.requires.left) c.class_of-place.ensures.least c.class_of-place.ensures.equal (c.if-is_left.ensures.no refl) c.beside.ensures.least c.beside.ensures.offset

pub returns-in-None : goal.returns-in-None
returns-in-None c = place_none c.args.pure.now c.args.left.now.lost c.args.node c.class_of-place.result (rw c.in-None.is at c.requires.left) c.class_of-place.ensures.least c.class_of-place.ensures.equal (c.if-is_left.ensures.no refl)
