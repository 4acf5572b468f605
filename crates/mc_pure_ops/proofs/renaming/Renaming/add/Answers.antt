use Rattle.std.proofs.Common.{◌≡◌, None, sym, ◌∙◌, subst, arith}
use Rattle.mc_pure_ops.specs.Renaming.Images.{Images, DoRise, image_of}
use Rattle.mc_pure_ops.proofs.RenamingLemmas.Looking.{do_rise}
use Rattle.mc_pure_ops.proofs.RenamingLemmas.Adding.{inserted_rise, inserted_with}
use Rattle.mc_pure_ops.proofs.renaming.Renaming.add.Goals as goal

pub place_in-place-requires : goal.place_in-place-requires
place_in-place-requires c = subst (λ (z : Images). DoRise z) (sym c.as_slice.ensures.value) (do_rise 0 c.self.inside.pairs.items c.self.invariant)

pub invariant_of-self-in-None : goal.invariant_of-self-in-None
invariant_of-self-in-None c =
    let none : image_of c.self.inside.pairs.items c.args.from ≡ None = rw c.self.view_is (sym c.get.ensures ∙ c.in-None.is) in
    let place = rw c.as_slice.ensures.value at c.place_in-place.ensures.place in
    let bound = rw c.as_slice.ensures.value at c.place_in-place.ensures.bound in
    rw c.in_ok-insert-in-None.ensures.items (inserted_rise 0 c.self.inside.pairs.items c.place_in-place.result c.args.from c.args.to c.self.invariant (omega arith) bound place none)

pub returns-in_ok-insert-in-None-clause-yes : goal.returns-in_ok-insert-in-None-clause-yes
returns-in_ok-insert-in-None-clause-yes c = λ t.
    let none : image_of c.self.inside.pairs.items c.args.from ≡ None = rw c.self.view_is (sym c.get.ensures ∙ c.in-None.is) in
    let bound = rw c.as_slice.ensures.value at c.place_in-place.ensures.bound in
    rw (c.in_ok-insert-in-None.ensures.items, ← c.self.view_is) (inserted_with c.self.inside.pairs.items c.place_in-place.result c.args.from c.args.to bound none)
