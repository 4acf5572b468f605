use Rattle.std.proofs.Common.{◌++◌, ◌∷◌, [], List, ap, sym, ◌∙◌}
use Rattle.mc_base.specs.declared.plain.Atom.{Atom}
use Rattle.mc_pure.proofs.Parting.{apart_more, apart_same}
use Rattle.mc_pure.proofs.atoms.Atoms.push.Goals as goal

pub invariant_of-self-then-is_apart : goal.invariant_of-self-then-is_apart
invariant_of-self-then-is_apart c =
    let atoms = c.self.inside.all.items in
    rw (c.in_ok-push.ensures.items, c.in_ok-push-2.ensures.items, c.in_ok-reserve.ensures.items) (ap (λ (z : List Atom). z ++ c.args.atom.now ∷ []) c.self.invariant ∙ sym (apart_more atoms c.args.atom.now (sym c.is_apart.ensures ∙ c.if-is_apart.true)))

pub invariant_of-self-2 : goal.invariant_of-self-2
invariant_of-self-2 c =
    let atoms = c.self.inside.all.items in
    rw (c.in_ok-push-3.ensures.items, c.in_ok-reserve.ensures.items) (c.self.invariant ∙ sym (apart_same atoms c.args.atom.now (sym c.is_apart.ensures ∙ c.if-is_apart.false)))
