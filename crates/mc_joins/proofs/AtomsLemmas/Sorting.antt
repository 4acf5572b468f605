-- Finitely many atoms, in order.
use Rattle.std.proofs.Common.{◌≡◌, List, [], Some, refl, sym, subst}
use Rattle.mc_base.specs.declared.plain.Atom.{Atom}
use Rattle.mc_pure_ops.specs.Canon.Order.{Added}
use Rattle.mc_rules_logic.proofs.ListedLemmas.Adding.{OfSome, at_most_addable, listed_addable, addable_as}
use Rattle.mc_joins.proofs.AtomsLemmas.Finite.{Among, Finite}

abbrev Is : Atom → Atom → Type 0
Is f g = g ≡ f

-- a list in order has them
pub in_order : (P : Atom → Type 0) → Finite P → (fs : List Atom) × Added P [] fs
in_order P f =
    addable_as (OfSome Is f.list) P
    (λ g p. (let m = f.full g p in (g, m, refl)))
    (λ g k. f.sound g (subst (λ (h : Atom). Among f.list h) (sym k.2) k.1))
    (listed_addable Is f.list (λ k h e. at_most_addable (Is h) (Some h) (refl, λ g same. same))) []
