-- What a new node for another node and a number more rests on.
use Rattle.std.proofs.Common.{◌≡◌, ◌↔◌, ◌∙◌, [], ◌∷◌, Bool, ℤ, IsTrue, ap, of_z, refl, subst, to_z, w64}
use Rattle.std.specs.Prelude.{◌-ℤ◌}
use Rattle.mc_base.specs.declared.ids.NodeId.{NodeId}
use Rattle.mc_base.specs.declared.plain.Atom.{Atom}
use Rattle.mc_base.specs.declared.plain.Atom.TheVariants.{Eq, In}
use Rattle.mc_base.specs.declared.plain.Kind.{Kind}
use Rattle.mc_base.specs.declared.plain.Kind.TheVariants.{Int, Ptr}
use Rattle.mc_apply_fold.specs.Change.Spare.{with_spare}
use Rattle.mc_rules_logic.specs.Fold.Changed.{NamesSpare}
use Rattle.mc_rules_logic.specs.Fold.MadeLaws.{SpareStaysMade}
use Rattle.mc_apply_fold.specs.Forget.Left.{IsMade}
use Rattle.mc_pure.specs.Pure.{Pure, IsWellFormed, low_of, high_of}
use Rattle.mc_pure.specs.Derived.{Derived, Follows, LiesIn}
use Rattle.mc_pure.specs.Derived.{IsFalse as IsFalsePure}
use Rattle.mc_state.specs.Facts.{Derives, IsFalse}
use Rattle.mc_state.specs.State.{State, next_node, pure_of, with_nodes}
use Rattle.mc_apply_fold.proofs.ChangeLemmas.Naming.{both_parts}
use Rattle.mc_apply_fold.proofs.ChangeLemmas.Told.{same_derived}

-- the ends of a kind's range are numbers of 64 bits
low_fits : (kind : Kind) → to_z w64 (of_z w64 (low_of kind)) ≡ low_of kind
low_fits Int = refl
low_fits Ptr = refl

high_fits : (kind : Kind) → to_z w64 (of_z w64 (high_of kind)) ≡ high_of kind
high_fits Int = refl
high_fits Ptr = refl

-- what is known of a state's nodes tells whether a node and a number more lies in the range of a kind
pub lies_told :
    (p : Pure) (s : State) (kind : Kind) (n m : NodeId) (add more low high : ℤ) (b : Bool)
    → ((f : Atom) → Follows p f ↔ Follows (pure_of s) f) → (IsFalsePure p ↔ IsFalse s) → m ≡ n → more ≡ add → low ≡ low_of kind → high ≡ high_of kind
    → (IsTrue b ↔ Derived p (In m (to_z w64 (of_z w64 low) -ℤ more) (to_z w64 (of_z w64 high) -ℤ more))) → (IsTrue b ↔ LiesIn (pure_of s) kind n add)
lies_told p s kind n m add more low high b follows wrong node number first last is =
    let asked : Atom = In m (to_z w64 (of_z w64 low) -ℤ more) (to_z w64 (of_z w64 high) -ℤ more) in
    let lowest : to_z w64 (of_z w64 low) ≡ low_of kind = ap (λ z. to_z w64 (of_z w64 z)) first ∙ low_fits kind in
    let highest : to_z w64 (of_z w64 high) ≡ high_of kind = ap (λ z. to_z w64 (of_z w64 z)) last ∙ high_fits kind in
    let one : In m (to_z w64 (of_z w64 low) -ℤ more) (to_z w64 (of_z w64 high) -ℤ more) ≡ In n (low_of kind -ℤ add) (high_of kind -ℤ add) =
    ap (λ (x : NodeId). In x (to_z w64 (of_z w64 low) -ℤ more) (to_z w64 (of_z w64 high) -ℤ more)) node
    ∙ ap (λ (z : ℤ). In n (to_z w64 (of_z w64 low) -ℤ z) (to_z w64 (of_z w64 high) -ℤ z)) number
    ∙ ap (λ (z : ℤ). In n (z -ℤ add) (to_z w64 (of_z w64 high) -ℤ add)) lowest
    ∙ ap (λ (z : ℤ). In n (low_of kind -ℤ add) (z -ℤ add)) highest in
    let same = same_derived p s follows wrong asked in
    subst (λ (f : Atom). IsTrue b ↔ Derives s f) one (λ h. same.0 (is.0 h), λ h. is.1 (same.1 h))

-- where a node is made for it, the new node's equation may be written
pub spare_fits :
    SpareStaysMade → (s : State) (node : NodeId) (add : ℤ) (kind : Kind) → IsMade s → NamesSpare node add kind s (with_spare node add kind s ∷ [])
    → IsWellFormed (with_nodes s (kind ∷ [])).kinds (Eq (next_node s) node add)
spare_fits law s node add kind made spare =
    let next = law made.0 made.1 made.2 node add kind s (with_spare node add kind s ∷ []) spare made.3 in
    (both_parts (IsWellFormed (with_nodes s (kind ∷ [])).kinds) s.atoms (Eq (next_node s) node add ∷ []) next.0.atoms).1.0
