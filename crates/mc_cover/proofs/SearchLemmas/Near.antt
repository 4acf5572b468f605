-- A term with a number outside the bounds of offsets lies in the range of no kind.
use Rattle.std.proofs.Common.{◌≡◌, ℕ, zero, suc, ℤ, pos, negsuc, inl, inr, ◌⊎◌, Bool, true, false, ◌&&◌, Some, List, [], ◌∷◌, slice_get, refl, ap, sym, ◌∙◌, subst, arith, eqb-true}
use Rattle.std.specs.Prelude.{◌==◌, ◌↔◌, ◌-ℤ◌, ◌+ℤ◌, ◌≤ℤ◌, ◌<ℤ◌, int_le, if◌then◌else◌}
use Rattle.std.proofs.lemmas.Int.{ints}
use Rattle.mc_base.specs.declared.ids.NodeId.{NodeId}
use Rattle.mc_base.specs.declared.plain.Kind.{Kind}
use Rattle.mc_base.specs.declared.plain.Kind.TheVariants.{Int, Ptr}
use Rattle.mc_base.specs.declared.plain.Atom.{Atom}
use Rattle.mc_base.specs.declared.plain.Atom.TheVariants.{Eq, Ne, In}
use Rattle.mc_base.specs.Nodes.{null}
use Rattle.mc_pure.specs.Pure.{Pure, Kinds, IsNode, Base, kind_of, low_of, high_of}
use Rattle.mc_pure.specs.Derived.{Follows, IsFalse}
use Rattle.mc_pure.specs.Classes.{HasNormalForm, NormalSaysAll}
use Rattle.mc_pure.specs.Normal.{low, high, Holds}
use Rattle.mc_state.specs.declared.terms.Term.{Term}
use Rattle.mc_state.specs.State.{State, pure_of}
use Rattle.mc_state.specs.Known.{Test, Tells}
use Rattle.mc_cover.specs.Terms.{lies_in, all_lie_in}
use Rattle.mc_cover.specs.Search.Terms.{is_near, all_near}

no_yes : (b : Bool) → (b ≡ true → ⊥) → b ≡ false
no_yes true h = absurd (h refl)
no_yes false h = refl

and_no_left : (a b : Bool) → a ≡ false → (a && b) ≡ false
and_no_left a b e = ap (λ x. x && b) e

and_no : (a b : Bool) → b ≡ false → (a && b) ≡ false
and_no true b e = e
and_no false b e = refl

-- a number outside the bounds
abbrev pub IsFar : ℤ → Type 0
IsFar z = (z <ℤ negsuc 4611686022722355199) ⊎ (pos 4611686022722355200 <ℤ z)

pub is_far : (z : ℤ) → is_near z ≡ false → IsFar z
is_far z h = grind (arith, ints)

low_least : (kind : Kind) → negsuc 2147483647 ≤ℤ low_of kind
low_least Int = omega (arith, ints)
low_least Ptr = omega (arith, ints)

high_most : (kind : Kind) → high_of kind ≤ℤ pos 4611686018427387903
high_most Int = omega (arith, ints)
high_most Ptr = omega (arith, ints)

far_apart : (add lo hi l h m k : ℤ) → IsFar add → negsuc 2147483647 ≤ℤ lo → hi ≤ℤ pos 4611686018427387903 → negsuc 2147483647 ≤ℤ m → k ≤ℤ pos 4611686018427387903 → (lo -ℤ add) ≤ℤ l → h ≤ℤ (hi -ℤ add) → l ≤ℤ h → m ≤ℤ l → h ≤ℤ k → ⊥
far_apart add lo hi l h m k (inl far) a b c d e f g i j = omega (arith, ints)
far_apart add lo hi l h m k (inr far) a b c d e f g i j = omega (arith, ints)

moved_le : (lo hi off : ℤ) → lo ≤ℤ hi → (lo +ℤ off) ≤ℤ (hi +ℤ off)
moved_le lo hi off h = omega (arith, ints)

kind_place : (kinds : Kinds) (n : NodeId) (kind : Kind) → kind_of kinds n ≡ Some kind → (place : ℕ) × (slice_get kinds place ≡ Some (n, kind))
kind_place [] n kind e = absurd (cc e)
kind_place (k ∷ kinds) n kind e = at (kind_place kinds n kind) (k.0.0 == n.0) refl e
  where
    at : (kind_of kinds n ≡ Some kind → (place : ℕ) × (slice_get kinds place ≡ Some (n, kind))) → (here : Bool) → (k.0.0 == n.0) ≡ here → (if here then Some k.1 else kind_of kinds n) ≡ Some kind → (place : ℕ) × (slice_get (k ∷ kinds) place ≡ Some (n, kind))
    at rest true is h =
        let own : k.1 ≡ kind = cc in
        let name : k.0 ≡ n = ap (λ i. record { 0 = i }) (eqb-true k.0.0 n.0 is) in
        (zero, ap (λ (x : NodeId). Some (x, k.1)) name ∙ ap (λ (x : Kind). Some (n, x)) own)
    at rest false is h = let r = rest h in (suc r.0, r.1)

module _ (s : State) (p : Pure) (follows : (f : Atom) → Follows p f ↔ Follows (pure_of s) f) (says : NormalSaysAll) (has : HasNormalForm p) (sound : IsFalse (pure_of s) → ⊥) (know : Test) (tells : Tells know s) where
  -- a range that follows for a node goes with one that its kind gives
  kind_range : (a : NodeId) → IsNode p.kinds a → (k : Kind) × (low_of k ≤ℤ low (has.nf a)) × (high (has.nf a) ≤ℤ high_of k)
  kind_range a (kind, inl is) =
      let r = has.normal.ranges null (pos 0) (pos 0) Base.zero in
      let l : pos 0 ≤ℤ low (has.nf a) = subst (λ n. pos 0 ≤ℤ low (has.nf n)) (sym is) r.1 in
      let h : high (has.nf a) ≤ℤ pos 0 = subst (λ n. high (has.nf n) ≤ℤ pos 0) (sym is) r.2 in
      (Ptr, l, (let top = h in omega (arith, ints)))
  kind_range a (kind, inr is) =
      let at = kind_place p.kinds a kind is in
      let r = has.normal.ranges a (low_of kind) (high_of kind) (Base.kind at.0 at.1) in
      (kind, r.1, r.2)

  far_lies : (kind : Kind) (t : Term) → IsFar t.add → lies_in know kind t ≡ false
  far_lies kind t far =
      no_yes (lies_in know kind t) (λ e.
      elim ((tells (In t.node (low_of kind -ℤ t.add) (high_of kind -ℤ t.add))).0 e) [
        | inl f ↦
            let h = says p has.nf has.normal (In t.node (low_of kind -ℤ t.add) (high_of kind -ℤ t.add)) ((follows (In t.node (low_of kind -ℤ t.add) (high_of kind -ℤ t.add))).1 f) in
            let k = kind_range t.node h.0 in
            let row = has.nf t.node in
            far_apart t.add (low_of kind) (high_of kind) (low row) (high row) (low_of k.0) (high_of k.0) far (low_least kind) (high_most kind) (low_least k.0) (high_most k.0) h.1 h.2 (moved_le row.lo row.hi row.off (has.normal.full t.node h.0)) k.1 k.2
        | inr wrong ↦ sound wrong
      ])

  pub far_lie : (kinds : List Kind) (ts : List Term) → all_near ts ≡ false → all_lie_in know kinds ts ≡ false
  far_lie kinds [] h = absurd (cc h)
  far_lie [] (t ∷ ts) h = refl
  far_lie (kind ∷ kinds) (t ∷ ts) h = at (far_lie kinds ts) (is_near t.add) refl h
    where
      at : (all_near ts ≡ false → all_lie_in know kinds ts ≡ false) → (b : Bool) → is_near t.add ≡ b → (b && all_near ts) ≡ false → (lies_in know kind t && all_lie_in know kinds ts) ≡ false
      at rest true e h = and_no (lies_in know kind t) (all_lie_in know kinds ts) (rest h)
      at rest false e h = and_no_left (lies_in know kind t) (all_lie_in know kinds ts) (far_lies kind t (is_far t.add e))
