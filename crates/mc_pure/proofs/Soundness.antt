-- What holds in a normal form is entailed.
use Rattle.std.proofs.Common.{◌≡◌, ℤ, ◌+ℤ◌, ◌-ℤ◌, neg_ℤ, sym, subst, inl, inr, arith}
use Rattle.std.proofs.lemmas.Int.{ints}
use Rattle.mc_base.specs.declared.ids.NodeId.{NodeId}
use Rattle.mc_base.specs.declared.plain.Atom.{Atom}
use Rattle.mc_base.specs.declared.plain.Atom.TheVariants.{Eq, Ne, In}
use Rattle.mc_pure.specs.declared.rows.Row.{Row}
use Rattle.mc_pure.specs.Pure.{Pure, IsNode}
use Rattle.mc_pure.specs.Derived.{Follows, base, turned, chained, widened, differs, differs_along, disjoint}
use Rattle.mc_pure.specs.Normal.{Moved, Listed, Holds, SoundAt, IsNormal}

module _ (facts : Pure) where
  pub eq_to : {a b : NodeId} (c : ℤ) {d : ℤ} → Follows facts (Eq a b c) → c ≡ d → Follows facts (Eq a b d)
  eq_to {a} {b} c x e = subst (λ (k : ℤ). Follows facts (Eq a b k)) e x

  pub ne_to : {a b : NodeId} (c : ℤ) {d : ℤ} → Follows facts (Ne a b c) → c ≡ d → Follows facts (Ne a b d)
  ne_to {a} {b} c x e = subst (λ (k : ℤ). Follows facts (Ne a b k)) e x

  -- two nodes of one class
  pub between : (nf : NodeId → Row) (a b : NodeId) (c : ℤ) → SoundAt facts nf a → SoundAt facts nf b → (nf a).rep ≡ (nf b).rep → (nf a).off ≡ (nf b).off +ℤ c → Follows facts (Eq a b c)
  between nf a b c s t e o =
      let to : Follows facts (Eq (nf a).rep b (neg_ℤ (nf b).off)) = subst (λ (r : NodeId). Follows facts (Eq r b (neg_ℤ (nf b).off))) (sym e) (turned t.equal) in
      eq_to ((nf a).off +ℤ neg_ℤ (nf b).off) (chained s.equal to) (omega (arith, ints, o))

  moved : (nf : NodeId → Row) (x y a b : NodeId) (d c : ℤ) → SoundAt facts nf x → SoundAt facts nf y → SoundAt facts nf a → SoundAt facts nf b → Moved nf x y d a b c → Follows facts (Ne x y d) → Follows facts (Ne a b c)
  moved nf x y a b d c sx sy sa sb m ne =
      let by = m.by in
      let xa : Follows facts (Eq x a ((nf x).off -ℤ (nf a).off)) = between nf x a ((nf x).off -ℤ (nf a).off) sx sa m.left (omega (arith, ints)) in
      let yb : Follows facts (Eq y b ((nf y).off -ℤ (nf b).off)) = between nf y b ((nf y).off -ℤ (nf b).off) sy sb m.right (omega (arith, ints)) in
      let one = differs (differs_along (differs (differs_along ne yb)) xa) in
      ne_to (neg_ℤ (neg_ℤ (d +ℤ ((nf y).off -ℤ (nf b).off)) +ℤ ((nf x).off -ℤ (nf a).off))) one (omega (arith, ints))

  module _ (nf : NodeId → Row) (n : IsNormal facts nf) where
    listed : (a b : NodeId) (c : ℤ) → IsNode facts.kinds a → IsNode facts.kinds b → Listed facts nf a b c → Follows facts (Ne a b c)
    listed a b c na nb l =
        let k = n.known l.0 l.1 l.2 l.3 in
        moved nf l.0 l.1 a b l.2 c (n.sound l.0 k.0) (n.sound l.1 k.1) (n.sound a na) (n.sound b nb) l.4 (base l.3)

    pub sound : (f : Atom) → Holds facts nf f → Follows facts f
    sound (Eq a b c) h = between nf a b c (n.sound a h.0) (n.sound b h.1) h.2 h.3
    sound (In a l m) h = widened (n.sound a h.0).within h.1 h.2
    sound (Ne a b c) h = elim h.2 [
      | inl p ↦ disjoint (n.sound a h.0).within (n.sound b h.1).within p
      | inr p ↦ elim p [
        | inl l ↦ listed a b c h.0 h.1 l
        | inr l ↦ ne_to (neg_ℤ (neg_ℤ c)) (differs (listed b a (neg_ℤ c) h.1 h.0 l)) (omega (arith, ints))
      ]
    ]
