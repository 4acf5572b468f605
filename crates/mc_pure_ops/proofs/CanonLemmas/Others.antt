-- The nodes beside one that is forgotten.
use Rattle.std.proofs.Common.{◌≡◌, ◌≢◌, ℕ, zero, suc, [], ◌∷◌, Some, None, slice_get, refl, sym, ◌∙◌, ap, subst, inl, inr}
use Rattle.mc_base.specs.declared.ids.NodeId.{NodeId}
use Rattle.mc_base.specs.declared.plain.Kind.{Kind}
use Rattle.mc_base.specs.declared.plain.Atom.{Atom}
use Rattle.mc_base.specs.Nodes.{null}
use Rattle.mc_pure.specs.Pure.{Pure, Kinds, IsNode, Base, kind_of}
use Rattle.mc_pure.specs.Derived.{Follows, base, itself, turned, chained, shifted, met, widened, fixed, differs, differs_along, raised, lowered, disjoint}
use Rattle.mc_pure.specs.Rows.{Over}
use Rattle.mc_pure.specs.Whole.{kinds_without}
use Rattle.mc_pure_ops.proofs.CanonLemmas.Nodes.{some_entry}
use Rattle.mc_pure.proofs.Changing.{decide, same_true, same_false}
use Rattle.mc_pure.proofs.Placing.{Entry, here_kind, later_kind}

drop_here : (k : Entry) (kinds : Kinds) (g : NodeId) → k.0 ≡ g → kinds_without (k ∷ kinds) g ≡ kinds_without kinds g
drop_here k kinds g e = rw (same_true k.0 g e) refl

keep_here : (k : Entry) (kinds : Kinds) (g : NodeId) → k.0 ≢ g → kinds_without (k ∷ kinds) g ≡ k ∷ kinds_without kinds g
keep_here k kinds g e = rw (same_false k.0 g e) refl

pub kind_without : (kinds : Kinds) (g n : NodeId) → n ≢ g → kind_of (kinds_without kinds g) n ≡ kind_of kinds n
kind_without [] g n w = refl
kind_without (k ∷ kinds) g n w = elim (decide k.0 g) [
  | inl e ↦
      ap (λ (z : Kinds). kind_of z n) (drop_here k kinds g e) ∙ kind_without kinds g n w ∙ sym (later_kind k kinds n (λ f. w (sym f ∙ e)))
  | inr ne ↦ ap (λ (z : Kinds). kind_of z n) (keep_here k kinds g ne) ∙ elim (decide k.0 n) [
    | inl e ↦ here_kind k (kinds_without kinds g) n e ∙ sym (here_kind k kinds n e)
    | inr other ↦ later_kind k (kinds_without kinds g) n other ∙ kind_without kinds g n w ∙ sym (later_kind k kinds n other)
  ]
]

pub lost_without : (kinds : Kinds) (g : NodeId) → kind_of (kinds_without kinds g) g ≡ None
lost_without [] g = refl
lost_without (k ∷ kinds) g = elim (decide k.0 g) [
  | inl e ↦ ap (λ (z : Kinds). kind_of z g) (drop_here k kinds g e) ∙ lost_without kinds g
  | inr ne ↦ ap (λ (z : Kinds). kind_of z g) (keep_here k kinds g ne) ∙ later_kind k (kinds_without kinds g) g ne ∙ lost_without kinds g
]

pub node_without : (kinds : Kinds) (g n : NodeId) → IsNode kinds n → n ≢ g → IsNode (kinds_without kinds g) n
node_without kinds g n h w = elim h.1 [ inl e ↦ (h.0, inl e) | inr e ↦ (h.0, inr (kind_without kinds g n w ∙ e)) ]

pub without_node : (kinds : Kinds) (g n : NodeId) → g ≢ null → IsNode (kinds_without kinds g) n → IsNode kinds n × (n ≢ g)
without_node kinds g n nz h = elim h.1 [
  | inl e ↦ ((h.0, inl e), λ f. nz (sym f ∙ e))
  | inr e ↦ elim (decide n g) [
    | inl f ↦ absurd (none h.0 (sym (ap (λ (z : NodeId). kind_of (kinds_without kinds g) z) f ∙ lost_without kinds g) ∙ e))
    | inr w ↦ ((h.0, inr (sym (kind_without kinds g n w) ∙ e)), w)
  ]
]
  where
    none : (k : Kind) → None ≡ Some k → ⊥
    none k e = cc

kept_at : (x : Entry) (kinds rest : Kinds) (g : NodeId) (n : NodeId) (k : Kind) → x.0 ≢ g → ((i : ℕ) → slice_get rest i ≡ Some (n, k) → (j : ℕ) × (slice_get kinds j ≡ Some (n, k)) × (n ≢ g)) → (i : ℕ) → slice_get (x ∷ rest) i ≡ Some (n, k) → (j : ℕ) × (slice_get (x ∷ kinds) j ≡ Some (n, k)) × (n ≢ g)
kept_at x kinds rest g n k f later zero e = let s = some_entry x (n, k) e in (zero, e, λ z. f (ap (λ (w : Entry). w.0) s ∙ z))
kept_at x kinds rest g n k f later (suc i) e = let h = later i e in (suc h.0, h.1, h.2)

pub place_without : (kinds : Kinds) (g : NodeId) (i : ℕ) (n : NodeId) (k : Kind) → slice_get (kinds_without kinds g) i ≡ Some (n, k) → (j : ℕ) × (slice_get kinds j ≡ Some (n, k)) × (n ≢ g)
place_without [] g i n k e = cc
place_without (x ∷ kinds) g i n k e = elim (decide x.0 g) [
  | inl f ↦ (let h = place_without kinds g i n k (subst (λ (z : Kinds). slice_get z i ≡ Some (n, k)) (drop_here x kinds g f) e) in (suc h.0, h.1, h.2))
  | inr f ↦ kept_at x kinds (kinds_without kinds g) g n k f (λ m d. place_without kinds g m n k d) i (subst (λ (z : Kinds). slice_get z i ≡ Some (n, k)) (keep_here x kinds g f) e)
]

-- what follows names what the base atoms name
pub over_all : (q : Pure) (M : NodeId → Type 0) → ((n : NodeId) → IsNode q.kinds n → M n) → ((f : Atom) → Base q f → Over M f) → {f : Atom} → Follows q f → Over M f
over_all q M n h (base {f} b) = h f b
over_all q M n h (itself {a} x) = (n a x, n a x)
over_all q M n h (turned d) = let x = over_all q M n h d in (x.1, x.0)
over_all q M n h (chained d e) = ((over_all q M n h d).0, (over_all q M n h e).1)
over_all q M n h (shifted d e) = (over_all q M n h d).0
over_all q M n h (met d e) = over_all q M n h d
over_all q M n h (widened d x y) = over_all q M n h d
over_all q M n h (fixed d e) = (over_all q M n h d, over_all q M n h e)
over_all q M n h (differs d) = let x = over_all q M n h d in (x.1, x.0)
over_all q M n h (differs_along d e) = ((over_all q M n h d).0, (over_all q M n h e).1)
over_all q M n h (raised d e f) = (over_all q M n h d).0
over_all q M n h (lowered d e f) = (over_all q M n h d).0
over_all q M n h (disjoint d e x) = (over_all q M n h d, over_all q M n h e)
