-- Nodes, their kinds, and ways back.
use Rattle.std.proofs.Common.{◌≡◌, ◌≢◌, ◌⊎◌, inl, inr, ◌<◌, ◌≤◌, ◌+◌, ℕ, zero, suc, List, [], ◌∷◌, Bool, true, false, Option, Some, None, map, slice_get, refl, sym, ap, ap₂, subst, ◌∙◌, arith, eqb-true, eq-eqb}
use Rattle.std.specs.Prelude.{◌==◌, if◌then◌else◌}
use Rattle.std.proofs.lemmas.Bool.{ne_eqb}
use Rattle.mc_base.specs.declared.ids.NodeId.{NodeId}
use Rattle.mc_base.specs.declared.plain.Kind.{Kind}
use Rattle.mc_base.specs.declared.plain.Kind.TheVariants.{Ptr}
use Rattle.mc_base.specs.Nodes.{null, moved}
use Rattle.mc_pure.specs.Pure.{Kinds, IsNode, kind_of}
use Rattle.mc_pure.specs.Rows.{nodes_of}
use Rattle.mc_state.specs.Fits.{NodesAscend}
use Rattle.mc_joins.specs.Same.Same.{IsRenaming}
use Rattle.mc_joins.specs.Alike.Alike.{origin, Goes, AllGo}
use Rattle.mc_joins.proofs.AlikeLemmas.Images.{mapped_at, mapped_from}

pub numbered_node : ℕ → NodeId
numbered_node n = record { 0 = n }

one_node : (m n : NodeId) → m.0 ≡ n.0 → m ≡ n
one_node m n e = let f : ℕ → NodeId = λ k. record { 0 = k } in ap f e

-- ---- kinds

kind_step : (k : NodeId × Kind) (kinds : Kinds) (n : NodeId) (b : Bool) → (k.0.0 == n.0) ≡ b → kind_of (k ∷ kinds) n ≡ (if b then Some k.1 else kind_of kinds n)
kind_step k kinds n b e = rw e refl

pub kind_place : (kinds : Kinds) (n : NodeId) (kind : Kind) → kind_of kinds n ≡ Some kind → (j : ℕ) × (slice_get kinds j ≡ Some (n, kind))
kind_place [] n kind e = absurd (cc e)
kind_place (k ∷ kinds) n kind e = at (kind_place kinds n kind) (k.0.0 == n.0) refl
  where
    at : (kind_of kinds n ≡ Some kind → (j : ℕ) × (slice_get kinds j ≡ Some (n, kind))) → (b : Bool) → (k.0.0 == n.0) ≡ b → (j : ℕ) × (slice_get (k ∷ kinds) j ≡ Some (n, kind))
    at rest true is =
        let node : k.0 ≡ n = one_node k.0 n (eqb-true k.0.0 n.0 is) in
        let both : Some k.1 ≡ Some kind = sym (kind_step k kinds n true is) ∙ e in
        let own : k.1 ≡ kind = cc in
        (0, ap₂ (λ (x : NodeId) (y : Kind). (let p : NodeId × Kind = (x, y) in Some p)) node own)
    at rest false is =
        let h = rest (sym (kind_step k kinds n false is) ∙ e) in
        (suc h.0, h.1)

above : (low : ℕ) (kinds : Kinds) (high j : ℕ) (n : NodeId) (kind : Kind) → NodesAscend low kinds high → slice_get kinds j ≡ Some (n, kind) → low ≤ n.0
above low [] high j n kind a e = absurd (cc e)
above low (k ∷ kinds) high zero n kind a e = let q : k.0 ≡ n = cc in let r : k.0.0 ≡ n.0 = ap (λ (z : NodeId). z.0) q in let f = a.0 in omega arith
above low (k ∷ kinds) high (suc j) n kind a e = let h = above (suc k.0.0) kinds high j n kind a.2 e in let f = a.0 in omega arith

pub place_kind : (low : ℕ) (kinds : Kinds) (high j : ℕ) (n : NodeId) (kind : Kind) → NodesAscend low kinds high → slice_get kinds j ≡ Some (n, kind) → kind_of kinds n ≡ Some kind
place_kind low [] high j n kind a e = absurd (cc e)
place_kind low (k ∷ kinds) high zero n kind a e =
    let q : k.0 ≡ n = cc in
    let own : k.1 ≡ kind = cc in
    kind_step k kinds n true (eq-eqb k.0.0 n.0 (ap (λ (z : NodeId). z.0) q)) ∙ ap (λ (z : Kind). Some z) own
place_kind low (k ∷ kinds) high (suc j) n kind a e =
    let h = above (suc k.0.0) kinds high j n kind a.2 e in
    let other : k.0.0 ≢ n.0 = omega arith in
    kind_step k kinds n false (ne_eqb k.0.0 n.0 other) ∙ place_kind (suc k.0.0) kinds high j n kind a.2 e

no_kind : (low : ℕ) (kinds : Kinds) (high : ℕ) (n : NodeId) → NodesAscend low kinds high → n.0 < low → kind_of kinds n ≡ None
no_kind low [] high n a l = refl
no_kind low (k ∷ kinds) high n a l =
    let f = a.0 in
    let other : k.0.0 ≢ n.0 = omega arith in
    kind_step k kinds n false (ne_eqb k.0.0 n.0 other) ∙ no_kind (suc k.0.0) kinds high n a.2 (omega arith)

pub null_kind : (kinds : Kinds) (high : ℕ) → NodesAscend 1 kinds high → kind_of kinds null ≡ None
null_kind kinds high a = no_kind 1 kinds high null a (omega arith)

-- ---- the list of all nodes

pub node_at : (kinds : Kinds) (high place : ℕ) (n : NodeId) → NodesAscend 1 kinds high → slice_get (nodes_of kinds) place ≡ Some n → IsNode kinds n
node_at kinds high zero n a e = let q : null ≡ n = cc in (Ptr, inl (sym q))
node_at kinds high (suc place) n a e =
    let h = mapped_from (λ (k : NodeId × Kind). k.0) kinds place n e in
    let q = subst (λ (z : NodeId). slice_get kinds place ≡ Some (z, h.0.1)) h.2 h.1 in
    (h.0.1, inr (place_kind 1 kinds high place n h.0.1 a q))

pub place_of : (kinds : Kinds) (n : NodeId) → IsNode kinds n → (place : ℕ) × (slice_get (nodes_of kinds) place ≡ Some n)
place_of kinds n is = elim is.1 [
  | inl e ↦ (0, ap (λ (z : NodeId). Some z) (sym e))
  | inr e ↦ (let h = kind_place kinds n is.0 e in (suc h.0, mapped_at (λ (k : NodeId × Kind). k.0) kinds h.0 (n, is.0) h.1))
]

-- ---- ways back

pick : (b : Bool) (x r n : ℕ) → (b ≡ true → x ≡ n) → (b ≡ false → r ≡ n) → (if b then x else r) ≡ n
pick true x r n h k = h refl
pick false x r n h k = k refl

module _ (f back : ℕ → ℕ) where
  pub origin_first : (nodes : List NodeId) → ((place : ℕ) (n : NodeId) → slice_get nodes place ≡ Some n → back (f n.0) ≡ n.0) → (place : ℕ) (n : NodeId) → slice_get nodes place ≡ Some n → origin f nodes (f n.0) ≡ n.0
  origin_first [] h place n e = absurd (cc e)
  origin_first (x ∷ nodes) h zero n e =
      let q : x ≡ n = cc in
      let one : (f x.0 == f n.0) ≡ true = eq-eqb (f x.0) (f n.0) (ap (λ (z : NodeId). f z.0) q) in
      pick (f x.0 == f n.0) x.0 (origin f nodes (f n.0)) n.0 (λ t. ap (λ (z : NodeId). z.0) q) (λ t. absurd (cc (one, t)))
  origin_first (x ∷ nodes) h (suc place) n e =
      pick (f x.0 == f n.0) x.0 (origin f nodes (f n.0)) n.0
      (λ t. sym (h 0 x refl) ∙ (ap back (eqb-true (f x.0) (f n.0) t) ∙ h (suc place) n e))
      (λ t. origin_first nodes (λ p m q. h (suc p) m q) place n e)

-- ---- renamings

module _ (f back : ℕ → ℕ) (kinds others : Kinds) (r : IsRenaming f back kinds others) where
  pub node_goes : (n : NodeId) → IsNode kinds n → IsNode others (moved f n)
  node_goes n is = elim is.1 [
    | inl e ↦ (is.0, inl (one_node (moved f n) null (ap (λ (m : NodeId). f m.0) e ∙ r.null_stays)))
    | inr e ↦ (is.0, inr (r.kind n is.0 e))
  ]

  pub kind_goes : (high more : ℕ) → NodesAscend 1 kinds high → NodesAscend 1 others more → (n : NodeId) → IsNode kinds n → kind_of others (moved f n) ≡ kind_of kinds n
  kind_goes high more a b n is = elim is.1 [
    | inl e ↦
        let image : moved f n ≡ null = one_node (moved f n) null (ap (λ (m : NodeId). f m.0) e ∙ r.null_stays) in
        ap (kind_of others) image ∙ (null_kind others more b ∙ (sym (null_kind kinds high a) ∙ ap (kind_of kinds) (sym e)))
    | inr e ↦ r.kind n is.0 e ∙ sym e
  ]

-- what each node does makes a renaming
pub renaming_from : (f back : ℕ → ℕ) (kinds others : Kinds) → f 0 ≡ 0 → AllGo f back kinds others → IsRenaming f back kinds others
renaming_from f back kinds others null_stays go = record {
  null_stays = null_stays;
  kind = λ n kind e. let h = place_of kinds n (kind, inr e) in (go h.0 n h.1).kind ∙ e;
  comes_back = λ n is. let h = place_of kinds n is in (go h.0 n h.1).comes_back;
}
