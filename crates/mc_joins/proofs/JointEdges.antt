-- The edge that two edges of one form make fits, where both fit.
use Rattle.std.proofs.Common.{◌≡◌, ℕ, suc, List, [], ◌∷◌, ◌++◌, Bool, true, false, Option, Some, None, length, map, slice_get, refl, ap, sym, ◌∙◌, subst, eqb-true}
use Rattle.std.specs.Prelude.{◌==◌, is_some, zip, if◌then◌else◌}
use Rattle.std.specs.List.{AllByRecursion}
use Rattle.mc_base.specs.declared.ids.NodeId.{NodeId}
use Rattle.mc_base.specs.declared.ids.PredId.{PredId}
use Rattle.mc_base.specs.declared.ids.StructId.{StructId}
use Rattle.mc_base.specs.declared.plain.Kind.{Kind}
use Rattle.mc_base.specs.declared.plain.Kind.TheVariants.{Ptr}
use Rattle.mc_flow.specs.declared.defs.rules.Def.{Def}
use Rattle.mc_flow.specs.declared.defs.shapes.StructInfo.{StructInfo}
use Rattle.mc_state.specs.declared.graph.edge.Edge.{Edge}
use Rattle.mc_state.specs.declared.graph.edge.Edge.TheVariants.{Block, Ind, Seg}
use Rattle.mc_state.specs.Graph.Edges.{start_of}
use Rattle.mc_pure_ops.specs.Join.Joint.{Pairs}
use Rattle.mc_pure.specs.Pure.{Kinds, HasKind}
use Rattle.mc_state.specs.Fits.{HaveKinds, MayHaveKinds, ArgsFit}
use Rattle.mc_joins.specs.Joinings.{known_both}
use Rattle.mc_joins.specs.Steps.{pairs_of, node_for, nodes_for, known_for, edge_for, are_blocks, are_inds, are_segs}
use Rattle.mc_joins.proofs.NamedKinds.{Fits}
use Rattle.mc_joins.proofs.JointKinds.{OneKind, Listed}

-- two edges are of one form and one struct or predicate
abbrev pub Alike : Edge → Edge → Type 0
Alike (Block a shape fields) (Block b own others) = shape ≡ own
Alike (Block a shape fields) (Ind b own others) = ⊥
Alike (Block a shape fields) (Seg b others own stop stops) = ⊥
Alike (Ind a pred args) (Block b own others) = ⊥
Alike (Ind a pred args) (Ind b own others) = pred ≡ own
Alike (Ind a pred args) (Seg b others own stop stops) = ⊥
Alike (Seg a args pred «end» ends) (Block b own others) = ⊥
Alike (Seg a args pred «end» ends) (Ind b own others) = ⊥
Alike (Seg a args pred «end» ends) (Seg b others own stop stops) = pred ≡ own

pub same_pred : (p q : PredId) → (p.0 == q.0) ≡ true → p ≡ q
same_pred p q e = ap (λ (i : ℕ). let x : PredId = record { 0 = i } in x) (eqb-true p.0 q.0 e)

same_shape : (p q : StructId) → (p.0 == q.0) ≡ true → p ≡ q
same_shape p q e = ap (λ (i : ℕ). let x : StructId = record { 0 = i } in x) (eqb-true p.0 q.0 e)

kept : {X : Type 0} (b : Bool) (x : X) → is_some (if b then Some x else None) ≡ true → b ≡ true
kept true x e = refl
kept false x e = absurd (cc e)

pub blocks_alike : (e f : Edge) → are_blocks e f ≡ true → Alike e f
blocks_alike (Block a shape fields) (Block b own others) e = same_shape shape own e
blocks_alike (Block a shape fields) (Ind b own others) e = absurd (cc e)
blocks_alike (Block a shape fields) (Seg b others own stop stops) e = absurd (cc e)
blocks_alike (Ind a pred args) f e = absurd (cc e)
blocks_alike (Seg a args pred «end» ends) f e = absurd (cc e)

pub inds_alike : (e f : Edge) → are_inds e f ≡ true → Alike e f
inds_alike (Block a shape fields) f e = absurd (cc e)
inds_alike (Ind a pred args) (Block b own others) e = absurd (cc e)
inds_alike (Ind a pred args) (Ind b own others) e = sym (same_pred own pred (kept (own.0 == pred.0) _ e))
inds_alike (Ind a pred args) (Seg b others own stop stops) e = absurd (cc e)
inds_alike (Seg a args pred «end» ends) f e = absurd (cc e)

pub segs_alike : (e f : Edge) → are_segs e f ≡ true → Alike e f
segs_alike (Block a shape fields) f e = absurd (cc e)
segs_alike (Ind a pred args) f e = absurd (cc e)
segs_alike (Seg a args pred «end» ends) (Block b own others) e = absurd (cc e)
segs_alike (Seg a args pred «end» ends) (Ind b own others) e = absurd (cc e)
segs_alike (Seg a args pred «end» ends) (Seg b others own stop stops) e = same_pred pred own e

-- ---- pairs of one kind

module _ (lk rk : Kinds) where
  zip_kinds : (ks : List Kind) (xs ys : List NodeId) → HaveKinds lk ks xs → HaveKinds rk ks ys → AllByRecursion (OneKind lk rk) (zip xs ys)
  zip_kinds [] [] [] h g = tt
  zip_kinds [] [] (y ∷ ys) h g = absurd g
  zip_kinds [] (x ∷ xs) ys h g = absurd h
  zip_kinds (k ∷ ks) [] ys h g = absurd h
  zip_kinds (k ∷ ks) (x ∷ xs) [] h g = absurd g
  zip_kinds (k ∷ ks) (x ∷ xs) (y ∷ ys) h g = ((k, h.0, g.0), zip_kinds ks xs ys h.1 g.1)

  pub both_kinds : (ks : List Kind) (xs ys : List (Option NodeId)) → MayHaveKinds lk ks xs → MayHaveKinds rk ks ys → AllByRecursion (OneKind lk rk) (known_both xs ys)
  both_kinds [] [] ys h g = tt
  both_kinds [] (x ∷ xs) ys h g = absurd h
  both_kinds (k ∷ ks) [] ys h g = absurd h
  both_kinds (k ∷ ks) (x ∷ xs) [] h g = absurd g
  both_kinds (k ∷ ks) (None ∷ xs) (y ∷ ys) h g = both_kinds ks xs ys h.1 g.1
  both_kinds (k ∷ ks) (Some x ∷ xs) (None ∷ ys) h g = both_kinds ks xs ys h.1 g.1
  both_kinds (k ∷ ks) (Some x ∷ xs) (Some y ∷ ys) h g = ((k, h.0, g.0), both_kinds ks xs ys h.1 g.1)

all_end : {X : Type 0} (P : X → Type 0) (xs ys : List X) → AllByRecursion P xs → AllByRecursion P ys → AllByRecursion P (xs ++ ys)
all_end P [] ys a b = b
all_end P (x ∷ xs) ys a b = (a.0, all_end P xs ys a.1 b)

pub all_front : {X : Type 0} (P : X → Type 0) (xs ys : List X) → AllByRecursion P (xs ++ ys) → AllByRecursion P xs × AllByRecursion P ys
all_front P [] ys a = (tt, a)
all_front P (x ∷ xs) ys a = let rest = all_front P xs ys a.1 in ((a.0, rest.0), rest.1)

-- the arguments of one predicate have one list of kinds
pub one_params : (defs : List Def) (rk : Kinds) (pred own : PredId) (def : Def) (args : List NodeId) → pred ≡ own → slice_get defs pred.0 ≡ Some def → ArgsFit defs rk own args → HaveKinds rk def.params args
one_params defs rk pred own def args same is g =
    let one : g.0 ≡ def = let there : slice_get defs own.0 ≡ Some def = ap (λ (p : PredId). slice_get defs p.0) (sym same) ∙ is in cc (g.1, there) in
    subst (λ (d : Def). HaveKinds rk d.params args) one g.2

pub one_fields : (structs : List StructInfo) (rk : Kinds) (shape own : StructId) (info other : StructInfo) (fields : List (Option NodeId)) → shape ≡ own → slice_get structs shape.0 ≡ Some info
    → slice_get structs own.0 ≡ Some other → MayHaveKinds rk (map (λ f. f.kind) other.fields) fields → MayHaveKinds rk (map (λ f. f.kind) info.fields) fields
one_fields structs rk shape own info other fields same is also h =
    let one : other ≡ info = let there : slice_get structs own.0 ≡ Some info = ap (λ (p : StructId). slice_get structs p.0) (sym same) ∙ is in cc (also, there) in
    subst (λ (i : StructInfo). MayHaveKinds rk (map (λ f. f.kind) i.fields) fields) one h

module _ (defs : List Def) (structs : List StructInfo) (lk rk : Kinds) where
  pub edge_kinds : (e f : Edge) → Fits defs structs lk e → Fits defs structs rk f → Alike e f → AllByRecursion (OneKind lk rk) (pairs_of e f)
  edge_kinds (Block a shape fields) (Block b own others) h g s =
      both_kinds lk rk (map (λ f. f.kind) h.1.0.fields) fields others h.1.2 (one_fields structs rk shape own h.1.0 g.1.0 others s h.1.1 g.1.1 g.1.2)
  edge_kinds (Block a shape fields) (Ind b own others) h g s = absurd s
  edge_kinds (Block a shape fields) (Seg b others own stop stops) h g s = absurd s
  edge_kinds (Ind a pred args) (Block b own others) h g s = absurd s
  edge_kinds (Ind a pred args) (Ind b own others) h g s =
      zip_kinds lk rk h.0.1.0.params args others h.0.1.2 (one_params defs rk pred own h.0.1.0 others s h.0.1.1 g.0.1)
  edge_kinds (Ind a pred args) (Seg b others own stop stops) h g s = absurd s
  edge_kinds (Seg a args pred «end» ends) (Block b own others) h g s = absurd s
  edge_kinds (Seg a args pred «end» ends) (Ind b own others) h g s = absurd s
  edge_kinds (Seg a args pred «end» ends) (Seg b others own stop stops) h g s =
      all_end (OneKind lk rk) (zip args others) ((end, stop) ∷ zip ends stops)
      (zip_kinds lk rk h.0.1.0.params args others h.0.1.2 (one_params defs rk pred own h.0.1.0 others s h.0.1.1 g.0.1))
      ((Ptr, h.0.2, g.0.2), zip_kinds lk rk h.0.3.0.params ends stops h.0.3.2 (one_params defs rk pred own h.0.3.0 stops s h.0.3.1 g.0.3))

  -- ---- the edge of the result

  module _ (K : Kinds) (pairs : Pairs) (nk : (kind : Kind) (x y : NodeId) → HasKind lk kind x → HasKind rk kind y → Listed pairs (x, y) → HasKind K kind (node_for pairs x y)) where
    have_joint : (ks : List Kind) (xs ys : List NodeId) → HaveKinds lk ks xs → HaveKinds rk ks ys → AllByRecursion (Listed pairs) (zip xs ys) → HaveKinds K ks (nodes_for pairs xs ys)
    have_joint [] [] [] h g l = tt
    have_joint [] [] (y ∷ ys) h g l = absurd g
    have_joint [] (x ∷ xs) ys h g l = absurd h
    have_joint (k ∷ ks) [] ys h g l = absurd h
    have_joint (k ∷ ks) (x ∷ xs) [] h g l = absurd g
    have_joint (k ∷ ks) (x ∷ xs) (y ∷ ys) h g l = (nk k x y h.0 g.0 l.0, have_joint ks xs ys h.1 g.1 l.1)

    pub may_joint : (ks : List Kind) (xs ys : List (Option NodeId)) → MayHaveKinds lk ks xs → MayHaveKinds rk ks ys → AllByRecursion (Listed pairs) (known_both xs ys)
        → MayHaveKinds K ks (known_for pairs xs ys)
    may_joint [] [] [] h g l = tt
    may_joint [] [] (y ∷ ys) h g l = absurd g
    may_joint [] (x ∷ xs) ys h g l = absurd h
    may_joint (k ∷ ks) [] ys h g l = absurd h
    may_joint (k ∷ ks) (x ∷ xs) [] h g l = absurd g
    may_joint (k ∷ ks) (None ∷ xs) (y ∷ ys) h g l = (tt, may_joint ks xs ys h.1 g.1 l)
    may_joint (k ∷ ks) (Some x ∷ xs) (None ∷ ys) h g l = (tt, may_joint ks xs ys h.1 g.1 l)
    may_joint (k ∷ ks) (Some x ∷ xs) (Some y ∷ ys) h g l = (nk k x y h.0 g.0 l.0, may_joint ks xs ys h.1 g.1 l.1)

    count : (ks : List Kind) (xs ys : List (Option NodeId)) → MayHaveKinds lk ks xs → MayHaveKinds rk ks ys → length (known_for pairs xs ys) ≡ length xs
    count [] [] [] h g = refl
    count [] [] (y ∷ ys) h g = absurd g
    count [] (x ∷ xs) ys h g = absurd h
    count (k ∷ ks) [] ys h g = absurd h
    count (k ∷ ks) (x ∷ xs) [] h g = absurd g
    count (k ∷ ks) (x ∷ xs) (y ∷ ys) h g = ap suc (count ks xs ys h.1 g.1)

    pub edge_fits : (e f new : Edge) → Fits defs structs lk e → Fits defs structs rk f → Alike e f → Listed pairs (start_of e, start_of f) → AllByRecursion (Listed pairs) (pairs_of e f)
        → edge_for pairs e f ≡ Some new → Fits defs structs K new
    edge_fits (Block a shape fields) (Block b own others) new h g s start l is =
        let ks = map (λ f. f.kind) h.1.0.fields in
        let right = one_fields structs rk shape own h.1.0 g.1.0 others s h.1.1 g.1.1 g.1.2 in
        let same : Block (node_for pairs a b) shape (known_for pairs fields others) ≡ new = cc is in
        subst (Fits defs structs K) same (
          (nk Ptr a b h.0.0 g.0.0 start, λ p r def rule d li bl. count ks fields others h.1.2 right ∙ h.0.1 p r def rule d li bl),
          (h.1.0, h.1.1, may_joint ks fields others h.1.2 right l),
        )
    edge_fits (Block a shape fields) (Ind b own others) new h g s start l is = absurd s
    edge_fits (Block a shape fields) (Seg b others own stop stops) new h g s start l is = absurd s
    edge_fits (Ind a pred args) (Block b own others) new h g s start l is = absurd s
    edge_fits (Ind a pred args) (Ind b own others) new h g s start l is =
        let same : Ind (node_for pairs a b) pred (nodes_for pairs args others) ≡ new = cc is in
        subst (Fits defs structs K) same (
          (
            nk Ptr a b h.0.0 g.0.0 start,
            (h.0.1.0, h.0.1.1, have_joint h.0.1.0.params args others h.0.1.2 (one_params defs rk pred own h.0.1.0 others s h.0.1.1 g.0.1) l),
          ),
          tt,
        )
    edge_fits (Ind a pred args) (Seg b others own stop stops) new h g s start l is = absurd s
    edge_fits (Seg a args pred «end» ends) (Block b own others) new h g s start l is = absurd s
    edge_fits (Seg a args pred «end» ends) (Ind b own others) new h g s start l is = absurd s
    edge_fits (Seg a args pred «end» ends) (Seg b others own stop stops) new h g s start l is =
        let parts = all_front (Listed pairs) (zip args others) ((end, stop) ∷ zip ends stops) l in
        let same : Seg (node_for pairs a b) (nodes_for pairs args others) pred (node_for pairs end stop) (nodes_for pairs ends stops) ≡ new = cc is in
        subst (Fits defs structs K) same (
          (
            nk Ptr a b h.0.0 g.0.0 start,
            (h.0.1.0, h.0.1.1, have_joint h.0.1.0.params args others h.0.1.2 (one_params defs rk pred own h.0.1.0 others s h.0.1.1 g.0.1) parts.0),
            nk Ptr end stop h.0.2 g.0.2 parts.1.0,
            (h.0.3.0, h.0.3.1, have_joint h.0.3.0.params ends stops h.0.3.2 (one_params defs rk pred own h.0.3.0 stops s h.0.3.1 g.0.3) parts.1.1),
          ),
          tt,
        )
