-- What fits nodes fits them where there are more.
use Rattle.std.proofs.Common.{◌≡◌, ℕ, zero, suc, List, [], ◌∷◌, length, map, replicate, Bool, true, false, Option, Some, None, slice_get, slice_set, refl, ap, subst}
use Rattle.std.specs.Prelude.{◌==◌, if◌then◌else◌, option_map, slice_index_or}
use Rattle.std.specs.List.{AllByRecursion}
use Rattle.mc_base.specs.declared.ids.EdgeId.{EdgeId}
use Rattle.mc_base.specs.declared.ids.NodeId.{NodeId}
use Rattle.mc_base.specs.declared.plain.Atom.{Atom}
use Rattle.mc_base.specs.declared.plain.Atom.TheVariants.{Eq, Ne, In}
use Rattle.mc_base.specs.declared.plain.Kind.{Kind}
use Rattle.mc_base.specs.Atoms.{nodes_of_atom}
use Rattle.mc_flow.specs.declared.defs.rules.Def.{Def}
use Rattle.mc_flow.specs.declared.defs.shapes.StructInfo.{StructInfo}
use Rattle.mc_state.specs.declared.graph.edge.Edge.{Edge}
use Rattle.mc_state.specs.declared.graph.edge.Edge.TheVariants.{Block, Ind, Seg}
use Rattle.mc_state.specs.Graph.Graph.{Edges, without, replaced}
use Rattle.mc_pure.specs.Pure.{Kinds, HasKind, IsWellFormed}
use Rattle.mc_state.specs.Fits.{AreNodes, HaveKinds, MayHaveKind, MayHaveKinds, EdgeFitsDefs, EdgeFitsStructs}

-- nodes keep their kinds
abbrev pub Grows : Kinds → Kinds → Type 0
Grows ks ls = (kind : Kind) (n : NodeId) → HasKind ks kind n → HasKind ls kind n

module _ (ks ls : Kinds) (grows : Grows ks ls) where
  pub atom_grows : (f : Atom) → IsWellFormed ks f → IsWellFormed ls f
  atom_grows (Eq a b c) w = ((w.0.0, grows w.0.0 a w.0.1, grows w.0.0 b w.0.2), w.1)
  atom_grows (Ne a b c) w = ((w.0.0, grows w.0.0 a w.0.1, grows w.0.0 b w.0.2), w.1)
  atom_grows (In a lo hi) w = ((w.0.0, grows w.0.0 a w.0.1), w.1, w.2)

  pub have_grows : (kinds : List Kind) (ns : List NodeId) → HaveKinds ks kinds ns → HaveKinds ls kinds ns
  have_grows [] [] h = tt
  have_grows [] (n ∷ ns) h = absurd h
  have_grows (k ∷ kinds) [] h = absurd h
  have_grows (k ∷ kinds) (n ∷ ns) h = (grows k n h.0, have_grows kinds ns h.1)

  pub may_grow : (kind : Kind) (n : Option NodeId) → MayHaveKind ks kind n → MayHaveKind ls kind n
  may_grow kind None h = tt
  may_grow kind (Some n) h = grows kind n h

  pub all_may_grow : (kinds : List Kind) (ns : List (Option NodeId)) → MayHaveKinds ks kinds ns → MayHaveKinds ls kinds ns
  all_may_grow [] [] h = tt
  all_may_grow [] (n ∷ ns) h = absurd h
  all_may_grow (k ∷ kinds) [] h = absurd h
  all_may_grow (k ∷ kinds) (n ∷ ns) h = (may_grow k n h.0, all_may_grow kinds ns h.1)

  pub defs_grow : (defs : List Def) (e : Edge) → EdgeFitsDefs defs ks e → EdgeFitsDefs defs ls e
  defs_grow defs (Block at shape fields) f = (grows _ at f.0, f.1)
  defs_grow defs (Ind at pred args) f = (grows _ at f.0, (f.1.0, f.1.1, have_grows f.1.0.params args f.1.2))
  defs_grow defs (Seg at args pred stop ends) f =
      (grows _ at f.0, (f.1.0, f.1.1, have_grows f.1.0.params args f.1.2), grows _ stop f.2, (f.3.0, f.3.1, have_grows f.3.0.params ends f.3.2))

  pub structs_grow : (structs : List StructInfo) (e : Edge) → EdgeFitsStructs structs ks e → EdgeFitsStructs structs ls e
  structs_grow structs (Block at shape fields) f = (f.0, f.1, all_may_grow (map (λ f. f.kind) f.0.fields) fields f.2)
  structs_grow structs (Ind at pred args) f = tt
  structs_grow structs (Seg at args pred stop ends) f = tt

-- ---- one of a list

pub known_kind : (ks : Kinds) (kinds : List Kind) (ns : List (Option NodeId)) (x : ℕ) (kind : Kind) (n : NodeId) → MayHaveKinds ks kinds ns → slice_get kinds x ≡ Some kind → slice_get ns x ≡ Some (Some n) → HasKind ks kind n
known_kind ks [] [] x kind n h k e = absurd (cc e)
known_kind ks [] (m ∷ ns) x kind n h k e = absurd h
known_kind ks (j ∷ kinds) [] x kind n h k e = absurd h
known_kind ks (j ∷ kinds) (None ∷ ns) zero kind n h k e = absurd (cc e)
known_kind ks (j ∷ kinds) (Some m ∷ ns) zero kind n h k e =
    let same : m ≡ n = cc e in
    let kinds_same : j ≡ kind = cc k in
    subst (λ (i : Kind). HasKind ks i n) kinds_same (subst (λ (a : NodeId). HasKind ks j a) same h.0)
known_kind ks (j ∷ kinds) (m ∷ ns) (suc x) kind n h k e = known_kind ks kinds ns x kind n h.1 k e

pub kind_set : (ks : Kinds) (kinds : List Kind) (ns : List (Option NodeId)) (x : ℕ) (kind : Kind) (n : Option NodeId) → MayHaveKinds ks kinds ns → slice_get kinds x ≡ Some kind → MayHaveKind ks kind n → MayHaveKinds ks kinds (slice_set ns x n)
kind_set ks [] [] x kind n h k m = tt
kind_set ks [] (o ∷ ns) x kind n h k m = absurd h
kind_set ks (j ∷ kinds) [] x kind n h k m = absurd h
kind_set ks (j ∷ kinds) (o ∷ ns) zero kind n h k m = let same : kind ≡ j = cc k in (subst (λ (i : Kind). MayHaveKind ks i n) same m, h.1)
kind_set ks (j ∷ kinds) (o ∷ ns) (suc x) kind n h k m = (h.0, kind_set ks kinds ns x kind n h.1 k m)

pub unknown_set : (ks : Kinds) (kinds : List Kind) (ns : List (Option NodeId)) (x : ℕ) → MayHaveKinds ks kinds ns → MayHaveKinds ks kinds (slice_set ns x None)
unknown_set ks [] [] x h = tt
unknown_set ks [] (o ∷ ns) x h = absurd h
unknown_set ks (j ∷ kinds) [] x h = absurd h
unknown_set ks (j ∷ kinds) (o ∷ ns) zero h = (tt, h.1)
unknown_set ks (j ∷ kinds) (o ∷ ns) (suc x) h = (h.0, unknown_set ks kinds ns x h.1)

pub all_unknown : (ks : Kinds) (kinds : List Kind) → MayHaveKinds ks kinds (replicate (length kinds) None)
all_unknown ks [] = tt
all_unknown ks (k ∷ kinds) = (tt, all_unknown ks kinds)

pub get_slice : (ns : List (Option NodeId)) (x : ℕ) (n : NodeId) → slice_index_or ns x None ≡ Some n → slice_get ns x ≡ Some (Some n)
get_slice [] x n e = absurd (cc e)
get_slice (m ∷ ns) zero n e = ap (λ (o : Option NodeId). Some o) e
get_slice (m ∷ ns) (suc x) n e = get_slice ns x n e

pub map_slice : {X : Type 0} (g : X → Kind) (xs : List X) (x : ℕ) (kind : Kind) → option_map g (slice_get xs x) ≡ Some kind → slice_get (map g xs) x ≡ Some kind
map_slice g [] x kind e = absurd (cc e)
map_slice g (y ∷ xs) zero kind e = e
map_slice g (y ∷ xs) (suc x) kind e = map_slice g xs x kind e

pub length_map : {X Y : Type 0} (g : X → Y) (xs : List X) → length (map g xs) ≡ length xs
length_map g [] = refl
length_map g (x ∷ xs) = ap suc (length_map g xs)

pub length_unknown : (count : ℕ) → length {A = Option NodeId} (replicate count None) ≡ count
length_unknown zero = refl
length_unknown (suc count) = ap suc (length_unknown count)

pub length_set : (ns : List (Option NodeId)) (x : ℕ) (n : Option NodeId) → length (slice_set ns x n) ≡ length ns
length_set [] x n = refl
length_set (m ∷ ns) zero n = refl
length_set (m ∷ ns) (suc x) n = ap suc (length_set ns x n)

-- ---- edges

pub all_without : (P : Edge → Type 0) (es : Edges) (id : EdgeId) → AllByRecursion (λ (e : EdgeId × Edge). P e.1) es → AllByRecursion (λ (e : EdgeId × Edge). P e.1) (without es id)
all_without P [] id a = tt
all_without P (x ∷ es) id a = at (all_without P es id a.1) (x.0.0 == id.0)
  where
    at : AllByRecursion (λ (e : EdgeId × Edge). P e.1) (without es id) → (b : Bool) → AllByRecursion (λ (e : EdgeId × Edge). P e.1) (if b then es else x ∷ without es id)
    at others true = a.1
    at others false = (a.0, others)

pub all_replaced : (P : Edge → Type 0) (es : Edges) (id : EdgeId) (new : Edge) → P new → AllByRecursion (λ (e : EdgeId × Edge). P e.1) es → AllByRecursion (λ (e : EdgeId × Edge). P e.1) (replaced es id new)
all_replaced P [] id new p a = tt
all_replaced P (x ∷ es) id new p a = at (all_replaced P es id new p a.1) (x.0.0 == id.0)
  where
    at : AllByRecursion (λ (e : EdgeId × Edge). P e.1) (replaced es id new) → (b : Bool) → AllByRecursion (λ (e : EdgeId × Edge). P e.1) (if b then (x.0, new) ∷ es else x ∷ replaced es id new)
    at others true = (p, a.1)
    at others false = (a.0, others)

-- ---- nodes of atoms

pub atom_there : (ks : Kinds) (f : Atom) → IsWellFormed ks f → AreNodes ks (nodes_of_atom f)
atom_there ks (Eq a b c) w = ((w.0.0, w.0.1), ((w.0.0, w.0.2), tt))
atom_there ks (Ne a b c) w = ((w.0.0, w.0.1), ((w.0.0, w.0.2), tt))
atom_there ks (In a lo hi) w = (w.0, tt)
