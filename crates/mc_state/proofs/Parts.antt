-- Parts of a region, one for each thing of a list, as things come and go.
use Rattle.std.proofs.Common.{◌≡◌, ℕ, suc, List, [], ◌∷◌, ◌++◌, Bool, true, false, Some, refl, sym, subst}
use Rattle.std.specs.Prelude.{◌==◌, if◌then◌else◌}
use Rattle.std.specs.List.{AllByRecursion}
use Rattle.mc_base.specs.declared.ids.EdgeId.{EdgeId}
use Rattle.mc_flow.specs.Heap.Heap.{Region}
use Rattle.mc_flow.specs.Heap.Instances.{nowhere}
use Rattle.mc_flow.specs.Heap.Parts.{Split, IsEmpty, Star}
use Rattle.mc_flow.specs.Heap.PartLaws.{SplitCommutes, SplitRegroupsLeft, SplitRegroupsRight, SplitDropsEmpty, SplitAddsEmpty}
use Rattle.mc_state.specs.declared.graph.edge.Edge.{Edge}
use Rattle.mc_state.specs.Graph.Graph.{Edges, Picks, edge_with, without, replaced, numbered}

-- what holds of parts
pub record SplitLaws : Type 0 where
  pub commutes : SplitCommutes
  pub left : SplitRegroupsLeft
  pub right : SplitRegroupsRight
  pub drops_empty : SplitDropsEmpty
  pub adds_empty : SplitAddsEmpty

pub nowhere-IsEmpty : IsEmpty nowhere
nowhere-IsEmpty = record { none = λ at. refl }

-- by a meaning that follows where each thing has P
pub star_map : {A : Type 0} (M N : A → Region → Type 0) (P : A → Type 0) → ((x : A) (part : Region) → P x → M x part → N x part) → (xs : List A) (region : Region) → AllByRecursion P xs → Star M xs region → Star N xs region
star_map M N P f [] region a s = s
star_map M N P f (x ∷ xs) region a s = (s.0, s.1, s.2, f x s.0 a.0 s.3, star_map M N P f xs s.1 a.1 s.4)

-- edges that are numbered
pub star_numbered : (M : Edge → Region → Type 0) (n : ℕ) (new : List Edge) (region : Region) → Star M new region → Star (λ (e : EdgeId × Edge). M e.1) (numbered n new) region
star_numbered M n [] region s = s
star_numbered M n (e ∷ new) region s = (s.0, s.1, s.2, s.3, star_numbered M (suc n) new s.1 s.4)

module _ (laws : SplitLaws) where
  -- a region alone, and nothing apart from it
  pub all_of_it : (region : Region) → Split region region nowhere
  all_of_it region = laws.commutes region nowhere region (laws.adds_empty region nowhere nowhere-IsEmpty)

  pub star_append : {A : Type 0} (M : A → Region → Type 0) (xs ys : List A) (region left right : Region) → Split region left right → Star M xs left → Star M ys right → Star M (xs ++ ys) region
  star_append M [] ys region left right split s t = subst (λ r. Star M ys r) (sym (laws.drops_empty region left right s split)) t
  star_append M (x ∷ xs) ys region left right split s t =
      let whole = laws.right region left right s.0 s.1 split s.2 in
      (s.0, whole.0, whole.2, s.3, star_append M xs ys whole.0 s.1 right whole.1 s.4 t)

  module _ (M : Edge → Region → Type 0) where
    -- each edge of a list with ids has a part
    abbrev pub Each : Edges → Region → Type 0
    Each es region = Star (λ (e : EdgeId × Edge). M e.1) es region

    -- an edge and its part, and the other edges and theirs
    abbrev pub Taken : Edges → EdgeId → Edge → Region → Type 0
    Taken es id x region = (part : Region) × (others : Region) × Split region part others × M x part × Each (without es id) others

    pub star_take : (es : Edges) (id : EdgeId) (x : Edge) (region : Region) → edge_with es id ≡ Some x → Each es region → Taken es id x region
    star_take [] id x region e s = cc
    star_take (y ∷ ys) id x region e s = at (λ h. star_take ys id x s.1 h s.4) (y.0.0 == id.0) e
      where
        at : (edge_with ys id ≡ Some x → Taken ys id x s.1) → (here : Bool) → (if here then Some y.1 else edge_with ys id) ≡ Some x
            → (part : Region) × (others : Region) × Split region part others × M x part × Each (if here then ys else y ∷ without ys id) others
        at rest true e = let same : y.1 ≡ x = cc in (s.0, s.1, s.2, subst (λ z. M z s.0) same s.3, s.4)
        at rest false e =
            let more = rest e in
            let whole = laws.right region s.1 s.0 more.0 more.1 (laws.commutes region s.0 s.1 s.2) more.2 in
            (more.0, whole.0, whole.2, more.3, (s.0, more.1, laws.commutes whole.0 more.1 s.0 whole.1, s.3, more.4))

    -- an edge in the place of one
    pub star_put : (es : Edges) (id : EdgeId) (x y : Edge) (region part others : Region) → edge_with es id ≡ Some x → Split region part others → M y part → Each (without es id) others → Each (replaced es id y) region
    star_put [] id x y region part others e split m s = cc
    star_put (z ∷ zs) id x y region part others e split m s = at (λ whole rest h. star_put zs id x y whole part rest h) (z.0.0 == id.0) e s
      where
        at : ((whole rest : Region) → edge_with zs id ≡ Some x → Split whole part rest → M y part → Each (without zs id) rest → Each (replaced zs id y) whole)
            → (here : Bool) → (if here then Some z.1 else edge_with zs id) ≡ Some x → Each (if here then zs else z ∷ without zs id) others → Each (if here then (z.0, y) ∷ zs else z ∷ replaced zs id y) region
        at more true e s = (part, others, split, m, s)
        at more false e s =
            let whole = laws.right region others part s.0 s.1 (laws.commutes region part others split) s.2 in
            (s.0, whole.0, whole.2, s.3, more whole.0 s.1 e (laws.commutes whole.0 s.1 part whole.1) m s.4)

    -- edges that are named and their parts, and the others and theirs
    pub star_picks : (ids : List EdgeId) (es : Edges) (picked : List Edge) (left : Edges) (region : Region) → Picks ids es picked left → Each es region → (part : Region) × (others : Region) × Split region part others × Star M picked part × Each left others
    star_picks [] es picked left region p s =
        (nowhere, region, laws.adds_empty region nowhere nowhere-IsEmpty, subst (λ xs. Star M xs nowhere) (sym p.0) nowhere-IsEmpty, subst (λ xs. Each xs region) (sym p.1) s)
    star_picks (id ∷ ids) es [] left region p s = absurd p
    star_picks (id ∷ ids) es (x ∷ picked) left region p s =
        let one = star_take es id x region p.0 s in
        let more = star_picks ids (without es id) picked left one.1 p.1 one.4 in
        let both = laws.left region one.0 one.1 more.0 more.1 one.2 more.2 in
        (both.0, more.1, both.2, (one.0, more.0, both.1, one.3, more.3), more.4)
