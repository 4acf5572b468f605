-- Edges at places, in the order of their ids.
use Rattle.std.proofs.Common.{◌≡◌, ◌≢◌, ℕ, zero, suc, ◌<◌, ◌≤◌, ◌+◌, ◌-◌, ◌⊎◌, inl, inr, [], ◌∷◌, ◌++◌, length, true, false, Some, None, slice_get, get_or, take, map, refl, sym, ap, subst, ◌∙◌, arith}
use Rattle.std.specs.Prelude.{◌==◌, slice_set}
use Rattle.std.specs.List.{remove}
use Rattle.std.proofs.lemmas.Option.{slice_get_within, slice_get-get_or}
use Rattle.mc_base.specs.declared.ids.EdgeId.{EdgeId}
use Rattle.mc_base.specs.declared.ids.NodeId.{NodeId}
use Rattle.mc_state.specs.declared.graph.edge.Edge.{Edge}
use Rattle.mc_state.specs.Graph.Edges.{moved_edge, with_field_node}
use Rattle.mc_state.specs.Graph.Graph.{Edges, IdsAscend, edge_with, without, replaced}
use Rattle.mc_symbolic.specs.Edges.Places.{DoAscend, IsPlace, IsAbsent, StandsAt}

abbrev pub Entry : Type 0
Entry = EdgeId × Edge

pub one_entry : (xs : Edges) (i : ℕ) (x y : Entry) → slice_get xs i ≡ Some x → slice_get xs i ≡ Some y → x ≡ y
one_entry xs i x y e f = cc

-- ids ascend
rise_at : (low : ℕ) (es : Edges) (high : ℕ) → IdsAscend low es high → (i : ℕ) (a : Entry) → slice_get es i ≡ Some a → low ≤ a.0.0
rise_at low [] high r i a e = cc
rise_at low (x ∷ es) high r zero a e =
    let same : x ≡ a = cc in
    let first = r.0 in
    let n : x.0.0 ≡ a.0.0 = ap (λ (z : Entry). z.0.0) same in
    omega arith
rise_at low (x ∷ es) high r (suc i) a e =
    let h = rise_at (suc x.0.0) es high r.2 i a e in
    let first = r.0 in
    omega arith

pub do_ascend : (low : ℕ) (es : Edges) (high : ℕ) → IdsAscend low es high → DoAscend es
do_ascend low [] high r i j a b l e f = cc
do_ascend low (x ∷ es) high r i zero a b l e f = absurd (omega arith)
do_ascend low (x ∷ es) high r zero (suc j) a b l e f =
    let same : x ≡ a = cc in
    let n : x.0.0 ≡ a.0.0 = ap (λ (z : Entry). z.0.0) same in
    let h = rise_at (suc x.0.0) es high r.2 j b f in
    omega arith
do_ascend low (x ∷ es) high r (suc i) (suc j) a b l e f = do_ascend (suc x.0.0) es high r.2 i j a b (omega arith) e f

-- the search
pub low_more : (es : Edges) (id : EdgeId) (middle : ℕ) (d : Entry) → DoAscend es → middle < length es → (get_or es middle d).0.0 < id.0 → (i : ℕ) (a : Entry) → i < middle + 1 → slice_get es i ≡ Some a → a.0.0 < id.0
low_more es id middle d r lt less i a l e =
    let m = slice_get-get_or es middle d lt in
    elim (split i middle l) [
      | inl x ↦ (let h = r i middle a (get_or es middle d) x e m in omega arith)
      | inr x ↦
          let s = one_entry es middle (get_or es middle d) a m (subst (λ (z : ℕ). slice_get es z ≡ Some a) x e) in
          let n : (get_or es middle d).0.0 ≡ a.0.0 = ap (λ (z : Entry). z.0.0) s in
          omega arith
    ]
  where
    split : (i m : ℕ) → i < m + 1 → (i < m) ⊎ (i ≡ m)
    split i m l = grind arith

pub high_less : (es : Edges) (id : EdgeId) (middle : ℕ) (d : Entry) → DoAscend es → middle < length es → id.0 ≤ (get_or es middle d).0.0 → (i : ℕ) (a : Entry) → middle ≤ i → slice_get es i ≡ Some a → id.0 ≤ a.0.0
high_less es id middle d r lt less i a l e =
    let m = slice_get-get_or es middle d lt in
    elim (split i middle l) [
      | inl x ↦ (let h = r middle i (get_or es middle d) a x m e in omega arith)
      | inr x ↦
          let s = one_entry es middle (get_or es middle d) a m (subst (λ (z : ℕ). slice_get es z ≡ Some a) (sym x) e) in
          let n : (get_or es middle d).0.0 ≡ a.0.0 = ap (λ (z : Entry). z.0.0) s in
          omega arith
    ]
  where
    split : (i m : ℕ) → m ≤ i → (m < i) ⊎ (m ≡ i)
    split i m l = grind arith

-- what the search finds
sides : (i p : ℕ) → (i < p) ⊎ ((i ≡ p) ⊎ (p < i))
sides i p = grind arith

pub found : (es : Edges) (id : EdgeId) (place : ℕ) → DoAscend es → place < length es → ((e : Entry) → slice_get es place ≡ Some e → e.0 ≡ id) → StandsAt es id place
found es id place r lt here = (lt, λ i a e. (one i a e, same i a e))
  where
    same : (i : ℕ) (a : Entry) → slice_get es i ≡ Some a → i ≡ place → a.0 ≡ id
    same i a e q = here a (subst (λ (z : ℕ). slice_get es z ≡ Some a) q e)

    one : (i : ℕ) (a : Entry) → slice_get es i ≡ Some a → a.0 ≡ id → i ≡ place
    one i a e q =
        let p = at_place es place lt in
        let h = here p.0 p.1 in
        let n : a.0.0 ≡ p.0.0.0 = ap (λ (z : EdgeId). z.0) (q ∙ sym h) in
        elim (sides i place) [
          | inl x ↦ (let k = r i place a p.0 x e p.1 in absurd (omega arith))
          | inr x ↦ elim x [ inl y ↦ y | inr y ↦ (let k = r place i p.0 a y p.1 e in absurd (omega arith)) ]
        ]
      where
        at_place : (es : Edges) (place : ℕ) → place < length es → (e : Entry) × (slice_get es place ≡ Some e)
        at_place [] place l = absurd (omega arith)
        at_place (x ∷ es) zero l = (x, refl)
        at_place (x ∷ es) (suc place) l = at_place es place (omega arith)

pub missing : (es : Edges) (id : EdgeId) (place : ℕ) → DoAscend es → IsPlace es id place → ((e : Entry) → slice_get es place ≡ Some e → e.0 ≢ id) → IsAbsent es id
missing es id place r p none i a e q =
    let n : a.0.0 ≡ id.0 = ap (λ (z : EdgeId). z.0) q in
    elim (sides i place) [
      | inl x ↦ (let k = p.0 i a x e in omega arith)
      | inr x ↦ elim x [
        | inl y ↦ none a (subst (λ (z : ℕ). slice_get es z ≡ Some a) y e) q
        | inr y ↦ past y
      ]
    ]
  where
    past : place < i → ⊥
    past l =
        let w = slice_get_within es i a e in
        let m = slice_get-get_or es place a (omega arith) in
        let k = r place i (get_or es place a) a l m e in
        let z = p.1 place (get_or es place a) (omega arith) m in
        let n : a.0.0 ≡ id.0 = ap (λ (z : EdgeId). z.0) q in
        omega arith

-- the edge with an id, by its place
differs : (a id : EdgeId) → (a ≡ id → ⊥) → (a.0 == id.0) ≡ false
differs a id n = no (λ e. n (same a id e))
  where
    same : (a b : EdgeId) → a.0 ≡ b.0 → a ≡ b
    same a b e = ap (λ (z : ℕ). record { 0 = z }) e

    no : (a.0 ≡ id.0 → ⊥) → (a.0 == id.0) ≡ false
    no n = grind arith

equals : (a id : EdgeId) → a ≡ id → (a.0 == id.0) ≡ true
equals a id e = yes (ap (λ (z : EdgeId). z.0) e)
  where
    yes : a.0 ≡ id.0 → (a.0 == id.0) ≡ true
    yes e = grind arith

tail_absent : (e : Entry) (es : Edges) (id : EdgeId) → IsAbsent (e ∷ es) id → IsAbsent es id
tail_absent e es id a i x h = a (suc i) x h

pub absent_edge : (es : Edges) (id : EdgeId) → IsAbsent es id → edge_with es id ≡ None
absent_edge [] id a = refl
absent_edge (e ∷ es) id a = rw (differs e.0 id (a 0 e refl)) (absent_edge es id (tail_absent e es id a))

pub absent_without : (es : Edges) (id : EdgeId) → IsAbsent es id → without es id ≡ es
absent_without [] id a = refl
absent_without (e ∷ es) id a = rw (differs e.0 id (a 0 e refl)) (ap (λ (z : Edges). e ∷ z) (absent_without es id (tail_absent e es id a)))

pub absent_replaced : (es : Edges) (id : EdgeId) (new : Edge) → IsAbsent es id → replaced es id new ≡ es
absent_replaced [] id new a = refl
absent_replaced (e ∷ es) id new a = rw (differs e.0 id (a 0 e refl)) (ap (λ (z : Edges). e ∷ z) (absent_replaced es id new (tail_absent e es id a)))

-- an edge at a later place
tail_stands : (e : Entry) (es : Edges) (id : EdgeId) (i : ℕ) → StandsAt (e ∷ es) id (suc i) → StandsAt es id i
tail_stands e es id i s = (omega (arith, s.0), λ j a h. ((λ q. let k = (s.1 (suc j) a h).0 q in omega arith), (λ q. (s.1 (suc j) a h).1 (ap suc q))))

not_first : (e : Entry) (es : Edges) (id : EdgeId) (i : ℕ) → StandsAt (e ∷ es) id (suc i) → e.0 ≡ id → ⊥
not_first e es id i s q = let k = (s.1 0 e refl).0 q in omega arith

pub found_edge : (es : Edges) (id : EdgeId) (i : ℕ) (d : Entry) → StandsAt es id i → edge_with es id ≡ Some (get_or es i d).1
found_edge [] id i d s = let w = s.0 in absurd (omega arith)
found_edge (e ∷ es) id zero d s = rw (equals e.0 id ((s.1 0 e refl).1 refl)) refl
found_edge (e ∷ es) id (suc i) d s = rw (differs e.0 id (not_first e es id i s)) (found_edge es id i d (tail_stands e es id i s))

pub found_without : (es : Edges) (id : EdgeId) (i : ℕ) → StandsAt es id i → without es id ≡ remove es i
found_without [] id i s = let w = s.0 in absurd (omega arith)
found_without (e ∷ es) id zero s = rw (equals e.0 id ((s.1 0 e refl).1 refl)) refl
found_without (e ∷ es) id (suc i) s = rw (differs e.0 id (not_first e es id i s)) (ap (λ (z : Edges). e ∷ z) (found_without es id i (tail_stands e es id i s)))

pub found_replaced : (es : Edges) (id : EdgeId) (i : ℕ) (new : Edge) → StandsAt es id i → replaced es id new ≡ slice_set es i (id, new)
found_replaced [] id i new s = let w = s.0 in absurd (omega arith)
found_replaced (e ∷ es) id zero new s =
    let same = (s.1 0 e refl).1 refl in
    rw (equals e.0 id same) (ap (λ (z : EdgeId). (z, new) ∷ es) same)
found_replaced (e ∷ es) id (suc i) new s = rw (differs e.0 id (not_first e es id i s)) (ap (λ (z : Edges). e ∷ z) (found_replaced es id i new (tail_stands e es id i s)))

pub ids_pushed : (low next : ℕ) (es : Edges) (id : EdgeId) (e : Edge) → low ≤ next → id.0 ≡ next → IdsAscend low es next → IdsAscend low (es ++ (id, e) ∷ []) (next + 1)
ids_pushed low next [] id e l q a = (omega arith, omega arith, tt)
ids_pushed low next (x ∷ es) id e l q a = let first = a.0 in let second = a.1 in (omega arith, omega arith, ids_pushed (suc x.0.0) next es id e (omega arith) q a.2)

-- without the last
first_below : (low next : ℕ) (es : Edges) → 0 < length es → IdsAscend low es next → low < next
first_below low next [] l a = absurd (omega arith)
first_below low next (e ∷ es) l a = let first = a.0 in let second = a.1 in omega arith

pub ids_taken : (n low next : ℕ) (es : Edges) → n < length es → IdsAscend low es next → IdsAscend low (take n es) (next - 1)
ids_taken zero low next es l a = tt
ids_taken (suc n) low next [] l a = absurd (omega arith)
ids_taken (suc n) low next (e ∷ es) l a =
    let b = first_below (suc e.0.0) next es (omega arith) a.2 in
    (a.0, omega arith, ids_taken n (suc e.0.0) next es (omega arith) a.2)

-- other nodes, and edges at their places
pub ids_moved : (f : ℕ → ℕ) (low high : ℕ) (es : Edges) → IdsAscend low es high → IdsAscend low (map (λ e. (e.0, moved_edge f e.1)) es) high
ids_moved f low high [] a = tt
ids_moved f low high (e ∷ es) a = (a.0, a.1, ids_moved f (suc e.0.0) high es a.2)

pub at_found : (es : Edges) (id : EdgeId) (i : ℕ) → StandsAt es id i → (e : Entry) × (slice_get es i ≡ Some e) × (e.0 ≡ id) × (edge_with es id ≡ Some e.1)
at_found [] id i s = let w = s.0 in absurd (omega arith)
at_found (e ∷ es) id zero s = (e, refl, (s.1 0 e refl).1 refl, found_edge (e ∷ es) id zero e s)
at_found (e ∷ es) id (suc i) s =
    let h = at_found es id i (tail_stands e es id i s) in
    (h.0, h.1, h.2, rw (differs e.0 id (not_first e es id i s)) h.3)

pub one_edge : (x y : Edge) → Some x ≡ Some y → x ≡ y
one_edge x y e = cc

pub none_there : (es : Edges) (id : EdgeId) (x : Edge) → edge_with es id ≡ None → edge_with es id ≡ Some x → ⊥
none_there es id x e f = let w : None ≡ Some x = sym e ∙ f in cc w

pub set_found : (es : Edges) (id : EdgeId) (i f : ℕ) (node : NodeId) (now : Edges) → StandsAt es id i → ((e : Entry) → slice_get es i ≡ Some e → now ≡ slice_set es i (e.0, with_field_node f node e.1)) → (x : Edge) × (edge_with es id ≡ Some x) × (now ≡ replaced es id (with_field_node f node x))
set_found es id i f node now s h =
    let a = at_found es id i s in
    (a.0.1, a.3, h a.0 a.1 ∙ (ap (λ (z : EdgeId). slice_set es i (z, with_field_node f node a.0.1)) a.2 ∙ sym (found_replaced es id i (with_field_node f node a.0.1) s)))
