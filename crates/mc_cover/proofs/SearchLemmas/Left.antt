-- Edges without the used ones.
use Rattle.std.proofs.Common.{◌≡◌, ◌<◌, ◌≤◌, ◌+◌, ℕ, zero, suc, inl, inr, ◌⊎◌, Bool, true, false, not, ◌||◌, ◌&&◌, Option, Some, None, List, [], ◌∷◌, ◌++◌, length, take, map, get_or, refl, sym, ◌∙◌, ap, subst, arith, eqb-true, eq-eqb}
use Rattle.std.specs.Prelude.{◌==◌, if◌then◌else◌}
use Rattle.std.specs.List.{filter}
use Rattle.std.proofs.lemmas.List.{take_more}
use Rattle.mc_base.specs.declared.ids.EdgeId.{EdgeId}
use Rattle.mc_state.specs.declared.graph.edge.Edge.{Edge}
use Rattle.mc_state.specs.Graph.Graph.{Edges, edge_with, without, IdsAscend}
use Rattle.mc_state.specs.declared.terms.Term.{Term}
use Rattle.mc_state.specs.Known.{Test}
use Rattle.mc_state.specs.Named.{others, is_among}
use Rattle.mc_shape_search.proofs.SearchLemmas.Members.{filter_yes, filter_no}
use Rattle.mc_cover.specs.Marks.{ids_of}
use Rattle.mc_cover.specs.Near.{starts_at, near}
use Rattle.mc_cover.specs.Search.Setting.{is_unused}

pub yes_or_no : (b : Bool) → (b ≡ true) ⊎ (b ≡ false)
yes_or_no true = inl refl
yes_or_no false = inr refl

pub no_yes : (b : Bool) → (b ≡ true → ⊥) → b ≡ false
no_yes true h = absurd (h refl)
no_yes false h = refl

pub filter_append : {X : Type 0} (p : X → Bool) (xs ys : List X) → filter p (xs ++ ys) ≡ filter p xs ++ filter p ys
filter_append p [] ys = refl
filter_append p (x ∷ xs) ys =
    elim (yes_or_no (p x)) [
      | inl t ↦ filter_yes p x (xs ++ ys) t ∙ (ap (λ l. x ∷ l) (filter_append p xs ys) ∙ ap (λ l. l ++ filter p ys) (sym (filter_yes p x xs t)))
      | inr t ↦ filter_no p x (xs ++ ys) t ∙ (filter_append p xs ys ∙ ap (λ l. l ++ filter p ys) (sym (filter_no p x xs t)))
    ]

filter_all : {X : Type 0} (p : X → Bool) (xs : List X) → ((x : X) → p x ≡ true) → filter p xs ≡ xs
filter_all p [] h = refl
filter_all p (x ∷ xs) h = filter_yes p x xs (h x) ∙ ap (λ l. x ∷ l) (filter_all p xs h)

lower : (low from : ℕ) (es : Edges) (high : ℕ) → low ≤ from → IdsAscend from es high → IdsAscend low es high
lower low from [] high l a = tt
lower low from (e ∷ es) high l a = (let h = a.0 in omega arith, a.1, a.2)

-- an edge of an id below all is not there
apart : (id : EdgeId) (low : ℕ) (es : Edges) (high : ℕ) → id.0 < low → IdsAscend low es high → filter (λ (e : EdgeId × Edge). not (id.0 == e.0.0)) es ≡ es
apart id low [] high l a = refl
apart id low (e ∷ es) high l a =
    let from = a.0 in
    let differ : (id.0 == e.0.0) ≡ false = no_yes (id.0 == e.0.0) (λ t. let same = eqb-true id.0 e.0.0 t in omega arith) in
    filter_yes (λ (x : EdgeId × Edge). not (id.0 == x.0.0)) e es (ap not differ) ∙ ap (λ l. e ∷ l) (apart id (suc e.0.0) es high (omega arith) a.2)

without_is : (id : EdgeId) (low : ℕ) (es : Edges) (high : ℕ) → IdsAscend low es high → (without es id ≡ filter (λ (e : EdgeId × Edge). not (id.0 == e.0.0)) es) × IdsAscend low (without es id) high
without_is id low [] high a = (refl, tt)
without_is id low (e ∷ es) high a = at (e.0.0 == id.0) refl (without_is id (suc e.0.0) es high a.2)
  where
    at : (here : Bool) → (e.0.0 == id.0) ≡ here → (without es id ≡ filter (λ (x : EdgeId × Edge). not (id.0 == x.0.0)) es) × IdsAscend (suc e.0.0) (without es id) high
        → ((if here then es else e ∷ without es id) ≡ filter (λ (x : EdgeId × Edge). not (id.0 == x.0.0)) (e ∷ es)) × IdsAscend low (if here then es else e ∷ without es id) high
    at true is rest =
        let same : e.0.0 ≡ id.0 = eqb-true e.0.0 id.0 is in
        let own : (id.0 == e.0.0) ≡ true = eq-eqb id.0 e.0.0 (sym same) in
        let gone = filter_no (λ (x : EdgeId × Edge). not (id.0 == x.0.0)) e es (ap not own) in
        let from = a.0 in
        (sym (gone ∙ apart id (suc e.0.0) es high (omega arith) a.2), lower low (suc e.0.0) es high (omega arith) a.2)
    at false is rest =
        let differ : (id.0 == e.0.0) ≡ false = no_yes (id.0 == e.0.0) (λ t. let s : e.0.0 ≡ id.0 = sym (eqb-true id.0 e.0.0 t) in let z : true ≡ false = sym (eq-eqb e.0.0 id.0 s) ∙ is in cc z) in
        (ap (λ l. e ∷ l) rest.0 ∙ sym (filter_yes (λ (x : EdgeId × Edge). not (id.0 == x.0.0)) e es (ap not differ)), (a.0, a.1, rest.1))

one_more : {X : Type 0} (q r : X → Bool) (x : X) (ys zs : List X) → r x ≡ q x → filter q ys ≡ filter r zs → filter q (x ∷ ys) ≡ filter r (x ∷ zs)
one_more q r x ys zs same e =
    elim (yes_or_no (q x)) [
      | inl t ↦ filter_yes q x ys t ∙ (ap (λ l. x ∷ l) e ∙ sym (filter_yes r x zs (same ∙ t)))
      | inr t ↦ filter_no q x ys t ∙ (e ∙ sym (filter_no r x zs (same ∙ t)))
    ]

filter_both : {X : Type 0} (p q r : X → Bool) → ((x : X) → p x ≡ true → r x ≡ q x) → ((x : X) → p x ≡ false → r x ≡ false) → (xs : List X) → filter q (filter p xs) ≡ filter r xs
filter_both p q r pass fail [] = refl
filter_both p q r pass fail (x ∷ xs) =
    elim (yes_or_no (p x)) [
      | inl t ↦ ap (filter q) (filter_yes p x xs t) ∙ one_more q r x (filter p xs) xs (pass x t) (filter_both p q r pass fail xs)
      | inr t ↦ ap (filter q) (filter_no p x xs t) ∙ (filter_both p q r pass fail xs ∙ sym (filter_no r x xs (fail x t)))
    ]

not_true : (b : Bool) → not b ≡ true → b ≡ false
not_true true h = absurd (cc h)
not_true false h = refl

not_false : (b : Bool) → not b ≡ false → b ≡ true
not_false true h = refl
not_false false h = absurd (cc h)

-- the others are those that are not used
pub others_are : (es : Edges) (high : ℕ) (used : List EdgeId) → IdsAscend 0 es high → others es used ≡ filter (is_unused used) es
others_are es high [] a = sym (filter_all (is_unused []) es (λ e. refl))
others_are es high (id ∷ used) a =
    let r = without_is id 0 es high a in
    others_are (without es id) high used r.1
    ∙ (ap (filter (is_unused used)) r.0
    ∙ filter_both (λ (e : EdgeId × Edge). not (id.0 == e.0.0)) (is_unused used) (is_unused (id ∷ used))
    (λ e t. ap (λ b. not (b || is_among e.0 used)) (not_true (id.0 == e.0.0) t)) (λ e t. ap (λ b. not (b || is_among e.0 used)) (not_false (id.0 == e.0.0) t)) es)

pick_none : (b : Bool) → ◌≡◌ {A = Option Edge} None (if b then None else None)
pick_none true = refl
pick_none false = refl

pub others_ascend : (es : Edges) (high : ℕ) (used : List EdgeId) → IdsAscend 0 es high → IdsAscend 0 (others es used) high
others_ascend es high [] a = a
others_ascend es high (id ∷ used) a = others_ascend (without es id) high used (without_is id 0 es high a).1

edge_filter : (es : Edges) (used : List EdgeId) (id : EdgeId) → edge_with (filter (is_unused used) es) id ≡ (if is_among id used then None else edge_with es id)
edge_filter [] used id = pick_none (is_among id used)
edge_filter (e ∷ es) used id = at (e.0.0 == id.0) refl (edge_filter es used id)
  where
    front : (b : Bool) → (e.0.0 == id.0) ≡ b → is_unused used e ≡ true → edge_with (filter (is_unused used) (e ∷ es)) id ≡ (if b then Some e.1 else edge_with (filter (is_unused used) es) id)
    front b is t = ap (λ l. edge_with l id) (filter_yes (is_unused used) e es t) ∙ ap (λ x. if x then Some e.1 else edge_with (filter (is_unused used) es) id) is

    here : e.0 ≡ id → (b : Bool) → is_among id used ≡ b → edge_with (filter (is_unused used) es) id ≡ (if b then None else edge_with es id) → (e.0.0 == id.0) ≡ true → edge_with (filter (is_unused used) (e ∷ es)) id ≡ (if b then None else Some e.1)
    here same true t rest is = ap (λ l. edge_with l id) (filter_no (is_unused used) e es (ap (λ (i : EdgeId). not (is_among i used)) same ∙ ap not t)) ∙ rest
    here same false t rest is = front true is (ap (λ (i : EdgeId). not (is_among i used)) same ∙ ap not t)

    at : (b : Bool) → (e.0.0 == id.0) ≡ b → edge_with (filter (is_unused used) es) id ≡ (if is_among id used then None else edge_with es id)
        → edge_with (filter (is_unused used) (e ∷ es)) id ≡ (if is_among id used then None else (if b then Some e.1 else edge_with es id))
    at true is rest = here (ap (λ n. record { 0 = n }) (eqb-true e.0.0 id.0 is)) (is_among id used) refl rest is
    at false is rest =
        elim (yes_or_no (is_unused used e)) [
          | inl t ↦ front false is t ∙ rest
          | inr t ↦ ap (λ l. edge_with l id) (filter_no (is_unused used) e es t) ∙ rest
        ]

-- the edge with an id, if it is not used
pub free_is : (es : Edges) (high : ℕ) (used : List EdgeId) (id : EdgeId) → IdsAscend 0 es high → edge_with (others es used) id ≡ (if is_among id used then None else edge_with es id)
free_is es high used id a = ap (λ l. edge_with l id) (others_are es high used a) ∙ edge_filter es used id

pub free_used : (es : Edges) (high : ℕ) (used : List EdgeId) (id : EdgeId) → IdsAscend 0 es high → is_among id used ≡ true → edge_with (others es used) id ≡ None
free_used es high used id a t = free_is es high used id a ∙ ap (λ b. if b then None else edge_with es id) t

pub free_unused : (es : Edges) (high : ℕ) (used : List EdgeId) (id : EdgeId) → IdsAscend 0 es high → is_among id used ≡ false → edge_with (others es used) id ≡ edge_with es id
free_unused es high used id a t = free_is es high used id a ∙ ap (λ b. if b then None else edge_with es id) t

-- one edge more is looked at
pub near_more : (know : Test) (at : Term) (used : List EdgeId) (es : Edges) (k : ℕ) (e : EdgeId × Edge) → k < length es → e ≡ get_or es k e
    → ids_of (near know at (filter (is_unused used) (take (k + 1) es))) ≡ ids_of (near know at (filter (is_unused used) (take k es))) ++ ids_of (near know at (filter (is_unused used) (e ∷ [])))
near_more know at used es k e l is =
    ap (λ x. ids_of (near know at (filter (is_unused used) x))) (take_more es k e l ∙ ap (λ y. take k es ++ y ∷ []) (sym is))
    ∙ (ap (λ x. ids_of (near know at x)) (filter_append (is_unused used) (take k es) (e ∷ []))
    ∙ (ap ids_of (filter_append (starts_at know at) (filter (is_unused used) (take k es)) (filter (is_unused used) (e ∷ [])))
    ∙ map_append (near know at (filter (is_unused used) (take k es))) (near know at (filter (is_unused used) (e ∷ [])))))
  where
    map_append : (xs ys : Edges) → ids_of (xs ++ ys) ≡ ids_of xs ++ ids_of ys
    map_append [] ys = refl
    map_append (x ∷ xs) ys = ap (λ l. x.0 ∷ l) (map_append xs ys)

one_id : (know : Test) (at : Term) (used : List EdgeId) (e : EdgeId × Edge) → starts_at know at e ≡ true → is_unused used e ≡ true → filter (starts_at know at) (filter (is_unused used) (e ∷ [])) ≡ e ∷ []
one_id know at used e s u = ap (filter (starts_at know at)) (filter_yes (is_unused used) e [] u) ∙ filter_yes (starts_at know at) e [] s

none_used : (know : Test) (at : Term) (used : List EdgeId) (e : EdgeId × Edge) → is_unused used e ≡ false → filter (starts_at know at) (filter (is_unused used) (e ∷ [])) ≡ []
none_used know at used e u = ap (filter (starts_at know at)) (filter_no (is_unused used) e [] u)

none_near : (know : Test) (at : Term) (used : List EdgeId) (e : EdgeId × Edge) → starts_at know at e ≡ false → filter (starts_at know at) (filter (is_unused used) (e ∷ [])) ≡ []
none_near know at used e s =
    elim (yes_or_no (is_unused used e)) [
      | inl u ↦ ap (filter (starts_at know at)) (filter_yes (is_unused used) e [] u) ∙ filter_no (starts_at know at) e [] s
      | inr u ↦ none_used know at used e u
    ]

and_both : (a b : Bool) → true ≡ (a && b) → (a ≡ true) × (b ≡ true)
and_both true b e = (refl, sym e)
and_both false b e = absurd (cc e)

and_one : (a b : Bool) → false ≡ (a && b) → (a ≡ false) ⊎ (b ≡ false)
and_one true b e = inr (sym e)
and_one false b e = inl refl

-- an edge that is looked at, by one test
pub looked : (know : Test) (at : Term) (used : List EdgeId) (e : EdgeId × Edge) (b : Bool) → b ≡ (starts_at know at e && is_unused used e) → ids_of (near know at (filter (is_unused used) (e ∷ []))) ≡ (if b then e.0 ∷ [] else [])
looked know at used e true h = let both = and_both (starts_at know at e) (is_unused used e) h in ap ids_of (one_id know at used e both.0 both.1)
looked know at used e false h = ap ids_of (elim (and_one (starts_at know at e) (is_unused used e) h) [ inl s ↦ none_near know at used e s | inr u ↦ none_used know at used e u ])

take_past : {X : Type 0} (xs : List X) (k : ℕ) → length xs ≤ k → take k xs ≡ xs
take_past [] zero l = refl
take_past [] (suc k) l = refl
take_past (x ∷ xs) zero l = absurd (omega arith)
take_past (x ∷ xs) (suc k) l = ap (λ r. x ∷ r) (take_past xs k (omega arith))

-- all edges are looked at
pub near_end : (know : Test) (at : Term) (used : List EdgeId) (es : Edges) (high k : ℕ) → IdsAscend 0 es high → length es ≤ k → ids_of (near know at (filter (is_unused used) (take k es))) ≡ ids_of (near know at (others es used))
near_end know at used es high k a l = ap (λ x. ids_of (near know at (filter (is_unused used) x))) (take_past es k l) ∙ ap (λ x. ids_of (near know at x)) (sym (others_are es high used a))
