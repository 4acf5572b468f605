-- The numbers of variables by their places, where one more is added.
use Rattle.std.proofs.Common.{◌≡◌, ℕ, suc, List, [], ◌∷◌, ◌++◌, ◌+◌, refl, ap, ap₂, sym, subst, ◌∙◌, Bool, true, false, ◌&&◌, cond, not, length, is_some, true≢false, eqb-true}
use Rattle.std.specs.List.{prefix_len}
use Rattle.std.specs.Option.{option_or}
use Rattle.std.specs.Prelude.{Option, Some, None, position, option_map, ◌==◌}
use Rattle.indexmap.specs.IndexMap.{IndexMap, Updates}
use Rattle.mc_base.specs.declared.text.place.Place.{Place}
use Rattle.mc_semantics.specs.Configs.{is_place}
use Rattle.mc_c_types.specs.declared.scope.Named.{Named}
use Rattle.mc_resolve.specs.Numbered.{AreNumbers}
use Rattle.mc_resolve.specs.declared.locals.PlaceKey.{PlaceKey}
use Rattle.mc_c_syntax.proofs.NamesLemmas.Firsts.{or_none, or_there}
use Rattle.mc_c_syntax.proofs.NamesLemmas.Positions.{position_step, push_step}

-- ---- first places in lists
position_cons : {X : Type 0} (p : X → Bool) (x : X) (xs : List X) → position p (x ∷ xs) ≡ cond (p x) (Some 0) (option_map (λ i. suc i) (position p xs))
position_cons p x xs = position_step (p x) (prefix_len (λ y. not (p y)) xs) (length xs)

position_push : {X : Type 0} (p : X → Bool) (xs : List X) (y : X) → position p (xs ++ y ∷ []) ≡ option_or (position p xs) (cond (p y) (Some (length xs)) None)
position_push p [] y = position_cons p y []
position_push p (x ∷ xs) y =
    rw (position_cons p x (xs ++ y ∷ [])) (rw (position_cons p x xs) (rw (position_push p xs y) (push_step (p x) (position p xs) (p y) (length xs))))

-- ---- places that are the same
both_true : (a b : Bool) → (a && b) ≡ true → (a ≡ true) × (b ≡ true)
both_true true b e = (refl, e)
both_true false b e = absurd (true≢false (sym e))

same_place : (p q : Place) → is_place p q ≡ true → p ≡ q
same_place p q e =
    let sides = both_true _ _ e in
    ap₂ (λ (l c : ℕ). let r : Place = record { line = l; column = c } in r) (eqb-true p.line q.line sides.0) (eqb-true p.column q.column sides.1)

-- the number of the first variable at a place, if one is there
abbrev pub number_at : List Named → Place → Option ℕ
number_at vs place = position (λ v. is_place v.place place) vs

-- a place that is there again leaves the numbers
kept : (vs : List Named) (place other : Place) (b : Bool) → is_place place other ≡ b → is_some (number_at vs place) ≡ true
    → number_at vs other ≡ option_or (number_at vs other) (cond b (Some (length vs)) None)
kept vs place other false same there = or_none (number_at vs other)
kept vs place other true same there =
    or_there (number_at vs other) (Some (length vs)) (subst (λ p. is_some (number_at vs p) ≡ true) (same_place place other same) there)

pub AreNumbers-again : {S : Type 0} (vs : List Named) (numbers : IndexMap PlaceKey ℕ S) (v : Named) → AreNumbers vs numbers
    → is_some (number_at vs v.place) ≡ true → AreNumbers (vs ++ v ∷ []) numbers
AreNumbers-again vs numbers v are there other =
    are other ∙ kept vs v.place other (is_place v.place other) refl there ∙ sym (position_push (λ w. is_place w.place other) vs v)

-- a new one has the last number
placed : (vs : List Named) (place other : Place) (b : Bool) → is_place place other ≡ b → number_at vs place ≡ None
    → cond b (Some (length vs)) (number_at vs other) ≡ option_or (number_at vs other) (cond b (Some (length vs)) None)
placed vs place other false same absent = or_none (number_at vs other)
placed vs place other true same absent =
    let gone : number_at vs other ≡ None = subst (λ p. number_at vs p ≡ None) (same_place place other same) absent in
    ap (λ o. option_or o (Some (length vs))) (sym gone)

-- two keys are the same
abbrev pub same_key : PlaceKey → PlaceKey → Bool
same_key k l = k.line == l.line && k.column == l.column

pub AreNumbers-new : {S : Type 0} (vs : List Named) (numbers more : IndexMap PlaceKey ℕ S) (v : Named) (key : PlaceKey) → AreNumbers vs numbers
    → number_at vs v.place ≡ None → key ≡ record { line = v.place.line; column = v.place.column } → Updates same_key numbers more key (Some (length vs))
    → AreNumbers (vs ++ v ∷ []) more
AreNumbers-new vs numbers more v key are absent is updates other =
    updates.0 (record { line = other.line; column = other.column })
    ∙ ap (λ o. cond (same_key key (record { line = other.line; column = other.column })) (Some (length vs)) o) (are other)
    ∙ ap (λ k. cond (same_key k (record { line = other.line; column = other.column })) (Some (length vs)) (number_at vs other)) is
    ∙ placed vs v.place other (is_place v.place other) refl absent
    ∙ sym (position_push (λ w. is_place w.place other) vs v)
