-- The first places of names, where one more is added.
use Rattle.std.proofs.Common.{◌≡◌, ℕ, List, [], ◌∷◌, ◌++◌, refl, ap, sym, subst, ◌∙◌, Bool, true, false, cond, length, is_some, true≢false, Bor}
use Rattle.std.proofs.lemmas.List.{map-append}
use Rattle.std.specs.Cmp.Lexicographic.{bytes_decides}
use Rattle.std.specs.Option.{option_or}
use Rattle.std.specs.Prelude.{Option, Some, None, position}
use Rattle.indexmap.specs.IndexMap.{IndexMap, Updates}
use Rattle.mc_c_syntax.specs.Ast.Names.{is_same}
use Rattle.mc_c_syntax.specs.Names.Firsts.{AreFirsts, behind}
use Rattle.mc_c_syntax.proofs.NamesLemmas.Positions.{position-push}

pub same_is : (name other : List ℕ) → is_same name other ≡ true → name ≡ other
same_is name other same = (bytes_decides name other).0 same

abbrev pub place_of : List (List ℕ) → List ℕ → Option ℕ
place_of names name = position (λ n. is_same n name) names

pub or_none : (o : Option ℕ) → o ≡ option_or o None
or_none None = refl
or_none (Some i) = refl

pub or_there : (o p : Option ℕ) → is_some o ≡ true → o ≡ option_or o p
or_there None p there = absurd (true≢false (sym there))
or_there (Some i) p there = refl

-- a name that is there again leaves the first places
kept : (names : List (List ℕ)) (name other : List ℕ) (b : Bool) → is_same name other ≡ b → is_some (place_of names name) ≡ true
    → place_of names other ≡ option_or (place_of names other) (cond b (Some (length names)) None)
kept names name other false same there = or_none (place_of names other)
kept names name other true same there =
    or_there (place_of names other) (Some (length names)) (subst (λ n. is_some (place_of names n) ≡ true) (same_is name other same) there)

pub AreFirsts-again : {S : Type 0} (names : List (Bor (List ℕ))) (firsts : IndexMap (Bor (List ℕ)) ℕ S) (name : Bor (List ℕ)) → AreFirsts (behind names) firsts
    → is_some (place_of (behind names) name.now) ≡ true → AreFirsts (behind (names ++ name ∷ [])) firsts
AreFirsts-again names firsts name are there other =
    rw (map-append (λ n. n.now) names (name ∷ []))
    (are other ∙ kept (behind names) name.now other (is_same name.now other) refl there ∙ sym (position-push (λ n. is_same n other) (behind names) name.now))

-- a new one stands at the end
placed : (names : List (List ℕ)) (name other : List ℕ) (b : Bool) → is_same name other ≡ b → place_of names name ≡ None
    → cond b (Some (length names)) (place_of names other) ≡ option_or (place_of names other) (cond b (Some (length names)) None)
placed names name other false same absent = or_none (place_of names other)
placed names name other true same absent =
    let gone : place_of names other ≡ None = subst (λ n. place_of names n ≡ None) (same_is name other same) absent in
    ap (λ o. option_or o (Some (length names))) (sym gone)

pub AreFirsts-new : {S : Type 0} (names : List (Bor (List ℕ))) (firsts more : IndexMap (Bor (List ℕ)) ℕ S) (name key : Bor (List ℕ)) → AreFirsts (behind names) firsts
    → place_of (behind names) name.now ≡ None → key.now ≡ name.now → Updates (λ k l. is_same k.now l.now) firsts more key (Some (length (behind names)))
    → AreFirsts (behind (names ++ name ∷ [])) more
AreFirsts-new names firsts more name key are absent is updates other =
    rw (map-append (λ n. n.now) names (name ∷ []))
    (updates.0 (record { ref_ptr = key.ref_ptr; now = other })
    ∙ ap (λ o. cond (is_same key.now other) (Some (length (behind names))) o) (are other)
    ∙ ap (λ k. cond (is_same k other) (Some (length (behind names))) (place_of (behind names) other)) is
    ∙ placed (behind names) name.now other (is_same name.now other) refl absent
    ∙ sym (position-push (λ n. is_same n other) (behind names) name.now))
