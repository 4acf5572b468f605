-- The variable that hides the others of its name stands at the last place of the name.
use Rattle.std.proofs.Common.{◌≡◌, ℕ, zero, suc, List, [], ◌∷◌, ◌++◌, ◌<◌, ◌≤◌, ◌-◌, refl, ap, sym, ◌∙◌, Bool, true, false, cond, length, map, reverse, take, drop, insert, is_some, arith}
use Rattle.std.proofs.lemmas.List.{length-map, map-append, reverse-append}
use Rattle.std.proofs.lemmas.List.Folds.{find-append}
use Rattle.std.proofs.lemmas.Option.{none-some, same_Some, slice_get-get_or}
use Rattle.std.specs.Option.{option_or}
use Rattle.std.specs.Prelude.{Option, Some, None, find, get_or, nat_le, option_and_then, option_map, slice_get}
use Rattle.mc_c_syntax.specs.Ast.Names.{is_same}
use Rattle.mc_c_syntax.specs.Visible.Lasts.{last_place}
use Rattle.mc_c_types.specs.Held.{variable_held, variables_held}
use Rattle.mc_c_types.specs.Tables.{type_in}
use Rattle.mc_c_types.specs.declared.scope.Named.{Named}
use Rattle.mc_c_types.specs.declared.types.VariableType.{VariableType}
use Rattle.mc_c_types.proofs.Finds.{find-read}

-- ---- a place that is found is in the list
below_step : (o : Option ℕ) (b : Bool) (n p : ℕ) → ((q : ℕ) → o ≡ Some q → q < n)
    → option_or (option_map (λ i. suc i) o) (cond b (Some 0) None) ≡ Some p → p < suc n
below_step (Some q) b n p less e =
    let is : suc q ≡ p = same_Some _ _ e in
    let below : q < n = less q refl in
    omega arith
below_step None true n p less e = let is : 0 ≡ p = same_Some _ _ e in omega arith
below_step None false n p less e = absurd (none-some p e)

last_place-below : (names : List (List ℕ)) (name : List ℕ) (p : ℕ) → last_place names name ≡ Some p → p < length names
last_place-below [] name p e = absurd (none-some p e)
last_place-below (x ∷ names) name p e = below_step (last_place names name) (is_same x name) (length names) p (λ q h. last_place-below names name q h) e

-- ---- what is found from the end
last_step : {X : Type 0} (x : X) (xs : List X) (b : Bool) (o : Option ℕ) → ((i : ℕ) → o ≡ Some i → i < length xs)
    → option_or (option_and_then (λ i. slice_get xs i) o) (cond b (Some x) None) ≡ option_and_then (λ i. slice_get (x ∷ xs) i) (option_or (option_map (λ i. suc i) o) (cond b (Some 0) None))
last_step x xs true None below = refl
last_step x xs false None below = refl
last_step x xs b (Some i) below = rw (slice_get-get_or xs i x (below i refl)) refl

pub find-last : {X : Type 0} (name_of : X → List ℕ) (xs : List X) (name : List ℕ)
    → find (λ x. is_same (name_of x) name) (reverse xs) ≡ option_and_then (λ i. slice_get xs i) (last_place (map name_of xs) name)
find-last name_of [] name = refl
find-last name_of (x ∷ xs) name =
    ap (find (λ y. is_same (name_of y) name)) (reverse-append (x ∷ []) xs)
    ∙ find-append (λ y. is_same (name_of y) name) (reverse xs) (x ∷ [])
    ∙ ap (λ o. option_or o (cond (is_same (name_of x) name) (Some x) None)) (find-last name_of xs name)
    ∙ last_step x xs (is_same (name_of x) name) (last_place (map name_of xs) name) (λ i is. below_mapped i (last_place-below (map name_of xs) name i is)) where
      below_mapped : (i : ℕ) → i < length (map name_of xs) → i < length xs
      below_mapped i below = rw (length-map xs name_of) at below

-- ---- variables
abbrev pub names_of : List Named → List (List ℕ)
names_of vs = map (λ v. v.name.now) vs

-- the variable whose name stands last
pub named_found : (vs : List Named) (names : List (List ℕ)) (name : List ℕ) (o : Option ℕ) (found : Option Named) → names ≡ names_of vs → o ≡ last_place names name
    → found ≡ option_and_then (λ i. slice_get vs i) o → found ≡ find (λ v. is_same v.name.now name) (reverse vs)
named_found vs names name o found held is at =
    at ∙ ap (option_and_then (λ i. slice_get vs i)) (is ∙ ap (λ ns. last_place ns name) held) ∙ sym (find-last (λ (v : Named). v.name.now) vs name)

pub type_found : (vs : List Named) (names : List (List ℕ)) (name : List ℕ) (o : Option ℕ) (found : Option Named) → names ≡ names_of vs → o ≡ last_place names name
    → found ≡ option_and_then (λ i. slice_get vs i) o → option_map (λ v. v.variable_type) found ≡ type_in (variables_held vs) name
type_found vs names name o found held is at =
    find-read (λ v. v.type) (λ v. is_same v.name name) variable_held (reverse vs) found
    (at ∙ ap (option_and_then (λ i. slice_get vs i)) (is ∙ ap (λ ns. last_place ns name) held) ∙ sym (find-last (λ (v : Named). v.name.now) vs name))

there : (vs : List Named) (o : Option ℕ) → ((i : ℕ) → o ≡ Some i → i < length vs) → is_some (option_map (λ v. v.variable_type) (option_and_then (λ i. slice_get vs i) o)) ≡ is_some o
there vs None below = refl
there [] (Some i) below = grind (arith, below i refl)
there (v ∷ vs) (Some i) below = rw (slice_get-get_or (v ∷ vs) i v (below i refl)) refl

-- a variable is there where its name is
pub has_type : (vs : List Named) (name : List ℕ) → is_some (type_in (variables_held vs) name) ≡ is_some (last_place (names_of vs) name)
has_type vs name =
    ap is_some (sym (type_found vs (names_of vs) name (last_place (names_of vs) name) (option_and_then (λ i. slice_get vs i) (last_place (names_of vs) name)) refl refl refl))
    ∙ there vs (last_place (names_of vs) name) (λ i is. below_mapped i (last_place-below (names_of vs) name i is)) where
      below_mapped : (i : ℕ) → i < length (names_of vs) → i < length vs
      below_mapped i below = rw (length-map vs (λ (v : Named). v.name.now)) at below

-- ---- between two places
no_more : {X : Type 0} (n : ℕ) → take {A = X} n [] ≡ []
no_more zero = refl
no_more (suc n) = refl

pub drop_first : {X : Type 0} (start end : ℕ) (xs : List X) → drop start (take end xs) ≡ take (end - start) (drop start xs)
drop_first zero end xs = let same : end - 0 ≡ end = omega arith in rw same refl
drop_first (suc start) zero [] = sym (no_more (0 - suc start))
drop_first (suc start) (suc end) [] = sym (no_more (suc end - suc start))
drop_first (suc start) zero (x ∷ xs) = let none : 0 - suc start ≡ 0 = omega arith in rw none refl
drop_first (suc start) (suc end) (x ∷ xs) = let same : suc end - suc start ≡ end - start = omega arith in rw same (drop_first start end xs)

map-take : {X Y : Type 0} (f : X → Y) (n : ℕ) (xs : List X) → map f (take n xs) ≡ take n (map f xs)
map-take f zero xs = refl
map-take f (suc n) [] = refl
map-take f (suc n) (x ∷ xs) = ap (λ ys. f x ∷ ys) (map-take f n xs)

map-drop : {X Y : Type 0} (f : X → Y) (n : ℕ) (xs : List X) → map f (drop n xs) ≡ drop n (map f xs)
map-drop f zero xs = refl
map-drop f (suc n) [] = refl
map-drop f (suc n) (x ∷ xs) = map-drop f n xs

-- whether a place is at least so far
abbrev pub reaches : ℕ → Option ℕ → Bool
reaches start None = false
reaches start (Some place) = nat_le start place

reaches_all : (o : Option ℕ) → is_some o ≡ reaches 0 o
reaches_all None = refl
reaches_all (Some i) = grind arith

reaches_next : (start : ℕ) (b : Bool) (o : Option ℕ) → reaches start o ≡ reaches (suc start) (option_or (option_map (λ i. suc i) o) (cond b (Some 0) None))
reaches_next start b (Some i) = grind arith
reaches_next start true None = grind arith
reaches_next start false None = refl

last_behind : (start : ℕ) (names : List (List ℕ)) (name : List ℕ) → is_some (last_place (drop start names) name) ≡ reaches start (last_place names name)
last_behind zero names name = reaches_all (last_place names name)
last_behind (suc start) [] name = refl
last_behind (suc start) (n ∷ names) name = last_behind start names name ∙ reaches_next start (is_same n name) (last_place names name)

pub has_between : (vs : List Named) (names : List (List ℕ)) (name : List ℕ) (start end : ℕ) (o : Option ℕ) → names ≡ names_of vs → o ≡ last_place (take end names) name
    → reaches start o ≡ is_some (type_in (variables_held (take (end - start) (drop start vs))) name)
has_between vs names name start end o held is =
    ap (reaches start) (is ∙ ap (λ ns. last_place (take end ns) name) held ∙ ap (λ ns. last_place ns name) (sym (map-take (λ (v : Named). v.name.now) end vs)))
    ∙ sym (last_behind start (names_of (take end vs)) name)
    ∙ ap (λ ns. is_some (last_place ns name)) (sym (map-drop (λ (v : Named). v.name.now) start (take end vs)))
    ∙ sym (has_type (drop start (take end vs)) name)
    ∙ ap (λ ws. is_some (type_in (variables_held ws) name)) (drop_first start end vs)

-- ---- what the code holds
pub names_put : (vs : List Named) (names more : List (List ℕ)) (place : ℕ) (v : Named) → names ≡ names_of vs → more ≡ insert names place v.name.now → more ≡ names_of (insert vs place v)
names_put vs names more place v held is =
    is
    ∙ ap (λ ns. insert ns place v.name.now) held
    ∙ ap (λ ns. ns ++ v.name.now ∷ drop place (names_of vs)) (sym (map-take (λ (w : Named). w.name.now) place vs))
    ∙ ap (λ ns. names_of (take place vs) ++ v.name.now ∷ ns) (sym (map-drop (λ (w : Named). w.name.now) place vs))
    ∙ sym (map-append (λ (w : Named). w.name.now) (take place vs) (v ∷ drop place vs))

pub names_kept : (vs : List Named) (names less : List (List ℕ)) (kept : ℕ) → names ≡ names_of vs → less ≡ take kept names → less ≡ names_of (take kept vs)
names_kept vs names less kept held is = is ∙ ap (take kept) held ∙ sym (map-take (λ (w : Named). w.name.now) kept vs)
