-- A stack of names with one more, and with one less.
use Rattle.std.proofs.Common.{◌≡◌, ℕ, zero, suc, List, [], ◌∷◌, ◌++◌, ◌<◌, ◌≤◌, ◌⊎◌, inl, inr, refl, ap, sym, subst, ◌∙◌, Bool, true, false, cond, length, map, take, arith, Bor}
use Rattle.std.proofs.lemmas.List.{length-map, length-take, map-append, take-append-le, take_at}
use Rattle.std.proofs.lemmas.Option.{none-some, same_Some, slice_get-map, slice_get_within}
use Rattle.std.specs.Cmp.Lexicographic.{bytes_decides}
use Rattle.std.specs.Option.{unwrap_or}
use Rattle.std.specs.Prelude.{Option, Some, None, option_map, slice_get}
use Rattle.indexmap.specs.IndexMap.{IndexMap, Updates, UpdatesBy, get_by}
use Rattle.mc_c_syntax.specs.Visible.Lasts.{is_same, last_place}
use Rattle.mc_c_syntax.specs.Visible.Stacks.{AreLasts, HideRight, Places, at_most, last_in, names_in}
use Rattle.mc_c_syntax.specs.declared.visible.stack.Entry.{Entry}
use Rattle.mc_c_syntax.proofs.VisibleLemmas.Lasts.{last_place-below, last_place-push, last_place-same, same_is}

chosen : (b : Bool) (last : Option ℕ) (o : Option (Option ℕ)) → at_most (cond b (Some last) o) ≡ cond b last (at_most o)
chosen true last o = refl
chosen false last o = refl

-- ---- the last places
pub Places-put : {S : Type 0} (before after : IndexMap (Bor (List ℕ)) (Option ℕ) S) (name : List ℕ) (place : Option ℕ) (key : Bor (List ℕ)) → key.now ≡ name
    → UpdatesBy (λ k l. is_same k.now l.now) (λ k. is_same key.now k.now) before after (Some place) → Places before after name place
Places-put before after name place key is updates other =
    ap at_most (updates.0 (record { ref_ptr = key.ref_ptr; now = other }))
    ∙ chosen (is_same key.now other) place (get_by (λ k. is_same other k.now) before)
    ∙ ap (λ k. cond (is_same k other) place (last_in before other)) is

AreLasts-push : {S : Type 0} (names : List (List ℕ)) (lasts more : IndexMap (Bor (List ℕ)) (Option ℕ) S) (name : List ℕ) (key : Bor (List ℕ)) → AreLasts names lasts
    → key.now ≡ name → Updates (λ k l. is_same k.now l.now) lasts more key (Some (Some (length names))) → AreLasts (names ++ name ∷ []) more
AreLasts-push names lasts more name key are is updates other =
    ap at_most (updates.0 (record { ref_ptr = key.ref_ptr; now = other }))
    ∙ chosen (is_same key.now other) (Some (length names)) (get_by (λ k. is_same other k.now) lasts)
    ∙ ap (λ o. cond (is_same key.now other) (Some (length names)) o) (are other)
    ∙ ap (λ k. cond (is_same k other) (Some (length names)) (last_place names other)) is
    ∙ sym (last_place-push names name other)

before_it : (names : List (List ℕ)) (name other : List ℕ) (hidden : Option ℕ) (b : Bool) → is_same name other ≡ b → hidden ≡ last_place names name
    → cond b hidden (cond b (Some (length names)) (last_place names other)) ≡ last_place names other
before_it names name other hidden true same is = is ∙ ap (last_place names) (same_is name other same)
before_it names name other hidden false same is = refl

AreLasts-pop : {S : Type 0} (names : List (List ℕ)) (lasts less : IndexMap (Bor (List ℕ)) (Option ℕ) S) (name : List ℕ) (hidden : Option ℕ) → AreLasts (names ++ name ∷ []) lasts
    → hidden ≡ last_place names name → Places lasts less name hidden → AreLasts names less
AreLasts-pop names lasts less name hidden are before places other =
    places other
    ∙ ap (λ o. cond (is_same name other) hidden o) (are other ∙ last_place-push names name other)
    ∙ before_it names name other hidden (is_same name other) refl before

-- a name that is the last one has a place
last_there : {S : Type 0} (names : List (List ℕ)) (lasts : IndexMap (Bor (List ℕ)) (Option ℕ) S) (name : List ℕ) → AreLasts (names ++ name ∷ []) lasts → last_in lasts name ≡ Some (length names)
last_there names lasts name are =
    are name ∙ last_place-push names name name ∙ ap (λ b. cond b (Some (length names)) (last_place names name)) ((bytes_decides name name).1 refl)

-- ---- what entries hide
further : (i n : ℕ) → i < n → suc i < suc n
further i n less = omega arith

get_push : {X : Type 0} (xs : List X) (y x : X) (i : ℕ) → slice_get (xs ++ y ∷ []) i ≡ Some x → ((i < length xs) × (slice_get xs i ≡ Some x)) ⊎ ((i ≡ length xs) × (y ≡ x))
get_push [] y x zero e = inr (refl, same_Some _ _ e)
get_push [] y x (suc i) e = absurd (none-some x e)
get_push (z ∷ xs) y x zero e = inl (omega arith, e)
get_push (z ∷ xs) y x (suc i) e = elim (get_push xs y x i e) [ inl p ↦ inl (further i (length xs) p.0, p.1) | inr p ↦ inr (ap (λ n. suc n) p.0, p.1) ]

get_left : {X : Type 0} (xs ys : List X) (x : X) (i : ℕ) → slice_get xs i ≡ Some x → slice_get (xs ++ ys) i ≡ Some x
get_left [] ys x i e = absurd (none-some x e)
get_left (z ∷ xs) ys x zero e = e
get_left (z ∷ xs) ys x (suc i) e = get_left xs ys x i e

get_last : {X : Type 0} (xs : List X) (y : X) → slice_get (xs ++ y ∷ []) (length xs) ≡ Some y
get_last [] y = refl
get_last (z ∷ xs) y = get_last xs y

names_push : (entries : List Entry) (e : Entry) → names_in (entries ++ e ∷ []) ≡ names_in entries ++ e.name.now ∷ []
names_push entries e = map-append (λ (x : Entry). x.name.now) entries (e ∷ [])

first_names : (entries : List Entry) (e : Entry) (i : ℕ) → i ≤ length entries → take i (names_in (entries ++ e ∷ [])) ≡ take i (names_in entries)
first_names entries e i le =
    let within : i ≤ length (names_in entries) = rw (length-map entries (λ (x : Entry). x.name.now)) le in
    rw (names_push entries e) (take-append-le i (names_in entries) (e.name.now ∷ []) within)

all_names : (entries : List Entry) (e : Entry) (i : ℕ) → i ≡ length entries → take i (names_in (entries ++ e ∷ [])) ≡ names_in entries
all_names entries e i is =
    rw (names_push entries e) (take_at (names_in entries) (e.name.now ∷ []) i (length-map entries (λ (x : Entry). x.name.now) ∙ sym is))

pub HideRight-push : (entries : List Entry) (e : Entry) → HideRight entries → e.hidden ≡ last_place (names_in entries) e.name.now → HideRight (entries ++ e ∷ [])
HideRight-push entries e right is i x at = elim (get_push entries e x i at) [
  | inl p ↦ right i x p.1 ∙ ap (λ ns. last_place ns x.name.now) (sym (first_names entries e i (omega (arith, p.0))))
  | inr p ↦ subst (λ (y : Entry). y.hidden ≡ last_place (take i (names_in (entries ++ e ∷ []))) y.name.now) p.1
      (is ∙ ap (λ ns. last_place ns e.name.now) (sym (all_names entries e i p.0)))
]

pub HideRight-pop : (entries : List Entry) (e : Entry) → HideRight (entries ++ e ∷ []) → HideRight entries
HideRight-pop entries e right i x at =
    right i x (get_left entries (e ∷ []) x i at)
    ∙ ap (λ ns. last_place ns x.name.now) (first_names entries e i (omega (arith, slice_get_within entries i x at)))

pub hidden_last : (entries : List Entry) (e : Entry) → HideRight (entries ++ e ∷ []) → e.hidden ≡ last_place (names_in entries) e.name.now
hidden_last entries e right =
    right (length entries) e (get_last entries e) ∙ ap (λ ns. last_place ns e.name.now) (all_names entries e (length entries) refl)

-- ---- the same, where the entries are given
pub more_lasts : {S : Type 0} (entries more : List Entry) (e : Entry) (lasts new : IndexMap (Bor (List ℕ)) (Option ℕ) S) (key : Bor (List ℕ)) → more ≡ entries ++ e ∷ []
    → AreLasts (names_in entries) lasts → key.now ≡ e.name.now → Updates (λ k l. is_same k.now l.now) lasts new key (Some (Some (length (names_in entries)))) → AreLasts (names_in more) new
more_lasts entries more e lasts new key held are is updates =
    subst (λ ns. AreLasts ns new) (sym (ap names_in held ∙ names_push entries e)) (AreLasts-push (names_in entries) lasts new e.name.now key are is updates)

pub more_hidden : (entries more : List Entry) (e : Entry) → more ≡ entries ++ e ∷ [] → HideRight entries → e.hidden ≡ last_place (names_in entries) e.name.now → HideRight more
more_hidden entries more e held right is = subst HideRight (sym held) (HideRight-push entries e right is)

pub more_names : (entries more : List Entry) (e : Entry) → more ≡ entries ++ e ∷ [] → names_in more ≡ names_in entries ++ e.name.now ∷ []
more_names entries more e held = ap names_in held ∙ names_push entries e

pub fewer_lasts : {S : Type 0} (entries less : List Entry) (e : Entry) (lasts new : IndexMap (Bor (List ℕ)) (Option ℕ) S) → entries ≡ less ++ e ∷ []
    → AreLasts (names_in entries) lasts → HideRight entries → Places lasts new e.name.now e.hidden → AreLasts (names_in less) new
fewer_lasts entries less e lasts new held are right places =
    AreLasts-pop (names_in less) lasts new e.name.now e.hidden (subst (λ ns. AreLasts ns lasts) (ap names_in held ∙ names_push less e) are)
    (hidden_last less e (subst HideRight held right)) places

pub fewer_hidden : (entries less : List Entry) (e : Entry) → entries ≡ less ++ e ∷ [] → HideRight entries → HideRight less
fewer_hidden entries less e held right = HideRight-pop less e (subst HideRight held right)

pub last_stands : {S : Type 0} (entries less : List Entry) (e : Entry) (lasts : IndexMap (Bor (List ℕ)) (Option ℕ) S) → entries ≡ less ++ e ∷ []
    → AreLasts (names_in entries) lasts → last_in lasts e.name.now ≡ Some (length (names_in less))
last_stands entries less e lasts held are = last_there (names_in less) lasts e.name.now (subst (λ ns. AreLasts ns lasts) (ap names_in held ∙ names_push less e) are)

-- ---- from an entry to the one that it hides
first_get : {X : Type 0} (xs : List X) (k i : ℕ) (x : X) → i < k → slice_get xs i ≡ Some x → slice_get (take k xs) i ≡ Some x
first_get [] k i x below e = absurd (none-some x e)
first_get (y ∷ xs) zero i x below e = grind arith
first_get (y ∷ xs) (suc k) zero x below e = e
first_get (y ∷ xs) (suc k) (suc i) x below e = first_get xs k i x (omega arith) e

pub place_within : (entries : List Entry) (name : List ℕ) (k place : ℕ) → last_place (take k (names_in entries)) name ≡ Some place → (place < k) × (place < length entries)
place_within entries name k place found =
    let below = last_place-below (take k (names_in entries)) name place found in
    (omega (arith, below, length-take k (names_in entries)), omega (arith, below, length-take k (names_in entries), length-map entries (λ (x : Entry). x.name.now)))

pub hidden_of : (entries : List Entry) (name : List ℕ) (k place : ℕ) (e : Entry) → HideRight entries → last_place (take k (names_in entries)) name ≡ Some place → slice_get entries place ≡ Some e
    → e.hidden ≡ last_place (take place (names_in entries)) name
hidden_of entries name k place e right found at =
    let named : slice_get (names_in entries) place ≡ Some e.name.now = slice_get-map (λ (x : Entry). x.name.now) entries place ∙ ap (option_map (λ (x : Entry). x.name.now)) at in
    right place e at
    ∙ ap (last_place (take place (names_in entries)))
    (same_is e.name.now name
    (last_place-same (take k (names_in entries)) name place e.name.now found
    (first_get (names_in entries) k place e.name.now (place_within entries name k place found).0 named)))

pub steps_back : (names : List (List ℕ)) (name : List ℕ) (place : ℕ) (o : Option ℕ) → o ≡ last_place (take place names) name → unwrap_or (option_map (λ i. suc i) o) 0 < suc place
steps_back names name place None is = omega arith
steps_back names name place (Some i) is = let below = last_place-below (take place names) name i (sym is) in omega (arith, below, length-take place names)
