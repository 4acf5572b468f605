-- Arrays as lists of values.
use Rattle.std.proofs.Common.{◌≡◌, ◌∙◌, ◌<◌, ℕ, zero, suc, Bool, true, false, List, [], ◌∷◌, ◌++◌, ◌+◌, map, length, take, get_or, arith, refl, sym, ap, subst}
use Rattle.std.specs.Prelude.{All}
use Rattle.std.proofs.lemmas.List.Elements.{All-head, All-tail, All-nil, All-cons, All-append}
use Rattle.std.proofs.lemmas.List.{map-append, take_more}
use Rattle.serde_json.specs.Data.{Data, null, boolean, number, string, array, object, Items, no_items, item}
use Rattle.serde_json.specs.View.{items_of}
use Rattle.mc_lines.specs.Cert.Entries.{list_data, named_data, values_data}

-- the values of an array
abbrev pub items_in : Items → List Data
items_in no_items = []
items_in (item d ds) = d ∷ items_in ds

abbrev pub values_in : Data → List Data
values_in null = []
values_in (boolean b) = []
values_in (number n) = []
values_in (string s) = []
values_in (array ds) = items_in ds
values_in (object ms) = []

pub items_back : (ds : List Data) → items_in (items_of ds) ≡ ds
items_back [] = refl
items_back (d ∷ ds) = ap (λ es. d ∷ es) (items_back ds)

pub values_back : (ds : List Data) → values_in (values_data ds) ≡ ds
values_back ds = items_back ds

pub values_once : (ds es : List Data) → values_data ds ≡ values_data es → ds ≡ es
values_once ds es e = sym (values_back ds) ∙ ap values_in e ∙ values_back es

abbrev behind_first : List Data → List Data
behind_first [] = []
behind_first (d ∷ ds) = ds

-- the values after the first
abbrev pub entries_in : Data → List Data
entries_in d = behind_first (values_in d)

pub entries_back : (s : List ℕ) (ds : List Data) → entries_in (named_data s ds) ≡ ds
entries_back s ds = items_back ds

abbrev text_of : List Data → List ℕ
text_of [] = []
text_of (null ∷ ds) = []
text_of (boolean b ∷ ds) = []
text_of (number n ∷ ds) = []
text_of (string s ∷ ds) = s
text_of (array es ∷ ds) = []
text_of (object ms ∷ ds) = []

-- the text that stands first
abbrev pub name_in : Data → List ℕ
name_in d = text_of (values_in d)

pub named_once : (s t : List ℕ) (ds es : List Data) → named_data s ds ≡ named_data t es → (s ≡ t) × (ds ≡ es)
named_once s t ds es e =
    let both = values_once (string s ∷ ds) (string t ∷ es) e in
    let names : s ≡ t = cc in
    let entries : ds ≡ es = cc in
    (names, entries)

-- the first where the test holds, else the second
abbrev pub Either : Bool → Type 0 → Type 0 → Type 0
Either true P Q = P
Either false P Q = Q

-- what holds of the name and the entries after it
abbrev pub OfNamed : (List ℕ → List Data → Type 0) → List Data → Type 0
OfNamed P [] = ⊥
OfNamed P (null ∷ ds) = ⊥
OfNamed P (boolean b ∷ ds) = ⊥
OfNamed P (number n ∷ ds) = ⊥
OfNamed P (string s ∷ ds) = P s ds
OfNamed P (array es ∷ ds) = ⊥
OfNamed P (object ms ∷ ds) = ⊥

-- what holds of the name and the entries of each array of a kind holds of those of an array that is one of them
pub form_of : {T : Type 0} (whole : T → Data) (P : List ℕ → List Data → T → Type 0) → ((y : T) → OfNamed (λ s ds. P s ds y) (values_in (whole y))) → (s : List ℕ) (ds : List Data) (y : T) → named_data s ds ≡ whole y → P s ds y
form_of whole P own s ds y e =
    let values : OfNamed (λ t es. P t es y) (values_in (named_data s ds)) = subst (λ d. OfNamed (λ t es. P t es y) (values_in d)) (sym e) (own y) in
    subst (λ vs. OfNamed (λ t es. P t es y) vs) (values_back (string s ∷ ds)) values

abbrev pub IsNamed : Data → Type 0
IsNamed d = (s : List ℕ) × (ds : List Data) × (d ≡ named_data s ds)

-- lists of what is spelled in one way are spelled in one way
pub list_once : {T : Type 0} (spelled : T → Data) → ((x y : T) → spelled x ≡ spelled y → x ≡ y) → (xs ys : List T) → map spelled xs ≡ map spelled ys → xs ≡ ys
list_once spelled once [] [] e = refl
list_once spelled once [] (y ∷ ys) e = cc
list_once spelled once (x ∷ xs) [] e = cc
list_once spelled once (x ∷ xs) (y ∷ ys) e =
    let head : spelled x ≡ spelled y = cc in
    let tail : map spelled xs ≡ map spelled ys = cc in
    let same : x ≡ y = once x y head in
    let rest : xs ≡ ys = list_once spelled once xs ys tail in
    cc

pub list_data_once : {T : Type 0} (spelled : T → Data) → ((x y : T) → spelled x ≡ spelled y → x ≡ y) → (xs ys : List T) → list_data spelled xs ≡ list_data spelled ys → xs ≡ ys
list_data_once spelled once xs ys e = list_once spelled once xs ys (values_once (map spelled xs) (map spelled ys) e)

-- each value of a list of what is spelled so is spelled so
item_of : {V T : Type 0} (seen : V → Data) (spelled : T → Data) (fits : T → Type 0) (vs : List V) (k : ℕ) (v : V) → k < length vs → v ≡ get_or vs k v → (xs : List T) → All fits xs → map seen vs ≡ map spelled xs → (x : T) × fits x × (seen v ≡ spelled x)
item_of seen spelled fits [] k v below at xs all e = absurd (omega arith)
item_of seen spelled fits (b ∷ vs) k v below at [] all e = cc
item_of seen spelled fits (b ∷ vs) zero v below at (x ∷ xs) all e =
    let same : seen b ≡ spelled x = cc in
    (x, All-head fits x xs all, ap seen at ∙ same)
item_of seen spelled fits (b ∷ vs) (suc k) v below at (x ∷ xs) all e =
    item_of seen spelled fits vs k v (omega arith) at xs (All-tail fits x xs all) (let same : map seen vs ≡ map spelled xs = cc in same)

-- the same of its array
pub item_in : {V T : Type 0} (seen : V → Data) (spelled : T → Data) (fits : T → Type 0) (d : Data) (vs : List V) → d ≡ list_data seen vs → (k : ℕ) (v : V) → k < length vs → v ≡ get_or vs k v → (xs : List T) → All fits xs → d ≡ list_data spelled xs → (x : T) × fits x × (seen v ≡ spelled x)
item_in seen spelled fits d vs is k v below at xs all e = item_of seen spelled fits vs k v below at xs all (values_once (map seen vs) (map spelled xs) (sym is ∙ e))

-- ---- a list that is written from its beginning

pub all_more : {X : Type 0} (P : X → Type 0) (xs : List X) (k : ℕ) (x : X) → k < length xs → x ≡ get_or xs k x → P x → All P (take k xs) → All P (take (k + 1) xs)
all_more P xs k x below at p all =
    let more : take (k + 1) xs ≡ take k xs ++ get_or xs k x ∷ [] = take_more xs k x below in
    subst (λ ys. All P ys) (sym more) (All-append P (take k xs) (get_or xs k x ∷ []) all (All-cons P (get_or xs k x) [] (subst P at p) (All-nil P)))

pub spelled_more : {V X : Type 0} (seen : V → Data) (spelled : X → Data) (vs : List V) (v : V) (xs : List X) (k : ℕ) (x : X) → k < length xs → x ≡ get_or xs k x → seen v ≡ spelled x → map seen vs ≡ map spelled (take k xs) → map seen (vs ++ v ∷ []) ≡ map spelled (take (k + 1) xs)
spelled_more seen spelled vs v xs k x below at this before =
    let more : take (k + 1) xs ≡ take k xs ++ get_or xs k x ∷ [] = take_more xs k x below in
    let last : seen v ≡ spelled (get_or xs k x) = this ∙ ap spelled at in
    map-append seen vs (v ∷ []) ∙ ap (λ ys. ys ++ seen v ∷ []) before ∙ ap (λ d. map spelled (take k xs) ++ d ∷ []) last
    ∙ sym (map-append spelled (take k xs) (get_or xs k x ∷ [])) ∙ ap (map spelled) (sym more)
