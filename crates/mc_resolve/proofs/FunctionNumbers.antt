-- The number of a function, by the names of those that are defined; and how many fields a struct has.
use Rattle.std.proofs.Common.{◌≡◌, ℕ, zero, suc, ◌+◌, ◌<◌, ◌≤◌, ◌++◌, Bool, true, false, not, cond, List, [], ◌∷◌, Option, Some, None, map, length, take, get_or, refl, ap, sym, ◌∙◌, slice_get, arith, nat_lt}
use Rattle.std.specs.Prelude.{position, filter, unwrap_or}
use Rattle.std.specs.Option.{option_map_or}
use Rattle.std.specs.List.{position_or_len, prefix_len}
use Rattle.std.proofs.lemmas.List.{length-map, map-append, take_more}
use Rattle.std.proofs.lemmas.List.Elements.{filter-append}
use Rattle.mc_c_syntax.specs.Ast.Names.{is_same}
use Rattle.mc_c_syntax.specs.Ast.Trees.{FunctionTree, StructTree}
use Rattle.mc_c_types.specs.Tables.{Tables, Variable, fields_of}
use Rattle.mc_semantics.specs.Steps.{field_count}
use Rattle.mc_semantics.specs.Resolved.Resolving.{defined_functions, function_number}
use Rattle.mc_resolve.specs.Named.{declared_names, field_names, defined_names}
use Rattle.mc_resolve.proofs.FieldNumbers.{prefix_map, names_in}

prefix_low : {X : Type 0} (p : X → Bool) (xs : List X) → prefix_len p xs ≤ length xs
prefix_low p [] = omega arith
prefix_low p (x ∷ xs) = go (p x) (prefix_low p xs)
  where
    go : (b : Bool) → prefix_len p xs ≤ length xs → cond b (1 + prefix_len p xs) 0 ≤ length (x ∷ xs)
    go true low = omega (arith, low)
    go false low = omega arith

none_below : (n k : ℕ) (b : Bool) → nat_lt n k ≡ b → n ≤ k → None ≡ cond b (Some n) None → k ≡ n
none_below n k true below low e = absurd (grind (arith, e))
none_below n k false below low e = grind (arith, below, low)

pub number_of_none : {X : Type 0} (p : X → Bool) (xs : List X) → None ≡ position p xs → length xs ≡ position_or_len p xs
number_of_none p xs e = none_below (position_or_len p xs) (length xs) (nat_lt (position_or_len p xs) (length xs)) refl (prefix_low (λ x. not (p x)) xs) e

some_below : (n i : ℕ) (b : Bool) → Some i ≡ cond b (Some n) None → i ≡ n
some_below n i true e = ap (λ (o : Option ℕ). unwrap_or o i) e
some_below n i false e = absurd (grind (arith, e))

pub number_of_some : {X : Type 0} (p : X → Bool) (xs : List X) (i : ℕ) → Some i ≡ position p xs → i ≡ position_or_len p xs
number_of_some p xs i e = some_below (position_or_len p xs) i (nat_lt (position_or_len p xs) (length xs)) e

pub function_number_of : (t : Tables) (names : List (List ℕ)) (name : List ℕ) → names ≡ defined_names t → position_or_len (λ n. is_same n name) names ≡ function_number t name
function_number_of t names name e =
    ap (position_or_len (λ n. is_same n name)) e ∙ prefix_map (λ n. not (is_same n name)) (λ (f : FunctionTree). f.name.text) (defined_functions t)

in_struct : (t : Tables) (s : StructTree) → length (declared_names s) ≡ length (fields_of t s)
in_struct t s = ap length (names_in t s.fields) ∙ length-map (fields_of t s) (λ (v : Variable). v.name)

in_structs : (t : Tables) (structs : List StructTree) (shape : ℕ) → option_map_or length (slice_get (map declared_names structs) shape) 0 ≡ option_map_or (λ tree. length (fields_of t tree)) (slice_get structs shape) 0
in_structs t [] shape = refl
in_structs t (s ∷ structs) zero = in_struct t s
in_structs t (s ∷ structs) (suc shape) = in_structs t structs shape

pub field_count_of : (t : Tables) (names : List (List (List ℕ))) (shape : ℕ) → names ≡ field_names t → option_map_or length (slice_get names shape) 0 ≡ field_count t shape
field_count_of t names shape e = ap (λ (ns : List (List (List ℕ))). option_map_or length (slice_get ns shape) 0) e ∙ in_structs t t.structs shape

-- the functions that are defined, as the code goes over them
pub filter_seen : {X Y Z : Type 0} (p : Y → Bool) (f : X → Y) (g : Y → Z) (xs : List X) → map (λ x. g (f x)) (filter (λ x. p (f x)) xs) ≡ map g (filter p (map f xs))
filter_seen p f g [] = refl
filter_seen {X} {Y} {Z} p f g (x ∷ xs) = go (p (f x)) (filter_seen p f g xs)
  where
    go : (b : Bool) → map (λ y. g (f y)) (filter (λ y. p (f y)) xs) ≡ map g (filter p (map f xs))
        → map (λ y. g (f y)) (cond b (x ∷ filter (λ y. p (f y)) xs) (filter (λ y. p (f y)) xs)) ≡ map g (cond b (f x ∷ filter p (map f xs)) (filter p (map f xs)))
    go true same = ap (λ (ys : List Z). g (f x) ∷ ys) same
    go false same = same

pub filtered_more : {X Y Z : Type 0} (p : Y → Bool) (of : X → Y) (f : Y → Z) (xs : List X) (i : ℕ) (x : X) (before after : List Z)
    → i < length xs → x ≡ get_or xs i x → before ≡ map f (filter p (map of (take i xs))) → after ≡ before ++ map f (filter p (of x ∷ [])) → after ≡ map f (filter p (map of (take (i + 1) xs)))
filtered_more p of f xs i x before after within is so_far added =
    added
    ∙ ap (λ zs. zs ++ map f (filter p (of x ∷ []))) so_far
    ∙ sym (map-append f (filter p (map of (take i xs))) (filter p (of x ∷ [])))
    ∙ ap (λ ys. map f ys) (sym (filter-append p (map of (take i xs)) (of x ∷ [])))
    ∙ ap (λ ys. map f (filter p ys)) (sym (map-append of (take i xs) (x ∷ [])))
    ∙ ap (λ y. map f (filter p (map of (take i xs ++ y ∷ [])))) is
    ∙ ap (λ ys. map f (filter p (map of ys))) (sym (take_more xs i x within))
