-- What is found in lists.
use Rattle.std.proofs.Common.{◌≡◌, ℕ, suc, List, [], ◌∷◌, ◌++◌, ◌+◌, refl, ap, sym, Bool, true, false, cond, map, length, ◌<◌, arith, ◌&&◌}
use Rattle.std.proofs.Common.{get_or, drop}
use Rattle.std.proofs.lemmas.Option.{none-some}
use Rattle.std.proofs.lemmas.List.Folds.{find-append}
use Rattle.std.proofs.Math.Seq.{drop-cons}
use Rattle.mc_c_syntax.proofs.NamesLemmas.Positions.{position-cons}
use Rattle.mc_c_syntax.specs.Ast.Names.{is_same}
use Rattle.mc_c_types.specs.Tables.{Variable, type_in}
use Rattle.mc_c_types.specs.declared.types.VariableType.{VariableType}
use Rattle.std.specs.Option.{option_or}
use Rattle.std.proofs.Common.{Bor}
use Rattle.std.specs.Prelude.{option_copied, Option, Some, None, position, find, filter, slice_get, option_map, option_and_then}

-- what is found is what stands at the place that is found
found_step : {X Y : Type 0} (f : X → Y) (b : Bool) (x : X) (xs : List X) (rest : Option Y) (place : Option ℕ)
    → rest ≡ option_and_then (λ i. option_map f (slice_get xs i)) place
    → cond b (Some (f x)) rest ≡ option_and_then (λ i. option_map f (slice_get (x ∷ xs) i)) (cond b (Some 0) (option_map (λ i. suc i) place))
found_step f true x xs rest place e = refl
found_step f false x xs rest None e = e
found_step f false x xs rest (Some i) e = e

pub find-at : {X Y : Type 0} (p : Y → Bool) (f : X → Y) (xs : List X)
    → find p (map f xs) ≡ option_and_then (λ i. option_map f (slice_get xs i)) (position (λ x. p (f x)) xs)
find-at p f [] = refl
find-at p f (x ∷ xs) =
    rw (position-cons (λ y. p (f y)) x xs) (found_step f (p (f x)) x xs (find p (map f xs)) (position (λ y. p (f y)) xs) (find-at p f xs))

-- what is found among those that pass another test
filter_step : {X Y : Type 0} (q : Y → Bool) (f : X → Y) (x : X) (b : Bool) (some : List X) (rest : Option Y)
    → rest ≡ find q (map f some) → cond (b && q (f x)) (Some (f x)) rest ≡ find q (map f (cond b (x ∷ some) some))
filter_step q f x true some rest e = ap (λ o. cond (q (f x)) (Some (f x)) o) e
filter_step q f x false some rest e = e

pub find-filter : {X Y : Type 0} (p q : Y → Bool) (f : X → Y) (xs : List X) → find (λ y. p y && q y) (map f xs) ≡ find q (map f (filter (λ x. p (f x)) xs))
find-filter p q f [] = refl
find-filter p q f (x ∷ xs) = filter_step q f x (p (f x)) (filter (λ y. p (f y)) xs) (find (λ y. p y && q y) (map f xs)) (find-filter p q f xs)

-- the same in two cases
pub find-none : {X Y : Type 0} (p : Y → Bool) (f : X → Y) (xs : List X) → None ≡ position (λ x. p (f x)) xs → None ≡ find p (map f xs)
find-none p f xs e = rw (find-at p f xs) (ap (λ place. option_and_then (λ i. option_map f (slice_get xs i)) place) e)

pub find-some : {X Y : Type 0} (p : Y → Bool) (f : X → Y) (xs : List X) (i : ℕ) (o : Option X) → Some i ≡ position (λ x. p (f x)) xs → o ≡ slice_get xs i → option_map f o ≡ find p (map f xs)
find-some p f xs i o e is = rw is (rw (find-at p f xs) (ap (λ place. option_and_then (λ i. option_map f (slice_get xs i)) place) e))

-- what is after a reference
pub option_map-copied : {X Y : Type 0} (f : X → Y) (o : Option (Bor X)) → option_map f (option_copied o) ≡ option_map (λ x. f x.now) o
option_map-copied f None = refl
option_map-copied f (Some x) = refl

-- what is found and then read, in a list whose elements are seen otherwise
find_seen : {X Y : Type 0} (f : X → Y) (b : Bool) (x : X) (rest : Option X) → cond b (Some (f x)) (option_map f rest) ≡ option_map f (cond b (Some x) rest)
find_seen f true x rest = refl
find_seen f false x rest = refl

pub find-map : {X Y : Type 0} (p : Y → Bool) (f : X → Y) (xs : List X) → find p (map f xs) ≡ option_map f (find (λ x. p (f x)) xs)
find-map p f [] = refl
find-map p f (x ∷ xs) = rw (find-map p f xs) (find_seen f (p (f x)) x (find (λ y. p (f y)) xs))

twice_seen : {X Y Z : Type 0} (g : Y → Z) (f : X → Y) (o : Option X) → option_map (λ x. g (f x)) o ≡ option_map g (option_map f o)
twice_seen g f None = refl
twice_seen g f (Some x) = refl

pub find-read : {X Y Z : Type 0} (g : Y → Z) (p : Y → Bool) (f : X → Y) (xs : List X) (o : Option X) → o ≡ find (λ x. p (f x)) xs → option_map (λ x. g (f x)) o ≡ option_map g (find p (map f xs))
find-read g p f xs o e = rw (find-map p f xs) (rw (sym e) (twice_seen g f o))

-- the variable is among the first, or else among the others
pub type_in-here : (xs ys : List Variable) (name : List ℕ) (type : VariableType) → type_in xs name ≡ Some type → type_in (xs ++ ys) name ≡ Some type
type_in-here xs ys name type e =
    rw (find-append (λ v. is_same v.name name) xs ys) (type_or_here (find (λ v. is_same v.name name) xs) (find (λ v. is_same v.name name) ys) type e) where
      type_or_here : (o p : Option Variable) (type : VariableType) → option_map (λ v. v.type) o ≡ Some type → option_map (λ v. v.type) (option_or o p) ≡ Some type
      type_or_here None p type e = absurd (none-some type e)
      type_or_here (Some v) p type e = e

pub type_in-later : (xs ys : List Variable) (name : List ℕ) → type_in xs name ≡ None → type_in (xs ++ ys) name ≡ type_in ys name
type_in-later xs ys name e =
    rw (find-append (λ v. is_same v.name name) xs ys) (type_or_later (find (λ v. is_same v.name name) xs) (find (λ v. is_same v.name name) ys) e) where
      type_or_later : (o p : Option Variable) → option_map (λ v. v.type) o ≡ None → option_map (λ v. v.type) (option_or o p) ≡ option_map (λ v. v.type) p
      type_or_later None p e = refl
      type_or_later (Some v) p e = absurd (none-some v.type (sym e))

-- what is left at a place of a list
pub drop_at : {X : Type 0} (xs : List X) (i : ℕ) (x : X) → i < length xs → x ≡ get_or xs i x → drop i xs ≡ x ∷ drop (i + 1) xs
drop_at xs i x below is =
    let next : suc i ≡ i + 1 = omega arith in rw (sym next) (let head = drop-cons xs i x below in cc)
