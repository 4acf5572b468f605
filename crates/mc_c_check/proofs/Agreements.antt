-- Types that agree one by one, and places in lists that are seen otherwise.
use Rattle.std.proofs.Common.{◌≡◌, ℕ, List, [], ◌∷◌, ◌+◌, ◌≤◌, refl, ap, sym, ◌∙◌, arith, map, length, suc, Bool, true, false, cond, not, ◌&&◌, nat_lt}
use Rattle.std.specs.Prelude.{Some, None, position}
use Rattle.std.specs.List.{prefix_len, position_or_len}
use Rattle.mc_c_syntax.specs.declared.ast.trees.Parameter.{Parameter}
use Rattle.mc_c_syntax.specs.Ast.Trees.{FunctionTree}
use Rattle.mc_c_types.specs.Types.{agree, all_agree}
use Rattle.mc_c_types.specs.Tables.{Tables, listed_parameters, returned_type, same_result, same_type, variable_of}
use Rattle.mc_c_types.specs.declared.types.VariableType.{VariableType}

-- lists that differ in length do not agree
pub lengths_differ : {X : Type 0} (f : X → VariableType) (xs ys : List X) → (length xs ≡ length ys → ⊥) → false ≡ all_agree (map f xs) (map f ys)
lengths_differ f [] [] differ = absurd (differ refl)
lengths_differ f [] (y ∷ ys) differ = refl
lengths_differ f (x ∷ xs) [] differ = refl
lengths_differ f (x ∷ xs) (y ∷ ys) differ =
    and_false (agree (f x) (f y)) (all_agree (map f xs) (map f ys)) (lengths_differ f xs ys (λ e. differ (ap (λ n. suc n) e))) where
      and_false : (a b : Bool) → false ≡ b → false ≡ (a && b)
      and_false true b e = e
      and_false false b e = refl

-- the type of a parameter
abbrev pub type_of : Tables → Parameter → VariableType
type_of t p = (variable_of t p.base p.declarator).type

pub types_of : (t : Tables) (ps : List Parameter) → map (λ v. v.type) (map (λ p. variable_of t p.base p.declarator) ps) ≡ map (type_of t) ps
types_of t [] = refl
types_of t (p ∷ ps) = ap (λ more. type_of t p ∷ more) (types_of t ps)

pub same_types : (t : Tables) (f g : FunctionTree) (results parameters : Bool) → results ≡ same_result (returned_type t f.returned) (returned_type t g.returned)
    → parameters ≡ all_agree (map (type_of t) (listed_parameters f.parameters)) (map (type_of t) (listed_parameters g.parameters))
    → (results && parameters) ≡ same_type t f g
same_types t f g results parameters p q =
    rw p (rw q (rw (types_of t (listed_parameters f.parameters)) (rw (types_of t (listed_parameters g.parameters)) refl)))

-- ---- places
prefix_mapped : {X Y : Type 0} (p : Y → Bool) (f : X → Y) (xs : List X) → prefix_len p (map f xs) ≡ prefix_len (λ x. p (f x)) xs
prefix_mapped p f [] = refl
prefix_mapped p f (x ∷ xs) = ap (λ n. cond (p (f x)) (1 + n) 0) (prefix_mapped p f xs)

none_place : (b : Bool) (n len : ℕ) → n ≤ len → nat_lt n len ≡ b → None ≡ cond b (Some n) None → len ≡ n
none_place true n len within e is = cc
none_place false n len within e is = grind arith

some_place : (b : Bool) (n len place : ℕ) → Some place ≡ cond b (Some n) None → place ≡ n
some_place true n len place is = cc
some_place false n len place is = cc

prefix_within : {X : Type 0} (p : X → Bool) (xs : List X) → prefix_len p xs ≤ length xs
prefix_within p [] = omega arith
prefix_within p (x ∷ xs) = step (p x) (prefix_len p xs) (length xs) (prefix_within p xs) where
  step : (b : Bool) (n len : ℕ) → n ≤ len → cond b (1 + n) 0 ≤ suc len
  step true n len within = omega arith
  step false n len within = omega arith

pub place_none : {X Y : Type 0} (p : Y → Bool) (f : X → Y) (xs : List X) → None ≡ position (λ x. p (f x)) xs → length xs ≡ position_or_len p (map f xs)
place_none p f xs e =
    none_place (nat_lt (prefix_len (λ x. not (p (f x))) xs) (length xs)) (prefix_len (λ x. not (p (f x))) xs) (length xs) (prefix_within (λ x. not (p (f x))) xs) refl e ∙ sym (prefix_mapped (λ y. not (p y)) f xs)

pub place_some : {X Y : Type 0} (p : Y → Bool) (f : X → Y) (xs : List X) (place : ℕ) → Some place ≡ position (λ x. p (f x)) xs → place ≡ position_or_len p (map f xs)
place_some p f xs place e =
    some_place (nat_lt (prefix_len (λ x. not (p (f x))) xs) (length xs)) (prefix_len (λ x. not (p (f x))) xs) (length xs) place e ∙ sym (prefix_mapped (λ y. not (p y)) f xs)
