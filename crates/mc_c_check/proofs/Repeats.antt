-- What stands among what was before it.
use Rattle.std.proofs.Common.{◌≡◌, ◌++◌, ℕ, suc, cond, List, [], ◌∷◌, ◌+◌, ◌<◌, refl, ap, sym, ◌∙◌, map, get_or, length, drop, reverse, Bool, true, false, ◌||◌, not, Bor}
use Rattle.std.proofs.lemmas.List.{reverse-append}
use Rattle.std.proofs.lemmas.List.Folds.{list_any-append}
use Rattle.std.proofs.lemmas.Cmp.{nat_list_eq_equiv}
use Rattle.std.specs.Prelude.{Option, Some, None, filter, position, option_map, is_some}
use Rattle.mc_c_syntax.proofs.NamesLemmas.Positions.{position-cons}
use Rattle.std.specs.List.{list_any}
use Rattle.mc_c_syntax.specs.declared.ast.trees.Name.{Name}
use Rattle.mc_c_syntax.specs.declared.ast.trees.Function.{Function}
use Rattle.mc_c_syntax.specs.Ast.Trees.{FunctionTree}
use Rattle.mc_c_syntax.specs.Ast.Names.{is_same}
use Rattle.mc_c_syntax.specs.Ast.Views.{function_of}
use Rattle.mc_c_types.specs.Faults.{unless, repeated, is_other, prototype_faults}
use Rattle.mc_c_types.specs.First.{told_of}
use Rattle.mc_c_types.specs.Tables.{Tables}
use Rattle.mc_c_types.specs.declared.faults.Fault.{Fault}
use Rattle.mc_c_types.specs.declared.faults.FaultName.TheVariants.{Twice, Mismatch}
use Rattle.mc_c_check.specs.Collected.{names_held, functions_held}
use Rattle.mc_c_check.proofs.Rows.{drop_at, told_append}

or_swap : (a b : Bool) → (a || b) ≡ (b || a)
or_swap true true = refl
or_swap true false = refl
or_swap false true = refl
or_swap false false = refl

or_none : (a : Bool) → (a || false) ≡ a
or_none true = refl
or_none false = refl

pub any_mapped : {X Y : Type 0} (p : Y → Bool) (f : X → Y) (xs : List X) → list_any p (map f xs) ≡ list_any (λ x. p (f x)) xs
any_mapped p f [] = refl
any_mapped p f (x ∷ xs) = ap (λ b. p (f x) || b) (any_mapped p f xs)

any_reversed : {X : Type 0} (p : X → Bool) (xs : List X) → list_any p (reverse xs) ≡ list_any p xs
any_reversed p [] = refl
any_reversed p (x ∷ xs) =
    rw (reverse-append (x ∷ []) xs)
    (list_any-append p (reverse xs) (x ∷ []) ∙ ap (λ b. b || (p x || false)) (any_reversed p xs) ∙ or_swap (list_any p xs) (p x || false) ∙ ap (λ b. b || list_any p xs) (or_none (p x)))

pub any_seen : {X Y : Type 0} (p : Y → Bool) (f : X → Y) (xs : List X) → list_any p (map f (reverse xs)) ≡ list_any (λ x. p (f x)) xs
any_seen p f xs = any_mapped p f (reverse xs) ∙ any_reversed (λ x. p (f x)) xs

-- ---- names
found_step : (b others : Bool) (place : Option ℕ) → is_some place ≡ others → is_some (cond b (Some 0) (option_map (λ i. suc i) place)) ≡ (b || others)
found_step true others place e = refl
found_step false others None e = e
found_step false others (Some i) e = e

-- a name has a place where it stands among the others
found_among : (names : List (List ℕ)) (name : List ℕ) → is_some (position (λ n. is_same n name) names) ≡ list_any (is_same name) names
found_among [] name = refl
found_among (n ∷ names) name =
    rw (position-cons (λ m. is_same m name) n names)
    (rw (nat_list_eq_equiv.symm name n) (found_step (is_same n name) (list_any (is_same name) names) (position (λ m. is_same m name) names) (found_among names name)))

not_not : (b : Bool) → not (not b) ≡ b
not_not true = refl
not_not false = refl

pub next_name : (told : Option Fault) (names : List (Bor Name)) (seen : List (List ℕ)) (i : ℕ) (x : Bor Name) (absent : Bool)
    → i < length names → x ≡ get_or names i x → is_some (position (λ n. is_same n x.now.text) seen) ≡ not absent
    → told_of (told_of told (unless absent Twice x.now.place)) (repeated (reverse (seen ++ x.now.text ∷ [])) (names_held (drop (i + 1) names))) ≡ told_of told (repeated (reverse seen) (names_held (drop i names)))
next_name told names seen i x absent below is found =
    let new : not (list_any (is_same x.now.text) seen) ≡ absent = ap not (sym (found_among seen x.now.text) ∙ found) ∙ not_not absent in
    rw (drop_at names i x below is)
    (rw (reverse-append seen (x.now.text ∷ []))
    (rw (any_reversed (is_same x.now.text) seen)
    (rw new (sym (told_append told (unless absent Twice x.now.place) (repeated (x.now.text ∷ reverse seen) (names_held (drop (i + 1) names))))))))

-- ---- functions
abbrev pub tree_of : Bor Function → FunctionTree
tree_of f = function_of f.now

-- one of those that another test leaves out does not pass
any_step : {X : Type 0} (p : X → Bool) (x : X) (some all : List X) (b : Bool) → (b ≡ false → p x ≡ false) → list_any p some ≡ list_any p all → list_any p (cond b (x ∷ some) some) ≡ (p x || list_any p all)
any_step p x some all true fails same = ap (λ b. p x || b) same
any_step p x some all false fails same = rw (fails refl) same

any_filter : {X : Type 0} (p q : X → Bool) → ((x : X) → q x ≡ false → p x ≡ false) → (xs : List X) → list_any p (filter q xs) ≡ list_any p xs
any_filter p q fails [] = refl
any_filter p q fails (x ∷ xs) = any_step p x (filter q xs) xs (q x) (fails x) (any_filter p q fails xs)

-- a function differs from one of its name, and from no other
other_name : (t : Tables) (f g : FunctionTree) → is_same g.name.text f.name.text ≡ false → is_other t f g ≡ false
other_name t f g e = rw (nat_list_eq_equiv.symm f.name.text g.name.text) (rw e refl)

any_named : (t : Tables) (f : FunctionTree) (fs : List (Bor Function))
    → list_any (λ g. is_other t f (function_of g.now)) (filter (λ g. is_same g.now.name.text f.name.text) fs) ≡ list_any (λ g. is_other t f (function_of g.now)) fs
any_named t f fs = any_filter (λ g. is_other t f (function_of g.now)) (λ g. is_same g.now.name.text f.name.text) (λ g e. other_name t f (function_of g.now) e) fs

pub next_function : (t : Tables) (told : Option Fault) (fs seen others : List (Bor Function)) (i : ℕ) (x : Bor Function) (other : Bool)
    → i < length fs → x ≡ get_or fs i x → others ≡ filter (λ f. is_same f.now.name.text x.now.name.text) seen
    → other ≡ list_any (λ f. is_other t (function_of x.now) (function_of f.now)) others
    → told_of (told_of told (unless (not other) Mismatch x.now.name.place)) (prototype_faults t (map tree_of (reverse (seen ++ x ∷ []))) (functions_held (drop (i + 1) fs))) ≡ told_of told (prototype_faults t (map tree_of (reverse seen)) (functions_held (drop i fs)))
next_function t told fs seen others i x other below is named found =
    let any : list_any (is_other t (function_of x.now)) (map tree_of (reverse seen)) ≡ other =
    any_seen (is_other t (function_of x.now)) tree_of seen ∙ sym (found ∙ ap (list_any (λ f. is_other t (function_of x.now) (function_of f.now))) named ∙ any_named t (function_of x.now) seen) in
    rw (drop_at fs i x below is)
    (rw (reverse-append seen (x ∷ []))
    (rw any (sym (told_append told (unless (not other) Mismatch x.now.name.place) (prototype_faults t (tree_of x ∷ map tree_of (reverse seen)) (functions_held (drop (i + 1) fs)))))))
