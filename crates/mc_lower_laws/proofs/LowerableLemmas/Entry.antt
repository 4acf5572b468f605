-- The entry of a well-typed program is the first defined function of its name, and has no parameters.
use Rattle.std.proofs.Common.{◌≡◌, ◌+◌, ℕ, suc, Bool, true, false, cond, not, ◌&&◌, ◌||◌, List, [], ◌∷◌, Some, map, filter, refl, sym, ap, subst, ◌∙◌, arith}
use Rattle.std.specs.Prelude.{slice_get}
use Rattle.std.specs.List.{list_any, position_or_len}
use Rattle.std.specs.Cmp.Lexicographic.{bytes_decides}
use Rattle.mc_c_syntax.specs.declared.ast.trees.Parameter.{Parameter}
use Rattle.mc_c_syntax.specs.Ast.Names.{is_same, is_in}
use Rattle.mc_c_syntax.specs.Ast.Trees as tree
use Rattle.mc_base.specs.declared.text.place.Place.{Place}
use Rattle.mc_c_types.specs.Tables.{is_defined, listed_parameters}
use Rattle.mc_c_types.specs.Typing.{is_empty, is_entry}
use Rattle.mc_c_types.specs.Faults.{unless, repeated}
use Rattle.mc_c_types.specs.declared.faults.Fault.{Fault}
use Rattle.mc_c_types.specs.declared.faults.FaultName.TheVariants.{Twice}
use Rattle.mc_lower_laws.proofs.ScopedLemmas.Faultless.{none_left, none_right}

-- a function of the entry's name without parameters
abbrev pub is_start : List ℕ → tree.FunctionTree → Bool
is_start entry f = is_same f.name.text entry && is_empty (listed_parameters f.parameters)

absurd_true : {X : Type 0} → false ≡ true → X
absurd_true e = absurd (cc)

-- ---- of the defined functions one is such a function
or_left : (a b : Bool) → a ≡ true → (a || b) ≡ true
or_left true b e = refl
or_left false b e = absurd_true e

or_right : (a b : Bool) → b ≡ true → (a || b) ≡ true
or_right true b e = refl
or_right false b e = e

side : (a b r s : Bool) → (r ≡ true → s ≡ true) → ((a && b) || r) ≡ true → ((a && b) || s) ≡ true
side true true r s later h = refl
side true false r s later h = later h
side false b r s later h = later h

pub kept_entry : (entry : List ℕ) (fs : List tree.FunctionTree) → list_any (is_entry entry) fs ≡ true → list_any (is_start entry) (filter is_defined fs) ≡ true
kept_entry entry [] e = absurd_true e
kept_entry entry (f ∷ fs) e = at (is_defined f) (list_any (is_entry entry) fs) (filter is_defined fs) (λ more. kept_entry entry fs more) e
  where
    at : (d rest : Bool) (others : List tree.FunctionTree) → (rest ≡ true → list_any (is_start entry) others ≡ true)
        → ((d && is_same f.name.text entry && is_empty (listed_parameters f.parameters)) || rest) ≡ true
        → list_any (is_start entry) (cond d (f ∷ others) others) ≡ true
    at false rest others later h = later h
    at true rest others later h =
        side (is_same f.name.text entry) (is_empty (listed_parameters f.parameters)) rest (list_any (is_start entry) others) later h

-- ---- functions of one name are one
same_is : (a b : List ℕ) → is_same a b ≡ true → a ≡ b
same_is a b same = (bytes_decides a b).0 same

same_self : (a : List ℕ) → is_same a a ≡ true
same_self a = (bytes_decides a a).1 refl

-- a name that stands before is a fault
no_fault : (b : Bool) (p : Place) → b ≡ true → unless (not b) Twice p ≡ [] → ⊥
no_fault true p e none = absurd (cc)
no_fault false p e none = absurd_true e

no_second : (entry : List ℕ) (before : List (List ℕ)) (fs : List tree.FunctionTree) → is_in before entry ≡ true → repeated before (map (λ f. f.name) fs) ≡ []
    → list_any (is_start entry) fs ≡ true → ⊥
no_second entry before [] there none e = absurd_true e
no_second entry before (f ∷ fs) there none e =
    at (is_same f.name.text entry) (is_empty (listed_parameters f.parameters)) (list_any (is_start entry) fs) refl
    (no_second entry (f.name.text ∷ before) fs (or_right (is_same entry f.name.text) (is_in before entry) there) (none_right now (repeated (f.name.text ∷ before) (map (λ g. g.name) fs)) none)) e
  where
    now : List Fault
    now = unless (not (is_in before f.name.text)) Twice f.name.place

    at : (a b r : Bool) → is_same f.name.text entry ≡ a → (r ≡ true → ⊥) → ((a && b) || r) ≡ true → ⊥
    at true b r same later h =
        no_fault (is_in before f.name.text) f.name.place (subst (λ w. is_in before w ≡ true) (sym (same_is f.name.text entry same)) there)
        (none_left now (repeated (f.name.text ∷ before) (map (λ g. g.name) fs)) none)
    at false b r same later h = later h

pub entry_first : (entry : List ℕ) (before : List (List ℕ)) (fs : List tree.FunctionTree) → repeated before (map (λ f. f.name) fs) ≡ []
    → list_any (is_start entry) fs ≡ true
    → (f : tree.FunctionTree) × (slice_get fs (position_or_len (λ g. is_same g.name.text entry) fs) ≡ Some f) × (is_empty (listed_parameters f.parameters) ≡ true)
entry_first entry before [] none e = absurd_true e
entry_first entry before (f ∷ fs) none e =
    at (is_same f.name.text entry) (is_empty (listed_parameters f.parameters)) (list_any (is_start entry) fs) (position_or_len (λ g. is_same g.name.text entry) fs) refl refl refl
    (λ more. entry_first entry (f.name.text ∷ before) fs rest more) e
  where
    rest : repeated (f.name.text ∷ before) (map (λ g. g.name) fs) ≡ []
    rest = none_right (unless (not (is_in before f.name.text)) Twice f.name.place) (repeated (f.name.text ∷ before) (map (λ g. g.name) fs)) none

    again : is_same f.name.text entry ≡ true → list_any (is_start entry) fs ≡ true → ⊥
    again same more =
        no_second entry (f.name.text ∷ before) fs
        (or_left (is_same entry f.name.text) (is_in before entry) (subst (λ w. is_same entry w ≡ true) (sym (same_is f.name.text entry same)) (same_self entry))) rest more

    at : (a b r : Bool) (k : ℕ) → is_same f.name.text entry ≡ a → is_empty (listed_parameters f.parameters) ≡ b → list_any (is_start entry) fs ≡ r
        → (r ≡ true → (g : tree.FunctionTree) × (slice_get fs k ≡ Some g) × (is_empty (listed_parameters g.parameters) ≡ true))
        → ((a && b) || r) ≡ true
        → (g : tree.FunctionTree) × (slice_get (f ∷ fs) (cond (not a) (1 + k) 0) ≡ Some g) × (is_empty (listed_parameters g.parameters) ≡ true)
    at true true r k same empty more later h = (f, refl, empty)
    at true false r k same empty more later h = absurd (again same (more ∙ h))
    at false b r k same empty more later h =
        let found = later h in
        let next : 1 + k ≡ suc k = omega arith in
        (found.0, ap (λ i. slice_get (f ∷ fs) i) next ∙ found.1, found.2)

-- ---- no parameters
pub none_listed : (ps : List Parameter) → is_empty ps ≡ true → ps ≡ []
none_listed [] e = refl
none_listed (p ∷ ps) e = absurd_true e
