-- A well typed program has its entry.
use Rattle.std.proofs.Common.{◌≡◌, ◌∙◌, ◌&&◌, ℕ, Bool, true, false, List, [], ◌∷◌, Some, refl, sym}
use Rattle.std.specs.List.{find, list_any}
use Rattle.mc_c_syntax.specs.Ast.Names.{is_same}
use Rattle.mc_c_syntax.specs.Ast.Trees.{FunctionTree, UnitTree}
use Rattle.mc_c_types.specs.Tables.{called_function, is_defined, tables_of}
use Rattle.mc_c_types.specs.Typing.{IsWellTyped, is_entry}

pub found_first : {X : Type 0} (p q : X → Bool) (x : X) (xs : List X) (b d : Bool) → q x ≡ b → p x ≡ d → (p x ≡ true → q x ≡ true) → list_any p (x ∷ xs) ≡ true
    → (list_any p xs ≡ true → (y : X) × (find q xs ≡ Some y)) → (y : X) × (find q (x ∷ xs) ≡ Some y)
found_first p q x xs true d h g implies e later = (x, rw h refl)
found_first p q x xs false true h g implies e later = let two : false ≡ true = sym h ∙ implies g in cc
found_first p q x xs false false h g implies e later =
    let rest : list_any p xs ≡ true = rw g at e in
    let r = later rest in
    (r.0, rw h r.1)

pub find_any : {X : Type 0} (p q : X → Bool) (xs : List X) → ((x : X) → p x ≡ true → q x ≡ true) → list_any p xs ≡ true → (x : X) × (find q xs ≡ Some x)
find_any p q [] implies e = cc
find_any p q (x ∷ xs) implies e = found_first p q x xs (q x) (p x) refl refl (implies x) e (find_any p q xs implies)

pub first_two : (a b : Bool) → (a && b) ≡ true → a ≡ true
first_two true b e = refl
first_two false b e = cc

pub has_entry : (unit : UnitTree) (entry : List ℕ) → IsWellTyped unit entry → (f : FunctionTree) × (called_function (tables_of unit) entry ≡ Some f)
has_entry unit entry typed =
    find_any (is_entry entry) (λ f. is_defined f && is_same f.name.text entry) (tables_of unit).functions
    (λ f e. first_two (is_defined f && is_same f.name.text entry) _ e) typed.entered
