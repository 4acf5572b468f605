-- What is left before and after a step.
use Rattle.std.proofs.Common.{◌≡◌, ◌<◌, ◌≤◌, ℕ, List, Some, Bool, true, false, cond, eqb, length, get_or, refl, sym, ap, ◌∙◌, subst, arith, eq-eqb, eqb-true}
use Rattle.std.proofs.lemmas.List.Folds.{Any-from_list_any, list_any-from_Any, list_any_at}
use Rattle.std.proofs.lemmas.Option.{slice_get-get_or}
use Rattle.std.specs.List.{list_any}
use Rattle.std.specs.Prelude.{Contains}
use Rattle.mc_lower_spec.proofs.LengthLemmas.Firsts.{AllTo}
use Rattle.mc_lower_spec.specs.Length.Lengths.{leaving}

abbrev one_if : Bool → ℕ
one_if b = cond b 1 0

-- one of the variables is made
pub some_left : (xs made : List ℕ) (i : ℕ) → i < length xs → Contains made (get_or xs i 0) → leaving xs made ≡ 1
some_left xs made i within among =
    let (j, j_within, j_there) = among in
    let inner : list_any (eqb (get_or xs i 0)) made ≡ true = list_any-from_Any (eqb (get_or xs i 0)) made (j, get_or xs i 0, j_within, j_there, eq-eqb (get_or xs i 0) (get_or xs i 0) refl) in
    let outer : list_any (λ x. list_any (eqb x) made) xs ≡ true = list_any_at (λ x. list_any (eqb x) made) xs i 0 within inner in
    ap one_if outer

no_left : (xs made : List ℕ) (b : Bool) → list_any (λ x. list_any (eqb x) made) xs ≡ b → ((x : ℕ) → Contains xs x → Contains made x → ⊥) → one_if b ≡ 0
no_left xs made false is none = refl
no_left xs made true is none =
    let (i, x, i_within, x_there, x_made) = Any-from_list_any (λ x. list_any (eqb x) made) xs is in
    let (j, y, j_within, y_there, same) = Any-from_list_any (eqb x) made x_made in
    let one : y ≡ x = sym (eqb-true x y same) in
    absurd (none x (i, i_within, x_there) (subst (λ z. Contains made z) one (j, j_within, y_there)))

-- none of them is
pub none_left : (xs made : List ℕ) (n : ℕ) → length xs ≤ n → AllTo (λ i x. Contains made x → ⊥) n xs → leaving xs made ≡ 0
none_left xs made n all none =
    no_left xs made (list_any (λ x. list_any (eqb x) made) xs) refl
    (λ x among made_by. none among.0 x (omega (arith, among.1, all)) (slice_get-get_or xs among.0 x among.1 ∙ ap (λ z. Some z) among.2) made_by)
