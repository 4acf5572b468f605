-- Names that are taken from the end.
use Rattle.std.proofs.Common.{◌≡◌, ℕ, List, [], ◌∷◌, ◌++◌, ◌<◌, ◌≤◌, ◌+◌, ◌-◌, refl, ap, sym, ◌∙◌, length, take, drop, arith, append_assoc, length-append}
use Rattle.std.proofs.lemmas.List.{drop-append-le, take-take}

pub shorter : {X : Type 0} (xs less : List X) (kept : ℕ) → less ≡ take (length xs - 1) xs → kept < length xs → take kept less ≡ take kept xs
shorter xs less kept is below = rw is (take-take kept (length xs - 1) xs (omega arith))

pub moved : {X : Type 0} (xs less : List X) (x : X) (above all : List X) (kept : ℕ) → xs ≡ less ++ x ∷ [] → kept < length xs → drop kept xs ++ above ≡ all → drop kept less ++ (x ∷ above) ≡ all
moved xs less x above all kept is below whole =
    let long : length xs ≡ length less + 1 = ap length is ∙ length-append less (x ∷ []) in
    let within : kept ≤ length less = omega arith in
    sym (append_assoc (drop kept less) (x ∷ []) above)
    ∙ ap (λ ys. ys ++ above) (sym (drop-append-le kept less (x ∷ []) within) ∙ ap (drop kept) (sym is))
    ∙ whole
