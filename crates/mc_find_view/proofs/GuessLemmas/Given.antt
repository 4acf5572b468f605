-- Names and their terms.
use Rattle.std.proofs.Common.{◌≡◌, ◌<◌, ◌≤◌, ◌+◌, ◌-◌, ℕ, zero, suc, List, [], ◌∷◌, ◌++◌, Option, Some, None, drop, length, append_assoc, refl, sym, ap, ◌∙◌, arith}
use Rattle.std.specs.Prelude.{slice_set, slice_index_or}
use Rattle.mc_flow.specs.declared.defs.rules.DefAtom.{DefAtom}
use Rattle.mc_state.specs.declared.terms.Term.{Term}
use Rattle.mc_state.specs.Guess.{Partial, given, give, give_all, by_atoms, by_passes, or_zero, parameters_of}

pub given_at : (names : Partial) (name : ℕ) → given names name ≡ slice_index_or names name None
given_at [] zero = refl
given_at [] (suc name) = refl
given_at (t ∷ names) zero = refl
given_at (t ∷ names) (suc name) = given_at names name

-- a name that has a term keeps it; another gets one
abbrev pub give_by : Option Term → Partial → ℕ → Option Term → Partial
give_by (Some t) names name new = names
give_by None names name new = slice_set names name new

pub give_is : (names : Partial) (name : ℕ) (new : Option Term) → give names name new ≡ give_by (given names name) names name new
give_is [] name new = refl
give_is (None ∷ names) zero new = refl
give_is (Some t ∷ names) zero new = refl
give_is (t ∷ names) (suc name) new = ap (λ (z : Partial). t ∷ z) (give_is names name new) ∙ at (given names name)
  where
    at : (o : Option Term) → t ∷ give_by o names name new ≡ give_by o (t ∷ names) (suc name) new
    at None = refl
    at (Some u) = refl

pub set_past : (names : Partial) (name : ℕ) (new : Option Term) → length names ≤ name → names ≡ slice_set names name new
set_past [] name new l = refl
set_past (t ∷ names) zero new l = absurd (omega arith)
set_past (t ∷ names) (suc name) new l = ap (λ (z : Partial). t ∷ z) (set_past names name new (omega arith))

pub give_all_past : (names : Partial) (args : List ℕ) (ts : List Term) (place : ℕ) → length ts ≤ place → give_all names args (drop place ts) ≡ names
give_all_past names args ts place l = ap (λ (z : List Term). give_all names args z) (none ts place l) ∙ nothing args
  where
    none : (ts : List Term) (place : ℕ) → length ts ≤ place → drop place ts ≡ []
    none [] zero l = refl
    none [] (suc place) l = refl
    none (t ∷ ts) zero l = absurd (omega arith)
    none (t ∷ ts) (suc place) l = none ts place (omega arith)

    nothing : (args : List ℕ) → give_all names args [] ≡ names
    nothing [] = refl
    nothing (arg ∷ args) = refl

pub params_next : (names : Partial) (count place : ℕ) (terms new : List Term) (t : Term) → place < count → parameters_of names 1 count ≡ terms ++ parameters_of names (1 + place) (count - place)
    → t ≡ or_zero (given names (place + 1)) → new ≡ terms ++ t ∷ [] → parameters_of names 1 count ≡ new ++ parameters_of names (1 + (place + 1)) (count - (place + 1))
params_next names count place terms new t l h is push =
    let more : count - place ≡ suc (count - (place + 1)) = omega arith in
    let here : suc place ≡ place + 1 = omega arith in
    let first : 1 + place ≡ suc place = omega arith in
    let later : suc (suc place) ≡ 1 + (place + 1) = omega arith in
    h
    ∙ (ap (λ (z : ℕ). terms ++ parameters_of names z (count - place)) first
    ∙ (ap (λ (z : ℕ). terms ++ parameters_of names (suc place) z) more
    ∙ (ap (λ (z : ℕ). terms ++ or_zero (given names z) ∷ parameters_of names (suc (suc place)) (count - (place + 1))) here
    ∙ (ap (λ (z : ℕ). terms ++ or_zero (given names (place + 1)) ∷ parameters_of names z (count - (place + 1))) later
    ∙ (ap (λ (z : Term). terms ++ z ∷ parameters_of names (1 + (place + 1)) (count - (place + 1))) (sym is)
    ∙ (sym (append_assoc terms (t ∷ []) (parameters_of names (1 + (place + 1)) (count - (place + 1))))
    ∙ ap (λ (z : List Term). z ++ parameters_of names (1 + (place + 1)) (count - (place + 1))) (sym push)))))))

pub pass_next : (count pass : ℕ) (start now new : Partial) (atoms : List DefAtom) → pass < count → start ≡ by_passes (count - pass) now atoms → new ≡ by_atoms now atoms → start ≡ by_passes (count - (pass + 1)) new atoms
pass_next count pass start now new atoms l h is =
    let more : count - pass ≡ suc (count - (pass + 1)) = omega arith in
    h ∙ (ap (λ (z : ℕ). by_passes z now atoms) more ∙ ap (λ (z : Partial). by_passes (count - (pass + 1)) z atoms) (sym is))
