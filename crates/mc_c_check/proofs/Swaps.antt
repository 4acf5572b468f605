-- The order in which faults are noted changes nothing.
use Rattle.std.proofs.Common.{◌≡◌, List, [], ◌∷◌, refl, ap, sym, ◌∙◌, Bool, true, false, cond, true≢false}
use Rattle.std.specs.Prelude.{Option, Some, None}
use Rattle.mc_c_types.specs.First.{is_told, told_of}
use Rattle.mc_c_types.specs.declared.faults.Fault.{Fault}
use Rattle.mc_c_types.proofs.Orders.{is_told-antisym, is_told-total, is_told-trans}
use Rattle.mc_c_check.proofs.Rows.{told_append}

-- the first of two
abbrev pub first_of : Fault → Fault → Fault
first_of f g = cond (is_told f g) f g

swapped_step : (f g : Fault) (p q : Bool) → is_told f g ≡ p → is_told g f ≡ q → cond p f g ≡ cond q g f
swapped_step f g true true d e = is_told-antisym f g d e
swapped_step f g true false d e = refl
swapped_step f g false true d e = refl
swapped_step f g false false d e = absurd (true≢false (sym (is_told-total f g d) ∙ e))

first_of-swapped : (f g : Fault) → first_of f g ≡ first_of g f
first_of-swapped f g = swapped_step f g (is_told f g) (is_told g f) refl refl

-- the last of three is first where it stands before the others
last_first : (f h : Fault) (p : Bool) → is_told f h ≡ p → is_told h f ≡ true → h ≡ cond p f h
last_first f h true d e = is_told-antisym h f e d
last_first f h false d e = refl

joined_step : (f g h : Fault) (p q : Bool) → is_told f g ≡ p → is_told g h ≡ q → first_of (cond p f g) h ≡ first_of f (cond q g h)
joined_step f g h true true d e = rw d (rw (is_told-trans f g h d e) refl)
joined_step f g h true false d e = refl
joined_step f g h false true d e = rw d (rw e refl)
joined_step f g h false false d e = rw e (last_first f h (is_told f h) refl (is_told-trans h g f (is_told-total g h e) (is_told-total f g d)))

first_of-joined : (f g h : Fault) → first_of (first_of f g) h ≡ first_of f (first_of g h)
first_of-joined f g h = joined_step f g h (is_told f g) (is_told g h) refl refl

-- two faults, in either order
two_swapped : (told : Option Fault) (f g : Fault) → told_of (told_of told (f ∷ [])) (g ∷ []) ≡ told_of (told_of told (g ∷ [])) (f ∷ [])
two_swapped None f g = ap (λ x. Some x) (first_of-swapped f g)
two_swapped (Some told) f g =
    ap (λ x. Some x) (first_of-joined told f g ∙ ap (first_of told) (first_of-swapped f g) ∙ sym (first_of-joined told g f))

-- one and several
one_past : (told : Option Fault) (f : Fault) (gs : List Fault) → told_of (told_of told (f ∷ [])) gs ≡ told_of (told_of told gs) (f ∷ [])
one_past told f [] = refl
one_past told f (g ∷ gs) =
    told_append (told_of told (f ∷ [])) (g ∷ []) gs
    ∙ ap (λ o. told_of o gs) (two_swapped told f g)
    ∙ one_past (told_of told (g ∷ [])) f gs
    ∙ ap (λ o. told_of o (f ∷ [])) (sym (told_append told (g ∷ []) gs))

-- several and several
pub told_swapped : (told : Option Fault) (fs gs : List Fault) → told_of (told_of told fs) gs ≡ told_of (told_of told gs) fs
told_swapped told [] gs = refl
told_swapped told (f ∷ fs) gs =
    ap (λ o. told_of o gs) (told_append told (f ∷ []) fs)
    ∙ told_swapped (told_of told (f ∷ [])) fs gs
    ∙ ap (λ o. told_of o fs) (one_past told f gs)
    ∙ sym (told_append (told_of told gs) (f ∷ []) fs)
