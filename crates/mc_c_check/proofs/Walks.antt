-- One part of a body after another.
use Rattle.std.proofs.Common.{◌≡◌, List, [], ◌∷◌, sym, ap, subst, ◌∙◌, flat_map}
use Rattle.std.specs.Prelude.{Option, None, Some, MatchOption}
use Rattle.mc_c_types.specs.First.{told_of}
use Rattle.mc_c_types.specs.declared.faults.Fault.{Fault}
use Rattle.mc_c_walk.specs.Visits.{Visit}
use Rattle.mc_c_check.proofs.Rows.{told_append}

-- the case that there is one
pub some_case : {X : Type 0} (P : Type 0) (Q : X → Type 0) (o : Option X) (x : X) → o ≡ Some x → MatchOption o P Q → Q x
some_case P Q o x e h = subst (λ o. MatchOption o P Q) e h

-- the case that there is none
pub none_case : {X : Type 0} (P : Type 0) (Q : X → Type 0) (o : Option X) → o ≡ None → MatchOption o P Q → P
none_case P Q o e h = subst (λ o. MatchOption o P Q) e h

-- after the last part
pub all_visited : (f : Visit → List Fault) (o a : Option Fault) (left visits whole : List Visit)
    → told_of a (flat_map f left) ≡ told_of o (flat_map f visits) → left ≡ [] → visits ≡ whole → a ≡ told_of o (flat_map f whole)
all_visited f o a left visits whole told none all = ap (λ vs. told_of a (flat_map f vs)) (sym none) ∙ told ∙ ap (λ vs. told_of o (flat_map f vs)) all

pub next_visit : (f : Visit → List Fault) (o a : Option Fault) (v : Visit) (old new : List Visit) → old ≡ v ∷ new → a ≡ told_of o (f v) → told_of a (flat_map f new) ≡ told_of o (flat_map f old)
next_visit f o a v old new e p =
    ap (λ g. told_of g (flat_map f new)) p ∙ sym (told_append o (f v) (flat_map f new)) ∙ ap (λ vs. told_of o (flat_map f vs)) (sym e)
