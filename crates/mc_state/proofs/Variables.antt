-- Variables that get a node, are forgotten, or are known.
use Rattle.std.proofs.Common.{◌≡◌, ℕ, zero, suc, List, [], ◌∷◌, Option, Some, None, get_or, slice_set, refl, ap, ◌∙◌, ℤ}
use Rattle.mc_base.specs.declared.ids.NodeId.{NodeId}
use Rattle.mc_base.specs.Nodes.{Valuation}
use Rattle.mc_state.specs.Stands.{VarMeets, VarsMeet}
use Rattle.mc_state.specs.Laws.{VarIsSet, VarIsForgotten, VarIsKnown}

module _ (v : Valuation) where
  -- at one place a node, or none, and a value that fits it
  vars_set : (xs : List (Option NodeId)) (values : List (Option ℤ)) (place : ℕ) (x : Option NodeId) (value : Option ℤ) → VarMeets v x value → VarsMeet v xs values → VarsMeet v (slice_set xs place x) (slice_set values place value)
  vars_set [] [] place x value fits m = m
  vars_set [] (z ∷ zs) place x value fits m = absurd m
  vars_set (y ∷ ys) [] place x value fits m = absurd m
  vars_set (y ∷ ys) (z ∷ zs) zero x value fits m = (fits, m.1)
  vars_set (y ∷ ys) (z ∷ zs) (suc place) x value fits m = (m.0, vars_set ys zs place x value fits m.1)

  vars_get : (xs : List (Option NodeId)) (values : List (Option ℤ)) (place : ℕ) (n : NodeId) → VarsMeet v xs values → get_or xs place None ≡ Some n → get_or values place None ≡ Some (v n.0)
  vars_get [] values place n m e = cc
  vars_get (x ∷ xs) [] place n m e = absurd m
  vars_get (None ∷ xs) (z ∷ zs) zero n m e = cc
  vars_get (Some k ∷ xs) (z ∷ zs) zero n m e = let same : k ≡ n = cc in m.0 ∙ ap (λ (j : NodeId). Some (v j.0)) same
  vars_get (x ∷ xs) (z ∷ zs) (suc place) n m e = vars_get xs zs place n m.1 e

pub var_is_set : VarIsSet
var_is_set defs v values region s x n st =
    record { null = st.null; kinds = st.kinds; atoms = st.atoms; vars = vars_set v s.env values x.0 (Some n) (Some (v n.0)) refl st.vars; parts = st.parts }

pub var_is_forgotten : VarIsForgotten
var_is_forgotten defs v values region s x value st =
    record { null = st.null; kinds = st.kinds; atoms = st.atoms; vars = vars_set v s.env values x.0 None value tt st.vars; parts = st.parts }

pub var_is_known : VarIsKnown
var_is_known defs v values region s x n st e = vars_get v s.env values x.0 n st.vars e
