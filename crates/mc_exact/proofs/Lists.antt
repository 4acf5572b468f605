-- Lists of values, and parts of lists.
use Rattle.std.proofs.Common.{◌≡◌, ◌≢◌, ◌<◌, ◌+◌, ℕ, zero, suc, ℤ, Option, None, List, [], ◌∷◌, ◌++◌, map, option_map, take, get_or, length, slice_get, slice_set, refl, ap, ◌∙◌, arith}
use Rattle.std.specs.Prelude.{slice_index_or, replicate}
use Rattle.std.specs.List.{AllByRecursion}
use Rattle.std.proofs.lemmas.List.{map-set}
use Rattle.mc_base.specs.declared.ids.NodeId.{NodeId}
use Rattle.mc_base.specs.declared.ids.VarId.{VarId}
use Rattle.mc_base.specs.Nodes.{Valuation, at_node}
use Rattle.mc_flow.specs.Values.{without}
use Rattle.mc_state.specs.State.{State, with_var, without_vars}
use Rattle.mc_state.proofs.Lists.{all_left, all_right}
use Rattle.mc_exact.proofs.Exactly.{values_by, AreApart}

-- what is apart in more is so in less, and the last is from each
pub apart_front : (v : Valuation) (as' : List NodeId) (n : NodeId) → AreApart v (as' ++ n ∷ []) → AreApart v as'
apart_front v [] n apart = tt
apart_front v (a ∷ as') n apart = (all_left (λ (b : NodeId). v a.0 ≢ v b.0) as' (n ∷ []) apart.0, apart_front v as' n apart.1)

pub apart_last : (v : Valuation) (as' : List NodeId) (n : NodeId) → AreApart v (as' ++ n ∷ []) → AllByRecursion (λ (a : NodeId). v a.0 ≢ v n.0) as'
apart_last v [] n apart = tt
apart_last v (a ∷ as') n apart = ((all_right (λ (b : NodeId). v a.0 ≢ v b.0) as' (n ∷ []) apart.0).0, apart_last v as' n apart.1)

-- values by nodes
pub value_by : (v : Valuation) (ns : List (Option NodeId)) (i : ℕ) → slice_index_or (values_by v ns) i None ≡ option_map (at_node v) (slice_index_or ns i None)
value_by v [] i = refl
value_by v (n ∷ ns) zero = refl
value_by v (n ∷ ns) (suc i) = value_by v ns i

pub field_by : (v : Valuation) (ns : List (Option NodeId)) (i : ℕ) → slice_get (values_by v ns) i ≡ option_map (option_map (at_node v)) (slice_get ns i)
field_by v [] i = refl
field_by v (n ∷ ns) zero = refl
field_by v (n ∷ ns) (suc i) = field_by v ns i

pub set_by : (v : Valuation) (ns : List (Option NodeId)) (i : ℕ) (n : Option NodeId) → values_by v (slice_set ns i n) ≡ slice_set (values_by v ns) i (option_map (at_node v) n)
set_by v ns i n = map-set (option_map (at_node v)) ns i n

pub fresh_by : (v : Valuation) (count : ℕ) → values_by v (replicate count None) ≡ replicate count None
fresh_by v zero = refl
fresh_by v (suc count) = ap (λ (l : List (Option ℤ)). None ∷ l) (fresh_by v count)

pub length_by : (v : Valuation) (ns : List (Option NodeId)) → length (values_by v ns) ≡ length ns
length_by v [] = refl
length_by v (n ∷ ns) = ap suc (length_by v ns)

pub without_by : (v : Valuation) (s : State) (xs : List VarId) → values_by v (without_vars s xs).env ≡ without (values_by v s.env) xs
without_by v s [] = refl
without_by v s (x ∷ xs) = without_by v (with_var s x None) xs ∙ ap (λ (l : List (Option ℤ)). without l xs) (set_by v s.env x.0 None)

-- the values of the first items, and of one more
pub map_more : {A B : Type 0} (f : A → B) (xs : List A) (i : ℕ) (d : A) → i < length xs → map f (take i xs) ++ f (get_or xs i d) ∷ [] ≡ map f (take (i + 1) xs)
map_more f [] i d lt = absurd (omega arith)
map_more f (x ∷ xs) zero d lt = refl
map_more f (x ∷ xs) (suc i) d lt =
    let less : i < length xs = (let l : suc i < suc (length xs) = lt in omega arith) in
    let next : suc (i + 1) ≡ suc i + 1 = omega arith in
    ap (λ (l : List _). f x ∷ l) (map_more f xs i d less) ∙ ap (λ (k : ℕ). map f (take k (x ∷ xs))) next
