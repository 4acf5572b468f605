-- Lists that grow by what each item of another list becomes.
use Rattle.std.proofs.Common.{◌≡◌, ◌<◌, ◌+◌, ◌-◌, ℕ, zero, suc, Some, Bool, true, false, List, [], ◌∷◌, ◌++◌, map, take, drop, length, get_or, slice_get, refl, sym, ◌∙◌, ap, subst, arith}
use Rattle.std.specs.Prelude.{◌==◌, if◌then◌else◌}
use Rattle.std.specs.List.{AllByRecursion}
use Rattle.std.proofs.lemmas.List.{append_assoc, drop_more, length-drop}
use Rattle.mc_base.specs.declared.ids.NodeId.{NodeId}
use Rattle.mc_base.specs.declared.ids.PredId.{PredId}
use Rattle.mc_flow.specs.declared.defs.rules.Call.{Call}
use Rattle.mc_flow.specs.declared.defs.rules.DefAtom.{DefAtom}
use Rattle.mc_flow.specs.Defs.Instances.{atom_of}
use Rattle.mc_pure.specs.Pure.{Kinds, IsWellFormed}
use Rattle.mc_rules_logic.specs.Unfold.Unfolded.{own_places}

module _ {X : Type 0} where
  -- from a place on there is the item there, and the others after it
  pub item_here : (xs : List X) (i : ℕ) (x : X) → i < length xs → x ≡ get_or xs i x → drop i xs ≡ x ∷ drop (i + 1) xs
  item_here xs i x inside is = drop_more xs i x inside ∙ ap (λ y. y ∷ drop (i + 1) xs) (sym is)

  -- what holds of all of them holds of it and of the others
  pub all_here : (P : X → Type 0) (xs : List X) (i : ℕ) (x : X) → i < length xs → x ≡ get_or xs i x → AllByRecursion P (drop i xs) → P x × AllByRecursion P (drop (i + 1) xs)
  all_here P xs i x inside is all = subst (AllByRecursion P) (item_here xs i x inside is) all

module _ {X : Type 0} where
  -- the item at a place inside is looked up there
  pub found_here : (xs : List X) (i : ℕ) (x : X) → i < length xs → x ≡ get_or xs i x → slice_get xs i ≡ Some x
  found_here [] i x inside is = absurd (omega arith)
  found_here (y ∷ xs) zero x inside is = ap (λ z. Some z) (sym is)
  found_here (y ∷ xs) (suc i) x inside is = let within : i < length xs = omega arith in found_here xs i x within is

  -- all of a list is taken, also after a place
  whole : (xs : List X) → take (length xs) xs ≡ xs
  whole [] = refl
  whole (x ∷ xs) = ap (λ l. x ∷ l) (whole xs)

  pub rest_whole : (xs : List X) (n : ℕ) → take (length xs - n) (drop n xs) ≡ drop n xs
  rest_whole xs n = ap (λ m. take m (drop n xs)) (sym (length-drop n xs)) ∙ whole (drop n xs)

module _ {X Y : Type 0} where
  -- what an item becomes is put after what those before it became
  pub image_put : (F : X → Y) (xs : List X) (i : ℕ) (x : X) (old new : List Y) (y : Y) → i < length xs → x ≡ get_or xs i x
      → new ≡ old ++ y ∷ [] → y ≡ F x → old ++ map F (drop i xs) ≡ map F xs → new ++ map F (drop (i + 1) xs) ≡ map F xs
  image_put F xs i x old new y inside is put made before =
      ap (λ l. l ++ map F (drop (i + 1) xs)) (put ∙ ap (λ y. old ++ y ∷ []) made)
      ∙ append_assoc old (F x ∷ []) (map F (drop (i + 1) xs))
      ∙ ap (λ l. old ++ map F l) (sym (item_here xs i x inside is))
      ∙ before

  pub images_join : (F : X → Y) (xs ys : List X) → map F (xs ++ ys) ≡ map F xs ++ map F ys
  images_join F [] ys = refl
  images_join F (x ∷ xs) ys = ap (λ l. F x ∷ l) (images_join F xs ys)

chosen : (b : Bool) (n : ℕ) (ms : List ℕ) → (if b then n ∷ ms else ms) ≡ (if b then n ∷ [] else []) ++ ms
chosen true n ms = refl
chosen false n ms = refl

own_more : (pred : PredId) (n : ℕ) (c : Call) (cs : List Call) → own_places pred n (c ∷ cs) ≡ own_places pred n (c ∷ []) ++ own_places pred (suc n) cs
own_more pred n c cs = chosen (c.pred.0 == pred.0) n (own_places pred (suc n) cs)

-- what a call becomes, if it is one of the predicate, is put after what those before it became
pub own_put : {Y : Type 0} (F : ℕ → Y) (pred : PredId) (calls : List Call) (i : ℕ) (call : Call) (old new all : List Y) → i < length calls → call ≡ get_or calls i call
    → new ≡ old ++ map F (own_places pred i (call ∷ [])) → old ++ map F (own_places pred i (drop i calls)) ≡ all
    → new ++ map F (own_places pred (i + 1) (drop (i + 1) calls)) ≡ all
own_put F pred calls i call old new all inside is put before =
    let count : i + 1 ≡ suc i = omega arith in
    let one = own_places pred i (call ∷ []) in
    let rest = own_places pred (i + 1) (drop (i + 1) calls) in
    ap (λ l. l ++ map F rest) put
    ∙ append_assoc old (map F one) (map F rest)
    ∙ ap (λ l. old ++ l) (sym (images_join F one rest))
    ∙ ap (λ n. old ++ map F (one ++ own_places pred n (drop (i + 1) calls))) count
    ∙ ap (λ l. old ++ map F l) (sym (own_more pred i call (drop (i + 1) calls)))
    ∙ ap (λ cs. old ++ map F (own_places pred i cs)) (sym (item_here calls i call inside is))
    ∙ before

-- atoms that are well formed for the same kinds and nodes
pub same_formed : (kinds big : Kinds) (nodes list : List NodeId) (atoms : List DefAtom) → kinds ≡ big → nodes ≡ list → AllByRecursion (IsWellFormed big) (map (atom_of list) atoms) → AllByRecursion (IsWellFormed kinds) (map (atom_of nodes) atoms)
same_formed kinds big nodes list atoms same are formed =
    subst (λ k. AllByRecursion (IsWellFormed k) (map (atom_of nodes) atoms)) (sym same)
    (subst (λ ns. AllByRecursion (IsWellFormed big) (map (atom_of ns) atoms)) (sym are) formed)

-- what holds for the same kinds and nodes
pub at_nodes : (P : Kinds → List NodeId → Type 0) (kinds big : Kinds) (nodes list : List NodeId) → kinds ≡ big → nodes ≡ list → P big list → P kinds nodes
at_nodes P kinds big nodes list same are p = subst (λ k. P k nodes) (sym same) (subst (P big) (sym are) p)
