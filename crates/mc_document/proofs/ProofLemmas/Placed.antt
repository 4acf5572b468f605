-- States that are put among those of cuts, where the first branch ends.
use Rattle.std.proofs.Common.{◌≡◌, ℕ, zero, suc, List, [], ◌∷◌, Some, drop, insert, map, option_map, refl, sym, ◌∙◌, ap, subst}
use Rattle.std.specs.Prelude.{Ok, slice_set}
use Rattle.std.specs.List.{AllByRecursion}
use Rattle.mc_flow.specs.declared.defs.rules.Def.{Def}
use Rattle.mc_flow.specs.declared.graph.Flow.{Flow}
use Rattle.mc_check_line.specs.declared.branch.Head.{Head as HeadCode}
use Rattle.mc_check_line.specs.Judging.{head_of}
use Rattle.mc_kernel.specs.Branches.{Head, Path}
use Rattle.mc_kernel.specs.Readings.{first_branch}
use Rattle.mc_state.specs.Fits.{IsWellMade}
use Rattle.mc_document.specs.Proof.Lines.{ending_with}
use Rattle.mc_document.specs.Proof.Positions.{Position}
use Rattle.mc_document.specs.Proof.Stacks.{HeadsAreMade}

-- ---- lists with an item more, or another item

module _ {X Y : Type 0} (f : X → Y) where
  pub map_inserted : (xs : List X) (i : ℕ) (x : X) → map f (insert xs i x) ≡ insert (map f xs) i (f x)
  map_inserted xs zero x = refl
  map_inserted [] (suc i) x = refl
  map_inserted (y ∷ xs) (suc i) x = ap (λ (ys : List Y). f y ∷ ys) (map_inserted xs i x)

  pub map_replaced : (xs : List X) (i : ℕ) (x : X) → map f (slice_set xs i x) ≡ slice_set (map f xs) i (f x)
  map_replaced [] i x = refl
  map_replaced (y ∷ xs) zero x = refl
  map_replaced (y ∷ xs) (suc i) x = ap (λ (ys : List Y). f y ∷ ys) (map_replaced xs i x)

module _ {X : Type 0} (P : X → Type 0) where
  pub all_inserted : (xs : List X) (i : ℕ) (x : X) → AllByRecursion P xs → P x → AllByRecursion P (insert xs i x)
  all_inserted xs zero x all one = (one, all)
  all_inserted [] (suc i) x all one = (one, tt)
  all_inserted (y ∷ xs) (suc i) x all one = (all.0, all_inserted xs i x all.1 one)

  pub all_replaced : (xs : List X) (i : ℕ) (x : X) → AllByRecursion P xs → P x → AllByRecursion P (slice_set xs i x)
  all_replaced [] i x all one = tt
  all_replaced (y ∷ xs) zero x all one = (one, all.1)
  all_replaced (y ∷ xs) (suc i) x all one = (all.0, all_replaced xs i x all.1 one)

  pub all_later : (xs : List X) → AllByRecursion P xs → AllByRecursion P (drop 1 xs)
  all_later [] all = tt
  all_later (x ∷ xs) all = all.1

-- ---- the first branch ends

first_is : (bs : List Path) (b : Path) → Some b ≡ option_map (λ (x : Path × List Path). x.0) (first_branch bs) → first_branch bs ≡ Some (b, drop 1 bs)
first_is [] b e = absurd (cc e)
first_is (x ∷ bs) b e = let is : b ≡ x = cc e in ap (λ (y : Path). Some (y, bs)) (sym is)

-- the states of cuts stay made
pub put_made : (flow : Flow) (defs : List Def) (heads now : List HeadCode) (i : ℕ) (h : HeadCode) → now ≡ insert heads i h
    → HeadsAreMade flow defs (map head_of heads) → IsWellMade defs flow.vars flow.structs.list h.state → HeadsAreMade flow defs (map head_of now)
put_made flow defs heads now i h e made own =
    subst (λ (hs : List HeadCode). HeadsAreMade flow defs (map head_of hs)) (sym e)
    (subst (λ (hs : List Head). HeadsAreMade flow defs hs) (sym (map_inserted head_of heads i h))
    (all_inserted (λ (x : Head). IsWellMade defs flow.vars flow.structs.list x.1) (map head_of heads) i (head_of h) made own))

pub swap_made : (flow : Flow) (defs : List Def) (heads : List HeadCode) (i : ℕ) (h : HeadCode)
    → HeadsAreMade flow defs (map head_of heads) → IsWellMade defs flow.vars flow.structs.list h.state
    → HeadsAreMade flow defs (map head_of (slice_set heads i h))
swap_made flow defs heads i h made own =
    subst (λ (hs : List Head). HeadsAreMade flow defs hs) (sym (map_replaced head_of heads i h))
    (all_replaced (λ (x : Head). IsWellMade defs flow.vars flow.structs.list x.1) (map head_of heads) i (head_of h) made own)

-- it does where it is there, and the heads and the other branches are these
pub ends_first : (q : Position) (heads : Path → List Head) (b : Path) (now : List Head) (others : List Path)
    → Some b ≡ option_map (λ (x : Path × List Path). x.0) (first_branch q.branches) → heads b ≡ now → others ≡ drop 1 q.branches
    → ending_with heads q ≡ Ok (record q { heads = now; branches = others })
ends_first q heads b now others first e f =
    rw (first_is q.branches b first)
    (ap (λ (hs : List Head). Ok (record q { heads = hs; branches = drop 1 q.branches })) e
    ∙ ap (λ (bs : List Path). Ok (record q { heads = now; branches = bs })) (sym f))
