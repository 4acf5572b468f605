-- Parts of a region, one for each of a list of things.
use Rattle.std.proofs.Common.{List, [], ◌∷◌, ◌++◌, refl, sym, subst}
use Rattle.mc_flow.specs.Heap.Heap.{Region}
use Rattle.mc_flow.specs.Heap.Instances.{nowhere}
use Rattle.mc_flow.specs.Heap.Parts.{Split, IsEmpty, Star}
use Rattle.mc_flow.specs.Heap.PartLaws.{SplitCommutes, SplitRegroupsLeft, SplitDropsEmpty, SplitAddsEmpty}

-- what holds of parts
pub record PartLaws : Type 0 where
  pub commutes : SplitCommutes
  pub left : SplitRegroupsLeft
  pub drops_empty : SplitDropsEmpty
  pub adds_empty : SplitAddsEmpty

pub nowhere-IsEmpty : IsEmpty nowhere
nowhere-IsEmpty = record { none = λ at. refl }

module _ (laws : PartLaws) where
  pub none_left : (region : Region) → Split region nowhere region
  none_left region = laws.adds_empty region nowhere nowhere-IsEmpty

  pub none_right : (region : Region) → Split region region nowhere
  none_right region = laws.commutes region nowhere region (none_left region)

  module _ {A : Type 0} (M : A → Region → Type 0) where
    -- one thing alone has the whole region
    pub star_one : (x : A) (region : Region) → M x region → Star M (x ∷ []) region
    star_one x region m = (region, nowhere, none_right region, m, nowhere-IsEmpty)

    -- and a list of one thing has its region
    pub one_star : (x : A) (region : Region) → Star M (x ∷ []) region → M x region
    one_star x region s = subst (M x) (sym (laws.drops_empty region s.1 s.0 s.4 (laws.commutes region s.0 s.1 s.2))) s.3

    -- a part for each of two lists
    pub star_parts : (xs ys : List A) (region : Region) → Star M (xs ++ ys) region → (left : Region) × (right : Region) × Split region left right × Star M xs left × Star M ys right
    star_parts [] ys region s = (nowhere, region, none_left region, nowhere-IsEmpty, s)
    star_parts (x ∷ xs) ys region s =
        let more = star_parts xs ys s.1 s.4 in
        let whole = laws.left region s.0 s.1 more.0 more.1 s.2 more.2 in
        (whole.0, more.1, whole.2, (s.0, more.0, whole.1, s.3, more.3), more.4)
