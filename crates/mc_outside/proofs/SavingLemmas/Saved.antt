-- Bytes that are added to a file that was made empty.
use Rattle.std.proofs.Common.{◌≡◌, ◌∙◌, ℕ, List, [], Option, Some, Ok, Err, ap, inl, inr}
use Rattle.mc_outside.specs.declared.outside.FileFault.{FileFault}
use Rattle.mc_outside.specs.declared.outside.FileFault.TheVariants.{Failed, NoMemory}
use Rattle.mc_outside.specs.Outside.{AddsIfTold, Empties, IsEmptied}
use Rattle.mc_outside.specs.Saving.Saving.{IsFront, Saves, WhereAnyTold}

abbrev Holds : Type 0
Holds = List ℕ → Option (List ℕ)

-- to an empty file all the bytes are added
pub all_added : (name bytes : List ℕ) (old mid new : Holds) → IsEmptied old (mid name) → AddsIfTold (mid name) bytes (new name) (Ok tt) → WhereAnyTold old (new name ≡ Some bytes)
all_added name bytes old mid new empty adds other told =
    let k = adds [] (empty.told other told) in
    k.1 ∙ ap Some k.2

-- or after a fault the front of them
pub front_added : (name bytes : List ℕ) (old mid new : Holds) (fault : FileFault) → IsEmptied old (mid name) → AddsIfTold (mid name) bytes (new name) (Err fault) → WhereAnyTold old (IsFront bytes (new name))
front_added name bytes old mid new fault empty adds other told =
    let k = adds [] (empty.told other told) in
    (k.2.0, k.1 ∙ ap Some k.2.1)

-- a file that could not be made empty is as it was, or empty
pub not_emptied : (name bytes : List ℕ) (old new : Holds) (fault : FileFault) → Empties name old new (Err fault) → Saves name bytes old new (Err fault)
not_emptied name bytes old new Failed (inl same) = inl same
not_emptied name bytes old new Failed (inr empty) = inr (λ other told. (0, empty))
not_emptied name bytes old new NoMemory same = inl same
