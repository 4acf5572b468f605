-- What a file holds that is written anew.
use Rattle.std.specs.Prelude.{◌≡◌, ◌⊎◌, ℕ, List, Option, Some, IsSome, Result, Ok, Err, take, ⊤}
use Rattle.mc_outside.specs.declared.outside.FileFault.{FileFault}

-- what is held is the front of the bytes
abbrev pub IsFront : List ℕ → Option (List ℕ) → Type 0
IsFront bytes held = (n : ℕ) × (held ≡ Some (take n bytes))

-- this is so where some file was told
abbrev pub WhereAnyTold : (List ℕ → Option (List ℕ)) → Type 0 → Type 0
WhereAnyTold old P = (other : List ℕ) → IsSome (old other) → P

-- the file holds the bytes; after a fault it is as it was, or holds the front of them
abbrev pub Saves : List ℕ → List ℕ → (old new : List ℕ → Option (List ℕ)) → Result ⊤ FileFault → Type 0
Saves name bytes old new (Ok _) = WhereAnyTold old (new name ≡ Some bytes)
Saves name bytes old new (Err _) = (new name ≡ old name) ⊎ WhereAnyTold old (IsFront bytes (new name))
