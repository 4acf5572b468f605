-- What calls to files and sinks say, and why they fail.
use Rattle.std.specs.Prelude.{◌≡◌, ◌≢◌, ◌+◌, ◌-◌, ◌^◌, ◌<◌, ◌≤◌, ◌++◌, ◌⊎◌, ℕ, List, [], length, take, drop, min, max, Option, Some, IsSome, Result, Ok, Err, IfOk, IsErrOf, ⊤}
use Rattle.mc_outside.specs.declared.outside.FileFault.{FileFault}
use Rattle.mc_outside.specs.declared.outside.FileFault.TheVariants.{Failed, NoMemory}

-- a file never grows past this many bytes
abbrev pub file_limit : ℕ
file_limit = 9223372036854775807

-- one more, or the same where a count stands at its end
abbrev pub next : ℕ → ℕ
next n = max n (min (n + 1) (2 ^ 64 - 1))

-- the count rose, or stood at its end
abbrev pub Rose : ℕ → ℕ → Type 0
Rose before now = next before ≤ now

-- `Failed` is answered only where the count rose, and the count rises only there
pub record HasCause {T : Type 0} (before now : ℕ) (result : Result T FileFault) : Type 0 where
  pub later : before ≤ now
  pub failed : IsErrOf result Failed → Rose before now
  pub quiet : before < now → IsErrOf result Failed

-- what each name holds stays
abbrev pub Stays : (List ℕ → Option (List ℕ)) → (List ℕ → Option (List ℕ)) → Type 0
Stays old new = (name : List ℕ) → new name ≡ old name

-- every other file stays
abbrev pub OthersStay : List ℕ → (List ℕ → Option (List ℕ)) → (List ℕ → Option (List ℕ)) → Type 0
OthersStay name old new = (other : List ℕ) → other ≢ name → new other ≡ old other

-- what is said of bytes where they are known
abbrev pub WhereTold : Option (List ℕ) → (List ℕ → Type 0) → Type 0
WhereTold held P = (bytes : List ℕ) → held ≡ Some bytes → P bytes

-- the length of what is held
abbrev pub SizeIs : Option (List ℕ) → Result ℕ FileFault → Type 0
SizeIs held result = WhereTold held (λ bytes. IfOk result (λ n. n ≡ length bytes))

-- a buffer holds n bytes of the file from a place on, and 0 only at or past its end
pub record IsReadAt (bytes : List ℕ) (at n : ℕ) (buf : List ℕ) : Type 0 where
  pub copied : take n buf ≡ take n (drop at bytes)
  pub within : n ≤ length bytes - at
  pub ended : n ≡ 0 → 0 < length buf → length bytes ≤ at

-- the same where the file is known
abbrev pub ReadIs : Option (List ℕ) → ℕ → List ℕ → Result ℕ FileFault → Type 0
ReadIs held at buf result = WhereTold held (λ bytes. IfOk result (λ n. IsReadAt bytes at n buf))

-- a file is empty now: it is known to be so where any file was told, and never told to be anything else
pub record IsEmptied (old : List ℕ → Option (List ℕ)) (new : Option (List ℕ)) : Type 0 where
  pub told : (other : List ℕ) → IsSome (old other) → new ≡ Some []
  pub only : WhereTold new (λ bytes. bytes ≡ [])

-- the file of a name is empty; after `Failed` it is empty or as it was, and without memory as it was
abbrev pub Empties : List ℕ → (List ℕ → Option (List ℕ)) → (List ℕ → Option (List ℕ)) → Result ⊤ FileFault → Type 0
Empties name old new (Ok _) = IsEmptied old (new name)
Empties name old new (Err Failed) = (new name ≡ old name) ⊎ (new name ≡ Some [])
Empties name old new (Err NoMemory) = new name ≡ old name

-- all the bytes are at the end, or after a fault the first of them
abbrev pub Adds : List ℕ → List ℕ → List ℕ → Result ⊤ FileFault → Type 0
Adds old bytes new (Ok _) = new ≡ old ++ bytes
Adds old bytes new (Err _) = (n : ℕ) × (new ≡ old ++ take n bytes)

-- the same where it is known
abbrev pub AddsIfTold : Option (List ℕ) → List ℕ → Option (List ℕ) → Result ⊤ FileFault → Type 0
AddsIfTold old bytes new result = WhereTold old (λ before. (now : List ℕ) × (new ≡ Some now) × Adds before bytes now result)

-- a file that is known has no more bytes than a file may have
abbrev pub IsWithinLimit : Option (List ℕ) → Type 0
IsWithinLimit held = WhereTold held (λ bytes. length bytes ≤ file_limit)

-- a file that grew is within the limit
abbrev pub GrowsWithin : Option (List ℕ) → Option (List ℕ) → Type 0
GrowsWithin old new = WhereTold old (λ before. WhereTold new (λ now. length before < length now → length now ≤ file_limit))
