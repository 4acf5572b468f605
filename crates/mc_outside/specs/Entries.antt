-- Files in memory: of two entries of one name the first counts.
use Rattle.std.specs.Prelude.{◌≡◌, ◌-◌, ◌++◌, length, take, drop, min, ℕ, List, Option, Bool, String, string_bytes, Vec, find, option_map, unwrap_or, []}
use Rattle.std.specs.Str.{bytes_eq}
use Rattle.std.specs.declared.alloc.Global.{Global}

-- names, each with what its file holds
abbrev pub Entries : Type 0
Entries = List (String Global × Vec ℕ Global)

-- an entry has this name
abbrev pub is_named : List ℕ → String Global × Vec ℕ Global → Bool
is_named name entry = bytes_eq (string_bytes entry.0) name

-- what the first entry of the name holds
abbrev pub bytes_at : Entries → List ℕ → Option (List ℕ)
bytes_at entries name = option_map (λ entry. entry.1.items) (find (is_named name) entries)

-- the same where a missing file counts as an empty one
abbrev pub bytes_or_empty : Entries → List ℕ → List ℕ
bytes_or_empty entries name = unwrap_or (bytes_at entries name) []

-- how many bytes a read from a place on gives
abbrev pub read_len : List ℕ → ℕ → List ℕ → ℕ
read_len bytes at buf = min (length buf) (length bytes - at)

-- the first n bytes of a buffer are those of the file from a place on, and the others stay
abbrev pub IsFilled : List ℕ → ℕ → ℕ → List ℕ → List ℕ → Type 0
IsFilled bytes at n old new = new ≡ take n (drop at bytes) ++ drop n old
