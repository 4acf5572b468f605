-- Heaps: the blocks that are allocated, each at its address.
use Rattle.std.specs.Prelude.{ℕ, ℤ, ◌≤◌, ◌<◌, ◌^◌, Option, IsSome, List, refl}
use Rattle.std.specs.Ordering.{nat_cmp}
use Rattle.std.specs.FinMap as map
use Rattle.std.specs.Coded.{Coded, code_by, coded×, coded_ℕ, coded_ℤ, coded_list, coded_option}

-- one allocated block: its struct, and its fields, each with a value or undefined
pub record Block : Type 0 where
  pub shape : ℕ
  pub fields : List (Option ℤ)

-- a heap has finitely many addresses, each with its block
abbrev pub Heap : Type 0
Heap = map.FinMap nat_cmp Block

-- a region is what each address holds
abbrev pub Region : Type 0
Region = ℕ → Option Block

-- the region of a heap
abbrev pub region_of : Heap → Region
region_of heap at = map.get heap at

-- null is 0, and addresses go from 1 to 2^62 - 1
abbrev pub IsAddress : ℕ → Type 0
IsAddress at = (1 ≤ at) × (at < 2 ^ 62)

-- blocks are at addresses alone
abbrev pub IsAtAddresses : Region → Type 0
IsAtAddresses region = (at : ℕ) → IsSome (region at) → IsAddress at

-- the same of a heap
abbrev pub HasAddresses : Heap → Type 0
HasAddresses heap = IsAtAddresses (region_of heap)

-- a block is stored as the pair of its struct and its fields
abbrev pub block_code : Coded Block
block_code =
    code_by (ℕ × List (Option ℤ)) (coded× coded_ℕ (coded_list (coded_option coded_ℤ))) (λ b. (b.shape, b.fields))
    (λ p. record { shape = p.0; fields = p.1 }) (λ _. refl)
