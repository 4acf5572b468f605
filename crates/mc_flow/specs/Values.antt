-- The values of variables and operands.
use Rattle.std.specs.Prelude.{ℕ, ℤ, pos, negsuc, List, [], ◌∷◌, map, Option, Some, None, option_map, slice_index_or, slice_set}
use Rattle.std.specs.Int.{int_wrap, w32}
use Rattle.mc_base.specs.declared.ids.VarId.{VarId}
use Rattle.mc_flow.specs.declared.instr.Operand.{Operand}
use Rattle.mc_flow.specs.declared.instr.Operand.TheVariants.{Var, Const}

-- the value of a variable, if it is defined
abbrev pub value_in : List (Option ℤ) → VarId → Option ℤ
value_in vars x = slice_index_or vars x.0 None

-- the value of an operand, if it is defined
abbrev pub value_of : List (Option ℤ) → Operand → Option ℤ
value_of vars (Var x) = value_in vars x
value_of vars (Const c) = Some c

-- the items, if each of them is there
abbrev pub all_there : List (Option ℤ) → Option (List ℤ)
all_there [] = Some []
all_there (None ∷ values) = None
all_there (Some z ∷ values) = option_map (λ zs. z ∷ zs) (all_there values)

-- the values of operands, if each of them is defined
abbrev pub values_of : List (Option ℤ) → List Operand → Option (List ℤ)
values_of vars os = all_there (map (value_of vars) os)

-- the variable has this value, or is undefined
abbrev pub with_value : List (Option ℤ) → VarId → Option ℤ → List (Option ℤ)
with_value vars x value = slice_set vars x.0 value

-- each of these variables is undefined
abbrev pub without : List (Option ℤ) → List VarId → List (Option ℤ)
without vars [] = vars
without vars (x ∷ xs) = without (with_value vars x None) xs

-- the address that a pointer's value is; no pointer is negative
abbrev pub address : ℤ → ℕ
address (pos at) = at
address (negsuc n) = 0

-- what an `int` holds of a number: its last 32 bits, in two's complement
abbrev pub wrapped : ℤ → ℤ
wrapped z = int_wrap w32 z
