-- Values for the names of a rule, and what they make true.
use Rattle.std.specs.Prelude.{◌≡◌, ◌≢◌, ℕ, ℤ, pos, ◌+ℤ◌, ◌≤ℤ◌, Option, Some, None, List, [], ◌∷◌, get_or}
use Rattle.mc_base.specs.declared.plain.Kind.{Kind}
use Rattle.mc_base.specs.Kinds.{InKind}
use Rattle.mc_flow.specs.declared.defs.rules.DefAtom.{DefAtom}
use Rattle.mc_flow.specs.declared.defs.rules.DefAtom.TheVariants.{Eq, Ne, In}

-- the value of a name
abbrev pub value_of : List ℤ → ℕ → ℤ
value_of names name = get_or names name (pos 0)

-- the value of the base of a sum: that of a name, or zero
abbrev pub base_of : List ℤ → Option ℕ → ℤ
base_of names None = pos 0
base_of names (Some name) = value_of names name

-- the atom is true as a statement on whole numbers
abbrev pub IsTrueAtom : List ℤ → DefAtom → Type 0
IsTrueAtom names (Eq left base add fixes) = value_of names left ≡ base_of names base +ℤ add
IsTrueAtom names (Ne left base add) = value_of names left ≢ base_of names base +ℤ add
IsTrueAtom names (In left lo hi) = (lo ≤ℤ value_of names left) × (value_of names left ≤ℤ hi)

-- there is one number for each kind, and it lies in its range
abbrev pub InKinds : List Kind → List ℤ → Type 0
InKinds [] [] = Unit {0}
InKinds (kind ∷ kinds) (z ∷ zs) = InKind kind z × InKinds kinds zs
InKinds [] (z ∷ zs) = ⊥
InKinds (kind ∷ kinds) [] = ⊥
