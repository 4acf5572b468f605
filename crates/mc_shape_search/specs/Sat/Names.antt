-- Values for the names of a rule, and whether they fit, as tests.
use Rattle.std.specs.Prelude.{◌&&◌, not, ◌⊎◌, ◌<ℤ◌, ◌+ℤ◌, ◌++◌, ℤ, pos, negsuc, int_le, List, [], ◌∷◌, Bool, true, false}
use Rattle.std.specs.Ordering.{int_eq}
use Rattle.std.specs.List.{list_all}
use Rattle.mc_base.specs.declared.plain.Kind.{Kind}
use Rattle.mc_base.specs.declared.plain.Kind.TheVariants.{Int, Ptr}
use Rattle.mc_flow.specs.declared.defs.rules.DefAtom.{DefAtom}
use Rattle.mc_flow.specs.declared.defs.rules.DefAtom.TheVariants.{Eq, Ne, In}
use Rattle.mc_flow.specs.Defs.Values.{value_of, base_of}

-- the number lies in the range of the kind
abbrev pub in_kind : Kind → ℤ → Bool
in_kind Int z = int_le (negsuc 2147483647) z && int_le z (pos 2147483647)
in_kind Ptr z = int_le (pos 0) z && int_le z (pos 4611686018427387903)

-- the number lies outside the ranges of all kinds, and is no word with a sign
abbrev pub IsFar : ℤ → Type 0
IsFar z = (z <ℤ negsuc 9223372036854775807) ⊎ (pos 9223372036854775807 <ℤ z)

-- there is one number for each kind, and it lies in its range
abbrev pub all_in_kinds : List Kind → List ℤ → Bool
all_in_kinds [] [] = true
all_in_kinds [] (z ∷ zs) = false
all_in_kinds (kind ∷ kinds) [] = false
all_in_kinds (kind ∷ kinds) (z ∷ zs) = in_kind kind z && all_in_kinds kinds zs

-- the atom is true
abbrev pub is_true : List ℤ → DefAtom → Bool
is_true names (Eq left base add fixes) = int_eq (value_of names left) (base_of names base +ℤ add)
is_true names (Ne left base add) = not (int_eq (value_of names left) (base_of names base +ℤ add))
is_true names (In left lo hi) = int_le lo (value_of names left) && int_le (value_of names left) hi

-- the atoms are true
abbrev pub all_true : List ℤ → List DefAtom → Bool
all_true names atoms = list_all (is_true names) atoms

-- the values of a rule's names, from those of the first of them on: each atom that introduces a name gives it its sum
abbrev pub with_fixed : List ℤ → List DefAtom → List ℤ
with_fixed names [] = names
with_fixed names (Eq left base add true ∷ atoms) = with_fixed (names ++ (base_of names base +ℤ add) ∷ []) atoms
with_fixed names (Eq left base add false ∷ atoms) = with_fixed names atoms
with_fixed names (Ne left base add ∷ atoms) = with_fixed names atoms
with_fixed names (In left lo hi ∷ atoms) = with_fixed names atoms

-- the atom introduces a name whose value is far from the ranges of all kinds
abbrev pub IntroducesFar : List ℤ → DefAtom → Type 0
IntroducesFar names (Eq left base add true) = IsFar (base_of names base +ℤ add)
IntroducesFar names (Eq left base add false) = ⊥
IntroducesFar names (Ne left base add) = ⊥
IntroducesFar names (In left lo hi) = ⊥
