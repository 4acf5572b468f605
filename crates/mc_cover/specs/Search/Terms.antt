-- Terms with numbers within the bounds of offsets, and those outside.
use Rattle.std.specs.Prelude.{◌≡◌, ◌&&◌, ◌≤ℤ◌, ◌+ℤ◌, int_le, ℤ, pos, negsuc, List, Bool, true, false}
use Rattle.std.specs.List.{list_all}
use Rattle.mc_flow.specs.declared.defs.rules.DefAtom.{DefAtom}
use Rattle.mc_flow.specs.declared.defs.rules.DefAtom.TheVariants.{Eq, Ne, In}
use Rattle.mc_state.specs.declared.terms.Term.{Term}
use Rattle.mc_state.specs.Terms.{base_term}

-- the number lies within the bounds of offsets
abbrev pub is_near : ℤ → Bool
is_near z = int_le (negsuc 4611686022722355199) z && int_le z (pos 4611686022722355200)

-- those of all terms do
abbrev pub all_near : List Term → Bool
all_near ts = list_all (λ (t : Term). is_near t.add) ts

-- the atom introduces a name whose term's number lies outside
abbrev pub IntroducesFar : List Term → DefAtom → Type 0
IntroducesFar names (Eq left base add true) = is_near ((base_term names base).add +ℤ add) ≡ false
IntroducesFar names (Eq left base add false) = ⊥
IntroducesFar names (Ne left base add) = ⊥
IntroducesFar names (In left lo hi) = ⊥

-- a number that may be written in a definition
abbrev pub IsSmall : ℤ → Type 0
IsSmall z = (negsuc 2147483647 ≤ℤ z) × (z ≤ℤ pos 2147483647)

-- the number that an atom adds is such
abbrev pub AddsSmall : DefAtom → Type 0
AddsSmall (Eq left base add fixes) = IsSmall add
AddsSmall (Ne left base add) = IsSmall add
AddsSmall (In left lo hi) = Unit {0}
