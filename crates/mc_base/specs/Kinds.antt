-- The numbers that values of a kind are.
use Rattle.std.specs.Prelude.{ℤ, pos, negsuc, ◌≤ℤ◌}
use Rattle.mc_base.specs.declared.plain.Kind.{Kind}
use Rattle.mc_base.specs.declared.plain.Kind.TheVariants.{Int, Ptr}

-- the number lies in the range of the kind
abbrev pub InKind : Kind → ℤ → Type 0
InKind Int z = (negsuc 2147483647 ≤ℤ z) × (z ≤ℤ pos 2147483647)
InKind Ptr z = (pos 0 ≤ℤ z) × (z ≤ℤ pos 4611686018427387903)
