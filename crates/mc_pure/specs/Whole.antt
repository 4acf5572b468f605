-- Lists of atoms that say all that is entailed, also inside one class.
use Rattle.std.specs.Prelude.{◌≡◌, ◌==◌, pos, ◌<ℤ◌, List, [], ◌∷◌, ◌++◌, if◌then◌else◌}
use Rattle.mc_base.specs.declared.ids.NodeId.{NodeId}
use Rattle.mc_base.specs.declared.plain.Atom.{Atom}
use Rattle.mc_base.specs.declared.plain.Atom.TheVariants.{Eq, Ne, In}
use Rattle.mc_pure.specs.Pure.{Pure, Kinds}
use Rattle.mc_pure.specs.Derived.{Follows}
use Rattle.mc_pure.specs.Canonical.{IsLeast, IsListOf, AreListed, plainly}

-- the kinds of the other nodes
abbrev pub kinds_without : Kinds → NodeId → Kinds
kinds_without [] n = []
kinds_without (k ∷ kinds) n = if k.0.0 == n.0 then kinds_without kinds n else k ∷ kinds_without kinds n

-- a disequality inside one class, of its least node by a positive number, that does not follow from those ranges and equalities
abbrev pub IsInside : Pure → Pure → Atom → Type 0
IsInside p plain (Ne i j c) = IsLeast p i × (i ≡ j) × (pos 0 <ℤ c) × Follows p (Ne i j c) × (Follows plain (Ne i j c) → ⊥)
IsInside p plain (Eq a b c) = ⊥
IsInside p plain (In n lo hi) = ⊥

-- the canonical list, and after it the disequalities inside one class
pub record IsWholeList (p : Pure) (atoms : List Atom) : Type 0 where
  pub list : List Atom
  pub inner : List Atom
  pub together : atoms ≡ list ++ inner
  pub canonical : IsListOf p list
  pub inner_listed : AreListed (IsInside p (plainly p (canonical.ranges ++ canonical.equalities))) inner
