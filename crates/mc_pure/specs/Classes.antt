-- Normal forms, and what they are for.
use Rattle.std.specs.Prelude.{◌≡◌, ◌↔◌, ◌⊎◌, Bool, true}
use Rattle.mc_base.specs.declared.ids.NodeId.{NodeId}
use Rattle.mc_base.specs.declared.plain.Atom.{Atom}
use Rattle.mc_pure.specs.declared.rows.Row.{Row}
use Rattle.mc_pure.specs.Pure.{Pure, IsNode}
use Rattle.mc_pure.specs.Derived.{Follows, IsFalse, Derived}
use Rattle.mc_pure.specs.Nodes.{RiseFrom}
use Rattle.mc_pure.specs.Known.{IsFit}
use Rattle.mc_pure.specs.Canonical.{IsLeast}
use Rattle.mc_pure.specs.Normal.{Holds, IsNormal}
pub use Rattle.mc_pure.specs.Rows.{IsLong}

-- what is known has a normal form, in which the least node of each class stands for the class
pub record HasNormalForm (p : Pure) : Type 0 where
  pub nf : NodeId → Row
  pub normal : IsNormal p nf
  pub least : (a : NodeId) → IsNode p.kinds a → IsLeast p (nf a).rep

-- a normal form says all that follows
abbrev pub NormalSaysAll : Type 0
NormalSaysAll = (p : Pure) (nf : NodeId → Row) → IsNormal p nf → (f : Atom) → Follows p f → Holds p nf f

-- what is known is false, or has a normal form
abbrev pub EachHasNormalForm : Type 0
EachHasNormalForm = (p : Pure) → RiseFrom 1 p.kinds → IsFit p → IsFalse p ⊎ HasNormalForm p

-- the test tells of each atom whether it is entailed
abbrev pub TellsDerived : Pure → (know : Atom → Bool) → Type 0
TellsDerived p know = (f : Atom) → (know f ≡ true) ↔ Derived p f

-- there is such a test for whatever is known
abbrev pub EachIsDecided : Type 0
EachIsDecided = (p : Pure) → RiseFrom 1 p.kinds → IsFit p → (know : Atom → Bool) × TellsDerived p know
