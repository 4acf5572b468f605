-- What is known of a state, as tests. Each takes `know`, the one test that depends on what is entailed.
use Rattle.std.specs.Prelude.{◌≡◌, ◌↔◌, ◌==◌, ◌&&◌, Bool, true, false, List, pos, Option, Some, None, if◌then◌else◌}
use Rattle.std.specs.List.{list_all}
use Rattle.mc_base.specs.declared.ids.NodeId.{NodeId}
use Rattle.mc_base.specs.declared.plain.Kind.{Kind}
use Rattle.mc_base.specs.declared.plain.Kind.TheVariants.{Int, Ptr}
use Rattle.mc_base.specs.declared.plain.Atom.{Atom}
use Rattle.mc_base.specs.declared.plain.Atom.TheVariants.{Eq, Ne}
use Rattle.mc_base.specs.Nodes.{null}
use Rattle.mc_pure.specs.Pure.{Kinds, kind_of}
use Rattle.mc_state.specs.State.{State}
use Rattle.mc_state.specs.Facts.{Derives}
use Rattle.mc_state.specs.Lists.{all_both}

-- a test of atoms
abbrev pub Test : Type 0
Test = Atom → Bool

-- the test is true of what is entailed in the state, and of nothing else
abbrev pub Tells : Test → State → Type 0
Tells know s = (f : Atom) → (know f ≡ true) ↔ Derives s f

-- the state is false: it entails that null is not itself
abbrev pub is_false : Test → Bool
is_false know = know (Ne null null (pos 0))

-- the nodes are known to be equal
abbrev pub equal : Test → NodeId → NodeId → Bool
equal know a b = know (Eq a b (pos 0))

-- the nodes of two lists are, one by one
abbrev pub all_equal : Test → List NodeId → List NodeId → Bool
all_equal know = all_both (equal know)

-- the atoms are known
abbrev pub all_known : Test → List Atom → Bool
all_known know = list_all know

-- two kinds are one
abbrev pub same_kind : Kind → Kind → Bool
same_kind Int Int = true
same_kind Int Ptr = false
same_kind Ptr Int = false
same_kind Ptr Ptr = true

-- the kind, if there is one, is this one
abbrev pub is_kind : Kind → Option Kind → Bool
is_kind kind None = false
is_kind kind (Some own) = same_kind own kind

-- the node is of the kind; node 0 is of every kind
unfoldable pub has_kind : Kinds → Kind → NodeId → Bool
has_kind kinds kind n = if n.0 == 0 then true else is_kind kind (kind_of kinds n)
