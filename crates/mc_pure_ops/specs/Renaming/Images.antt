-- Nodes with their images, ascending.
use Rattle.std.specs.Prelude.{◌≡◌, ◌≢◌, ◌==◌, ◌↔◌, ℕ, suc, ◌<◌, ◌≤◌, List, [], ◌∷◌}
use Rattle.std.specs.Prelude.{Option, Some, None, slice_get, if◌then◌else◌}
use Rattle.mc_base.specs.declared.ids.NodeId.{NodeId}

-- nodes, each with its image
abbrev pub Images : Type 0
Images = List (NodeId × NodeId)

-- the image of a node, where it has one
abbrev pub image_of : Images → NodeId → Option NodeId
image_of [] n = None
image_of (p ∷ ps) n = if p.0.0 == n.0 then Some p.1 else image_of ps n

-- the image of a node that has one; any other node stays
abbrev pub image_or : Option NodeId → NodeId → NodeId
image_or None n = n
image_or (Some to) n = to

-- the renaming of numbers: each goes to its image, and stays where it has none
abbrev pub image : Images → ℕ → ℕ
image images n = (image_or (image_of images (record { 0 = n })) (record { 0 = n })).0

-- each node's number is at least this one, and above that of the node before it
abbrev pub RiseFrom : ℕ → Images → Type 0
RiseFrom low [] = Unit {0}
RiseFrom low (p ∷ ps) = (low ≤ p.0.0) × RiseFrom (suc p.0.0) ps

-- the node has another image
abbrev pub HasOther : Images → NodeId → NodeId → Type 0
HasOther images from to = (other : NodeId) × (image_of images from ≡ Some other) × (other ≢ to)

-- the same images, and one for this node
abbrev pub IsWith : Images → NodeId → NodeId → Images → Type 0
IsWith old from to new = (n : NodeId) → image_of new n ≡ (if n.0 == from.0 then Some to else image_of old n)

-- where one renaming leads, and then another
abbrev pub image_after : Images → Option NodeId → Option NodeId
image_after after None = None
image_after after (Some n) = image_of after n

-- each node goes where one renaming and then another lead it, where both do
abbrev pub IsComposed : (first after both : Images) → Type 0
IsComposed first after both = (n : NodeId) → image_of both n ≡ image_after after (image_of first n)

-- the node is one of the list
abbrev pub IsAmong : List NodeId → NodeId → Type 0
IsAmong nodes n = (place : ℕ) × (slice_get nodes place ≡ Some n)

-- the images of these nodes alone
pub record IsRestricted (images : Images) (keep : List NodeId) (some : Images) : Type 0 where
  pub kept : (n : NodeId) → IsAmong keep n → image_of some n ≡ image_of images n
  pub others : (n : NodeId) → (IsAmong keep n → ⊥) → image_of some n ≡ None

-- no two nodes have one image
abbrev pub IsInjective : Images → Type 0
IsInjective images = (m n to : NodeId) → image_of images m ≡ Some to → image_of images n ≡ Some to → m ≡ n

-- each goes back to where it came from
abbrev pub IsInverse : (there back : Images) → Type 0
IsInverse there back = (m n : NodeId) → (image_of there m ≡ Some n) ↔ (image_of back n ≡ Some m)

-- each node comes before all that follow it
abbrev pub DoRise : Images → Type 0
DoRise images =
    (i j : ℕ) (p q : NodeId × NodeId)
    → i < j → slice_get images i ≡ Some p → slice_get images j ≡ Some q → p.0.0 < q.0.0

-- the place of a node's pair, or where it belongs
abbrev pub IsPlace : Images → NodeId → ℕ → Type 0
IsPlace images n place =
    ((i : ℕ) (p : NodeId × NodeId) → i < place → slice_get images i ≡ Some p → p.0.0 < n.0)
    × ((i : ℕ) (p : NodeId × NodeId) → place ≤ i → slice_get images i ≡ Some p → n.0 ≤ p.0.0)
