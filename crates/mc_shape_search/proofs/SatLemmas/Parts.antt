-- Parts of regions, address by address.
use Rattle.std.proofs.Common.{◌≡◌, ◌||◌, ◌⊎◌, inl, inr, Bool, true, false, Option, Some, None, is_some, refl, sym, ◌∙◌, ap}
use Rattle.std.specs.Prelude.{if◌then◌else◌}
use Rattle.mc_flow.specs.Heap.Heap.{Block}
use Rattle.mc_flow.specs.Heap.Parts.{Joins}

pub left_some : (w l r : Option Block) (b : Block) → Joins w l r → l ≡ Some b → w ≡ Some b
left_some w None r b j e = cc
left_some w (Some x) None b j e = j ∙ e
left_some w (Some x) (Some y) b j e = absurd j

pub right_some : (w l r : Option Block) (b : Block) → Joins w l r → r ≡ Some b → w ≡ Some b
right_some w None r b j e = j ∙ e
right_some w (Some x) None b j e = cc
right_some w (Some x) (Some y) b j e = absurd j

pub left_none : (w l r : Option Block) → Joins w l r → w ≡ None → l ≡ None
left_none w None r j e = refl
left_none w (Some x) None j e = cc
left_none w (Some x) (Some y) j e = absurd j

pub right_none : (w l r : Option Block) → Joins w l r → w ≡ None → r ≡ None
right_none w None r j e = sym j ∙ e
right_none w (Some x) None j e = refl
right_none w (Some x) (Some y) j e = absurd j

pub apart : (w l r : Option Block) → Joins w l r → is_some l ≡ true → r ≡ None
apart w None r j e = cc
apart w (Some x) None j e = refl
apart w (Some x) (Some y) j e = absurd j

pub there_joins : (w l r : Option Block) → Joins w l r → is_some w ≡ (is_some l || is_some r)
there_joins w None r j = ap is_some j
there_joins w (Some x) None j = ap is_some j
there_joins w (Some x) (Some y) j = absurd j

-- what one of two tests keeps of a block, where not both keep it
pub joins_kept : (a b : Bool) (h : Option Block) → (b ≡ true → a ≡ false) → Joins (if a || b then h else None) (if a then h else None) (if b then h else None)
joins_kept true true h d = let q : true ≡ false = d refl in cc
joins_kept true false None d = refl
joins_kept true false (Some x) d = refl
joins_kept false b h d = refl

-- Booleans
pub bool_cases : (b : Bool) → (b ≡ true) ⊎ (b ≡ false)
bool_cases true = inl refl
bool_cases false = inr refl

pub or_cases : (a b : Bool) → (a || b) ≡ true → (a ≡ true) ⊎ (b ≡ true)
or_cases true b h = inl refl
or_cases false b h = inr h

pub or_left : (a b : Bool) → (a || b) ≡ false → a ≡ false
or_left true b h = h
or_left false b h = refl

pub or_right : (a b : Bool) → (a || b) ≡ false → b ≡ false
or_right true b h = cc
or_right false b h = h

pub or_more : (a b c : Bool) → ((a || b) || c) ≡ (a || (b || c))
or_more true b c = refl
or_more false b c = refl

pub or_none : (a : Bool) → a ≡ (a || false)
or_none true = refl
or_none false = refl
