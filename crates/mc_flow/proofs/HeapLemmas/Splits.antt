-- Regions in parts: the four laws of splits, and what changes do to parts.
use Rattle.std.proofs.Common.{◌≡◌, ◌≢◌, ℕ, Option, Some, None, refl, sym, ap, subst, ◌∙◌, arith, inl, inr}
use Rattle.std.specs.Prelude.{IsSome, is_some, nat_eq, if◌then◌else◌}
use Rattle.std.specs.FinMap as map
use Rattle.std.specs.FinMap.{gets, get-empty, same_map, nat_cmp-IsAntisymmetric}
use Rattle.std.specs.Ordering.{nat_cmp}
use Rattle.std.specs.Cmp.{nat_cmp_total}
use Rattle.std.proofs.lemmas.Bool.{cases_eq}
use Rattle.std.proofs.lemmas.Bool.Decides.{nat_tests}
use mathlib.Core.Path.{fun_ext}
use Rattle.mc_flow.specs.Heap.Heap.{Block, Heap, Region, region_of, IsAddress, HasAddresses}
use Rattle.mc_flow.specs.Heap.Parts.{Joins, Split, IsEmpty, IsCell, Changes}
use Rattle.mc_flow.specs.Heap.PartLaws.{SplitCommutes, SplitRegroupsLeft, SplitRegroupsRight, SplitDropsEmpty, SplitAddsEmpty, SplitKeepsAddresses, EmptyHeapIsEmpty, RegionTellsHeap, InsertChanges, RemoveChanges, InsertKeepsAddresses, RemoveKeepsAddresses, CellIsRead, CellIsAdded, CellIsReplaced, CellIsRemoved}

either : Option Block → Option Block → Option Block
either None right = right
either (Some block) right = Some block

joins_turned : (x l r : Option Block) → Joins x l r → Joins x r l
joins_turned x None None e = e
joins_turned x None (Some c) e = e
joins_turned x (Some b) None e = e
joins_turned x (Some b) (Some c) e = e

joins_inner : (h l m r t : Option Block) → Joins h l m → Joins m r t → Joins (either l r) l r
unfolding either
joins_inner h None m None t e f = refl
joins_inner h None m (Some c) t e f = refl
joins_inner h (Some b) m None t e f = refl
joins_inner h (Some b) None (Some c) None e f = cc
joins_inner h (Some b) None (Some c) (Some d) e f = f
joins_inner h (Some b) (Some d) (Some c) t e f = absurd e

joins_outer : (h l m r t : Option Block) → Joins h l m → Joins m r t → Joins h (either l r) t
unfolding either
joins_outer h None m None t e f = e ∙ f
joins_outer h None m (Some c) None e f = e ∙ f
joins_outer h None m (Some c) (Some d) e f = f
joins_outer h (Some b) None None None e f = e
joins_outer h (Some b) None None (Some d) e f = cc
joins_outer h (Some b) None (Some c) None e f = e
joins_outer h (Some b) None (Some c) (Some d) e f = f
joins_outer h (Some b) (Some d) r t e f = absurd e

joins_empty : (h l r : Option Block) → l ≡ None → Joins h l r → h ≡ r
joins_empty h None r e j = j
joins_empty h (Some b) r e j = cc

joins_whole : (h n : Option Block) → n ≡ None → Joins h n h
joins_whole h None e = refl
joins_whole h (Some b) e = cc

pub split_turned : {h l r : Region} → Split h l r → Split h r l
split_turned s = record { joins = λ a. joins_turned _ _ _ (s.joins a) }

pub split_left : {h l m r t : Region} → Split h l m → Split m r t → (u : Region) × Split u l r × Split h u t
split_left {h} {l} {m} {r} {t} s q = (
  λ a. either (l a) (r a),
  record { joins = λ a. joins_inner (h a) (l a) (m a) (r a) (t a) (s.joins a) (q.joins a) },
  record { joins = λ a. joins_outer (h a) (l a) (m a) (r a) (t a) (s.joins a) (q.joins a) },
)

pub split_right : {h u t l r : Region} → Split h u t → Split u l r → (m : Region) × Split m r t × Split h l m
split_right s q =
    let w = split_left (split_turned s) (split_turned q) in
    (w.0, split_turned w.1, split_turned w.2)

pub split_empty : {h l r : Region} → IsEmpty l → Split h l r → h ≡ r
split_empty {h} {l} {r} e s = fun_ext (λ a. joins_empty (h a) (l a) (r a) (e.none a) (s.joins a))

pub split_whole : {n : Region} (h : Region) → IsEmpty n → Split h n h
split_whole {n} h e = record { joins = λ a. joins_whole (h a) (n a) (e.none a) }

-- a region where nothing is allocated
pub nothing : Region
nothing at = None

pub nothing-IsEmpty : IsEmpty nothing
unfolding nothing
nothing-IsEmpty = record { none = λ a. refl }

-- the laws, as the functions in src/laws.rt state them
pub split_commutes : SplitCommutes
split_commutes h l r s = split_turned s

pub split_regroups_left : SplitRegroupsLeft
split_regroups_left h l m r t s q = split_left s q

pub split_regroups_right : SplitRegroupsRight
split_regroups_right h u t l r s q = split_right s q

pub split_drops_empty : SplitDropsEmpty
split_drops_empty h l r e s = split_empty e s

pub split_adds_empty : SplitAddsEmpty
split_adds_empty h n e = split_whole h e

joins_there : (x l r : Option Block) → Joins x l r → IsSome l → IsSome x
joins_there x None r j s = absurd (cc s)
joins_there x (Some b) None j s = ap is_some j
joins_there x (Some b) (Some c) j s = absurd j

pub split_keeps_addresses : SplitKeepsAddresses
split_keeps_addresses h l r s all at there = all at (joins_there (h at) (l at) (r at) (s.joins at) there)

-- ---- finite maps
pub empty_heap_is_empty : EmptyHeapIsEmpty
empty_heap_is_empty = record { none = λ a. get-empty nat_cmp a }

pub region_tells_heap : RegionTellsHeap
region_tells_heap m n e = same_map nat_cmp_total nat_cmp-IsAntisymmetric m n (λ q. ap (λ (r : Region). r q) e)

pub insert_changes : InsertChanges
insert_changes m at b = record { here = grind (arith, gets, nat_tests); others = λ a ne. grind (arith, gets, nat_tests) }

pub remove_changes : RemoveChanges
remove_changes m at = record { here = grind (arith, gets, nat_tests); others = λ a ne. grind (arith, gets, nat_tests) }

kept_elsewhere : (m n : Heap) (at : ℕ) (w : Option Block) → Changes (region_of m) (region_of n) at w → (IsSome w → IsAddress at) → HasAddresses m → HasAddresses n
kept_elsewhere m n at w c ok old x s =
    elim (cases_eq x at) [
      | inl e ↦ subst IsAddress (sym e) (ok (subst IsSome (ap (region_of n) e ∙ c.here) s))
      | inr ne ↦ old x (subst IsSome (c.others x ne) s)
    ]

pub insert_keeps_addresses : InsertKeepsAddresses
insert_keeps_addresses m at b ok old = kept_elsewhere m (map.insert m at b) at (Some b) (insert_changes m at b) (λ _. ok) old

pub remove_keeps_addresses : RemoveKeepsAddresses
remove_keeps_addresses m at old = kept_elsewhere m (map.remove m at) at None (remove_changes m at) (λ s. absurd (cc s)) old

-- ---- cells
joins_some : (x l r : Option Block) (b : Block) → Joins x l r → l ≡ Some b → x ≡ Some b
joins_some x None r b j e = cc
joins_some x (Some c) None b j e = j ∙ e
joins_some x (Some c) (Some d) b j e = absurd j

joins_none : (x l r : Option Block) (b : Block) → Joins x l r → l ≡ Some b → r ≡ None
joins_none x None r b j e = cc
joins_none x (Some c) None b j e = refl
joins_none x (Some c) (Some d) b j e = absurd j

joins_added : (g h : Option Block) (b : Block) → h ≡ None → g ≡ Some b → Joins g (Some b) h
joins_added g None b e f = f
joins_added g (Some c) b e f = cc

joins_kept : (g h c : Option Block) → c ≡ None → g ≡ h → Joins g c h
joins_kept g h None e f = f
joins_kept g h (Some b) e f = cc

one : ℕ → Block → Region
one at b x = if nat_eq x at then Some b else None

one_cell : (at : ℕ) (b : Block) → IsCell (one at b) at b
unfolding one
one_cell at b = record { here = grind (arith, nat_tests); only = λ x ne. grind (arith, nat_tests) }

pub cell_is_read : CellIsRead
cell_is_read h l r at b s cell = joins_some (h at) (l at) (r at) b (s.joins at) cell.here

-- a block where the rest has none
split_one : (g r : Region) (at : ℕ) (b : Block) → r at ≡ None → g at ≡ Some b → ((x : ℕ) → x ≢ at → g x ≡ r x) → Split g (one at b) r
split_one g r at b none here others =
    let cell = one_cell at b in
    record {
      joins = λ x. elim (cases_eq x at) [
        | inl e ↦ rw (e, cell.here) (joins_added (g at) (r at) b none here)
        | inr ne ↦ joins_kept (g x) (r x) (one at b x) (cell.only x ne) (others x ne)
      ];
    }

pub cell_is_added : CellIsAdded
cell_is_added h g at b none c = (one at b, split_one g h at b none c.here c.others, one_cell at b)

pub cell_is_replaced : CellIsReplaced
cell_is_replaced h g l r at b d s cell c = (
  one at d,
  split_one g r at d (joins_none (h at) (l at) (r at) b (s.joins at) cell.here) c.here
      (λ x ne. c.others x ne ∙ joins_empty (h x) (l x) (r x) (cell.only x ne) (s.joins x)),
  one_cell at d,
)

pub cell_is_removed : CellIsRemoved
cell_is_removed h g l r at b s cell c =
    fun_ext (λ x. elim (cases_eq x at) [
      | inl e ↦ rw e (c.here ∙ sym (joins_none (h at) (l at) (r at) b (s.joins at) cell.here))
      | inr ne ↦ c.others x ne ∙ joins_empty (h x) (l x) (r x) (cell.only x ne) (s.joins x)
    ])
