-- Lists, segments and trees on small heaps.
use Rattle.std.proofs.Common.{◌≡◌, ℕ, ℤ, pos, negsuc, ◌+ℤ◌, None, List, [], ◌∷◌, refl, sym, subst, ◌∙◌, inl, inr, arith}
use Rattle.std.specs.Cmp.{nat_cmp_total}
use Rattle.std.specs.FinMap as finmap
use Rattle.std.specs.FinMap.{get-from_entries}
use Rattle.std.proofs.lemmas.Bool.{cases_eq}
use Rattle.std.proofs.lemmas.Int.{ints}
use mathlib.Core.Path.{fun_ext}
use Rattle.mc_base.specs.declared.plain.Kind.TheVariants.{Int, Ptr}
use Rattle.mc_flow.specs.Heap.Heap.{Block, Region, IsAtAddresses}
use Rattle.mc_flow.specs.Heap.Instances.{nowhere}
use Rattle.mc_flow.specs.Heap.Parts.{Split, IsEmpty, IsCell}
use Rattle.mc_flow.proofs.HeapLemmas.Splits.{split_turned, split_empty, split_whole, nothing, nothing-IsEmpty, empty_heap_is_empty, insert_changes, cell_is_added}
use Rattle.mc_flow.specs.Defs.Values.{InKinds}
use Rattle.mc_flow.specs.Defs.Meaning.{RuleValues, BodyMeets, SatAt, Sat, SegAt, Seg}
use Rattle.mc_flow.specs.Defs.Examples.{defs, list_id, lenlist_id, tree_id, null_rule, list_rule, no_length_rule, lenlist_rule, tree_rule, list_def, lenlist_def, tree_def, cell_with, fork_with, blocks, two_cells, first_cell, second_cell, two_forks}
use Rattle.mc_flow.proofs.DefsLemmas.Heights.{fold}
use Rattle.mc_flow.proofs.DefsLemmas.Segments.{seg_of_body}

-- ---- heaps of blocks
pub no_blocks : IsEmpty (blocks [])
no_blocks = empty_heap_is_empty

cell_unique : (p q : Region) (at : ℕ) (b : Block) → IsCell p at b → IsCell q at b → p ≡ q
cell_unique p q at b c d =
    fun_ext (λ x. elim (cases_eq x at) [
      | inl e ↦ rw e (c.here ∙ sym d.here)
      | inr ne ↦ c.only x ne ∙ sym (d.only x ne)
    ])

-- a block at a free address is a part before the others
pub added : (at : ℕ) (b : Block) (es : List (ℕ × Block)) → blocks es at ≡ None → (part : Region) × Split (blocks ((at, b) ∷ es)) part (blocks es) × IsCell part at b
added at b es none = cell_is_added (blocks es) (blocks ((at, b) ∷ es)) at b none (insert_changes (finmap.from_entries es) at b)

pub one_block : (at : ℕ) (b : Block) → IsCell (blocks ((at, b) ∷ [])) at b
one_block at b =
    let w = added at b [] (no_blocks.none at) in
    subst (λ r. IsCell r at b) (sym (split_empty no_blocks (split_turned w.1))) w.2

pub one_more : (at : ℕ) (b : Block) (es : List (ℕ × Block)) → blocks es at ≡ None → Split (blocks ((at, b) ∷ es)) (blocks ((at, b) ∷ [])) (blocks es)
one_more at b es none =
    let w = added at b es none in
    subst (λ r. Split (blocks ((at, b) ∷ es)) r (blocks es)) (cell_unique w.0 (blocks ((at, b) ∷ [])) at b w.2 (one_block at b)) w.1

none_at_seven : (b : Block) → blocks ((9, b) ∷ []) 7 ≡ None
none_at_seven b = get-from_entries nat_cmp_total ((9, b) ∷ []) 7

pub two_split : Split (blocks two_cells) (blocks first_cell) (blocks second_cell)
two_split = one_more 7 (cell_with (pos 5) (pos 9)) second_cell (none_at_seven (cell_with (pos 6) (pos 0)))

pub second_split : Split (blocks second_cell) (blocks second_cell) (blocks [])
second_split = split_turned (split_whole (blocks second_cell) no_blocks)

pub first_split : Split (blocks first_cell) (blocks first_cell) (blocks [])
first_split = split_turned (split_whole (blocks first_cell) no_blocks)

pub at_addresses : IsAtAddresses (blocks [])
at_addresses at s = let e = no_blocks.none at in absurd (cc (s, e))

-- ---- lists
abbrev list_by : (at : ℕ) (item next : ℤ) → InKinds (Ptr ∷ Int ∷ Ptr ∷ []) (pos at ∷ item ∷ next ∷ []) → RuleValues defs list_id (pos at) []
list_by at item next kinds =
    record {
      def = list_def;
      defined = refl;
      rule = list_rule;
      place = 1;
      listed = refl;
      names = pos at ∷ item ∷ next ∷ [];
      kinds = kinds;
      count = refl;
      others = item ∷ next ∷ [];
      front = refl;
      atoms = tt;
    }

one_call : (M : Region → Type 0) (h : Region) → M h → (part : Region) × (rest : Region) × Split h part rest × M part × IsEmpty rest
one_call M h m = (h, nothing, split_turned (split_whole h nothing-IsEmpty), m, nothing-IsEmpty)

list_body : (at : ℕ) (item next : ℤ) → InKinds (Ptr ∷ Int ∷ Ptr ∷ []) (pos at ∷ item ∷ next ∷ []) → (h rest : Region) → Split h (blocks ((at, cell_with item next) ∷ [])) rest → Sat defs list_id next [] rest → BodyMeets (Sat defs) defs list_id (pos at) [] h
list_body at item next kinds h rest q s =
    (list_by at item next kinds, blocks ((at, cell_with item next) ∷ []), rest, q, (at, refl, one_block at (cell_with item next)), one_call (λ r. Sat defs list_id next [] r) rest s)

abbrev null_by : RuleValues defs list_id (pos 0) []
null_by =
    record {
      def = list_def;
      defined = refl;
      rule = null_rule;
      place = 0;
      listed = refl;
      names = pos 0 ∷ [];
      kinds = ((omega (arith, ints), omega (arith, ints)), tt);
      count = refl;
      others = [];
      front = refl;
      atoms = (refl, tt);
    }

pub null_height : SatAt defs 1 list_id (pos 0) [] (blocks [])
null_height = (null_by, blocks [], blocks [], split_whole (blocks []) no_blocks, no_blocks, no_blocks)

pub null_list : Sat defs list_id (pos 0) [] (blocks [])
null_list = record { height = 1; holds = null_height }

-- the same of the region without blocks
pub nowhere_list : Sat defs list_id (pos 0) [] nowhere
nowhere_list =
    let same : blocks [] ≡ nowhere = split_empty no_blocks (split_turned (split_whole (blocks []) (record { none = λ at. refl }))) in
    subst (λ r. Sat defs list_id (pos 0) [] r) same null_list

nine_kinds : InKinds (Ptr ∷ Int ∷ Ptr ∷ []) (pos 9 ∷ pos 6 ∷ pos 0 ∷ [])
nine_kinds = ((omega (arith, ints), omega (arith, ints)), ((omega (arith, ints), omega (arith, ints)), ((omega (arith, ints), omega (arith, ints)), tt)))

seven_kinds : InKinds (Ptr ∷ Int ∷ Ptr ∷ []) (pos 7 ∷ pos 5 ∷ pos 9 ∷ [])
seven_kinds = ((omega (arith, ints), omega (arith, ints)), ((omega (arith, ints), omega (arith, ints)), ((omega (arith, ints), omega (arith, ints)), tt)))

pub second_list : Sat defs list_id (pos 9) [] (blocks second_cell)
second_list = fold defs list_id (pos 9) [] (blocks second_cell) (list_body 9 (pos 6) (pos 0) nine_kinds (blocks second_cell) (blocks []) second_split null_list)

pub two_body : BodyMeets (Sat defs) defs list_id (pos 7) [] (blocks two_cells)
two_body = list_body 7 (pos 5) (pos 9) seven_kinds (blocks two_cells) (blocks second_cell) two_split second_list

pub two_list : Sat defs list_id (pos 7) [] (blocks two_cells)
two_list = fold defs list_id (pos 7) [] (blocks two_cells) two_body

-- ---- lists of a length
abbrev len_by : (at : ℕ) (item next n m : ℤ) → InKinds lenlist_rule.names (pos at ∷ n ∷ item ∷ next ∷ m ∷ []) → m ≡ n +ℤ negsuc 0 → RuleValues defs lenlist_id (pos at) (n ∷ [])
len_by at item next n m kinds less =
    record {
      def = lenlist_def;
      defined = refl;
      rule = lenlist_rule;
      place = 1;
      listed = refl;
      names = pos at ∷ n ∷ item ∷ next ∷ m ∷ [];
      kinds = kinds;
      count = refl;
      others = item ∷ next ∷ m ∷ [];
      front = refl;
      atoms = (less, tt);
    }

len_cell : (at : ℕ) (item next n m : ℤ) → InKinds lenlist_rule.names (pos at ∷ n ∷ item ∷ next ∷ m ∷ []) → m ≡ n +ℤ negsuc 0 → (h rest : Region) → Split h (blocks ((at, cell_with item next) ∷ [])) rest → Sat defs lenlist_id next (m ∷ []) rest → Sat defs lenlist_id (pos at) (n ∷ []) h
len_cell at item next n m kinds less h rest q s =
    fold defs lenlist_id (pos at) (n ∷ []) h
    (len_by at item next n m kinds less, blocks ((at, cell_with item next) ∷ []), rest, q, (at, refl, one_block at (cell_with item next)), one_call (λ r. Sat defs lenlist_id next (m ∷ []) r) rest s)

abbrev no_len_by : RuleValues defs lenlist_id (pos 0) (pos 0 ∷ [])
no_len_by =
    record {
      def = lenlist_def;
      defined = refl;
      rule = no_length_rule;
      place = 0;
      listed = refl;
      names = pos 0 ∷ pos 0 ∷ [];
      kinds = ((omega (arith, ints), omega (arith, ints)), ((omega (arith, ints), omega (arith, ints)), tt));
      count = refl;
      others = [];
      front = refl;
      atoms = (refl, (refl, tt));
    }

pub no_len : Sat defs lenlist_id (pos 0) (pos 0 ∷ []) (blocks [])
no_len = fold defs lenlist_id (pos 0) (pos 0 ∷ []) (blocks []) (no_len_by, blocks [], blocks [], split_whole (blocks []) no_blocks, no_blocks, no_blocks)

seven_names : InKinds lenlist_rule.names (pos 7 ∷ pos 2 ∷ pos 5 ∷ pos 9 ∷ pos 1 ∷ [])
seven_names = ((omega (arith, ints), omega (arith, ints)), ((omega (arith, ints), omega (arith, ints)), ((omega (arith, ints), omega (arith, ints)), ((omega (arith, ints), omega (arith, ints)), ((omega (arith, ints), omega (arith, ints)), tt)))))

nine_names : InKinds lenlist_rule.names (pos 9 ∷ pos 1 ∷ pos 6 ∷ pos 0 ∷ pos 0 ∷ [])
nine_names = ((omega (arith, ints), omega (arith, ints)), ((omega (arith, ints), omega (arith, ints)), ((omega (arith, ints), omega (arith, ints)), ((omega (arith, ints), omega (arith, ints)), ((omega (arith, ints), omega (arith, ints)), tt)))))

pub second_long : Sat defs lenlist_id (pos 9) (pos 1 ∷ []) (blocks second_cell)
second_long = len_cell 9 (pos 6) (pos 0) (pos 1) (pos 0) nine_names refl (blocks second_cell) (blocks []) second_split no_len

pub two_long : Sat defs lenlist_id (pos 7) (pos 2 ∷ []) (blocks two_cells)
two_long = len_cell 7 (pos 5) (pos 9) (pos 2) (pos 1) seven_names refl (blocks two_cells) (blocks second_cell) two_split second_long

-- ---- trees
abbrev pub leaf_by : RuleValues defs tree_id (pos 0) []
leaf_by =
    record {
      def = tree_def;
      defined = refl;
      rule = null_rule;
      place = 0;
      listed = refl;
      names = pos 0 ∷ [];
      kinds = ((omega (arith, ints), omega (arith, ints)), tt);
      count = refl;
      others = [];
      front = refl;
      atoms = (refl, tt);
    }

leaf : Sat defs tree_id (pos 0) [] (blocks [])
leaf = fold defs tree_id (pos 0) [] (blocks []) (leaf_by, blocks [], blocks [], split_whole (blocks []) no_blocks, no_blocks, no_blocks)

abbrev tree_by : (at : ℕ) (left right : ℤ) → InKinds tree_rule.names (pos at ∷ left ∷ right ∷ []) → RuleValues defs tree_id (pos at) []
tree_by at left right kinds =
    record {
      def = tree_def;
      defined = refl;
      rule = tree_rule;
      place = 1;
      listed = refl;
      names = pos at ∷ left ∷ right ∷ [];
      kinds = kinds;
      count = refl;
      others = left ∷ right ∷ [];
      front = refl;
      atoms = tt;
    }

-- a fork with a tree to its left, and null to its right
left_tree : (at : ℕ) (left : ℤ) → InKinds tree_rule.names (pos at ∷ left ∷ pos 0 ∷ []) → (h rest : Region) → Split h (blocks ((at, fork_with left (pos 0)) ∷ [])) rest → Sat defs tree_id left [] rest → Sat defs tree_id (pos at) [] h
left_tree at left kinds h rest q s =
    fold defs tree_id (pos at) [] h (
      tree_by at left (pos 0) kinds,
      blocks ((at, fork_with left (pos 0)) ∷ []),
      rest,
      q,
      (at, refl, one_block at (fork_with left (pos 0))),
      (rest, blocks [], split_turned (split_whole rest no_blocks), s, one_call (λ r. Sat defs tree_id (pos 0) [] r) (blocks []) leaf),
    )

seven_fork : InKinds tree_rule.names (pos 7 ∷ pos 9 ∷ pos 0 ∷ [])
seven_fork = ((omega (arith, ints), omega (arith, ints)), ((omega (arith, ints), omega (arith, ints)), ((omega (arith, ints), omega (arith, ints)), tt)))

nine_fork : InKinds tree_rule.names (pos 9 ∷ pos 0 ∷ pos 0 ∷ [])
nine_fork = ((omega (arith, ints), omega (arith, ints)), ((omega (arith, ints), omega (arith, ints)), ((omega (arith, ints), omega (arith, ints)), tt)))

-- a fork without trees
abbrev lone_fork : List (ℕ × Block)
lone_fork = (9, fork_with (pos 0) (pos 0)) ∷ []

pub second_tree : Sat defs tree_id (pos 9) [] (blocks lone_fork)
second_tree = left_tree 9 (pos 0) nine_fork (blocks lone_fork) (blocks []) (split_turned (split_whole (blocks lone_fork) no_blocks)) leaf

pub two_tree : Sat defs tree_id (pos 7) [] (blocks two_forks)
two_tree =
    left_tree 7 (pos 9) seven_fork (blocks two_forks) (blocks lone_fork) (one_more 7 (fork_with (pos 9) (pos 0)) lone_fork (none_at_seven (fork_with (pos 0) (pos 0)))) second_tree

-- ---- segments
to_itself : (S : Region → Type 0) → S (blocks []) → (part : Region) × (rest : Region) × Split (blocks []) part rest × S part × IsEmpty rest
to_itself S s = (blocks [], nothing, split_turned (split_whole (blocks []) nothing-IsEmpty), s, nothing-IsEmpty)

cell_height : (at : ℕ) (item next : ℤ) → InKinds list_rule.names (pos at ∷ item ∷ next ∷ []) → SegAt defs list_id next [] 1 (pos at) [] (blocks ((at, cell_with item next) ∷ []))
cell_height at item next kinds =
    inr (
      list_by at item next kinds,
      blocks ((at, cell_with item next) ∷ []),
      blocks [],
      split_turned (split_whole (blocks ((at, cell_with item next) ∷ [])) no_blocks),
      (at, refl, one_block at (cell_with item next)),
      0,
      to_itself (λ r. (list_id ≡ list_id) × SegAt defs list_id next [] 0 next [] r) (refl, (refl, refl, no_blocks)),
    )

pub first_height : SegAt defs list_id (pos 9) [] 1 (pos 7) [] (blocks first_cell)
first_height = cell_height 7 (pos 5) (pos 9) seven_kinds

pub first_segment : Seg defs list_id (pos 7) [] (pos 9) [] (blocks first_cell)
first_segment = record { height = 1; holds = first_height }

pub second_segment : Seg defs list_id (pos 9) [] (pos 0) [] (blocks second_cell)
second_segment = record { height = 1; holds = cell_height 9 (pos 6) (pos 0) nine_kinds }

pub first_length : Seg defs lenlist_id (pos 7) (pos 2 ∷ []) (pos 9) (pos 1 ∷ []) (blocks first_cell)
first_length =
    seg_of_body defs lenlist_id (pos 7) (pos 2 ∷ []) (blocks first_cell) (blocks first_cell) (blocks [])
    (len_by 7 (pos 5) (pos 9) (pos 2) (pos 1) seven_names refl) 0 (record { pred = lenlist_id; at = 3; args = 4 ∷ [] }) refl refl
    first_split (7, refl, one_block 7 (cell_with (pos 5) (pos 9))) no_blocks

pub itself : (value : ℤ) → Seg defs list_id value [] value [] (blocks [])
itself value = record { height = 0; holds = (refl, refl, no_blocks) }
