-- Heaps on which a predicate does not hold.
use Rattle.std.proofs.Common.{◌≡◌, ◌≢◌, ℕ, zero, suc, ◌⊎◌, ℤ, pos, negsuc, ◌+ℤ◌, Option, Some, None, List, [], ◌∷◌, slice_get, refl, sym, ap, subst, ◌∙◌, inl, inr}
use Rattle.std.specs.List.{AllByRecursion}
use Rattle.std.specs.Cmp.{nat_cmp_total}
use Rattle.std.specs.FinMap.{get-from_entries}
use Rattle.mc_flow.specs.Heap.Heap.{Block, Region}
use Rattle.mc_flow.specs.Heap.Parts.{Joins, Split, IsCell, Star}
use Rattle.mc_flow.proofs.HeapLemmas.Splits.{split_turned}
use Rattle.mc_flow.specs.declared.defs.rules.Def.{Def}
use Rattle.mc_flow.specs.declared.defs.rules.Rule.{Rule}
use Rattle.mc_flow.specs.Defs.Values.{value_of, IsTrueAtom}
use Rattle.mc_flow.specs.Defs.Meaning.{BlockMeets, CallMeets, Sat}
use Rattle.mc_flow.specs.Defs.Examples.{defs, lenlist_id, tree_id, null_rule, no_length_rule, lenlist_rule, tree_rule, lenlist_def, tree_def, cell_with, fork_with, blocks, two_cells, shared_fork}
use Rattle.mc_flow.proofs.DefsLemmas.Heights.{body_of}

-- what the one region holds, the other holds
abbrev Within : Region → Region → Type 0
Within small big = (x : ℕ) (b : Block) → small x ≡ Some b → big x ≡ Some b

joins_some : (x l r : Option Block) (b : Block) → Joins x l r → l ≡ Some b → x ≡ Some b
joins_some x None r b j e = cc
joins_some x (Some c) None b j e = j ∙ e
joins_some x (Some c) (Some d) b j e = absurd j

joins_apart : (x l r : Option Block) (b c : Block) → Joins x l r → l ≡ Some b → r ≡ Some c → ⊥
joins_apart x None r b c j e f = cc
joins_apart x (Some d) None b c j e f = cc
joins_apart x (Some d) (Some g) b c j e f = j

split_within : (h l r : Region) → Split h l r → Within l h
split_within h l r s x b e = joins_some (h x) (l x) (r x) b (s.joins x) e

within_trans : (f g h : Region) → Within f g → Within g h → Within f h
within_trans f g h v w x b e = w x b (v x b e)

one_of_two : (r0 r1 rule : Rule) (place : ℕ) → slice_get (r0 ∷ r1 ∷ []) place ≡ Some rule → (r0 ≡ rule) ⊎ (r1 ≡ rule)
one_of_two r0 r1 rule zero e = let same : r0 ≡ rule = cc in inl same
one_of_two r0 r1 rule (suc zero) e = let same : r1 ≡ rule = cc in inr same
one_of_two r0 r1 rule (suc (suc n)) e = cc

-- ---- lists of a length
abbrev LenCase : ℤ → ℤ → Region → Type 0
LenCase v n h =
    ((v ≡ pos 0) × (n ≡ pos 0))
    ⊎ ((at : ℕ) × (item : ℤ) × (next : ℤ) × (cell : Region) × (rest : Region) × (v ≡ pos at) × IsCell cell at (cell_with item next) × Within cell h × Within rest h
    × Sat defs lenlist_id next ((n +ℤ negsuc 0) ∷ []) rest)

len_null : (names others : List ℤ) (v n : ℤ) (h : Region) → names ≡ v ∷ (n ∷ others) → AllByRecursion (IsTrueAtom names) no_length_rule.atoms → LenCase v n h
len_null names others v n h is atoms =
    let first : value_of names 0 ≡ v = rw is refl in
    let second : value_of names 1 ≡ n = rw is refl in
    inl (sym first ∙ atoms.0, sym second ∙ atoms.1.0)

len_cons : (names others : List ℤ) (v n : ℤ) (h b c : Region) → names ≡ v ∷ (n ∷ others) → AllByRecursion (IsTrueAtom names) lenlist_rule.atoms → Split h b c
    → BlockMeets lenlist_rule.block lenlist_rule.contents names b → Star (CallMeets (Sat defs) names) lenlist_rule.calls c → LenCase v n h
len_cons names others v n h b c is atoms q block calls =
    let first : value_of names 0 ≡ v = rw is refl in
    let second : value_of names 1 ≡ n = rw is refl in
    let less : value_of names 4 ≡ n +ℤ negsuc 0 = atoms.0 ∙ ap (λ z. z +ℤ negsuc 0) second in
    inr (
      block.0,
      value_of names 2,
      value_of names 3,
      b,
      calls.0,
      sym first ∙ block.1,
      block.2,
      split_within h b c q,
      within_trans calls.0 c h (split_within c calls.0 calls.1 calls.2) (split_within h c b (split_turned q)),
      subst (λ m. Sat defs lenlist_id (value_of names 3) (m ∷ []) calls.0) less calls.3,
    )

len_cases : (v n : ℤ) (h : Region) → Sat defs lenlist_id v (n ∷ []) h → LenCase v n h
len_cases v n h s =
    let b = body_of defs lenlist_id v (n ∷ []) h s in
    let by = b.0 in
    let d : lenlist_def ≡ by.def = cc (by.defined) in
    let listed : slice_get lenlist_def.rules by.place ≡ Some by.rule = subst (λ (x : Def). slice_get x.rules by.place ≡ Some by.rule) (sym d) by.listed in
    elim (one_of_two no_length_rule lenlist_rule by.rule by.place listed) [
      | inl e ↦ len_null by.names by.others v n h by.front (subst (λ r. AllByRecursion (IsTrueAtom by.names) r.atoms) (sym e) by.atoms)
      | inr e ↦ len_cons by.names by.others v n h b.1 b.2 by.front (subst (λ r. AllByRecursion (IsTrueAtom by.names) r.atoms) (sym e) by.atoms) b.3
          (subst (λ (r : Rule). BlockMeets r.block r.contents by.names b.1) (sym e) b.4)
          (subst (λ (r : Rule). Star (CallMeets (Sat defs) by.names) r.calls b.2) (sym e) b.5)
    ]

-- what a cell of a part holds is what the heap holds there
same_next : (h cell : Region) (at other : ℕ) (item next item' next' : ℤ) → pos other ≡ pos at → IsCell cell at (cell_with item next) → Within cell h → h other ≡ Some (cell_with item' next') → next' ≡ next
same_next h cell at other item next item' next' e c w there =
    let place : other ≡ at = cc in
    let one : h at ≡ Some (cell_with item' next') = ap h (sym place) ∙ there in
    let two : h at ≡ Some (cell_with item next) = w at (cell_with item next) c.here in
    let same : ◌≡◌ {A = Block} (cell_with item' next') (cell_with item next) = cc in
    let fields : Some item' ∷ Some next' ∷ [] ≡ Some item ∷ Some next ∷ [] = ap (λ (b : Block). b.fields) same in
    cc

-- one cell on, the length is one less
len_step : (big h : Region) (at : ℕ) (item next n : ℤ) → Within h big → big at ≡ Some (cell_with item next) → pos at ≢ pos 0 → Sat defs lenlist_id (pos at) (n ∷ []) h
    → (rest : Region) × Within rest big × Sat defs lenlist_id next ((n +ℤ negsuc 0) ∷ []) rest
len_step big h at item next n in_big there some s =
    elim (len_cases (pos at) n h s) [
      | inl e ↦ absurd (some e.0)
      | inr w ↦
          let same : next ≡ w.2 = same_next big w.3 w.0 at w.1 w.2 item next w.5 w.6 (within_trans w.3 h big w.7 in_big) there in
          (w.4, within_trans w.4 h big w.8 in_big, subst (λ z. Sat defs lenlist_id z ((n +ℤ negsuc 0) ∷ []) w.4) (sym same) w.9)
    ]

at_seven : blocks two_cells 7 ≡ Some (cell_with (pos 5) (pos 9))
at_seven = get-from_entries nat_cmp_total two_cells 7

at_nine : blocks two_cells 9 ≡ Some (cell_with (pos 6) (pos 0))
at_nine = get-from_entries nat_cmp_total two_cells 9

at_null : blocks two_cells 0 ≡ None
at_null = get-from_entries nat_cmp_total two_cells 0

no_one_at_null : (h : Region) → Within h (blocks two_cells) → Sat defs lenlist_id (pos 0) (pos 1 ∷ []) h → ⊥
no_one_at_null h in_two s =
    elim (len_cases (pos 0) (pos 1) h s) [
      | inl e ↦ let wrong = e.1 in cc
      | inr w ↦
          let place : w.0 ≡ 0 = cc (w.5) in
          let there = in_two w.0 (cell_with w.1 w.2) (w.7 w.0 (cell_with w.1 w.2) w.6.here) in
          let here : blocks two_cells w.0 ≡ None = ap (blocks two_cells) place ∙ at_null in
          cc
    ]

pub no_three : ¬ Sat defs lenlist_id (pos 7) (pos 3 ∷ []) (blocks two_cells)
no_three s =
    let one = len_step (blocks two_cells) (blocks two_cells) 7 (pos 5) (pos 9) (pos 3) (λ x b e. e) at_seven (λ e. cc) s in
    let two = len_step (blocks two_cells) one.0 9 (pos 6) (pos 0) (pos 2) one.1 at_nine (λ e. cc) one.2 in
    no_one_at_null two.0 two.1 two.2

-- ---- trees
abbrev TreeCase : ℤ → Region → Type 0
TreeCase v h =
    (v ≡ pos 0)
    ⊎ ((at : ℕ) × (left : ℤ) × (right : ℤ) × (fork : Region) × (calls : Region) × (one : Region) × (rest : Region) × (two : Region) × (v ≡ pos at) × IsCell fork at (fork_with left right)
    × Split h fork calls × Split calls one rest × Within two rest × Sat defs tree_id left [] one × Sat defs tree_id right [] two)

tree_null : (names others : List ℤ) (v : ℤ) (h : Region) → names ≡ v ∷ others → AllByRecursion (IsTrueAtom names) null_rule.atoms → TreeCase v h
tree_null names others v h is atoms =
    let first : value_of names 0 ≡ v = rw is refl in
    inl (sym first ∙ atoms.0)

tree_fork : (names others : List ℤ) (v : ℤ) (h b c : Region) → names ≡ v ∷ others → Split h b c
    → BlockMeets tree_rule.block tree_rule.contents names b → Star (CallMeets (Sat defs) names) tree_rule.calls c → TreeCase v h
tree_fork names others v h b c is q block calls =
    let first : value_of names 0 ≡ v = rw is refl in
    inr (
      block.0,
      value_of names 1,
      value_of names 2,
      b,
      c,
      calls.0,
      calls.1,
      calls.4.0,
      sym first ∙ block.1,
      block.2,
      q,
      calls.2,
      split_within calls.1 calls.4.0 calls.4.1 calls.4.2,
      calls.3,
      calls.4.3,
    )

tree_cases : (v : ℤ) (h : Region) → Sat defs tree_id v [] h → TreeCase v h
tree_cases v h s =
    let b = body_of defs tree_id v [] h s in
    let by = b.0 in
    let d : tree_def ≡ by.def = cc (by.defined) in
    let listed : slice_get tree_def.rules by.place ≡ Some by.rule = subst (λ (x : Def). slice_get x.rules by.place ≡ Some by.rule) (sym d) by.listed in
    elim (one_of_two null_rule tree_rule by.rule by.place listed) [
      | inl e ↦ tree_null by.names by.others v h by.front (subst (λ r. AllByRecursion (IsTrueAtom by.names) r.atoms) (sym e) by.atoms)
      | inr e ↦ tree_fork by.names by.others v h b.1 b.2 by.front b.3
          (subst (λ (r : Rule). BlockMeets r.block r.contents by.names b.1) (sym e) b.4)
          (subst (λ (r : Rule). Star (CallMeets (Sat defs) by.names) r.calls b.2) (sym e) b.5)
    ]

has_root : (at : ℕ) (h : Region) → pos at ≢ pos 0 → Sat defs tree_id (pos at) [] h → (b : Block) × (h at ≡ Some b)
has_root at h some s =
    elim (tree_cases (pos at) h s) [
      | inl e ↦ absurd (some e)
      | inr w ↦
          let place : w.0 ≡ at = cc (w.8) in
          (fork_with w.1 w.2, ap h (sym place) ∙ split_within h w.3 w.4 w.10 w.0 (fork_with w.1 w.2) w.9.here)
    ]

root_at_seven : blocks shared_fork 7 ≡ Some (fork_with (pos 9) (pos 9))
root_at_seven = get-from_entries nat_cmp_total shared_fork 7

same_fork : (h fork : Region) (at other : ℕ) (left right left' right' : ℤ) → pos other ≡ pos at → IsCell fork at (fork_with left right) → Within fork h → h other ≡ Some (fork_with left' right') → (left' ≡ left) × (right' ≡ right)
same_fork h fork at other left right left' right' e c w there =
    let place : other ≡ at = cc in
    let one : h at ≡ Some (fork_with left' right') = ap h (sym place) ∙ there in
    let two : h at ≡ Some (fork_with left right) = w at (fork_with left right) c.here in
    let same : ◌≡◌ {A = Block} (fork_with left' right') (fork_with left right) = cc in
    let fields : Some left' ∷ Some right' ∷ [] ≡ Some left ∷ Some right ∷ [] = ap (λ (b : Block). b.fields) same in
    (cc, cc)

pub no_tree : ¬ Sat defs tree_id (pos 7) [] (blocks shared_fork)
no_tree s =
    elim (tree_cases (pos 7) (blocks shared_fork) s) [
      | inl e ↦ cc
      | inr w ↦
          let same = same_fork (blocks shared_fork) w.3 w.0 7 w.1 w.2 (pos 9) (pos 9) w.8 w.9 (split_within (blocks shared_fork) w.3 w.4 w.10) root_at_seven in
          let one = has_root 9 w.5 (λ e. cc) (subst (λ z. Sat defs tree_id z [] w.5) (sym same.0) w.13) in
          let two = has_root 9 w.7 (λ e. cc) (subst (λ z. Sat defs tree_id z [] w.7) (sym same.1) w.14) in
          joins_apart (w.4 9) (w.5 9) (w.6 9) one.0 two.0 (w.11.joins 9) one.1 (w.12 9 two.0 two.1)
    ]
