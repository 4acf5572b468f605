-- Marks that meet a goal take each address once, and each is a block's. So they take every block where they take as many
-- as there are.
use Rattle.std.proofs.Common.{◌≡◌, ℕ, zero, suc, ◌+◌, ◌-◌, List, [], ◌∷◌, ◌++◌, ◌||◌, Bool, true, false, not, cond, Option, Some, None, is_some, length, refl, sym, ◌∙◌, ap, arith, eq-eqb, append-nil, append_assoc, length-append}
use Rattle.std.specs.Prelude.{◌==◌, option_to_list, if◌then◌else◌, nat_eq, IsSome}
use Rattle.std.specs.List.{AllByRecursion, list_any, IsDistinct}
use Rattle.std.specs.FinMap as map
use Rattle.std.specs.FinMap.{get-remove, get-empty, len-remove, len-empty, empty_of_len, same_map, nat_cmp-IsAntisymmetric}
use Rattle.std.specs.Ordering.{nat_cmp, eq_by_cmp}
use Rattle.std.specs.Cmp.{nat_cmp_total}
use Rattle.std.proofs.lemmas.Bool.{and_parts, eqb-true}
use Rattle.std.proofs.lemmas.Bool.Decides.{nat_tests}
use mathlib.Core.Path.{fun_ext}
use Rattle.mc_flow.specs.Heap.Heap.{Block, Heap, region_of}
use Rattle.mc_flow.specs.declared.defs.rules.Def.{Def}
use Rattle.mc_shape_search.specs.Search.Search.{Space, uses, is_unused, is_free, applies}
use Rattle.mc_shape_search.specs.Search.Met.{AreMetBy, IsMet}
use Rattle.mc_shape_search.specs.declared.sat.goals.Goal.{Goal}
use Rattle.mc_shape_search.specs.declared.sat.goals.Mark.{Mark}
use Rattle.mc_shape_search.specs.Sat.Answers.{region_at}
use Rattle.mc_shape_search.specs.Sat.Marks.{takes, taken, fits, ends, space}
use Rattle.mc_shape_search.proofs.SatLemmas.Named.{parts, taken_block}
use Rattle.mc_shape_search.proofs.SatLemmas.Relation.{taken_uses}

-- ---- what each mark keeps, all marks keep
module _ {G M : Type 0} (w : Space G M) (P : List M → Type 0) (step : (g : G) (log : List M) (m : M) → applies w g log m ≡ true → P log → P (log ++ m ∷ [])) where
  all_keep : (S : G → List M → List M → Type 0) → ((g : G) (l a : List M) → S g l a → P l → P a) → (gs : List G) (log after : List M) → AreMetBy S gs log after → P log → P after
  all_keep S f [] log after h p = rw h p
  all_keep S f (g ∷ gs) log after (mid, h, r) p = all_keep S f gs mid after r (f g log mid h p)

  pub met_keeps : (k : ℕ) (g : G) (log after : List M) → IsMet w k g log after → P log → P after
  met_keeps zero g log after h p = absurd h
  met_keeps (suc k) g log after (m, a, r) p = all_keep (IsMet w k) (λ g l a. met_keeps k g l a) (w.calls g m) (log ++ m ∷ []) after r (step g log m a p)

-- ---- what is left of a heap without these addresses
pub left : Heap → List ℕ → Heap
left heap [] = heap
left heap (at ∷ ats) = left (map.remove heap at) ats

not_true : (b : Bool) → not b ≡ true → b ≡ false
not_true true h = cc
not_true false h = refl

left_more : (heap : Heap) (ats : List ℕ) (at : ℕ) → left heap (ats ++ at ∷ []) ≡ map.remove (left heap ats) at
unfolding left
left_more heap [] at = refl
left_more heap (x ∷ ats) at = left_more (map.remove heap x) ats at

left_one : (b c : Bool) (o : Option Block) → (if b then None else cond c None o) ≡ (if c || b then None else o)
left_one true true o = refl
left_one true false o = refl
left_one false true o = refl
left_one false false o = refl

same_test : (q k : ℕ) → eq_by_cmp nat_cmp q k ≡ (k == q)
same_test q k = grind (arith, nat_tests)

pub left_at : (heap : Heap) (ats : List ℕ) (id : ℕ) → map.get (left heap ats) id ≡ (if list_any (λ own. own == id) ats then None else map.get heap id)
unfolding left
left_at heap [] id = refl
left_at heap (at ∷ ats) id =
    left_at (map.remove heap at) ats id
    ∙ (ap (λ o. if list_any (λ own. own == id) ats then None else o) (get-remove nat_cmp_total heap at id ∙ ap (λ b. cond b None (map.get heap id)) (same_test id at))
    ∙ left_one (list_any (λ own. own == id) ats) (at == id) (map.get heap id))

len_some : (heap : Heap) (at : ℕ) (b : Block) → map.get heap at ≡ Some b → suc (map.len (map.remove heap at)) ≡ map.len heap
len_some heap at b e =
    let r : map.len (map.remove heap at) ≡ map.len heap - 1 = len-remove nat_cmp_total heap at ∙ ap (λ o. cond (is_some o) (map.len heap - 1) (map.len heap)) e in
    go (map.len heap) refl r
  where
    go : (n : ℕ) → map.len heap ≡ n → map.len (map.remove heap at) ≡ map.len heap - 1 → suc (map.len (map.remove heap at)) ≡ map.len heap
    go zero z r = let none : map.get heap at ≡ None = ap (λ (h : Heap). map.get h at) (empty_of_len heap z) ∙ get-empty nat_cmp at in cc
    go (suc n) z r = omega arith

-- ---- the addresses of marks
taken_more : (log : List Mark) (m : Mark) → taken (log ++ m ∷ []) ≡ taken log ++ option_to_list (takes m)
taken_more [] m = append-nil (option_to_list (takes m))
taken_more (x ∷ log) m = ap (λ l. option_to_list (takes x) ++ l) (taken_more log m) ∙ sym (append_assoc (option_to_list (takes x)) (taken log) (option_to_list (takes m)))

all_more : {A : Type 0} (P : A → Type 0) (xs : List A) (x : A) → AllByRecursion P xs → P x → AllByRecursion P (xs ++ x ∷ [])
all_more P [] x a p = (p, tt)
all_more P (y ∷ xs) x a p = (a.0, all_more P xs x a.1 p)

distinct_more : (xs : List ℕ) (x : ℕ) → IsDistinct nat_eq xs → list_any (λ own. own == x) xs ≡ false → IsDistinct nat_eq (xs ++ x ∷ [])
unfolding IsDistinct
distinct_more [] x d n = (tt, tt)
distinct_more (y ∷ xs) x d n = (all_more (λ z. nat_eq y z ≡ false) xs x d.0 (or_left (y == x) (list_any (λ own. own == x) xs) n), distinct_more xs x d.1 (or_right (y == x) (list_any (λ own. own == x) xs) n))
  where
    or_left : (a b : Bool) → (a || b) ≡ false → a ≡ false
    or_left true b h = h
    or_left false b h = refl

    or_right : (a b : Bool) → (a || b) ≡ false → b ≡ false
    or_right true b h = cc
    or_right false b h = h

-- what stands of the addresses that marks have taken
pub record IsTaken (heap : Heap) (ats : List ℕ) : Type 0 where
  pub distinct : IsDistinct nat_eq ats
  pub blocks : AllByRecursion (λ at. IsSome (region_of heap at)) ats
  pub counted : length ats + map.len (left heap ats) ≡ map.len heap

one_more : (heap : Heap) (ats : List ℕ) (at : ℕ) (b : Block) → map.get heap at ≡ Some b → list_any (λ own. own == at) ats ≡ false → IsTaken heap ats → IsTaken heap (ats ++ at ∷ [])
one_more heap ats at b e n t =
    let here : map.get (left heap ats) at ≡ Some b = left_at heap ats at ∙ (ap (λ x. if x then None else map.get heap at) n ∙ e) in
    let less = len_some (left heap ats) at b here in
    let more : map.len (left heap (ats ++ at ∷ [])) ≡ map.len (map.remove (left heap ats) at) = ap map.len (left_more heap ats at) in
    let long : length (ats ++ at ∷ []) ≡ length ats + 1 = length-append ats (at ∷ []) in
    let was : length ats + map.len (left heap ats) ≡ map.len heap = t.counted in
    record {
      distinct = distinct_more ats at t.distinct n;
      blocks = all_more (λ x. IsSome (region_of heap x)) ats at t.blocks (ap is_some e);
      counted = omega arith;
    }

pub none_taken : (heap : Heap) → IsTaken heap []
unfolding left IsDistinct
none_taken heap = record { distinct = tt; blocks = tt; counted = omega arith }

some_more : (heap : Heap) (ats : List ℕ) (o : Option ℕ) → ((at : ℕ) → o ≡ Some at → (b : Block) × (map.get heap at ≡ Some b) × (list_any (λ own. own == at) ats ≡ false)) → IsTaken heap ats → IsTaken heap (ats ++ option_to_list o)
some_more heap ats None f t = rw (append-nil ats) t
some_more heap ats (Some at) f t = let r = f at refl in one_more heap ats at r.0 r.1 r.2 t

mark_more : (whole : Bool) (heap : Heap) (defs : List Def) (g : Goal) (log : List Mark) (m : Mark) → applies (space whole heap defs) g log m ≡ true → IsTaken heap (taken log) → IsTaken heap (taken (log ++ m ∷ []))
mark_more whole heap defs g log m h t =
    let a = and_parts (fits heap defs g m) (is_free takes log m) h in
    let p = parts heap defs g m a.0 in
    rw (taken_more log m) (some_more heap (taken log) (takes m) (λ at e. (
    let b = taken_block heap defs g m p at e in
    let free : is_unused takes log (Some at) ≡ true = ap (is_unused takes log) (sym e) ∙ a.1 in
    (b.0, b.1, taken_uses log at ∙ not_true (uses takes log at) free))) t)

pub met_taken : (whole : Bool) (heap : Heap) (defs : List Def) (k : ℕ) (g : Goal) (after : List Mark) → IsMet (space whole heap defs) k g [] after → IsTaken heap (taken after)
met_taken whole heap defs k g after h = met_keeps (space whole heap defs) (λ log. IsTaken heap (taken log)) (mark_more whole heap defs) k g [] after h (none_taken heap)

-- ---- the whole heap
if_none : (b : Bool) (o : Option Block) → (if b then None else o) ≡ None → (if b then o else None) ≡ o
if_none true o e = refl
if_none false o e = sym e

-- as many addresses as blocks are all of them
pub whole_taken : (heap : Heap) (log : List Mark) → IsTaken heap (taken log) → ends true heap log ≡ true → region_at (region_of heap) (taken log) ≡ region_of heap
whole_taken heap log t e =
    let n : length (taken log) ≡ map.len heap = eqb-true (length (taken log)) (map.len heap) e in
    let c : length (taken log) + map.len (left heap (taken log)) ≡ map.len heap = t.counted in
    let z : map.len (left heap (taken log)) ≡ 0 = omega arith in
    let none : left heap (taken log) ≡ map.empty = empty_of_len (left heap (taken log)) z in
    fun_ext (λ at. if_none (list_any (λ own. own == at) (taken log)) (region_of heap at) (sym (left_at heap (taken log) at) ∙ (ap (λ (h : Heap). map.get h at) none ∙ get-empty nat_cmp at)))

none_left : (b : Bool) (o : Option Block) → b ≡ is_some o → (if b then None else o) ≡ None
none_left true o e = refl
none_left false None e = refl
none_left false (Some b) e = cc

-- and where each block is taken, they are as many
pub taken_whole : (heap : Heap) (log : List Mark) → IsTaken heap (taken log) → ((id : ℕ) → uses takes log id ≡ is_some (region_of heap id)) → ends true heap log ≡ true
taken_whole heap log t all =
    let none : left heap (taken log) ≡ map.empty = same_map nat_cmp_total nat_cmp-IsAntisymmetric (left heap (taken log)) map.empty
    (λ id. left_at heap (taken log) id ∙ (none_left (list_any (λ own. own == id) (taken log)) (map.get heap id) (taken_uses log id ∙ all id) ∙ sym (get-empty nat_cmp id))) in
    let z : map.len (left heap (taken log)) ≡ 0 = ap map.len none ∙ len-empty nat_cmp Block in
    let c : length (taken log) + map.len (left heap (taken log)) ≡ map.len heap = t.counted in
    eq-eqb (length (taken log)) (map.len heap) (omega arith)
