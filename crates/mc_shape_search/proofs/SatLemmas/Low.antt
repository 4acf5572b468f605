-- Parts as heaps, names, and how high a predicate holds on a heap.
use Rattle.std.proofs.Common.{◌≡◌, ℕ, zero, suc, ℤ, ◌≤◌, List, [], ◌∷◌, ◌++◌, ◌||◌, inl, inr, Bool, true, false, not, cond, Option, Some, None, is_some, length, map, slice_get, refl, sym, ◌∙◌, ap, subst, arith, eq-eqb}
use Rattle.std.specs.Prelude.{◌==◌, if◌then◌else◌}
use Rattle.std.specs.FinMap as map
use Rattle.std.specs.FinMap.{get-retain_keys, len-entries, nat_cmp-IsAntisymmetric}
use Rattle.std.specs.List.{list_any}
use Rattle.std.proofs.lemmas.Bool.{and_parts}
use mathlib.Core.Path.{fun_ext}
use Rattle.mc_flow.specs.Heap.Heap.{Block, region_of}
use Rattle.mc_flow.specs.Heap.Parts.{Joins}
use Rattle.mc_flow.specs.declared.defs.rules.Def.{Def}
use Rattle.mc_flow.specs.declared.defs.rules.Rule.{Rule}
use Rattle.mc_flow.specs.Defs.Meaning.{SatAt}
use Rattle.mc_shape_search.specs.Search.Search.{Space, uses, takes_this, is_unused, is_free}
use Rattle.mc_shape_search.specs.Search.Met.{IsIn, AreMetBy, IsMet, one_if_unused, count_unused, LeavesFew, AllLeaveFew}
use Rattle.mc_shape_search.proofs.SearchLemmas.Bound.{uses_more, unused_all}
use Rattle.mc_shape_search.specs.declared.sat.goals.Goal.{Goal}
use Rattle.mc_shape_search.specs.declared.sat.goals.Mark.{Mark}
use Rattle.mc_shape_search.specs.Sat.Answers.{region_at}
use Rattle.mc_shape_search.specs.Sat.Laws.{PartIsHeap, SatIsLow, NamesAreUnique}
use Rattle.mc_shape_search.specs.Sat.Marks.{block_for, named_at, Named, takes, taken, space}
use Rattle.mc_shape_search.proofs.SatLemmas.Counting.{met_keeps}
use Rattle.mc_shape_search.proofs.SatLemmas.FirstTries.{few, all_calls}
use Rattle.mc_shape_search.proofs.SatLemmas.Named.{named_back}
use Rattle.mc_shape_search.proofs.SatLemmas.Parts.{left_some}
use Rattle.mc_shape_search.proofs.SatLemmas.Relation.{held_by_met, solved_by_sat, taken_uses}

-- ---- a part as a heap
kept : (whole part rest : Option Block) → Joins whole part rest → part ≡ cond (is_some part) whole None
kept whole None rest j = refl
kept whole (Some b) None j = sym j
kept whole (Some b) (Some c) j = absurd j

pub part_is_heap : PartIsHeap
part_is_heap heap part rest split =
    let p : ℕ → Bool = λ at. is_some (part at) in (
      map.retain_keys heap p,
      fun_ext (λ at. kept (region_of heap at) (part at) (rest at) (split.joins at) ∙ sym (get-retain_keys heap p at (λ x e. ap p (sym (nat_cmp-IsAntisymmetric at x e))))),
    )

-- ---- names
same_some : {X : Type 0} (x y : X) → Some x ≡ Some y → x ≡ y
same_some x y e = cc

names_in : Option Named → List ℤ
names_in None = []
names_in (Some by) = by.names

pub names_are_unique : NamesAreUnique
unfolding names_in
names_are_unique heap defs pred value args by other block rest other_block other_rest is same split meets other_split other_meets =
    let g : Goal = record { pred = pred; at = value; args = args } in
    let one = named_back is.0 heap defs is.1 g by block meets (λ id b e. left_some (region_of heap id) (block id) (rest id) b (split.joins id) e) in
    let two = named_back is.0 heap defs is.1 g other other_block other_meets (λ id b e. left_some (region_of heap id) (other_block id) (other_rest id) b (other_split.joins id) e) in
    let some_defs : Some by.def ≡ Some other.def = sym by.defined ∙ other.defined in
    let same_def : by.def ≡ other.def = same_some by.def other.def some_defs in
    let some_rules : Some by.rule ≡ Some other.rule = sym by.listed ∙ (ap (λ (d : Def). slice_get d.rules by.place) same_def ∙ (ap (λ n. slice_get other.def.rules n) same ∙ other.listed)) in
    let same_rule : by.rule ≡ other.rule = same_some by.rule other.rule some_rules in
    let mark : ℕ → Rule → Mark = λ place rule. record { rule = place; block = block_for rule.block value } in
    let marks : mark by.place by.rule ≡ mark other.place other.rule = ap (λ place. mark place by.rule) same ∙ ap (mark other.place) same_rule in
    ap names_in (sym one.named ∙ (ap (named_at heap defs g) marks ∙ two.named))

-- ---- heights
one_less : (a b : Bool) → one_if_unused (a || b) ≤ one_if_unused a
one_less true b = omega arith
one_less false true = omega arith
one_less false false = omega arith

not_true : (b : Bool) → not b ≡ true → b ≡ false
not_true true h = cc
not_true false h = refl

module _ {G M : Type 0} (w : Space G M) (most : ℕ) (ids : List ℕ) (leaves : AllLeaveFew w most ids) where
  unused_le : (log : List M) (m : M) (ids : List ℕ) → count_unused w.takes (log ++ m ∷ []) ids ≤ count_unused w.takes log ids
  unused_le log m [] = omega arith
  unused_le log m (id ∷ ids) =
      let a : one_if_unused (uses w.takes (log ++ m ∷ []) id) ≤ one_if_unused (uses w.takes log id) = rw (uses_more w.takes log m id) (one_less (uses w.takes log id) (takes_this (w.takes m) id)) in
      let b = unused_le log m ids in
      omega arith

  unused_less : (log : List M) (m : M) (id : ℕ) (ids : List ℕ) → IsIn id ids → uses w.takes log id ≡ false → takes_this (w.takes m) id ≡ true → suc (count_unused w.takes (log ++ m ∷ []) ids) ≤ count_unused w.takes log ids
  unused_less log m id [] i u t = absurd i
  unused_less log m id (y ∷ ids) (inl e) u t =
      let a : one_if_unused (uses w.takes (log ++ m ∷ []) y) ≡ 0 = rw (uses_more w.takes log m y, sym e, u, t) in
      let c : one_if_unused (uses w.takes log y) ≡ 1 = rw (sym e, u) in
      let b = unused_le log m ids in
      omega arith
  unused_less log m id (y ∷ ids) (inr i) u t =
      let a : one_if_unused (uses w.takes (log ++ m ∷ []) y) ≤ one_if_unused (uses w.takes log y) = rw (uses_more w.takes log m y) (one_less (uses w.takes log y) (takes_this (w.takes m) y)) in
      let b = unused_less log m id ids i u t in
      omega arith

  -- no more stand one within the other than numbers are unused, and one
  abbrev IsLow : ℕ → (G → List M → List M → Type 0) → Type 0
  IsLow n S = (g : G) (log after : List M) → S g log after → count_unused w.takes log ids ≤ n → IsMet w (suc n) g log after

  all_low : (n k : ℕ) → IsLow n (IsMet w k) → (gs : List G) (log after : List M) → AreMetBy (IsMet w k) gs log after → count_unused w.takes log ids ≤ n → AreMetBy (IsMet w (suc n)) gs log after
  all_low n k f [] log after h l = h
  all_low n k f (g ∷ gs) log after (mid, h, r) l =
      let kept : count_unused w.takes mid ids ≤ n = met_keeps w (λ log. count_unused w.takes log ids ≤ n) (λ g log m a p. (let q = unused_le log m ids in omega arith)) k g log mid h l in
      (mid, f g log mid h l, all_low n k f gs mid after r kept)

  by_taken : (n k : ℕ) (o : Option ℕ) (g : G) (log after : List M) (m : M) → ((n : ℕ) → IsLow n (IsMet w k)) → w.takes m ≡ o → is_unused w.takes log o ≡ true → LeavesFew most ids o (w.calls g m) → AreMetBy (IsMet w k) (w.calls g m) (log ++ m ∷ []) after → count_unused w.takes log ids ≤ n
      → AreMetBy (IsMet w n) (w.calls g m) (log ++ m ∷ []) after
  by_taken n k None g log after m f e u none r l = bare (w.calls g m) none r
    where
      bare : (gs : List G) → gs ≡ [] → AreMetBy (IsMet w k) gs (log ++ m ∷ []) after → AreMetBy (IsMet w n) gs (log ++ m ∷ []) after
      bare [] z r = r
      bare (g ∷ gs) z r = cc
  by_taken zero k (Some id) g log after m f e u few r l =
      let t : takes_this (w.takes m) id ≡ true = ap (λ o. takes_this o id) e ∙ eq-eqb id id refl in
      let s = unused_less log m id ids few.0 (not_true (uses w.takes log id) u) t in
      absurd (omega arith)
  by_taken (suc n) k (Some id) g log after m f e u few r l =
      let t : takes_this (w.takes m) id ≡ true = ap (λ o. takes_this o id) e ∙ eq-eqb id id refl in
      let s = unused_less log m id ids few.0 (not_true (uses w.takes log id) u) t in
      all_low n k (f n) (w.calls g m) (log ++ m ∷ []) after r (omega arith)

  pub met_low : (k n : ℕ) → IsLow n (IsMet w k)
  met_low zero n g log after h l = absurd h
  met_low (suc k) n g log after (m, a, r) l =
      let p = and_parts (w.fits g m) (is_free w.takes log m) a in
      (m, a, by_taken n k (w.takes m) g log after m (λ n. met_low k n) refl p.1 (leaves g m p.0) r l)

map_length : {A B : Type 0} (f : A → B) (xs : List A) → length (map f xs) ≡ length xs
map_length f [] = refl
map_length f (x ∷ xs) = ap suc (map_length f xs)

if_there : (b : Bool) (o : Option Block) → b ≡ is_some o → (if b then o else None) ≡ o
if_there true o e = refl
if_there false None e = refl
if_there false (Some b) e = cc

pub sat_is_low : SatIsLow
sat_is_low heap defs pred value args is sat =
    let g : Goal = record { pred = pred; at = value; args = args } in
    let w = space false heap defs in
    let ids = map.keys heap in
    let n = map.len heap in
    let s = solved_by_sat false heap is.0 defs is.1 sat.height g [] (region_of heap) sat.holds (λ id b q. q) (λ id u. cc) in
    let count : count_unused takes [] ids ≡ n = unused_all takes ids ∙ (map_length (λ (e : ℕ × Block). e.0) (map.entries heap) ∙ sym (len-entries heap)) in
    let low = met_low w (all_calls defs) ids (few false heap is.0 defs is.1) sat.height n g [] s.last s.solves (omega arith) in
    let h = held_by_met false heap is.0 defs is.1 (suc n) g [] s.last low in
    let all : region_at (region_of heap) (taken h.fresh) ≡ region_of heap =
    fun_ext (λ at. if_there (list_any (λ own. own == at) (taken h.fresh)) (region_of heap at) (taken_uses h.fresh at ∙ (ap (λ l. uses takes l at) (sym h.more) ∙ s.same at))) in
    subst (λ region. SatAt defs (suc n) pred value args region) all h.holds
