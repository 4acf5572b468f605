-- What the first try says of the heap, and what it says where there is none.
use Rattle.std.proofs.Common.{◌≡◌, ℕ, zero, suc, ℤ, ◌+◌, ◌*◌, ◌≤◌, List, [], ◌∷◌, inl, inr, Bool, true, false, Option, Some, None, is_some, length, map, slice_get, option_map, refl, sym, ◌∙◌, ap, subst, arith}
use Rattle.std.specs.List.{list_any}
use Rattle.std.specs.FinMap as map
use Rattle.std.specs.FinMap.{contains_key-keys}
use Rattle.std.specs.Ordering.{nat_cmp, eq_by_cmp}
use Rattle.std.proofs.lemmas.Bool.Decides.{nat_tests}
use Rattle.mc_base.specs.declared.ids.PredId.{PredId}
use Rattle.mc_base.specs.declared.ids.StructId.{StructId}
use Rattle.mc_flow.specs.Heap.Heap.{Block, Heap, Region, region_of}
use Rattle.mc_flow.specs.declared.defs.rules.Def.{Def}
use Rattle.mc_flow.specs.declared.defs.rules.Rule.{Rule}
use Rattle.mc_flow.specs.declared.defs.shapes.StructInfo.{StructInfo}
use Rattle.mc_flow.specs.Defs.Conditions.{DefsFit, IsDefs}
use Rattle.mc_flow.specs.Defs.Meaning.{SatAt, Sat, HoldsSomewhere}
use Rattle.mc_shape_search.specs.Search.Search.{uses, first_try}
use Rattle.mc_shape_search.specs.Search.Met.{IsIn, LeavesFew, AllLeaveFew}
use Rattle.mc_shape_search.proofs.SearchLemmas.Firsts.{first_meets, none_on}
use Rattle.mc_shape_search.proofs.SearchLemmas.Tries.{on_by_met}
use Rattle.mc_shape_search.specs.Tries.Stack.{enough}
use Rattle.mc_shape_search.specs.declared.sat.goals.Goal.{Goal}
use Rattle.mc_shape_search.specs.declared.sat.goals.Mark.{Mark}
use Rattle.mc_shape_search.specs.Sat.Answers.{region_at, AreMeeting}
use Rattle.mc_shape_search.specs.Sat.Marks.{address_of, block_for, contents_at, calls, calls_of, goal_of, ends, takes, taken, space, names_at}
use Rattle.mc_shape_search.proofs.SatLemmas.Counting.{IsTaken, met_taken, whole_taken, taken_whole}
use Rattle.mc_shape_search.proofs.SatLemmas.Listed.{applies_listed}
use Rattle.mc_shape_search.proofs.SatLemmas.Named.{Parts, parts, held_is, taken_block, rule_fits}
use Rattle.mc_shape_search.proofs.SatLemmas.Parts.{left_some, bool_cases}
use Rattle.mc_shape_search.proofs.SatLemmas.Relation.{held_by_met, solved_by_sat}

-- ---- marks leave few goals
pub calls_in : List Rule → ℕ
calls_in [] = 0
calls_in (rule ∷ rules) = length rule.calls + calls_in rules

pub all_calls : List Def → ℕ
all_calls [] = 0
all_calls (def ∷ defs) = calls_in def.rules + all_calls defs

rule_calls : (rules : List Rule) (place : ℕ) (rule : Rule) → slice_get rules place ≡ Some rule → length rule.calls ≤ calls_in rules
unfolding calls_in
rule_calls [] place rule e = cc
rule_calls (x ∷ rules) zero rule e = let same : x ≡ rule = cc in let n : length x.calls ≡ length rule.calls = ap (λ (r : Rule). length r.calls) same in omega arith
rule_calls (x ∷ rules) (suc place) rule e = let r = rule_calls rules place rule e in omega arith

def_calls : (defs : List Def) (pred : ℕ) (def : Def) → slice_get defs pred ≡ Some def → calls_in def.rules ≤ all_calls defs
unfolding all_calls
def_calls [] pred def e = cc
def_calls (x ∷ defs) zero def e = let same : x ≡ def = cc in let n : calls_in x.rules ≡ calls_in def.rules = ap (λ (d : Def). calls_in d.rules) same in omega arith
def_calls (x ∷ defs) (suc pred) def e = let r = def_calls defs pred def e in omega arith

map_length : {A B : Type 0} (f : A → B) (xs : List A) → length (map f xs) ≡ length xs
map_length f [] = refl
map_length f (x ∷ xs) = ap suc (map_length f xs)

is_key : (a b : ℕ) → eq_by_cmp nat_cmp a b ≡ true → a ≡ b
is_key a b h = grind (arith, nat_tests)

in_keys : (id : ℕ) (ks : List ℕ) → list_any (eq_by_cmp nat_cmp id) ks ≡ true → IsIn id ks
in_keys id [] h = cc
in_keys id (k ∷ ks) h =
    elim (bool_cases (eq_by_cmp nat_cmp id k)) [
      | inl e ↦ inl (is_key id k e)
      | inr e ↦ inr (in_keys id ks (rw e at h))
    ]

pub key_in : (heap : Heap) (at : ℕ) (b : Block) → map.get heap at ≡ Some b → IsIn at (map.keys heap)
key_in heap at b e = in_keys at (map.keys heap) (sym (contains_key-keys heap at) ∙ ap is_some e)

-- a mark that takes nothing is of a rule without a block
none_block : (heap : Heap) (value : ℤ) (contents : List ℤ) (o : Option StructId) (taken : Option ℕ) → contents_at heap value o ≡ Some contents → block_for o value ≡ taken → taken ≡ None → o ≡ None
none_block heap value contents None taken c b e = refl
none_block heap value contents (Some shape) taken c b e =
    let h = held_is heap value shape contents c in
    let z : Some h.at ≡ None = sym (ap address_of h.is) ∙ (b ∙ e) in
    cc

module _ (whole : Bool) (heap : Heap) (structs : List StructInfo) (defs : List Def) (fit : DefsFit structs defs) where
  few_by : (g : Goal) (m : Mark) (p : Parts heap defs g m) (o : Option ℕ) → m.block ≡ o → LeavesFew (all_calls defs) (map.keys heap) o (calls heap defs g m)
  few_by g m p None e =
      let r = rule_fits structs defs fit g.pred.0 m.rule p.def p.rule p.defined p.listed in
      let none : p.rule.calls ≡ [] = r.fits.guarded (none_block heap g.at p.contents p.rule.block m.block p.held p.block e) in
      ap calls_of p.named ∙ ap (map (goal_of (names_at g p.rule p.contents))) none
  few_by g m p (Some at) e =
      let b = taken_block heap defs g m p at e in
      let long : length (calls heap defs g m) ≡ length p.rule.calls = ap (λ n. length (calls_of n)) p.named ∙ map_length (goal_of (names_at g p.rule p.contents)) p.rule.calls in
      let one = rule_calls p.def.rules m.rule p.rule p.listed in
      let all = def_calls defs g.pred.0 p.def p.defined in
      (key_in heap at b.0 b.1, omega arith)

  pub few : AllLeaveFew (space whole heap defs) (all_calls defs) (map.keys heap)
  few g m f = few_by g m (parts heap defs g m f) (takes m) refl

  -- the first marks take a part on which the predicate holds, and the search may end with them
  pub first_sound : (limit : ℕ) (g : Goal) (log : List Mark) → first_try (space whole heap defs) limit g ≡ Some log
      → SatAt defs limit g.pred g.at g.args (region_at (region_of heap) (taken log)) × (ends whole heap log ≡ true) × IsTaken heap (taken log)
  first_sound limit g log e =
      let w = space whole heap defs in
      let m = first_meets w limit g log e in
      let h = held_by_met whole heap structs defs fit limit g [] log m.0 in
      (rw h.more h.holds, m.1, met_taken whole heap defs limit g log m.0)

  -- where there are none there is no part, if the search may end with the marks that take it
  pub none_sound : (g : Goal) → ((limit : ℕ) → enough ≤ limit → first_try (space whole heap defs) limit g ≡ None) → (k : ℕ) (region : Region) → SatAt defs k g.pred g.at g.args region → ((id : ℕ) (b : Block) → region id ≡ Some b → region_of heap id ≡ Some b)
      → ((last : List Mark) → IsTaken heap (taken last) → ((id : ℕ) → uses takes last id ≡ is_some (region id)) → ends whole heap last ≡ true) → ⊥
  none_sound g e k region h within may =
      let w = space whole heap defs in
      let most = all_calls defs in
      let ids = map.keys heap in
      let limit = enough + suc (most * length ids) in
      let s = solved_by_sat whole heap structs defs fit k g [] region h within (λ id u. cc) in
      let on = on_by_met w (λ g l m a. applies_listed whole heap defs g l m a) k g [] s.last s.solves in
      none_on w most limit ids few (omega arith) g (e limit (omega arith)) s.last (may s.last (met_taken whole heap defs k g s.last s.solves) s.same) on

-- ---- some part of the heap
module _ (heap : Heap) (defs : List Def) (is : IsDefs defs) (pred : PredId) (value : ℤ) (args : List ℤ) where
  pub holds_sound : (log : List Mark) → Some log ≡ first_try (space false heap defs) enough (record { pred = pred; at = value; args = args }) → AreMeeting defs pred value args heap (taken log)
  holds_sound log e =
      let s = first_sound false heap is.0 defs is.1 enough (record { pred = pred; at = value; args = args }) log (sym e) in
      record { distinct = s.2.distinct; blocks = s.2.blocks; meets = record { height = enough; holds = s.0 } }

  pub holds_complete : ((limit : ℕ) → enough ≤ limit → first_try (space false heap defs) limit (record { pred = pred; at = value; args = args }) ≡ None) → HoldsSomewhere defs pred value args (region_of heap) → ⊥
  holds_complete e (part, rest, split, sat) =
      none_sound false heap is.0 defs is.1 (record { pred = pred; at = value; args = args }) e sat.height part sat.holds (λ id b q. left_some (region_of heap id) (part id) (rest id) b (split.joins id) q) (λ last t u. refl)

  -- ---- the whole heap
  pub meets_sound : (log : List Mark) → Some log ≡ first_try (space true heap defs) enough (record { pred = pred; at = value; args = args }) → Sat defs pred value args (region_of heap)
  meets_sound log e =
      let s = first_sound true heap is.0 defs is.1 enough (record { pred = pred; at = value; args = args }) log (sym e) in
      record { height = enough; holds = subst (λ region. SatAt defs enough pred value args region) (whole_taken heap log s.2 s.1) s.0 }

  pub meets_complete : ((limit : ℕ) → enough ≤ limit → first_try (space true heap defs) limit (record { pred = pred; at = value; args = args }) ≡ None) → Sat defs pred value args (region_of heap) → ⊥
  meets_complete e sat =
      none_sound true heap is.0 defs is.1 (record { pred = pred; at = value; args = args }) e sat.height (region_of heap) sat.holds (λ id b q. q) (λ last t u. taken_whole heap last t u)

-- the same of an answer, as code has it
module _ (heap : Heap) (ds defs : List Def) (g : Goal) (pred : PredId) (value : ℤ) (args : List ℤ) (d : ds ≡ defs) (q : g ≡ record { pred = pred; at = value; args = args }) (is : IsDefs defs) where
  abbrev pub IsFirst : Bool → Option (List Mark) → Type 0
  IsFirst whole o = (limit : ℕ) → enough ≤ limit → o ≡ first_try (space whole heap ds) limit g

  first_is : (whole : Bool) (o : Option (List Mark)) → IsFirst whole o → (limit : ℕ) → enough ≤ limit → o ≡ first_try (space whole heap defs) limit (record { pred = pred; at = value; args = args })
  first_is whole o f limit far = f limit far ∙ (ap (λ ds. first_try (space whole heap ds) limit g) d ∙ ap (first_try (space whole heap defs) limit) q)

  pub none_holds : (o : Option (List Mark)) → IsFirst false o → o ≡ None → HoldsSomewhere defs pred value args (region_of heap) → ⊥
  none_holds o f n h = holds_complete heap defs is pred value args (λ limit far. sym (first_is false o f limit far) ∙ n) h

  pub some_holds : (o : Option (List Mark)) (log : List Mark) (ats : List ℕ) → IsFirst false o → o ≡ Some log → ats ≡ taken log → AreMeeting defs pred value args heap ats
  some_holds o log ats f s e = rw e (holds_sound heap defs is pred value args log (sym s ∙ first_is false o f enough (omega arith)))

  pub meets_yes : (o : Option (List Mark)) → IsFirst true o → is_some o ≡ true → Sat defs pred value args (region_of heap)
  meets_yes None f s = cc
  meets_yes (Some log) f s = meets_sound heap defs is pred value args log (first_is true (Some log) f enough (omega arith))

  pub meets_no : (o : Option (List Mark)) → IsFirst true o → Sat defs pred value args (region_of heap) → is_some o ≡ true
  meets_no None f h = absurd (meets_complete heap defs is pred value args (λ limit far. sym (first_is true None f limit far)) h)
  meets_no (Some log) f h = refl

pub mapped : {A B : Type 0} (f : A → B) (o : Option A) → is_some (option_map f o) ≡ is_some o
mapped f None = refl
mapped f (Some x) = refl
