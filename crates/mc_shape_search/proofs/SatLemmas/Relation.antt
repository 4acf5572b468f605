-- Marks meet a goal exactly where its predicate holds on a part of the heap.
use Rattle.std.proofs.Common.{◌≡◌, ℕ, zero, suc, ℤ, List, [], ◌∷◌, ◌++◌, ◌||◌, inl, inr, Bool, true, false, not, Option, Some, None, is_some, map, refl, sym, ◌∙◌, ap, append_assoc, append-nil, eq-eqb}
use Rattle.std.specs.Prelude.{◌==◌, option_to_list}
use Rattle.std.specs.List.{list_any}
use Rattle.std.proofs.lemmas.Bool.{and_parts, and_from, eqb-true}
use Rattle.mc_flow.specs.Heap.Heap.{Block, Heap, Region, region_of}
use Rattle.mc_flow.specs.Heap.Parts.{Split, Star}
use Rattle.mc_flow.specs.declared.defs.rules.Call.{Call}
use Rattle.mc_flow.specs.declared.defs.rules.Def.{Def}
use Rattle.mc_flow.specs.declared.defs.shapes.StructInfo.{StructInfo}
use Rattle.mc_flow.specs.Defs.Conditions.{DefsFit}
use Rattle.mc_flow.specs.Defs.Meaning.{Meaning, CallMeets, BodyMeets, SatAt}
use Rattle.mc_shape_search.specs.Search.Search.{uses, takes_this, is_unused, is_free}
use Rattle.mc_shape_search.specs.Search.Met.{AreMetBy, IsMet}
use Rattle.mc_shape_search.proofs.SearchLemmas.Bound.{uses_more}
use Rattle.mc_shape_search.specs.declared.sat.goals.Goal.{Goal}
use Rattle.mc_shape_search.specs.declared.sat.goals.Mark.{Mark}
use Rattle.mc_shape_search.specs.Sat.Answers.{region_at}
use Rattle.mc_shape_search.specs.Sat.Marks.{block_for, names_at, fits, goal_of, calls_of, calls, takes, taken, space}
use Rattle.mc_shape_search.proofs.SatLemmas.Named.{parts, values_of, block_meets, named_back}
use Rattle.mc_shape_search.proofs.SatLemmas.Parts.{left_some, right_some, left_none, right_none, apart, there_joins, joins_kept, bool_cases, or_cases, or_left, or_right, or_more, or_none}

-- ---- what is used
pub uses_append : (a b : List Mark) (id : ℕ) → uses takes (a ++ b) id ≡ (uses takes a id || uses takes b id)
uses_append [] b id = refl
uses_append (m ∷ a) b id = ap (λ x. takes_this (takes m) id || x) (uses_append a b id) ∙ sym (or_more (takes_this (takes m) id) (uses takes a id) (uses takes b id))

any_more : (o : Option ℕ) (ats : List ℕ) (id : ℕ) → list_any (λ own. own == id) (option_to_list o ++ ats) ≡ (takes_this o id || list_any (λ own. own == id) ats)
any_more None ats id = refl
any_more (Some at) ats id = refl

-- the addresses that marks take are those that are used
pub taken_uses : (log : List Mark) (id : ℕ) → list_any (λ own. own == id) (taken log) ≡ uses takes log id
taken_uses [] id = refl
taken_uses (m ∷ log) id = any_more (takes m) (taken log) id ∙ ap (λ b. takes_this (takes m) id || b) (taken_uses log id)

-- the marks of the second list take nothing that the first has taken
abbrev pub Apart : List Mark → List Mark → Type 0
Apart log fresh = (id : ℕ) → uses takes fresh id ≡ true → uses takes log id ≡ false

not_true : (b : Bool) → not b ≡ true → b ≡ false
not_true true h = cc
not_true false h = refl

-- what a mark that is free takes was not used
free_apart : (log : List Mark) (m : Mark) (o : Option ℕ) → takes m ≡ o → is_unused takes log o ≡ true → (id : ℕ) → takes_this o id ≡ true → uses takes log id ≡ false
free_apart log m None e u id t = cc
free_apart log m (Some at) e u id t = ap (uses takes log) (sym (eqb-true at id t)) ∙ not_true (uses takes log at) u

along : {X : Type 0} (P : X → Type 0) {a b : X} → a ≡ b → P a → P b
along P e p = rw (sym e) p

-- a meaning of goals
abbrev pub At : Meaning → Goal → Region → Type 0
At M g region = M g.pred g.at g.args region

-- parts for goals are parts for calls
star_of_goals : (M : Meaning) (names : List ℤ) (cs : List Call) (region : Region) → Star (At M) (map (goal_of names) cs) region → Star (CallMeets M names) cs region
star_of_goals M names [] region s = s
star_of_goals M names (c ∷ cs) region s = (s.0, s.1, s.2, s.3, star_of_goals M names cs s.1 s.4)

goals_of_star : (M : Meaning) (names : List ℤ) (cs : List Call) (region : Region) → Star (CallMeets M names) cs region → Star (At M) (map (goal_of names) cs) region
goals_of_star M names [] region s = s
goals_of_star M names (c ∷ cs) region s = (s.0, s.1, s.2, s.3, goals_of_star M names cs s.1 s.4)

module _ (whole : Bool) (heap : Heap) (structs : List StructInfo) (defs : List Def) (fit : DefsFit structs defs) where
  -- the part that marks take
  abbrev pub part : List Mark → Region
  part fresh = region_at (region_of heap) (taken fresh)

  -- what meets goals, as a part of the heap
  pub record Held (M : Region → Type 0) (log after : List Mark) : Type 0 where
    pub fresh : List Mark
    pub more : after ≡ log ++ fresh
    pub new : Apart log fresh
    pub holds : M (part fresh)

  split_parts : (a b : List Mark) → Apart a b → Split (part (a ++ b)) (part a) (part b)
  split_parts a b d =
      record {
        joins = λ at. (
            let x = list_any (λ own. own == at) (taken a) in
            let y = list_any (λ own. own == at) (taken b) in
            let e : list_any (λ own. own == at) (taken (a ++ b)) ≡ (x || y) = taken_uses (a ++ b) at ∙ (uses_append a b at ∙ rw (taken_uses a at, taken_uses b at)) in
            rw e (joins_kept x y (region_of heap at) (λ h. taken_uses a at ∙ d at (sym (taken_uses b at) ∙ h))));
      }

  all_held : (S : Goal → List Mark → List Mark → Type 0) (N : Goal → Region → Type 0) → ((g : Goal) (l a : List Mark) → S g l a → Held (N g) l a) → (gs : List Goal) (log after : List Mark) → AreMetBy S gs log after → Held (Star N gs) log after
  all_held S N f [] log after h = record { fresh = []; more = h ∙ sym (append-nil log); new = λ id u. cc; holds = record { none = λ at. refl } }
  all_held S N f (g ∷ gs) log after (mid, h, r) =
      let a = f g log mid h in
      let b = all_held S N f gs mid after r in
      let back : (id : ℕ) → uses takes b.fresh id ≡ true → (uses takes log id || uses takes a.fresh id) ≡ false = λ id u. sym (uses_append log a.fresh id) ∙ (ap (λ l. uses takes l id) (sym a.more) ∙ b.new id u) in
      record {
        fresh = a.fresh ++ b.fresh;
        more = b.more ∙ (ap (λ l. l ++ b.fresh) a.more ∙ append_assoc log a.fresh b.fresh);
        new = λ id u. elim (or_cases (uses takes a.fresh id) (uses takes b.fresh id) (sym (uses_append a.fresh b.fresh id) ∙ u)) [
          | inl x ↦ a.new id x
          | inr x ↦ or_left (uses takes log id) (uses takes a.fresh id) (back id x)
        ];
        holds = (part a.fresh, part b.fresh, split_parts a.fresh b.fresh (λ id u. or_right (uses takes log id) (uses takes a.fresh id) (back id u)), a.holds, b.holds);
      }

  -- a mark that fits and is free, and what meets the goals that it leaves
  by_mark : (M : Meaning) (S : Goal → List Mark → List Mark → Type 0) → ((g : Goal) (l a : List Mark) → S g l a → Held (At M g) l a) → (g : Goal) (log after : List Mark) (m : Mark) → fits heap defs g m ≡ true → is_free takes log m ≡ true → AreMetBy S (calls heap defs g m) (log ++ m ∷ []) after
      → Held (BodyMeets M defs g.pred g.at g.args) log after
  by_mark M S f g log after m t u r =
      let p = parts heap defs g m t in
      let names = names_at g p.rule p.contents in
      let called : calls heap defs g m ≡ map (goal_of names) p.rule.calls = ap calls_of p.named in
      let h = all_held S (At M) f (map (goal_of names) p.rule.calls) (log ++ m ∷ []) after (along (λ gs. AreMetBy S gs (log ++ m ∷ []) after) called r) in
      let back : (id : ℕ) → uses takes h.fresh id ≡ true → (uses takes log id || takes_this (takes m) id) ≡ false = λ id x. sym (uses_more takes log m id) ∙ h.new id x in
      let alone : Apart (m ∷ []) h.fresh = λ id x. sym (or_none (takes_this (takes m) id)) ∙ or_right (uses takes log id) (takes_this (takes m) id) (back id x) in
      record {
        fresh = m ∷ h.fresh;
        more = h.more ∙ append_assoc log (m ∷ []) h.fresh;
        new = λ id x. elim (or_cases (takes_this (takes m) id) (uses takes h.fresh id) x) [
          | inl y ↦ free_apart log m (takes m) refl u id y
          | inr y ↦ or_left (uses takes log id) (takes_this (takes m) id) (back id y)
        ];
        holds = (
          values_of heap defs g m p,
          part (m ∷ []),
          part h.fresh,
          split_parts (m ∷ []) h.fresh alone,
          block_meets structs heap defs fit g m p,
          star_of_goals M names p.rule.calls (part h.fresh) h.holds,
        );
      }

  pub held_by_met : (k : ℕ) (g : Goal) (log after : List Mark) → IsMet (space whole heap defs) k g log after → Held (At (SatAt defs k) g) log after
  held_by_met zero g log after h = absurd h
  held_by_met (suc k) g log after (m, f, r) =
      let p = and_parts (fits heap defs g m) (is_free takes log m) f in
      by_mark (SatAt defs k) (IsMet (space whole heap defs) k) (λ g l a. held_by_met k g l a) g log after m p.0 p.1 r

  -- and the other way round: the part's addresses are taken, and no others
  pub record Solved (S : List Mark → List Mark → Type 0) (log : List Mark) (region : Region) : Type 0 where
    pub last : List Mark
    pub solves : S log last
    pub same : (id : ℕ) → uses takes last id ≡ (uses takes log id || is_some (region id))

  -- what a region holds the heap holds
  abbrev pub IsWithin : Region → Type 0
  IsWithin region = (id : ℕ) (b : Block) → region id ≡ Some b → region_of heap id ≡ Some b

  -- the log has taken nothing of the region
  abbrev pub IsClear : List Mark → Region → Type 0
  IsClear log region = (id : ℕ) → uses takes log id ≡ true → region id ≡ None

  abbrev pub Back : (Goal → Region → Type 0) → (Goal → List Mark → List Mark → Type 0) → Type 0
  Back N S = (g : Goal) (log : List Mark) (region : Region) → N g region → IsWithin region → IsClear log region → Solved (S g) log region

  all_back : (N : Goal → Region → Type 0) (S : Goal → List Mark → List Mark → Type 0) → Back N S → (gs : List Goal) (log : List Mark) (region : Region) → Star N gs region → IsWithin region → IsClear log region → Solved (AreMetBy S gs) log region
  all_back N S f [] log region h i c = record { last = log; solves = refl; same = λ id. or_none (uses takes log id) ∙ ap (λ o. uses takes log id || is_some o) (sym (h.none id)) }
  all_back N S f (g ∷ gs) log region (part, rest, split, h, star) i c =
      let a = f g log part h (λ id b e. i id b (left_some (region id) (part id) (rest id) b (split.joins id) e)) (λ id u. left_none (region id) (part id) (rest id) (split.joins id) (c id u)) in
      let clear : IsClear a.last rest = λ id u. elim (or_cases (uses takes log id) (is_some (part id)) (sym (a.same id) ∙ u)) [
        | inl x ↦ right_none (region id) (part id) (rest id) (split.joins id) (c id x)
        | inr x ↦ apart (region id) (part id) (rest id) (split.joins id) x
      ] in
      let b = all_back N S f gs a.last rest star (λ id b e. i id b (right_some (region id) (part id) (rest id) b (split.joins id) e)) clear in
      record {
        last = b.last;
        solves = (a.last, a.solves, b.solves);
        same = λ id. b.same id ∙ (ap (λ x. x || is_some (rest id)) (a.same id) ∙ (or_more (uses takes log id) (is_some (part id)) (is_some (rest id)) ∙ ap (λ x. uses takes log id || x) (sym (there_joins (region id) (part id) (rest id) (split.joins id)))));
      }

  unused : (log : List Mark) (block : Region) (o : Option ℕ) → ((id : ℕ) → takes_this o id ≡ is_some (block id)) → IsClear log block → is_unused takes log o ≡ true
  unused log block None t c = refl
  unused log block (Some at) t c =
      elim (bool_cases (uses takes log at)) [
        | inl u ↦ (let n : block at ≡ None = c at u in let y : is_some (block at) ≡ true = sym (t at) ∙ eq-eqb at at refl in let z : is_some (block at) ≡ false = ap is_some n in cc)
        | inr n ↦ ap not n
      ]

  body_back : (k : ℕ) → Back (At (SatAt defs k)) (IsMet (space whole heap defs) k) → (g : Goal) (log : List Mark) (region : Region) → BodyMeets (SatAt defs k) defs g.pred g.at g.args region → IsWithin region → IsClear log region → Solved (IsMet (space whole heap defs) (suc k) g) log region
  body_back k f g log region (by, block, rest, split, meets, star) i c =
      let m : Mark = record { rule = by.place; block = block_for by.rule.block g.at } in
      let within : IsWithin block = λ id b e. i id b (left_some (region id) (block id) (rest id) b (split.joins id) e) in
      let n = named_back structs heap defs fit g by block meets within in
      let clear_block : IsClear log block = λ id u. left_none (region id) (block id) (rest id) (split.joins id) (c id u) in
      let free : is_free takes log m ≡ true = unused log block (takes m) n.takes clear_block in
      let fits_it : fits heap defs g m ≡ true = ap is_some n.named in
      let clear : IsClear (log ++ m ∷ []) rest = λ id u. elim (or_cases (uses takes log id) (takes_this (takes m) id) (sym (uses_more takes log m id) ∙ u)) [
        | inl x ↦ right_none (region id) (block id) (rest id) (split.joins id) (c id x)
        | inr x ↦ apart (region id) (block id) (rest id) (split.joins id) (sym (n.takes id) ∙ x)
      ] in
      let gs = map (goal_of by.names) by.rule.calls in
      let a = all_back (At (SatAt defs k)) (IsMet (space whole heap defs) k) f gs (log ++ m ∷ []) rest (goals_of_star (SatAt defs k) by.names by.rule.calls rest star) (λ id b e. i id b (right_some (region id) (block id) (rest id) b (split.joins id) e)) clear in
      let called : gs ≡ calls heap defs g m = sym (ap calls_of n.named) in
      record {
        last = a.last;
        solves = (m, and_from (fits heap defs g m) (is_free takes log m) fits_it free, along (λ gs. AreMetBy (IsMet (space whole heap defs) k) gs (log ++ m ∷ []) a.last) called a.solves);
        same = λ id. a.same id ∙ (ap (λ x. x || is_some (rest id)) (uses_more takes log m id) ∙ (or_more (uses takes log id) (takes_this (takes m) id) (is_some (rest id))
            ∙ ap (λ x. uses takes log id || x) (ap (λ x. x || is_some (rest id)) (n.takes id) ∙ sym (there_joins (region id) (block id) (rest id) (split.joins id)))));
      }

  pub solved_by_sat : (k : ℕ) → Back (At (SatAt defs k)) (IsMet (space whole heap defs) k)
  solved_by_sat zero g log region h i c = absurd h
  solved_by_sat (suc k) g log region h i c = body_back k (solved_by_sat k) g log region h i c
