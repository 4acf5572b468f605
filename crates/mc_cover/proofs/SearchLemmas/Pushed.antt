-- Goals pushed one list before another.
use Rattle.std.proofs.Common.{◌≡◌, ◌<◌, ◌≤◌, ◌+◌, ◌&&◌, ℕ, zero, suc, Bool, true, false, not, subst, Some, None, slice_get, option_map, reverse, length-append, Option, List, [], ◌∷◌, ◌++◌, length, take, drop, map, get_or, refl, sym, ◌∙◌, ap, arith, append_assoc}
use Rattle.mc_flow.specs.declared.defs.rules.Call.{Call}
use Rattle.mc_state.specs.declared.terms.Term.{Term}
use Rattle.mc_shape_search.specs.declared.tries.Cell.{Cell}
use Rattle.mc_shape_search.specs.Tries.Stack.{Grows, Pushes, goals_at}
use Rattle.mc_cover.specs.declared.goals.Goal.{Goal}
use Rattle.mc_cover.specs.Goals.{Stop}
use Rattle.std.specs.Prelude.{◌==◌, is_some, option_and_then, MatchOption, if◌then◌else◌}
use Rattle.std.proofs.lemmas.List.{length-map}
use Rattle.mc_base.specs.declared.ids.EdgeId.{EdgeId}
use Rattle.mc_base.specs.declared.ids.NodeId.{NodeId}
use Rattle.mc_base.specs.declared.ids.PredId.{PredId}
use Rattle.mc_flow.specs.declared.defs.rules.Def.{Def}
use Rattle.mc_flow.specs.declared.defs.rules.Rule.{Rule}
use Rattle.mc_state.specs.Lists.{on_some}
use Rattle.mc_state.specs.Terms.{plain}
use Rattle.mc_cover.specs.Goals.{Setting}
use Rattle.mc_cover.specs.Marks.{Named, goal_of, goals_to, named_by, rule_at, has_call, calls_of_rule, calls_of_rule_to}
use Rattle.mc_cover.specs.Search.Pushing.{IsPushed}

-- goals are pushed before others
pub pushes_on : (first more : List Goal) (a b c : List (Cell Goal)) (rest mid top : ℕ) → Pushes more a b rest mid → Pushes first b c mid top → Pushes (first ++ more) a c rest top
pushes_on first more a b c rest mid top p q =
    record {
      grows = record {
        arena = q.grows.arena;
        more = (let m = p.grows.more in let n = q.grows.more in omega arith);
        same = λ k h. q.grows.same k (let m = p.grows.more in omega arith) ∙ p.grows.same k h;
      };
      within = q.within;
      goals = q.goals ∙ (ap (λ gs. first ++ gs) p.goals ∙ sym (append_assoc first more (goals_at a rest)));
    }

-- what calls ask for, where one of them goes on to the stop, in three parts
pub in_parts : (names : List Term) (stop : Option Stop) (place next : ℕ) (calls : List Call) (d : Call) → place < length calls → next ≡ place + 1
    → goals_to names stop place calls ≡ map (goal_of names None) (take place calls) ++ (goal_of names stop (get_or calls place d) ∷ map (goal_of names None) (drop next calls))
in_parts names stop place next [] d l e = absurd (omega arith)
in_parts names stop zero zero (c ∷ calls) d l e = absurd (omega arith)
in_parts names stop zero (suc next) (c ∷ calls) d l e =
    let z : zero ≡ next = omega arith in
    ap (λ n. goal_of names stop c ∷ map (goal_of names None) (drop n calls)) z
in_parts names stop (suc place) zero (c ∷ calls) d l e = absurd (omega arith)
in_parts names stop (suc place) (suc next) (c ∷ calls) d l e =
    ap (λ gs. goal_of names None c ∷ gs) (in_parts names stop place next calls d (omega arith) (omega arith))

pub pushes_to : (names : List Term) (stop : Option Stop) (place : ℕ) (calls first last : List Call) (call : Call) (own : Goal) (copied : Option Stop) (a b c e : List (Cell Goal)) (rest behind here top : ℕ) → place < length calls → call ≡ get_or calls place call
    → first ≡ take place calls → last ≡ drop (place + 1) calls → own ≡ goal_of names copied call → copied ≡ stop
    → Pushes (map (goal_of names None) last) a b rest behind → Pushes (own ∷ []) b c behind here → Pushes (map (goal_of names None) first) c e here top
    → Pushes (goals_to names stop place calls) a e rest top
pushes_to names stop place calls first last call own copied a b c e rest behind here top l is f g o s p q r =
    let is_own : own ≡ goal_of names stop call = o ∙ ap (λ x. goal_of names x call) s in
    let p' = subst (λ (x : List Call). Pushes (map (goal_of names None) x) a b rest behind) g p in
    let q' = subst (λ (x : Goal). Pushes (x ∷ []) b c behind here) is_own q in
    let r' = subst (λ (x : List Call). Pushes (map (goal_of names None) x) c e here top) f r in
    let before = map (goal_of names None) (take place calls) in
    let after = map (goal_of names None) (drop (place + 1) calls) in
    let both = pushes_on (goal_of names stop call ∷ []) after a b c rest behind here p' q' in
    let all = pushes_on before (goal_of names stop call ∷ after) a c e rest here top both r' in
    let parts : goals_to names stop place calls ≡ before ++ (goal_of names stop call ∷ after) =
    in_parts names stop place (place + 1) calls call l refl ∙ ap (λ (x : Call). before ++ (goal_of names stop x ∷ after)) (sym is) in
    subst (λ (x : List Goal). Pushes x a e rest top) (sym parts) all

-- what a block adds to names
pub grown : (o : Option (List NodeId)) (old new : List Term) (there : Bool) → there ≡ true → (if there then Some new else None) ≡ option_map (λ nodes. old ++ map plain nodes) o → (nodes : List NodeId) × (o ≡ Some nodes) × (new ≡ old ++ map plain nodes)
grown None old new true t e = absurd (cc e)
grown (Some nodes) old new true t e = (nodes, refl, cc)
grown o old new false t e = absurd (cc t)

pub held_count : (old new : List Term) (nodes : List NodeId) → new ≡ old ++ map plain nodes → length new ≡ length old + length nodes
held_count old new nodes e = ap length e ∙ (length-append old (map plain nodes) ∙ ap (λ n. length old + n) (length-map nodes plain))

-- ---- rules
pub none_by : {A B : Type 0} (f : A → B) (o : Option A) (p : Option B) → o ≡ None → option_map f o ≡ p → p ≡ None
none_by f o p e h = sym h ∙ ap (option_map f) e

pub some_by : {A B : Type 0} (f : A → B) (o : Option A) (p : Option B) (v : A) → o ≡ Some v → option_map f o ≡ p → p ≡ Some (f v)
some_by f o p v e h = sym h ∙ ap (option_map f) e

pub rule_pushed : (p : Option Named) (rule : Rule) (names given : List Term) (calls : List Call) (a b : List (Cell Goal)) (rest top : ℕ) → p ≡ Some (record { rule = rule; names = names }) → given ≡ names → calls ≡ rule.calls
    → Pushes (map (goal_of given None) calls) a b rest top → (is_some p ≡ true) × Pushes (calls_of_rule p) a b rest top
rule_pushed p rule names given calls a b rest top e n q h =
    let one = subst (λ (x : List Term). Pushes (map (goal_of x None) calls) a b rest top) n h in
    let two = subst (λ (x : List Call). Pushes (map (goal_of names None) x) a b rest top) q one in
    (ap is_some e, subst (λ o. Pushes (calls_of_rule o) a b rest top) (sym e) two)

pub call_pushed : (p : Option Named) (pred : PredId) (stop : Option Stop) (place : ℕ) (rule : Rule) (names given : List Term) (calls : List Call) (a b : List (Cell Goal)) (rest top : ℕ) → p ≡ Some (record { rule = rule; names = names }) → given ≡ names → calls ≡ rule.calls
    → on_some (λ (c : Call). c.pred.0 == pred.0) (slice_get rule.calls place) ≡ true
    → Pushes (goals_to given stop place calls) a b rest top → (on_some (has_call pred place) p ≡ true) × Pushes (calls_of_rule_to stop place p) a b rest top
call_pushed p pred stop place rule names given calls a b rest top e n q is h =
    let one = subst (λ (x : List Term). Pushes (goals_to x stop place calls) a b rest top) n h in
    let two = subst (λ (x : List Call). Pushes (goals_to names stop place x) a b rest top) q one in
    (ap (on_some (has_call pred place)) e ∙ is, subst (λ o. Pushes (calls_of_rule_to stop place o) a b rest top) (sym e) two)

at_rule : (w : Setting) (g : Goal) (place : ℕ) (block : Option EdgeId) (def : Def) (rule : Rule) → Some def ≡ slice_get w.defs g.pred.0 → Some rule ≡ slice_get def.rules place → named_by w g block def rule ≡ rule_at w g place block
at_rule w g place block def rule d r =
    ap (λ o. option_and_then (named_by w g block def) o) r ∙ ap (λ o. option_and_then (λ (x : Def). option_and_then (named_by w g block x) (slice_get x.rules place)) o) d

pub by_rule : (w : Setting) (g : Goal) (place : ℕ) (block : Option EdgeId) (def : Def) (rule : Rule) (old new : List (Cell Goal)) (rest : ℕ) (top : Option ℕ) → Some def ≡ slice_get w.defs g.pred.0 → Some rule ≡ slice_get def.rules place → false ≡ is_some g.stop
    → IsPushed (is_some (named_by w g block def rule)) (calls_of_rule (named_by w g block def rule)) old new rest top
    → IsPushed (not (is_some g.stop) && is_some (rule_at w g place block)) (calls_of_rule (rule_at w g place block)) old new rest top
by_rule w g place block def rule old new rest top d r s h =
    subst (λ b. IsPushed (not b && is_some (rule_at w g place block)) (calls_of_rule (rule_at w g place block)) old new rest top) s
    (subst (λ o. IsPushed (is_some o) (calls_of_rule o) old new rest top) (at_rule w g place block def rule d r) h)

pub by_call : (w : Setting) (g : Goal) (place call : ℕ) (block : Option EdgeId) (def : Def) (rule : Rule) (old new : List (Cell Goal)) (rest : ℕ) (top : Option ℕ) → Some def ≡ slice_get w.defs g.pred.0 → Some rule ≡ slice_get def.rules place → true ≡ is_some g.stop
    → IsPushed (on_some (has_call g.pred call) (named_by w g block def rule)) (calls_of_rule_to g.stop call (named_by w g block def rule)) old new rest top
    → IsPushed (is_some g.stop && on_some (has_call g.pred call) (rule_at w g place block)) (calls_of_rule_to g.stop call (rule_at w g place block)) old new rest top
by_call w g place call block def rule old new rest top d r s h =
    subst (λ b. IsPushed (b && on_some (has_call g.pred call) (rule_at w g place block)) (calls_of_rule_to g.stop call (rule_at w g place block)) old new rest top) s
    (subst (λ o. IsPushed (on_some (has_call g.pred call) o) (calls_of_rule_to g.stop call o) old new rest top) (at_rule w g place block def rule d r) h)

-- what is pushed, in parts
pub pushed_goals : (fits : Bool) (calls : List Goal) (old new : List (Cell Goal)) (rest : ℕ) (top : Option ℕ) → IsPushed fits calls old new rest top → MatchOption top (Unit {0}) (λ p. Pushes calls (reverse old) (reverse new) rest p)
pushed_goals fits calls old new rest None h = tt
pushed_goals fits calls old new rest (Some p) h = h.1
