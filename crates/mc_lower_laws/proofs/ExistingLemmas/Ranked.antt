-- The functions of a resolved program have ranks where those of its tree have.
use Rattle.std.proofs.Common.{◌≡◌, ◌≤◌, ◌<◌, ◌+◌, ◌++◌, ℕ, zero, suc, Bool, true, false, cond, not, List, [], ◌∷◌, Option, Some, None, map, filter, flat_map, option_map, refl, sym, ap, subst, ◌∙◌, arith, inl, inr, Contains}
use Rattle.std.specs.Option.{option_map_or}
use Rattle.std.specs.List.{position_or_len}
use Rattle.std.specs.Cmp.Lexicographic.{bytes_decides}
use Rattle.std.proofs.lemmas.List.Elements.{Contains-append_left, Contains-append_right, Contains-append_cases}
use Rattle.std.proofs.lemmas.Option.{same_Some, slice_get_cases}
use Rattle.std.specs.Prelude.{slice_get}
use Rattle.mc_flow.specs.declared.defs.rules.Def.{Def}
use Rattle.mc_c_syntax.specs.declared.ast.trees.Base.{Base}
use Rattle.mc_c_syntax.specs.declared.ast.trees.Name.{Name}
use Rattle.mc_c_syntax.specs.Ast.Names.{is_same}
use Rattle.mc_c_syntax.specs.Ast.Trees as tree
use Rattle.mc_c_types.specs.Calls.{CallSite, right_calls as tree_right_calls, maybe_right_calls, simple_calls, start_calls as tree_start_calls, maybe_simple_calls, statement_calls, statements_calls, body_sites, item_sites, call_sites}
use Rattle.mc_c_types.specs.Scopes.{Scope, visible, inside, declare, behind, behind_start}
use Rattle.mc_c_types.specs.Tables.{Tables, Variable, variable_of as declared_variable, is_defined, item_functions, tables_of}
use Rattle.mc_semantics.specs.Resolved.Programs.{Function, Program}
use Rattle.mc_semantics.specs.Resolved.Resolving.{Naming, body_statements, defined_functions, function_number, resolved_right, resolved_action, resolved_items, resolved_start, resolved_simple, resolved_statement, resolved_statements, naming_of, parameter_scope, resolved_function, resolved_program}
use Rattle.mc_lower_laws.specs.Existing.Ranks.{right_calls, value_calls, action_calls, items_calls, start_calls, last_calls, calls_in, all_calls_in, HasRanks}
use Rattle.mc_lower_laws.proofs.ExistingLemmas.Tables.{both_mapped, unmapped_at}
use Rattle.mc_lower_laws.proofs.ScopedLemmas.Lists.{contains_none, mapped, unmapped}

-- ---- what is called
-- the number of the function that a call names
abbrev numbered : Tables → Name → ℕ
numbered t name = function_number t name.text

side_by_side : {X Y : Type 0} (h : X → Y) (xs ys : List X) (us vs : List Y) → us ≡ map h xs → vs ≡ map h ys → us ++ vs ≡ map h (xs ++ ys)
side_by_side h xs ys us vs first second = ap (λ l. l ++ vs) first ∙ ap (λ l. map h xs ++ l) second ∙ both_mapped h xs ys

right_named : (n : Naming) (vs : List Variable) (r : tree.Right) → right_calls (resolved_right n vs r) ≡ map (numbered n.tables) (tree_right_calls r)
right_named n vs (tree.expression e) = refl
right_named n vs (tree.result_of c) = refl
right_named n vs (tree.allocation m) = refl

value_named : (n : Naming) (vs : List Variable) (r : Option tree.Right) → value_calls (option_map (resolved_right n vs) r) ≡ map (numbered n.tables) (maybe_right_calls r)
value_named n vs None = refl
value_named n vs (Some r) = right_named n vs r

action_named : (n : Naming) (vs : List Variable) (x : tree.SimpleTree) → action_calls (resolved_action n vs x) ≡ map (numbered n.tables) (simple_calls x)
action_named n vs (tree.assign l r) = right_named n vs r
action_named n vs (tree.add l e) = refl
action_named n vs (tree.subtract l e) = refl
action_named n vs (tree.increment l) = refl
action_named n vs (tree.decrement l) = refl
action_named n vs (tree.increment_first p l) = refl
action_named n vs (tree.decrement_first p l) = refl
action_named n vs (tree.call c) = refl

items_named : (n : Naming) (s : Scope) (base : Base) (items : List tree.InitialTree) → items_calls (resolved_items n s base items) ≡ map (numbered n.tables) (flat_map (λ item. maybe_right_calls item.value) items)
items_named n s base [] = refl
items_named n s base (item ∷ items) =
    let next : Scope = declare s (declared_variable n.tables base item.declarator) in
    side_by_side (numbered n.tables) (maybe_right_calls item.value) (flat_map (λ other. maybe_right_calls other.value) items)
    (value_calls (option_map (resolved_right n (visible next)) item.value)) (items_calls (resolved_items n next base items))
    (value_named n (visible next) item.value) (items_named n next base items)

start_named : (n : Naming) (s : Scope) (x : tree.Start) → start_calls (resolved_start n s x) ≡ map (numbered n.tables) (tree_start_calls x)
start_named n s tree.nothing = refl
start_named n s (tree.declares d) = items_named n (inside s) d.base d.items
start_named n s (tree.performs x) = action_named n (visible s) x

last_named : (n : Naming) (vs : List Variable) (x : Option tree.SimpleTree) → last_calls (option_map (resolved_simple n vs) x) ≡ map (numbered n.tables) (maybe_simple_calls x)
last_named n vs None = refl
last_named n vs (Some x) = action_named n vs x

mutual
  statement_named : (n : Naming) (s : Scope) (a : tree.Stmt) → calls_in (resolved_statement n s a) ≡ map (numbered n.tables) (statement_calls a)
  statement_named n s (tree.declaration d) = items_named n s d.base d.items
  statement_named n s (tree.block p ss) = statements_named n (inside s) ss
  statement_named n s (tree.empty p) = refl
  statement_named n s (tree.simple x) = action_named n (visible s) x
  statement_named n s (tree.free p e) = refl
  statement_named n s (tree.assert p c) = refl
  statement_named n s (tree.assume p c) = refl
  statement_named n s (tree.assume_shape p predicate x args) = refl
  statement_named n s (tree.assert_shape p predicate a args) = refl
  statement_named n s (tree.assert_empty p) = refl
  statement_named n s (tree.if_only p c a) = statement_named n s a
  statement_named n s (tree.if_else p c a b) =
      side_by_side (numbered n.tables) (statement_calls a) (statement_calls b) (calls_in (resolved_statement n s a)) (calls_in (resolved_statement n (behind n.tables s a) b))
      (statement_named n s a) (statement_named n (behind n.tables s a) b)
  statement_named n s (tree.while_loop p c a) = statement_named n s a
  statement_named n s (tree.do_loop p a c) = statement_named n s a
  statement_named n s (tree.for_loop h a) =
      let next : Scope = behind_start n.tables s h.start in
      side_by_side (numbered n.tables) (tree_start_calls h.start ++ maybe_simple_calls h.last) (statement_calls a)
      (start_calls (resolved_start n s h.start) ++ last_calls (option_map (resolved_simple n (visible next)) h.last)) (calls_in (resolved_statement n next a))
      (side_by_side (numbered n.tables) (tree_start_calls h.start) (maybe_simple_calls h.last) (start_calls (resolved_start n s h.start)) (last_calls (option_map (resolved_simple n (visible next)) h.last))
      (start_named n s h.start) (last_named n (visible next) h.last))
      (statement_named n next a)
  statement_named n s (tree.break_loop p) = refl
  statement_named n s (tree.continue_loop p) = refl
  statement_named n s (tree.returns p r) = value_named n (visible s) r

  statements_named : (n : Naming) (s : Scope) (ss : tree.Stmts) → all_calls_in (resolved_statements n s ss) ≡ map (numbered n.tables) (statements_calls ss)
  statements_named n s tree.no_more = refl
  statements_named n s (tree.then a more) =
      side_by_side (numbered n.tables) (statement_calls a) (statements_calls more) (calls_in (resolved_statement n s a)) (all_calls_in (resolved_statements n (behind n.tables s a) more))
      (statement_named n s a) (statements_named n (behind n.tables s a) more)

-- ---- functions and their calls
-- a function that is found by its name has that name
found_named : (name : List ℕ) (fs : List tree.FunctionTree) (g : tree.FunctionTree) → slice_get fs (position_or_len (λ f. is_same f.name.text name) fs) ≡ Some g → g.name.text ≡ name
found_named name [] g is = absurd (cc is)
found_named name (f ∷ fs) g is = at (is_same f.name.text name) (position_or_len (λ h. is_same h.name.text name) fs) refl (λ there. found_named name fs g there) is
  where
    at : (b : Bool) (k : ℕ) → is_same f.name.text name ≡ b → (slice_get fs k ≡ Some g → g.name.text ≡ name) → slice_get (f ∷ fs) (cond (not b) (1 + k) 0) ≡ Some g → g.name.text ≡ name
    at true k same more is = ap (λ (h : tree.FunctionTree). h.name.text) (sym (same_Some f g is)) ∙ (bytes_decides f.name.text name).0 same
    at false k same more is = let next : 1 + k ≡ suc k = omega arith in more (sym (ap (λ i. slice_get (f ∷ fs) i) next) ∙ is)

kept : (b : Bool) (f g : tree.FunctionTree) (fs : List tree.FunctionTree) → Contains (cond b (f ∷ fs) fs) g → Contains (f ∷ fs) g
kept true f g fs among = among
kept false f g fs (k, within, is) = (suc k, omega (arith, within), is)

more : (f g : tree.FunctionTree) (fs gs : List tree.FunctionTree) → (Contains fs g → Contains gs g) → Contains (f ∷ fs) g → Contains (f ∷ gs) g
more f g fs gs rest (zero, within, is) = (zero, omega arith, is)
more f g fs gs rest (suc k, within, is) = let there = rest (k, omega (arith, within), is) in (suc there.0, omega (arith, there.1), there.2)

unfiltered : (fs : List tree.FunctionTree) (g : tree.FunctionTree) → Contains (filter is_defined fs) g → Contains fs g
unfiltered [] g among = among
unfiltered (f ∷ fs) g among = more f g (filter is_defined fs) fs (unfiltered fs g) (kept (is_defined f) f g (filter is_defined fs) among)

there_in : {X : Type 0} (xs : List X) (i : ℕ) (x : X) → slice_get xs i ≡ Some x → Contains xs x
there_in [] i x is = absurd (cc is)
there_in (h ∷ xs) zero x is = (zero, omega arith, same_Some h x is)
there_in (h ∷ xs) (suc i) x is = let there = there_in xs i x is in (suc there.0, omega (arith, there.1), there.2)

abbrev site : tree.FunctionTree → Name → CallSite
site f name = record { caller = f.name.text; callee = name }

body_site : (f : tree.FunctionTree) (body : Option tree.BodyTree) (name : Name) → Contains (statements_calls (option_map_or (λ b. tree.stmts_of b.statements) body tree.no_more)) name → Contains (body_sites f.name.text body) (site f name)
body_site f None name among = absurd (contains_none name among)
body_site f (Some body) name among = mapped (λ n. record { caller = f.name.text; callee = n }) (statements_calls (tree.stmts_of body.statements)) name among

item_site : (item : tree.ItemTree) (f : tree.FunctionTree) (name : Name) → Contains (item_functions item) f → Contains (statements_calls (body_statements f)) name → Contains (item_sites item) (site f name)
item_site (tree.structure s) f name among calls = absurd (contains_none f among)
item_site (tree.typedef d) f name among calls = absurd (contains_none f among)
item_site (tree.function g) f name (zero, within, is) calls =
    subst (λ (h : tree.FunctionTree). Contains (body_sites g.name.text g.body) (site h name)) is
    (body_site g g.body name (subst (λ (h : tree.FunctionTree). Contains (statements_calls (body_statements h)) name) (sym is) calls))
item_site (tree.function g) f name (suc k, within, is) calls = absurd (omega (arith, within))

unit_site : (unit : List tree.ItemTree) (f : tree.FunctionTree) (name : Name) → Contains (flat_map item_functions unit) f → Contains (statements_calls (body_statements f)) name → Contains (flat_map item_sites unit) (site f name)
unit_site [] f name among calls = absurd (contains_none f among)
unit_site (item ∷ unit) f name among calls =
    elim (Contains-append_cases (item_functions item) (flat_map item_functions unit) f among) [
      | inl here ↦ Contains-append_left (item_sites item) (flat_map item_sites unit) (site f name) (item_site item f name here calls)
      | inr there ↦ Contains-append_right (item_sites item) (flat_map item_sites unit) (site f name) (unit_site unit f name there calls)
    ]

-- the rank of a function by its number
abbrev rank_at : (List ℕ → ℕ) → Program → ℕ → ℕ
rank_at rank p i = option_map_or (λ (f : Function). rank f.name) (slice_get p.functions i) 0

rank_of : (rank : List ℕ → ℕ) (p : Program) (i : ℕ) (f : Function) → slice_get p.functions i ≡ Some f → rank_at rank p i ≡ rank f.name
rank_of rank p i f is = ap (λ o. option_map_or (λ (g : Function). rank g.name) o 0) is

-- what is called has no higher rank than its name
called_low : (rank : List ℕ → ℕ) (t : Tables) (defs : List Def) (entry name : List ℕ) → rank_at rank (resolved_program t defs entry) (function_number t name) ≤ rank name
called_low rank t defs entry name =
    let p : Program = resolved_program t defs entry in
    elim ((slice_get_cases p.functions (function_number t name)).1) [
      | inl there ↦
          let (f, within, is, same) = there in
          let (g, g_is, g_same) = unmapped_at (resolved_function t defs) (defined_functions t) (function_number t name) f is in
          let named : f.name ≡ name = ap (λ (h : Function). h.name) (sym g_same) ∙ found_named name (defined_functions t) g g_is in
          let one : rank_at rank p (function_number t name) ≡ rank f.name = rank_of rank p (function_number t name) f is in
          let two : rank f.name ≡ rank name = ap rank named in
          omega (arith, one, two)
      | inr past ↦
          let none : rank_at rank p (function_number t name) ≡ 0 = ap (λ o. option_map_or (λ (g : Function). rank g.name) o 0) past.1 in
          omega (arith, none)
    ]

pub ranked : (unit : tree.UnitTree) (defs : List Def) (entry : List ℕ) (rank : List ℕ → ℕ) → ((s : CallSite) → Contains (call_sites unit) s → rank s.callee.text < rank s.caller) → HasRanks (resolved_program (tables_of unit) defs entry)
ranked unit defs entry rank falls = record { rank = rank_at rank (resolved_program (tables_of unit) defs entry); falls = each }
  where
    each : (n m : ℕ) (f : Function) → slice_get (map (resolved_function (tables_of unit) defs) (defined_functions (tables_of unit))) n ≡ Some f → Contains (all_calls_in f.body) m
        → rank_at rank (resolved_program (tables_of unit) defs entry) m < rank_at rank (resolved_program (tables_of unit) defs entry) n
    each n m f is among =
        let t : Tables = tables_of unit in
        let p : Program = resolved_program t defs entry in
        let (g, g_is, same) = unmapped_at (resolved_function t defs) (defined_functions t) n f is in
        let calls : Contains (all_calls_in (resolved_statements (naming_of t defs g) (parameter_scope t g) (body_statements g))) m = subst (λ (h : Function). Contains (all_calls_in h.body) m) (sym same) among in
        let numbers : Contains (map (numbered t) (statements_calls (body_statements g))) m = subst (λ xs. Contains xs m) (statements_named (naming_of t defs g) (parameter_scope t g) (body_statements g)) calls in
        let (name, inside_it, number) = unmapped (numbered t) (statements_calls (body_statements g)) m numbers in
        let made : Contains (flat_map item_functions unit) g = unfiltered (flat_map item_functions unit) g (there_in (defined_functions t) n g g_is) in
        let below = falls (site g name) (unit_site unit g name made inside_it) in
        let low : rank_at rank p (function_number t name.text) ≤ rank name.text = called_low rank t defs entry name.text in
        let at : rank_at rank p m ≡ rank_at rank p (function_number t name.text) = ap (rank_at rank p) (sym number) in
        let own : rank_at rank p n ≡ rank f.name = rank_of rank p n f is in
        let named : rank f.name ≡ rank g.name.text = ap (λ (h : Function). rank h.name) (sym same) in
        omega (arith, below, low, at, own, named)
