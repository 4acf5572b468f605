-- Statements without faults write what is in scope.
use Rattle.std.proofs.Common.{◌≡◌, ◌<◌, ⊎_elim, ℕ, List, [], ◌∷◌, ◌++◌, Option, Some, None, flat_map, length, option_map, sym, subst, Contains}
use Rattle.std.proofs.lemmas.List.Elements.{Contains-append_left, Contains-append_right, Contains-append_cases}
use Rattle.mc_c_syntax.specs.declared.ast.trees.Base.{Base}
use Rattle.mc_c_syntax.specs.Ast.Trees as tree
use Rattle.mc_c_types.specs.Tables.{Variable, variable_of as declared_variable}
use Rattle.mc_c_types.specs.Scopes.{Scope, visible, inside, declare, behind, behind_start, behind_declaration}
use Rattle.mc_c_types.specs.Faults.{Context, looping, statement_faults, statements_faults, condition_faults, head_faults, start_faults, maybe_condition_faults, maybe_simple_faults, variable_faults, shape_argument_faults}
use Rattle.mc_c_types.specs.declared.faults.Fault.{Fault}
use Rattle.mc_semantics.specs.Moves.{block_variables}
use Rattle.mc_lower_spec.specs.Scopes.{AreNew, DeclareIn, StartsIn, FinishesIn, IsScopedIn, AreScopedIn}
use Rattle.mc_semantics.specs.Resolved.Resolving.{Naming, start_variables, statement_variables, statements_variables, number_in, numbers_in, resolved_items, resolved_start, resolved_simple, resolved_statement, resolved_statements}
use Rattle.mc_semantics.specs.Resolved.Running.{naming}
use Rattle.mc_flow.specs.declared.defs.rules.Def.{Def}
use Rattle.mc_lower_laws.proofs.ScopedLemmas.Lists.{Apart, apart_left, apart_right, apart_both, contains_none, contains_head, number_left, number_right, number_cases, numbers_append}
use Rattle.mc_lower_laws.proofs.ScopedLemmas.Loose.{loose_items, loose_start, loose, loose_row, with_own, behind_is, inner_is, head_is, start_among, among, row_among}
use Rattle.mc_lower_laws.proofs.ScopedLemmas.Faultless.{none_left, none_right, AreIn, variable_in, action_in}

-- ---- scopes of numbers
both_in : (locals : List Variable) (scope : List ℕ) (xs ys : List Variable) → AreIn locals scope xs → AreIn locals scope ys → AreIn locals scope (xs ++ ys)
both_in locals scope xs ys first second x there = ⊎_elim (λ l. first x l) (λ r. second x r) (number_cases locals xs ys x there)

left_of : (locals : List Variable) (scope : List ℕ) (xs ys : List Variable) → AreIn locals scope (xs ++ ys) → AreIn locals scope xs
left_of locals scope xs ys are x there = are x (number_left locals xs ys x there)

right_of : (locals : List Variable) (scope : List ℕ) (xs ys : List Variable) → AreIn locals scope (xs ++ ys) → AreIn locals scope ys
right_of locals scope xs ys are x there = are x (number_right locals xs ys x there)

wider : (locals : List Variable) (more scope : List ℕ) (vs : List Variable) → AreIn locals scope vs → AreIn locals (more ++ scope) vs
wider locals more scope vs are x there = let one = are x there in (one.0, Contains-append_right more scope x one.1)

headed : (locals : List Variable) (scope : List ℕ) (heads vs own : List Variable) → AreIn locals scope (heads ++ own) → AreIn locals scope vs → AreIn locals scope (heads ++ (vs ++ own))
headed locals scope heads vs own seen new =
    both_in locals scope heads (vs ++ own) (left_of locals scope heads own seen) (both_in locals scope vs own new (right_of locals scope heads own seen))

grouped : (locals : List Variable) (scope : List ℕ) (vs heads own : List Variable) → AreIn locals scope vs → AreIn locals scope (heads ++ own) → AreIn locals scope ((vs ++ heads) ++ own)
grouped locals scope vs heads own new seen =
    both_in locals scope (vs ++ heads) own (both_in locals scope vs heads new (left_of locals scope heads own seen)) (right_of locals scope heads own seen)

pub owned_in : (locals : List Variable) (scope : List ℕ) (s : Scope) (vs : List Variable) → AreIn locals scope (visible s) → AreIn locals scope vs
    → AreIn locals scope (visible (with_own s vs))
owned_in locals scope s vs seen new =
    both_in locals scope (s.heads ++ (vs ++ s.own)) s.outer
    (headed locals scope s.heads vs s.own (left_of locals scope (s.heads ++ s.own) s.outer seen) new)
    (right_of locals scope (s.heads ++ s.own) s.outer seen)

-- ---- what is declared
-- the variables that are declared differ, and are the function's
pub record AreDeclared (locals vs : List Variable) : Type 0 where
  pub apart : Apart (numbers_in locals vs)
  pub known : (x : ℕ) → Contains (numbers_in locals vs) x → x < length locals

pub first_declared : (locals xs ys : List Variable) → AreDeclared locals (xs ++ ys) → AreDeclared locals xs
first_declared locals xs ys d = record {
  apart = apart_left (numbers_in locals xs) (numbers_in locals ys) (subst Apart (numbers_append locals xs ys) d.apart);
  known = λ x there. d.known x (number_left locals xs ys x there);
}

pub second_declared : (locals xs ys : List Variable) → AreDeclared locals (xs ++ ys) → AreDeclared locals ys
second_declared locals xs ys d = record {
  apart = apart_right (numbers_in locals xs) (numbers_in locals ys) (subst Apart (numbers_append locals xs ys) d.apart);
  known = λ x there. d.known x (number_right locals xs ys x there);
}

pub not_both : (locals xs ys : List Variable) (x : ℕ) → AreDeclared locals (xs ++ ys) → Contains (numbers_in locals xs) x → Contains (numbers_in locals ys) x → ⊥
not_both locals xs ys x d first second =
    apart_both (numbers_in locals xs) (numbers_in locals ys) x (subst Apart (numbers_append locals xs ys) d.apart) first second

-- of the variables that are declared only these are in scope already
abbrev pub AreFresh : List Variable → List ℕ → List Variable → List Variable → Type 0
AreFresh locals scope declared except = (x : ℕ) → Contains (numbers_in locals declared) x → Contains scope x → Contains (numbers_in locals except) x

-- ---- declarations
items_in : (n : Naming) (scope : List ℕ) (s : Scope) (base : Base) (items : List tree.InitialTree) → AreIn n.locals scope (loose_items n.tables base items)
    → DeclareIn (length n.locals) scope (resolved_items n s base items)
items_in n scope s base [] are = tt
items_in n scope s base (item ∷ items) are =
    let v : Variable = declared_variable n.tables base item.declarator in (
      are (number_in n.locals v.place) (number_right n.locals (loose_items n.tables base items) (v ∷ []) (number_in n.locals v.place) (contains_head (number_in n.locals v.place) [])),
      items_in n scope (declare s v) base items (left_of n.locals scope (loose_items n.tables base items) (v ∷ []) are),
    )

start_in : (n : Naming) (scope : List ℕ) (s : Scope) (start : tree.Start) → AreIn n.locals scope (visible s) → AreIn n.locals scope (loose_start n.tables start)
    → start_faults n.tables s start ≡ [] → StartsIn (length n.locals) scope (resolved_start n s start)
start_in n scope s tree.nothing seen are e = tt
start_in n scope s (tree.declares d) seen are e = items_in n scope (inside s) d.base d.items are
start_in n scope s (tree.performs x) seen are e = action_in n n.tables scope (visible s) x seen e

last_in : (n : Naming) (scope : List ℕ) (vs : List Variable) (x : Option tree.SimpleTree) → AreIn n.locals scope vs → maybe_simple_faults n.tables vs x ≡ []
    → FinishesIn (length n.locals) scope (option_map (resolved_simple n vs) x)
last_in n scope vs None are e = tt
last_in n scope vs (Some x) are e = action_in n n.tables scope vs x are e

-- ---- scopes after
behind_in : (n : Naming) (scope : List ℕ) (s : Scope) (a : tree.Stmt) → AreIn n.locals scope (visible s) → AreIn n.locals scope (loose n.tables a)
    → AreIn n.locals scope (visible (behind n.tables s a))
behind_in n scope s a seen new =
    let P : Scope → Type 0 = λ r. AreIn n.locals scope (visible r) in
    subst P (sym (behind_is n.tables s a)) (owned_in n.locals scope s (loose n.tables a) seen new)

start_behind_in : (n : Naming) (scope : List ℕ) (s : Scope) (start : tree.Start) → AreIn n.locals scope (visible s) → AreIn n.locals scope (loose_start n.tables start)
    → AreIn n.locals scope (visible (behind_start n.tables s start))
start_behind_in n scope s tree.nothing seen new = seen
start_behind_in n scope s (tree.declares d) seen new =
    let P : List Variable → Type 0 = λ vs. AreIn n.locals scope vs in
    let made : AreIn n.locals scope (behind_declaration n.tables (inside s) d).own = subst P (sym (head_is n.tables s (tree.declares d))) new in
    both_in n.locals scope ((behind_declaration n.tables (inside s) d).own ++ s.heads ++ s.own) s.outer
    (grouped n.locals scope (behind_declaration n.tables (inside s) d).own s.heads s.own made (left_of n.locals scope (s.heads ++ s.own) s.outer seen))
    (right_of n.locals scope (s.heads ++ s.own) s.outer seen)
start_behind_in n scope s (tree.performs x) seen new = seen

-- ---- a block, and the head of a `for`
-- the variables that a part declares itself are in scope there
pub own_in : (locals : List Variable) (scope : List ℕ) (vs declared : List Variable) → ((x : ℕ) → Contains (numbers_in locals vs) x → Contains (numbers_in locals declared) x)
    → AreDeclared locals declared → AreIn locals (numbers_in locals vs ++ scope) vs
own_in locals scope vs declared among d x there = (d.known x (among x there), Contains-append_left (numbers_in locals vs) scope x there)

block_fresh : (n : Naming) (scope : List ℕ) (ss : tree.Stmts) → AreFresh n.locals scope (statements_variables n.tables ss) []
    → AreFresh n.locals (numbers_in n.locals (loose_row n.tables ss) ++ scope) (statements_variables n.tables ss) (loose_row n.tables ss)
block_fresh n scope ss fresh x declared there =
    ⊎_elim (λ own. own) (λ outer. absurd (contains_none x (fresh x declared outer)))
    (Contains-append_cases (numbers_in n.locals (loose_row n.tables ss)) scope x there)

for_new : (n : Naming) (scope : List ℕ) (start : tree.Start) (a : tree.Stmt) → AreDeclared n.locals (start_variables n.tables start ++ statement_variables n.tables a)
    → AreFresh n.locals scope (start_variables n.tables start ++ statement_variables n.tables a) (loose n.tables a)
    → AreNew (numbers_in n.locals (loose_start n.tables start)) scope
for_new n scope start a d fresh x there outer =
    let made : Contains (numbers_in n.locals (start_variables n.tables start)) x = start_among n.locals n.tables start x there in
    not_both n.locals (start_variables n.tables start) (statement_variables n.tables a) x d made
    (among n.locals n.tables a x (fresh x (number_left n.locals (start_variables n.tables start) (statement_variables n.tables a) x made) outer))

for_fresh : (n : Naming) (scope : List ℕ) (start : tree.Start) (a : tree.Stmt) → AreDeclared n.locals (start_variables n.tables start ++ statement_variables n.tables a)
    → AreFresh n.locals scope (start_variables n.tables start ++ statement_variables n.tables a) (loose n.tables a)
    → AreFresh n.locals (numbers_in n.locals (loose_start n.tables start) ++ scope) (statement_variables n.tables a) (loose n.tables a)
for_fresh n scope start a d fresh x declared there =
    ⊎_elim
    (λ head. absurd (not_both n.locals (start_variables n.tables start) (statement_variables n.tables a) x d (start_among n.locals n.tables start x head) declared))
    (λ outer. fresh x (number_right n.locals (start_variables n.tables start) (statement_variables n.tables a) x declared) outer)
    (Contains-append_cases (numbers_in n.locals (loose_start n.tables start)) scope x there)

-- ---- two parts, one after the other
first_fresh : (locals : List Variable) (scope : List ℕ) (xs ys mine other : List Variable) → ((x : ℕ) → Contains (numbers_in locals other) x → Contains (numbers_in locals ys) x)
    → AreDeclared locals (xs ++ ys) → AreFresh locals scope (xs ++ ys) (other ++ mine) → AreFresh locals scope xs mine
first_fresh locals scope xs ys mine other from d fresh x declared there =
    ⊎_elim (λ wrong. absurd (not_both locals xs ys x d declared (from x wrong))) (λ right. right)
    (number_cases locals other mine x (fresh x (number_left locals xs ys x declared) there))

second_fresh : (locals : List Variable) (scope : List ℕ) (xs ys mine other : List Variable) → ((x : ℕ) → Contains (numbers_in locals mine) x → Contains (numbers_in locals xs) x)
    → AreDeclared locals (xs ++ ys) → AreFresh locals scope (xs ++ ys) (other ++ mine) → AreFresh locals scope ys other
second_fresh locals scope xs ys mine other from d fresh x declared there =
    ⊎_elim (λ right. right) (λ wrong. absurd (not_both locals xs ys x d (from x wrong) declared))
    (number_cases locals other mine x (fresh x (number_right locals xs ys x declared) there))

-- ---- statements
-- what is known where a statement stands: what is visible and what it declares in the block around are in scope, and of what it
-- declares nothing else is
pub record Stands (n : Naming) (scope : List ℕ) (s : Scope) (declared own : List Variable) : Type 0 where
  pub seen : AreIn n.locals scope (visible s)
  pub made : AreIn n.locals scope own
  pub differ : AreDeclared n.locals declared
  pub fresh : AreFresh n.locals scope declared own

first_stands : (n : Naming) (scope : List ℕ) (s : Scope) (xs ys mine other : List Variable) → ((x : ℕ) → Contains (numbers_in n.locals other) x → Contains (numbers_in n.locals ys) x)
    → Stands n scope s (xs ++ ys) (other ++ mine) → Stands n scope s xs mine
first_stands n scope s xs ys mine other from st = record {
  seen = st.seen;
  made = right_of n.locals scope other mine st.made;
  differ = first_declared n.locals xs ys st.differ;
  fresh = first_fresh n.locals scope xs ys mine other from st.differ st.fresh;
}

second_stands : (n : Naming) (scope : List ℕ) (s : Scope) (a : tree.Stmt) (ys other : List Variable)
    → Stands n scope s (statement_variables n.tables a ++ ys) (other ++ loose n.tables a) → Stands n scope (behind n.tables s a) ys other
second_stands n scope s a ys other st = record {
  seen = behind_in n scope s a st.seen (right_of n.locals scope other (loose n.tables a) st.made);
  made = left_of n.locals scope other (loose n.tables a) st.made;
  differ = second_declared n.locals (statement_variables n.tables a) ys st.differ;
  fresh = second_fresh n.locals scope (statement_variables n.tables a) ys (loose n.tables a) other (among n.locals n.tables a) st.differ st.fresh;
}

block_stands : (n : Naming) (scope : List ℕ) (s : Scope) (ss : tree.Stmts) → Stands n scope s (statements_variables n.tables ss) []
    → Stands n (numbers_in n.locals (loose_row n.tables ss) ++ scope) (inside s) (statements_variables n.tables ss) (loose_row n.tables ss)
block_stands n scope s ss st = record {
  seen = wider n.locals (numbers_in n.locals (loose_row n.tables ss)) scope (visible s) st.seen;
  made = own_in n.locals scope (loose_row n.tables ss) (statements_variables n.tables ss) (row_among n.locals n.tables ss) st.differ;
  differ = st.differ;
  fresh = block_fresh n scope ss st.fresh;
}

head_made : (n : Naming) (scope : List ℕ) (s : Scope) (start : tree.Start) (a : tree.Stmt)
    → Stands n scope s (start_variables n.tables start ++ statement_variables n.tables a) (loose n.tables a)
    → AreIn n.locals (numbers_in n.locals (loose_start n.tables start) ++ scope) (loose_start n.tables start)
head_made n scope s start a st =
    own_in n.locals scope (loose_start n.tables start) (start_variables n.tables start) (start_among n.locals n.tables start)
    (first_declared n.locals (start_variables n.tables start) (statement_variables n.tables a) st.differ)

for_stands : (n : Naming) (scope : List ℕ) (s : Scope) (start : tree.Start) (a : tree.Stmt)
    → Stands n scope s (start_variables n.tables start ++ statement_variables n.tables a) (loose n.tables a)
    → Stands n (numbers_in n.locals (loose_start n.tables start) ++ scope) (behind_start n.tables s start) (statement_variables n.tables a) (loose n.tables a)
for_stands n scope s start a st = record {
  seen = start_behind_in n (numbers_in n.locals (loose_start n.tables start) ++ scope) s start
      (wider n.locals (numbers_in n.locals (loose_start n.tables start)) scope (visible s) st.seen)
      (head_made n scope s start a st);
  made = wider n.locals (numbers_in n.locals (loose_start n.tables start)) scope (loose n.tables a) st.made;
  differ = second_declared n.locals (start_variables n.tables start) (statement_variables n.tables a) st.differ;
  fresh = for_fresh n scope start a st.differ st.fresh;
}

block_in : (n : Naming) (scope : List ℕ) (s : Scope) (ss : tree.Stmts) → Stands n scope s (statements_variables n.tables ss) []
    → AreScopedIn (length n.locals) (numbers_in n.locals (loose_row n.tables ss) ++ scope) (resolved_statements n (inside s) ss)
    → AreNew (numbers_in n.locals (block_variables n.tables (inside s) ss)) scope
    × AreScopedIn (length n.locals) (numbers_in n.locals (block_variables n.tables (inside s) ss) ++ scope) (resolved_statements n (inside s) ss)
block_in n scope s ss st inner =
    let P : List Variable → Type 0 = λ vs.
    AreNew (numbers_in n.locals vs) scope × AreScopedIn (length n.locals) (numbers_in n.locals vs ++ scope) (resolved_statements n (inside s) ss) in
    subst P (sym (inner_is n.tables s ss)) ((λ x there outer. contains_none x (st.fresh x (row_among n.locals n.tables ss x there) outer)), inner)

for_in : (n : Naming) (scope : List ℕ) (s : Scope) (h : tree.Head) (a : tree.Stmt) → head_faults n.tables s h ≡ []
    → Stands n scope s (start_variables n.tables h.start ++ statement_variables n.tables a) (loose n.tables a)
    → IsScopedIn (length n.locals) (numbers_in n.locals (loose_start n.tables h.start) ++ scope) (resolved_statement n (behind_start n.tables s h.start) a)
    → IsScopedIn (length n.locals) scope (resolved_statement n s (tree.for_loop h a))
for_in n scope s h a e st inner =
    let P : List Variable → Type 0 = λ vs.
    AreNew (numbers_in n.locals vs) scope × StartsIn (length n.locals) (numbers_in n.locals vs ++ scope) (resolved_start n s h.start)
    × FinishesIn (length n.locals) (numbers_in n.locals vs ++ scope) (option_map (resolved_simple n (visible (behind_start n.tables s h.start))) h.last)
    × IsScopedIn (length n.locals) (numbers_in n.locals vs ++ scope) (resolved_statement n (behind_start n.tables s h.start) a) in
    let starting : List Fault = start_faults n.tables s h.start in
    let testing : List Fault = maybe_condition_faults n.tables (visible (behind_start n.tables s h.start)) h.condition in
    let ending : List Fault = maybe_simple_faults n.tables (visible (behind_start n.tables s h.start)) h.last in
    subst P (sym (head_is n.tables s h.start)) (
      for_new n scope h.start a st.differ st.fresh,
      start_in n (numbers_in n.locals (loose_start n.tables h.start) ++ scope) s h.start
          (wider n.locals (numbers_in n.locals (loose_start n.tables h.start)) scope (visible s) st.seen)
          (head_made n scope s h.start a st) (none_left starting testing (none_left (starting ++ testing) ending e)),
      last_in n (numbers_in n.locals (loose_start n.tables h.start) ++ scope) (visible (behind_start n.tables s h.start)) h.last
          (for_stands n scope s h.start a st).seen (none_right (starting ++ testing) ending e),
      inner,
    )

mutual
  pub statement_in : (c : Context) (defs : List Def) (locals : List Variable) (scope : List ℕ) (s : Scope) (a : tree.Stmt)
      → Stands (naming c.tables defs locals) scope s (statement_variables c.tables a) (loose c.tables a) → statement_faults c s a ≡ []
      → IsScopedIn (length locals) scope (resolved_statement (naming c.tables defs locals) s a)
  statement_in c defs locals scope s (tree.declaration d) st e = items_in (naming c.tables defs locals) scope s d.base d.items st.made
  statement_in c defs locals scope s (tree.block p ss) st e =
      block_in (naming c.tables defs locals) scope s ss st
      (statements_in c defs locals (numbers_in locals (loose_row c.tables ss) ++ scope) (inside s) ss (block_stands (naming c.tables defs locals) scope s ss st) e)
  statement_in c defs locals scope s (tree.empty p) st e = tt
  statement_in c defs locals scope s (tree.simple x) st e = action_in (naming c.tables defs locals) c.tables scope (visible s) x st.seen e
  statement_in c defs locals scope s (tree.free p x) st e = tt
  statement_in c defs locals scope s (tree.assert p d) st e = tt
  statement_in c defs locals scope s (tree.assume p d) st e = tt
  statement_in c defs locals scope s (tree.assume_shape p predicate x args) st e =
      variable_in (naming c.tables defs locals) scope (visible s) x st.seen (none_left (variable_faults (visible s) x) (flat_map (shape_argument_faults (visible s)) args) e)
  statement_in c defs locals scope s (tree.assert_shape p predicate a args) st e = tt
  statement_in c defs locals scope s (tree.assert_empty p) st e = tt
  statement_in c defs locals scope s (tree.if_only p d a) st e =
      statement_in c defs locals scope s a st (none_right (condition_faults c.tables (visible s) d) (statement_faults c s a) e)
  statement_in c defs locals scope s (tree.if_else p d a b) st e =
      let testing : List Fault = condition_faults c.tables (visible s) d in
      let first : List Fault = statement_faults c s a in
      let second : List Fault = statement_faults c (behind c.tables s a) b in (
        statement_in c defs locals scope s a
            (first_stands (naming c.tables defs locals) scope s (statement_variables c.tables a) (statement_variables c.tables b) (loose c.tables a) (loose c.tables b) (among locals c.tables b) st)
            (none_right testing first (none_left (testing ++ first) second e)),
        statement_in c defs locals scope (behind c.tables s a) b
            (second_stands (naming c.tables defs locals) scope s a (statement_variables c.tables b) (loose c.tables b) st)
            (none_right (testing ++ first) second e),
      )
  statement_in c defs locals scope s (tree.while_loop p d a) st e =
      statement_in (looping c) defs locals scope s a st (none_right (condition_faults c.tables (visible s) d) (statement_faults (looping c) s a) e)
  statement_in c defs locals scope s (tree.do_loop p a d) st e =
      statement_in (looping c) defs locals scope s a st (none_left (statement_faults (looping c) s a) (condition_faults c.tables (visible (behind c.tables s a)) d) e)
  statement_in c defs locals scope s (tree.for_loop h a) st e =
      let heading : List Fault = head_faults c.tables s h in
      let repeating : List Fault = statement_faults (looping c) (behind_start c.tables s h.start) a in
      for_in (naming c.tables defs locals) scope s h a (none_left heading repeating e) st
      (statement_in (looping c) defs locals (numbers_in locals (loose_start c.tables h.start) ++ scope) (behind_start c.tables s h.start) a
      (for_stands (naming c.tables defs locals) scope s h.start a st) (none_right heading repeating e))
  statement_in c defs locals scope s (tree.break_loop p) st e = tt
  statement_in c defs locals scope s (tree.continue_loop p) st e = tt
  statement_in c defs locals scope s (tree.returns p r) st e = tt

  pub statements_in : (c : Context) (defs : List Def) (locals : List Variable) (scope : List ℕ) (s : Scope) (ss : tree.Stmts)
      → Stands (naming c.tables defs locals) scope s (statements_variables c.tables ss) (loose_row c.tables ss) → statements_faults c s ss ≡ []
      → AreScopedIn (length locals) scope (resolved_statements (naming c.tables defs locals) s ss)
  statements_in c defs locals scope s tree.no_more st e = tt
  statements_in c defs locals scope s (tree.then a more) st e =
      let first : List Fault = statement_faults c s a in
      let second : List Fault = statements_faults c (behind c.tables s a) more in (
        statement_in c defs locals scope s a
            (first_stands (naming c.tables defs locals) scope s (statement_variables c.tables a) (statements_variables c.tables more) (loose c.tables a) (loose_row c.tables more) (row_among locals c.tables more) st)
            (none_left first second e),
        statements_in c defs locals scope (behind c.tables s a) more
            (second_stands (naming c.tables defs locals) scope s a (statements_variables c.tables more) (loose_row c.tables more) st)
            (none_right first second e),
      )
