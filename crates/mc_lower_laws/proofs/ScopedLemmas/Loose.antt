-- The variables that a statement declares in the block around it, those of later declarators first.
use Rattle.std.proofs.Common.{◌≡◌, ⊎_elim, ℕ, List, [], ◌∷◌, ◌++◌, map, refl, ap, sym, subst, ◌∙◌, append_assoc, append-nil, Contains}
use Rattle.mc_c_syntax.specs.declared.ast.trees.Base.{Base}
use Rattle.mc_c_syntax.specs.Ast.Trees as tree
use Rattle.mc_c_types.specs.Tables.{Tables, Variable, variable_of as declared_variable}
use Rattle.mc_c_types.specs.Scopes.{Scope, inside, declare, behind, behind_items, behind_start}
use Rattle.mc_semantics.specs.Moves.{block_variables, head_variables}
use Rattle.mc_semantics.specs.Resolved.Resolving.{start_variables, statement_variables, statements_variables, number_in, numbers_in}
use Rattle.mc_lower_laws.proofs.ScopedLemmas.Lists.{contains_none, contains_head, contains_tail, contains_cases, number_left, number_right, number_cases}

abbrev pub loose_items : Tables → Base → List tree.InitialTree → List Variable
loose_items t base [] = []
loose_items t base (item ∷ items) = loose_items t base items ++ declared_variable t base item.declarator ∷ []

abbrev pub loose_start : Tables → tree.Start → List Variable
loose_start t tree.nothing = []
loose_start t (tree.declares d) = loose_items t d.base d.items
loose_start t (tree.performs x) = []

abbrev pub loose : Tables → tree.Stmt → List Variable
loose t (tree.declaration d) = loose_items t d.base d.items
loose t (tree.block p ss) = []
loose t (tree.empty p) = []
loose t (tree.simple x) = []
loose t (tree.free p e) = []
loose t (tree.assert p c) = []
loose t (tree.assume p c) = []
loose t (tree.assume_shape p predicate x args) = []
loose t (tree.assert_shape p predicate a args) = []
loose t (tree.assert_empty p) = []
loose t (tree.if_only p c a) = loose t a
loose t (tree.if_else p c a b) = loose t b ++ loose t a
loose t (tree.while_loop p c a) = loose t a
loose t (tree.do_loop p a c) = loose t a
loose t (tree.for_loop h a) = loose t a
loose t (tree.break_loop p) = []
loose t (tree.continue_loop p) = []
loose t (tree.returns p r) = []

abbrev pub loose_row : Tables → tree.Stmts → List Variable
loose_row t tree.no_more = []
loose_row t (tree.then a more) = loose_row t more ++ loose t a

-- a scope with more variables in its block
abbrev pub with_own : Scope → List Variable → Scope
with_own s vs = record { heads = s.heads; own = vs ++ s.own; outer = s.outer }

widened : (s : Scope) (xs ys : List Variable) → with_own (with_own s xs) ys ≡ with_own s (ys ++ xs)
widened s xs ys = ap (λ vs. let r : Scope = record { heads = s.heads; own = vs; outer = s.outer } in r) (sym (append_assoc ys xs s.own))

pub behind_items_is : (t : Tables) (base : Base) (s : Scope) (items : List tree.InitialTree) → behind_items t base s items ≡ with_own s (loose_items t base items)
behind_items_is t base s [] = refl
behind_items_is t base s (item ∷ items) =
    behind_items_is t base (declare s (declared_variable t base item.declarator)) items
    ∙ widened s (declared_variable t base item.declarator ∷ []) (loose_items t base items)

pub start_own : (t : Tables) (s : Scope) (start : tree.Start) → (behind_start t s start).own ≡ s.own
start_own t s tree.nothing = refl
start_own t s (tree.declares d) = refl
start_own t s (tree.performs x) = refl

pub behind_is : (t : Tables) (s : Scope) (a : tree.Stmt) → behind t s a ≡ with_own s (loose t a)
behind_is t s (tree.declaration d) = behind_items_is t d.base s d.items
behind_is t s (tree.block p ss) = refl
behind_is t s (tree.empty p) = refl
behind_is t s (tree.simple x) = refl
behind_is t s (tree.free p e) = refl
behind_is t s (tree.assert p c) = refl
behind_is t s (tree.assume p c) = refl
behind_is t s (tree.assume_shape p predicate x args) = refl
behind_is t s (tree.assert_shape p predicate a args) = refl
behind_is t s (tree.assert_empty p) = refl
behind_is t s (tree.if_only p c a) = behind_is t s a
behind_is t s (tree.if_else p c a b) =
    ap (λ r. behind t r b) (behind_is t s a) ∙ behind_is t (with_own s (loose t a)) b ∙ widened s (loose t a) (loose t b)
behind_is t s (tree.while_loop p c a) = behind_is t s a
behind_is t s (tree.do_loop p a c) = behind_is t s a
behind_is t s (tree.for_loop h a) =
    ap (λ r. let q : Scope = record { heads = s.heads; own = r.own; outer = s.outer } in q) (behind_is t (behind_start t s h.start) a)
    ∙ ap (λ vs. let q : Scope = record { heads = s.heads; own = loose t a ++ vs; outer = s.outer } in q) (start_own t s h.start)
behind_is t s (tree.break_loop p) = refl
behind_is t s (tree.continue_loop p) = refl
behind_is t s (tree.returns p r) = refl

pub block_is : (t : Tables) (s : Scope) (ss : tree.Stmts) → block_variables t s ss ≡ loose_row t ss ++ s.own
block_is t s tree.no_more = refl
block_is t s (tree.then a more) =
    ap (λ r. block_variables t r more) (behind_is t s a) ∙ block_is t (with_own s (loose t a)) more ∙ sym (append_assoc (loose_row t more) (loose t a) s.own)

pub inner_is : (t : Tables) (s : Scope) (ss : tree.Stmts) → block_variables t (inside s) ss ≡ loose_row t ss
inner_is t s ss = block_is t (inside s) ss ∙ append-nil (loose_row t ss)

pub head_is : (t : Tables) (s : Scope) (start : tree.Start) → head_variables t s start ≡ loose_start t start
head_is t s tree.nothing = refl
head_is t s (tree.declares d) = ap (λ r. r.own) (behind_items_is t d.base (inside s) d.items) ∙ append-nil (loose_items t d.base d.items)
head_is t s (tree.performs x) = refl

-- ---- they are among those that it declares
pub items_among : (locals : List Variable) (t : Tables) (base : Base) (items : List tree.InitialTree) (x : ℕ) → Contains (numbers_in locals (loose_items t base items)) x
    → Contains (numbers_in locals (map (λ item. declared_variable t base item.declarator) items)) x
items_among locals t base [] x there = there
items_among locals t base (item ∷ items) x there =
    let v : Variable = declared_variable t base item.declarator in
    let rest : List Variable = map (λ item. declared_variable t base item.declarator) items in
    let P : ℕ → Type 0 = λ z. Contains (number_in locals v.place ∷ numbers_in locals rest) z in
    ⊎_elim
    (λ later. contains_tail (number_in locals v.place) (numbers_in locals rest) x (items_among locals t base items x later))
    (λ now. ⊎_elim (λ e. subst P e (contains_head (number_in locals v.place) (numbers_in locals rest))) (λ none. absurd (contains_none x none)) (contains_cases (number_in locals v.place) [] x now))
    (number_cases locals (loose_items t base items) (v ∷ []) x there)

pub start_among : (locals : List Variable) (t : Tables) (start : tree.Start) (x : ℕ) → Contains (numbers_in locals (loose_start t start)) x → Contains (numbers_in locals (start_variables t start)) x
start_among locals t tree.nothing x there = there
start_among locals t (tree.declares d) x there = items_among locals t d.base d.items x there
start_among locals t (tree.performs s) x there = there

pub among : (locals : List Variable) (t : Tables) (a : tree.Stmt) (x : ℕ) → Contains (numbers_in locals (loose t a)) x → Contains (numbers_in locals (statement_variables t a)) x
among locals t (tree.declaration d) x there = items_among locals t d.base d.items x there
among locals t (tree.block p ss) x there = absurd (contains_none x there)
among locals t (tree.empty p) x there = there
among locals t (tree.simple y) x there = there
among locals t (tree.free p e) x there = there
among locals t (tree.assert p c) x there = there
among locals t (tree.assume p c) x there = there
among locals t (tree.assume_shape p predicate y args) x there = there
among locals t (tree.assert_shape p predicate a args) x there = there
among locals t (tree.assert_empty p) x there = there
among locals t (tree.if_only p c a) x there = among locals t a x there
among locals t (tree.if_else p c a b) x there =
    ⊎_elim
    (λ second. number_right locals (statement_variables t a) (statement_variables t b) x (among locals t b x second))
    (λ first. number_left locals (statement_variables t a) (statement_variables t b) x (among locals t a x first))
    (number_cases locals (loose t b) (loose t a) x there)
among locals t (tree.while_loop p c a) x there = among locals t a x there
among locals t (tree.do_loop p a c) x there = among locals t a x there
among locals t (tree.for_loop h a) x there = number_right locals (start_variables t h.start) (statement_variables t a) x (among locals t a x there)
among locals t (tree.break_loop p) x there = there
among locals t (tree.continue_loop p) x there = there
among locals t (tree.returns p r) x there = there

pub row_among : (locals : List Variable) (t : Tables) (ss : tree.Stmts) (x : ℕ) → Contains (numbers_in locals (loose_row t ss)) x → Contains (numbers_in locals (statements_variables t ss)) x
row_among locals t tree.no_more x there = there
row_among locals t (tree.then a more) x there =
    ⊎_elim
    (λ later. number_right locals (statement_variables t a) (statements_variables t more) x (row_among locals t more x later))
    (λ now. number_left locals (statement_variables t a) (statements_variables t more) x (among locals t a x now))
    (number_cases locals (loose_row t more) (loose t a) x there)
