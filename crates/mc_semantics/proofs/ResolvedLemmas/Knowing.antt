-- Variables that are visible have numbers.
use Rattle.std.proofs.Common.{List, [], ◌∷◌, ◌++◌, map, reverse, sym, subst, arith}
use Rattle.std.proofs.lemmas.Grind.{reverse_onto}
use Rattle.mc_base.specs.declared.text.place.Place.{Place}
use Rattle.mc_c_syntax.specs.declared.ast.trees.Base.{Base}
use Rattle.mc_c_syntax.specs.Ast.Trees as tree
use Rattle.mc_c_types.specs.Tables.{Tables, Variable, variable_of as declared_variable}
use Rattle.mc_c_types.specs.Scopes.{Scope, visible, inside, declare, behind, behind_items, behind_declaration, behind_start}
use Rattle.mc_semantics.specs.Configs.{is_place}
use Rattle.mc_semantics.specs.Moves.{block_variables, head_variables}
use Rattle.mc_semantics.specs.Resolved.Resolving.{start_variables, statement_variables, statements_variables}
use Rattle.mc_semantics.specs.Resolved.Running.{IsKnown, AreKnown}
use Rattle.mc_semantics.proofs.ResolvedLemmas.Holding.{place_self, same_or_not}

-- ---- lists of variables
pub known_both : (locals xs ys : List Variable) → AreKnown locals xs → AreKnown locals ys → AreKnown locals (xs ++ ys)
known_both locals [] ys first second = second
known_both locals (x ∷ xs) ys first second = (first.0, known_both locals xs ys first.1 second)

pub known_left : (locals xs ys : List Variable) → AreKnown locals (xs ++ ys) → AreKnown locals xs
known_left locals [] ys known = tt
known_left locals (x ∷ xs) ys known = (known.0, known_left locals xs ys known.1)

pub known_right : (locals xs ys : List Variable) → AreKnown locals (xs ++ ys) → AreKnown locals ys
known_right locals [] ys known = known
known_right locals (x ∷ xs) ys known = known_right locals xs ys known.1

is_known_more : (x : Variable) (xs : List Variable) (p : Place) → IsKnown xs p → IsKnown (x ∷ xs) p
is_known_more x xs p known = same_or_not (is_place x.place p)
    (λ hit. rw hit (omega arith))
    (λ miss. rw miss (omega (arith, known)))

known_more : (x : Variable) (xs vs : List Variable) → AreKnown xs vs → AreKnown (x ∷ xs) vs
known_more x xs [] known = tt
known_more x xs (v ∷ vs) known = (is_known_more x xs v.place known.0, known_more x xs vs known.1)

is_known_first : (x : Variable) (xs : List Variable) → IsKnown (x ∷ xs) x.place
is_known_first x xs = rw (place_self x.place) (omega arith)

pub all_known : (xs : List Variable) → AreKnown xs xs
all_known [] = tt
all_known (x ∷ xs) = (is_known_first x xs, known_more x xs xs (all_known xs))

pub reverse_known : (locals xs : List Variable) → AreKnown locals xs → AreKnown locals (reverse xs)
reverse_known locals [] known = tt
reverse_known locals (x ∷ xs) known =
    let P : List Variable → Type 0 = λ vs. AreKnown locals vs in
    subst P (sym (reverse_onto xs x [])) (known_both locals (reverse xs) (x ∷ []) (reverse_known locals xs known.1) (known.0, tt))

-- ---- scopes
pub own_known : (locals : List Variable) (s : Scope) → AreKnown locals (visible s) → AreKnown locals s.own
own_known locals s known = known_right locals s.heads s.own (known_left locals (s.heads ++ s.own) s.outer known)

outer_known : (locals : List Variable) (s : Scope) → AreKnown locals (visible s) → AreKnown locals s.outer
outer_known locals s known = known_right locals (s.heads ++ s.own) s.outer known

heads_known : (locals : List Variable) (s : Scope) → AreKnown locals (visible s) → AreKnown locals s.heads
heads_known locals s known = known_left locals s.heads s.own (known_left locals (s.heads ++ s.own) s.outer known)

-- a scope of these parts
scope_known : (locals heads own outer : List Variable) → AreKnown locals heads → AreKnown locals own → AreKnown locals outer → AreKnown locals (heads ++ own ++ outer)
scope_known locals heads own outer h o u = known_both locals (heads ++ own) outer (known_both locals heads own h o) u

pub declared_known : (locals : List Variable) (s : Scope) (v : Variable) → AreKnown locals (visible s) → IsKnown locals v.place → AreKnown locals (visible (declare s v))
declared_known locals s v known new = scope_known locals s.heads (v ∷ s.own) s.outer (heads_known locals s known) (new, own_known locals s known) (outer_known locals s known)

pub items_known : (locals : List Variable) (t : Tables) (base : Base) (s : Scope) (items : List tree.InitialTree) → AreKnown locals (visible s)
    → AreKnown locals (map (λ item. declared_variable t base item.declarator) items) → AreKnown locals (visible (behind_items t base s items))
items_known locals t base s [] known new = known
items_known locals t base s (item ∷ items) known new =
    items_known locals t base (declare s (declared_variable t base item.declarator)) items (declared_known locals s (declared_variable t base item.declarator) known new.0) new.1

pub start_known : (locals : List Variable) (t : Tables) (s : Scope) (start : tree.Start) → AreKnown locals (visible s)
    → AreKnown locals (start_variables t start) → AreKnown locals (visible (behind_start t s start))
start_known locals t s tree.nothing known new = known
start_known locals t s (tree.declares d) known new =
    let later : AreKnown locals (visible (behind_declaration t (inside s) d)) = items_known locals t d.base (inside s) d.items known new in
    scope_known locals ((behind_declaration t (inside s) d).own ++ s.heads) s.own s.outer
    (known_both locals (behind_declaration t (inside s) d).own s.heads (own_known locals (behind_declaration t (inside s) d) later) (heads_known locals s known))
    (own_known locals s known) (outer_known locals s known)
start_known locals t s (tree.performs x) known new = known

pub head_known : (locals : List Variable) (t : Tables) (s : Scope) (start : tree.Start) → AreKnown locals (visible s)
    → AreKnown locals (start_variables t start) → AreKnown locals (head_variables t s start)
head_known locals t s tree.nothing known new = tt
head_known locals t s (tree.declares d) known new =
    own_known locals (behind_declaration t (inside s) d) (items_known locals t d.base (inside s) d.items known new)
head_known locals t s (tree.performs x) known new = tt

pub behind_known : (locals : List Variable) (t : Tables) (s : Scope) (a : tree.Stmt) → AreKnown locals (visible s)
    → AreKnown locals (statement_variables t a) → AreKnown locals (visible (behind t s a))
behind_known locals t s (tree.declaration d) known new = items_known locals t d.base s d.items known new
behind_known locals t s (tree.block p ss) known new = known
behind_known locals t s (tree.empty p) known new = known
behind_known locals t s (tree.simple x) known new = known
behind_known locals t s (tree.free p e) known new = known
behind_known locals t s (tree.assert p c) known new = known
behind_known locals t s (tree.assume p c) known new = known
behind_known locals t s (tree.assume_shape p predicate x args) known new = known
behind_known locals t s (tree.assert_shape p predicate a args) known new = known
behind_known locals t s (tree.assert_empty p) known new = known
behind_known locals t s (tree.if_only p c a) known new = behind_known locals t s a known new
behind_known locals t s (tree.if_else p c a b) known new =
    behind_known locals t (behind t s a) b
    (behind_known locals t s a known (known_left locals (statement_variables t a) (statement_variables t b) new))
    (known_right locals (statement_variables t a) (statement_variables t b) new)
behind_known locals t s (tree.while_loop p c a) known new = behind_known locals t s a known new
behind_known locals t s (tree.do_loop p a c) known new = behind_known locals t s a known new
behind_known locals t s (tree.for_loop h a) known new =
    let began : AreKnown locals (visible (behind_start t s h.start)) =
    start_known locals t s h.start known (known_left locals (start_variables t h.start) (statement_variables t a) new) in
    let later : AreKnown locals (visible (behind t (behind_start t s h.start) a)) =
    behind_known locals t (behind_start t s h.start) a began (known_right locals (start_variables t h.start) (statement_variables t a) new) in
    scope_known locals s.heads (behind t (behind_start t s h.start) a).own s.outer (heads_known locals s known)
    (own_known locals (behind t (behind_start t s h.start) a) later) (outer_known locals s known)
behind_known locals t s (tree.break_loop p) known new = known
behind_known locals t s (tree.continue_loop p) known new = known
behind_known locals t s (tree.returns p r) known new = known

pub block_known : (locals : List Variable) (t : Tables) (s : Scope) (ss : tree.Stmts) → AreKnown locals (visible s)
    → AreKnown locals (statements_variables t ss) → AreKnown locals (block_variables t s ss)
block_known locals t s tree.no_more known new = own_known locals s known
block_known locals t s (tree.then a more) known new =
    block_known locals t (behind t s a) more
    (behind_known locals t s a known (known_left locals (statement_variables t a) (statements_variables t more) new))
    (known_right locals (statement_variables t a) (statements_variables t more) new)
