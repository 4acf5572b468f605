-- What stays of a scope after statements, and how a block and a `for` give back the scope around.
use Rattle.std.proofs.Common.{◌≡◌, ℕ, ◌-◌, List, [], ◌∷◌, ◌++◌, length, take, drop, refl, ap, sym, ◌∙◌, arith, append_assoc}
use Rattle.std.proofs.lemmas.List.{drop_at, length-append, take_at}
use Rattle.mc_c_syntax.specs.declared.ast.trees.Base.{Base}
use Rattle.mc_c_syntax.specs.Ast.Trees.{DeclarationTree, Head, InitialTree, Start, nothing, declares, performs, Stmt, declaration, block, empty, simple, free, assert, assume, assume_shape, assert_shape, assert_empty, if_only, if_else, while_loop, do_loop, for_loop, break_loop, continue_loop, returns, Stmts, no_more, then}
use Rattle.mc_c_types.specs.Scopes.{Scope, inside, declare, behind, behind_declaration, behind_items, behind_start}
use Rattle.mc_c_types.specs.Tables.{Tables, Variable, variable_of}
use Rattle.mc_c_walk.specs.Parting.{as_head, behind_heads, outside, parted}
use Rattle.mc_c_walk.specs.Tasks.{behind_all}
use Rattle.mc_c_walk.specs.declared.variables.Marks.{Marks}

-- ---- what stays
items_heads : (t : Tables) (base : Base) (s : Scope) (items : List InitialTree) → (behind_items t base s items).heads ≡ s.heads
items_heads t base s [] = refl
items_heads t base s (item ∷ items) = items_heads t base (declare s (variable_of t base item.declarator)) items

items_outer : (t : Tables) (base : Base) (s : Scope) (items : List InitialTree) → (behind_items t base s items).outer ≡ s.outer
items_outer t base s [] = refl
items_outer t base s (item ∷ items) = items_outer t base (declare s (variable_of t base item.declarator)) items

heads_stay : (t : Tables) (s : Scope) (a : Stmt) → (behind t s a).heads ≡ s.heads
heads_stay t s (declaration d) = items_heads t d.base s d.items
heads_stay t s (block p ss) = refl
heads_stay t s (empty p) = refl
heads_stay t s (simple x) = refl
heads_stay t s (free p e) = refl
heads_stay t s (assert p c) = refl
heads_stay t s (assume p c) = refl
heads_stay t s (assume_shape p predicate x args) = refl
heads_stay t s (assert_shape p predicate a args) = refl
heads_stay t s (assert_empty p) = refl
heads_stay t s (if_only p c a) = heads_stay t s a
heads_stay t s (if_else p c a b) = heads_stay t (behind t s a) b ∙ heads_stay t s a
heads_stay t s (while_loop p c a) = heads_stay t s a
heads_stay t s (do_loop p a c) = heads_stay t s a
heads_stay t s (for_loop h a) = refl
heads_stay t s (break_loop p) = refl
heads_stay t s (continue_loop p) = refl
heads_stay t s (returns p value) = refl

outer_stays : (t : Tables) (s : Scope) (a : Stmt) → (behind t s a).outer ≡ s.outer
outer_stays t s (declaration d) = items_outer t d.base s d.items
outer_stays t s (block p ss) = refl
outer_stays t s (empty p) = refl
outer_stays t s (simple x) = refl
outer_stays t s (free p e) = refl
outer_stays t s (assert p c) = refl
outer_stays t s (assume p c) = refl
outer_stays t s (assume_shape p predicate x args) = refl
outer_stays t s (assert_shape p predicate a args) = refl
outer_stays t s (assert_empty p) = refl
outer_stays t s (if_only p c a) = outer_stays t s a
outer_stays t s (if_else p c a b) = outer_stays t (behind t s a) b ∙ outer_stays t s a
outer_stays t s (while_loop p c a) = outer_stays t s a
outer_stays t s (do_loop p a c) = outer_stays t s a
outer_stays t s (for_loop h a) = refl
outer_stays t s (break_loop p) = refl
outer_stays t s (continue_loop p) = refl
outer_stays t s (returns p value) = refl

all_outer : (t : Tables) (s : Scope) (ss : Stmts) → (behind_all t s ss).outer ≡ s.outer
all_outer t s no_more = refl
all_outer t s (then a rest) = all_outer t (behind t s a) rest ∙ outer_stays t s a

-- ---- the scope around
-- the visible variables part into those of the scope
parted_visible : (heads own outer : List Variable) (h o : ℕ) → h ≡ length heads → o ≡ length own
    → parted h o (heads ++ own ++ outer) ≡ record { heads = heads; own = own; outer = outer }
parted_visible heads own outer h o is is' =
    rw (append_assoc heads own outer)
    (rw (take_at heads (own ++ outer) h (sym is))
    (rw (drop_at heads (own ++ outer) h (sym is))
    (rw (take_at own outer o (sym is')) (rw (drop_at own outer o (sym is')) refl))))

pub outside_block : (t : Tables) (s : Scope) (ss : Stmts) (m : Marks) → m.heads ≡ length s.heads → m.own ≡ length s.own → outside m (behind_all t (inside s) ss) ≡ s
outside_block t s ss m heads own = ap (λ vs. parted m.heads m.own vs) (all_outer t (inside s) ss) ∙ parted_visible s.heads s.own s.outer m.heads m.own heads own

pub outside_start : (t : Tables) (s : Scope) (d : DeclarationTree) (m : Marks) → m.heads ≡ length s.heads → m.own ≡ length s.own
    → as_head m (behind_items t d.base (inside s) d.items) ≡ behind_start t s (declares d)
outside_start t s d m heads own =
    ap (λ vs. record { heads = vs ++ (behind_items t d.base (inside s) d.items).own ++ take m.heads (behind_items t d.base (inside s) d.items).outer; own = take m.own (drop m.heads (behind_items t d.base (inside s) d.items).outer); outer = drop m.own (drop m.heads (behind_items t d.base (inside s) d.items).outer) }) (items_heads t d.base (inside s) d.items)
    ∙ ap (λ vs. record { heads = (behind_items t d.base (inside s) d.items).own ++ take m.heads vs; own = take m.own (drop m.heads vs); outer = drop m.own (drop m.heads vs) }) (items_outer t d.base (inside s) d.items)
    ∙ ap (λ (p : Scope). record { heads = (behind_items t d.base (inside s) d.items).own ++ p.heads; own = p.own; outer = p.outer }) (parted_visible s.heads s.own s.outer m.heads m.own heads own)

-- the variables that a `for` declares become those of its head
pub head_begun : (t : Tables) (s begun within after : Scope) (d : DeclarationTree) (start : Start) (m : Marks) → start ≡ declares d → m.heads ≡ length s.heads → m.own ≡ length s.own
    → begun ≡ inside s → within ≡ behind_items t d.base begun d.items → after ≡ as_head m within → after ≡ behind_start t s start
head_begun t s begun within after d start m is heads own inner behind made =
    made
    ∙ ap (λ (v : Scope). as_head m v) (behind ∙ ap (λ (v : Scope). behind_items t d.base v d.items) inner)
    ∙ outside_start t s d m heads own
    ∙ sym (ap (λ (h : Start). behind_start t s h) is)

-- what a `for` adds to the heads
added : (t : Tables) (s : Scope) (start : Start) → List Variable
added t s nothing = []
added t s (declares d) = (behind_declaration t (inside s) d).own
added t s (performs x) = []

start_heads : (t : Tables) (s : Scope) (start : Start) → (behind_start t s start).heads ≡ added t s start ++ s.heads
unfolding added
start_heads t s nothing = refl
start_heads t s (declares d) = refl
start_heads t s (performs x) = refl

start_outer : (t : Tables) (s : Scope) (start : Start) → (behind_start t s start).outer ≡ s.outer
start_outer t s nothing = refl
start_outer t s (declares d) = refl
start_outer t s (performs x) = refl

last_kept : (xs ys : List Variable) → drop (length (xs ++ ys) - length ys) (xs ++ ys) ≡ ys
last_kept xs ys = drop_at xs ys (length (xs ++ ys) - length ys) (omega (arith, length-append xs ys))

pub outside_for : (t : Tables) (s : Scope) (h : Head) (a : Stmt) (kept : ℕ) → kept ≡ length s.heads → behind_heads kept (behind t (behind_start t s h.start) a) ≡ behind t s (for_loop h a)
outside_for t s h a kept is =
    let heads_is = heads_stay t (behind_start t s h.start) a ∙ start_heads t s h.start in
    ap (λ k. behind_heads k (behind t (behind_start t s h.start) a)) is
    ∙ ap (λ vs. record { heads = drop (length vs - length s.heads) vs; own = (behind t (behind_start t s h.start) a).own; outer = (behind t (behind_start t s h.start) a).outer }) heads_is
    ∙ ap (λ vs. record { heads = vs; own = (behind t (behind_start t s h.start) a).own; outer = (behind t (behind_start t s h.start) a).outer }) (last_kept (added t s h.start) s.heads)
    ∙ ap (λ vs. record { heads = s.heads; own = (behind t (behind_start t s h.start) a).own; outer = vs }) (outer_stays t (behind_start t s h.start) a ∙ start_outer t s h.start)
