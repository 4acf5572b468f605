-- Blocks and `for` that are entered and left.
use Rattle.std.proofs.Common.{◌≡◌, ℕ, ◌+◌, ◌<◌, ◌≤◌, List, [], ◌∷◌, ◌++◌, length, map, drop, get_or, refl, ap, arith, sym, ◌∙◌}
use Rattle.std.proofs.lemmas.List.{at_drop_all, at_drop_more, map-append}
use Rattle.mc_c_syntax.specs.declared.ast.trees.Statement.{Statement as NamedStatement}
use Rattle.mc_c_syntax.specs.Ast.Views.{statement_of as named_statement}
use Rattle.mc_semantics.specs.Moves.{block_variables}
use Rattle.mc_semantics.specs.declared.resolved.program.Statement.{Statement}
use Rattle.mc_c_syntax.specs.Ast.Trees as tree
use Rattle.mc_c_types.specs.Scopes.{Scope, inside, behind, behind_start}
use Rattle.mc_c_types.specs.Tables.{Tables, Variable}
use Rattle.mc_semantics.specs.Resolved.Programs.{Head, Stmt, block, for_loop, Stmts, no_more, then}
use Rattle.mc_semantics.specs.Resolved.Resolving.{Naming, numbers_in, resolved_head, resolved_statement, resolved_statements}
use Rattle.mc_semantics.specs.Resolved.Views.{statement_of, stmts_of}
use Rattle.mc_c_walk.specs.Tasks.{behind_all}
use Rattle.mc_resolve.specs.Frames.{Placed, before, block_left, plugged}
use Rattle.mc_c_walk.specs.Parting.{behind_heads, outside}
use Rattle.mc_c_walk.specs.declared.variables.Marks.{Marks}
use Rattle.mc_resolve.specs.declared.statements.Frame.{Frame}
use Rattle.mc_c_walk.proofs.Keeps.{outside_block, outside_for}

-- a list without elements
pub none_left : {X : Type 0} (xs : List X) → length xs ≡ 0 → xs ≡ []
none_left [] is = refl
none_left (x ∷ xs) is = absurd (omega (arith, is))

pub before_end : (done : List Stmt) → before done no_more ≡ stmts_of done
before_end [] = refl
before_end (a ∷ done) = ap (then a) (before_end done)

pub before_push : (done : List Stmt) (a : Stmt) (more : Stmts) → before (done ++ a ∷ []) more ≡ before done (then a more)
before_push [] a more = refl
before_push (b ∷ done) a more = ap (then b) (before_push done a more)

-- a block ends after its last statement
pub block_ended : (n : Naming) (s around : Scope) (m : Marks) (frames : List Frame) (ss : tree.Stmts) (done : List Stmt) (own : List Variable) (variables : List ℕ)
    → ss ≡ tree.no_more → own ≡ s.own → variables ≡ numbers_in n.locals own → around ≡ outside m s
    → plugged n around frames (block variables (stmts_of done)) ≡ plugged n (outside m (behind_all n.tables s ss)) frames (block_left n s ss done (resolved_statements n s ss))
block_ended n s around m frames ss done own variables none is numbered left =
    ap (λ (behind : Scope). plugged n behind frames (block variables (stmts_of done))) left
    ∙ ap (λ (xs : List ℕ). plugged n (outside m s) frames (block xs (stmts_of done))) (numbered ∙ ap (λ (vs : List Variable). numbers_in n.locals vs) is)
    ∙ ap (λ (inner : Stmts). plugged n (outside m s) frames (block (numbers_in n.locals s.own) inner)) (sym (before_end done))
    ∙ sym (ap (λ (rest : tree.Stmts). plugged n (outside m (behind_all n.tables s rest)) frames (block_left n s rest done (resolved_statements n s rest))) none)

-- one more statement of a block is resolved
pub block_more : (n : Naming) (s around : Scope) (rest : tree.Stmts) (frames : List Frame) (done added : List Statement) (made : Statement) (more : Stmts) → added ≡ done ++ made ∷ []
    → plugged n around frames (block_left n s rest (map statement_of added) more) ≡ plugged n around frames (block_left n s rest (map statement_of done) (then (statement_of made) more))
block_more n s around rest frames done added made more is =
    ap (λ (inner : Stmts). plugged n around frames (block (numbers_in n.locals (block_variables n.tables s rest)) inner))
    (ap (λ xs. before (map statement_of xs) more) is
    ∙ ap (λ xs. before xs more) (map-append statement_of done (made ∷ []))
    ∙ before_push (map statement_of done) (statement_of made) more)

-- one more statement of a body is resolved
pub body_more : (n : Naming) (s later : Scope) (ss : List NamedStatement) (i : ℕ) (a : NamedStatement) (made added : List Statement) (next : Statement)
    → i < length ss → a ≡ get_or ss i a → added ≡ made ++ next ∷ [] → later ≡ behind n.tables s (named_statement a) → statement_of next ≡ resolved_statement n s (named_statement a)
    → before (map statement_of added) (resolved_statements n later (tree.stmts_of (map named_statement (drop (i + 1) ss)))) ≡ before (map statement_of made) (resolved_statements n s (tree.stmts_of (map named_statement (drop i ss))))
body_more n s later ss i a made added next within is grown moved same =
    let rest = tree.stmts_of (map named_statement (drop (i + 1) ss)) in
    ap (λ xs. before (map statement_of xs) (resolved_statements n later rest)) grown
    ∙ ap (λ xs. before xs (resolved_statements n later rest)) (map-append statement_of made (next ∷ []))
    ∙ before_push (map statement_of made) (statement_of next) (resolved_statements n later rest)
    ∙ ap (λ (v : Scope). before (map statement_of made) (then (statement_of next) (resolved_statements n v rest))) moved
    ∙ ap (λ (x : Stmt). before (map statement_of made) (then x (resolved_statements n (behind n.tables s (named_statement a)) rest))) same
    ∙ ap (λ (b : NamedStatement). before (map statement_of made) (resolved_statements n s (tree.stmts_of (map named_statement (b ∷ drop (i + 1) ss))))) is
    ∙ sym (at_drop_more (λ xs. before (map statement_of made) (resolved_statements n s (tree.stmts_of (map named_statement xs)))) ss i a within)

pub body_ended : (n : Naming) (s : Scope) (ss : List NamedStatement) (i : ℕ) (made : List Statement) → length ss ≤ i
    → stmts_of (map statement_of made) ≡ before (map statement_of made) (resolved_statements n s (tree.stmts_of (map named_statement (drop i ss))))
body_ended n s ss i made past =
    sym (before_end (map statement_of made))
    ∙ sym (at_drop_all (λ xs. before (map statement_of made) (resolved_statements n s (tree.stmts_of (map named_statement xs)))) ss i past)

pub block_entered : (n : Naming) (s : Scope) (ss : tree.Stmts) (m : Marks) (frames : List Frame) (made : Stmt) → m.heads ≡ length s.heads → m.own ≡ length s.own
    → plugged n (outside m (behind_all n.tables (inside s) ss)) frames made ≡ plugged n s frames made
block_entered n s ss m frames made heads own = ap (λ (around : Scope). plugged n around frames made) (outside_block n.tables s ss m heads own)

pub for_left : (n : Naming) (s start : Scope) (h : tree.Head) (a : tree.Stmt) (kept : ℕ) (frames : List Frame) (head : Head)
    → start ≡ behind_start n.tables s h.start → head ≡ resolved_head n s h → kept ≡ length s.heads
    → plugged n (behind_heads kept (behind n.tables start a)) frames (for_loop head (resolved_statement n start a))
    ≡ plugged n (behind n.tables s (tree.for_loop h a)) frames (resolved_statement n s (tree.for_loop h a))
for_left n s start h a kept frames head is same k =
    ap (λ (around : Scope). plugged n (behind_heads kept (behind n.tables around a)) frames (for_loop head (resolved_statement n around a))) is
    ∙ ap (λ (made : Head). plugged n (behind_heads kept (behind n.tables (behind_start n.tables s h.start) a)) frames (for_loop made (resolved_statement n (behind_start n.tables s h.start) a))) same
    ∙ ap (λ (around : Scope). plugged n around frames (resolved_statement n s (tree.for_loop h a))) (outside_for n.tables s h a kept k)
