-- Statements that wait for one that stands in them, the innermost first.
use Rattle.std.specs.Prelude.{ℕ, ◌+◌, ◌*◌, List, [], ◌∷◌, ◌++◌, map, box_value}
use Rattle.mc_c_syntax.specs.Ast.Trees as tree
use Rattle.mc_c_syntax.specs.Ast.Views as named
use Rattle.mc_c_types.specs.Scopes.{Scope, visible, behind}
use Rattle.mc_semantics.specs.Moves.{block_variables}
use Rattle.mc_semantics.specs.Resolved.Programs.{Stmt, block, if_only, if_else, while_loop, do_loop, for_loop, Stmts, then}
use Rattle.mc_semantics.specs.Resolved.Resolving.{Naming, numbers_in, resolved_condition, resolved_statement, resolved_statements}
use Rattle.mc_semantics.specs.Resolved.Views.{condition_of, head_of, statement_of}
use Rattle.mc_c_walk.specs.Tasks.{behind_all, statement_steps, statements_steps}
use Rattle.mc_c_walk.specs.Parting.{outside, behind_heads}
use Rattle.mc_c_walk.specs.declared.variables.Marks.{Marks}
use Rattle.mc_resolve.specs.declared.statements.Frame.{Frame}
use Rattle.mc_resolve.specs.declared.statements.Next.{Next}

-- a statement, and the scope after it
pub record Placed : Type 0 where
  pub statement : Stmt
  pub scope : Scope

-- statements before others
abbrev pub before : List Stmt → Stmts → Stmts
before [] more = more
before (a ∷ done) more = then a (before done more)

-- a block of which these statements are resolved and those are still to be, and the scope around it
abbrev pub block_left : Naming → Scope → tree.Stmts → List Stmt → Stmts → Stmt
block_left n s rest done more = block (numbers_in n.locals (block_variables n.tables s rest)) (before done more)

-- what comes of all frames when the statement that they wait for is this one, and the scope after it this one
abbrev pub plugged : Naming → Scope → List Frame → Stmt → Placed
plugged n s [] made = record { statement = made; scope = s }
plugged n s (Frame.Block rest done marks ∷ frames) made =
    plugged n (outside marks (behind_all n.tables s (tree.stmts_of (map named.statement_of rest.now)))) frames
    (block_left n s (tree.stmts_of (map named.statement_of rest.now)) (map statement_of done.items)
    (then made (resolved_statements n s (tree.stmts_of (map named.statement_of rest.now)))))
plugged n s (Frame.If p c ∷ frames) made = plugged n s frames (if_only p (condition_of c) made)
plugged n s (Frame.First p c b ∷ frames) made =
    plugged n (behind n.tables s (named.statement_of b.now)) frames
    (if_else p (condition_of c) made (resolved_statement n s (named.statement_of b.now)))
plugged n s (Frame.Second p c a ∷ frames) made = plugged n s frames (if_else p (condition_of c) (statement_of (box_value a)) made)
plugged n s (Frame.While p c ∷ frames) made = plugged n s frames (while_loop p (condition_of c) made)
plugged n s (Frame.Do p c ∷ frames) made = plugged n s frames (do_loop p made (resolved_condition n (visible s) (named.condition_of c.now)))
plugged n s (Frame.For head kept ∷ frames) made = plugged n (behind_heads kept s) frames (for_loop (head_of (box_value head)) made)

-- the same, before a statement or after one
abbrev pub finished : Naming → Scope → List Frame → Next → Placed
finished n s frames (Next.Enter a) =
    plugged n (behind n.tables s (named.statement_of a.now)) frames (resolved_statement n s (named.statement_of a.now))
finished n s frames (Next.Made a) = plugged n s frames (statement_of a)

-- ---- how many steps it takes
-- the steps that a frame takes when it has its statement
abbrev pub frame_steps : Frame → ℕ
frame_steps (Frame.Block rest done marks) = 2 * statements_steps (tree.stmts_of (map named.statement_of rest.now)) + 1
frame_steps (Frame.If p c) = 1
frame_steps (Frame.First p c b) = 2 * statement_steps (named.statement_of b.now) + 2
frame_steps (Frame.Second p c a) = 1
frame_steps (Frame.While p c) = 1
frame_steps (Frame.Do p c) = 1
frame_steps (Frame.For head kept) = 1

-- those of all frames
abbrev pub frames_steps : List Frame → ℕ
frames_steps [] = 0
frames_steps (frame ∷ frames) = frame_steps frame + frames_steps frames

-- those that are left in all
abbrev pub left_steps : List Frame → Next → ℕ
left_steps frames (Next.Enter a) = 2 * statement_steps (named.statement_of a.now) + frames_steps frames
left_steps frames (Next.Made a) = frames_steps frames
