-- Trees that are built from the leaves on: what is still to be made, the next first, and what is made already, the last first.
use Rattle.std.specs.Prelude.{ℕ, ◌+◌, List, [], ◌∷◌}
use Rattle.mc_c_syntax.specs.Ast.Trees as tree
use Rattle.mc_c_syntax.specs.Ast.Views.{expression_of}
use Rattle.mc_c_types.specs.Tables.{Variable}
use Rattle.mc_semantics.specs.Resolved.Programs.{Expr, minus, times, plus, difference}
use Rattle.mc_semantics.specs.Resolved.Resolving.{Naming, resolved_expression}
use Rattle.mc_resolve.specs.declared.expression.How.{How}
use Rattle.mc_resolve.specs.declared.expression.How.TheVariants.{Times, Plus, Difference}
use Rattle.mc_resolve.specs.declared.expression.Work.{Work}

-- the last one made has a sign before it, or the last two are joined
abbrev pub signed : List Expr → List Expr
signed [] = []
signed (e ∷ made) = minus e ∷ made

abbrev pub joined : (Expr → Expr → Expr) → List Expr → List Expr
joined join [] = []
joined join (b ∷ []) = b ∷ []
joined join (b ∷ a ∷ made) = join a b ∷ made

abbrev pub join_of : How → Expr → Expr → Expr
join_of Times a b = times a b
join_of Plus a b = plus a b
join_of Difference a b = difference a b

-- what is made in the end
abbrev pub built : Naming → List Variable → List Work → List Expr → List Expr
built n vs [] made = made
built n vs (Work.Whole e ∷ work) made = built n vs work (resolved_expression n vs (expression_of e.now) ∷ made)
built n vs (Work.Minus ∷ work) made = built n vs work (signed made)
built n vs (Work.Two how ∷ work) made = built n vs work (joined (join_of how) made)

-- how many steps it takes
abbrev pub expression_steps : tree.Expr → ℕ
expression_steps (tree.number k p) = 1
expression_steps (tree.null p) = 1
expression_steps (tree.input p) = 1
expression_steps (tree.value l) = 1
expression_steps (tree.minus p e) = expression_steps e + 2
expression_steps (tree.parens p e) = expression_steps e + 1
expression_steps (tree.times a b) = expression_steps a + expression_steps b + 2
expression_steps (tree.plus a b) = expression_steps a + expression_steps b + 2
expression_steps (tree.difference a b) = expression_steps a + expression_steps b + 2

abbrev pub work_steps : List Work → ℕ
work_steps [] = 0
work_steps (Work.Whole e ∷ work) = expression_steps (expression_of e.now) + work_steps work
work_steps (Work.Minus ∷ work) = 1 + work_steps work
work_steps (Work.Two how ∷ work) = 1 + work_steps work
