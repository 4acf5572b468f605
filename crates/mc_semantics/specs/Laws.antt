-- What is determined.
use Rattle.std.specs.Prelude.{◌≡◌, List}
use Rattle.mc_flow.specs.Heap.Choices.{Choice}
use Rattle.mc_c_syntax.specs.Ast.Trees.{Expr}
use Rattle.mc_c_types.specs.Tables.{Tables}
use Rattle.mc_semantics.specs.Configs.{Values, Tasks}
use Rattle.mc_semantics.specs.Moves.{Arrives}
use Rattle.mc_semantics.specs.Values.{Here, Evaluated, Evaluates}

-- the choices determine what an expression comes to
abbrev pub ValuesAreDetermined : Type 0
ValuesAreDetermined =
    (h : Here) (e : Expr) (choices : List Choice) (one other : Evaluated)
    → Evaluates h e choices one → Evaluates h e choices other → one ≡ other

-- the next step is at one place
abbrev pub ArrivalsAreDetermined : Type 0
ArrivalsAreDetermined =
    (t : Tables) (values first second : Values) (tasks one other : Tasks)
    → Arrives t values tasks first one → Arrives t values tasks second other → (first ≡ second) × (one ≡ other)
