-- Rules that are wrong: each is like a rule of instructions, and a configuration refutes it.
use Rattle.std.specs.Prelude.{pos, List, [], ◌∷◌, Some, None}
use Rattle.mc_base.specs.declared.ids.NodeId.{NodeId}
use Rattle.mc_base.specs.declared.ids.PointId.{PointId}
use Rattle.mc_base.specs.declared.ids.StructId.{StructId}
use Rattle.mc_base.specs.declared.ids.VarId.{VarId}
use Rattle.mc_base.specs.declared.plain.Atom.TheVariants.{Eq}
use Rattle.mc_base.specs.declared.plain.Kind.TheVariants.{Int}
use Rattle.mc_flow.specs.Heap.Choices.{Choice}
use Rattle.mc_flow.specs.Defs.Examples.{defs}
use Rattle.mc_flow.specs.Steps.{Config, Result, Step}
use Rattle.mc_state.specs.State.{State, with_var, next_node, with_nodes, with_atom, with_block}
use Rattle.mc_rules_steps.specs.Next.{Next}
use Rattle.mc_rules_steps.specs.Steps.{moved_to}
use Rattle.mc_rules_steps.specs.Laws.{LeadsOn}
use Rattle.mc_rules_steps.specs.Examples.{flow}

-- no step of the configuration faults, and each leads to one of these successors
abbrev pub LeadsOnFrom : Config → List Next → Type 0
LeadsOnFrom c next = (choices : List Choice) (r : Result) → Step flow defs c choices r → LeadsOn defs next r

-- the variable gets a new node, which is another node plus 1, without a look at its range
abbrev pub unchecked_sum : VarId → NodeId → PointId → State → List Next
unchecked_sum x a q s = moved_to q (with_atom (with_var (with_nodes s (Int ∷ [])) x (Some (next_node s))) (Eq (next_node s) a (pos 1))) ∷ []

-- a block is freed, and stays
abbrev pub kept_block : PointId → State → List Next
kept_block q s = moved_to q s ∷ []

-- malloc gives a block, never null
abbrev pub sure_malloc : VarId → StructId → PointId → State → List Next
sure_malloc x shape q s = moved_to q (with_var (with_block s shape 2) x (Some (next_node s))) ∷ []

-- a field that is not known is read, and the variable is not known then
abbrev pub unknown_load : VarId → PointId → State → List Next
unknown_load x q s = moved_to q (with_var s x None) ∷ []
