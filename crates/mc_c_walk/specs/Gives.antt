-- What is known of a body, part by part: its faults, its calls, and its shape commands.
use Rattle.std.specs.Prelude.{◌≡◌, ℕ, List, [], ◌∷◌, ◌++◌, Option, map, flat_map, is_none}
use Rattle.mc_c_syntax.specs.declared.ast.trees.Name.{Name}
use Rattle.mc_c_syntax.specs.Ast.Trees.{FunctionTree}
use Rattle.mc_c_types.specs.Calls.{CallSite, body_sites, maybe_right_calls, simple_calls}
use Rattle.mc_c_types.specs.Faults.{body_faults, condition_faults, declarator_faults, expression_faults, no_pointer}
use Rattle.mc_c_types.specs.Faults.{return_faults, shape_argument_faults, simple_faults, unless, value_faults}
use Rattle.mc_c_types.specs.Faults.{variable_faults}
use Rattle.mc_c_types.specs.Scopes.{Scope, visible}
use Rattle.mc_c_types.specs.Shapes.{ShapeUse, argument_given, body_uses, variable_given}
use Rattle.mc_c_types.specs.Tables.{Tables, returned_type, type_in, variable_of}
use Rattle.mc_c_types.specs.declared.faults.Fault.{Fault}
use Rattle.mc_c_types.specs.declared.faults.FaultName.TheVariants.{Mismatch, Twice}
use Rattle.mc_c_types.specs.declared.types.VariableType.{VariableType}
use Rattle.mc_c_walk.specs.Visits.{PartTree, declared, valued, performed, freed, tested, assumed, asserted, loop_exit, returning, Visit, body_visits}

-- the faults of a part, in a function with this result
abbrev pub part_faults : Tables → Option VariableType → Scope → PartTree → List Fault
part_faults t result s (declared base d) = declarator_faults t base d ++ unless (is_none (type_in s.own d.name.text)) Twice d.name.place
part_faults t result s (valued base d value) = value_faults t (visible s) (variable_of t base d).type value
part_faults t result s (performed x) = simple_faults t (visible s) x
part_faults t result s (freed e) = expression_faults t (visible s) e ++ no_pointer t (visible s) e
part_faults t result s (tested c) = condition_faults t (visible s) c
part_faults t result s (assumed p predicate x args) = variable_faults (visible s) x ++ flat_map (shape_argument_faults (visible s)) args
part_faults t result s (asserted p predicate a args) = flat_map (shape_argument_faults (visible s)) (a ∷ args)
part_faults t result s (loop_exit p in_loop) = unless in_loop Mismatch p
part_faults t result s (returning p value) = return_faults t (visible s) result p value

abbrev pub visit_faults : Tables → Option VariableType → Visit → List Fault
visit_faults t result v = part_faults t result v.scope v.part

-- the names that a part calls
abbrev pub part_calls : PartTree → List Name
part_calls (declared base d) = []
part_calls (valued base d value) = maybe_right_calls value
part_calls (performed x) = simple_calls x
part_calls (freed e) = []
part_calls (tested c) = []
part_calls (assumed p predicate x args) = []
part_calls (asserted p predicate a args) = []
part_calls (loop_exit p in_loop) = []
part_calls (returning p value) = maybe_right_calls value

abbrev pub visit_calls : Visit → List Name
visit_calls v = part_calls v.part

-- a call in a function of this name
abbrev pub site_in : List ℕ → Name → CallSite
site_in caller name = record { caller = caller; callee = name }

-- the shape commands of a part
abbrev pub part_uses : Scope → PartTree → List ShapeUse
part_uses s (declared base d) = []
part_uses s (valued base d value) = []
part_uses s (performed x) = []
part_uses s (freed e) = []
part_uses s (tested c) = []
part_uses s (assumed p predicate x args) =
    record { predicate = predicate; start = variable_given (visible s) x; arguments = map (argument_given (visible s)) args } ∷ []
part_uses s (asserted p predicate a args) =
    record { predicate = predicate; start = argument_given (visible s) a; arguments = map (argument_given (visible s)) args } ∷ []
part_uses s (loop_exit p in_loop) = []
part_uses s (returning p value) = []

abbrev pub visit_uses : Visit → List ShapeUse
visit_uses v = part_uses v.scope v.part

-- ---- laws
-- the faults of a body are those of its parts
abbrev pub GivesFaults : Tables → FunctionTree → Type 0
GivesFaults t f = body_faults t f f.body ≡ flat_map (visit_faults t (returned_type t f.returned)) (body_visits t f f.body)

-- its calls
abbrev pub GivesCalls : Tables → FunctionTree → Type 0
GivesCalls t f = body_sites f.name.text f.body ≡ map (site_in f.name.text) (flat_map visit_calls (body_visits t f f.body))

-- and its shape commands
abbrev pub GivesUses : Tables → FunctionTree → Type 0
GivesUses t f = body_uses t f f.body ≡ flat_map visit_uses (body_visits t f f.body)
