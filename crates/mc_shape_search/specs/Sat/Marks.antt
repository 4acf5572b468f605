-- How a predicate is met on a heap: the marks of a goal, which of them fit, and what each leaves to be met.
use Rattle.std.specs.Prelude.{◌==◌, ◌&&◌, ◌||◌, ◌++◌, not, ℕ, suc, ℤ, pos, negsuc, List, [], ◌∷◌, Bool, true, false, Option, Some, None, length, map, is_some, option_map, option_and_then, option_to_list, slice_get, if◌then◌else◌}
use Rattle.std.specs.List.{flat_map}
use Rattle.std.specs.FinMap as map
use Rattle.mc_base.specs.declared.ids.StructId.{StructId}
use Rattle.mc_flow.specs.Heap.Heap.{Heap}
use Rattle.mc_flow.specs.Heap.Access.{fields_at}
use Rattle.mc_flow.specs.declared.defs.rules.Call.{Call}
use Rattle.mc_flow.specs.declared.defs.rules.Def.{Def}
use Rattle.mc_flow.specs.declared.defs.rules.Rule.{Rule}
use Rattle.mc_flow.specs.Defs.Values.{value_of}
use Rattle.mc_shape_search.specs.Search.Search.{Space}
use Rattle.mc_shape_search.specs.declared.sat.goals.Goal.{Goal}
use Rattle.mc_shape_search.specs.declared.sat.goals.Mark.{Mark}
use Rattle.mc_shape_search.specs.Sat.Names.{with_fixed, all_in_kinds, all_true}

-- the address that a value is
abbrev pub address_of : ℤ → Option ℕ
address_of (pos at) = Some at
address_of (negsuc n) = None

-- the address of a rule's block at a value, where the rule has one
abbrev pub block_for : Option StructId → ℤ → Option ℕ
block_for None value = None
block_for (Some shape) value = address_of value

-- all the values, where each is defined
abbrev pub all_defined : List (Option ℤ) → Option (List ℤ)
all_defined [] = Some []
all_defined (None ∷ fields) = None
all_defined (Some value ∷ fields) = option_map (λ values. value ∷ values) (all_defined fields)

-- what the block at an address holds, where it is of this struct and each field is defined
abbrev pub held_at : Heap → StructId → Option ℕ → Option (List ℤ)
held_at heap shape None = None
held_at heap shape (Some at) = option_and_then all_defined (fields_at (map.get heap at) shape.0)

-- the values of a rule's contents at a value: none without a block
abbrev pub contents_at : Heap → ℤ → Option StructId → Option (List ℤ)
contents_at heap value None = Some []
contents_at heap value (Some shape) = held_at heap shape (address_of value)

-- a rule, and a value for each of its names
pub record Named : Type 0 where
  pub rule : Rule
  pub names : List ℤ

-- the values of a rule's names at a goal, with these contents
abbrev pub names_at : Goal → Rule → List ℤ → List ℤ
names_at g rule contents = with_fixed (g.at ∷ (g.args ++ contents)) rule.atoms

-- the numbers of arguments and contents are right, each value lies in its kind's range, and the atoms are true
abbrev pub names_fit : Goal → Def → Rule → List ℤ → List ℤ → Bool
names_fit g def rule contents names =
    length g.args == length def.params
    && (length contents == length rule.contents && (all_in_kinds rule.names names && all_true names rule.atoms))

-- these names, where they fit
abbrev pub names_with : Goal → Def → Rule → List ℤ → Option (List ℤ)
names_with g def rule contents =
    if names_fit g def rule contents (names_at g rule contents) then Some (names_at g rule contents) else None

-- the values of a rule's names at a goal, where they fit
abbrev pub names_for : Heap → Goal → Def → Rule → Option (List ℤ)
names_for heap g def rule = option_and_then (names_with g def rule) (contents_at heap g.at rule.block)

-- two addresses, or none twice
abbrev pub same_block : Option ℕ → Option ℕ → Bool
same_block None None = true
same_block None (Some b) = false
same_block (Some a) None = false
same_block (Some a) (Some b) = a == b

-- the rule with its names, if its block is this one
abbrev pub named_by : Heap → Goal → Option ℕ → Def → Rule → Option Named
named_by heap g block def rule =
    if same_block (block_for rule.block g.at) block
    then option_map (λ names. record { rule = rule; names = names }) (names_for heap g def rule)
    else None

-- the rule of the goal's predicate that a mark says, with its names
abbrev pub named_at : Heap → List Def → Goal → Mark → Option Named
named_at heap defs g m =
    option_and_then
    (λ def. option_and_then (named_by heap g m.block def) (slice_get def.rules m.rule)) (slice_get defs g.pred.0)

-- a mark fits where its rule has names that fit
abbrev pub fits : Heap → List Def → Goal → Mark → Bool
fits heap defs g m = is_some (named_at heap defs g m)

-- what a call asks for
abbrev pub goal_of : List ℤ → Call → Goal
goal_of names call = record { pred = call.pred; at = value_of names call.at; args = map (value_of names) call.args }

-- the goals of a rule's calls
abbrev pub calls_of : Option Named → List Goal
calls_of None = []
calls_of (Some by) = map (goal_of by.names) by.rule.calls

-- what a mark leaves to be met
abbrev pub calls : Heap → List Def → Goal → Mark → List Goal
calls heap defs g m = calls_of (named_at heap defs g m)

-- rules from a place on, each with its block at the goal
abbrev pub marks_from : ℤ → ℕ → List Rule → List Mark
marks_from value place [] = []
marks_from value place (rule ∷ rules) =
    record { rule = place; block = block_for rule.block value } ∷ marks_from value (suc place) rules

-- the rules of a predicate
abbrev pub rules_of : Option Def → List Rule
rules_of None = []
rules_of (Some def) = def.rules

-- the marks of a goal: one for each rule of its predicate
abbrev pub marks : List Def → Goal → List Mark
marks defs g = marks_from g.at 0 (rules_of (slice_get defs g.pred.0))

-- the address that a mark takes
abbrev pub takes : Mark → Option ℕ
takes m = m.block

-- the addresses that marks take, in their order
abbrev pub taken : List Mark → List ℕ
taken log = flat_map (λ m. option_to_list (takes m)) log

-- a search may end with any marks, and where the whole heap is asked for, with those that take every block
abbrev pub ends : Bool → Heap → List Mark → Bool
ends whole heap log = not whole || length (taken log) == map.len heap

-- how goals are met on a heap
abbrev pub space : Bool → Heap → List Def → Space Goal Mark
space whole heap defs =
    record { marks = marks defs; fits = fits heap defs; calls = calls heap defs; takes = takes; ends = ends whole heap }
