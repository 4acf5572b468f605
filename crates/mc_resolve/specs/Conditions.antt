-- Conditions that are built from their leaves on: what is still to be made, the next first, and what is made already, the last first.
use Rattle.std.specs.Prelude.{ℕ, ◌+◌, List, [], ◌∷◌}
use Rattle.mc_c_syntax.specs.Ast.Trees as tree
use Rattle.mc_c_syntax.specs.Ast.Views.{condition_of}
use Rattle.mc_c_types.specs.Tables.{Variable}
use Rattle.mc_semantics.specs.Resolved.Programs.{Cond, negation, both, either}
use Rattle.mc_semantics.specs.Resolved.Resolving.{Naming, resolved_condition}
use Rattle.mc_resolve.specs.declared.condition.Link.{Link}
use Rattle.mc_resolve.specs.declared.condition.Link.TheVariants.{Both, Either}
use Rattle.mc_resolve.specs.declared.condition.Part.{Part}

-- the last one made is denied, or the last two are linked
abbrev pub denied : List Cond → List Cond
denied [] = []
denied (c ∷ made) = negation c ∷ made

abbrev pub linked : (Cond → Cond → Cond) → List Cond → List Cond
linked link [] = []
linked link (d ∷ []) = d ∷ []
linked link (d ∷ c ∷ made) = link c d ∷ made

abbrev pub link_of : Link → Cond → Cond → Cond
link_of Both c d = both c d
link_of Either c d = either c d

-- what is made in the end
abbrev pub tested : Naming → List Variable → List Part → List Cond → List Cond
tested n vs [] made = made
tested n vs (Part.Whole c ∷ parts) made = tested n vs parts (resolved_condition n vs (condition_of c.now) ∷ made)
tested n vs (Part.Not ∷ parts) made = tested n vs parts (denied made)
tested n vs (Part.Two how ∷ parts) made = tested n vs parts (linked (link_of how) made)

-- how many steps it takes
abbrev pub condition_steps : tree.Cond → ℕ
condition_steps (tree.plain e) = 1
condition_steps (tree.compare c a b) = 1
condition_steps (tree.negation p c) = condition_steps c + 2
condition_steps (tree.enclosed p c) = condition_steps c + 1
condition_steps (tree.both c d) = condition_steps c + condition_steps d + 2
condition_steps (tree.either c d) = condition_steps c + condition_steps d + 2

abbrev pub part_steps : List Part → ℕ
part_steps [] = 0
part_steps (Part.Whole c ∷ parts) = condition_steps (condition_of c.now) + part_steps parts
part_steps (Part.Not ∷ parts) = 1 + part_steps parts
part_steps (Part.Two how ∷ parts) = 1 + part_steps parts
