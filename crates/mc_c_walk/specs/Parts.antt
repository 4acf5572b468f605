-- The parts that the code gives, as data.
use Rattle.std.specs.Option.{option_map}
use Rattle.mc_c_syntax.specs.Ast.Views.{condition_of, expression_of, right_of, simple_of}
use Rattle.mc_c_walk.specs.Visits.{PartTree, declared, valued, performed, freed, tested, assumed, asserted, loop_exit, returning}
use Rattle.mc_c_walk.specs.declared.parts.Part.{Part}

abbrev pub part_of : Part → PartTree
part_of (Part.Declared base d) = declared base.now d.now
part_of (Part.Valued base d value) = valued base.now d.now (option_map right_of value.now)
part_of (Part.Performed x) = performed (simple_of x.now)
part_of (Part.Freed e) = freed (expression_of e.now)
part_of (Part.Tested c) = tested (condition_of c.now)
part_of (Part.Assumed shape) = assumed shape.now.place shape.now.predicate shape.now.variable shape.now.arguments.items
part_of (Part.Asserted shape) = asserted shape.now.place shape.now.predicate shape.now.start shape.now.arguments.items
part_of (Part.LoopExit p in_loop) = loop_exit p in_loop
part_of (Part.Returning p value) = returning p (option_map right_of value.now)
