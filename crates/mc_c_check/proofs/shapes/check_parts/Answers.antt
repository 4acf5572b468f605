use Rattle.std.proofs.Common.{◌≡◌, ◌∷◌, ◌∙◌, [], flat_map}
use Rattle.mc_c_syntax.specs.Ast.Views.{function_of}
use Rattle.mc_c_types.specs.Held.{tables_held}
use Rattle.mc_c_types.specs.Shapes.{use_faults}
use Rattle.mc_c_walk.specs.Gives.{visit_uses}
use Rattle.mc_c_walk.specs.Parts.{part_of}
use Rattle.mc_c_walk.specs.Tasks.{rest}
use Rattle.mc_c_walk.specs.Visits.{body_visits, visit}
use Rattle.mc_c_check.proofs.Walks.{all_visited, next_visit, none_case, some_case}
use Rattle.mc_c_check.proofs.shapes.check_parts.Goals as goal

pub loop-walk-preserved : goal.loop-walk-preserved
loop-walk-preserved c =
    next_visit (λ v. flat_map (use_faults c.args.defs.now) (visit_uses v)) c.loop-walk.told.fault c.check_shape.new.told.fault (visit c.next.new.self.scope (part_of c.in-Some.part)) (rest (tables_held c.args.tables.now) c.loop-walk.walk) (rest (tables_held c.args.tables.now) c.next.new.self)
    (some_case ((rest (tables_held c.args.tables.now) c.loop-walk.walk ≡ []) × (rest (tables_held c.args.tables.now) c.next.new.self ≡ []))
    (λ part. rest (tables_held c.args.tables.now) c.loop-walk.walk ≡ visit c.next.new.self.scope (part_of part) ∷ rest (tables_held c.args.tables.now) c.next.new.self)
    c.in_ok-part.field-0 c.in-Some.part c.in-Some.is c.in_ok-part.ensures)
    c.check_shape.ensures
    ∙ c.loop-walk.invariant

pub returns : goal.returns
returns c =
    let t = tables_held c.args.tables.now in
    let f = function_of c.args.function.now in
    all_visited (λ v. flat_map (use_faults c.args.defs.now) (visit_uses v)) c.args.told.now.fault c.loop-walk.told.fault (rest t c.loop-walk.walk) (rest t c.in_ok-walk.walk) (body_visits t f f.body) c.loop-walk.invariant
    (none_case ((rest t c.loop-walk.walk ≡ []) × (rest t c.next.new.self ≡ []))
    (λ part. rest t c.loop-walk.walk ≡ visit c.next.new.self.scope (part_of part) ∷ rest t c.next.new.self)
    c.in_ok-part.field-0 c.in_default.is c.in_ok-part.ensures).0
    c.in_ok-walk.ensures
