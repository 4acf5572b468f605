use Rattle.std.proofs.Common.{◌≡◌, ◌∷◌, ◌∙◌, []}
use Rattle.mc_c_types.specs.Held.{tables_held}
use Rattle.mc_c_walk.specs.Gives.{visit_faults}
use Rattle.mc_c_walk.specs.Parts.{part_of}
use Rattle.mc_c_walk.specs.Tasks.{rest}
use Rattle.mc_c_walk.specs.Visits.{visit}
use Rattle.mc_c_check.proofs.Walks.{next_visit, some_case}
use Rattle.mc_c_check.proofs.bodies.check_body.Goals as goal

pub loop-walk-preserved : goal.loop-walk-preserved
loop-walk-preserved c =
    next_visit (visit_faults (tables_held c.args.tables.now) c.returned_type-returned.result) c.loop-walk.told.fault c.check_part.new.told.fault (visit c.next.new.self.scope (part_of c.in-Some.part)) (rest (tables_held c.args.tables.now) c.loop-walk.walk) (rest (tables_held c.args.tables.now) c.next.new.self)
    (some_case ((rest (tables_held c.args.tables.now) c.loop-walk.walk ≡ []) × (rest (tables_held c.args.tables.now) c.next.new.self ≡ []))
    (λ part. rest (tables_held c.args.tables.now) c.loop-walk.walk ≡ visit c.next.new.self.scope (part_of part) ∷ rest (tables_held c.args.tables.now) c.next.new.self)
    c.in_ok-part.field-0 c.in-Some.part c.in-Some.is c.in_ok-part.ensures)
    c.in_ok-check_part.ensures
    ∙ c.loop-walk.invariant
