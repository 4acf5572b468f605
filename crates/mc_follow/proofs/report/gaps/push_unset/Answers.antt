use Rattle.mc_follow.proofs.ReportLemmas.Told.{field_told, on_ok}
use Rattle.mc_follow.proofs.report.gaps.push_unset.Goals as goal

pub returns : goal.returns
returns c = on_ok _ _ c.push_field.result c.push_field.ensures (λ new.
    field_told c.args.flow.now c.args.point c.args.node c.args.field
    c.as_slice.result.now c.struct_at-shape.result c.args.out.now.items c.push_at.new.out.items c.push.new.self.items c.push_field.new.out.items
    c.as_slice.ensures c.struct_at-shape.ensures c.in_ok-push_at.ensures c.in_ok-push.ensures.items new)
