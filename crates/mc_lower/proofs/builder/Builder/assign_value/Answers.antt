use Rattle.std.proofs.Common.{map}
use Rattle.mc_semantics.specs.Resolved.Views.{expression_of, field_of}
use Rattle.mc_lower.proofs.Assigning.{value_assigned}
use Rattle.mc_lower.proofs.builder.Builder.assign_value.Goals as goal

pub returns-clause-leads : goal.returns-clause-leads
returns-clause-leads c = λ w agrees.
    let put = c.in_ok-put_into_field.ensures.leads w agrees in
    let value = c.in_ok-operand.ensures.leads w put.0 in
    (value.0, value_assigned w.graph (w.out c.args.site.occurrence) c.args.site.place c.args.target.variable (map field_of c.args.target.fields.now) (expression_of c.args.expression.now) _ _ _ _ _ _ put.1.some c.new-temporaries.ensures.items value.1 put.1.puts)
