use Rattle.std.proofs.Common.{◌≡◌, ◌∙◌, ap, ap₂, Option, Some}
use Rattle.clap.specs.Words.{Rule, rule_of}
use Rattle.clap.specs.declared.builder.value_parser.ValueParser.{ValueParser}
use Rattle.clap.specs.declared.builder.value_parser.ValueParser.TheVariants as vp
use Rattle.mc_app.proofs.words.commands.number.Goals as goal

abbrev with_parser : Rule → Option ValueParser → Rule
with_parser r p = record r { parser = p }

pub returns-clause-rule : goal.returns-clause-rule
returns-clause-rule c =
    let given = c.value_parser.ensures.given in
    let parsed : c.value_parser.result.value_parser ≡ Some (vp.Unsigned c.args.least c.args.most) = given.1 ∙ ap (λ (q : ValueParser). Some q) given.2 in
    ap rule_of c.value_parser.ensures.others ∙ ap₂ with_parser c.option.ensures.rule parsed
