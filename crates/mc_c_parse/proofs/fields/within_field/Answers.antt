use Rattle.mc_c_parse.proofs.FieldLemmas.{field_closes}
use Rattle.std.proofs.lemmas.List.{map-append}
use Rattle.std.proofs.Common.{[], ◌∷◌}
use Rattle.mc_c_syntax.specs.Ast.Views.{field_of}
use Rattle.mc_c_parse.proofs.fields.within_field.Goals as goal

pub returns-in_ok-push-in-Closed : goal.returns-in_ok-push-in-Closed
returns-in_ok-push-in-Closed c = λ aliases known. rw (c.in_ok-push-in-Closed.ensures.items, map-append field_of c.args.done.items (c.in-Closed.field ∷ [])) (field_closes aliases _ (rw c.in-Closed.is at (c.in_ok-reader.ensures aliases known)))
