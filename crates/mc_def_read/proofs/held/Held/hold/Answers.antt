use Rattle.mc_def_read.proofs.Sayings.{holds_ok}
use Rattle.mc_def_read.specs.Fields.{fields_of}
use Rattle.mc_def_read.specs.Scopes.{held_of}
use Rattle.std.proofs.Common.{◌≡◌, ◌∷◌, [], ap, sym, ◌∙◌, append_assoc}
use Rattle.std.specs.Prelude.{Some, None, Ok, slice_get, slice_set}
use Rattle.mc_def_read.specs.Judging.{Held, Judged}
use Rattle.mc_def_read.proofs.held.Held.hold.Goals as goal

pub returns : goal.returns
returns c = let there : slice_get c.args.self.now.fields.items c.in-Some.place ≡ Some None = cc in let make : _ → Judged Held = λ ns. Ok (record { names = ns; fields = slice_set c.args.self.now.fields.items c.in-Some.place (Some c.args.number) }) in rw c.in_ok-push.ensures.ok (holds_ok (fields_of c.args.names.now) (held_of c.args.self.now) c.args.number c.args.content.now c.in-Some.place (sym c.place.ensures ∙ c.in-Some.is) there (sym c.is_taken.ensures ∙ c.if-is_taken.false) ∙ ap make (append_assoc c.args.self.now.front.now c.args.self.now.own (c.args.content.now.name.text ∷ [])))
