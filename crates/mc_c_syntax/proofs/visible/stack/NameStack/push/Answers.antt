use Rattle.std.proofs.Common.{ap, length, subst, sym, ◌∙◌}
use Rattle.std.specs.Prelude.{Some}
use Rattle.indexmap.specs.IndexMap.{Updates}
use Rattle.mc_c_syntax.specs.Visible.Lasts.{is_same, last_place}
use Rattle.mc_c_syntax.specs.Visible.Stacks.{names_in}
use Rattle.mc_c_syntax.specs.declared.visible.stack.Entry.{Entry}
use Rattle.mc_c_syntax.proofs.VisibleLemmas.Entries.{more_hidden, more_lasts}
use Rattle.mc_c_syntax.proofs.visible.stack.NameStack.push.Goals as goal

pub invariant_of-self-in_default : goal.invariant_of-self-in_default
invariant_of-self-in_default c =
    let e : Entry = record { name = c.args.name; hidden = c.last-hidden.result } in
    record {
      places = more_lasts c.self.inside.entries.items c.push.new.self.items e c.self.inside.lasts c.insert.new.self c.as_slice.result c.in_ok-push.ensures.items c.self.invariant.places c.as_slice.ensures
          (subst (λ n. Updates (λ k l. is_same k.now l.now) c.self.inside.lasts c.insert.new.self c.as_slice.result (Some (Some n))) (c.len-place.ensures ∙ ap length (sym c.self.view_is)) c.in_default.ensures.updates);
      hidden = more_hidden c.self.inside.entries.items c.push.new.self.items e c.in_ok-push.ensures.items c.self.invariant.hidden (c.last-hidden.ensures ∙ ap (λ ns. last_place ns c.args.name.now) (sym c.self.view_is));
    }
