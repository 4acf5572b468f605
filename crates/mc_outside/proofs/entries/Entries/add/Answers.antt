use Rattle.std.proofs.Common.{◌≡◌, ◌∙◌, ap, Some, None}
use Rattle.std.specs.List.{position}
use Rattle.mc_outside.specs.Entries.{bytes_at, is_named}
use Rattle.mc_outside.proofs.EntriesLemmas.{added_here, added_others}
use Rattle.mc_outside.proofs.entries.Entries.add.Goals as goal

pub returns-clause-ok : goal.returns-clause-ok
returns-clause-ok c =
    let h : position (is_named c.args.name.now) c.self.inside.entries.items ≡ None = cc in
    ap (λ es. bytes_at es c.args.name.now) c.in_ok-push.ensures.items
    ∙ added_here c.self.inside.entries.items c.args.name.now (c.in_ok-name.name, c.in_ok-bytes.bytes) h c.in_ok-name.ensures.ok
    ∙ ap Some c.in_ok-bytes.ensures.items

pub returns-clause-others : goal.returns-clause-others
returns-clause-others c other ne =
    ap (λ es. bytes_at es other) c.in_ok-push.ensures.items
    ∙ added_others c.self.inside.entries.items c.args.name.now (c.in_ok-name.name, c.in_ok-bytes.bytes) c.in_ok-name.ensures.ok other ne
    ∙ ap (λ es. bytes_at es other) c.self.view_is
