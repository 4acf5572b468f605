use Rattle.std.proofs.Common.{◌≡◌, ◌∙◌, ap, Some}
use Rattle.std.specs.List.{position}
use Rattle.mc_outside.specs.Entries.{bytes_at, is_named}
use Rattle.mc_outside.proofs.EntriesLemmas.{written_here, written_others, is_there}
use Rattle.mc_outside.proofs.entries.Entries.empty.Goals as goal

pub returns-in-Some-clause-ok : goal.returns-in-Some-clause-ok
returns-in-Some-clause-ok c =
    let h : position (is_named c.args.name.now) c.self.inside.entries.items ≡ Some c.in-Some.place = cc in
    let same = is_there c.self.inside.entries.items c.args.name.now c.in-Some.place (c.index_mut.result.now.0, c.clear.new.self) c.index_mut.result.now h (ap (λ e. e.0) c.index_mut.ensures.value) in
    written_here c.self.inside.entries.items c.args.name.now c.in-Some.place (c.index_mut.result.now.0, c.clear.new.self) h same
    ∙ ap Some c.clear.ensures.items

pub returns-in-Some-clause-others : goal.returns-in-Some-clause-others
returns-in-Some-clause-others c other ne =
    let h : position (is_named c.args.name.now) c.self.inside.entries.items ≡ Some c.in-Some.place = cc in
    written_others c.self.inside.entries.items c.args.name.now c.in-Some.place (c.index_mut.result.now.0, c.clear.new.self) c.index_mut.result.now h (ap (λ e. e.0) c.index_mut.ensures.value) other ne
    ∙ ap (λ es. bytes_at es other) c.self.view_is
