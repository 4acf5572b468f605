use Rattle.std.proofs.Common.{◌≡◌, ◌++◌, ◌∙◌, [], ap, sym, Some, unwrap_or}
use Rattle.std.specs.List.{position}
use Rattle.mc_outside.specs.Entries.{bytes_at, is_named}
use Rattle.mc_outside.proofs.EntriesLemmas.{read_here, written_here, written_others, is_there, rewritten, missing, when_err}
use Rattle.mc_outside.proofs.entries.Entries.extend.Goals as goal

pub returns-in_err-extend_from_slice-in-Some-clause-err :
    goal.returns-in_err-extend_from_slice-in-Some-clause-err
returns-in_err-extend_from_slice-in-Some-clause-err c =
    let h : position (is_named c.args.name.now) c.self.inside.entries.items ≡ Some c.in-Some.place = cc in
    when_err c.from_residual.result (λ other.
    rewritten c.self.inside.entries.items c.args.name.now c.in-Some.place (c.index_mut.result.now.0, c.extend_from_slice.new.self) c.index_mut.result.now h (ap (λ e. e.0) c.index_mut.ensures.value)
    (c.in_err-extend_from_slice-in-Some.ensures.items ∙ ap (λ e. e.1.items) c.index_mut.ensures.value) other
    ∙ ap (λ es. bytes_at es other) c.self.view_is)

pub returns-in_err-extend_from_slice-in-Some-clause-others :
    goal.returns-in_err-extend_from_slice-in-Some-clause-others
returns-in_err-extend_from_slice-in-Some-clause-others c other ne =
    let h : position (is_named c.args.name.now) c.self.inside.entries.items ≡ Some c.in-Some.place = cc in
    written_others c.self.inside.entries.items c.args.name.now c.in-Some.place (c.index_mut.result.now.0, c.extend_from_slice.new.self) c.index_mut.result.now h (ap (λ e. e.0) c.index_mut.ensures.value) other ne
    ∙ ap (λ es. bytes_at es other) c.self.view_is

pub returns-in-None-clause-ok : goal.returns-in-None-clause-ok
returns-in-None-clause-ok c =
    let h = missing c.args.self.now c.args.name.now (sym c.in-None.ensures) in rw h c.add.ensures.ok

pub returns-in_ok-extend_from_slice-in-Some-clause-ok :
    goal.returns-in_ok-extend_from_slice-in-Some-clause-ok
returns-in_ok-extend_from_slice-in-Some-clause-ok c =
    let h : position (is_named c.args.name.now) c.self.inside.entries.items ≡ Some c.in-Some.place = cc in
    let named = is_there c.self.inside.entries.items c.args.name.now c.in-Some.place (c.index_mut.result.now.0, c.extend_from_slice.new.self) c.index_mut.result.now h (ap (λ e. e.0) c.index_mut.ensures.value) in
    let was : bytes_at c.args.self.now c.args.name.now ≡ Some c.index_mut.result.now.1.items =
    sym (ap (λ es. bytes_at es c.args.name.now) c.self.view_is)
    ∙ read_here c.self.inside.entries.items c.args.name.now c.in-Some.place c.index_mut.result.now h
    ∙ sym (ap (λ e. Some e.1.items) c.index_mut.ensures.value) in
    written_here c.self.inside.entries.items c.args.name.now c.in-Some.place (c.index_mut.result.now.0, c.extend_from_slice.new.self) h named
    ∙ ap Some c.in_ok-extend_from_slice-in-Some.ensures.items
    ∙ sym (ap (λ o. Some (unwrap_or o [] ++ c.args.bytes.now)) was)

pub returns-in_ok-extend_from_slice-in-Some-clause-others :
    goal.returns-in_ok-extend_from_slice-in-Some-clause-others
returns-in_ok-extend_from_slice-in-Some-clause-others c other ne =
    let h : position (is_named c.args.name.now) c.self.inside.entries.items ≡ Some c.in-Some.place = cc in
    written_others c.self.inside.entries.items c.args.name.now c.in-Some.place (c.index_mut.result.now.0, c.extend_from_slice.new.self) c.index_mut.result.now h (ap (λ e. e.0) c.index_mut.ensures.value) other ne
    ∙ ap (λ es. bytes_at es other) c.self.view_is
