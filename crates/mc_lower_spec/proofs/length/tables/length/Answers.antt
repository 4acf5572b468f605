use Rattle.std.proofs.Common.{◌+◌, ℕ, [], length, map, refl, sym, ap, subst, ◌∙◌}
use Rattle.std.proofs.lemmas.Option.{slice_get_read}
use Rattle.std.specs.Prelude.{slice_get}
use Rattle.mc_semantics.specs.Resolved.Views.{function_of, statement_of, stmts_of}
use Rattle.mc_lower_spec.specs.Length.Lengths.{IsTable, below, stretch_all}
use Rattle.mc_lower_spec.proofs.LengthLemmas.Tabling.{so_long}
use Rattle.mc_lower_spec.proofs.length.tables.length.Goals as goal

pub returns : goal.returns
returns c =
    let program = c.args.program.now in
    let entry = c.in-Some.entry.now in
    let table = c.in_ok-table.table.items in
    let there = ap (λ l. slice_get l program.entry) (sym c.deref.ensures.value)
    ∙ slice_get_read c.deref.result.now (length c.deref.result.now) program.entry entry refl c.in-Some.ensures.lookup.3.0 c.in-Some.ensures.lookup.1 in
    let right = subst (λ l. IsTable table (map function_of l)) c.as_slice.ensures.value c.in_ok-table.ensures in
    let body = c.in_ok-body.ensures ∙ ap (λ l. stretch_all l (below entry.parameters) [] (stmts_of (map statement_of c.as_slice-3.result.now))) c.as_slice-2.ensures.value
    ∙ ap (λ l. stretch_all table (below entry.parameters) [] (stmts_of (map statement_of l))) c.as_slice-3.ensures.value in
    let counted = c.in_ok-count.ensures ∙ ap (λ (n : ℕ). n + (2 + c.falling.result)) body in
    so_long program entry table c.in_ok-count.count c.falling.result there right c.falling.ensures counted
