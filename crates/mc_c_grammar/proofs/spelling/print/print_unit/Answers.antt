use Rattle.std.proofs.Common.{[], sym, append-nil}
use Rattle.mc_c_grammar.specs.Spelling.Words.{text_of}
use Rattle.mc_c_grammar.proofs.spelling.print.print_unit.Goals as goal

pub returns : goal.returns
unfolding text_of
returns c =
    let e = c.new-out.ensures.items in
    let s = c.as_slice.ensures.value in
    let h = c.in_ok-print_items.ensures [] in
    sym (rw (append-nil, e, s) at h)
