use Rattle.std.proofs.Common.{◌∙◌}
use Rattle.mc_c_syntax.specs.Ast.Names.{is_same}
use Rattle.mc_c_check.proofs.Agreements.{place_none, place_some}
use Rattle.mc_c_check.proofs.Repeats.{tree_of}
use Rattle.mc_c_check.proofs.calls.number.Goals as goal

pub returns-in-None : goal.returns-in-None
returns-in-None c =
    c.len.ensures ∙ place_none (λ f. is_same f.name.text c.args.name.now) tree_of c.args.tables.now.functions c.in-None.ensures

pub returns-in-Some : goal.returns-in-Some
returns-in-Some c =
    place_some (λ f. is_same f.name.text c.args.name.now) tree_of c.args.tables.now.functions c.in-Some.place c.in-Some.ensures
