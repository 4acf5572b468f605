use Rattle.std.proofs.Common.{◌≡◌, [], ◌∷◌, ◌++◌, subst}
use Rattle.mc_c_parse.specs.Faults.{HasNoEnd}
use Rattle.mc_c_parse.proofs.PrefixLemmas.{no_end_first}
use Rattle.mc_c_parse.proofs.left_out.is_inner_pointer.Goals as goal

pub declares_behind-requires : goal.declares_behind-requires
declares_behind-requires c =
    let split : c.args.before.now ≡ c.in-Some.first.now ++ c.in-Some.last.now ∷ [] = c.in-Some.ensures.cases.0 in
    no_end_first c.in-Some.first.now c.in-Some.last.now (subst HasNoEnd split c.requires.no_end)
