use Rattle.mc_c_parse.proofs.ItemLemmas.{struct_semicolon, struct_stuck}
use Rattle.mc_c_parse.proofs.item.item_closing.Goals as goal

pub returns-in-Semicolon : goal.returns-in-Semicolon
returns-in-Semicolon c = λ aliases token of. struct_semicolon _ (rw c.in-Semicolon.is at of)

pub returns-in_default : goal.returns-in_default
returns-in_default c = λ aliases token of. struct_stuck _ _ of c.in_default.not-Semicolon
