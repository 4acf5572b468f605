use Rattle.std.proofs.Common.{◌∙◌, ap, refl}
use Rattle.mc_c_syntax.specs.Ast.Names.{is_in}
use Rattle.mc_c_parse.proofs.AliasLemmas.{texts, inserted}
use Rattle.mc_c_parse.proofs.aliases.AliasNames.add.Goals as goal

pub returns : goal.returns
returns c = λ other.
    let same = c.in_ok-name.ensures.items_if_clones_equal (λ x y e. e) in
    let added = inserted other c.in_ok-name.name c.self.inside.names.keys in
    ap (λ keys. is_in (texts keys) other) c.in_ok-insert.ensures.keys ∙ (added ∙ rw (same, ← c.self.view_is) refl)
