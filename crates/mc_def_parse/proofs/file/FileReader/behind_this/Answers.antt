use Rattle.std.proofs.Common.{◌∙◌, sym, []}
use Rattle.std.specs.Prelude.{None}
use Rattle.mc_c_syntax.specs.Ast.Names.{name_of}
use Rattle.mc_def_parse.specs.Files.{ThisGoesOn, ItemEnds}
use Rattle.mc_def_parse.specs.Readers.{NameStops}
use Rattle.mc_def_parse.specs.Steps.{Then}
use Rattle.mc_def_parse.proofs.FileLemmas.{this_arrow, this_item, same_result}
use Rattle.mc_def_parse.proofs.file.FileReader.behind_this.Goals as goal

pub returns-in-Arrow : goal.returns-in-Arrow
returns-in-Arrow c = this_arrow _ _ _ _ (sym c.requires ∙ c.in-Arrow.is)

pub returns-in_default : goal.returns-in_default
returns-in_default c = same_result (ThisGoesOn c.args.self.now.done c.args.self.now.head c.args.self.now.rules (name_of c.args.this.now)) (Then (NameStops (name_of c.args.this.now)) (ItemEnds c.args.self.now.done c.args.self.now.head c.args.self.now.rules None [])) _ c.args.token.now (this_item _ _ _ _ c.args.token.now (λ e. c.in_default.not-Arrow (c.requires ∙ e))) c.within_item.result (rw c.new.ensures at c.within_item.ensures)
