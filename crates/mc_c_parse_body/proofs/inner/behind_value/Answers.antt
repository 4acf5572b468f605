use Rattle.std.proofs.Common.{[], ◌∷◌, subst}
use Rattle.mc_c_syntax.specs.declared.ast.class.Class.TheVariants as Class
use Rattle.mc_c_syntax.specs.Ast.Trees.{Stmt}
use Rattle.mc_c_parse_body.specs.Phrases.{Expects}
use Rattle.mc_c_parse_body.specs.Frames.{Around}
use Rattle.mc_c_parse_body.specs.Bodies.{CompletesBody, IsBodyStep}
use Rattle.mc_c_parse_body.proofs.Seen.{return_value_seen}
use Rattle.mc_c_parse_body.proofs.inner.behind_value.Goals as goal

pub returns : goal.returns
returns c = λ aliases. subst (λ (s : Stmt). IsBodyStep (Expects (Class.Semicolon ∷ []) (Around aliases c.args.reader.now.nest s)) (CompletesBody aliases c.expect.new.reader) c.args.token.now c.expect.result) (return_value_seen c.args.place c.args.value) (c.expect.ensures aliases)
