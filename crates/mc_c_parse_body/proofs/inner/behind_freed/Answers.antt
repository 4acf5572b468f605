use Rattle.std.proofs.Common.{[], ◌∷◌, subst}
use Rattle.mc_c_syntax.specs.declared.ast.class.Class.TheVariants as Class
use Rattle.mc_c_syntax.specs.Ast.Trees.{Stmt}
use Rattle.mc_c_parse_body.specs.Phrases.{Expects}
use Rattle.mc_c_parse_body.specs.Frames.{Around}
use Rattle.mc_c_parse_body.specs.Bodies.{CompletesBody, IsBodyStep}
use Rattle.mc_c_parse_body.proofs.Seen.{free_seen}
use Rattle.mc_c_parse_body.proofs.inner.behind_freed.Goals as goal

pub returns : goal.returns
returns c = λ aliases. subst (λ (s : Stmt). IsBodyStep (Expects (Class.CloseParen ∷ Class.Semicolon ∷ []) (Around aliases c.args.reader.now.nest s)) (CompletesBody aliases c.expect.new.reader) c.args.token.now c.expect.result) (free_seen c.args.place c.args.freed) (c.expect.ensures aliases)
