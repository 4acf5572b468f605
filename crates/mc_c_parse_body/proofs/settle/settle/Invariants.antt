use Rattle.std.proofs.Common.{ℕ, List, map, reverse, vec_len}
use Rattle.mc_c_syntax.specs.Ast.Views.{statement_of}
use Rattle.mc_c_parse_body.specs.Phrases.{AgreeAt}
use Rattle.mc_c_parse_body.specs.Frames.{Around, Behind}
use Rattle.mc_c_parse_body.proofs.settle.settle.Given as goal

abbrev pub invariant-turns : goal.invariant-turns
invariant-turns l = (aliases : List (List ℕ)) → AgreeAt (Around aliases l.fn.nest (statement_of l.fn.statement)) (Behind aliases (reverse l.frames.items) (map statement_of l.body.items) (statement_of l.statement)) l.token

abbrev pub decreases-turns : goal.decreases-turns
decreases-turns l = vec_len l.frames
