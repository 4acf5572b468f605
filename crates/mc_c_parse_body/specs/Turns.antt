-- What becomes of a statement in a frame, by the token after it.
use Rattle.std.specs.Prelude.{ℕ, List, [], ◌∷◌}
use Rattle.mc_c_syntax.specs.declared.ast.class.Class.TheVariants as Class
use Rattle.mc_c_syntax.specs.Ast.Names.{Tokens}
use Rattle.mc_c_syntax.specs.Ast.Trees.{Stmt}
use Rattle.mc_c_syntax.specs.Ast.Views.{statement_of}
use Rattle.mc_c_parse_body.specs.Phrases.{Expects}
use Rattle.mc_c_parse_body.specs.Frames.{Behind, BehindDo, AtStart, Around, frames_of, body_of}
use Rattle.mc_c_parse_body.specs.declared.frames.Frame.{Frame}
use Rattle.mc_c_parse_body.specs.declared.settle.Turn.{Turn}
use Rattle.mc_c_parse_body.specs.declared.settle.Settled.{Settled}

-- what is asked of the tokens after, in the frames around
abbrev pub AtTurn : List (List ℕ) → List Frame → List Stmt → Turn → Tokens → Tokens → List Stmt → Type 0
AtTurn aliases frames body (Turn.Whole s) = Behind aliases frames body (statement_of s)
AtTurn aliases frames body (Turn.Start frame) = AtStart aliases (frame ∷ frames) body
AtTurn aliases frames body (Turn.Else frame) = Expects (Class.Else ∷ []) (AtStart aliases (frame ∷ frames) body)
AtTurn aliases frames body (Turn.Do place s) = BehindDo place (Behind aliases frames body) (statement_of s)

-- the same, once no frame turns any more
abbrev pub AtSettled : List (List ℕ) → Settled → Tokens → Tokens → List Stmt → Type 0
AtSettled aliases (Settled.Start nest) = AtStart aliases (frames_of nest) (body_of nest)
AtSettled aliases (Settled.Else nest) = Expects (Class.Else ∷ []) (AtStart aliases (frames_of nest) (body_of nest))
AtSettled aliases (Settled.Do nest place s) = BehindDo place (Around aliases nest) (statement_of s)
