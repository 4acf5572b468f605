-- What is asked of the tokens after a statement, by what it stands in.
use Rattle.std.specs.Prelude.{ℕ, List, [], ◌∷◌, ◌++◌, codes, map, reverse}
use Rattle.mc_base.specs.declared.text.place.Place.{Place}
use Rattle.mc_base.specs.declared.text.token.Token.{Token}
use Rattle.mc_c_syntax.specs.declared.ast.class.Class.TheVariants as Class
use Rattle.mc_c_syntax.specs.Ast.Names.{Tokens, IsWord, IsNoElse}
use Rattle.mc_c_syntax.specs.Ast.Trees.{Cond, Stmt, block, if_only, if_else, while_loop, do_loop, for_loop, stmts_of}
use Rattle.mc_c_syntax.specs.Ast.Views.{condition_of, statement_of, head_of}
use Rattle.mc_c_syntax.specs.Ast.Grammar.{IsStatement}
use Rattle.mc_c_parse_expr.specs.Turns.{InTurn}
use Rattle.mc_c_parse_simple.specs.Phrases.{Ended}
use Rattle.mc_c_parse_body.specs.Phrases.{Expects, Conditions, Statements, Listed}
use Rattle.mc_c_parse_body.specs.declared.frames.Frame.{Frame}
use Rattle.mc_c_parse_body.specs.declared.frames.Nest.{Nest}

-- after statements of a block: more of them, the `}`, and what follows the block
abbrev pub InBlock : List (List ℕ) → List Stmt → (List Stmt → Tokens → Tokens → List Stmt → Type 0) → Tokens → Tokens → List Stmt → Type 0
InBlock aliases before next = InTurn (Listed aliases before) (λ ss. Expects (Class.CloseBrace ∷ []) (next ss))

-- after the first part of an `if`: an `else` with the second part, or no `else`
pub data BehindFirst (aliases : List (List ℕ)) (place : Place) (c : Cond)
    (next : Stmt → Tokens → Tokens → List Stmt → Type 0) (s : Stmt) : Tokens → Tokens → List Stmt → Type 0 where
  only : {tokens rest : Tokens} {all : List Stmt} → IsNoElse tokens → next (if_only place c s) tokens rest all
      → BehindFirst aliases place c next s tokens rest all
  otherwise : {t : Stmt} {token : Token} {tokens mid rest : Tokens} {all : List Stmt} → IsWord (codes "else") token
      → IsStatement aliases t tokens mid → next (if_else place c s t) mid rest all
      → BehindFirst aliases place c next s (token ∷ tokens) rest all

-- after the body of a `do`
abbrev pub BehindDo : Place → (Stmt → Tokens → Tokens → List Stmt → Type 0) → Stmt → Tokens → Tokens → List Stmt → Type 0
BehindDo place next s = Expects (Class.While ∷ Class.OpenParen ∷ [])
    (InTurn Conditions (λ c. Expects (Class.CloseParen ∷ Class.Semicolon ∷ []) (next (do_loop place s c))))

-- after a statement in this frame
abbrev pub Inside : List (List ℕ) → Frame → (Stmt → Tokens → Tokens → List Stmt → Type 0) → Stmt → Tokens → Tokens → List Stmt → Type 0
Inside aliases (Frame.Block place before) next s = InBlock aliases (map statement_of before.items ++ s ∷ [])
    (λ ss. next (block place (stmts_of ss)))
Inside aliases (Frame.If place c) next s = BehindFirst aliases place (condition_of c) next s
Inside aliases (Frame.Else place c first) next s = next (if_else place (condition_of c) (statement_of first.value) s)
Inside aliases (Frame.While place c) next s = next (while_loop place (condition_of c) s)
Inside aliases (Frame.Do place) next s = BehindDo place next s
Inside aliases (Frame.For h) next s = next (for_loop (head_of h.value) s)

-- after a statement in these frames, of which the innermost comes first, in a body
abbrev pub Behind : List (List ℕ) → List Frame → List Stmt → Stmt → Tokens → Tokens → List Stmt → Type 0
Behind aliases [] body s = InBlock aliases (body ++ s ∷ []) Ended
Behind aliases (frame ∷ frames) body s = Inside aliases frame (Behind aliases frames body) s

-- where a statement begins; at the end of a block or the body its `}` may stand
abbrev pub AtStart : List (List ℕ) → List Frame → List Stmt → Tokens → Tokens → List Stmt → Type 0
AtStart aliases [] body = InBlock aliases body Ended
AtStart aliases (Frame.Block place before ∷ frames) body = InBlock aliases (map statement_of before.items)
    (λ ss. Behind aliases frames body (block place (stmts_of ss)))
AtStart aliases (Frame.If place c ∷ frames) body = InTurn (Statements aliases) (Behind aliases (Frame.If place c ∷ frames) body)
AtStart aliases (Frame.Else place c s ∷ frames) body = InTurn (Statements aliases) (Behind aliases (Frame.Else place c s ∷ frames) body)
AtStart aliases (Frame.While place c ∷ frames) body = InTurn (Statements aliases) (Behind aliases (Frame.While place c ∷ frames) body)
AtStart aliases (Frame.Do place ∷ frames) body = InTurn (Statements aliases) (Behind aliases (Frame.Do place ∷ frames) body)
AtStart aliases (Frame.For h ∷ frames) body = InTurn (Statements aliases) (Behind aliases (Frame.For h ∷ frames) body)

-- the frames, the innermost first
abbrev pub frames_of : Nest → List Frame
frames_of nest = reverse nest.frames.items

-- the statements of the body so far
abbrev pub body_of : Nest → List Stmt
body_of nest = map statement_of nest.body.items

-- after a statement in this nest
abbrev pub Around : List (List ℕ) → Nest → Stmt → Tokens → Tokens → List Stmt → Type 0
Around aliases nest = Behind aliases (frames_of nest) (body_of nest)
