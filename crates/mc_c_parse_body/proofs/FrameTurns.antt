-- What a token does to blocks and frames.
use Rattle.std.proofs.Common.{◌≡◌, ℕ, suc, List, [], ◌∷◌, ◌++◌, ◌⊎◌, inl, refl, sym, ◌∙◌, ap, subst, map, reverse, length, IsTrue, Vec, Global, arith}
use Rattle.std.specs.Prelude.{codes}
use Rattle.mc_base.specs.declared.text.place.Place.{Place}
use Rattle.mc_base.specs.declared.text.token.Token.{Token}
use Rattle.mc_c_syntax.specs.declared.ast.class.Class.{Class}
use Rattle.mc_c_syntax.specs.declared.ast.trees.Statement.{Statement}
use Rattle.mc_c_syntax.specs.Ast.Trees.{Cond, Stmt, if_only, if_else, block, stmts_of}
use Rattle.mc_c_syntax.specs.Ast.Views.{statement_of}
use Rattle.mc_c_syntax.specs.Ast.Names.{Tokens, IsMark, IsWord, is_in}
use Rattle.mc_c_syntax.specs.Ast.Classes.{IsClass}
use Rattle.mc_c_syntax.specs.Ast.Grammar.{IsStatement, declares_statement, block_statement, empty_statement, simple_statement, free_statement, assert_statement, assume_statement, assume_shape_statement, assert_shape_statement, assert_empty_statement, if_statement, if_else_statement, while_statement, do_statement, for_statement, break_statement, continue_statement, return_statement, return_value, head, no_statement, next_statement}
use Rattle.mc_c_syntax.specs.Ast.Readers.{Takes, Closes, IsStuckAt}
use Rattle.mc_c_parse_expr.specs.Turns.{InTurn, in_turn}
use Rattle.mc_c_parse_simple.specs.Phrases.{Next, next, Ended, ended}
use Rattle.mc_c_parse_simple.proofs.Phrases.{SameAt}
use Rattle.std.proofs.lemmas.List.{reverse-append, map-append}
use Rattle.mc_c_parse_body.specs.Phrases.{AgreeAt, Expects, Statements}
use Rattle.mc_c_parse_body.specs.Frames.{InBlock, BehindFirst, only, otherwise, Inside, Behind, AtStart, frames_of, body_of}
use Rattle.mc_c_parse_body.specs.Bodies.{CompletesBody, IsBodyStep}
use Rattle.mc_c_parse_body.specs.declared.frames.Frame.{Frame}
use Rattle.mc_c_parse_body.specs.declared.frames.Nest.{Nest}
use Rattle.mc_c_parse_body.specs.declared.state.BodyReader.{BodyReader}
use Rattle.mc_c_parse_body.specs.declared.state.BodyStep.{BodyStep}
use Rattle.mc_c_parse_body.proofs.Unique.{class_of_mark}
use Rattle.mc_c_parse_body.proofs.LineTurns as lines

module _ (aliases : List (List ℕ)) where
  -- no statement begins with a `}`
  pub statement_no_close : {s : Stmt} {token : Token} {tokens rest : Tokens} → IsMark (codes "}") token → IsStatement aliases s (token ∷ tokens) rest → ⊥
  statement_no_close is (declares_statement d) = lines.no_declaration Class.CloseBrace is (λ e. cc) (λ e. cc) (λ e. cc) d
  statement_no_close {token = token} is (block_statement b ss a) = let e : Class.OpenBrace ≡ Class.CloseBrace = class_of_mark Class.OpenBrace Class.CloseBrace token tt b is in cc
  statement_no_close {token = token} is (empty_statement b) = let e : Class.Semicolon ≡ Class.CloseBrace = class_of_mark Class.Semicolon Class.CloseBrace token tt b is in cc
  statement_no_close is (simple_statement s m) = lines.no_simple Class.CloseBrace is (λ e. cc) (λ e. cc) (λ e. cc) s
  statement_no_close {token = token} is (free_statement w b e a m) = let e : Class.Free ≡ Class.CloseBrace = class_of_mark Class.Free Class.CloseBrace token tt w is in cc
  statement_no_close {token = token} is (assert_statement w b e a m) = let e : Class.Assert ≡ Class.CloseBrace = class_of_mark Class.Assert Class.CloseBrace token tt w is in cc
  statement_no_close {token = token} is (assume_statement w b e a m) = let e : Class.Assume ≡ Class.CloseBrace = class_of_mark Class.Assume Class.CloseBrace token tt w is in cc
  statement_no_close {token = token} is (assume_shape_statement w b p c v m a s) = let e : Class.AssumeShape ≡ Class.CloseBrace = class_of_mark Class.AssumeShape Class.CloseBrace token tt w is in cc
  statement_no_close {token = token} is (assert_shape_statement w b p c v m a s) = let e : Class.AssertShape ≡ Class.CloseBrace = class_of_mark Class.AssertShape Class.CloseBrace token tt w is in cc
  statement_no_close {token = token} is (assert_empty_statement w b a s) = let e : Class.AssertEmpty ≡ Class.CloseBrace = class_of_mark Class.AssertEmpty Class.CloseBrace token tt w is in cc
  statement_no_close {token = token} is (if_statement w b c a s n) = let e : Class.If ≡ Class.CloseBrace = class_of_mark Class.If Class.CloseBrace token tt w is in cc
  statement_no_close {token = token} is (if_else_statement w b c a s o t) = let e : Class.If ≡ Class.CloseBrace = class_of_mark Class.If Class.CloseBrace token tt w is in cc
  statement_no_close {token = token} is (while_statement w b c a s) = let e : Class.While ≡ Class.CloseBrace = class_of_mark Class.While Class.CloseBrace token tt w is in cc
  statement_no_close {token = token} is (do_statement w s g b c a m) = let e : Class.Do ≡ Class.CloseBrace = class_of_mark Class.Do Class.CloseBrace token tt w is in cc
  statement_no_close {token = token} is (for_statement (head w b s c m l a) t) = let e : Class.For ≡ Class.CloseBrace = class_of_mark Class.For Class.CloseBrace token tt w is in cc
  statement_no_close {token = token} is (break_statement w m) = let e : Class.Break ≡ Class.CloseBrace = class_of_mark Class.Break Class.CloseBrace token tt w is in cc
  statement_no_close {token = token} is (continue_statement w m) = let e : Class.Continue ≡ Class.CloseBrace = class_of_mark Class.Continue Class.CloseBrace token tt w is in cc
  statement_no_close {token = token} is (return_statement w m) = let e : Class.Return ≡ Class.CloseBrace = class_of_mark Class.Return Class.CloseBrace token tt w is in cc
  statement_no_close {token = token} is (return_value w r m) = let e : Class.Return ≡ Class.CloseBrace = class_of_mark Class.Return Class.CloseBrace token tt w is in cc

  -- at a `}` a block ends
  pub block_close : (before : List Stmt) (goes : List Stmt → Tokens → Tokens → List Stmt → Type 0) {token : Token} → IsMark (codes "}") token → Takes [] (InBlock aliases before goes) (goes before) token
  block_close before goes {token} is = record { forward = go; backward = λ tokens rest y h. in_turn no_statement (next is h) }
    where
      go : (tokens rest : Tokens) (y : List Stmt) → InBlock aliases before goes (token ∷ tokens) rest y → goes before tokens rest y ⊎ ((rest ≡ token ∷ tokens) × IsTrue (is_in [] token.text))
      go tokens rest y (in_turn no_statement (next p h)) = inl h
      go tokens rest y (in_turn (next_statement s m) h) = absurd (statement_no_close is s)

  -- at no `}` a statement begins
  pub block_goes_on : (before : List Stmt) (goes : List Stmt → Tokens → Tokens → List Stmt → Type 0) {token : Token} → ¬ IsMark (codes "}") token → SameAt (InBlock aliases before goes) (InTurn (Statements aliases) (λ s. InBlock aliases (before ++ s ∷ []) goes)) token
  block_goes_on before goes {token} isnt = record { forward = go; backward = back }
    where
      go : (tokens rest : Tokens) (y : List Stmt) → InBlock aliases before goes (token ∷ tokens) rest y → InTurn (Statements aliases) (λ s. InBlock aliases (before ++ s ∷ []) goes) (token ∷ tokens) rest y
      go tokens rest y (in_turn no_statement (next p h)) = absurd (isnt p)
      go tokens rest y (in_turn (next_statement s m) h) = in_turn s (in_turn m h)

      back : (tokens rest : Tokens) (y : List Stmt) → InTurn (Statements aliases) (λ s. InBlock aliases (before ++ s ∷ []) goes) (token ∷ tokens) rest y → InBlock aliases before goes (token ∷ tokens) rest y
      back tokens rest y (in_turn s (in_turn m h)) = in_turn (next_statement s m) h

  -- at the end of the body
  pub body_close : (before : List Stmt) {token : Token} → IsMark (codes "}") token → Closes (InBlock aliases before Ended) token before
  body_close before {token} is = record { forward = go; backward = λ tokens. in_turn no_statement (next is ended) }
    where
      go : (tokens rest : Tokens) (y : List Stmt) → InBlock aliases before Ended (token ∷ tokens) rest y → (rest ≡ tokens) × (y ≡ before)
      go tokens rest y (in_turn no_statement (next p ended)) = (refl, refl)
      go tokens rest y (in_turn (next_statement s m) h) = absurd (statement_no_close is s)

  -- where a single statement is wanted, no `}` comes
  one_no_close : (goes : Stmt → Tokens → Tokens → List Stmt → Type 0) {token : Token} → IsMark (codes "}") token → IsStuckAt (InTurn (Statements aliases) goes) token
  one_no_close goes is tokens rest y (in_turn s h) = statement_no_close is s

  pub frame_no_close : (frame : Frame) (frames : List Frame) (body : List Stmt) {token : Token} → ((place : Place) (before : _) → frame ≡ Frame.Block place before → ⊥) → IsMark (codes "}") token → IsStuckAt (AtStart aliases (frame ∷ frames) body) token
  frame_no_close (Frame.Block place before) frames body isnt is = absurd (isnt place before refl)
  frame_no_close (Frame.If place c) frames body isnt is = one_no_close (Behind aliases (Frame.If place c ∷ frames) body) is
  frame_no_close (Frame.Else place c s) frames body isnt is = one_no_close (Behind aliases (Frame.Else place c s ∷ frames) body) is
  frame_no_close (Frame.While place c) frames body isnt is = one_no_close (Behind aliases (Frame.While place c ∷ frames) body) is
  frame_no_close (Frame.Do place) frames body isnt is = one_no_close (Behind aliases (Frame.Do place ∷ frames) body) is
  frame_no_close (Frame.For h) frames body isnt is = one_no_close (Behind aliases (Frame.For h ∷ frames) body) is

  same_here : {X : Type 0} {now : Tokens → Tokens → X → Type 0} {token : Token} → SameAt now now token
  same_here = record { forward = λ tokens rest x h. h; backward = λ tokens rest x h. h }

  -- where no `}` comes, a statement begins
  pub start_goes_on : (frames : List Frame) (body : List Stmt) {token : Token} → ¬ IsMark (codes "}") token → SameAt (AtStart aliases frames body) (InTurn (Statements aliases) (Behind aliases frames body)) token
  start_goes_on [] body isnt = block_goes_on body Ended isnt
  start_goes_on (Frame.Block place before ∷ frames) body isnt = block_goes_on (map statement_of before.items) (λ ss. Behind aliases frames body (block place (stmts_of ss))) isnt
  start_goes_on (Frame.If place c ∷ frames) body isnt = same_here
  start_goes_on (Frame.Else place c s ∷ frames) body isnt = same_here
  start_goes_on (Frame.While place c ∷ frames) body isnt = same_here
  start_goes_on (Frame.Do place ∷ frames) body isnt = same_here
  start_goes_on (Frame.For h ∷ frames) body isnt = same_here

  -- after the first part of an `if`, at an `else`
  pub first_else : (place : Place) (c : Cond) (goes : Stmt → Tokens → Tokens → List Stmt → Type 0) (s : Stmt) {token : Token} → IsWord (codes "else") token → SameAt (BehindFirst aliases place c goes s) (Expects (Class.Else ∷ []) (InTurn (Statements aliases) (λ t. goes (if_else place c s t)))) token
  first_else place c goes s {token} is = record { forward = go; backward = back }
    where
      go : (tokens rest : Tokens) (y : List Stmt) → BehindFirst aliases place c goes s (token ∷ tokens) rest y → Next (λ t. IsClass t Class.Else) (λ t. InTurn (Statements aliases) (λ u. goes (if_else place c s u))) (token ∷ tokens) rest y
      go tokens rest y (only n h) = absurd (n is)
      go tokens rest y (otherwise w t h) = next w (in_turn t h)

      back : (tokens rest : Tokens) (y : List Stmt) → Next (λ t. IsClass t Class.Else) (λ t. InTurn (Statements aliases) (λ u. goes (if_else place c s u))) (token ∷ tokens) rest y → BehindFirst aliases place c goes s (token ∷ tokens) rest y
      back tokens rest y (next w (in_turn t h)) = otherwise w t h

  -- and at no `else`
  pub first_only : (place : Place) (c : Cond) (goes : Stmt → Tokens → Tokens → List Stmt → Type 0) (s : Stmt) {token : Token} → ¬ IsWord (codes "else") token → SameAt (BehindFirst aliases place c goes s) (goes (if_only place c s)) token
  first_only place c goes s {token} isnt = record { forward = go; backward = λ tokens rest y h. only isnt h }
    where
      go : (tokens rest : Tokens) (y : List Stmt) → BehindFirst aliases place c goes s (token ∷ tokens) rest y → goes (if_only place c s) (token ∷ tokens) rest y
      go tokens rest y (only n h) = h
      go tokens rest y (otherwise w t h) = absurd (isnt w)

-- where a statement begins in a nest with one frame more
pub start_within : (aliases : List (List ℕ)) (reader : BodyReader) (nest outer : Nest) (frame : Frame) (classes : List Class) (token : Token) (step : BodyStep) → frames_of nest ≡ frame ∷ frames_of outer → nest.body ≡ outer.body → IsBodyStep (Expects classes (AtStart aliases (frames_of nest) (body_of nest))) (CompletesBody aliases reader) token step → IsBodyStep (Expects classes (AtStart aliases (frame ∷ frames_of outer) (body_of outer))) (CompletesBody aliases reader) token step
start_within aliases reader nest outer frame classes token step frames body h =
    subst (λ (b : List Stmt). IsBodyStep (Expects classes (AtStart aliases (frame ∷ frames_of outer) b)) (CompletesBody aliases reader) token step) (ap (λ b. map statement_of b.items) body)
    (subst (λ (fs : List Frame). IsBodyStep (Expects classes (AtStart aliases fs (body_of nest))) (CompletesBody aliases reader) token step) frames h)

pub later_within : (aliases : List (List ℕ)) (nest outer : Nest) (frame : Frame) (token : Token) {now : Tokens → Tokens → List Stmt → Type 0} → frames_of nest ≡ frame ∷ frames_of outer → nest.body ≡ outer.body → Takes [] now (AtStart aliases (frame ∷ frames_of outer) (body_of outer)) token → Takes [] now (AtStart aliases (frames_of nest) (body_of nest)) token
later_within aliases nest outer frame token {now} frames body h =
    subst (λ (fs : List Frame). Takes [] now (AtStart aliases fs (body_of nest)) token) (sym frames)
    (subst (λ (b : List Stmt). Takes [] now (AtStart aliases (frame ∷ frames_of outer) b) token) (sym (ap (λ b. map statement_of b.items) body)) h)

-- the last of frames is the innermost
pub innermost : (frames : List Frame) (frame : Frame) → reverse (frames ++ frame ∷ []) ≡ frame ∷ reverse frames
innermost frames frame = reverse-append frames (frame ∷ [])

pub agree_here : {X : Type 0} {now : Tokens → Tokens → X → Type 0} {token : Token} → AgreeAt now now token
agree_here = record { forward = λ tokens rest x h. h; backward = λ tokens rest x h. h }

pub agree_along : {X : Type 0} {one two three : Tokens → Tokens → X → Type 0} {token : Token} → AgreeAt one two token → AgreeAt two three token → AgreeAt one three token
agree_along a b = record { forward = λ tokens rest x h. b.forward tokens rest x (a.forward tokens rest x h); backward = λ tokens rest x h. a.backward tokens rest x (b.backward tokens rest x h) }

-- the innermost frame turns
pub turn_along : (aliases : List (List ℕ)) (items more : List Frame) (frame : Frame) (body : List Stmt) (s : Stmt) {now later : Tokens → Tokens → List Stmt → Type 0} {token : Token} → items ≡ more ++ frame ∷ [] → AgreeAt now (Behind aliases (reverse items) body s) token → AgreeAt (Inside aliases frame (Behind aliases (reverse more) body) s) later token → AgreeAt now later token
turn_along aliases items more frame body s {now} {later} {token} e a b = agree_along (subst (λ (fs : List Frame). AgreeAt now (Behind aliases fs body s) token) (ap reverse e ∙ innermost more frame) a) b

-- ---- a `}` by the frames that the code holds, of which the innermost comes last

pub body_closed : (aliases : List (List ℕ)) (items : List Frame) (body : List Stmt) (token : Token) → IsMark (codes "}") token → items ≡ [] → Closes (AtStart aliases (reverse items) body) token body
body_closed aliases items body token is e = subst (λ (fs : List Frame). Closes (AtStart aliases (reverse fs) body) token body) (sym e) (body_close aliases body is)

pub frame_closed : (aliases : List (List ℕ)) (reader : BodyReader) (items more : List Frame) (frame : Frame) (body : List Stmt) (token : Token) (step : BodyStep) → items ≡ more ++ frame ∷ [] → IsBodyStep (AtStart aliases (frame ∷ reverse more) body) (CompletesBody aliases reader) token step → IsBodyStep (AtStart aliases (reverse items) body) (CompletesBody aliases reader) token step
frame_closed aliases reader items more frame body token step e h = subst (λ (fs : List Frame). IsBodyStep (AtStart aliases fs body) (CompletesBody aliases reader) token step) (sym (ap reverse e ∙ innermost more frame)) h

pub block_closed : (aliases : List (List ℕ)) (frames : List Frame) (place : Place) (before : Vec Statement Global) (body : List Stmt) (s : Stmt) (token : Token) → IsMark (codes "}") token → s ≡ block place (stmts_of (map statement_of before.items)) → Takes [] (AtStart aliases (Frame.Block place before ∷ frames) body) (Behind aliases frames body s) token
block_closed aliases frames place before body s token is whole =
    subst (λ (t : Stmt). Takes [] (AtStart aliases (Frame.Block place before ∷ frames) body) (Behind aliases frames body t) token) (sym whole)
    (block_close aliases (map statement_of before.items) (λ ss. Behind aliases frames body (block place (stmts_of ss))) is)

pub nothing_of : {X : Type 0} (xs : List X) → length xs ≡ 0 → xs ≡ []
nothing_of [] e = refl
nothing_of (x ∷ xs) e = absurd (let h : suc (length xs) ≡ 0 = e in omega arith)

-- no frame is left
pub settled_none : (aliases : List (List ℕ)) (items more : List Frame) (before after : List Statement) (s : Statement) {now : Tokens → Tokens → List Stmt → Type 0} {token : Token} → items ≡ [] → more ≡ [] → after ≡ before ++ s ∷ [] → AgreeAt now (Behind aliases (reverse items) (map statement_of before) (statement_of s)) token → AgreeAt now (AtStart aliases (reverse more) (map statement_of after)) token
settled_none aliases items more before after s {now} {token} none gone with_it h =
    subst (λ (ss : List Statement). AgreeAt now (AtStart aliases (reverse more) (map statement_of ss)) token) (sym with_it)
    (subst (λ (ss : List Stmt). AgreeAt now (AtStart aliases (reverse more) ss) token) (sym (map-append statement_of before (s ∷ [])))
    (subst (λ (fs : List Frame). AgreeAt now (AtStart aliases (reverse fs) (map statement_of before ++ statement_of s ∷ [])) token) (sym gone)
    (subst (λ (fs : List Frame). AgreeAt now (Behind aliases (reverse fs) (map statement_of before) (statement_of s)) token) none h)))

-- one frame more
pub agree_within : (aliases : List (List ℕ)) (nest : Nest) (frames : List Frame) (body : List Stmt) (classes : List Class) (frame : Frame) {now : Tokens → Tokens → List Stmt → Type 0} {token : Token} → frames_of nest ≡ frame ∷ frames → body_of nest ≡ body → AgreeAt now (Expects classes (AtStart aliases (frame ∷ frames) body)) token → AgreeAt now (Expects classes (AtStart aliases (frames_of nest) (body_of nest))) token
agree_within aliases nest frames body classes frame {now} {token} f b h =
    subst (λ (fs : List Frame). AgreeAt now (Expects classes (AtStart aliases fs (body_of nest))) token) (sym f)
    (subst (λ (ss : List Stmt). AgreeAt now (Expects classes (AtStart aliases (frame ∷ frames) ss)) token) (sym b) h)
