-- The transitions of functions.
use Rattle.std.specs.Prelude.{Box}
use Rattle.std.specs.declared.alloc.Global.{Global}
use native.Mathlib.Omega.{arith}
use Rattle.std.proofs.Common.{◌≡◌, ℕ, List, [], ◌∷◌, Some, None, Option, refl, inl}
use Rattle.std.specs.Prelude.{codes}
use Rattle.mc_base.specs.declared.text.place.Place.{Place}
use Rattle.mc_base.specs.declared.text.token.Token.{Token}
use Rattle.mc_c_syntax.specs.declared.ast.class.Class.{Class}
use Rattle.mc_c_syntax.specs.Ast.Names.{Tokens, IsMark}
use Rattle.mc_c_syntax.specs.Ast.Classes.{IsClass}
use Rattle.mc_c_syntax.specs.Ast.Readers.{Takes, Closes, IsStuckAt, IsSame}
use Rattle.mc_c_syntax.specs.Ast.Trees.{Stmt, BodyTree, FunctionTree, ParametersTree}
use Rattle.mc_c_syntax.specs.Ast.Grammar.{MoreStatements, IsParameters, IsBody, prototype, body, IsStatic, IsFunction, defined}
use Rattle.mc_c_parse_expr.specs.Turns.{in_turn}
use Rattle.mc_c_parse_simple.specs.Phrases.{next, ended}
use Rattle.mc_c_parse_body.specs.Bodies.{Bodies, CompletesBody}
use Rattle.mc_c_parse_body.specs.declared.state.BodyReader.{BodyReader}
use Rattle.mc_c_parse.specs.declared.header.Header.{Header}
use Rattle.mc_c_parse.specs.Threads.{Then, Gives}
use Rattle.mc_c_parse.specs.declared.function.Signature.{Signature}
use Rattle.mc_c_parse.specs.declared.function.FunctionReader.{FunctionReader}
use Rattle.mc_c_parse.specs.Functions.{IsHeader, is_header, EndsFunction, BehindHeader, IsWithinBody}
use Rattle.mc_c_parse.proofs.Marks.{only_semicolon, only_open_brace}

-- statements and a `}`
abbrev pub IsBodyOf : List (List ℕ) → Tokens → Tokens → List Stmt → Type 0
IsBodyOf aliases tokens rest ss = (after : Token) × MoreStatements aliases [] tokens ss (after ∷ rest) × IsMark (codes "}") after

pub body_of_bodies : {aliases : List (List ℕ)} {tokens rest : Tokens} {ss : List Stmt} → Bodies aliases tokens rest ss → IsBodyOf aliases tokens rest ss
body_of_bodies (in_turn listed (next is ended)) = (_, listed, is)

pub bodies_of_body : {aliases : List (List ℕ)} {tokens rest : Tokens} {ss : List Stmt} → IsBodyOf aliases tokens rest ss → Bodies aliases tokens rest ss
bodies_of_body (after, listed, is) = in_turn listed (next is ended)

-- a function after `static`, if it has one
abbrev pub FunctionBehind : List (List ℕ) → Option Place → Tokens → Tokens → FunctionTree → Type 0
FunctionBehind aliases place = Then (IsHeader aliases) (λ header. BehindHeader aliases place header)

pub function_splits : {aliases : List (List ℕ)} {f : FunctionTree} {tokens rest : Tokens} → IsFunction aliases f tokens rest → (place : Option Place) × (mid : Tokens) × IsStatic place tokens mid × FunctionBehind aliases place mid rest f
function_splits (defined fx returned n k ps close b) = (_, _, fx, (_, _, is_header returned n k, (_, _, (_, ps, close), (_, _, b, (refl, refl)))))

behind_joins : {aliases : List (List ℕ)} {place : Option Place} {h : Header} {ps : ParametersTree} {f : FunctionTree} {before tokens mid behind rest : Tokens} {after : Token} → IsStatic place before tokens → IsHeader aliases tokens mid h → IsParameters aliases ps mid (after ∷ behind) → IsMark (codes ")") after → EndsFunction aliases place h ps behind rest f → IsFunction aliases f before rest
behind_joins fx (is_header returned n k) ps close (b, end, one, e) = rw (e.0, e.1) (defined fx returned n k ps close one)

pub function_joins : (aliases : List (List ℕ)) {place : Option Place} {f : FunctionTree} {before tokens rest : Tokens} → IsStatic place before tokens → FunctionBehind aliases place tokens rest f → IsFunction aliases f before rest
function_joins aliases fx (h, mid, head, (ps, behind, (after, params, close), more)) = behind_joins fx head params close more

ends : {aliases : List (List ℕ)} {b : Option BodyTree} {token : Token} {tokens rest : Tokens} → IsMark (codes ";") token → IsBody aliases b (token ∷ tokens) rest → (rest ≡ tokens) × (b ≡ None)
ends w (prototype k) = (refl, refl)
ends w (body v ss k) = grind arith

pub body_semicolon : (aliases : List (List ℕ)) {token : Token} → IsMark (codes ";") token → Closes (λ tokens rest (b : Option BodyTree). IsBody aliases b tokens rest) token None
body_semicolon aliases w = record { forward = λ tokens rest b n. ends w n; backward = λ tokens. prototype w }

-- within a body after the `{` at this place
abbrev pub Within : List (List ℕ) → {X : Type 0} → (Option BodyTree → X) → Place → Tokens → Tokens → X → Type 0
Within aliases function place = Then (IsBodyOf aliases) (λ ss. Gives (function (Some (record { place = place; statements = ss }))))

enters : {aliases : List (List ℕ)} {X : Type 0} (function : Option BodyTree → X) {b : Option BodyTree} {x : X} {token : Token} {tokens mid rest : Tokens} → IsMark (codes "{") token → IsBody aliases b (token ∷ tokens) mid → rest ≡ mid → x ≡ function b → Within aliases function token.place tokens rest x
enters function w (prototype k) e f = grind arith
enters function w (body v ss k) e f = (_, _, (_, ss, k), (e, f))

pub body_opens : (aliases : List (List ℕ)) {X : Type 0} (function : Option BodyTree → X) {token : Token} → IsMark (codes "{") token → Takes [] (Then (λ tokens rest (b : Option BodyTree). IsBody aliases b tokens rest) (λ b. Gives (function b))) (Within aliases function token.place) token
body_opens aliases function w = record {
  forward = λ tokens rest x n. inl (enters function w n.2 n.3.0 n.3.1);
  backward = λ tokens rest x n. (_, _, body w n.2.1 n.2.2, n.3);
}

no_body : {aliases : List (List ℕ)} {b : Option BodyTree} {token : Token} {tokens rest : Tokens} (class : Class) → IsClass token class → (class ≡ Class.Semicolon → ⊥) → (class ≡ Class.OpenBrace → ⊥) → IsBody aliases b (token ∷ tokens) rest → ⊥
no_body class c not_semicolon not_open (prototype k) = not_semicolon (only_semicolon class c k)
no_body class c not_semicolon not_open (body v ss k) = not_open (only_open_brace class c v)

pub body_stuck : (aliases : List (List ℕ)) {token : Token} (class : Class) → IsClass token class → (class ≡ Class.Semicolon → ⊥) → (class ≡ Class.OpenBrace → ⊥) → IsStuckAt (λ tokens rest (b : Option BodyTree). IsBody aliases b tokens rest) token
body_stuck aliases class c not_semicolon not_open = λ tokens rest b n. no_body class c not_semicolon not_open n

pub body_enters : (aliases : List (List ℕ)) {X : Type 0} (function : Option BodyTree → X) {token : Token} (reader : BodyReader) → IsMark (codes "{") token → IsSame (CompletesBody aliases reader) (Bodies aliases) → Takes [] (Then (λ tokens rest (b : Option BodyTree). IsBody aliases b tokens rest) (λ b. Gives (function b))) (Then (CompletesBody aliases reader) (λ ss. Gives (function (Some (record { place = token.place; statements = ss }))))) token
body_enters aliases function reader w same = let t = body_opens aliases function w in record {
  forward = λ tokens rest x n. inl (let within = enters function w n.2 n.3.0 n.3.1 in (within.0, within.1, same.backward _ _ _ (bodies_of_body within.2), within.3));
  backward = λ tokens rest x n. t.backward tokens rest x (n.0, n.1, body_of_bodies (same.forward _ _ _ n.2), n.3);
}

pub not_in_body : (reader : FunctionReader) → ((signature : Signature) (place : Place) (inner : Box BodyReader Global) → reader ≡ FunctionReader.Body signature place inner → ⊥) → IsWithinBody reader → ⊥
not_in_body (FunctionReader.Header static_place reader) other within = within
not_in_body (FunctionReader.Parameters static_place header reader) other within = within
not_in_body (FunctionReader.Behind signature) other within = within
not_in_body (FunctionReader.Body signature place inner) other within = other signature place inner refl
