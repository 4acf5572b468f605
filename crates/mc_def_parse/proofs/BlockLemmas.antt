-- The transitions of blocks and heads.
use Rattle.std.proofs.Common.{List, [], ◌∷◌, refl}
use Rattle.mc_base.specs.declared.text.token.Token.{Token}
use Rattle.mc_c_syntax.specs.declared.ast.trees.Name.{Name}
use Rattle.mc_c_syntax.specs.Ast.Names.{Tokens}
use Rattle.mc_c_syntax.specs.Ast.Readers.{IsStuckAt}
use Rattle.mc_def_parse.specs.declared.symbols.Symbol.TheVariants as Symbol
use Rattle.mc_def_parse.specs.declared.tree.Content.{Content}
use Rattle.mc_def_parse.specs.declared.tree.Block.{Block}
use Rattle.mc_def_parse.specs.declared.tree.Parameter.{Parameter}
use Rattle.mc_def_parse.specs.declared.tree.Head.{Head}
use Rattle.mc_def_parse.specs.Grammar.{Is, last_content, next_content, last_parameter, next_parameter}
use Rattle.mc_def_parse.specs.Steps.{Takes, First, Gives}
use Rattle.mc_def_parse.specs.Readers.{Stops}
use Rattle.mc_def_parse.specs.Blocks.{ContentsStop, FieldStops}
use Rattle.mc_def_parse.specs.Heads.{ParametersEnd, KindEnds}

comma_forward : {shape : Name} {cs : List Content} {block : Block} {token : Token} {tokens rest : Tokens} → Is Symbol.Comma token → ContentsStop shape cs (token ∷ tokens) rest block → FieldStops shape cs tokens rest block
comma_forward i (all, close, stop, last_content, c, s, same) = absurd (cc)
comma_forward i (all, close, stop, next_content comma f colon x more, c, s, same) = (f, (colon, (x, (all, close, stop, more, c, s, same))))

comma_backward : {shape : Name} {cs : List Content} {block : Block} {token : Token} (tokens : Tokens) {rest : Tokens} → Is Symbol.Comma token → FieldStops shape cs tokens rest block → ContentsStop shape cs (token ∷ tokens) rest block
comma_backward [] i n = absurd n
comma_backward (f ∷ []) i n = absurd n.1
comma_backward (f ∷ colon ∷ []) i n = absurd n.1.1
comma_backward (f ∷ colon ∷ x ∷ tokens) i (nf, (nc, (nx, (all, close, stop, more, c, s, same)))) = (all, close, stop, next_content i nf nc nx more, c, s, same)

pub contents_comma : (shape : Name) (cs : List Content) {token : Token} → Is Symbol.Comma token → Takes (ContentsStop shape cs) (FieldStops shape cs) token
contents_comma shape cs i = record { forward = λ tokens rest x n. comma_forward i n; backward = λ tokens rest x l. comma_backward tokens i l }

abbrev pub block_at : Name → List Content → Token → Block
block_at shape cs token = record { shape = shape; contents = cs; end = token.place }

close_forward : {shape : Name} {cs : List Content} {block : Block} {token : Token} {tokens rest : Tokens} → Is Symbol.CloseBrace token → ContentsStop shape cs (token ∷ tokens) rest block → Stops (block_at shape cs token) tokens rest block
close_forward i (all, close, stop, last_content, c, s, same) = (s, (refl, same))
close_forward i (all, close, stop, next_content comma f colon x more, c, s, same) = absurd (cc)

close_backward : {shape : Name} {cs : List Content} {block : Block} {token : Token} (tokens : Tokens) {rest : Tokens} → Is Symbol.CloseBrace token → Stops (block_at shape cs token) tokens rest block → ContentsStop shape cs (token ∷ tokens) rest block
close_backward [] i n = absurd n
close_backward {shape} {cs} {block} {token} (stop ∷ tokens) i (s, (behind, same)) = rw behind (cs, token, stop, last_content, i, s, same)

pub contents_close : (shape : Name) (cs : List Content) {token : Token} → Is Symbol.CloseBrace token → Takes (ContentsStop shape cs) (Stops (block_at shape cs token)) token
contents_close shape cs i = record { forward = λ tokens rest x n. close_forward i n; backward = λ tokens rest x l. close_backward tokens i l }

no_contents : {shape : Name} {cs : List Content} {block : Block} {token : Token} {tokens rest : Tokens} → (Is Symbol.Comma token → ⊥) → (Is Symbol.CloseBrace token → ⊥) → ContentsStop shape cs (token ∷ tokens) rest block → ⊥
no_contents a b (all, close, stop, last_content, c, s, same) = b c
no_contents a b (all, close, stop, next_content comma f colon x more, c, s, same) = a comma

pub contents_stuck : (shape : Name) (cs : List Content) {token : Token} → (Is Symbol.Comma token → ⊥) → (Is Symbol.CloseBrace token → ⊥) → IsStuckAt (ContentsStop shape cs) token
contents_stuck shape cs a b = λ tokens rest x n. no_contents a b n

-- ---- parameters
next_forward : {p : Name} {ps : List Parameter} {head : Head} {token : Token} {tokens rest : Tokens} → Is Symbol.Comma token → ParametersEnd p ps (token ∷ tokens) rest head → KindEnds p ps tokens rest head
next_forward i (all, close, brace, last_parameter, c, b, same) = absurd (cc)
next_forward i (all, close, brace, next_parameter kind comma k x more, c, b, same) = (kind, k, (x, (all, close, brace, more, c, b, same)))

next_backward : {p : Name} {ps : List Parameter} {head : Head} {token : Token} (tokens : Tokens) {rest : Tokens} → Is Symbol.Comma token → KindEnds p ps tokens rest head → ParametersEnd p ps (token ∷ tokens) rest head
next_backward [] i n = absurd n
next_backward (k ∷ []) i (kind, is_kind, n) = absurd n
next_backward (k ∷ x ∷ tokens) i (kind, is_kind, (nx, (all, close, brace, more, c, b, same))) = (all, close, brace, next_parameter kind i is_kind nx more, c, b, same)

pub parameters_comma : (p : Name) (ps : List Parameter) {token : Token} → Is Symbol.Comma token → Takes (ParametersEnd p ps) (KindEnds p ps) token
parameters_comma p ps i = record { forward = λ tokens rest x n. next_forward i n; backward = λ tokens rest x l. next_backward tokens i l }

abbrev pub head_of : Name → List Parameter → Head
head_of p ps = record { name = p; params = ps }

end_forward : {p : Name} {ps : List Parameter} {head : Head} {token : Token} {tokens rest : Tokens} → Is Symbol.Close token → ParametersEnd p ps (token ∷ tokens) rest head → First (Is Symbol.OpenBrace) (λ brace. Gives (head_of p ps)) tokens rest head
end_forward i (all, close, brace, last_parameter, c, b, same) = (b, (refl, same))
end_forward i (all, close, brace, next_parameter kind comma k x more, c, b, same) = absurd (cc)

end_backward : {p : Name} {ps : List Parameter} {head : Head} {token : Token} (tokens : Tokens) {rest : Tokens} → Is Symbol.Close token → First (Is Symbol.OpenBrace) (λ brace. Gives (head_of p ps)) tokens rest head → ParametersEnd p ps (token ∷ tokens) rest head
end_backward [] i n = absurd n
end_backward {p} {ps} {head} {token} (brace ∷ tokens) i (b, (behind, same)) = rw behind (ps, token, brace, last_parameter, i, b, same)

pub parameters_close : (p : Name) (ps : List Parameter) {token : Token} → Is Symbol.Close token → Takes (ParametersEnd p ps) (First (Is Symbol.OpenBrace) (λ brace. Gives (head_of p ps))) token
parameters_close p ps i = record { forward = λ tokens rest x n. end_forward i n; backward = λ tokens rest x l. end_backward tokens i l }

no_parameters : {p : Name} {ps : List Parameter} {head : Head} {token : Token} {tokens rest : Tokens} → (Is Symbol.Comma token → ⊥) → (Is Symbol.Close token → ⊥) → ParametersEnd p ps (token ∷ tokens) rest head → ⊥
no_parameters a b (all, close, brace, last_parameter, c, br, same) = b c
no_parameters a b (all, close, brace, next_parameter kind comma k x more, c, br, same) = a comma

pub parameters_stuck : (p : Name) (ps : List Parameter) {token : Token} → (Is Symbol.Comma token → ⊥) → (Is Symbol.Close token → ⊥) → IsStuckAt (ParametersEnd p ps) token
parameters_stuck p ps a b = λ tokens rest x n. no_parameters a b n
