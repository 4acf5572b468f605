-- A file has its end at its last token, and nowhere else.
use Rattle.std.proofs.Common.{◌≡◌, ℕ, List, [], ◌∷◌, ◌++◌, refl}
use Rattle.mc_base.specs.declared.plain.Kind.{Kind}
use Rattle.mc_base.specs.declared.text.token.Token.{Token}
use Rattle.mc_base.specs.declared.text.token.TokenKind.{TokenKind}
use Rattle.mc_c_syntax.specs.Lex.Readings.{EndsOnce}
use Rattle.mc_c_syntax.specs.declared.ast.trees.Name.{Name}
use Rattle.mc_c_syntax.specs.Ast.Names.{Tokens, IsNumber}
use Rattle.mc_def_parse.specs.Symbols.{symbol_by}
use Rattle.mc_def_parse.specs.declared.symbols.Symbol.{Symbol}
use Rattle.mc_def_parse.specs.declared.tree.Number.{Number}
use Rattle.mc_def_parse.specs.declared.tree.Sum.{Sum}
use Rattle.mc_def_parse.specs.declared.tree.Relation.{Relation}
use Rattle.mc_def_parse.specs.declared.tree.Relation.TheVariants.{Fixes, Equals, Differs}
use Rattle.mc_def_parse.specs.declared.tree.Bound.{Bound}
use Rattle.mc_def_parse.specs.declared.tree.Bound.TheVariants.{AtMost, AtLeast}
use Rattle.mc_def_parse.specs.declared.tree.Item.{Item}
use Rattle.mc_def_parse.specs.declared.tree.Content.{Content}
use Rattle.mc_def_parse.specs.declared.tree.Block.{Block}
use Rattle.mc_def_parse.specs.declared.tree.RuleText.{RuleText}
use Rattle.mc_def_parse.specs.declared.tree.Parameter.{Parameter}
use Rattle.mc_def_parse.specs.declared.tree.Head.{Head}
use Rattle.mc_def_parse.specs.declared.tree.DefText.{DefText}
use Rattle.mc_def_parse.specs.Grammar.{IsWord, IsKind, IsNum, unsigned, signed, IsSum, number, name, added, taken, MoreNames, last_name, next_name, IsEquation, IsBound, IsItem, call, fixes, relates, bounds, MoreContents, last_content, next_content, IsBlock, block, MoreItems, last_item, next_item, IsRuleBody, bare, with_block, IsRule, rule, MoreRules, last_rule, next_rule, MoreParameters, last_parameter, next_parameter, IsHead, head, IsDef, definition, MoreDefs, end_defs, next_def}

-- no token before the rest is the end
pub data Clear : Tokens → Tokens → Type 0 where
  here : {rest : Tokens} → Clear rest rest
  past : {token : Token} {tokens rest : Tokens} → (token.kind ≡ TokenKind.End → ⊥) → Clear tokens rest → Clear (token ∷ tokens) rest

through : {tokens mid rest : Tokens} → Clear tokens mid → Clear mid rest → Clear tokens rest
through here d = d
through (past other c) d = past other (through c d)

no_end : (kind : TokenKind) (text : List ℕ) (symbol : Symbol) → (symbol ≡ Symbol.End → ⊥) → symbol_by kind text ≡ symbol → kind ≡ TokenKind.End → ⊥
no_end kind text symbol other i e = let end : symbol_by kind text ≡ Symbol.End = rw e refl in other (cc)

word_ends : {word : List ℕ} {token : Token} → IsWord word token → token.kind ≡ TokenKind.End → ⊥
word_ends w = no_end _ _ Symbol.Name (λ e. cc) w.name

kind_ends : (token : Token) (kind : Kind) → IsKind kind token → token.kind ≡ TokenKind.End → ⊥
kind_ends token Kind.Int k = no_end _ _ Symbol.Int (λ e. cc) k
kind_ends token Kind.Ptr k = word_ends k

number_ends : {token : Token} {n : ℕ} → IsNumber token n → token.kind ≡ TokenKind.End → ⊥
number_ends h e = let k = h.kind in cc

name_ends : (kind : TokenKind) (text : List ℕ) → symbol_by kind text ≡ Symbol.Name → kind ≡ TokenKind.End → ⊥
name_ends kind text i = no_end _ _ Symbol.Name (λ e. cc) i

equation_ends : (token : Token) (r : Relation) → IsEquation r token → token.kind ≡ TokenKind.End → ⊥
equation_ends token (Fixes kind) i = absurd i
equation_ends token Equals i = no_end _ _ Symbol.Equal (λ e. cc) i
equation_ends token Differs i = no_end _ _ Symbol.Unequal (λ e. cc) i

bound_ends : (token : Token) (b : Bound) → IsBound b token → token.kind ≡ TokenKind.End → ⊥
bound_ends token AtMost i = no_end _ _ Symbol.AtMost (λ e. cc) i
bound_ends token AtLeast i = no_end _ _ Symbol.AtLeast (λ e. cc) i

clear_num : {m : Number} {tokens rest : Tokens} → IsNum m tokens rest → Clear tokens rest
clear_num (unsigned h) = past (number_ends h) here
clear_num (signed i h) = past (no_end _ _ Symbol.Minus (λ e. cc) i) (past (number_ends h) here)

clear_sum : {s : Sum} {tokens rest : Tokens} → IsSum s tokens rest → Clear tokens rest
clear_sum (number m) = clear_num m
clear_sum (name i) = past (name_ends _ _ i) here
clear_sum (added i p h) = past (name_ends _ _ i) (past (no_end _ _ Symbol.Plus (λ e. cc) p) (past (number_ends h) here))
clear_sum (taken i p h) = past (name_ends _ _ i) (past (no_end _ _ Symbol.Minus (λ e. cc) p) (past (number_ends h) here))

clear_names : {xs all : List Name} {tokens rest : Tokens} → MoreNames xs tokens all rest → Clear tokens rest
clear_names last_name = here
clear_names (next_name c i more) = past (no_end _ _ Symbol.Comma (λ e. cc) c) (past (name_ends _ _ i) (clear_names more))

clear_item : {i : Item} {tokens rest : Tokens} → IsItem i tokens rest → Clear tokens rest
clear_item (call p o x more c s) = past (name_ends _ _ p) (past (no_end _ _ Symbol.Open (λ e. cc) o) (past (name_ends _ _ x) (through (clear_names more) (past (no_end _ _ Symbol.Close (λ e. cc) c) (past (no_end _ _ Symbol.Semicolon (λ e. cc) s) here)))))
clear_item (fixes {kind = kind} {k = kt} k x q sum s) = past (kind_ends kt kind k) (past (name_ends _ _ x) (past (no_end _ _ Symbol.Equal (λ e. cc) q) (through (clear_sum sum) (past (no_end _ _ Symbol.Semicolon (λ e. cc) s) here))))
clear_item (relates {r = r} {mark = m} x q sum s) = past (name_ends _ _ x) (past (equation_ends m r q) (through (clear_sum sum) (past (no_end _ _ Symbol.Semicolon (λ e. cc) s) here)))
clear_item (bounds {b = b} {mark = m} x q num s) = past (name_ends _ _ x) (past (bound_ends m b q) (through (clear_num num) (past (no_end _ _ Symbol.Semicolon (λ e. cc) s) here)))

clear_contents : {cs all : List Content} {tokens rest : Tokens} → MoreContents cs tokens all rest → Clear tokens rest
clear_contents last_content = here
clear_contents (next_content c f q x more) = past (no_end _ _ Symbol.Comma (λ e. cc) c) (past (name_ends _ _ f) (past (no_end _ _ Symbol.Colon (λ e. cc) q) (past (name_ends _ _ x) (clear_contents more))))

clear_block : {b : Block} {tokens rest : Tokens} → IsBlock b tokens rest → Clear tokens rest
clear_block (block w ar s o f q x more c st) = past (word_ends w) (past (no_end _ _ Symbol.Arrow (λ e. cc) ar) (past (name_ends _ _ s) (past (no_end _ _ Symbol.OpenBrace (λ e. cc) o) (past (name_ends _ _ f) (past (no_end _ _ Symbol.Colon (λ e. cc) q) (past (name_ends _ _ x) (through (clear_contents more) (past (no_end _ _ Symbol.CloseBrace (λ e. cc) c) (past (no_end _ _ Symbol.Semicolon (λ e. cc) st) here)))))))))

clear_items : {is all : List Item} {tokens rest : Tokens} → MoreItems is tokens all rest → Clear tokens rest
clear_items last_item = here
clear_items (next_item i more) = through (clear_item i) (clear_items more)

clear_body : {r : RuleText} {tokens rest : Tokens} → IsRuleBody r tokens rest → Clear tokens rest
clear_body (bare more) = clear_items more
clear_body (with_block b more) = through (clear_block b) (clear_items more)

clear_rule : {r : RuleText} {tokens rest : Tokens} → IsRule r tokens rest → Clear tokens rest
clear_rule (rule w o body c) = past (word_ends w) (past (no_end _ _ Symbol.OpenBrace (λ e. cc) o) (through (clear_body body) (past (no_end _ _ Symbol.CloseBrace (λ e. cc) c) here)))

clear_rules : {rs all : List RuleText} {tokens rest : Tokens} → MoreRules rs tokens all rest → Clear tokens rest
clear_rules last_rule = here
clear_rules (next_rule r more) = through (clear_rule r) (clear_rules more)

clear_parameters : {ps all : List Parameter} {tokens rest : Tokens} → MoreParameters ps tokens all rest → Clear tokens rest
clear_parameters last_parameter = here
clear_parameters (next_parameter kind {k = kt} c k x more) = past (no_end _ _ Symbol.Comma (λ e. cc) c) (past (kind_ends kt kind k) (past (name_ends _ _ x) (clear_parameters more)))

clear_head : {h : Head} {tokens rest : Tokens} → IsHead h tokens rest → Clear tokens rest
clear_head (head w p o t more c b) = past (word_ends w) (past (name_ends _ _ p) (past (no_end _ _ Symbol.Open (λ e. cc) o) (past (word_ends t) (through (clear_parameters more) (past (no_end _ _ Symbol.Close (λ e. cc) c) (past (no_end _ _ Symbol.OpenBrace (λ e. cc) b) here))))))

clear_def : {d : DefText} {tokens rest : Tokens} → IsDef d tokens rest → Clear tokens rest
clear_def (definition h r more c) = through (clear_head h) (through (clear_rule r) (through (clear_rules more) (past (no_end _ _ Symbol.CloseBrace (λ e. cc) c) here)))

clear_defs : {ds all : List DefText} {tokens rest : Tokens} → MoreDefs ds tokens rest all → (end : Token) × Clear tokens (end ∷ rest)
clear_defs (end_defs e) = (_, here)
clear_defs (next_def d more) = let c = clear_defs more in (c.0, through (clear_def d) c.1)

none_behind : (tokens : Tokens) {behind : Tokens} {end : Token} → EndsOnce tokens → Clear (tokens ++ behind) (end ∷ []) → behind ≡ []
none_behind [] ends c = absurd ends
none_behind (token ∷ []) ends here = refl
none_behind (token ∷ []) ends (past other c) = absurd (other ends)
none_behind (token ∷ second ∷ tokens) ends (past other c) = none_behind (second ∷ tokens) ends.1 c

-- after a whole text a file has no tokens
pub nothing_behind : {ds all : List DefText} (tokens : Tokens) (behind : Tokens) → EndsOnce tokens → MoreDefs ds (tokens ++ behind) [] all → behind ≡ []
nothing_behind tokens behind ends defs = none_behind tokens ends (clear_defs defs).1
