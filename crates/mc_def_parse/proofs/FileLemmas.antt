-- The transitions of files.
use Rattle.std.proofs.Common.{◌≡◌, ℕ, List, [], ◌∷◌, ◌++◌, refl, inl, inr}
use Rattle.std.specs.Prelude.{Option, None, codes, Result, Ok, Err, IfOk}
use Rattle.mc_base.specs.declared.plain.Kind.TheVariants as Kind
use Rattle.mc_base.specs.declared.text.token.Token.{Token}
use Rattle.mc_base.specs.declared.text.token.TokenKind.{TokenKind}
use Rattle.mc_c_syntax.specs.declared.ast.trees.Name.{Name}
use Rattle.mc_c_syntax.specs.Ast.Names.{Tokens, name_of}
use Rattle.mc_c_syntax.specs.Ast.Readers.{Closes, IsStuckAt}
use Rattle.mc_def_parse.specs.Symbols.{symbol_by}
use Rattle.mc_def_parse.specs.declared.symbols.Symbol.TheVariants as Symbol
use Rattle.mc_def_parse.specs.declared.tree.Item.{Item}
use Rattle.mc_def_parse.specs.declared.tree.Block.{Block}
use Rattle.mc_def_parse.specs.declared.tree.RuleText.{RuleText}
use Rattle.mc_def_parse.specs.declared.tree.Head.{Head}
use Rattle.mc_def_parse.specs.declared.tree.DefText.{DefText}
use Rattle.mc_def_parse.specs.declared.block.BlockReader.TheVariants as BlockReader
use Rattle.mc_def_parse.specs.declared.item.ItemReader.TheVariants as ItemReader
use Rattle.mc_def_parse.specs.declared.front.HeadReader.TheVariants as HeadReader
use Rattle.mc_def_parse.specs.declared.file.FileReader.{FileReader}
use Rattle.mc_def_parse.specs.declared.step.Took.{Took}
use Rattle.mc_def_parse.specs.Grammar.{Is, IsWord, IsItem, call, fixes, relates, bounds, last_item, next_item, block, bare, with_block, rule, last_rule, next_rule, head, definition, MoreDefs, end_defs, next_def}
use Rattle.mc_def_parse.specs.Steps.{Takes, Then}
use Rattle.mc_def_parse.specs.Readers.{NameStops, CompletesItem}
use Rattle.mc_def_parse.specs.Blocks.{CompletesBlock}
use Rattle.mc_def_parse.specs.Heads.{CompletesHead}
use Rattle.mc_def_parse.specs.Files.{RulesEnd, ItemsEnd, BodyEnds, BraceEnds, FirstRuleEnds, BlockEnds, ItemEnds, ThisGoesOn, FileTookIs}
use Rattle.mc_def_parse.proofs.ItemLemmas.{name_forward, name_backward}
use Rattle.mc_def_parse.proofs.Steps.{SameAt, same_takes, same_closes, same_stuck}

-- ---- outside
end_no_name : (kind : TokenKind) (text : List ℕ) → kind ≡ TokenKind.End → symbol_by kind text ≡ Symbol.Name → ⊥
end_no_name kind text e i = let end : symbol_by kind text ≡ Symbol.End = rw e refl in cc

def_forward : {done file : List DefText} {token : Token} {tokens rest : Tokens} → IsWord (codes "def") token → MoreDefs done (token ∷ tokens) rest file → Then (CompletesHead HeadReader.Name) (FirstRuleEnds done) tokens rest file
def_forward i (end_defs e) = absurd (end_no_name _ _ e i.name)
def_forward i (next_def (definition (head w p o t ps c b) (rule wr ob body cb) more close) defs) = (_, _, (p, (o, (t, (_, _, _, ps, c, b, refl)))), (wr, (ob, (_, _, _, body, cb, (_, _, _, more, close, defs)))))

with_head : {done file : List DefText} {token : Token} (h : Head) (tokens mid : Tokens) {rest : Tokens} → IsWord (codes "def") token → CompletesHead HeadReader.Name tokens mid h → FirstRuleEnds done h mid rest file → MoreDefs done (token ∷ tokens) rest file
with_head h [] mid i n f = absurd n
with_head h (p ∷ []) mid i n f = absurd n.1
with_head h (p ∷ o ∷ []) mid i n f = absurd n.1.1
with_head h (p ∷ o ∷ t ∷ tokens) [] i n f = absurd f
with_head h (p ∷ o ∷ t ∷ tokens) (w ∷ []) i n f = absurd f.1
with_head h (p ∷ o ∷ t ∷ tokens) (w ∷ ob ∷ mid) i (np, (no_, (nt, (all, close, brace, ps, c, b, same)))) (wr, (nob, (body, cb, behind, is_body, ncb, (rules, last, more, are_rules, nl, defs)))) = next_def (definition (rw same (head i np no_ nt ps c b)) (rule {opening = ob} wr nob is_body ncb) are_rules nl) defs

pub outside_def : (done : List DefText) {token : Token} → IsWord (codes "def") token → Takes (MoreDefs done) (Then (CompletesHead HeadReader.Name) (FirstRuleEnds done)) token
outside_def done i = record { forward = λ tokens rest x n. def_forward i n; backward = λ tokens rest x l. with_head l.0 tokens l.1 i l.2 l.3 }

end_forward : {done file : List DefText} {token : Token} {tokens rest : Tokens} → token.kind ≡ TokenKind.End → MoreDefs done (token ∷ tokens) rest file → (rest ≡ tokens) × (file ≡ done)
end_forward i (end_defs e) = (refl, refl)
end_forward i (next_def (definition (head w p o t ps c b) r more close) defs) = absurd (end_no_name _ _ i w.name)

pub outside_end : (done : List DefText) {token : Token} → token.kind ≡ TokenKind.End → Closes (MoreDefs done) token done
outside_end done i = record { forward = λ tokens rest x n. end_forward i n; backward = λ tokens. end_defs i }

no_def : {done file : List DefText} {token : Token} {tokens rest : Tokens} → (token.kind ≡ TokenKind.End → ⊥) → (IsWord (codes "def") token → ⊥) → MoreDefs done (token ∷ tokens) rest file → ⊥
no_def a b (end_defs e) = a e
no_def a b (next_def (definition (head w p o t ps c br) r more close) defs) = b w

pub outside_stuck : (done : List DefText) {token : Token} → (token.kind ≡ TokenKind.End → ⊥) → (IsWord (codes "def") token → ⊥) → IsStuckAt (MoreDefs done) token
outside_stuck done a b = λ tokens rest x n. no_def a b n

-- ---- after a rule
last_forward : (done : List DefText) (h : Head) (rules : List RuleText) {file : List DefText} {token : Token} {tokens rest : Tokens} → Is Symbol.CloseBrace token → RulesEnd done h rules (token ∷ tokens) rest file → MoreDefs (done ++ record { head = h; rules = rules } ∷ []) tokens rest file
last_forward done h rules i (all, close, mid, last_rule, c, defs) = defs
last_forward done h rules i (all, close, mid, next_rule (rule w ob body cb) more, c, defs) = let n = w.name in absurd (cc)

pub rules_close : (done : List DefText) (h : Head) (rules : List RuleText) {token : Token} → Is Symbol.CloseBrace token → Takes (RulesEnd done h rules) (MoreDefs (done ++ record { head = h; rules = rules } ∷ [])) token
rules_close done h rules {token} i = record { forward = λ tokens rest x n. last_forward done h rules i n; backward = λ tokens rest x l. (rules, token, tokens, last_rule, i, l) }

next_forward : (done : List DefText) (h : Head) (rules : List RuleText) {file : List DefText} {token : Token} {tokens rest : Tokens} → IsWord (codes "rule") token → RulesEnd done h rules (token ∷ tokens) rest file → BraceEnds done h rules tokens rest file
next_forward done h rules i (all, close, mid, last_rule, c, defs) = let n = i.name in absurd (cc)
next_forward done h rules i (all, close, mid, next_rule (rule w ob body cb) more, c, defs) = (ob, (_, _, _, body, cb, (all, close, mid, more, c, defs)))

next_backward : (done : List DefText) (h : Head) (rules : List RuleText) {file : List DefText} {token : Token} (tokens : Tokens) {rest : Tokens} → IsWord (codes "rule") token → BraceEnds done h rules tokens rest file → RulesEnd done h rules (token ∷ tokens) rest file
next_backward done h rules [] i n = absurd n
next_backward done h rules (brace ∷ tokens) i (ob, (body, cb, behind, is_body, ncb, (all, close, mid, more, c, defs))) = (all, close, mid, next_rule (rule {opening = brace} i ob is_body ncb) more, c, defs)

pub rules_rule : (done : List DefText) (h : Head) (rules : List RuleText) {token : Token} → IsWord (codes "rule") token → Takes (RulesEnd done h rules) (BraceEnds done h rules) token
rules_rule done h rules i = record { forward = λ tokens rest x n. next_forward done h rules i n; backward = λ tokens rest x l. next_backward done h rules tokens i l }

no_rule : (done : List DefText) (h : Head) (rules : List RuleText) {file : List DefText} {token : Token} {tokens rest : Tokens} → (Is Symbol.CloseBrace token → ⊥) → (IsWord (codes "rule") token → ⊥) → RulesEnd done h rules (token ∷ tokens) rest file → ⊥
no_rule done h rules a b (all, close, mid, last_rule, c, defs) = a c
no_rule done h rules a b (all, close, mid, next_rule (rule w ob body cb) more, c, defs) = b w

pub rules_stuck : (done : List DefText) (h : Head) (rules : List RuleText) {token : Token} → (Is Symbol.CloseBrace token → ⊥) → (IsWord (codes "rule") token → ⊥) → IsStuckAt (RulesEnd done h rules) token
rules_stuck done h rules a b = λ tokens rest x n. no_rule done h rules a b n

-- ---- the start of a rule
items_forward : (done : List DefText) (h : Head) (rules : List RuleText) {file : List DefText} {token : Token} {tokens rest : Tokens} → (IsWord (codes "this") token → ⊥) → BodyEnds done h rules (token ∷ tokens) rest file → ItemsEnd done h rules None [] (token ∷ tokens) rest file
items_forward done h rules a (body, close, mid, bare more, c, end) = (_, close, mid, more, c, end)
items_forward done h rules a (body, close, mid, with_block (block w ar s o f col x cs cb st) more, c, end) = absurd (a w)

pub body_items : (done : List DefText) (h : Head) (rules : List RuleText) (token : Token) → (IsWord (codes "this") token → ⊥) → SameAt (BodyEnds done h rules) (ItemsEnd done h rules None []) token
body_items done h rules token a = record { forward = λ tokens rest x n. items_forward done h rules a n; backward = λ tokens rest x l. (_, l.1, l.2, bare l.3, l.4, l.5) }

this_forward : (done : List DefText) (h : Head) (rules : List RuleText) {file : List DefText} {token : Token} {tokens rest : Tokens} → IsWord (codes "this") token → BodyEnds done h rules (token ∷ tokens) rest file → ThisGoesOn done h rules (name_of token) tokens rest file
this_forward done h rules i (body, close, mid, bare last_item, c, end) = let n = i.name in absurd (cc)
this_forward done h rules i (body, close, mid, bare (next_item one more), c, end) = inr (_, _, name_forward i.name one, (_, close, mid, more, c, end))
this_forward done h rules i (body, close, mid, with_block (block w ar s o f col x cs cb st) more, c, end) = inl (ar, (_, _, (s, (o, (f, (col, (x, (_, _, _, cs, cb, st, refl)))))), (_, close, mid, more, c, end)))

from_shape : (done : List DefText) (h : Head) (rules : List RuleText) (b : Block) {file : List DefText} {token arrow : Token} (tokens : Tokens) {mid rest : Tokens} → IsWord (codes "this") token → Is Symbol.Arrow arrow → CompletesBlock BlockReader.Shape tokens mid b → BlockEnds done h rules b mid rest file → BodyEnds done h rules (token ∷ arrow ∷ tokens) rest file
from_shape done h rules b [] i ar n e = absurd n
from_shape done h rules b (s ∷ []) i ar n e = absurd n.1
from_shape done h rules b (s ∷ o ∷ []) i ar n e = absurd n.1.1
from_shape done h rules b (s ∷ o ∷ f ∷ []) i ar n e = absurd n.1.1.1
from_shape done h rules b (s ∷ o ∷ f ∷ col ∷ []) i ar n e = absurd n.1.1.1.1
from_shape done h rules b (s ∷ o ∷ f ∷ col ∷ x ∷ tokens) i ar (ns, (no_, (nf, (nc, (nx, (cs, cb, st, more, ncb, nst, same)))))) (items, close, behind, are, c, end) = (_, close, behind, with_block (rw same (block i ar ns no_ nf nc nx more ncb nst)) are, c, end)

this_backward : (done : List DefText) (h : Head) (rules : List RuleText) {file : List DefText} {token : Token} (tokens : Tokens) {rest : Tokens} → IsWord (codes "this") token → ThisGoesOn done h rules (name_of token) tokens rest file → BodyEnds done h rules (token ∷ tokens) rest file
this_backward done h rules [] i (inl n) = absurd n
this_backward done h rules (arrow ∷ tokens) i (inl (ar, (b, mid, one, end))) = from_shape done h rules b tokens i ar one end
this_backward done h rules tokens i (inr (item, mid, one, (items, close, behind, more, c, end))) = (_, close, behind, bare (next_item (name_backward tokens i.name one) more), c, end)

pub body_this : (done : List DefText) (h : Head) (rules : List RuleText) {token : Token} → IsWord (codes "this") token → Takes (BodyEnds done h rules) (ThisGoesOn done h rules (name_of token)) token
body_this done h rules i = record { forward = λ tokens rest x n. this_forward done h rules i n; backward = λ tokens rest x l. this_backward done h rules tokens i l }

arrow_no_name : (x : Name) (item : Item) (token : Token) (tokens rest : Tokens) → Is Symbol.Arrow token → NameStops x (token ∷ tokens) rest item → ⊥
arrow_no_name x item token tokens rest i n = let m = rw i at n in m

arrow_forward : (done : List DefText) (h : Head) (rules : List RuleText) (this : Name) (token : Token) (tokens : Tokens) {rest : Tokens} {file : List DefText} → Is Symbol.Arrow token → ThisGoesOn done h rules this (token ∷ tokens) rest file → Then (CompletesBlock BlockReader.Shape) (BlockEnds done h rules) tokens rest file
arrow_forward done h rules this token tokens i (inl n) = n.1
arrow_forward done h rules this token tokens i (inr n) = absurd (arrow_no_name _ _ _ _ _ i n.2)

pub this_arrow : (done : List DefText) (h : Head) (rules : List RuleText) (this : Name) {token : Token} → Is Symbol.Arrow token → Takes (ThisGoesOn done h rules this) (Then (CompletesBlock BlockReader.Shape) (BlockEnds done h rules)) token
this_arrow done h rules this {token} i = record { forward = λ tokens rest x n. arrow_forward done h rules this token tokens i n; backward = λ tokens rest x l. inl (i, l) }

item_forward : (done : List DefText) (h : Head) (rules : List RuleText) (this : Name) (token : Token) (tokens : Tokens) {rest : Tokens} {file : List DefText} → (Is Symbol.Arrow token → ⊥) → ThisGoesOn done h rules this (token ∷ tokens) rest file → Then (NameStops this) (ItemEnds done h rules None []) (token ∷ tokens) rest file
item_forward done h rules this token tokens a (inl n) = absurd (a n.0)
item_forward done h rules this token tokens a (inr n) = n

pub this_item : (done : List DefText) (h : Head) (rules : List RuleText) (this : Name) (token : Token) → (Is Symbol.Arrow token → ⊥) → SameAt (ThisGoesOn done h rules this) (Then (NameStops this) (ItemEnds done h rules None [])) token
this_item done h rules this token a = record { forward = λ tokens rest x n. item_forward done h rules this token tokens a n; backward = λ tokens rest x l. inr l }

-- ---- after an item
brace_no_item : {item : Item} {token : Token} {tokens rest : Tokens} → Is Symbol.CloseBrace token → IsItem item (token ∷ tokens) rest → ⊥
brace_no_item i (call n o x more close stop) = absurd (cc)
brace_no_item i (fixes {kind = Kind.Int} k x e s stop) = absurd (cc)
brace_no_item i (fixes {kind = Kind.Ptr} k x e s stop) = let n = k.name in absurd (cc)
brace_no_item i (relates n e s stop) = absurd (cc)
brace_no_item i (bounds n b m stop) = absurd (cc)

close_forward : (done : List DefText) (h : Head) (rules : List RuleText) (b : Option Block) (items : List Item) {file : List DefText} {token : Token} {tokens rest : Tokens} → Is Symbol.CloseBrace token → ItemsEnd done h rules b items (token ∷ tokens) rest file → RulesEnd done h (rules ++ record { block = b; items = items } ∷ []) tokens rest file
close_forward done h rules b items i (all, close, mid, last_item, c, end) = end
close_forward done h rules b items i (all, close, mid, next_item one more, c, end) = absurd (brace_no_item i one)

pub items_close : (done : List DefText) (h : Head) (rules : List RuleText) (b : Option Block) (items : List Item) {token : Token} → Is Symbol.CloseBrace token → Takes (ItemsEnd done h rules b items) (RulesEnd done h (rules ++ record { block = b; items = items } ∷ [])) token
items_close done h rules b items {token} i = record { forward = λ tokens rest x n. close_forward done h rules b items i n; backward = λ tokens rest x l. (items, token, tokens, last_item, i, l) }

more_forward : (done : List DefText) (h : Head) (rules : List RuleText) (b : Option Block) (items : List Item) {file : List DefText} {token : Token} {tokens rest : Tokens} → (Is Symbol.CloseBrace token → ⊥) → ItemsEnd done h rules b items (token ∷ tokens) rest file → Then (CompletesItem ItemReader.Start) (ItemEnds done h rules b items) (token ∷ tokens) rest file
more_forward done h rules b items a (all, close, mid, last_item, c, end) = absurd (a c)
more_forward done h rules b items a (all, close, mid, next_item one more, c, end) = (_, _, one, (all, close, mid, more, c, end))

pub items_item : (done : List DefText) (h : Head) (rules : List RuleText) (b : Option Block) (items : List Item) (token : Token) → (Is Symbol.CloseBrace token → ⊥) → SameAt (ItemsEnd done h rules b items) (Then (CompletesItem ItemReader.Start) (ItemEnds done h rules b items)) token
items_item done h rules b items token a = record { forward = λ tokens rest x n. more_forward done h rules b items a n; backward = λ tokens rest x l. (l.3.0, l.3.1, l.3.2, next_item l.2 l.3.3, l.3.4, l.3.5) }

-- ---- steps
same_took : {now other : Tokens → Tokens → List DefText → Type 0} (behind : FileReader) {token : Token} → SameAt now other token → (took : Took) → FileTookIs other behind token took → FileTookIs now behind token took
same_took behind s Took.Taken t = same_takes s t
same_took behind s Took.Closed c = (same_closes s c.0, c.1)
same_took behind s Took.Stuck stuck = same_stuck s stuck

pub same_result : {E : Type 0} (now other : Tokens → Tokens → List DefText → Type 0) (behind : FileReader) (token : Token) → SameAt now other token → (r : Result Took E) → IfOk r (λ took. FileTookIs other behind token took) → IfOk r (λ took. FileTookIs now behind token took)
same_result now other behind token s (Ok took) t = same_took behind s took t
same_result now other behind token s (Err e) t = tt
