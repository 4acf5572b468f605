-- How definition files are spelled. `IsSum s tokens rest`: the tokens begin with those of the sum s, and go on with the rest.
use Rattle.std.specs.Prelude.{◌≡◌, ℕ, List, [], ◌∷◌, ◌++◌, true, false, Some, None, codes}
use Rattle.mc_base.specs.declared.plain.Kind.{Kind}
use Rattle.mc_base.specs.declared.text.token.Token.{Token}
use Rattle.mc_base.specs.declared.text.token.TokenKind.TheVariants as TokenKind
use Rattle.mc_c_syntax.specs.declared.ast.trees.Name.{Name}
use Rattle.mc_c_syntax.specs.Ast.Names.{Tokens, IsNumber, name_of}
use Rattle.mc_def_parse.specs.Symbols.{symbol_of}
use Rattle.mc_def_parse.specs.declared.symbols.Symbol.{Symbol}
use Rattle.mc_def_parse.specs.declared.tree.Number.{Number}
use Rattle.mc_def_parse.specs.declared.tree.Sum.{Sum}
use Rattle.mc_def_parse.specs.declared.tree.Relation.{Relation}
use Rattle.mc_def_parse.specs.declared.tree.Relation.TheVariants.{Fixes, Equals, Differs}
use Rattle.mc_def_parse.specs.declared.tree.Bound.{Bound}
use Rattle.mc_def_parse.specs.declared.tree.Bound.TheVariants.{AtMost, AtLeast}
use Rattle.mc_def_parse.specs.declared.tree.Item.{Item}
use Rattle.mc_def_parse.specs.declared.tree.Item.TheVariants.{Call, Relates, Bounds}
use Rattle.mc_def_parse.specs.declared.tree.Content.{Content}
use Rattle.mc_def_parse.specs.declared.tree.Block.{Block}
use Rattle.mc_def_parse.specs.declared.tree.RuleText.{RuleText}
use Rattle.mc_def_parse.specs.declared.tree.Parameter.{Parameter}
use Rattle.mc_def_parse.specs.declared.tree.Head.{Head}
use Rattle.mc_def_parse.specs.declared.tree.DefText.{DefText}

-- the token is this symbol
abbrev pub Is : Symbol → Token → Type 0
Is symbol token = symbol_of token ≡ symbol

-- the token is a name, and this word
pub record IsWord (word : List ℕ) (token : Token) : Type 0 where
  pub name : Is Symbol.Name token
  pub text : token.text ≡ word

-- a kind
abbrev pub IsKind : Kind → Token → Type 0
IsKind Kind.Int token = Is Symbol.Int token
IsKind Kind.Ptr token = IsWord (codes "ptr") token

-- a number with its sign
abbrev pub plain : ℕ → Token → Number
plain n digits = record { minus = false; value = n; place = digits.place }

abbrev pub negative : ℕ → Token → Number
negative n at = record { minus = true; value = n; place = at.place }

pub data IsNum : Number → Tokens → Tokens → Type 0 where
  unsigned : {n : ℕ} {digits : Token} {rest : Tokens} → IsNumber digits n → IsNum (plain n digits) (digits ∷ rest) rest
  signed : {n : ℕ} {minus digits : Token} {rest : Tokens} → Is Symbol.Minus minus → IsNumber digits n
      → IsNum (negative n minus) (minus ∷ digits ∷ rest) rest

-- a number, a name, or a name with what is added or taken away
pub data IsSum : Sum → Tokens → Tokens → Type 0 where
  number : {m : Number} {tokens rest : Tokens} → IsNum m tokens rest → IsSum (Sum.Number m) tokens rest
  name : {x : Token} {rest : Tokens} → Is Symbol.Name x → IsSum (Sum.Name (name_of x)) (x ∷ rest) rest
  added : {n : ℕ} {x plus digits : Token} {rest : Tokens} → Is Symbol.Name x → Is Symbol.Plus plus
      → IsNumber digits n → IsSum (Sum.Moved (name_of x) (plain n digits)) (x ∷ plus ∷ digits ∷ rest) rest
  taken : {n : ℕ} {x minus digits : Token} {rest : Tokens} → Is Symbol.Name x → Is Symbol.Minus minus
      → IsNumber digits n → IsSum (Sum.Moved (name_of x) (negative n digits)) (x ∷ minus ∷ digits ∷ rest) rest

-- after these names: `,` and a name, as often as one likes
pub data MoreNames : List Name → Tokens → List Name → Tokens → Type 0 where
  last_name : {xs : List Name} {rest : Tokens} → MoreNames xs rest xs rest
  next_name : {xs all : List Name} {comma x : Token} {tokens rest : Tokens} → Is Symbol.Comma comma
      → Is Symbol.Name x → MoreNames (xs ++ name_of x ∷ []) tokens all rest
      → MoreNames xs (comma ∷ x ∷ tokens) all rest

-- `=` and `!=`
abbrev pub IsEquation : Relation → Token → Type 0
IsEquation (Fixes kind) token = ⊥
IsEquation Equals token = Is Symbol.Equal token
IsEquation Differs token = Is Symbol.Unequal token

-- `<=` and `>=`
abbrev pub IsBound : Bound → Token → Type 0
IsBound AtMost token = Is Symbol.AtMost token
IsBound AtLeast token = Is Symbol.AtLeast token

-- an item with its `;`
pub data IsItem : Item → Tokens → Tokens → Type 0 where
  call : {xs : List Name} {p opening x close stop : Token} {tokens rest : Tokens} → Is Symbol.Name p
      → Is Symbol.Open opening → Is Symbol.Name x → MoreNames (name_of x ∷ []) tokens xs (close ∷ stop ∷ rest)
      → Is Symbol.Close close → Is Symbol.Semicolon stop
      → IsItem (Call (name_of p) xs) (p ∷ opening ∷ x ∷ tokens) rest
  fixes : {kind : Kind} {s : Sum} {k x equal stop : Token} {tokens rest : Tokens} → IsKind kind k
      → Is Symbol.Name x → Is Symbol.Equal equal → IsSum s tokens (stop ∷ rest) → Is Symbol.Semicolon stop
      → IsItem (Relates (name_of x) (Fixes kind) s) (k ∷ x ∷ equal ∷ tokens) rest
  relates : {r : Relation} {s : Sum} {x mark stop : Token} {tokens rest : Tokens} → Is Symbol.Name x
      → IsEquation r mark → IsSum s tokens (stop ∷ rest) → Is Symbol.Semicolon stop
      → IsItem (Relates (name_of x) r s) (x ∷ mark ∷ tokens) rest
  bounds : {b : Bound} {m : Number} {x mark stop : Token} {tokens rest : Tokens} → Is Symbol.Name x
      → IsBound b mark → IsNum m tokens (stop ∷ rest) → Is Symbol.Semicolon stop
      → IsItem (Bounds (name_of x) b m) (x ∷ mark ∷ tokens) rest

-- a field and the name of what it holds
abbrev pub content : Token → Token → Content
content f x = record { field = name_of f; name = name_of x }

pub data MoreContents : List Content → Tokens → List Content → Tokens → Type 0 where
  last_content : {cs : List Content} {rest : Tokens} → MoreContents cs rest cs rest
  next_content : {cs all : List Content} {comma f colon x : Token} {tokens rest : Tokens} → Is Symbol.Comma comma
      → Is Symbol.Name f → Is Symbol.Colon colon → Is Symbol.Name x
      → MoreContents (cs ++ content f x ∷ []) tokens all rest
      → MoreContents cs (comma ∷ f ∷ colon ∷ x ∷ tokens) all rest

-- a block with its `;`
pub data IsBlock : Block → Tokens → Tokens → Type 0 where
  block : {cs : List Content} {this arrow shape opening f colon x close stop : Token} {tokens rest : Tokens}
      → IsWord (codes "this") this → Is Symbol.Arrow arrow → Is Symbol.Name shape → Is Symbol.OpenBrace opening
      → Is Symbol.Name f → Is Symbol.Colon colon → Is Symbol.Name x
      → MoreContents (content f x ∷ []) tokens cs (close ∷ stop ∷ rest) → Is Symbol.CloseBrace close
      → Is Symbol.Semicolon stop → IsBlock (record {
        shape = name_of shape;
        contents = cs;
        end = close.place;
      }) (this ∷ arrow ∷ shape ∷ opening ∷ f ∷ colon ∷ x ∷ tokens) rest

-- after these items: more of them
pub data MoreItems : List Item → Tokens → List Item → Tokens → Type 0 where
  last_item : {items : List Item} {rest : Tokens} → MoreItems items rest items rest
  next_item : {items all : List Item} {item : Item} {tokens mid rest : Tokens} → IsItem item tokens mid
      → MoreItems (items ++ item ∷ []) mid all rest → MoreItems items tokens all rest

-- what stands between the braces of a rule: items, after a block or none
pub data IsRuleBody : RuleText → Tokens → Tokens → Type 0 where
  bare : {items : List Item} {tokens rest : Tokens} → MoreItems [] tokens items rest
      → IsRuleBody (record { block = None; items = items }) tokens rest
  with_block : {b : Block} {items : List Item} {tokens mid rest : Tokens} → IsBlock b tokens mid
      → MoreItems [] mid items rest → IsRuleBody (record { block = Some b; items = items }) tokens rest

pub data IsRule : RuleText → Tokens → Tokens → Type 0 where
  rule : {r : RuleText} {word opening close : Token} {tokens rest : Tokens} → IsWord (codes "rule") word
      → Is Symbol.OpenBrace opening → IsRuleBody r tokens (close ∷ rest) → Is Symbol.CloseBrace close
      → IsRule r (word ∷ opening ∷ tokens) rest

pub data MoreRules : List RuleText → Tokens → List RuleText → Tokens → Type 0 where
  last_rule : {rs : List RuleText} {rest : Tokens} → MoreRules rs rest rs rest
  next_rule : {rs all : List RuleText} {r : RuleText} {tokens mid rest : Tokens} → IsRule r tokens mid
      → MoreRules (rs ++ r ∷ []) mid all rest → MoreRules rs tokens all rest

-- after these parameters: `,`, a kind and a name, as often as one likes
abbrev pub parameter : Kind → Token → Parameter
parameter kind x = record { kind = kind; name = name_of x }

pub data MoreParameters : List Parameter → Tokens → List Parameter → Tokens → Type 0 where
  last_parameter : {ps : List Parameter} {rest : Tokens} → MoreParameters ps rest ps rest
  next_parameter : {ps all : List Parameter} (kind : Kind) {comma k x : Token} {tokens rest : Tokens}
      → Is Symbol.Comma comma → IsKind kind k → Is Symbol.Name x
      → MoreParameters (ps ++ parameter kind x ∷ []) tokens all rest
      → MoreParameters ps (comma ∷ k ∷ x ∷ tokens) all rest

-- `def`, a name and its parameters, up to the `{`
pub data IsHead : Head → Tokens → Tokens → Type 0 where
  head : {ps : List Parameter} {word p opening this close brace : Token} {tokens rest : Tokens}
      → IsWord (codes "def") word → Is Symbol.Name p → Is Symbol.Open opening → IsWord (codes "this") this
      → MoreParameters [] tokens ps (close ∷ brace ∷ rest) → Is Symbol.Close close → Is Symbol.OpenBrace brace
      → IsHead (record { name = name_of p; params = ps }) (word ∷ p ∷ opening ∷ this ∷ tokens) rest

-- a definition has rules, one at least
pub data IsDef : DefText → Tokens → Tokens → Type 0 where
  definition : {h : Head} {r : RuleText} {rs : List RuleText} {close : Token} {tokens mid behind rest : Tokens}
      → IsHead h tokens mid → IsRule r mid behind → MoreRules (r ∷ []) behind rs (close ∷ rest)
      → Is Symbol.CloseBrace close → IsDef (record { head = h; rules = rs }) tokens rest

-- after these definitions: more of them, and the end
pub data MoreDefs : List DefText → Tokens → Tokens → List DefText → Type 0 where
  end_defs : {ds : List DefText} {end : Token} {rest : Tokens} → end.kind ≡ TokenKind.End → MoreDefs ds (end ∷ rest) rest ds
  next_def : {ds all : List DefText} {d : DefText} {tokens mid rest : Tokens} → IsDef d tokens mid
      → MoreDefs (ds ++ d ∷ []) mid rest all → MoreDefs ds tokens rest all

-- the tokens spell this file
abbrev pub IsFile : List DefText → Tokens → Type 0
IsFile file tokens = MoreDefs [] tokens [] file
