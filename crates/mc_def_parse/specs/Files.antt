-- What completes what has been read of a file.
use Rattle.std.specs.Prelude.{◌≡◌, Option, Some, None, List, [], ◌∷◌, ◌++◌, ◌⊎◌, codes}
use Rattle.mc_base.specs.declared.text.token.Token.{Token}
use Rattle.mc_c_syntax.specs.declared.ast.trees.Name.{Name}
use Rattle.mc_c_syntax.specs.Ast.Names.{Tokens, name_of}
use Rattle.mc_def_parse.specs.declared.symbols.Symbol.TheVariants as Symbol
use Rattle.mc_def_parse.specs.declared.tree.Item.{Item}
use Rattle.mc_def_parse.specs.declared.tree.Block.{Block}
use Rattle.mc_def_parse.specs.declared.tree.RuleText.{RuleText}
use Rattle.mc_def_parse.specs.declared.tree.Head.{Head}
use Rattle.mc_def_parse.specs.declared.tree.DefText.{DefText}
use Rattle.mc_def_parse.specs.declared.block.BlockReader.TheVariants as BlockReader
use Rattle.mc_def_parse.specs.declared.file.At.{At}
use Rattle.mc_def_parse.specs.declared.file.FileReader.{FileReader}
use Rattle.mc_def_parse.specs.declared.step.Took.{Took}
use Rattle.mc_base.specs.declared.text.token.TokenKind.TheVariants as TokenKind
use Rattle.mc_c_syntax.specs.Ast.Readers.{Closes, IsStuckAt}
use Rattle.mc_def_parse.specs.Grammar.{Is, IsWord, MoreItems, IsRuleBody, MoreRules, MoreDefs}
use Rattle.mc_def_parse.specs.Steps.{Takes, Then, First}
use Rattle.mc_def_parse.specs.Readers.{NameStops, CompletesItem}
use Rattle.mc_def_parse.specs.Blocks.{CompletesBlock}
use Rattle.mc_def_parse.specs.Heads.{CompletesHead}

-- after these rules of a definition, which follows these ones: more rules, `}`, and more definitions
abbrev pub RulesEnd : List DefText → Head → List RuleText → Tokens → Tokens → List DefText → Type 0
RulesEnd done head rules tokens rest file = (all : List RuleText) × (close : Token) × (mid : Tokens)
    × MoreRules rules tokens all (close ∷ mid) × Is Symbol.CloseBrace close
    × MoreDefs (done ++ record { head = head; rules = all } ∷ []) mid rest file

-- after the block and these items of a rule
abbrev pub ItemsEnd : List DefText → Head → List RuleText → Option Block → List Item → Tokens → Tokens → List DefText → Type 0
ItemsEnd done head rules block items tokens rest file = (all : List Item) × (close : Token) × (mid : Tokens)
    × MoreItems items tokens all (close ∷ mid) × Is Symbol.CloseBrace close
    × RulesEnd done head (rules ++ record { block = block; items = all } ∷ []) mid rest file

-- after the `{` of a rule
abbrev pub BodyEnds : List DefText → Head → List RuleText → Tokens → Tokens → List DefText → Type 0
BodyEnds done head rules tokens rest file = (body : RuleText) × (close : Token) × (mid : Tokens)
    × IsRuleBody body tokens (close ∷ mid) × Is Symbol.CloseBrace close
    × RulesEnd done head (rules ++ body ∷ []) mid rest file

-- after `rule`, and before it
abbrev pub BraceEnds : List DefText → Head → List RuleText → Tokens → Tokens → List DefText → Type 0
BraceEnds done head rules = First (Is Symbol.OpenBrace) (λ brace. BodyEnds done head rules)

abbrev pub FirstRuleEnds : List DefText → Head → Tokens → Tokens → List DefText → Type 0
FirstRuleEnds done head = First (IsWord (codes "rule")) (λ word. BraceEnds done head [])

-- after `this ->`, where a block goes on, and within it
abbrev pub BlockEnds : List DefText → Head → List RuleText → Block → Tokens → Tokens → List DefText → Type 0
BlockEnds done head rules block = ItemsEnd done head rules (Some block) []

-- within an item
abbrev pub ItemEnds : List DefText → Head → List RuleText → Option Block → List Item → Item → Tokens → Tokens → List DefText → Type 0
ItemEnds done head rules block items item = ItemsEnd done head rules block (items ++ item ∷ [])

-- after the name `this` at the start of a rule: a block or an item
abbrev pub ThisGoesOn : List DefText → Head → List RuleText → Name → Tokens → Tokens → List DefText → Type 0
ThisGoesOn done head rules this tokens rest file = First (Is Symbol.Arrow)
    (λ arrow. Then (CompletesBlock BlockReader.Shape) (BlockEnds done head rules)) tokens rest file
    ⊎ Then (NameStops this) (ItemEnds done head rules None []) tokens rest file

-- the tokens, up to the rest, complete what has been read to this file
abbrev pub CompletesAt : At → List DefText → Head → List RuleText → Option Block → List Item → Tokens → Tokens → List DefText → Type 0
CompletesAt At.Outside done head rules block items = MoreDefs done
CompletesAt (At.Head reader) done head rules block items = Then (CompletesHead reader) (FirstRuleEnds done)
CompletesAt At.FirstRule done head rules block items = FirstRuleEnds done head
CompletesAt At.Rules done head rules block items = RulesEnd done head rules
CompletesAt At.Brace done head rules block items = BraceEnds done head rules
CompletesAt At.Start done head rules block items = BodyEnds done head rules
CompletesAt (At.This this) done head rules block items = ThisGoesOn done head rules (name_of this.now)
CompletesAt (At.Block reader) done head rules block items = Then (CompletesBlock reader) (BlockEnds done head rules)
CompletesAt At.Items done head rules block items = ItemsEnd done head rules block items
CompletesAt (At.Item reader) done head rules block items = Then (CompletesItem reader) (ItemEnds done head rules block items)

abbrev pub CompletesFile : FileReader → Tokens → Tokens → List DefText → Type 0
CompletesFile reader = CompletesAt reader.at reader.done reader.head reader.rules reader.block reader.items

-- what a reader that steps in place makes of a token, of what completes it now and of the reader after the token; it closes at the end alone, with its definitions
abbrev pub FileTookIs : (now : Tokens → Tokens → List DefText → Type 0) → FileReader → Token → Took → Type 0
FileTookIs now behind token Took.Taken = Takes now (CompletesFile behind) token
FileTookIs now behind token Took.Closed = Closes now token behind.done × (token.kind ≡ TokenKind.End)
FileTookIs now behind token Took.Stuck = IsStuckAt now token
