-- What completes a whole program.
use Rattle.std.specs.Prelude.{◌≡◌, ℕ, List, [], ◌∷◌, ◌++◌, Option, Some, None, map}
use Rattle.mc_base.specs.declared.text.token.Token.{Token}
use Rattle.mc_base.specs.declared.text.token.TokenKind.TheVariants as TokenKind
use Rattle.mc_c_syntax.specs.Ast.Names.{Tokens, is_in}
use Rattle.mc_c_syntax.specs.Ast.Trees.{ItemTree, UnitTree}
use Rattle.mc_c_syntax.specs.Ast.Views.{item_of, unit_of}
use Rattle.mc_c_syntax.specs.Ast.Grammar.{introduced, MoreItems}
use Rattle.mc_c_parse.specs.declared.item.ItemReader.{ItemReader}
use Rattle.mc_c_parse.specs.declared.unit.UnitReader.{UnitReader}
use Rattle.mc_c_parse.specs.declared.unit.UnitStep.{UnitStep}
use Rattle.mc_c_parse.specs.declared.unit.UnitStep.TheVariants.{Taken, Done, Stuck}
use Rattle.mc_c_parse.specs.Items.{CompletesItem}

-- the names that are types after these items, where the first ones were types before them
abbrev pub types_behind : List (List ℕ) → List ItemTree → List (List ℕ)
types_behind aliases [] = aliases
types_behind aliases (i ∷ is) = types_behind (introduced i ++ aliases) is

-- after these items, and what has been read of another one: the tokens complete the program
abbrev pub ItemsFrom : List (List ℕ) → List ItemTree → Option ItemReader → Tokens → UnitTree → Type 0
ItemsFrom aliases is None tokens all = MoreItems aliases is tokens all
ItemsFrom aliases is (Some reader) tokens all = (i : ItemTree) × (mid : Tokens)
    × CompletesItem aliases reader tokens mid i × MoreItems (introduced i ++ aliases) (is ++ i ∷ []) mid all

-- the tokens complete what the reader has read to this program
abbrev pub CompletesUnit : UnitReader → Tokens → UnitTree → Type 0
CompletesUnit reader = let is = map item_of reader.items.items in ItemsFrom (types_behind [] is) is reader.current

-- the table has the names that are types after these items
abbrev pub Knows : List (List ℕ) → List ItemTree → Type 0
Knows names is = (name : List ℕ) → is_in (types_behind [] is) name ≡ is_in names name

abbrev pub KnowsTypes : UnitReader → Type 0
KnowsTypes reader = Knows reader.aliases (map item_of reader.items.items)

-- the relations say the same of the token and more, and of what is after it
pub record Goes (now later : Tokens → UnitTree → Type 0) (token : Token) : Type 0 where
  pub forward : (more : Tokens) (all : UnitTree) → now (token ∷ more) all → later more all
  pub backward : (more : Tokens) (all : UnitTree) → later more all → now (token ∷ more) all

-- the program is complete at the token, which is the last one
pub record IsDone (now : Tokens → UnitTree → Type 0) (token : Token) (unit : UnitTree) : Type 0 where
  pub end : token.kind ≡ TokenKind.End
  pub forward : (more : Tokens) (all : UnitTree) → now (token ∷ more) all → (more ≡ []) × (all ≡ unit)
  pub backward : now (token ∷ []) unit

-- the step is a reader's of whole programs at this token, of what completes it now and the reader after the token
abbrev pub UnitStepIs : (Tokens → UnitTree → Type 0) → (behind : UnitReader) → Token → UnitStep → Type 0
UnitStepIs now behind token Taken = KnowsTypes behind × Goes now (CompletesUnit behind) token
UnitStepIs now behind token (Done unit) = IsDone now token (unit_of unit)
UnitStepIs now behind token Stuck = (more : Tokens) (all : UnitTree) → ¬ now (token ∷ more) all

-- what completes the later relation completes this one with the tokens before it, and nothing else does
pub record GoesThrough (now later : Tokens → UnitTree → Type 0) (tokens : Tokens) : Type 0 where
  pub forward : (more : Tokens) (all : UnitTree) → now (tokens ++ more) all → later more all
  pub backward : (more : Tokens) (all : UnitTree) → later more all → now (tokens ++ more) all

-- the reader takes all these tokens and is this one then, or some program could not have them
abbrev pub RunIs : (Tokens → UnitTree → Type 0) → Tokens → Option UnitReader → Type 0
RunIs now tokens (Some reader) = KnowsTypes reader × GoesThrough now (CompletesUnit reader) tokens
RunIs now tokens None = (more : Tokens) (all : UnitTree) → ¬ now (tokens ++ more) all

-- some tokens after these complete the relation
pub record CanGoOn (now : Tokens → UnitTree → Type 0) (tokens : Tokens) : Type 0 where
  pub more : Tokens
  pub tree : UnitTree
  pub completes : now (tokens ++ more) tree
