-- What completes what has been read of a block.
use Rattle.std.specs.Prelude.{◌≡◌, List, [], ◌∷◌, ◌++◌}
use Rattle.mc_base.specs.declared.text.token.Token.{Token}
use Rattle.mc_c_syntax.specs.declared.ast.trees.Name.{Name}
use Rattle.mc_c_syntax.specs.Ast.Names.{Tokens, name_of}
use Rattle.mc_def_parse.specs.declared.symbols.Symbol.TheVariants as Symbol
use Rattle.mc_def_parse.specs.declared.tree.Content.{Content}
use Rattle.mc_def_parse.specs.declared.tree.Block.{Block}
use Rattle.mc_def_parse.specs.declared.block.BlockReader.{BlockReader}
use Rattle.mc_def_parse.specs.declared.block.WholeBlock.{WholeBlock}
use Rattle.mc_def_parse.specs.declared.step.Step.{Step}
use Rattle.mc_def_parse.specs.Grammar.{Is, MoreContents}
use Rattle.mc_def_parse.specs.Steps.{StepIs, First}
use Rattle.mc_def_parse.specs.Readers.{Stops}

-- after the first contents: more of them, `}` and `;`
abbrev pub ContentsStop : Name → List Content → Tokens → Tokens → Block → Type 0
ContentsStop shape cs tokens rest block = (all : List Content) × (close : Token) × (stop : Token)
    × MoreContents cs tokens all (close ∷ stop ∷ rest) × Is Symbol.CloseBrace close × Is Symbol.Semicolon stop
    × (block ≡ record { shape = shape; contents = all; end = close.place })

-- one more, and the same: from the name of what the field holds, from the `:`, from the field
abbrev pub ContentStops : Name → List Content → Name → Tokens → Tokens → Block → Type 0
ContentStops shape cs f = First (Is Symbol.Name) (λ x. ContentsStop shape (cs ++ record { field = f; name = name_of x } ∷ []))

abbrev pub ColonStops : Name → List Content → Name → Tokens → Tokens → Block → Type 0
ColonStops shape cs f = First (Is Symbol.Colon) (λ colon. ContentStops shape cs f)

abbrev pub FieldStops : Name → List Content → Tokens → Tokens → Block → Type 0
FieldStops shape cs = First (Is Symbol.Name) (λ f. ColonStops shape cs (name_of f))

abbrev pub OpeningStops : Name → Tokens → Tokens → Block → Type 0
OpeningStops shape = First (Is Symbol.OpenBrace) (λ opening. FieldStops shape [])

-- the block that the token of its struct makes
abbrev pub block_of : WholeBlock → Block
block_of block = record { shape = name_of block.shape.now; contents = block.contents; end = block.end }

-- the tokens, up to the rest, complete what the reader has read to this block
abbrev pub CompletesBlock : BlockReader → Tokens → Tokens → Block → Type 0
CompletesBlock BlockReader.Shape = First (Is Symbol.Name) (λ shape. OpeningStops (name_of shape))
CompletesBlock (BlockReader.Opening shape) = OpeningStops (name_of shape.now)
CompletesBlock (BlockReader.Field shape cs) = FieldStops (name_of shape.now) cs
CompletesBlock (BlockReader.Colon shape cs f) = ColonStops (name_of shape.now) cs (name_of f.now)
CompletesBlock (BlockReader.Content shape cs f) = ContentStops (name_of shape.now) cs (name_of f.now)
CompletesBlock (BlockReader.Contents shape cs) = ContentsStop (name_of shape.now) cs
CompletesBlock (BlockReader.Whole block) = Stops (block_of block)

abbrev pub BlockStepIs : BlockReader → Token → Step BlockReader WholeBlock → Type 0
BlockStepIs reader token step = StepIs CompletesBlock block_of (CompletesBlock reader) token step
