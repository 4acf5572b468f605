-- What a token is to the grammar of definition files.
use Rattle.std.specs.Prelude.{ℕ, List, [], ◌∷◌, codes, if◌then◌else◌}
use Rattle.mc_base.specs.declared.text.token.Token.{Token}
use Rattle.mc_base.specs.declared.text.token.TokenKind.{TokenKind}
use Rattle.mc_c_syntax.specs.Ast.Names.{is_same, is_reserved}
use Rattle.mc_def_parse.specs.declared.symbols.Symbol.{Symbol}
use Rattle.mc_def_parse.specs.declared.symbols.Symbol.TheVariants.{Name, Int, Number, End, Open, Close, OpenBrace}
use Rattle.mc_def_parse.specs.declared.symbols.Symbol.TheVariants.{CloseBrace, Comma, Semicolon, Colon, Arrow, Equal}
use Rattle.mc_def_parse.specs.declared.symbols.Symbol.TheVariants.{Unequal, AtMost, AtLeast, Plus, Minus, Other}

-- the symbol beside the place where a word first stands among texts
abbrev pub beside : List (List ℕ) → List Symbol → List ℕ → Symbol
beside [] symbols word = Other
beside (text ∷ texts) [] word = Other
beside (text ∷ texts) (symbol ∷ symbols) word = if is_same word text then symbol else beside texts symbols word

-- the marks of definition files
abbrev pub mark_texts : List (List ℕ)
mark_texts =
    codes ";" ∷ codes "=" ∷ codes "(" ∷ codes ")" ∷ codes "," ∷ codes "{" ∷ codes "}" ∷ codes ":"
    ∷ codes "->" ∷ codes "!=" ∷ codes "<=" ∷ codes ">=" ∷ codes "+" ∷ codes "-" ∷ []

abbrev pub mark_symbols : List Symbol
mark_symbols = Semicolon ∷ Equal ∷ Open ∷ Close ∷ Comma ∷ OpenBrace ∷ CloseBrace ∷ Colon ∷ Arrow ∷ Unequal ∷ AtMost
    ∷ AtLeast ∷ Plus ∷ Minus ∷ []

unfoldable pub mark_symbol : List ℕ → Symbol
mark_symbol text = beside mark_texts mark_symbols text

-- a name is no keyword of C17 and no other reserved word of programs; of these, `int` is a kind
unfoldable pub word_symbol : List ℕ → Symbol
word_symbol text = if is_reserved text then (if is_same text (codes "int") then Int else Other) else Name

abbrev pub symbol_by : TokenKind → List ℕ → Symbol
symbol_by TokenKind.End text = End
symbol_by TokenKind.Number text = Number
symbol_by TokenKind.Mark text = mark_symbol text
symbol_by TokenKind.Name text = word_symbol text

abbrev pub symbol_of : Token → Symbol
symbol_of token = symbol_by token.kind token.text
