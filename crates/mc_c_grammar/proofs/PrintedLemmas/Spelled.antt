-- Tokens and the words that are printed for them.
use Rattle.std.proofs.Common.{◌≡◌, ℕ, List, [], ◌∷◌, ◌++◌, refl, sym, ◌∙◌, subst}
use Rattle.std.specs.Prelude.{IsTrue}
use Rattle.std.specs.Fmt.{decimal}
use Rattle.std.proofs.lemmas.List.{append_assoc}
use Rattle.mc_base.specs.declared.text.token.Token.{Token}
use Rattle.mc_base.specs.declared.text.token.TokenKind.TheVariants as TokenKind
use Rattle.mc_c_syntax.specs.Ast.Names.{Tokens, IsMark, IsWord, IsName, IsNumber, is_in}
use Rattle.mc_c_syntax.specs.Ast.Classes.{grammar_marks}
use Rattle.mc_c_grammar.specs.Spelling.Words.{Words}

-- the word is printed for the token
pub data IsWordOf (token : Token) (word : List ℕ) : Type 0 where
  of_name : token.kind ≡ TokenKind.Name → token.text ≡ word → IsWordOf token word
  of_mark : token.kind ≡ TokenKind.Mark → token.text ≡ word → IsTrue (is_in grammar_marks word) → IsWordOf token word
  of_number : {n : ℕ} → IsNumber token n → word ≡ decimal n → IsWordOf token word

-- one by one, up to the end
pub data AreWordsOf : Tokens → Words → Type 0 where
  no_words : {end : Token} → end.kind ≡ TokenKind.End → AreWordsOf (end ∷ []) []
  some_words : {token : Token} {tokens : Tokens} {word : List ℕ} {words : Words} → IsWordOf token word → AreWordsOf tokens words → AreWordsOf (token ∷ tokens) (word ∷ words)

pub marked : {m : List ℕ} {token : Token} {tokens : Tokens} {words : Words} → IsMark m token → IsTrue (is_in grammar_marks m) → AreWordsOf tokens words → AreWordsOf (token ∷ tokens) (m ∷ words)
marked is known more = some_words (of_mark is.kind is.text known) more

pub worded : {m : List ℕ} {token : Token} {tokens : Tokens} {words : Words} → IsWord m token → AreWordsOf tokens words → AreWordsOf (token ∷ tokens) (m ∷ words)
worded is more = some_words (of_name is.kind is.text) more

pub named : {token : Token} {tokens : Tokens} {words : Words} → IsName token → AreWordsOf tokens words → AreWordsOf (token ∷ tokens) (token.text ∷ words)
named is more = some_words (of_name is.kind refl) more

pub numbered : {n : ℕ} {token : Token} {tokens : Tokens} {words : Words} → IsNumber token n → AreWordsOf tokens words → AreWordsOf (token ∷ tokens) (decimal n ∷ words)
numbered is more = some_words (of_number is refl) more

-- the tokens of a chain have words, which stand after those of what it began with
abbrev pub Chained : Tokens → Words → (Words → Words) → Type 0
Chained tokens all before = (words : Words) × AreWordsOf tokens words × (all ≡ before words)

pub chain : {tokens mid : Tokens} {all : Words} {before : Words → Words} → Chained mid all before → ((words : Words) → AreWordsOf mid words → AreWordsOf tokens (before words)) → AreWordsOf tokens all
chain {tokens = tokens} c go = subst (AreWordsOf tokens) (sym c.2) (go c.0 c.1)

-- what a list is grown by, with its words
pub data Grown {X : Type 0} (words_of : List X → Words → Words) (old all : List X) (tokens : Tokens) (more : Words) : Type 0 where
  grown : (new : List X) → all ≡ old ++ new → AreWordsOf tokens (words_of new more) → Grown words_of old all tokens more

-- by one more before
pub grown_by : {X : Type 0} {words_of : List X → Words → Words} {old all : List X} {mid tokens : Tokens} {more : Words} (x : X) → Grown words_of (old ++ x ∷ []) all mid more → ((new : List X) → AreWordsOf mid (words_of new more) → AreWordsOf tokens (words_of (x ∷ new) more)) → Grown words_of old all tokens more
grown_by {old = old} x (grown new e w) go = grown (x ∷ new) (e ∙ append_assoc old (x ∷ []) new) (go new w)

-- a list that grew from one
pub from_one : {X : Type 0} {words_of : List X → Words → Words} {x : X} {all : List X} {mid tokens : Tokens} {more : Words} (print : List X → Words) → Grown words_of (x ∷ []) all mid more → ((new : List X) → AreWordsOf mid (words_of new more) → AreWordsOf tokens (print (x ∷ new))) → AreWordsOf tokens (print all)
from_one {tokens = tokens} print (grown new e w) go = subst (λ l. AreWordsOf tokens (print l)) (sym e) (go new w)

-- and from none
pub from_none : {X : Type 0} {words_of : List X → Words → Words} {all : List X} {mid tokens : Tokens} {more : Words} (print : List X → Words) → Grown words_of [] all mid more → ((new : List X) → AreWordsOf mid (words_of new more) → AreWordsOf tokens (print new)) → AreWordsOf tokens (print all)
from_none {tokens = tokens} print (grown new e w) go = subst (λ l. AreWordsOf tokens (print l)) (sym e) (go new w)
