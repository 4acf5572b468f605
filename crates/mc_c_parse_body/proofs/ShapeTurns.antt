-- What a token does to a shape command.
use Rattle.std.proofs.Common.{◌≡◌, ℕ, List, [], ◌∷◌, ◌++◌, ◌⊎◌, inl, refl, IsTrue}
use Rattle.std.specs.Prelude.{codes}
use Rattle.mc_base.specs.declared.text.place.Place.{Place}
use Rattle.mc_base.specs.declared.text.token.Token.{Token}
use Rattle.mc_c_syntax.specs.declared.ast.class.Class.{Class}
use Rattle.mc_c_syntax.specs.declared.ast.trees.Argument.{Argument}
use Rattle.mc_c_syntax.specs.Ast.Trees.{Stmt}
use Rattle.mc_c_syntax.specs.Ast.Names.{Tokens, IsMark, IsWord, IsName, IsNumber, name_of, is_in}
use Rattle.mc_c_syntax.specs.Ast.Grammar.{IsArgument, name_argument, null_argument, number_argument, negative_argument, last_argument, next_argument}
use Rattle.mc_c_syntax.specs.Ast.Readers.{Takes, Closes, IsStuckAt}
use Rattle.mc_c_parse_expr.specs.Turns.{InTurn, in_turn}
use Rattle.mc_c_parse_simple.specs.Phrases.{next, ended}
use Rattle.mc_c_parse_body.specs.Shapes.{Arguments, BehindMinus, negative, BehindArguments, shaped}
use Rattle.mc_c_parse_body.specs.declared.shape.Shape.{Shape}
use Rattle.mc_c_parse_body.proofs.Unique.{class_of_mark, class_of_word, class_of_name, class_of_number}

pub argument_name : {token : Token} → IsName token → Closes Arguments token (Argument.Name (name_of token))
argument_name {token} is = record { forward = go; backward = λ tokens. name_argument is }
  where
    go : (tokens rest : Tokens) (a : Argument) → IsArgument a (token ∷ tokens) rest → (rest ≡ tokens) × (a ≡ Argument.Name (name_of token))
    go tokens rest a (name_argument n) = (refl, refl)
    go tokens rest a (null_argument w) = absurd (let e : Class.Null ≡ Class.Name = class_of_name Class.Null token w is in cc)
    go tokens rest a (number_argument {n = n} k) = absurd (let e : Class.Number n ≡ Class.Name = class_of_name (Class.Number n) token k is in cc)
    go tokens rest a (negative_argument m k) = absurd (let e : Class.Minus ≡ Class.Name = class_of_name Class.Minus token m is in cc)

pub argument_null : {token : Token} → IsWord (codes "NULL") token → Closes Arguments token (Argument.Null token.place)
argument_null {token} is = record { forward = go; backward = λ tokens. null_argument is }
  where
    go : (tokens rest : Tokens) (a : Argument) → IsArgument a (token ∷ tokens) rest → (rest ≡ tokens) × (a ≡ Argument.Null token.place)
    go tokens rest a (name_argument n) = absurd (let e : Class.Name ≡ Class.Null = class_of_word Class.Name Class.Null token tt n is in cc)
    go tokens rest a (null_argument w) = (refl, refl)
    go tokens rest a (number_argument {n = n} k) = absurd (let e : Class.Number n ≡ Class.Null = class_of_word (Class.Number n) Class.Null token tt k is in cc)
    go tokens rest a (negative_argument m k) = absurd (let e : Class.Minus ≡ Class.Null = class_of_word Class.Minus Class.Null token tt m is in cc)

pub argument_number : {token : Token} (n : ℕ) → IsNumber token n → Closes Arguments token (Argument.Number n token.place)
argument_number {token} n is = record { forward = go; backward = λ tokens. number_argument is }
  where
    go : (tokens rest : Tokens) (a : Argument) → IsArgument a (token ∷ tokens) rest → (rest ≡ tokens) × (a ≡ Argument.Number n token.place)
    go tokens rest a (name_argument k) = absurd (let e : Class.Name ≡ Class.Number n = class_of_number Class.Name token n k is in cc)
    go tokens rest a (null_argument w) = absurd (let e : Class.Null ≡ Class.Number n = class_of_number Class.Null token n w is in cc)
    go tokens rest a (number_argument {n = m} k) = (refl, (let e : Class.Number m ≡ Class.Number n = class_of_number (Class.Number m) token n k is in cc))
    go tokens rest a (negative_argument m k) = absurd (let e : Class.Minus ≡ Class.Number n = class_of_number Class.Minus token n m is in cc)

pub argument_minus : {token : Token} → IsMark (codes "-") token → Takes [] Arguments (BehindMinus token.place) token
argument_minus {token} is = record { forward = go; backward = back }
  where
    go : (tokens rest : Tokens) (a : Argument) → IsArgument a (token ∷ tokens) rest → BehindMinus token.place tokens rest a ⊎ ((rest ≡ token ∷ tokens) × IsTrue (is_in [] token.text))
    go tokens rest a (name_argument k) = absurd (let e : Class.Name ≡ Class.Minus = class_of_mark Class.Name Class.Minus token tt k is in cc)
    go tokens rest a (null_argument w) = absurd (let e : Class.Null ≡ Class.Minus = class_of_mark Class.Null Class.Minus token tt w is in cc)
    go tokens rest a (number_argument {n = m} k) = absurd (let e : Class.Number m ≡ Class.Minus = class_of_mark (Class.Number m) Class.Minus token tt k is in cc)
    go tokens rest a (negative_argument m k) = inl (negative k)

    back : (tokens rest : Tokens) (a : Argument) → BehindMinus token.place tokens rest a → IsArgument a (token ∷ tokens) rest
    back tokens rest a (negative k) = negative_argument is k

pub argument_stuck : {token : Token} → ¬ IsName token → ¬ IsWord (codes "NULL") token → ((n : ℕ) → ¬ IsNumber token n) → ¬ IsMark (codes "-") token → IsStuckAt Arguments token
argument_stuck no_name no_null no_number no_minus tokens rest a (name_argument k) = no_name k
argument_stuck no_name no_null no_number no_minus tokens rest a (null_argument w) = no_null w
argument_stuck no_name no_null no_number no_minus tokens rest a (number_argument {n = n} k) = no_number n k
argument_stuck no_name no_null no_number no_minus tokens rest a (negative_argument m k) = no_minus m

pub minus_number : {token : Token} (place : Place) (n : ℕ) → IsNumber token n → Closes (BehindMinus place) token (Argument.Negative n place)
minus_number {token} place n is = record { forward = go; backward = λ tokens. negative is }
  where
    go : (tokens rest : Tokens) (a : Argument) → BehindMinus place (token ∷ tokens) rest a → (rest ≡ tokens) × (a ≡ Argument.Negative n place)
    go tokens rest a (negative {n = m} k) = (refl, (let e : Class.Number m ≡ Class.Number n = class_of_number (Class.Number m) token n k is in cc))

pub minus_stuck : {token : Token} (place : Place) → ((n : ℕ) → ¬ IsNumber token n) → IsStuckAt (BehindMinus place) token
minus_stuck place no_number tokens rest a (negative {n = n} k) = no_number n k

pub arguments_comma : {token : Token} (shape : Shape) (args : List Argument) → IsMark (codes ",") token → Takes [] (BehindArguments shape args) (InTurn Arguments (λ a. BehindArguments shape (args ++ a ∷ []))) token
arguments_comma {token} shape args is = record { forward = go; backward = back }
  where
    go : (tokens rest : Tokens) (s : Stmt) → BehindArguments shape args (token ∷ tokens) rest s → InTurn Arguments (λ a. BehindArguments shape (args ++ a ∷ [])) tokens rest s ⊎ ((rest ≡ token ∷ tokens) × IsTrue (is_in [] token.text))
    go tokens rest s (in_turn last_argument (next p h)) = absurd (let e : Class.CloseParen ≡ Class.Comma = class_of_mark Class.CloseParen Class.Comma token tt p is in cc)
    go tokens rest s (in_turn (next_argument comma a more) h) = inl (in_turn a (in_turn more h))

    back : (tokens rest : Tokens) (s : Stmt) → InTurn Arguments (λ a. BehindArguments shape (args ++ a ∷ [])) tokens rest s → BehindArguments shape args (token ∷ tokens) rest s
    back tokens rest s (in_turn a (in_turn more h)) = in_turn (next_argument is a more) h

pub arguments_close : {token : Token} (shape : Shape) (args : List Argument) → IsMark (codes ")") token → Closes (BehindArguments shape args) token (shaped shape args)
arguments_close {token} shape args is = record { forward = go; backward = λ tokens. in_turn last_argument (next is ended) }
  where
    go : (tokens rest : Tokens) (s : Stmt) → BehindArguments shape args (token ∷ tokens) rest s → (rest ≡ tokens) × (s ≡ shaped shape args)
    go tokens rest s (in_turn last_argument (next p ended)) = (refl, refl)
    go tokens rest s (in_turn (next_argument comma a more) h) = absurd (let e : Class.CloseParen ≡ Class.Comma = class_of_mark Class.CloseParen Class.Comma token tt is comma in cc)

pub arguments_stuck : {token : Token} (shape : Shape) (args : List Argument) → ¬ IsMark (codes ",") token → ¬ IsMark (codes ")") token → IsStuckAt (BehindArguments shape args) token
arguments_stuck shape args no_comma no_close tokens rest s (in_turn last_argument (next p h)) = no_close p
arguments_stuck shape args no_comma no_close tokens rest s (in_turn (next_argument comma a more) h) = no_comma comma
