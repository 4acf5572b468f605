-- What a token can't be besides its class, and how steps follow phrases.
use Rattle.std.proofs.Common.{◌≡◌, ℕ, List, [], ◌∷◌, ◌⊎◌, inl, inr, refl, sym, ◌∙◌, subst, IsTrue, true, false, IfOk, Ok, Err, Result}
use Rattle.mc_base.specs.declared.text.token.Token.{Token}
use Rattle.mc_c_syntax.specs.declared.ast.class.Class.{Class}
use Rattle.mc_c_syntax.specs.Ast.Names.{Tokens, IsMark, is_in}
use Rattle.mc_c_syntax.specs.Ast.Classes.{IsClass}
use Rattle.mc_c_syntax.specs.Ast.Readers.{Takes, Closes, IsStuckAt}
use Rattle.mc_c_parse_expr.specs.Turns.{InTurn}
use Rattle.mc_c_parse_simple.specs.Phrases.{Next, next, Ended, ended}
use Rattle.mc_c_parse_simple.proofs.Phrases.{SameAt, then_takes, next_stuck}
use Rattle.mc_c_parse_body.specs.Phrases.{AgreeAt, Expects, first_of, classes_of}
use Rattle.mc_c_parse_body.specs.declared.phrase.Phrase.{Phrase}
use Rattle.mc_c_parse_body.proofs.Unique.{class_of_mark, class_of_word}

-- a token of this class
pub of_class : (token : Token) {class : Class} (other : Class) → class ≡ other → IsClass token class → IsClass token other
of_class token other e is = subst (λ (k : Class). IsClass token k) e is

-- the first token of a phrase
pub first_is : {Y : Type 0} {Is : Token → Type 0} {later : Token → Tokens → Tokens → Y → Type 0} {token : Token} {tokens rest : Tokens} {y : Y} → Next Is later (token ∷ tokens) rest y → Is token
first_is (next i l) = i

-- a mark that is none of these
pub rejects : (marks : List (List ℕ)) (mark : List ℕ) (token : Token) → is_in marks mark ≡ false → IsMark mark token → IsTrue (is_in marks token.text) → ⊥
rejects marks mark token none is among =
    let here : is_in marks mark ≡ true = subst (λ (t : List ℕ). is_in marks t ≡ true) is.text among in
    let e : false ≡ true = sym none ∙ here in cc

-- a phrase that nothing with the marks of its first part follows
pub then_rejects : {X Y : Type 0} {marks : List (List ℕ)} (mark : List ℕ) {first later : Tokens → Tokens → X → Type 0} {behind : X → Tokens → Tokens → Y → Type 0} {token : Token} → is_in marks mark ≡ false → ((x : X) (tokens rest : Tokens) (y : Y) → behind x (token ∷ tokens) rest y → IsMark mark token) → Takes marks first later token → Takes [] (InTurn first behind) (InTurn later behind) token
then_rejects {marks = marks} mark {token = token} none begins t = then_takes t (λ x tokens rest y h among. absurd (rejects marks mark token none (begins x tokens rest y h) among))

-- the tree is there after the token
pub closes_ended : {Y : Type 0} {now : Tokens → Tokens → Y → Type 0} {token : Token} {y : Y} → Takes [] now (Ended y) token → Closes now token y
closes_ended {Y = Y} {now = now} {token = token} {y = y} t = record { forward = λ tokens rest z h. side tokens rest z (t.forward tokens rest z h); backward = λ tokens. t.backward tokens tokens y ended }
  where
    at_end : (tokens rest : Tokens) (z : Y) → Ended y tokens rest z → (rest ≡ tokens) × (z ≡ y)
    at_end tokens rest z ended = (refl, refl)

    side : (tokens rest : Tokens) (z : Y) → Ended y tokens rest z ⊎ ((rest ≡ token ∷ tokens) × IsTrue (is_in [] token.text)) → (rest ≡ tokens) × (z ≡ y)
    side tokens rest z (inl e) = at_end tokens rest z e
    side tokens rest z (inr r) = absurd (let e : false ≡ true = r.1 in cc)

-- a fact of what a call gives
pub if_ok_map : {A E : Type 0} {P Q : A → Type 0} (r : Result A E) → ((a : A) → P a → Q a) → IfOk r P → IfOk r Q
if_ok_map (Ok a) f h = f a h
if_ok_map (Err e) f h = h

-- a phrase whose first token is another
pub phrase_stuck : {Y : Type 0} (goes : Tokens → Tokens → Y → Type 0) (phrase : Phrase) (class : Class) (token : Token) → IsClass token class → (class ≡ first_of phrase → ⊥) → IsStuckAt (Expects (classes_of phrase) goes) token
phrase_stuck goes Phrase.Semicolon class token is differs = next_stuck (λ m. differs (class_of_mark class Class.Semicolon token tt is m))
phrase_stuck goes Phrase.Open class token is differs = next_stuck (λ m. differs (class_of_mark class Class.OpenParen token tt is m))
phrase_stuck goes Phrase.Close class token is differs = next_stuck (λ m. differs (class_of_mark class Class.CloseParen token tt is m))
phrase_stuck goes Phrase.CloseSemicolon class token is differs = next_stuck (λ m. differs (class_of_mark class Class.CloseParen token tt is m))
phrase_stuck goes Phrase.OpenCloseSemicolon class token is differs = next_stuck (λ m. differs (class_of_mark class Class.OpenParen token tt is m))
phrase_stuck goes Phrase.WhileOpen class token is differs = next_stuck (λ m. differs (class_of_word class Class.While token tt is m))

pub agree : {X : Type 0} {now other : Tokens → Tokens → X → Type 0} {token : Token} → SameAt now other token → AgreeAt now other token
agree s = record { forward = s.forward; backward = s.backward }

pub same : {X : Type 0} {now other : Tokens → Tokens → X → Type 0} {token : Token} → AgreeAt now other token → SameAt now other token
same s = record { forward = s.forward; backward = s.backward }
