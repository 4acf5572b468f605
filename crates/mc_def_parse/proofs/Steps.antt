-- Steps of readers.
use Rattle.std.proofs.Common.{◌≡◌, ℕ, ◌∷◌, refl, ap, sym, subst}
use Rattle.std.specs.Prelude.{Result, Ok, Err, IfOk}
use Rattle.mc_base.specs.declared.text.token.Token.{Token}
use Rattle.mc_c_syntax.specs.Ast.Names.{Tokens, IsNumber}
use Rattle.mc_c_syntax.proofs.AstLemmas.Numbers.{one_number}
use Rattle.mc_c_syntax.specs.Ast.Readers.{Closes, IsStuckAt}
use Rattle.mc_def_parse.specs.Symbols.{symbol_of, symbol_by}
use Rattle.mc_def_parse.specs.declared.symbols.Symbol.{Symbol}
use Rattle.mc_def_parse.specs.Steps.{Takes, Then, First, BySymbol, FirstNumber, Gives}

-- what holds of every good answer
pub if_ok : {X E : Type 0} {P Q : X → Type 0} → (r : Result X E) → ((x : X) → P x → Q x) → IfOk r P → IfOk r Q
if_ok (Ok x) f p = f x p
if_ok (Err e) f p = tt

-- ---- numbers
pub number_symbol : {token : Token} {n : ℕ} → IsNumber token n → symbol_of token ≡ Symbol.Number
number_symbol {token} h = ap (λ kind. symbol_by kind token.text) h.kind

-- ---- one token
pub takes_first : {X : Type 0} {such : Token → Type 0} {second : Token → Tokens → Tokens → X → Type 0} {token : Token} → such token → Takes (First such second) (second token) token
takes_first s = record { forward = λ tokens rest x n. n.1; backward = λ tokens rest x l. (s, l) }

pub stuck_first : {X : Type 0} (such : Token → Type 0) (second : Token → Tokens → Tokens → X → Type 0) {token : Token} → (such token → ⊥) → IsStuckAt (First such second) token
stuck_first such second never = λ tokens rest x n. never n.0

pub closes_first : {X : Type 0} {such : Token → Type 0} {y : X} {token : Token} → such token → Closes (First such (λ t. Gives y)) token y
closes_first s = record { forward = λ tokens rest x n. n.1; backward = λ tokens. (s, (refl, refl)) }

pub takes_by : {X : Type 0} (behind : Symbol → Token → Tokens → Tokens → X → Type 0) {token : Token} (symbol : Symbol) → symbol_of token ≡ symbol → Takes (BySymbol behind) (behind symbol token) token
takes_by behind {token} symbol e = record {
  forward = λ tokens rest x n. subst (λ s. behind s token tokens rest x) e n;
  backward = λ tokens rest x l. subst (λ s. behind s token tokens rest x) (sym e) l;
}

pub takes_number : {X : Type 0} {second : ℕ → Token → Tokens → Tokens → X → Type 0} {token : Token} {n : ℕ} → IsNumber token n → Takes (FirstNumber second) (second n token) token
takes_number {second = second} {token = token} {n = n} h = record {
  forward = λ tokens rest x f. subst (λ m. second m token tokens rest x) (one_number f.1 h) f.2;
  backward = λ tokens rest x l. (n, h, l);
}

-- ---- readers made of readers
pub then_takes : {A X : Type 0} {now later : Tokens → Tokens → A → Type 0} {K : A → Tokens → Tokens → X → Type 0} {token : Token} → Takes now later token → Takes (Then now K) (Then later K) token
then_takes t = record {
  forward = λ tokens rest x n. (n.0, n.1, t.forward tokens n.1 n.0 n.2, n.3);
  backward = λ tokens rest x l. (l.0, l.1, t.backward tokens l.1 l.0 l.2, l.3);
}

pub then_closes : {A X : Type 0} {now : Tokens → Tokens → A → Type 0} (K : A → Tokens → Tokens → X → Type 0) {token : Token} {a : A} → Closes now token a → Takes (Then now K) (K a) token
then_closes {A} {X} {now} K {token} {a} c = record {
  forward = λ tokens rest x n. forward tokens rest x n;
  backward = λ tokens rest x k. (a, tokens, c.backward tokens, k);
} where
  forward : (tokens rest : Tokens) (x : X) → Then now K (token ∷ tokens) rest x → K a tokens rest x
  forward tokens rest x n = let e = c.forward tokens n.1 n.0 n.2 in subst (λ b. K b tokens rest x) e.1 (subst (λ mid. K n.0 mid rest x) e.0 n.3)

pub then_stuck : {A X : Type 0} (now : Tokens → Tokens → A → Type 0) (K : A → Tokens → Tokens → X → Type 0) {token : Token} → IsStuckAt now token → IsStuckAt (Then now K) token
then_stuck now K s = λ tokens rest x n. s tokens n.1 n.0 n.2

-- before tokens that begin with this one, two relations say the same
pub record SameAt {X : Type 0} (now other : Tokens → Tokens → X → Type 0) (token : Token) : Type 0 where
  pub forward : (tokens rest : Tokens) (x : X) → now (token ∷ tokens) rest x → other (token ∷ tokens) rest x
  pub backward : (tokens rest : Tokens) (x : X) → other (token ∷ tokens) rest x → now (token ∷ tokens) rest x

pub same_takes : {X : Type 0} {now other later : Tokens → Tokens → X → Type 0} {token : Token} → SameAt now other token → Takes other later token → Takes now later token
same_takes s t = record { forward = λ tokens rest x n. t.forward tokens rest x (s.forward tokens rest x n); backward = λ tokens rest x l. s.backward tokens rest x (t.backward tokens rest x l) }

pub same_closes : {X : Type 0} {now other : Tokens → Tokens → X → Type 0} {token : Token} {x : X} → SameAt now other token → Closes other token x → Closes now token x
same_closes s c = record { forward = λ tokens rest y n. c.forward tokens rest y (s.forward tokens rest y n); backward = λ tokens. s.backward tokens tokens _ (c.backward tokens) }

pub same_stuck : {X : Type 0} {now other : Tokens → Tokens → X → Type 0} {token : Token} → SameAt now other token → IsStuckAt other token → IsStuckAt now token
same_stuck s stuck = λ tokens rest x n. stuck tokens rest x (s.forward tokens rest x n)
