-- Readers made of readers.
use Rattle.std.proofs.Common.{◌≡◌, ℕ, List, [], ◌∷◌, refl, subst, inl, inr, Ok, Err, IfOk}
use Rattle.std.proofs.lemmas.Bool.{false≢true}
use Rattle.std.specs.Prelude.{Result, IsTrue}
use Rattle.mc_base.specs.declared.text.token.Token.{Token}
use Rattle.mc_c_syntax.specs.Ast.Names.{Tokens, is_in}
use Rattle.mc_c_syntax.specs.Ast.Readers.{Takes, Closes, IsStuckAt, IsSame}
use Rattle.mc_c_parse.specs.declared.step.Step.{Step}
use Rattle.mc_c_parse.specs.declared.step.Step.TheVariants.{Taken, Closed, Stuck}
use Rattle.mc_c_parse.specs.declared.step.Took.{Took}
use Rattle.mc_c_parse.specs.Threads.{Then, Gives, StepIs, TookIs, IsPut}

-- what holds of every good answer
pub if_ok : {X E : Type 0} {P Q : X → Type 0} → (r : Result X E) → ((x : X) → P x → Q x) → IfOk r P → IfOk r Q
if_ok (Ok x) f p = f x p
if_ok (Err e) f p = tt

pub none_goes_on : (text : List ℕ) → IsTrue (is_in [] text) → ⊥
none_goes_on text e = false≢true e

pub then_takes : {A X : Type 0} {now later : Tokens → Tokens → A → Type 0} {K : A → Tokens → Tokens → X → Type 0} {token : Token} → Takes [] now later token → Takes [] (Then now K) (Then later K) token
then_takes {A = A} {now = now} {later = later} {K = K} {token = token} t = record {
  forward = λ tokens rest x n. inl (n.0, n.1, left tokens n.1 n.0 n.2, n.3);
  backward = λ tokens rest x l. (l.0, l.1, t.backward tokens l.1 l.0 l.2, l.3);
} where
  left : (tokens mid : Tokens) (a : A) → now (token ∷ tokens) mid a → later tokens mid a
  left tokens mid a n = elim (t.forward tokens mid a n) [ inl l ↦ l | inr e ↦ absurd (none_goes_on token.text e.1) ]

pub then_closes : {A X : Type 0} {now : Tokens → Tokens → A → Type 0} (K : A → Tokens → Tokens → X → Type 0) {token : Token} {a : A} → Closes now token a → Takes [] (Then now K) (K a) token
then_closes {A} {X} {now} K {token} {a} c = record {
  forward = λ tokens rest x n. inl (forward tokens rest x n);
  backward = λ tokens rest x k. (a, tokens, c.backward tokens, k);
} where
  forward : (tokens rest : Tokens) (x : X) → Then now K (token ∷ tokens) rest x → K a tokens rest x
  forward tokens rest x n = let e = c.forward tokens n.1 n.0 n.2 in subst (λ b. K b tokens rest x) e.1 (subst (λ mid. K n.0 mid rest x) e.0 n.3)

pub then_gives : {A X : Type 0} {now : Tokens → Tokens → A → Type 0} (f : A → X) {token : Token} {a : A} → Closes now token a → Closes (Then now (λ b. Gives (f b))) token (f a)
then_gives {A} {X} {now} f {token} {a} c = record {
  forward = λ tokens rest x n. forward tokens rest x n;
  backward = λ tokens. (a, tokens, c.backward tokens, (refl, refl));
} where
  forward : (tokens rest : Tokens) (x : X) → Then now (λ b. Gives (f b)) (token ∷ tokens) rest x → (rest ≡ tokens) × (x ≡ f a)
  forward tokens rest x n = let e = c.forward tokens n.1 n.0 n.2 in rw (← e.0, ← e.1) n.3

pub then_stuck : {A X : Type 0} (now : Tokens → Tokens → A → Type 0) (K : A → Tokens → Tokens → X → Type 0) {token : Token} → IsStuckAt now token → IsStuckAt (Then now K) token
then_stuck now K s = λ tokens rest x n. s tokens n.1 n.0 n.2

-- before tokens that begin with this one, two relations say the same
pub record SameAt {X : Type 0} (now other : Tokens → Tokens → X → Type 0) (token : Token) : Type 0 where
  pub forward : (tokens rest : Tokens) (x : X) → now (token ∷ tokens) rest x → other (token ∷ tokens) rest x
  pub backward : (tokens rest : Tokens) (x : X) → other (token ∷ tokens) rest x → now (token ∷ tokens) rest x

pub same_takes : {X : Type 0} {now other later : Tokens → Tokens → X → Type 0} {token : Token} → SameAt now other token → Takes [] other later token → Takes [] now later token
same_takes s t = record { forward = λ tokens rest x n. t.forward tokens rest x (s.forward tokens rest x n); backward = λ tokens rest x l. s.backward tokens rest x (t.backward tokens rest x l) }

pub same_closes : {X : Type 0} {now other : Tokens → Tokens → X → Type 0} {token : Token} {x : X} → SameAt now other token → Closes other token x → Closes now token x
same_closes s c = record { forward = λ tokens rest y n. c.forward tokens rest y (s.forward tokens rest y n); backward = λ tokens. s.backward tokens tokens _ (c.backward tokens) }

pub same_stuck : {X : Type 0} {now other : Tokens → Tokens → X → Type 0} {token : Token} → SameAt now other token → IsStuckAt other token → IsStuckAt now token
same_stuck s stuck = λ tokens rest x n. stuck tokens rest x (s.forward tokens rest x n)

pub same_step : {R T X : Type 0} (completes : R → Tokens → Tokens → X → Type 0) (of : T → X) {now other : Tokens → Tokens → X → Type 0} {token : Token} → SameAt now other token → (step : Step R T) → StepIs completes of other token step → StepIs completes of now token step
same_step completes of s (Taken r) t = same_takes s t
same_step completes of s (Closed t) c = same_closes s c
same_step completes of s Stuck stuck = same_stuck s stuck

-- a step by value that is done in place
pub put_is : {R T X : Type 0} (completes : R → Tokens → Tokens → X → Type 0) (of : T → X) (now : Tokens → Tokens → X → Type 0) (token : Token) (step : Step R T) (behind : R) (took : Took T) → IsPut step behind took → StepIs completes of now token step → TookIs of now (completes behind) token took
put_is completes of now token (Taken reader) behind took e t = rw (e.0, e.1) t
put_is completes of now token (Closed t) behind Took.Taken e c = absurd e
put_is completes of now token (Closed t) behind (Took.Closed boxed) e c = rw e c
put_is completes of now token (Closed t) behind Took.Stuck e c = absurd e
put_is completes of now token Stuck behind took e stuck = rw e stuck

pub takes_same : {X : Type 0} {now other later : Tokens → Tokens → X → Type 0} {token : Token} → Takes [] now other token → IsSame later other → Takes [] now later token
takes_same {X = X} {now = now} {other = other} {later = later} {token = token} t s = record {
  forward = λ tokens rest x n. inl (s.backward tokens rest x (left tokens rest x n));
  backward = λ tokens rest x l. t.backward tokens rest x (s.forward tokens rest x l);
} where
  left : (tokens rest : Tokens) (x : X) → now (token ∷ tokens) rest x → other tokens rest x
  left tokens rest x n = elim (t.forward tokens rest x n) [ inl l ↦ l | inr e ↦ absurd (none_goes_on token.text e.1) ]
