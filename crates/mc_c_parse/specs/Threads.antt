-- Readers made of readers, and what a step says.
use Rattle.std.specs.Prelude.{◌≡◌, []}
use Rattle.mc_base.specs.declared.text.token.Token.{Token}
use Rattle.mc_c_syntax.specs.Ast.Names.{Tokens}
use Rattle.mc_c_syntax.specs.Ast.Readers.{Takes, Closes, IsStuckAt}
use Rattle.mc_c_parse.specs.declared.step.Step.{Step}
use Rattle.mc_c_parse.specs.declared.step.Step.TheVariants.{Taken, Closed, Stuck}
use Rattle.mc_c_parse.specs.declared.step.Took.{Took}

-- the tokens begin with those of an `a`, and go on as the second says of it
abbrev pub Then : {A X : Type 0} → (Tokens → Tokens → A → Type 0) → (A → Tokens → Tokens → X → Type 0) → Tokens → Tokens → X → Type 0
Then {A} first second tokens rest x = (a : A) × (mid : Tokens) × first tokens mid a × second a mid rest x

-- nothing more is read: it is this
abbrev pub Gives : {X : Type 0} → X → Tokens → Tokens → X → Type 0
Gives x tokens rest y = (rest ≡ tokens) × (y ≡ x)

-- the step is that of a reader at this token: `completes` says what completes a reader, and `of` what it has read
abbrev pub StepIs : {R T X : Type 0} → (R → Tokens → Tokens → X → Type 0) → (T → X) → (Tokens → Tokens → X → Type 0)
    → Token → Step R T → Type 0
StepIs completes of now token (Taken reader) = Takes [] now (completes reader) token
StepIs completes of now token (Closed t) = Closes now token (of t)
StepIs completes of now token Stuck = IsStuckAt now token

-- the same of a reader that steps in place, of what completes it now and after the token
abbrev pub TookIs : {T X : Type 0} → (T → X) → (now behind : Tokens → Tokens → X → Type 0) → Token → Took T → Type 0
TookIs of now behind token Took.Taken = Takes [] now behind token
TookIs of now behind token (Took.Closed boxed) = Closes now token (of boxed.value)
TookIs of now behind token Took.Stuck = IsStuckAt now token

-- what was read is complete, and this
abbrev pub IsClosed : {T : Type 0} → T → Took T → Type 0
IsClosed t Took.Taken = ⊥
IsClosed t (Took.Closed boxed) = boxed.value ≡ t
IsClosed t Took.Stuck = ⊥

-- the step by value, done in place
abbrev pub IsPut : {R T : Type 0} → Step R T → R → Took T → Type 0
IsPut (Taken reader) behind took = (behind ≡ reader) × (took ≡ Took.Taken)
IsPut (Closed t) behind took = IsClosed t took
IsPut Stuck behind took = took ≡ Took.Stuck
