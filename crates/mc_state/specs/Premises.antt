-- Rules as premises with numbers, in order.
use Rattle.std.specs.Prelude.{◌≡◌, ◌↔◌, ℕ, Bool, true, false, Option, Some, None, Result, Ok, Err, is_ok}
use Rattle.mc_state.specs.declared.rule.LogicFault.{LogicFault}
use Rattle.mc_state.specs.declared.rule.LogicFault.TheVariants.{Premise, NoMemory}

-- what a rule gives, or the number of the first premise that is unmet
abbrev pub Judged : Type 0 → Type 0
Judged A = Result A ℕ

-- premise k is a test, and what comes after it
abbrev pub need : {A : Type 0} → ℕ → Bool → Judged A → Judged A
need k true rest = rest
need k false rest = Err k

-- premise k has a witness, which what comes after it uses
abbrev pub have : {W A : Type 0} → ℕ → Option W → (W → Judged A) → Judged A
have k (Some w) rest = rest w
have k None rest = Err k

-- what comes of what is given
abbrev pub then_give : {A B : Type 0} → (A → B) → Judged A → Judged B
then_give f (Ok a) = Ok (f a)
then_give f (Err k) = Err k

-- what is judged gives a value exactly where the rule has an instance with it
abbrev pub IsJudged : {A : Type 0} → Judged A → (A → Type 0) → Type 0
IsJudged judged Instance = (next : _) → (judged ≡ Ok next) ↔ Instance next

-- a function answers what is judged; only where something is given may memory be missing
abbrev pub Answers : {A : Type 0} → Judged A → Result A LogicFault → Type 0
Answers judged (Ok a) = judged ≡ Ok a
Answers judged (Err (Premise k)) = judged ≡ Err k
Answers judged (Err NoMemory) = is_ok judged ≡ true

-- the same where the answer is seen as something else
abbrev pub AnswersBy : {A B : Type 0} → (B → A) → Judged A → Result B LogicFault → Type 0
AnswersBy view judged (Ok b) = judged ≡ Ok (view b)
AnswersBy view judged (Err (Premise k)) = judged ≡ Err k
AnswersBy view judged (Err NoMemory) = is_ok judged ≡ true

-- a function changes a value as is judged, or leaves it as it was; only where it is to change may memory be missing, and then nothing is said of the value
abbrev pub Changes : {A : Type 0} → Judged A → A → A → Result Unit LogicFault → Type 0
Changes judged old new (Ok done) = judged ≡ Ok new
Changes judged old new (Err (Premise k)) = (judged ≡ Err k) × (new ≡ old)
Changes judged old new (Err NoMemory) = is_ok judged ≡ true

-- the same where no memory is needed
abbrev pub ChangesOrStays : {A : Type 0} → Judged A → A → A → Result Unit ℕ → Type 0
ChangesOrStays judged old new (Ok done) = judged ≡ Ok new
ChangesOrStays judged old new (Err k) = (judged ≡ Err k) × (new ≡ old)
