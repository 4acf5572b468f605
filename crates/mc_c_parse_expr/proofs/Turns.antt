-- How relations that follow one another take a token.
use Rattle.std.proofs.Common.{◌≡◌, ℕ, List, ◌∷◌, subst, IsTrue, ◌⊎◌, inl, inr, ⊎_elim}
use Rattle.mc_base.specs.declared.text.token.Token.{Token}
use Rattle.mc_c_syntax.specs.Ast.Names.{Tokens, is_in}
use Rattle.mc_c_syntax.specs.Ast.Readers.{Takes, Finds, Closes, IsStuckAt, IsSame}
use Rattle.mc_c_parse_expr.specs.Turns.{InTurn, in_turn, Moves}

-- two relations say the same where the token comes next
pub record SameAt {X : Type 0} (now other : Tokens → Tokens → X → Type 0) (token : Token) : Type 0 where
  pub forward : (tokens rest : Tokens) (x : X) → now (token ∷ tokens) rest x → other (token ∷ tokens) rest x
  pub backward : (tokens rest : Tokens) (x : X) → other (token ∷ tokens) rest x → now (token ∷ tokens) rest x

pub same_at : {X : Type 0} {now other : Tokens → Tokens → X → Type 0} (token : Token) → IsSame now other → SameAt other now token
same_at token s = record { forward = λ tokens rest x h. s.backward (token ∷ tokens) rest x h; backward = λ tokens rest x h. s.forward (token ∷ tokens) rest x h }

pub same_takes : {X : Type 0} {marks : List (List ℕ)} {now other later : Tokens → Tokens → X → Type 0} {token : Token} → SameAt now other token → Takes marks other later token → Takes marks now later token
same_takes s t = record {
  forward = λ tokens rest x h. t.forward tokens rest x (s.forward tokens rest x h);
  backward = λ tokens rest x h. s.backward tokens rest x (t.backward tokens rest x h);
}

pub same_finds : {X : Type 0} {now other : Tokens → Tokens → X → Type 0} {token : Token} {x : X} → SameAt now other token → Finds other token x → Finds now token x
same_finds {token = token} {x = x} s t = record {
  forward = λ tokens rest y h. t.forward tokens rest y (s.forward tokens rest y h);
  backward = λ tokens. s.backward tokens (token ∷ tokens) x (t.backward tokens);
}

pub same_stuck : {X : Type 0} {now other : Tokens → Tokens → X → Type 0} {token : Token} → SameAt now other token → IsStuckAt other token → IsStuckAt now token
same_stuck s t tokens rest x h = t tokens rest x (s.forward tokens rest x h)

pub moves_takes : {X : Type 0} {marks : List (List ℕ)} {now later : Tokens → Tokens → X → Type 0} {token : Token} → Moves now later token → Takes marks now later token
moves_takes t = record { forward = λ tokens rest x h. inl (t.forward tokens rest x h); backward = t.backward }

turn_stuck_at : {X Y : Type 0} {first : Tokens → Tokens → X → Type 0} {next : X → Tokens → Tokens → Y → Type 0} {token : Token} {tokens rest : Tokens} {y : Y} → IsStuckAt first token → InTurn first next (token ∷ tokens) rest y → ⊥
turn_stuck_at {tokens = tokens} s (in_turn {x = x} {mid = mid} f n) = s tokens mid x f

pub turn_stuck : {X Y : Type 0} {first : Tokens → Tokens → X → Type 0} {next : X → Tokens → Tokens → Y → Type 0} {token : Token} → IsStuckAt first token → IsStuckAt (InTurn first next) token
turn_stuck s tokens rest y h = turn_stuck_at s h

closes_forward : {X Y : Type 0} {first : Tokens → Tokens → X → Type 0} {next : X → Tokens → Tokens → Y → Type 0} {token : Token} {x : X} {tokens rest : Tokens} {y : Y} → Closes first token x → InTurn first next (token ∷ tokens) rest y → next x tokens rest y
closes_forward {X = X} {next = next} {x = x} {tokens = tokens} {rest = rest} {y = y} s (in_turn {x = z} {mid = mid} f n) =
    let e = s.forward tokens mid z f in
    let P : X → Type 0 = λ v. next v tokens rest y in
    let Q : Tokens → Type 0 = λ m. next z m rest y in
    subst P e.1 (subst Q e.0 n)

pub turn_closes : {X Y : Type 0} {marks : List (List ℕ)} {first : Tokens → Tokens → X → Type 0} {next : X → Tokens → Tokens → Y → Type 0} {token : Token} {x : X} → Closes first token x → Takes marks (InTurn first next) (next x) token
turn_closes s = record { forward = λ tokens rest y h. inl (closes_forward s h); backward = λ tokens rest y h. in_turn (s.backward tokens) h }

finds_forward : {X Y : Type 0} {first : Tokens → Tokens → X → Type 0} {next : X → Tokens → Tokens → Y → Type 0} {token : Token} {x : X} {tokens rest : Tokens} {y : Y} → Finds first token x → InTurn first next (token ∷ tokens) rest y → next x (token ∷ tokens) rest y
finds_forward {X = X} {next = next} {token = token} {x = x} {tokens = tokens} {rest = rest} {y = y} s (in_turn {x = z} {mid = mid} f n) =
    let e = s.forward tokens mid z f in
    let P : X → Type 0 = λ v. next v (token ∷ tokens) rest y in
    let Q : Tokens → Type 0 = λ m. next z m rest y in
    subst P e.1 (subst Q e.0 n)

pub turn_finds : {X Y : Type 0} {first : Tokens → Tokens → X → Type 0} {next : X → Tokens → Tokens → Y → Type 0} {token : Token} {x : X} → Finds first token x → SameAt (InTurn first next) (next x) token
turn_finds s = record { forward = λ tokens rest y h. finds_forward s h; backward = λ tokens rest y h. in_turn (s.backward tokens) h }

-- where the first was complete, the next goes on with one of its marks only past the end
abbrev pub EndsAt : {X Y : Type 0} → (inner outer : List (List ℕ)) → (X → Tokens → Tokens → Y → Type 0) → Token → Type 0
EndsAt {X} {Y} inner outer next token = IsTrue (is_in inner token.text) → (x : X) (tokens rest : Tokens) (y : Y) → next x (token ∷ tokens) rest y → (rest ≡ token ∷ tokens) × IsTrue (is_in outer token.text)

takes_forward : {X Y : Type 0} (inner outer : List (List ℕ)) {first later : Tokens → Tokens → X → Type 0} {next : X → Tokens → Tokens → Y → Type 0} {token : Token} {tokens rest : Tokens} {y : Y} → Takes inner first later token → EndsAt inner outer next token → InTurn first next (token ∷ tokens) rest y → InTurn later next tokens rest y ⊎ ((rest ≡ token ∷ tokens) × IsTrue (is_in outer token.text))
takes_forward inner outer {next = next} {tokens = tokens} {rest = rest} {y = y} s ends (in_turn {x = z} {mid = mid} f n) =
    ⊎_elim (λ l. inl (in_turn l n)) (λ e. inr (ends e.1 z tokens rest y (let Q : Tokens → Type 0 = λ m. next z m rest y in subst Q e.0 n))) (s.forward tokens mid z f)

takes_backward : {X Y : Type 0} {inner : List (List ℕ)} {first later : Tokens → Tokens → X → Type 0} {next : X → Tokens → Tokens → Y → Type 0} {token : Token} {tokens rest : Tokens} {y : Y} → Takes inner first later token → InTurn later next tokens rest y → InTurn first next (token ∷ tokens) rest y
takes_backward {tokens = tokens} s (in_turn {x = x} {mid = mid} f n) = in_turn (s.backward tokens mid x f) n

pub turn_takes : {X Y : Type 0} (inner outer : List (List ℕ)) (first later : Tokens → Tokens → X → Type 0) (next : X → Tokens → Tokens → Y → Type 0) (token : Token) → Takes inner first later token → EndsAt inner outer next token → Takes outer (InTurn first next) (InTurn later next) token
turn_takes inner outer first later next token s ends = record { forward = λ tokens rest y h. takes_forward inner outer {first = first} {later = later} {next = next} s ends h; backward = λ tokens rest y h. takes_backward s h }
