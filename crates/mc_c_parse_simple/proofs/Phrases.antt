-- What a token does to phrases that are put together from smaller ones.
use Rattle.std.proofs.Common.{◌≡◌, ℕ, List, [], ◌∷◌, ◌⊎◌, inl, inr, refl, subst, IsTrue, true, false}
use Rattle.mc_base.specs.declared.text.token.Token.{Token}
use Rattle.mc_c_syntax.specs.Ast.Names.{Tokens, is_in}
use Rattle.mc_c_syntax.specs.Ast.Readers.{Takes, Finds, Closes, IsStuckAt, IsSame}
use Rattle.mc_c_parse_expr.specs.Turns.{InTurn, in_turn}
use Rattle.mc_c_parse_simple.specs.Phrases.{Ended, ended, Next, next, Either}

-- two phrases say the same of tokens that begin with this one
pub record SameAt {X : Type 0} (now other : Tokens → Tokens → X → Type 0) (token : Token) : Type 0 where
  pub forward : (tokens rest : Tokens) (x : X) → now (token ∷ tokens) rest x → other (token ∷ tokens) rest x
  pub backward : (tokens rest : Tokens) (x : X) → other (token ∷ tokens) rest x → now (token ∷ tokens) rest x

pub same_at : {X : Type 0} {now other : Tokens → Tokens → X → Type 0} (token : Token) → IsSame now other → SameAt now other token
same_at token s = record { forward = λ tokens rest x h. s.forward (token ∷ tokens) rest x h; backward = λ tokens rest x h. s.backward (token ∷ tokens) rest x h }

pub turned : {X : Type 0} {now other : Tokens → Tokens → X → Type 0} → IsSame now other → IsSame other now
turned s = record { forward = s.backward; backward = s.forward }

pub takes_along : {X : Type 0} {marks : List (List ℕ)} {now other later : Tokens → Tokens → X → Type 0} {token : Token} → SameAt now other token → Takes marks other later token → Takes marks now later token
takes_along s t = record { forward = λ tokens rest x h. t.forward tokens rest x (s.forward tokens rest x h); backward = λ tokens rest x h. s.backward tokens rest x (t.backward tokens rest x h) }

pub finds_along : {X : Type 0} {now other : Tokens → Tokens → X → Type 0} {token : Token} {x : X} → SameAt now other token → Finds other token x → Finds now token x
finds_along {token = token} {x = x} s f = record { forward = λ tokens rest y h. f.forward tokens rest y (s.forward tokens rest y h); backward = λ tokens. s.backward tokens (token ∷ tokens) x (f.backward tokens) }

pub closes_along : {X : Type 0} {now other : Tokens → Tokens → X → Type 0} {token : Token} {x : X} → SameAt now other token → Closes other token x → Closes now token x
closes_along {x = x} s c = record { forward = λ tokens rest y h. c.forward tokens rest y (s.forward tokens rest y h); backward = λ tokens. s.backward tokens tokens x (c.backward tokens) }

pub stuck_along : {X : Type 0} {now other : Tokens → Tokens → X → Type 0} {token : Token} → SameAt now other token → IsStuckAt other token → IsStuckAt now token
stuck_along s n tokens rest x h = n tokens rest x (s.forward tokens rest x h)

pub takes_to : {X : Type 0} {marks : List (List ℕ)} {now later other : Tokens → Tokens → X → Type 0} {token : Token} → Takes marks now other token → IsSame later other → Takes marks now later token
takes_to t s = record {
  forward = λ tokens rest x h. elim (t.forward tokens rest x h) [ inl l ↦ inl (s.backward tokens rest x l) | inr r ↦ inr r ];
  backward = λ tokens rest x h. t.backward tokens rest x (s.forward tokens rest x h);
}

pub takes_more : {X : Type 0} {marks : List (List ℕ)} {now later : Tokens → Tokens → X → Type 0} {token : Token} → Takes [] now later token → Takes marks now later token
takes_more t = record {
  forward = λ tokens rest x h. elim (t.forward tokens rest x h) [ inl l ↦ inl l | inr r ↦ absurd (let e : false ≡ true = r.1 in cc) ];
  backward = λ tokens rest x h. t.backward tokens rest x h;
}

pub same_same : {X : Type 0} {now : Tokens → Tokens → X → Type 0} → IsSame now now
same_same = record { forward = λ tokens rest x h. h; backward = λ tokens rest x h. h }

-- a phrase with what follows it
pub then_takes : {X Y : Type 0} {marks outer : List (List ℕ)} {first later : Tokens → Tokens → X → Type 0} {behind : X → Tokens → Tokens → Y → Type 0} {token : Token} → Takes marks first later token → ((x : X) (tokens rest : Tokens) (y : Y) → behind x (token ∷ tokens) rest y → IsTrue (is_in marks token.text) → (rest ≡ token ∷ tokens) × IsTrue (is_in outer token.text)) → Takes outer (InTurn first behind) (InTurn later behind) token
then_takes {X = X} {Y = Y} {marks = marks} {outer = outer} {first = first} {later = later} {behind = behind} {token = token} t goes = record { forward = go; backward = back }
  where
    side : (tokens mid rest : Tokens) (x : X) (y : Y) → behind x mid rest y → later tokens mid x ⊎ ((mid ≡ token ∷ tokens) × IsTrue (is_in marks token.text)) → InTurn later behind tokens rest y ⊎ ((rest ≡ token ∷ tokens) × IsTrue (is_in outer token.text))
    side tokens mid rest x y n (inl l) = inl (in_turn l n)
    side tokens mid rest x y n (inr r) = inr (goes x tokens rest y (subst (λ m. behind x m rest y) r.0 n) r.1)

    go : (tokens rest : Tokens) (y : Y) → InTurn first behind (token ∷ tokens) rest y → InTurn later behind tokens rest y ⊎ ((rest ≡ token ∷ tokens) × IsTrue (is_in outer token.text))
    go tokens rest y (in_turn {x = x} {mid = mid} f n) = side tokens mid rest x y n (t.forward tokens mid x f)

    back : (tokens rest : Tokens) (y : Y) → InTurn later behind tokens rest y → InTurn first behind (token ∷ tokens) rest y
    back tokens rest y (in_turn {x = x} {mid = mid} l n) = in_turn (t.backward tokens mid x l) n

pub then_moves : {X Y : Type 0} {first later : Tokens → Tokens → X → Type 0} {behind : X → Tokens → Tokens → Y → Type 0} {token : Token} → Takes [] first later token → Takes [] (InTurn first behind) (InTurn later behind) token
then_moves t = then_takes t (λ x tokens rest y n none. absurd (let e : false ≡ true = none in cc))

-- the tree is made of the phrase's
pub made_takes : {X Y : Type 0} {marks outer : List (List ℕ)} (f : X → Y) {first later : Tokens → Tokens → X → Type 0} {token : Token} → (IsTrue (is_in marks token.text) → IsTrue (is_in outer token.text)) → Takes marks first later token → Takes outer (InTurn first (λ x. Ended (f x))) (InTurn later (λ x. Ended (f x))) token
made_takes {X} {Y} {marks} {outer} f {first} {later} {token} wider t = then_takes t go
  where
    go : (x : X) (tokens rest : Tokens) (y : Y) → Ended (f x) (token ∷ tokens) rest y → IsTrue (is_in marks token.text) → (rest ≡ token ∷ tokens) × IsTrue (is_in outer token.text)
    go x tokens rest y ended h = (refl, wider h)

pub then_same_at : {X Y : Type 0} {first other : Tokens → Tokens → X → Type 0} {behind : X → Tokens → Tokens → Y → Type 0} {token : Token} → SameAt first other token → SameAt (InTurn first behind) (InTurn other behind) token
then_same_at {X = X} {Y = Y} {first = first} {other = other} {behind = behind} {token = token} s = record { forward = go; backward = back }
  where
    go : (tokens rest : Tokens) (y : Y) → InTurn first behind (token ∷ tokens) rest y → InTurn other behind (token ∷ tokens) rest y
    go tokens rest y (in_turn {x = x} {mid = mid} f n) = in_turn (s.forward tokens mid x f) n

    back : (tokens rest : Tokens) (y : Y) → InTurn other behind (token ∷ tokens) rest y → InTurn first behind (token ∷ tokens) rest y
    back tokens rest y (in_turn {x = x} {mid = mid} f n) = in_turn (s.backward tokens mid x f) n

pub then_finds : {X Y : Type 0} {first : Tokens → Tokens → X → Type 0} {behind : X → Tokens → Tokens → Y → Type 0} {token : Token} {x : X} → Finds first token x → SameAt (InTurn first behind) (behind x) token
then_finds {X = X} {Y = Y} {first = first} {behind = behind} {token = token} {x = x} f = record { forward = go; backward = λ tokens rest y h. in_turn (f.backward tokens) h }
  where
    go : (tokens rest : Tokens) (y : Y) → InTurn first behind (token ∷ tokens) rest y → behind x (token ∷ tokens) rest y
    go tokens rest y (in_turn {x = z} {mid = mid} h n) =
        let found : (mid ≡ token ∷ tokens) × (z ≡ x) = f.forward tokens mid z h in
        subst (λ w. behind w (token ∷ tokens) rest y) found.1 (subst (λ m. behind z m rest y) found.0 n)

pub then_closes : {X Y : Type 0} {first : Tokens → Tokens → X → Type 0} {behind : X → Tokens → Tokens → Y → Type 0} {token : Token} {x : X} → Closes first token x → Takes [] (InTurn first behind) (behind x) token
then_closes {X = X} {Y = Y} {first = first} {behind = behind} {token = token} {x = x} c = record { forward = λ tokens rest y h. inl (go tokens rest y h); backward = λ tokens rest y h. in_turn (c.backward tokens) h }
  where
    go : (tokens rest : Tokens) (y : Y) → InTurn first behind (token ∷ tokens) rest y → behind x tokens rest y
    go tokens rest y (in_turn {x = z} {mid = mid} h n) =
        let closed : (mid ≡ tokens) × (z ≡ x) = c.forward tokens mid z h in
        subst (λ w. behind w tokens rest y) closed.1 (subst (λ m. behind z m rest y) closed.0 n)

pub then_stuck : {X Y : Type 0} {first : Tokens → Tokens → X → Type 0} {behind : X → Tokens → Tokens → Y → Type 0} {token : Token} → IsStuckAt first token → IsStuckAt (InTurn first behind) token
then_stuck s tokens rest y (in_turn {x = x} {mid = mid} f n) = s tokens mid x f

pub then_same : {X Y : Type 0} {first other : Tokens → Tokens → X → Type 0} {behind : X → Tokens → Tokens → Y → Type 0} → IsSame first other → IsSame (InTurn first behind) (InTurn other behind)
then_same {X = X} {Y = Y} {first = first} {other = other} {behind = behind} s = record { forward = go; backward = back }
  where
    go : (tokens rest : Tokens) (y : Y) → InTurn first behind tokens rest y → InTurn other behind tokens rest y
    go tokens rest y (in_turn {x = x} {mid = mid} f n) = in_turn (s.forward tokens mid x f) n

    back : (tokens rest : Tokens) (y : Y) → InTurn other behind tokens rest y → InTurn first behind tokens rest y
    back tokens rest y (in_turn {x = x} {mid = mid} f n) = in_turn (s.backward tokens mid x f) n

-- a token with what follows it
pub next_takes : {Y : Type 0} {Is : Token → Type 0} {later : Token → Tokens → Tokens → Y → Type 0} {token : Token} → Is token → Takes [] (Next Is later) (later token) token
next_takes {Y = Y} {Is = Is} {later = later} {token = token} is = record { forward = λ tokens rest y h. inl (go tokens rest y h); backward = λ tokens rest y h. next is h }
  where
    go : (tokens rest : Tokens) (y : Y) → Next Is later (token ∷ tokens) rest y → later token tokens rest y
    go tokens rest y (next i l) = l

pub next_stuck : {Y : Type 0} {Is : Token → Type 0} {later : Token → Tokens → Tokens → Y → Type 0} {token : Token} → ¬ Is token → IsStuckAt (Next Is later) token
next_stuck isnt tokens rest y (next i l) = isnt i

pub next_closes : {Y : Type 0} {Is : Token → Type 0} {token : Token} (f : Token → Y) → Is token → Closes (Next Is (λ t. Ended (f t))) token (f token)
next_closes {Y = Y} {Is = Is} {token = token} f is = record { forward = go; backward = λ tokens. next is ended }
  where
    go : (tokens rest : Tokens) (y : Y) → Next Is (λ t. Ended (f t)) (token ∷ tokens) rest y → (rest ≡ tokens) × (y ≡ f token)
    go tokens rest y (next i ended) = (refl, refl)

-- one phrase or the other
pub either_takes : {Y : Type 0} {marks : List (List ℕ)} {one other one_later other_later : Tokens → Tokens → Y → Type 0} {token : Token} → Takes marks one one_later token → Takes marks other other_later token → Takes marks (Either one other) (Either one_later other_later) token
either_takes {Y = Y} {marks = marks} {one = one} {other = other} {one_later = one_later} {other_later = other_later} {token = token} s t = record { forward = go; backward = back }
  where
    first : (tokens rest : Tokens) (y : Y) → one_later tokens rest y ⊎ ((rest ≡ token ∷ tokens) × IsTrue (is_in marks token.text)) → Either one_later other_later tokens rest y ⊎ ((rest ≡ token ∷ tokens) × IsTrue (is_in marks token.text))
    first tokens rest y (inl l) = inl (inl l)
    first tokens rest y (inr r) = inr r

    second : (tokens rest : Tokens) (y : Y) → other_later tokens rest y ⊎ ((rest ≡ token ∷ tokens) × IsTrue (is_in marks token.text)) → Either one_later other_later tokens rest y ⊎ ((rest ≡ token ∷ tokens) × IsTrue (is_in marks token.text))
    second tokens rest y (inl l) = inl (inr l)
    second tokens rest y (inr r) = inr r

    go : (tokens rest : Tokens) (y : Y) → Either one other (token ∷ tokens) rest y → Either one_later other_later tokens rest y ⊎ ((rest ≡ token ∷ tokens) × IsTrue (is_in marks token.text))
    go tokens rest y (inl h) = first tokens rest y (s.forward tokens rest y h)
    go tokens rest y (inr h) = second tokens rest y (t.forward tokens rest y h)

    back : (tokens rest : Tokens) (y : Y) → Either one_later other_later tokens rest y → Either one other (token ∷ tokens) rest y
    back tokens rest y (inl h) = inl (s.backward tokens rest y h)
    back tokens rest y (inr h) = inr (t.backward tokens rest y h)

pub either_left : {Y : Type 0} {one other : Tokens → Tokens → Y → Type 0} {token : Token} → IsStuckAt other token → SameAt (Either one other) one token
either_left {Y = Y} {one = one} {other = other} {token = token} s = record { forward = go; backward = λ tokens rest y h. inl h }
  where
    go : (tokens rest : Tokens) (y : Y) → Either one other (token ∷ tokens) rest y → one (token ∷ tokens) rest y
    go tokens rest y (inl h) = h
    go tokens rest y (inr h) = absurd (s tokens rest y h)

pub either_right : {Y : Type 0} {one other : Tokens → Tokens → Y → Type 0} {token : Token} → IsStuckAt one token → SameAt (Either one other) other token
either_right {Y = Y} {one = one} {other = other} {token = token} s = record { forward = go; backward = λ tokens rest y h. inr h }
  where
    go : (tokens rest : Tokens) (y : Y) → Either one other (token ∷ tokens) rest y → other (token ∷ tokens) rest y
    go tokens rest y (inl h) = absurd (s tokens rest y h)
    go tokens rest y (inr h) = h

-- where one phrase can only be complete, the other goes on
pub either_on : {Y : Type 0} {marks : List (List ℕ)} {one other later : Tokens → Tokens → Y → Type 0} {token : Token} → ((tokens rest : Tokens) (y : Y) → one (token ∷ tokens) rest y → (rest ≡ token ∷ tokens) × IsTrue (is_in marks token.text)) → Takes marks other later token → Takes marks (Either one other) later token
either_on {Y = Y} {marks = marks} {one = one} {other = other} {later = later} {token = token} ends t = record { forward = go; backward = λ tokens rest y h. inr (t.backward tokens rest y h) }
  where
    go : (tokens rest : Tokens) (y : Y) → Either one other (token ∷ tokens) rest y → later tokens rest y ⊎ ((rest ≡ token ∷ tokens) × IsTrue (is_in marks token.text))
    go tokens rest y (inl h) = inr (ends tokens rest y h)
    go tokens rest y (inr h) = t.forward tokens rest y h

pub either_stuck : {Y : Type 0} (one other : Tokens → Tokens → Y → Type 0) (token : Token) → IsStuckAt one token → IsStuckAt other token → IsStuckAt (Either one other) token
either_stuck one other token s t tokens rest y (inl h) = s tokens rest y h
either_stuck one other token s t tokens rest y (inr h) = t tokens rest y h

-- a tree that is there
pub ended_finds : {Y : Type 0} {token : Token} (y : Y) → Finds (Ended y) token y
ended_finds {Y = Y} {token = token} y = record { forward = go; backward = λ tokens. ended }
  where
    go : (tokens rest : Tokens) (z : Y) → Ended y (token ∷ tokens) rest z → (rest ≡ token ∷ tokens) × (z ≡ y)
    go tokens rest z ended = (refl, refl)

pub made_finds : {X Y : Type 0} (f : X → Y) {first : Tokens → Tokens → X → Type 0} {token : Token} {x : X} → Finds first token x → Finds (InTurn first (λ x. Ended (f x))) token (f x)
made_finds f {x = x} h = finds_along (then_finds h) (ended_finds (f x))
