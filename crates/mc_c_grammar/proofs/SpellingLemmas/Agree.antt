-- Two readings of the same tokens agree, or one of them stops where a mark could go on.
use Rattle.std.proofs.Common.{◌≡◌, ℕ, Bool, true, false, ◌||◌, List, [], ◌∷◌, refl, ap, ◌∙◌}
use native.Mathlib.Omega.{arith}
use Rattle.std.specs.Prelude.{IsTrue}
use Rattle.mc_base.specs.declared.text.token.Token.{Token}
use Rattle.mc_c_syntax.specs.Ast.Names.{Tokens, IsMark, is_in, is_same}

-- the tokens begin with one of these marks
abbrev pub Begins : List (List ℕ) → Tokens → Type 0
Begins marks [] = ⊥
Begins marks (token ∷ tokens) = IsTrue (is_in marks token.text)

pub data Agree {X : Type 0} (marks : List (List ℕ)) : X → Tokens → X → Tokens → Type 0 where
  same : {x : X} {r : Tokens} → Agree marks x r x r
  early : {x y : X} {r s : Tokens} → Begins marks r → Agree marks x r y s
  late : {x y : X} {r s : Tokens} → Begins marks s → Agree marks x r y s

pub agree_then : {X : Type 0} {marks : List (List ℕ)} {R : Type 0} {x y : X} {r s : Tokens} (P : X → Tokens → Type 0) → Agree marks x r y s → (P x r → R) → (Begins marks r → R) → (Begins marks s → P y s → R) → P y s → R
agree_then P same here before behind p = here p
agree_then P (early b) here before behind p = before b
agree_then P (late b) here before behind p = behind b p

pub wider : (m : List ℕ) (marks : List (List ℕ)) (tokens : Tokens) → Begins marks tokens → Begins (m ∷ marks) tokens
wider m marks [] b = b
wider m marks (token ∷ tokens) b = or_right (is_same token.text m) b
  where
    or_right : (p : Bool) {q : Bool} → IsTrue q → IsTrue (p || q)
    or_right true h = refl
    or_right false h = h

pub conflict : (marks : List (List ℕ)) {m : List ℕ} (token : Token) → is_in marks m ≡ false → token.text ≡ m → is_in marks token.text ≡ true → ⊥
conflict marks token other text so = let e : is_in marks token.text ≡ false = ap (is_in marks) text ∙ other in cc

pub agree_with : {X : Type 0} {marks : List (List ℕ)} {x y : X} {r s : Tokens} (P R : X → Tokens → Type 0) → Agree marks x r y s → (P x r → R x r) → (Begins marks r → R y s) → (Begins marks s → R y s) → P y s → R y s
agree_with P R same here before behind p = here p
agree_with P R (early b) here before behind p = before b
agree_with P R (late b) here before behind p = behind b

-- nothing begins with none
pub never : (ts : Tokens) → Begins [] ts → ⊥
never [] b = b
never (t ∷ ts) b = absurd (grind arith)

pub lift : {X Y : Type 0} (f : X → Y) {x y : X} {r s : Tokens} → Agree [] x r y s → Agree [] (f x) r (f y) s
lift f same = same
lift f (early {r = r} b) = absurd (never r b)
lift f (late {s = s} b) = absurd (never s b)

-- the same with what is built of two trees, the token that closes them taken away
pub close_one : (marks : List (List ℕ)) {m : List ℕ} {X Y : Type 0} (f : X → Y) {x y : X} {a b : Token} {r s : Tokens} → is_in marks m ≡ false → IsMark m a → IsMark m b → Agree marks x (a ∷ r) y (b ∷ s) → Agree [] (f x) r (f y) s
close_one marks f other is is' same = same
close_one marks f {a = a} other is is' (early so) = absurd (conflict marks a other is.text so)
close_one marks f {b = b} other is is' (late so) = absurd (conflict marks b other is'.text so)

pub close_two : (marks : List (List ℕ)) {m : List ℕ} {X Y : Type 0} (f : X → Y) {x y : X} {a b c d : Token} {r s : Tokens} → is_in marks m ≡ false → IsMark m a → IsMark m b → Agree marks x (a ∷ c ∷ r) y (b ∷ d ∷ s) → Agree [] (f x) r (f y) s
close_two marks f other is is' same = same
close_two marks f {a = a} other is is' (early so) = absurd (conflict marks a other is.text so)
close_two marks f {b = b} other is is' (late so) = absurd (conflict marks b other is'.text so)

-- what holds of the tokens after the first one
abbrev pub Behind : (Tokens → Type 0) → Tokens → Type 0
Behind F [] = ⊥
Behind F (token ∷ tokens) = F tokens

pub agree_all : {X : Type 0} {x y : X} {r s : Tokens} (P R : X → Tokens → Type 0) → Agree [] x r y s → (P x r → R x r) → P y s → R y s
agree_all P R same here p = here p
agree_all P R (early {r = r} b) here p = absurd (never r b)
agree_all P R (late {s = s} b) here p = absurd (never s b)

pub agree_at : (marks : List (List ℕ)) {m : List ℕ} {X : Type 0} {x y : X} {a b : Token} {r s : Tokens} (P R : X → Tokens → Type 0) → is_in marks m ≡ false → IsMark m a → IsMark m b → Agree marks x (a ∷ r) y (b ∷ s) → (P x (a ∷ r) → R x (a ∷ r)) → P y (b ∷ s) → R y (b ∷ s)
agree_at marks P R other is is' same here p = here p
agree_at marks {a = a} P R other is is' (early so) here p = absurd (conflict marks a other is.text so)
agree_at marks {b = b} P R other is is' (late so) here p = absurd (conflict marks b other is'.text so)
