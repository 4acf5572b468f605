-- What a token does to a right side.
use Rattle.std.specs.Prelude.{Box}
use Rattle.std.specs.declared.alloc.Global.{Global}
use Rattle.std.proofs.Common.{◌≡◌, ℕ, List, [], ◌∷◌, ◌++◌, ◌⊎◌, inl, inr, refl, codes, Bool, true, false, ◌||◌, IsTrue, Some, None, subst}
use native.Mathlib.Omega.{arith}
use Rattle.mc_base.specs.declared.text.place.Place.{Place}
use Rattle.mc_base.specs.declared.text.token.Token.{Token}
use Rattle.mc_base.specs.declared.text.token.TokenKind.TheVariants as TokenKind
use Rattle.mc_c_syntax.specs.declared.ast.trees.Name.{Name}
use Rattle.mc_c_syntax.specs.declared.ast.trees.Base.{Base}
use Rattle.mc_c_syntax.specs.Ast.Trees.{Expr, parens, times, null, Right, expression}
use Rattle.mc_c_syntax.specs.Ast.Names.{Tokens, IsMark, IsWord, IsName, IsAlias, name_of, is_in, is_same}
use Rattle.mc_c_syntax.specs.Ast.Grammar.{none, more, named as named_left, negative, numeral, null_word, input_call, variable, in_parens, no_factor, factor, product, no_term, added, taken, IsSum, sum_of, without, with_some, no_cast, cast, star, no_star, IsRight, sum, called, allocated}
use Rattle.mc_c_syntax.specs.Ast.Readers.{Takes, Finds, IsStuckAt, IsSame}
use Rattle.mc_c_parse_expr.specs.Expressions.{BehindName, BehindOperand, expression_marks}
use Rattle.mc_c_parse_expr.specs.Turns.{in_turn}
use Rattle.mc_c_parse_expr.specs.declared.expression.ExpressionReader.{ExpressionReader}
use Rattle.mc_c_parse_simple.specs.declared.right.RightMove.{RightMove}
use Rattle.mc_c_parse_simple.specs.declared.right.RightState.{RightState}
use Rattle.mc_c_parse_simple.specs.Phrases.{ended, next}
use Rattle.mc_c_parse_simple.specs.Allocations.{BehindMalloc, BehindCast, InCast}
use Rattle.mc_c_parse_simple.specs.Calls.{Sums, behind_arguments, BehindCallParens}
use Rattle.mc_c_parse_simple.specs.Rights.{right_marks, Rights, AsExpression, AsCall, AsAllocation, ClosingParens, InParens, named, BehindTimes, BehindRightName, BehindRightParens, BehindParensAlias, BehindParensStar, BehindEnclosed, IsInSumState, IsRightMove}
use Rattle.mc_c_parse_simple.proofs.Phrases.{SameAt, takes_along, finds_along, stuck_along, takes_more, then_takes, then_moves, then_finds, then_closes, then_stuck, next_takes, next_stuck, either_takes, either_left, either_right, either_on, made_takes}
use Rattle.mc_c_parse_simple.proofs.Tokens.{mark_no_word, mark_no_name, name_no_word, no_mark}
use Rattle.mc_c_parse_simple.proofs.Sums.{unary_begins, sums_stuck, close_begins_none, word_begins_none}
use Rattle.mc_c_parse_simple.proofs.Bases.{base_alias, base_stuck}
use Rattle.mc_c_parse_simple.proofs.Allocations.{cast_star, cast_close, cast_stuck}

pub right_step_along : (aliases : List (List ℕ)) {now other : Tokens → Tokens → Right → Type 0} {token : Token} (step : RightMove) → SameAt now other token → IsRightMove aliases other token step → IsRightMove aliases now token step
right_step_along aliases (RightMove.Taken reader) s h = takes_along s h
right_step_along aliases (RightMove.Found right) s h = finds_along s h
right_step_along aliases RightMove.Stuck s h = stuck_along s h

either_bool : (b c d : Bool) → (IsTrue c → IsTrue d) → IsTrue (b || c) → IsTrue (b || d)
either_bool true c d f h = h
either_bool false c d f h = f h

in_more : (xs ys : List (List ℕ)) (t : List ℕ) → IsTrue (is_in xs t) → IsTrue (is_in (xs ++ ys) t)
in_more [] ys t h = absurd (let e : false ≡ true = h in cc)
in_more (x ∷ xs) ys t h = either_bool (is_same t x) (is_in xs t) (is_in (xs ++ ys) t) (in_more xs ys t) h

pub in_right : (token : Token) → IsTrue (is_in expression_marks token.text) → IsTrue (is_in right_marks token.text)
in_right token h = in_more expression_marks (codes "(" ∷ codes "malloc" ∷ []) token.text h

-- an expression that is the right side
pub as_takes : {first later : Tokens → Tokens → Expr → Type 0} {token : Token} → Takes expression_marks first later token → Takes right_marks (AsExpression first) (AsExpression later) token
as_takes {first} {later} {token} t = made_takes expression (in_right token) t

-- an expression in parentheses
pub parens_takes : (place : Place) {first later : Tokens → Tokens → Expr → Type 0} {token : Token} → Takes expression_marks first later token → Takes [] (InParens place first) (InParens place later) token
parens_takes place {first} {later} {token} t = then_takes t go
  where
    go : (x : Expr) (tokens rest : Tokens) (y : Expr) → ClosingParens place x (token ∷ tokens) rest y → IsTrue (is_in expression_marks token.text) → (rest ≡ token ∷ tokens) × IsTrue (is_in [] token.text)
    go x tokens rest y (next close h) marks = absurd (no_mark expression_marks close refl marks)

-- a sum that begins with a name
pub sum_named : {e : Expr} {token : Token} {tokens rest : Tokens} → IsName token → IsSum e (token ∷ tokens) rest → BehindName (name_of token) tokens rest e
sum_named is (sum_of (product (negative m u) fs) ts) = absurd (mark_no_name m is)
sum_named is (sum_of (product (numeral n) fs) ts) = grind arith
sum_named is (sum_of (product (null_word w) fs) ts) = absurd (name_no_word is w refl)
sum_named is (sum_of (product (input_call w b a) fs) ts) = absurd (name_no_word is w refl)
sum_named is (sum_of (product (variable (named_left n f)) fs) ts) = in_turn f (in_turn fs ts)
sum_named is (sum_of (product (in_parens b s a) fs) ts) = absurd (mark_no_name b is)

pub sums_name : {token : Token} → IsName token → Takes [] Sums (BehindName (name_of token)) token
sums_name {token} is = record { forward = λ tokens rest e s. inl (sum_named is s); backward = back }
  where
    back : (tokens rest : Tokens) (e : Expr) → BehindName (name_of token) tokens rest e → IsSum e (token ∷ tokens) rest
    back tokens rest e (in_turn f (in_turn fs ts)) = sum_of (product (variable (named_left is f)) fs) ts

-- the first token of a right side
pub right_name : (aliases : List (List ℕ)) {token : Token} → IsName token → Takes [] (Rights aliases) (BehindRightName (name_of token)) token
right_name aliases {token} is = record { forward = go; backward = back }
  where
    go : (tokens rest : Tokens) (y : Right) → IsRight aliases y (token ∷ tokens) rest → BehindRightName (name_of token) tokens rest y ⊎ ((rest ≡ token ∷ tokens) × IsTrue (is_in [] token.text))
    go tokens rest y (sum s) = inl (inl (in_turn (sum_named is s) ended))
    go tokens rest y (called (without n b a)) = inl (inr (next b (in_turn (inl (next a ended)) ended)))
    go tokens rest y (called (with_some n b s m a)) = inl (inr (next b (in_turn (inr (in_turn s (behind_arguments m a))) ended)))
    go tokens rest y (allocated no_cast w b s a) = absurd (name_no_word is w refl)
    go tokens rest y (allocated (cast o base p c) w b s a) = absurd (mark_no_name o is)

    back : (tokens rest : Tokens) (y : Right) → BehindRightName (name_of token) tokens rest y → IsRight aliases y (token ∷ tokens) rest
    back tokens rest y (inl (in_turn (in_turn f (in_turn fs ts)) ended)) = sum (sum_of (product (variable (named_left is f)) fs) ts)
    back tokens rest y (inr (next b (in_turn (inl (next a ended)) ended))) = called (without is b a)
    back tokens rest y (inr (next b (in_turn (inr (in_turn s (behind_arguments m a))) ended))) = called (with_some is b s m a)

pub right_open : (aliases : List (List ℕ)) {token : Token} → IsMark (codes "(") token → Takes [] (Rights aliases) (BehindRightParens aliases token.place) token
right_open aliases {token} is = record { forward = go; backward = back }
  where
    go : (tokens rest : Tokens) (y : Right) → IsRight aliases y (token ∷ tokens) rest → BehindRightParens aliases token.place tokens rest y ⊎ ((rest ≡ token ∷ tokens) × IsTrue (is_in [] token.text))
    go tokens rest y (sum (sum_of (product (negative m u) fs) ts)) = grind arith
    go tokens rest y (sum (sum_of (product (numeral n) fs) ts)) = grind arith
    go tokens rest y (sum (sum_of (product (null_word w) fs) ts)) = absurd (mark_no_word is w)
    go tokens rest y (sum (sum_of (product (input_call w b a) fs) ts)) = absurd (mark_no_word is w)
    go tokens rest y (sum (sum_of (product (variable (named_left n f)) fs) ts)) = absurd (mark_no_name is n)
    go tokens rest y (sum (sum_of (product (in_parens b s a) fs) ts)) = inl (inl (in_turn (in_turn s (next a (in_turn fs ts))) ended))
    go tokens rest y (called (without n b a)) = absurd (mark_no_name is n)
    go tokens rest y (called (with_some n b s m a)) = absurd (mark_no_name is n)
    go tokens rest y (allocated no_cast w b s a) = absurd (mark_no_word is w)
    go tokens rest y (allocated (cast o base (star p) c) w b s a) = inl (inr (in_turn (in_turn base (inl (next p (next c (next w (next b (in_turn s (next a ended)))))))) ended))
    go tokens rest y (allocated (cast o base no_star c) w b s a) = inl (inr (in_turn (in_turn base (inr (next c (next w (next b (in_turn s (next a ended))))))) ended))

    back : (tokens rest : Tokens) (y : Right) → BehindRightParens aliases token.place tokens rest y → IsRight aliases y (token ∷ tokens) rest
    back tokens rest y (inl (in_turn (in_turn s (next a (in_turn fs ts))) ended)) = sum (sum_of (product (in_parens is s a) fs) ts)
    back tokens rest y (inr (in_turn (in_turn base (inl (next p (next c (next w (next b (in_turn s (next a ended)))))))) ended)) = allocated (cast is base (star p) c) w b s a
    back tokens rest y (inr (in_turn (in_turn base (inr (next c (next w (next b (in_turn s (next a ended))))))) ended)) = allocated (cast is base no_star c) w b s a

pub right_malloc : (aliases : List (List ℕ)) {token : Token} → IsWord (codes "malloc") token → Takes [] (Rights aliases) (AsAllocation (BehindMalloc aliases None token.place)) token
right_malloc aliases {token} is = record { forward = go; backward = back }
  where
    go : (tokens rest : Tokens) (y : Right) → IsRight aliases y (token ∷ tokens) rest → AsAllocation (BehindMalloc aliases None token.place) tokens rest y ⊎ ((rest ≡ token ∷ tokens) × IsTrue (is_in [] token.text))
    go tokens rest y (sum s) = absurd (sums_stuck (word_begins_none is (inr (inr refl))) _ _ _ s)
    go tokens rest y (called (without n b a)) = absurd (name_no_word n is refl)
    go tokens rest y (called (with_some n b s m a)) = absurd (name_no_word n is refl)
    go tokens rest y (allocated no_cast w b s a) = inl (in_turn (next b (in_turn s (next a ended))) ended)
    go tokens rest y (allocated (cast o base p c) w b s a) = absurd (mark_no_word o is)

    back : (tokens rest : Tokens) (y : Right) → AsAllocation (BehindMalloc aliases None token.place) tokens rest y → IsRight aliases y (token ∷ tokens) rest
    back tokens rest y (in_turn (next b (in_turn s (next a ended))) ended) = allocated no_cast is b s a

pub right_sum : (aliases : List (List ℕ)) {token : Token} → ¬ IsName token → ¬ IsMark (codes "(") token → ¬ IsWord (codes "malloc") token → SameAt (Rights aliases) (AsExpression Sums) token
right_sum aliases {token} no_name no_open no_malloc = record { forward = go; backward = back }
  where
    go : (tokens rest : Tokens) (y : Right) → IsRight aliases y (token ∷ tokens) rest → AsExpression Sums (token ∷ tokens) rest y
    go tokens rest y (sum s) = in_turn s ended
    go tokens rest y (called (without n b a)) = absurd (no_name n)
    go tokens rest y (called (with_some n b s m a)) = absurd (no_name n)
    go tokens rest y (allocated no_cast w b s a) = absurd (no_malloc w)
    go tokens rest y (allocated (cast o base p c) w b s a) = absurd (no_open o)

    back : (tokens rest : Tokens) (y : Right) → AsExpression Sums (token ∷ tokens) rest y → IsRight aliases y (token ∷ tokens) rest
    back tokens rest y (in_turn s ended) = sum s

-- after a name, `(` begins a call
pub name_open : (name : Name) {token : Token} → IsMark (codes "(") token → Takes right_marks (BehindRightName name) (AsCall (BehindCallParens name)) token
name_open name {token} is = either_on go (takes_more (next_takes is))
  where
    go : (tokens rest : Tokens) (y : Right) → AsExpression (BehindName name) (token ∷ tokens) rest y → (rest ≡ token ∷ tokens) × IsTrue (is_in right_marks token.text)
    go tokens rest y (in_turn (in_turn (more arrow n f) (in_turn fs ts)) ended) = grind arith
    go tokens rest y (in_turn (in_turn none (in_turn (factor s u fs) ts)) ended) = grind arith
    go tokens rest y (in_turn (in_turn none (in_turn no_factor (added p t ts))) ended) = grind arith
    go tokens rest y (in_turn (in_turn none (in_turn no_factor (taken m t ts))) ended) = grind arith
    go tokens rest y (in_turn (in_turn none (in_turn no_factor no_term)) ended) = (refl, rw is.text refl)

-- after `(`
pub opened_word : (aliases : List (List ℕ)) (place : Place) {w : List ℕ} {token : Token} → IsWord w token → (w ≡ codes "int") ⊎ ((w ≡ codes "struct") ⊎ (w ≡ codes "malloc")) → SameAt (BehindRightParens aliases place) (AsAllocation (InCast aliases place)) token
opened_word aliases place is which = either_right (then_stuck (then_stuck (sums_stuck (word_begins_none is which))))

pub opened_other : (aliases : List (List ℕ)) (place : Place) {token : Token} → ¬ IsWord (codes "int") token → ¬ IsWord (codes "struct") token → ¬ IsAlias aliases token → SameAt (BehindRightParens aliases place) (AsExpression (InParens place Sums)) token
opened_other aliases place no_int no_struct no_alias = either_left (then_stuck (then_stuck (base_stuck aliases no_int no_struct no_alias)))

pub opened_type : (aliases : List (List ℕ)) (place : Place) {token : Token} → IsAlias aliases token → Takes [] (BehindRightParens aliases place) (BehindParensAlias aliases place (name_of token)) token
opened_type aliases place is = either_takes (then_moves (then_moves (sums_name is.name))) (then_moves (then_closes (base_alias aliases is)))

pub opened_variable : (aliases : List (List ℕ)) (place : Place) {token : Token} → IsName token → ¬ IsAlias aliases token → Takes [] (BehindRightParens aliases place) (AsExpression (InParens place (BehindName (name_of token)))) token
opened_variable aliases place {token} is no_alias = takes_along (opened_other aliases place (λ w. name_no_word is w refl) (λ w. name_no_word is w refl) no_alias) (then_moves (then_moves (sums_name is)))

-- after `(` and a type's name
name_star : (name : Name) {token : Token} → IsMark (codes "*") token → Takes expression_marks (BehindName name) (BehindTimes name) token
name_star name {token} is = record { forward = go; backward = back }
  where
    go : (tokens rest : Tokens) (e : Expr) → BehindName name (token ∷ tokens) rest e → BehindTimes name tokens rest e ⊎ ((rest ≡ token ∷ tokens) × IsTrue (is_in expression_marks token.text))
    go tokens rest e (in_turn (more arrow n f) (in_turn fs ts)) = grind arith
    go tokens rest e (in_turn none (in_turn (factor s u fs) ts)) = inl (in_turn u (in_turn fs ts))
    go tokens rest e (in_turn none (in_turn no_factor (added p t ts))) = grind arith
    go tokens rest e (in_turn none (in_turn no_factor (taken m t ts))) = grind arith
    go tokens rest e (in_turn none (in_turn no_factor no_term)) = inr (refl, rw is.text refl)

    back : (tokens rest : Tokens) (e : Expr) → BehindTimes name tokens rest e → BehindName name (token ∷ tokens) rest e
    back tokens rest e (in_turn u (in_turn fs ts)) = in_turn none (in_turn (factor is u fs) ts)

pub alias_star : (aliases : List (List ℕ)) (place : Place) (name : Name) {token : Token} → IsMark (codes "*") token → Takes [] (BehindParensAlias aliases place name) (BehindParensStar aliases place name token.place) token
alias_star aliases place name is = either_takes (then_moves (parens_takes place (name_star name is))) (then_moves (cast_star aliases place (Base.Alias name) is))

name_close : (name : Name) {token : Token} → IsMark (codes ")") token → Finds (BehindName name) token (named name)
name_close name {token} is = record { forward = go; backward = λ tokens. in_turn none (in_turn no_factor no_term) }
  where
    go : (tokens rest : Tokens) (e : Expr) → BehindName name (token ∷ tokens) rest e → (rest ≡ token ∷ tokens) × (e ≡ named name)
    go tokens rest e (in_turn (more arrow n f) (in_turn fs ts)) = grind arith
    go tokens rest e (in_turn none (in_turn (factor s u fs) ts)) = grind arith
    go tokens rest e (in_turn none (in_turn no_factor (added p t ts))) = grind arith
    go tokens rest e (in_turn none (in_turn no_factor (taken m t ts))) = grind arith
    go tokens rest e (in_turn none (in_turn no_factor no_term)) = (refl, refl)

pub alias_close : (aliases : List (List ℕ)) (place : Place) (name : Name) {token : Token} → IsMark (codes ")") token → Takes [] (BehindParensAlias aliases place name) (BehindEnclosed aliases place name) token
alias_close aliases place name is = either_takes (then_moves (takes_along (then_finds (name_close name is)) (next_takes is))) (then_moves (cast_close aliases place (Base.Alias name) is))

pub alias_other : (aliases : List (List ℕ)) (place : Place) (name : Name) {token : Token} → ¬ IsMark (codes "*") token → ¬ IsMark (codes ")") token → SameAt (BehindParensAlias aliases place name) (AsExpression (InParens place (BehindName name))) token
alias_other aliases place name not_star not_close = either_left (then_stuck (cast_stuck aliases place (Base.Alias name) not_star not_close))

-- after `(`, a type's name and `*`
times_close : (name : Name) {token : Token} → IsMark (codes ")") token → IsStuckAt (BehindTimes name) token
times_close name is tokens rest e (in_turn u h) = close_begins_none is (unary_begins u)

pub star_close : (aliases : List (List ℕ)) (place : Place) (name : Name) (at : Place) {token : Token} → IsMark (codes ")") token → Takes [] (BehindParensStar aliases place name at) (AsAllocation (BehindCast aliases (record { place = place; base = Base.Alias name; pointer = Some at }))) token
star_close aliases place name at is = takes_along (either_right (then_stuck (then_stuck (times_close name is)))) (then_moves (next_takes is))

pub star_other : (aliases : List (List ℕ)) (place : Place) (name : Name) (at : Place) {token : Token} → ¬ IsMark (codes ")") token → SameAt (BehindParensStar aliases place name at) (AsExpression (InParens place (BehindTimes name))) token
star_other aliases place name at no_close = either_left (then_stuck (next_stuck no_close))

-- a `*` read again
module _ (name : Name) {first : Tokens → Tokens → Expr → Type 0} (same : IsSame first (BehindName name)) {token : Token} (is : IsMark (codes "*") token) where
  times_name : {tokens rest : Tokens} {e : Expr} → BehindName name (token ∷ tokens) rest e → BehindTimes name tokens rest e ⊎ (rest ≡ token ∷ tokens)
  times_name {tokens} {rest} {e} h = elim ((name_star name is).forward tokens rest e h) [ inl t ↦ inl t | inr r ↦ inr r.0 ]

  open_star : (place : Place) (e : Expr) (tokens rest : Tokens) (y : Expr) → ClosingParens place e (token ∷ tokens) rest y → ⊥
  open_star place e tokens rest y (next close h) = grind arith

  pub times_same : {later : Tokens → Tokens → Expr → Type 0} → Takes expression_marks first later token → (place : Place) → IsSame (InParens place later) (InParens place (BehindTimes name))
  times_same {later} t place = record { forward = go; backward = back }
    where
      read : (tokens mid rest : Tokens) (e y : Expr) → ClosingParens place e mid rest y → BehindTimes name tokens mid e ⊎ (mid ≡ token ∷ tokens) → InParens place (BehindTimes name) tokens rest y
      read tokens mid rest e y h (inl b) = in_turn b h
      read tokens mid rest e y h (inr m) = absurd (open_star place e tokens rest y (subst (λ l. ClosingParens place e l rest y) m h))

      go : (tokens rest : Tokens) (y : Expr) → InParens place later tokens rest y → InParens place (BehindTimes name) tokens rest y
      go tokens rest y (in_turn {x = e} {mid = mid} l h) = read tokens mid rest e y h (times_name (same.forward (token ∷ tokens) mid e (t.backward tokens mid e l)))

      unread : (tokens mid rest : Tokens) (e y : Expr) → ClosingParens place e mid rest y → later tokens mid e ⊎ ((mid ≡ token ∷ tokens) × IsTrue (is_in expression_marks token.text)) → InParens place later tokens rest y
      unread tokens mid rest e y h (inl l) = in_turn l h
      unread tokens mid rest e y h (inr r) = absurd (open_star place e tokens rest y (subst (λ l. ClosingParens place e l rest y) r.0 h))

      back : (tokens rest : Tokens) (y : Expr) → InParens place (BehindTimes name) tokens rest y → InParens place later tokens rest y
      back tokens rest y (in_turn {x = e} {mid = mid} b h) = unread tokens mid rest e y h (t.forward tokens mid e (same.backward (token ∷ tokens) mid e ((name_star name is).backward tokens mid e b)))

  -- an example
  nulls : Tokens
  nulls = record { kind = TokenKind.Name; text = codes "NULL"; place = token.place } ∷ []

  example : first (token ∷ nulls) [] (times (named name) (null token.place))
  unfolding nulls
  example = same.backward (token ∷ nulls) [] (times (named name) (null token.place)) (in_turn none (in_turn (factor is (null_word (record { kind = refl; text = refl })) no_factor) no_term))

  pub times_not_found : {e : Expr} → Finds first token e → ⊥
  times_not_found f = let ends : [] ≡ token ∷ nulls = (f.forward nulls [] (times (named name) (null token.place)) example).0 in cc

  pub times_not_stuck : IsStuckAt first token → ⊥
  times_not_stuck s = s nulls [] (times (named name) (null token.place)) example

-- after a type's name in parentheses
pub enclosed_malloc : (aliases : List (List ℕ)) (place : Place) (name : Name) {token : Token} → IsWord (codes "malloc") token → Takes right_marks (BehindEnclosed aliases place name) (AsAllocation (BehindMalloc aliases (Some (record { place = place; base = Base.Alias name; pointer = None })) token.place)) token
enclosed_malloc aliases place name {token} is = either_on go (takes_more (then_moves (next_takes is)))
  where
    go : (tokens rest : Tokens) (y : Right) → AsExpression (BehindOperand (parens place (named name))) (token ∷ tokens) rest y → (rest ≡ token ∷ tokens) × IsTrue (is_in right_marks token.text)
    go tokens rest y (in_turn (in_turn (factor s u fs) ts) ended) = absurd (mark_no_word s is)
    go tokens rest y (in_turn (in_turn no_factor (added p t ts)) ended) = absurd (mark_no_word p is)
    go tokens rest y (in_turn (in_turn no_factor (taken m t ts)) ended) = absurd (mark_no_word m is)
    go tokens rest y (in_turn (in_turn no_factor no_term) ended) = (refl, rw is.text refl)

pub enclosed_other : (aliases : List (List ℕ)) (place : Place) (name : Name) {token : Token} → ¬ IsWord (codes "malloc") token → SameAt (BehindEnclosed aliases place name) (AsExpression (BehindOperand (parens place (named name)))) token
enclosed_other aliases place name no_malloc = either_left (then_stuck (next_stuck no_malloc))

-- a reader that is in no sum
pub not_in_sum : (state : RightState) → ((reader : Box ExpressionReader Global) → state ≡ RightState.Sum reader → ⊥) → IsInSumState state → ⊥
not_in_sum RightState.Start other within = within
not_in_sum (RightState.Named name) other within = within
not_in_sum (RightState.Opened place) other within = within
not_in_sum (RightState.OpenedAlias place name) other within = within
not_in_sum (RightState.OpenedStar place name pointer) other within = within
not_in_sum (RightState.Enclosed place name) other within = within
not_in_sum (RightState.Parens place reader) other within = within
not_in_sum (RightState.Sum reader) other within = other reader refl
not_in_sum (RightState.Call reader) other within = within
not_in_sum (RightState.Allocation reader) other within = within
not_in_sum (RightState.Done right) other within = within
