-- What a token does to a simple statement.
use Rattle.std.specs.Prelude.{Box}
use Rattle.std.specs.declared.alloc.Global.{Global}
use Rattle.std.proofs.Common.{◌≡◌, ℕ, List, [], ◌∷◌, ◌⊎◌, inl, inr, refl, codes, IsTrue, true, false, subst}
use native.Mathlib.Omega.{arith}
use Rattle.mc_base.specs.declared.text.place.Place.{Place}
use Rattle.mc_base.specs.declared.text.token.Token.{Token}
use Rattle.mc_c_syntax.specs.declared.ast.trees.Name.{Name}
use Rattle.mc_c_syntax.specs.Ast.Trees.{Left, SimpleTree, assign, increment, decrement, call}
use Rattle.mc_c_syntax.specs.Ast.Names.{Tokens, IsMark, IsName, name_of, is_in}
use Rattle.mc_c_syntax.specs.Ast.Grammar.{none, more, named, without, with_some, IsSimple, assigned, adding, subtracting, incremented, decremented, incremented_first, decremented_first, performed}
use Rattle.mc_c_syntax.specs.Ast.Readers.{Takes, Finds, IsStuckAt, IsSame}
use Rattle.mc_c_parse_expr.specs.Turns.{InTurn, in_turn}
use Rattle.mc_c_syntax.specs.declared.ast.trees.LeftValue.{LeftValue}
use Rattle.mc_c_parse_expr.specs.declared.expression.ExpressionReader.{ExpressionReader}
use Rattle.mc_c_parse_simple.specs.declared.right.RightReader.{RightReader}
use Rattle.mc_c_parse_simple.specs.declared.simple.SimpleMove.{SimpleMove}
use Rattle.mc_c_parse_simple.specs.declared.simple.SimpleState.{SimpleState}
use Rattle.mc_c_parse_simple.specs.declared.simple.Change.{Change}
use Rattle.mc_c_parse_simple.specs.Phrases.{Ended, ended, Next, next}
use Rattle.mc_c_parse_simple.specs.Calls.{Sums, behind_arguments, BehindCallParens}
use Rattle.mc_c_parse_simple.specs.Rights.{Rights}
use Rattle.mc_c_parse_simple.specs.Simples.{simple_marks, changed_first, changed_by, Simples, MoreFields, with_field, just, BehindLeft, assigns, adds, subtracts, increments, decrements, InLeft, BehindSimpleName, InFirst, IsInValueState, IsSimpleMove}
use Rattle.mc_c_parse_simple.proofs.Phrases.{SameAt, takes_along, finds_along, stuck_along, next_takes, next_stuck, either_left, either_right, ended_finds}
use Rattle.mc_c_parse_simple.proofs.Tokens.{mark_no_name}

pub simple_step_along : (aliases : List (List ℕ)) {now other : Tokens → Tokens → SimpleTree → Type 0} {token : Token} (step : SimpleMove) → SameAt now other token → IsSimpleMove aliases other token step → IsSimpleMove aliases now token step
simple_step_along aliases (SimpleMove.Taken reader) s h = takes_along s h
simple_step_along aliases (SimpleMove.Found simple) s h = finds_along s h
simple_step_along aliases SimpleMove.Stuck s h = stuck_along s h

-- the first token
pub simple_name : (aliases : List (List ℕ)) {token : Token} → IsName token → Takes [] (Simples aliases) (BehindSimpleName aliases (name_of token)) token
simple_name aliases {token} is = record { forward = go; backward = back }
  where
    go : (tokens rest : Tokens) (s : SimpleTree) → IsSimple aliases s (token ∷ tokens) rest → BehindSimpleName aliases (name_of token) tokens rest s ⊎ ((rest ≡ token ∷ tokens) × IsTrue (is_in [] token.text))
    go tokens rest s (assigned (named n f) m r) = inl (inl (in_turn f (assigns m r)))
    go tokens rest s (adding (named n f) m e) = inl (inl (in_turn f (adds m e)))
    go tokens rest s (subtracting (named n f) m e) = inl (inl (in_turn f (subtracts m e)))
    go tokens rest s (incremented (named n f) m) = inl (inl (in_turn f (increments m)))
    go tokens rest s (decremented (named n f) m) = inl (inl (in_turn f (decrements m)))
    go tokens rest s (incremented_first m l) = absurd (mark_no_name m is)
    go tokens rest s (decremented_first m l) = absurd (mark_no_name m is)
    go tokens rest s (performed (without n b a)) = inl (inr (next b (in_turn (inl (next a ended)) ended)))
    go tokens rest s (performed (with_some n b e m a)) = inl (inr (next b (in_turn (inr (in_turn e (behind_arguments m a))) ended)))

    back : (tokens rest : Tokens) (s : SimpleTree) → BehindSimpleName aliases (name_of token) tokens rest s → IsSimple aliases s (token ∷ tokens) rest
    back tokens rest s (inl (in_turn f (assigns m r))) = assigned (named is f) m r
    back tokens rest s (inl (in_turn f (adds m e))) = adding (named is f) m e
    back tokens rest s (inl (in_turn f (subtracts m e))) = subtracting (named is f) m e
    back tokens rest s (inl (in_turn f (increments m))) = incremented (named is f) m
    back tokens rest s (inl (in_turn f (decrements m))) = decremented (named is f) m
    back tokens rest s (inr (next b (in_turn (inl (next a ended)) ended))) = performed (without is b a)
    back tokens rest s (inr (next b (in_turn (inr (in_turn e (behind_arguments m a))) ended))) = performed (with_some is b e m a)

pub simple_behind_name : (aliases : List (List ℕ)) (name : Name) (token : Token) → IsName token → name_of token ≡ name → IsSame (BehindSimpleName aliases name) (λ tokens rest s. IsSimple aliases s (token ∷ tokens) rest)
simple_behind_name aliases name token is e = subst (λ n. IsSame (BehindSimpleName aliases n) (λ tokens rest s. IsSimple aliases s (token ∷ tokens) rest)) e (record { forward = λ tokens rest s h. (simple_name aliases is).backward tokens rest s h; backward = λ tokens rest s h. elim ((simple_name aliases is).forward tokens rest s h) [ inl l ↦ l | inr r ↦ absurd (let no : false ≡ true = r.1 in cc) ] })

pub simple_increment : (aliases : List (List ℕ)) {token : Token} → IsMark (codes "++") token → Takes [] (Simples aliases) (Next IsName (λ name. InFirst Change.Increment token.place (just (name_of name)))) token
simple_increment aliases {token} is = record { forward = go; backward = back }
  where
    go : (tokens rest : Tokens) (s : SimpleTree) → IsSimple aliases s (token ∷ tokens) rest → Next IsName (λ name. InFirst Change.Increment token.place (just (name_of name))) tokens rest s ⊎ ((rest ≡ token ∷ tokens) × IsTrue (is_in [] token.text))
    go tokens rest s (assigned (named n f) m r) = absurd (mark_no_name is n)
    go tokens rest s (adding (named n f) m e) = absurd (mark_no_name is n)
    go tokens rest s (subtracting (named n f) m e) = absurd (mark_no_name is n)
    go tokens rest s (incremented (named n f) m) = absurd (mark_no_name is n)
    go tokens rest s (decremented (named n f) m) = absurd (mark_no_name is n)
    go tokens rest s (incremented_first m (named n f)) = inl (next n (in_turn f ended))
    go tokens rest s (decremented_first m l) = grind arith
    go tokens rest s (performed (without n b a)) = absurd (mark_no_name is n)
    go tokens rest s (performed (with_some n b e m a)) = absurd (mark_no_name is n)

    back : (tokens rest : Tokens) (s : SimpleTree) → Next IsName (λ name. InFirst Change.Increment token.place (just (name_of name))) tokens rest s → IsSimple aliases s (token ∷ tokens) rest
    back tokens rest s (next n (in_turn f ended)) = incremented_first is (named n f)

pub simple_decrement : (aliases : List (List ℕ)) {token : Token} → IsMark (codes "--") token → Takes [] (Simples aliases) (Next IsName (λ name. InFirst Change.Decrement token.place (just (name_of name)))) token
simple_decrement aliases {token} is = record { forward = go; backward = back }
  where
    go : (tokens rest : Tokens) (s : SimpleTree) → IsSimple aliases s (token ∷ tokens) rest → Next IsName (λ name. InFirst Change.Decrement token.place (just (name_of name))) tokens rest s ⊎ ((rest ≡ token ∷ tokens) × IsTrue (is_in [] token.text))
    go tokens rest s (assigned (named n f) m r) = absurd (mark_no_name is n)
    go tokens rest s (adding (named n f) m e) = absurd (mark_no_name is n)
    go tokens rest s (subtracting (named n f) m e) = absurd (mark_no_name is n)
    go tokens rest s (incremented (named n f) m) = absurd (mark_no_name is n)
    go tokens rest s (decremented (named n f) m) = absurd (mark_no_name is n)
    go tokens rest s (incremented_first m l) = grind arith
    go tokens rest s (decremented_first m (named n f)) = inl (next n (in_turn f ended))
    go tokens rest s (performed (without n b a)) = absurd (mark_no_name is n)
    go tokens rest s (performed (with_some n b e m a)) = absurd (mark_no_name is n)

    back : (tokens rest : Tokens) (s : SimpleTree) → Next IsName (λ name. InFirst Change.Decrement token.place (just (name_of name))) tokens rest s → IsSimple aliases s (token ∷ tokens) rest
    back tokens rest s (next n (in_turn f ended)) = decremented_first is (named n f)

pub simple_stuck : (aliases : List (List ℕ)) {token : Token} → ¬ IsName token → ¬ IsMark (codes "++") token → ¬ IsMark (codes "--") token → IsStuckAt (Simples aliases) token
simple_stuck aliases no_name no_up no_down tokens rest s (assigned (named n f) m r) = no_name n
simple_stuck aliases no_name no_up no_down tokens rest s (adding (named n f) m e) = no_name n
simple_stuck aliases no_name no_up no_down tokens rest s (subtracting (named n f) m e) = no_name n
simple_stuck aliases no_name no_up no_down tokens rest s (incremented (named n f) m) = no_name n
simple_stuck aliases no_name no_up no_down tokens rest s (decremented (named n f) m) = no_name n
simple_stuck aliases no_name no_up no_down tokens rest s (incremented_first m l) = no_up m
simple_stuck aliases no_name no_up no_down tokens rest s (decremented_first m l) = no_down m
simple_stuck aliases no_name no_up no_down tokens rest s (performed (without n b a)) = no_name n
simple_stuck aliases no_name no_up no_down tokens rest s (performed (with_some n b e m a)) = no_name n

-- fields
pub fields_arrow : {marks : List (List ℕ)} (l : Left) {behind : Left → Tokens → Tokens → SimpleTree → Type 0} {token : Token} → IsMark (codes "->") token → ((k : Left) (tokens rest : Tokens) (s : SimpleTree) → behind k (token ∷ tokens) rest s → (rest ≡ token ∷ tokens) × IsTrue (is_in marks token.text)) → Takes marks (InTurn (MoreFields l) behind) (Next IsName (λ name. InTurn (MoreFields (with_field l (name_of name))) behind)) token
fields_arrow {marks} l {behind} {token} is ends = record { forward = go; backward = back }
  where
    go : (tokens rest : Tokens) (s : SimpleTree) → InTurn (MoreFields l) behind (token ∷ tokens) rest s → Next IsName (λ name. InTurn (MoreFields (with_field l (name_of name))) behind) tokens rest s ⊎ ((rest ≡ token ∷ tokens) × IsTrue (is_in marks token.text))
    go tokens rest s (in_turn none b) = inr (ends l tokens rest s b)
    go tokens rest s (in_turn (more arrow n f) b) = inl (next n (in_turn f b))

    back : (tokens rest : Tokens) (s : SimpleTree) → Next IsName (λ name. InTurn (MoreFields (with_field l (name_of name))) behind) tokens rest s → InTurn (MoreFields l) behind (token ∷ tokens) rest s
    back tokens rest s (next n (in_turn f b)) = in_turn (more is n f) b

pub fields_other : (l : Left) {behind : Left → Tokens → Tokens → SimpleTree → Type 0} {token : Token} → ¬ IsMark (codes "->") token → SameAt (InTurn (MoreFields l) behind) (behind l) token
fields_other l {behind} {token} no_arrow = record { forward = go; backward = λ tokens rest s b. in_turn none b }
  where
    go : (tokens rest : Tokens) (s : SimpleTree) → InTurn (MoreFields l) behind (token ∷ tokens) rest s → behind l (token ∷ tokens) rest s
    go tokens rest s (in_turn none b) = b
    go tokens rest s (in_turn (more arrow n f) b) = absurd (no_arrow arrow)

pub first_arrow : (change : Change) (place : Place) (l : Left) {token : Token} → IsMark (codes "->") token → Takes simple_marks (InFirst change place l) (Next IsName (λ name. InFirst change place (with_field l (name_of name)))) token
first_arrow change place l {token} is = fields_arrow l is go
  where
    go : (k : Left) (tokens rest : Tokens) (s : SimpleTree) → Ended (changed_first change place k) (token ∷ tokens) rest s → (rest ≡ token ∷ tokens) × IsTrue (is_in simple_marks token.text)
    go k tokens rest s ended = (refl, rw is.text refl)

pub first_found : (change : Change) (place : Place) (l : Left) {token : Token} → ¬ IsMark (codes "->") token → Finds (InFirst change place l) token (changed_first change place l)
first_found change place l no_arrow = finds_along (fields_other l no_arrow) (ended_finds (changed_first change place l))

pub left_arrow : (aliases : List (List ℕ)) (l : Left) {token : Token} → IsMark (codes "->") token → Takes [] (InLeft aliases l) (Next IsName (λ name. InLeft aliases (with_field l (name_of name)))) token
left_arrow aliases l {token} is = fields_arrow l is go
  where
    go : (k : Left) (tokens rest : Tokens) (s : SimpleTree) → BehindLeft aliases k (token ∷ tokens) rest s → (rest ≡ token ∷ tokens) × IsTrue (is_in [] token.text)
    go k tokens rest s (assigns m r) = grind arith
    go k tokens rest s (adds m e) = grind arith
    go k tokens rest s (subtracts m e) = grind arith
    go k tokens rest s (increments m) = grind arith
    go k tokens rest s (decrements m) = grind arith

module _ (aliases : List (List ℕ)) (l : Left) {token : Token} where
  behind_assign : IsMark (codes "=") token → Takes [] (BehindLeft aliases l) (InTurn (Rights aliases) (λ r. Ended (assign l r))) token
  behind_assign is = record { forward = go; backward = back }
    where
      go : (tokens rest : Tokens) (s : SimpleTree) → BehindLeft aliases l (token ∷ tokens) rest s → InTurn (Rights aliases) (λ r. Ended (assign l r)) tokens rest s ⊎ ((rest ≡ token ∷ tokens) × IsTrue (is_in [] token.text))
      go tokens rest s (assigns m r) = inl (in_turn r ended)
      go tokens rest s (adds m e) = grind arith
      go tokens rest s (subtracts m e) = grind arith
      go tokens rest s (increments m) = grind arith
      go tokens rest s (decrements m) = grind arith

      back : (tokens rest : Tokens) (s : SimpleTree) → InTurn (Rights aliases) (λ r. Ended (assign l r)) tokens rest s → BehindLeft aliases l (token ∷ tokens) rest s
      back tokens rest s (in_turn r ended) = assigns is r

  behind_add : IsMark (codes "+=") token → Takes [] (BehindLeft aliases l) (InTurn Sums (λ e. Ended (changed_by Change.Increment l e))) token
  behind_add is = record { forward = go; backward = back }
    where
      go : (tokens rest : Tokens) (s : SimpleTree) → BehindLeft aliases l (token ∷ tokens) rest s → InTurn Sums (λ e. Ended (changed_by Change.Increment l e)) tokens rest s ⊎ ((rest ≡ token ∷ tokens) × IsTrue (is_in [] token.text))
      go tokens rest s (assigns m r) = grind arith
      go tokens rest s (adds m e) = inl (in_turn e ended)
      go tokens rest s (subtracts m e) = grind arith
      go tokens rest s (increments m) = grind arith
      go tokens rest s (decrements m) = grind arith

      back : (tokens rest : Tokens) (s : SimpleTree) → InTurn Sums (λ e. Ended (changed_by Change.Increment l e)) tokens rest s → BehindLeft aliases l (token ∷ tokens) rest s
      back tokens rest s (in_turn e ended) = adds is e

  behind_subtract : IsMark (codes "-=") token → Takes [] (BehindLeft aliases l) (InTurn Sums (λ e. Ended (changed_by Change.Decrement l e))) token
  behind_subtract is = record { forward = go; backward = back }
    where
      go : (tokens rest : Tokens) (s : SimpleTree) → BehindLeft aliases l (token ∷ tokens) rest s → InTurn Sums (λ e. Ended (changed_by Change.Decrement l e)) tokens rest s ⊎ ((rest ≡ token ∷ tokens) × IsTrue (is_in [] token.text))
      go tokens rest s (assigns m r) = grind arith
      go tokens rest s (adds m e) = grind arith
      go tokens rest s (subtracts m e) = inl (in_turn e ended)
      go tokens rest s (increments m) = grind arith
      go tokens rest s (decrements m) = grind arith

      back : (tokens rest : Tokens) (s : SimpleTree) → InTurn Sums (λ e. Ended (changed_by Change.Decrement l e)) tokens rest s → BehindLeft aliases l (token ∷ tokens) rest s
      back tokens rest s (in_turn e ended) = subtracts is e

  behind_increment : IsMark (codes "++") token → Takes [] (BehindLeft aliases l) (Ended (increment l)) token
  behind_increment is = record { forward = go; backward = back }
    where
      go : (tokens rest : Tokens) (s : SimpleTree) → BehindLeft aliases l (token ∷ tokens) rest s → Ended (increment l) tokens rest s ⊎ ((rest ≡ token ∷ tokens) × IsTrue (is_in [] token.text))
      go tokens rest s (assigns m r) = grind arith
      go tokens rest s (adds m e) = grind arith
      go tokens rest s (subtracts m e) = grind arith
      go tokens rest s (increments m) = inl ended
      go tokens rest s (decrements m) = grind arith

      back : (tokens rest : Tokens) (s : SimpleTree) → Ended (increment l) tokens rest s → BehindLeft aliases l (token ∷ tokens) rest s
      back tokens rest s ended = increments is

  behind_decrement : IsMark (codes "--") token → Takes [] (BehindLeft aliases l) (Ended (decrement l)) token
  behind_decrement is = record { forward = go; backward = back }
    where
      go : (tokens rest : Tokens) (s : SimpleTree) → BehindLeft aliases l (token ∷ tokens) rest s → Ended (decrement l) tokens rest s ⊎ ((rest ≡ token ∷ tokens) × IsTrue (is_in [] token.text))
      go tokens rest s (assigns m r) = grind arith
      go tokens rest s (adds m e) = grind arith
      go tokens rest s (subtracts m e) = grind arith
      go tokens rest s (increments m) = grind arith
      go tokens rest s (decrements m) = inl ended

      back : (tokens rest : Tokens) (s : SimpleTree) → Ended (decrement l) tokens rest s → BehindLeft aliases l (token ∷ tokens) rest s
      back tokens rest s ended = decrements is

  pub left_assign : IsMark (codes "=") token → Takes [] (InLeft aliases l) (InTurn (Rights aliases) (λ r. Ended (assign l r))) token
  left_assign is = takes_along (fields_other l (λ arrow. grind arith)) (behind_assign is)

  pub left_add : IsMark (codes "+=") token → Takes [] (InLeft aliases l) (InTurn Sums (λ e. Ended (changed_by Change.Increment l e))) token
  left_add is = takes_along (fields_other l (λ arrow. grind arith)) (behind_add is)

  pub left_subtract : IsMark (codes "-=") token → Takes [] (InLeft aliases l) (InTurn Sums (λ e. Ended (changed_by Change.Decrement l e))) token
  left_subtract is = takes_along (fields_other l (λ arrow. grind arith)) (behind_subtract is)

  pub left_increment : IsMark (codes "++") token → Takes [] (InLeft aliases l) (Ended (increment l)) token
  left_increment is = takes_along (fields_other l (λ arrow. grind arith)) (behind_increment is)

  pub left_decrement : IsMark (codes "--") token → Takes [] (InLeft aliases l) (Ended (decrement l)) token
  left_decrement is = takes_along (fields_other l (λ arrow. grind arith)) (behind_decrement is)

  behind_stuck : ¬ IsMark (codes "=") token → ¬ IsMark (codes "+=") token → ¬ IsMark (codes "-=") token → ¬ IsMark (codes "++") token → ¬ IsMark (codes "--") token → IsStuckAt (BehindLeft aliases l) token
  behind_stuck a b c d e tokens rest s (assigns m r) = a m
  behind_stuck a b c d e tokens rest s (adds m x) = b m
  behind_stuck a b c d e tokens rest s (subtracts m x) = c m
  behind_stuck a b c d e tokens rest s (increments m) = d m
  behind_stuck a b c d e tokens rest s (decrements m) = e m

  pub left_stuck : ¬ IsMark (codes "->") token → ¬ IsMark (codes "=") token → ¬ IsMark (codes "+=") token → ¬ IsMark (codes "-=") token → ¬ IsMark (codes "++") token → ¬ IsMark (codes "--") token → IsStuckAt (InLeft aliases l) token
  left_stuck arrow a b c d e = stuck_along (fields_other l arrow) (behind_stuck a b c d e)

  left_open : IsMark (codes "(") token → IsStuckAt (InLeft aliases l) token
  left_open is = left_stuck (λ m. grind arith) (λ m. grind arith) (λ m. grind arith) (λ m. grind arith) (λ m. grind arith) (λ m. grind arith)

pub name_call : (aliases : List (List ℕ)) (name : Name) {token : Token} → IsMark (codes "(") token → Takes [] (BehindSimpleName aliases name) (InTurn (BehindCallParens name) (λ c. Ended (call c))) token
name_call aliases name is = takes_along (either_right (left_open aliases (just name) is)) (next_takes is)

pub name_left : (aliases : List (List ℕ)) (name : Name) {token : Token} → ¬ IsMark (codes "(") token → SameAt (BehindSimpleName aliases name) (InLeft aliases (just name)) token
name_left aliases name no_open = either_left (next_stuck no_open)

-- a reader that is in no value of an assignment
pub not_in_value : (state : SimpleState) → ((l : LeftValue) (reader : RightReader) → state ≡ SimpleState.Assign l reader → ⊥) → ((change : Change) (l : LeftValue) (reader : Box ExpressionReader Global) → state ≡ SimpleState.ChangeBy change l reader → ⊥) → IsInValueState state → ⊥
not_in_value SimpleState.Start no_assign no_change within = within
not_in_value (SimpleState.First change place) no_assign no_change within = within
not_in_value (SimpleState.FirstLeft change place l) no_assign no_change within = within
not_in_value (SimpleState.FirstArrow change place l) no_assign no_change within = within
not_in_value (SimpleState.Named name) no_assign no_change within = within
not_in_value (SimpleState.Left l) no_assign no_change within = within
not_in_value (SimpleState.Arrow l) no_assign no_change within = within
not_in_value (SimpleState.Assign l reader) no_assign no_change within = no_assign l reader refl
not_in_value (SimpleState.ChangeBy change l reader) no_assign no_change within = no_change change l reader refl
not_in_value (SimpleState.Call reader) no_assign no_change within = within
not_in_value (SimpleState.Done simple) no_assign no_change within = within
