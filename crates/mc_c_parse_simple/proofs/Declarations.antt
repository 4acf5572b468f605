-- What a token does to a declaration after its base.
use Rattle.std.proofs.Common.{◌≡◌, ℕ, List, [], ◌∷◌, ◌++◌, ◌⊎◌, inl, inr, refl, codes, IsTrue, Some, None, map, ap, ◌∙◌, subst}
use Rattle.std.proofs.lemmas.List.{map-append}
use native.Mathlib.Omega.{arith}
use Rattle.mc_base.specs.declared.text.token.Token.{Token}
use Rattle.mc_c_syntax.specs.declared.ast.trees.Base.{Base}
use Rattle.mc_c_syntax.specs.declared.ast.trees.Declarator.{Declarator}
use Rattle.mc_c_syntax.specs.declared.ast.trees.Initial.{Initial}
use Rattle.mc_c_syntax.specs.Ast.Trees.{InitialTree, DeclarationTree}
use Rattle.mc_c_syntax.specs.Ast.Views.{initial_of}
use Rattle.mc_c_syntax.specs.Ast.Names.{Tokens, IsMark, IsName, name_of, is_in}
use Rattle.mc_c_syntax.specs.Ast.Grammar.{star, no_star, declarator, bare, with_value, last_initial, next_initial}
use Rattle.mc_c_syntax.specs.Ast.Readers.{Takes, Closes, IsStuckAt}
use Rattle.mc_c_parse_expr.specs.Turns.{InTurn, in_turn}
use Rattle.mc_c_parse_simple.specs.declared.declaration.DeclarationMove.{DeclarationMove}
use Rattle.mc_c_parse_simple.specs.declared.declaration.DeclarationReader.{DeclarationReader}
use Rattle.mc_c_parse_simple.specs.declared.declaration.DeclarationState.{DeclarationState}
use Rattle.mc_c_parse_simple.specs.declared.declaration.DeclarationStep.{DeclarationStep}
use Rattle.mc_c_parse_simple.specs.declared.right.RightReader.{RightReader}
use Rattle.mc_c_parse_simple.specs.Phrases.{Next, next}
use Rattle.mc_c_parse_simple.specs.Rights.{Rights, right_marks}
use Rattle.mc_c_parse_simple.specs.Declarations.{BehindInitials, behind_initials, BehindInitial, BehindComma, BehindDeclarator, CompletesDeclaration, IsDeclarationMove, IsDeclarationPut, IsDeclarationStep, IsInInitialState}
use Rattle.mc_c_parse_simple.proofs.Phrases.{SameAt, takes_along, closes_along, stuck_along, next_takes, next_stuck, either_left, either_right}
use Rattle.mc_c_parse_simple.proofs.Tokens.{mark_no_name, no_mark}

pub declaration_step_along : (aliases : List (List ℕ)) {now other : Tokens → Tokens → DeclarationTree → Type 0} {token : Token} (step : DeclarationMove) → SameAt now other token → IsDeclarationMove aliases other token step → IsDeclarationMove aliases now token step
declaration_step_along aliases (DeclarationMove.Taken reader) s h = takes_along s h
declaration_step_along aliases (DeclarationMove.Closed d) s h = closes_along s h
declaration_step_along aliases DeclarationMove.Stuck s h = stuck_along s h

module _ (aliases : List (List ℕ)) (base : Base) (is : List InitialTree) {token : Token} where
  -- at a declarator
  pub comma_star : IsMark (codes "*") token → Takes [] (BehindComma aliases base is) (Next IsName (λ name. BehindDeclarator aliases base is (record { pointer = Some token.place; name = name_of name }))) token
  comma_star mark = record { forward = go; backward = back }
    where
      go : (tokens rest : Tokens) (d : DeclarationTree) → BehindComma aliases base is (token ∷ tokens) rest d → Next IsName (λ name. BehindDeclarator aliases base is (record { pointer = Some token.place; name = name_of name })) tokens rest d ⊎ ((rest ≡ token ∷ tokens) × IsTrue (is_in [] token.text))
      go tokens rest d (in_turn (bare (declarator (star s) n)) b) = inl (next n (inl b))
      go tokens rest d (in_turn (bare (declarator no_star n)) b) = absurd (mark_no_name mark n)
      go tokens rest d (in_turn (with_value (declarator (star s) n) m r) b) = inl (next n (inr (next m (in_turn r b))))
      go tokens rest d (in_turn (with_value (declarator no_star n) m r) b) = absurd (mark_no_name mark n)

      back : (tokens rest : Tokens) (d : DeclarationTree) → Next IsName (λ name. BehindDeclarator aliases base is (record { pointer = Some token.place; name = name_of name })) tokens rest d → BehindComma aliases base is (token ∷ tokens) rest d
      back tokens rest d (next n (inl b)) = in_turn (bare (declarator (star mark) n)) b
      back tokens rest d (next n (inr (next m (in_turn r b)))) = in_turn (with_value (declarator (star mark) n) m r) b

  pub comma_name : IsName token → Takes [] (BehindComma aliases base is) (BehindDeclarator aliases base is (record { pointer = None; name = name_of token })) token
  comma_name name = record { forward = go; backward = back }
    where
      go : (tokens rest : Tokens) (d : DeclarationTree) → BehindComma aliases base is (token ∷ tokens) rest d → BehindDeclarator aliases base is (record { pointer = None; name = name_of token }) tokens rest d ⊎ ((rest ≡ token ∷ tokens) × IsTrue (is_in [] token.text))
      go tokens rest d (in_turn (bare (declarator (star s) n)) b) = absurd (mark_no_name s name)
      go tokens rest d (in_turn (bare (declarator no_star n)) b) = inl (inl b)
      go tokens rest d (in_turn (with_value (declarator (star s) n) m r) b) = absurd (mark_no_name s name)
      go tokens rest d (in_turn (with_value (declarator no_star n) m r) b) = inl (inr (next m (in_turn r b)))

      back : (tokens rest : Tokens) (d : DeclarationTree) → BehindDeclarator aliases base is (record { pointer = None; name = name_of token }) tokens rest d → BehindComma aliases base is (token ∷ tokens) rest d
      back tokens rest d (inl b) = in_turn (bare (declarator no_star name)) b
      back tokens rest d (inr (next m (in_turn r b))) = in_turn (with_value (declarator no_star name) m r) b

  pub comma_stuck : ¬ IsMark (codes "*") token → ¬ IsName token → IsStuckAt (BehindComma aliases base is) token
  comma_stuck mark name tokens rest d (in_turn (bare (declarator (star s) n)) b) = mark s
  comma_stuck mark name tokens rest d (in_turn (bare (declarator no_star n)) b) = name n
  comma_stuck mark name tokens rest d (in_turn (with_value (declarator (star s) n) m r) b) = mark s
  comma_stuck mark name tokens rest d (in_turn (with_value (declarator no_star n) m r) b) = name n

  -- after a declarator and its value
  pub initials_comma : IsMark (codes ",") token → Takes [] (BehindInitials aliases base is) (BehindComma aliases base is) token
  initials_comma mark = record { forward = go; backward = back }
    where
      go : (tokens rest : Tokens) (d : DeclarationTree) → BehindInitials aliases base is (token ∷ tokens) rest d → BehindComma aliases base is tokens rest d ⊎ ((rest ≡ token ∷ tokens) × IsTrue (is_in [] token.text))
      go tokens rest d (behind_initials last_initial s) = grind arith
      go tokens rest d (behind_initials (next_initial c i m) s) = inl (in_turn i (behind_initials m s))

      back : (tokens rest : Tokens) (d : DeclarationTree) → BehindComma aliases base is tokens rest d → BehindInitials aliases base is (token ∷ tokens) rest d
      back tokens rest d (in_turn i (behind_initials m s)) = behind_initials (next_initial mark i m) s

  pub initials_close : IsMark (codes ";") token → Closes (BehindInitials aliases base is) token (record { base = base; items = is })
  initials_close mark = record { forward = go; backward = λ tokens. behind_initials last_initial mark }
    where
      go : (tokens rest : Tokens) (d : DeclarationTree) → BehindInitials aliases base is (token ∷ tokens) rest d → (rest ≡ tokens) × (d ≡ record { base = base; items = is })
      go tokens rest d (behind_initials last_initial s) = (refl, refl)
      go tokens rest d (behind_initials (next_initial c i m) s) = grind arith

  pub initials_stuck : ¬ IsMark (codes ",") token → ¬ IsMark (codes ";") token → IsStuckAt (BehindInitials aliases base is) token
  initials_stuck comma semicolon tokens rest d (behind_initials last_initial s) = semicolon s
  initials_stuck comma semicolon tokens rest d (behind_initials (next_initial c i m) s) = comma c

  -- no mark of a right side stands there
  pub initials_end : {tokens rest : Tokens} {d : DeclarationTree} → BehindInitials aliases base is (token ∷ tokens) rest d → IsTrue (is_in right_marks token.text) → ⊥
  initials_end (behind_initials last_initial s) marks = no_mark right_marks s refl marks
  initials_end (behind_initials (next_initial c i m) s) marks = no_mark right_marks c refl marks

  initials_assign : IsMark (codes "=") token → IsStuckAt (BehindInitials aliases base is) token
  initials_assign mark tokens rest d (behind_initials last_initial s) = grind arith
  initials_assign mark tokens rest d (behind_initials (next_initial c i m) s) = grind arith

-- after a declarator
pub declarator_assign : (aliases : List (List ℕ)) (base : Base) (is : List InitialTree) (d : Declarator) {token : Token} → IsMark (codes "=") token → Takes [] (BehindDeclarator aliases base is d) (InTurn (Rights aliases) (λ r. BehindInitial aliases base is (record { declarator = d; value = Some r }))) token
declarator_assign aliases base is d mark = takes_along (either_right (initials_assign aliases base (is ++ record { declarator = d; value = None } ∷ []) mark)) (next_takes mark)

pub declarator_other : (aliases : List (List ℕ)) (base : Base) (is : List InitialTree) (d : Declarator) {token : Token} → ¬ IsMark (codes "=") token → SameAt (BehindDeclarator aliases base is d) (BehindInitial aliases base is (record { declarator = d; value = None })) token
declarator_other aliases base is d no_mark_here = either_left (next_stuck no_mark_here)

-- with one more item
pub one_item : (aliases : List (List ℕ)) (base : Base) (before after : List Initial) (i : Initial) (token : Token) (step : DeclarationMove) → after ≡ before ++ i ∷ [] → IsDeclarationMove aliases (BehindInitials aliases base (map initial_of after)) token step → IsDeclarationMove aliases (BehindInitial aliases base (map initial_of before) (initial_of i)) token step
one_item aliases base before after i token step is h = subst (λ items. IsDeclarationMove aliases (BehindInitials aliases base items) token step) (ap (map initial_of) is ∙ map-append initial_of before (i ∷ [])) h

-- a reader that is in no value of a declarator
pub not_in_initial : (state : DeclarationState) → ((d : Declarator) (reader : RightReader) → state ≡ DeclarationState.Value d reader → ⊥) → IsInInitialState state → ⊥
not_in_initial DeclarationState.Start other within = within
not_in_initial (DeclarationState.Pointer place) other within = within
not_in_initial (DeclarationState.Named d) other within = within
not_in_initial (DeclarationState.Value d reader) other within = other d reader refl

-- a step by value that is done in place
pub put_is : (aliases : List (List ℕ)) (now : Tokens → Tokens → DeclarationTree → Type 0) (token : Token) (move : DeclarationMove) (behind : DeclarationReader) (step : DeclarationStep) → IsDeclarationPut move behind step → IsDeclarationMove aliases now token move → IsDeclarationStep now (CompletesDeclaration aliases behind) token step
put_is aliases now token (DeclarationMove.Taken reader) behind step e t = rw (e.0, e.1) t
put_is aliases now token (DeclarationMove.Closed d) behind step e c = rw e c
put_is aliases now token DeclarationMove.Stuck behind step e stuck = rw e stuck
