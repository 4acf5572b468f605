-- What follows the first token of a statement.
use Rattle.std.proofs.Common.{◌≡◌, ℕ, List, [], ◌∷◌, inl, inr, refl, sym, subst}
use Rattle.mc_base.specs.declared.text.token.Token.{Token}
use Rattle.mc_c_syntax.specs.declared.ast.class.Class.{Class}
use Rattle.mc_c_syntax.specs.Ast.Trees.{Stmt, block, break_loop, continue_loop, assert_empty, stmts_of}
use Rattle.mc_c_syntax.specs.Ast.Names.{Tokens}
use Rattle.mc_c_syntax.specs.Ast.Classes.{IsClass}
use Rattle.mc_c_syntax.specs.Ast.Grammar.{starts_empty, starts_declaring, starts_performing, declares_statement, block_statement, empty_statement, simple_statement, free_statement, assert_statement, assume_statement, assume_shape_statement, assert_shape_statement, assert_empty_statement, if_statement, if_else_statement, while_statement, do_statement, for_statement, break_statement, continue_statement, return_statement, return_value, head}
use Rattle.mc_c_syntax.specs.Ast.Readers.{Takes, IsSame}
use Rattle.mc_c_parse_expr.specs.Turns.{InTurn, in_turn}
use Rattle.mc_c_parse_simple.specs.Phrases.{Next, next, ended}
use Rattle.mc_c_parse_simple.proofs.Phrases.{SameAt}
use Rattle.mc_c_parse_body.specs.Phrases.{Expects, Sums, Conditions, Starts, Statements}
use Rattle.mc_c_parse_body.specs.Shapes.{BehindOpen}
use Rattle.mc_c_parse_body.specs.Frames.{InBlock, BehindDo, only, otherwise}
use Rattle.mc_c_parse_body.specs.States.{line_of, BehindFreed, BehindPurpose, BehindReturn, AtForCondition, BehindShape}
use Rattle.mc_c_parse_body.specs.declared.state.Purpose.TheVariants as Purpose
use Rattle.mc_c_parse_body.specs.declared.shape.Command.TheVariants as Command
use Rattle.mc_c_parse_body.proofs.Unique.{class_of_mark, class_of_word}
use Rattle.mc_c_parse_body.proofs.LineTurns as lines

module _ (aliases : List (List ℕ)) (goes : Stmt → Tokens → Tokens → List Stmt → Type 0) where
  -- a line that begins with the token
  abbrev pub Line : Token → Tokens → Tokens → List Stmt → Type 0
  Line token tokens rest y = InTurn (Starts aliases) (λ start. goes (line_of token.place start)) (token ∷ tokens) rest y

  -- after the first token of a statement, by its class
  abbrev pub Opened : Token → Class → Tokens → Tokens → List Stmt → Type 0
  Opened token Class.OpenBrace = InBlock aliases [] (λ ss. goes (block token.place (stmts_of ss)))
  Opened token Class.Do = InTurn (Statements aliases) (BehindDo token.place goes)
  Opened token Class.Free = Expects (Class.OpenParen ∷ []) (InTurn Sums (BehindFreed token.place goes))
  Opened token Class.Assert = Expects (Class.OpenParen ∷ []) (InTurn Conditions (BehindPurpose aliases (Purpose.Assert token.place) goes))
  Opened token Class.Assume = Expects (Class.OpenParen ∷ []) (InTurn Conditions (BehindPurpose aliases (Purpose.Assume token.place) goes))
  Opened token Class.If = Expects (Class.OpenParen ∷ []) (InTurn Conditions (BehindPurpose aliases (Purpose.If token.place) goes))
  Opened token Class.While = Expects (Class.OpenParen ∷ []) (InTurn Conditions (BehindPurpose aliases (Purpose.While token.place) goes))
  Opened token Class.AssumeShape = Expects (Class.OpenParen ∷ []) (InTurn (BehindOpen Command.Assume token.place) (BehindShape goes))
  Opened token Class.AssertShape = Expects (Class.OpenParen ∷ []) (InTurn (BehindOpen Command.Assert token.place) (BehindShape goes))
  Opened token Class.AssertEmpty = Expects (Class.OpenParen ∷ Class.CloseParen ∷ Class.Semicolon ∷ []) (goes (assert_empty token.place))
  Opened token Class.For = Expects (Class.OpenParen ∷ []) (InTurn (Starts aliases) (AtForCondition aliases token.place goes))
  Opened token Class.Break = Expects (Class.Semicolon ∷ []) (goes (break_loop token.place))
  Opened token Class.Continue = Expects (Class.Semicolon ∷ []) (goes (continue_loop token.place))
  Opened token Class.Return = BehindReturn aliases token.place goes
  Opened token Class.Name = Line token
  Opened token (Class.Number n) = Line token
  Opened token Class.End = Line token
  Opened token (Class.Compare c) = Line token
  Opened token Class.Arrow = Line token
  Opened token Class.PlusPlus = Line token
  Opened token Class.MinusMinus = Line token
  Opened token Class.PlusAssign = Line token
  Opened token Class.MinusAssign = Line token
  Opened token Class.And = Line token
  Opened token Class.Or = Line token
  Opened token Class.CloseBrace = Line token
  Opened token Class.OpenParen = Line token
  Opened token Class.CloseParen = Line token
  Opened token Class.Semicolon = Line token
  Opened token Class.Comma = Line token
  Opened token Class.Assign = Line token
  Opened token Class.Plus = Line token
  Opened token Class.Minus = Line token
  Opened token Class.Star = Line token
  Opened token Class.Bang = Line token
  Opened token Class.Int = Line token
  Opened token Class.Struct = Line token
  Opened token Class.Typedef = Line token
  Opened token Class.Static = Line token
  Opened token Class.Void = Line token
  Opened token Class.Null = Line token
  Opened token Class.Malloc = Line token
  Opened token Class.Input = Line token
  Opened token Class.Else = Line token
  Opened token Class.Sizeof = Line token
  Opened token Class.OtherMark = Line token
  Opened token Class.OtherWord = Line token
  Opened token Class.OtherNumber = Line token

  as_class : (token : Token) (class other : Class) (tokens rest : Tokens) (y : List Stmt) → class ≡ other → Opened token other tokens rest y → Opened token class tokens rest y
  as_class token class other tokens rest y e h = subst (λ (k : Class). Opened token k tokens rest y) (sym e) h

  pub opened : (token : Token) (class : Class) (tokens rest : Tokens) (y : List Stmt) → IsClass token class → InTurn (Statements aliases) goes (token ∷ tokens) rest y → Opened token class tokens rest y
  opened token class tokens rest y is (in_turn (declares_statement d) h) = elim (lines.declaration_opens class is d) [ inl e ↦ as_class token class Class.Int tokens rest y e (in_turn (starts_declaring d) h) | inr f ↦ elim f [ inl e ↦ as_class token class Class.Struct tokens rest y e (in_turn (starts_declaring d) h) | inr e ↦ as_class token class Class.Name tokens rest y e (in_turn (starts_declaring d) h) ] ]
  opened token class tokens rest y is (in_turn (block_statement b ss a) h) = as_class token class Class.OpenBrace tokens rest y (class_of_mark class Class.OpenBrace token tt is b) (in_turn ss (next a h))
  opened token class tokens rest y is (in_turn (empty_statement m) h) = as_class token class Class.Semicolon tokens rest y (class_of_mark class Class.Semicolon token tt is m) (in_turn (starts_empty m) h)
  opened token class tokens rest y is (in_turn (simple_statement s m) h) = elim (lines.simple_opens class is s) [ inl e ↦ as_class token class Class.Name tokens rest y e (in_turn (starts_performing s m) h) | inr f ↦ elim f [ inl e ↦ as_class token class Class.PlusPlus tokens rest y e (in_turn (starts_performing s m) h) | inr e ↦ as_class token class Class.MinusMinus tokens rest y e (in_turn (starts_performing s m) h) ] ]
  opened token class tokens rest y is (in_turn (free_statement w b e a m) h) = as_class token class Class.Free tokens rest y (class_of_word class Class.Free token tt is w) (next b (in_turn e (next a (next m h))))
  opened token class tokens rest y is (in_turn (assert_statement w b e a m) h) = as_class token class Class.Assert tokens rest y (class_of_word class Class.Assert token tt is w) (next b (in_turn e (next a (next m h))))
  opened token class tokens rest y is (in_turn (assume_statement w b e a m) h) = as_class token class Class.Assume tokens rest y (class_of_word class Class.Assume token tt is w) (next b (in_turn e (next a (next m h))))
  opened token class tokens rest y is (in_turn (assume_shape_statement w b p c v args a m) h) = as_class token class Class.AssumeShape tokens rest y (class_of_word class Class.AssumeShape token tt is w) (next b (in_turn (next p (next c (next v (in_turn args (next a ended))))) (next m h)))
  opened token class tokens rest y is (in_turn (assert_shape_statement w b p c v args a m) h) = as_class token class Class.AssertShape tokens rest y (class_of_word class Class.AssertShape token tt is w) (next b (in_turn (next p (next c (in_turn v (in_turn args (next a ended))))) (next m h)))
  opened token class tokens rest y is (in_turn (assert_empty_statement w b a m) h) = as_class token class Class.AssertEmpty tokens rest y (class_of_word class Class.AssertEmpty token tt is w) (next b (next a (next m h)))
  opened token class tokens rest y is (in_turn (if_statement w b c a s n) h) = as_class token class Class.If tokens rest y (class_of_word class Class.If token tt is w) (next b (in_turn c (next a (in_turn s (only n h)))))
  opened token class tokens rest y is (in_turn (if_else_statement w b c a s o t) h) = as_class token class Class.If tokens rest y (class_of_word class Class.If token tt is w) (next b (in_turn c (next a (in_turn s (otherwise o t h)))))
  opened token class tokens rest y is (in_turn (while_statement w b c a s) h) = as_class token class Class.While tokens rest y (class_of_word class Class.While token tt is w) (next b (in_turn c (next a (in_turn s h))))
  opened token class tokens rest y is (in_turn (do_statement w s again b c a m) h) = as_class token class Class.Do tokens rest y (class_of_word class Class.Do token tt is w) (in_turn s (next again (next b (in_turn c (next a (next m h))))))
  opened token class tokens rest y is (in_turn (for_statement (head w b start c m last a) s) h) = as_class token class Class.For tokens rest y (class_of_word class Class.For token tt is w) (next b (in_turn start (in_turn c (next m (in_turn last (next a (in_turn s h)))))))
  opened token class tokens rest y is (in_turn (break_statement w m) h) = as_class token class Class.Break tokens rest y (class_of_word class Class.Break token tt is w) (next m h)
  opened token class tokens rest y is (in_turn (continue_statement w m) h) = as_class token class Class.Continue tokens rest y (class_of_word class Class.Continue token tt is w) (next m h)
  opened token class tokens rest y is (in_turn (return_statement w m) h) = as_class token class Class.Return tokens rest y (class_of_word class Class.Return token tt is w) (inl (next m h))
  opened token class tokens rest y is (in_turn (return_value w r m) h) = as_class token class Class.Return tokens rest y (class_of_word class Class.Return token tt is w) (inr (in_turn r (next m h)))

  line_back : (token : Token) {tokens rest : Tokens} {y : List Stmt} → Line token tokens rest y → InTurn (Statements aliases) goes (token ∷ tokens) rest y
  line_back token (in_turn (starts_empty m) h) = in_turn (empty_statement m) h
  line_back token (in_turn (starts_declaring d) h) = in_turn (declares_statement d) h
  line_back token (in_turn (starts_performing s m) h) = in_turn (simple_statement s m) h

  pub opened_back : (token : Token) (class : Class) {tokens rest : Tokens} {y : List Stmt} → IsClass token class → Opened token class tokens rest y → InTurn (Statements aliases) goes (token ∷ tokens) rest y
  opened_back token Class.OpenBrace is (in_turn ss (next a h)) = in_turn (block_statement is ss a) h
  opened_back token Class.Do is (in_turn s (next again (next b (in_turn c (next a (next m h)))))) = in_turn (do_statement is s again b c a m) h
  opened_back token Class.Free is (next b (in_turn e (next a (next m h)))) = in_turn (free_statement is b e a m) h
  opened_back token Class.Assert is (next b (in_turn e (next a (next m h)))) = in_turn (assert_statement is b e a m) h
  opened_back token Class.Assume is (next b (in_turn e (next a (next m h)))) = in_turn (assume_statement is b e a m) h
  opened_back token Class.If is (next b (in_turn c (next a (in_turn s (only n h))))) = in_turn (if_statement is b c a s n) h
  opened_back token Class.If is (next b (in_turn c (next a (in_turn s (otherwise o t h))))) = in_turn (if_else_statement is b c a s o t) h
  opened_back token Class.While is (next b (in_turn c (next a (in_turn s h)))) = in_turn (while_statement is b c a s) h
  opened_back token Class.AssumeShape is (next b (in_turn (next p (next c (next v (in_turn args (next a ended))))) (next m h))) = in_turn (assume_shape_statement is b p c v args a m) h
  opened_back token Class.AssertShape is (next b (in_turn (next p (next c (in_turn v (in_turn args (next a ended))))) (next m h))) = in_turn (assert_shape_statement is b p c v args a m) h
  opened_back token Class.AssertEmpty is (next b (next a (next m h))) = in_turn (assert_empty_statement is b a m) h
  opened_back token Class.For is (next b (in_turn start (in_turn c (next m (in_turn last (next a (in_turn s h))))))) = in_turn (for_statement (head is b start c m last a) s) h
  opened_back token Class.Break is (next m h) = in_turn (break_statement is m) h
  opened_back token Class.Continue is (next m h) = in_turn (continue_statement is m) h
  opened_back token Class.Return is (inl (next m h)) = in_turn (return_statement is m) h
  opened_back token Class.Return is (inr (in_turn r (next m h))) = in_turn (return_value is r m) h
  opened_back token Class.Name is h = line_back token h
  opened_back token (Class.Number n) is h = line_back token h
  opened_back token Class.End is h = line_back token h
  opened_back token (Class.Compare c) is h = line_back token h
  opened_back token Class.Arrow is h = line_back token h
  opened_back token Class.PlusPlus is h = line_back token h
  opened_back token Class.MinusMinus is h = line_back token h
  opened_back token Class.PlusAssign is h = line_back token h
  opened_back token Class.MinusAssign is h = line_back token h
  opened_back token Class.And is h = line_back token h
  opened_back token Class.Or is h = line_back token h
  opened_back token Class.CloseBrace is h = line_back token h
  opened_back token Class.OpenParen is h = line_back token h
  opened_back token Class.CloseParen is h = line_back token h
  opened_back token Class.Semicolon is h = line_back token h
  opened_back token Class.Comma is h = line_back token h
  opened_back token Class.Assign is h = line_back token h
  opened_back token Class.Plus is h = line_back token h
  opened_back token Class.Minus is h = line_back token h
  opened_back token Class.Star is h = line_back token h
  opened_back token Class.Bang is h = line_back token h
  opened_back token Class.Int is h = line_back token h
  opened_back token Class.Struct is h = line_back token h
  opened_back token Class.Typedef is h = line_back token h
  opened_back token Class.Static is h = line_back token h
  opened_back token Class.Void is h = line_back token h
  opened_back token Class.Null is h = line_back token h
  opened_back token Class.Malloc is h = line_back token h
  opened_back token Class.Input is h = line_back token h
  opened_back token Class.Else is h = line_back token h
  opened_back token Class.Sizeof is h = line_back token h
  opened_back token Class.OtherMark is h = line_back token h
  opened_back token Class.OtherWord is h = line_back token h
  opened_back token Class.OtherNumber is h = line_back token h

  -- a statement goes on after its first token so
  pub opened_takes : {token : Token} (class : Class) → IsClass token class → Takes [] (InTurn (Statements aliases) goes) (Opened token class) token
  opened_takes {token} class is = record { forward = λ tokens rest y h. inl (opened token class tokens rest y is h); backward = λ tokens rest y h. opened_back token class is h }

  at_line : (token : Token) (class : Class) {tokens rest : Tokens} {y : List Stmt} → (class ≡ Class.OpenBrace → ⊥) → (class ≡ Class.Do → ⊥) → (class ≡ Class.Free → ⊥) → (class ≡ Class.Assert → ⊥) → (class ≡ Class.Assume → ⊥) → (class ≡ Class.If → ⊥) → (class ≡ Class.While → ⊥) → (class ≡ Class.AssumeShape → ⊥) → (class ≡ Class.AssertShape → ⊥) → (class ≡ Class.AssertEmpty → ⊥) → (class ≡ Class.For → ⊥) → (class ≡ Class.Break → ⊥) → (class ≡ Class.Continue → ⊥) → (class ≡ Class.Return → ⊥) → Opened token class tokens rest y → Line token tokens rest y
  at_line token Class.OpenBrace f0 f1 f2 f3 f4 f5 f6 f7 f8 f9 f10 f11 f12 f13 h = absurd (f0 refl)
  at_line token Class.Do f0 f1 f2 f3 f4 f5 f6 f7 f8 f9 f10 f11 f12 f13 h = absurd (f1 refl)
  at_line token Class.Free f0 f1 f2 f3 f4 f5 f6 f7 f8 f9 f10 f11 f12 f13 h = absurd (f2 refl)
  at_line token Class.Assert f0 f1 f2 f3 f4 f5 f6 f7 f8 f9 f10 f11 f12 f13 h = absurd (f3 refl)
  at_line token Class.Assume f0 f1 f2 f3 f4 f5 f6 f7 f8 f9 f10 f11 f12 f13 h = absurd (f4 refl)
  at_line token Class.If f0 f1 f2 f3 f4 f5 f6 f7 f8 f9 f10 f11 f12 f13 h = absurd (f5 refl)
  at_line token Class.While f0 f1 f2 f3 f4 f5 f6 f7 f8 f9 f10 f11 f12 f13 h = absurd (f6 refl)
  at_line token Class.AssumeShape f0 f1 f2 f3 f4 f5 f6 f7 f8 f9 f10 f11 f12 f13 h = absurd (f7 refl)
  at_line token Class.AssertShape f0 f1 f2 f3 f4 f5 f6 f7 f8 f9 f10 f11 f12 f13 h = absurd (f8 refl)
  at_line token Class.AssertEmpty f0 f1 f2 f3 f4 f5 f6 f7 f8 f9 f10 f11 f12 f13 h = absurd (f9 refl)
  at_line token Class.For f0 f1 f2 f3 f4 f5 f6 f7 f8 f9 f10 f11 f12 f13 h = absurd (f10 refl)
  at_line token Class.Break f0 f1 f2 f3 f4 f5 f6 f7 f8 f9 f10 f11 f12 f13 h = absurd (f11 refl)
  at_line token Class.Continue f0 f1 f2 f3 f4 f5 f6 f7 f8 f9 f10 f11 f12 f13 h = absurd (f12 refl)
  at_line token Class.Return f0 f1 f2 f3 f4 f5 f6 f7 f8 f9 f10 f11 f12 f13 h = absurd (f13 refl)
  at_line token Class.Name f0 f1 f2 f3 f4 f5 f6 f7 f8 f9 f10 f11 f12 f13 h = h
  at_line token (Class.Number n) f0 f1 f2 f3 f4 f5 f6 f7 f8 f9 f10 f11 f12 f13 h = h
  at_line token Class.End f0 f1 f2 f3 f4 f5 f6 f7 f8 f9 f10 f11 f12 f13 h = h
  at_line token (Class.Compare c) f0 f1 f2 f3 f4 f5 f6 f7 f8 f9 f10 f11 f12 f13 h = h
  at_line token Class.Arrow f0 f1 f2 f3 f4 f5 f6 f7 f8 f9 f10 f11 f12 f13 h = h
  at_line token Class.PlusPlus f0 f1 f2 f3 f4 f5 f6 f7 f8 f9 f10 f11 f12 f13 h = h
  at_line token Class.MinusMinus f0 f1 f2 f3 f4 f5 f6 f7 f8 f9 f10 f11 f12 f13 h = h
  at_line token Class.PlusAssign f0 f1 f2 f3 f4 f5 f6 f7 f8 f9 f10 f11 f12 f13 h = h
  at_line token Class.MinusAssign f0 f1 f2 f3 f4 f5 f6 f7 f8 f9 f10 f11 f12 f13 h = h
  at_line token Class.And f0 f1 f2 f3 f4 f5 f6 f7 f8 f9 f10 f11 f12 f13 h = h
  at_line token Class.Or f0 f1 f2 f3 f4 f5 f6 f7 f8 f9 f10 f11 f12 f13 h = h
  at_line token Class.CloseBrace f0 f1 f2 f3 f4 f5 f6 f7 f8 f9 f10 f11 f12 f13 h = h
  at_line token Class.OpenParen f0 f1 f2 f3 f4 f5 f6 f7 f8 f9 f10 f11 f12 f13 h = h
  at_line token Class.CloseParen f0 f1 f2 f3 f4 f5 f6 f7 f8 f9 f10 f11 f12 f13 h = h
  at_line token Class.Semicolon f0 f1 f2 f3 f4 f5 f6 f7 f8 f9 f10 f11 f12 f13 h = h
  at_line token Class.Comma f0 f1 f2 f3 f4 f5 f6 f7 f8 f9 f10 f11 f12 f13 h = h
  at_line token Class.Assign f0 f1 f2 f3 f4 f5 f6 f7 f8 f9 f10 f11 f12 f13 h = h
  at_line token Class.Plus f0 f1 f2 f3 f4 f5 f6 f7 f8 f9 f10 f11 f12 f13 h = h
  at_line token Class.Minus f0 f1 f2 f3 f4 f5 f6 f7 f8 f9 f10 f11 f12 f13 h = h
  at_line token Class.Star f0 f1 f2 f3 f4 f5 f6 f7 f8 f9 f10 f11 f12 f13 h = h
  at_line token Class.Bang f0 f1 f2 f3 f4 f5 f6 f7 f8 f9 f10 f11 f12 f13 h = h
  at_line token Class.Int f0 f1 f2 f3 f4 f5 f6 f7 f8 f9 f10 f11 f12 f13 h = h
  at_line token Class.Struct f0 f1 f2 f3 f4 f5 f6 f7 f8 f9 f10 f11 f12 f13 h = h
  at_line token Class.Typedef f0 f1 f2 f3 f4 f5 f6 f7 f8 f9 f10 f11 f12 f13 h = h
  at_line token Class.Static f0 f1 f2 f3 f4 f5 f6 f7 f8 f9 f10 f11 f12 f13 h = h
  at_line token Class.Void f0 f1 f2 f3 f4 f5 f6 f7 f8 f9 f10 f11 f12 f13 h = h
  at_line token Class.Null f0 f1 f2 f3 f4 f5 f6 f7 f8 f9 f10 f11 f12 f13 h = h
  at_line token Class.Malloc f0 f1 f2 f3 f4 f5 f6 f7 f8 f9 f10 f11 f12 f13 h = h
  at_line token Class.Input f0 f1 f2 f3 f4 f5 f6 f7 f8 f9 f10 f11 f12 f13 h = h
  at_line token Class.Else f0 f1 f2 f3 f4 f5 f6 f7 f8 f9 f10 f11 f12 f13 h = h
  at_line token Class.Sizeof f0 f1 f2 f3 f4 f5 f6 f7 f8 f9 f10 f11 f12 f13 h = h
  at_line token Class.OtherMark f0 f1 f2 f3 f4 f5 f6 f7 f8 f9 f10 f11 f12 f13 h = h
  at_line token Class.OtherWord f0 f1 f2 f3 f4 f5 f6 f7 f8 f9 f10 f11 f12 f13 h = h
  at_line token Class.OtherNumber f0 f1 f2 f3 f4 f5 f6 f7 f8 f9 f10 f11 f12 f13 h = h

  -- a statement that no word or brace of its own begins is a line
  pub opens_line : {token : Token} (class : Class) → IsClass token class → (class ≡ Class.OpenBrace → ⊥) → (class ≡ Class.Do → ⊥) → (class ≡ Class.Free → ⊥) → (class ≡ Class.Assert → ⊥) → (class ≡ Class.Assume → ⊥) → (class ≡ Class.If → ⊥) → (class ≡ Class.While → ⊥) → (class ≡ Class.AssumeShape → ⊥) → (class ≡ Class.AssertShape → ⊥) → (class ≡ Class.AssertEmpty → ⊥) → (class ≡ Class.For → ⊥) → (class ≡ Class.Break → ⊥) → (class ≡ Class.Continue → ⊥) → (class ≡ Class.Return → ⊥) → SameAt (InTurn (Statements aliases) goes) (InTurn (Starts aliases) (λ start. goes (line_of token.place start))) token
  opens_line {token} class is f0 f1 f2 f3 f4 f5 f6 f7 f8 f9 f10 f11 f12 f13 = record { forward = λ tokens rest y h. at_line token class f0 f1 f2 f3 f4 f5 f6 f7 f8 f9 f10 f11 f12 f13 (opened token class tokens rest y is h); backward = λ tokens rest y h. line_back token h }

-- what comes after a token is the same
pub next_same : {Y : Type 0} {Is : Token → Type 0} {one other : Tokens → Tokens → Y → Type 0} → IsSame one other → IsSame (Next Is (λ t. one)) (Next Is (λ t. other))
next_same {Y = Y} {Is = Is} {one = one} {other = other} s = record { forward = go; backward = back }
  where
    go : (tokens rest : Tokens) (y : Y) → Next Is (λ t. one) tokens rest y → Next Is (λ t. other) tokens rest y
    go tokens rest y (next {tokens = more} i h) = next i (s.forward more rest y h)

    back : (tokens rest : Tokens) (y : Y) → Next Is (λ t. other) tokens rest y → Next Is (λ t. one) tokens rest y
    back tokens rest y (next {tokens = more} i h) = next i (s.backward more rest y h)
