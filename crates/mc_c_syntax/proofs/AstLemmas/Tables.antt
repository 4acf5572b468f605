-- Classes that stand beside their texts.
use Rattle.std.proofs.Common.{◌≡◌, ℕ, List, [], ◌∷◌, Option, Some, None, Bool, true, false, cond, refl, ◌||◌}
use Rattle.std.proofs.lemmas.Slice.Eq.{bytes_eq-Decides}
use Rattle.std.specs.Option.{is_some}
use Rattle.mc_c_syntax.specs.declared.ast.class.Class.{Class}
use Rattle.mc_c_syntax.specs.Ast.Names.{is_same, is_in}
use Rattle.mc_c_syntax.specs.Ast.Classes.{Each, class_beside}

module _ (P : List ℕ → Class → Type 0) (word : List ℕ) where
  chosen : (text : List ℕ) (class : Class) (rest : Option Class) (b : Bool) → is_same word text ≡ b → P text class → ((c : Class) → Some c ≡ rest → P word c) → (c : Class) → Some c ≡ cond b (Some class) rest → P word c
  chosen text class rest true same h more c is =
      let w : word ≡ text = (bytes_eq-Decides word text).0 same in
      let d : class ≡ c = cc in
      rw w (rw (← d) h)
  chosen text class rest false same h more c is = more c is

  -- so the word has P with the class that is found
  pub class_is_right : (texts : List (List ℕ)) (classes : List Class) → Each P texts classes → (c : Class) → Some c ≡ class_beside texts classes word → P word c
  class_is_right [] classes all c is = cc
  class_is_right (text ∷ texts) [] all c is = absurd all
  class_is_right (text ∷ texts) (class ∷ classes) all c is = chosen text class (class_beside texts classes word) (is_same word text) refl all.0 (class_is_right texts classes all.1) c is

  missed : (b other : Bool) (class : Class) (rest : Option Class) → (None ≡ rest → other ≡ false) → None ≡ cond b (Some class) rest → (b || other) ≡ false
  missed true other class rest more is = cc
  missed false other class rest more is = more is

  -- and where none is found, the word is none of the texts
  pub no_class_is_right : (texts : List (List ℕ)) (classes : List Class) → Each P texts classes → None ≡ class_beside texts classes word → is_in texts word ≡ false
  no_class_is_right [] classes all is = refl
  no_class_is_right (text ∷ texts) [] all is = absurd all
  no_class_is_right (text ∷ texts) (class ∷ classes) all is = missed (is_same word text) (is_in texts word) class (class_beside texts classes word) (no_class_is_right texts classes all.1) is

  held : (b other : Bool) (class : Class) (rest : Option Class) → is_some rest ≡ other → is_some (cond b (Some class) rest) ≡ (b || other)
  held true other class rest more = refl
  held false other class rest more = more

  -- a class is found exactly where the word is one of the texts
  pub class_is_found : (texts : List (List ℕ)) (classes : List Class) → Each P texts classes → is_some (class_beside texts classes word) ≡ is_in texts word
  class_is_found [] classes all = refl
  class_is_found (text ∷ texts) [] all = absurd all
  class_is_found (text ∷ texts) (class ∷ classes) all = held (is_same word text) (is_in texts word) class (class_beside texts classes word) (class_is_found texts classes all.1)
