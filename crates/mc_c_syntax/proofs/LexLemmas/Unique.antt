-- A text has one reading.
use Rattle.std.proofs.Common.{◌≡◌, ◌+◌, ◌≤◌, ℕ, List, [], ◌∷◌, take, drop, refl, ap, sym, ◌∙◌, subst, arith, ⊎_elim}
use Rattle.std.specs.Prelude.{codes}
use Rattle.std.proofs.lemmas.Bool.{cases_order}
use Rattle.mc_c_syntax.specs.declared.lex.spot.Spot.{Spot}
use Rattle.mc_c_syntax.specs.declared.lex.piece.Piece.{Piece}
use Rattle.mc_c_syntax.specs.declared.lex.piece.Piece.TheVariants.{Gap, Lexeme}
use Rattle.mc_base.specs.declared.text.token.TokenKind.TheVariants.{Name, Number, Mark}
use Rattle.mc_c_syntax.specs.Lex.Pieces.{IsPiece, end, separator, line_comment, block_comment, include_line, name, number, mark, bad_byte, open_comment, bad_number, IsFirstClose, Begins, mark_len}
use Rattle.mc_base.specs.Text.Numbers.{Spells, IsNoNumber}
use Rattle.mc_c_syntax.specs.Lex.Spots.{behind}
use Rattle.mc_c_syntax.specs.Lex.Readings.{Reading, Reads, at_end, at_fault, past_gap, past_token, onto, token_at}
use Rattle.mc_c_syntax.proofs.LexLemmas.Classes.{class_is}

one_close : (text : List ℕ) (j k : ℕ) → IsFirstClose text j → IsFirstClose text k → j ≡ k
one_close text j k r s =
    ⊎_elim (λ e. e)
    (⊎_elim (λ less. absurd (s.none_before j less r.here)) (λ more. absurd (r.none_before k more s.here)))
    (cases_order j k)

no_number_here : (text : List ℕ) (m n value : ℕ) → n ≡ m → Spells (take n text) value → value ≤ 2147483647 → IsNoNumber (take m text) → ⊥
no_number_here text m n value e s small none = let s' = rw e at s in let above = none value s' in omega (arith, above)

no_hash : (text : List ℕ) → Begins (codes "#") text → mark_len text ≡ 0 → ⊥
no_hash [] e m = cc
no_hash (a ∷ text) e m = let p : a ≡ 35 = cc in let P : ℕ → Type 0 = λ n. mark_len (n ∷ text) ≡ 0 in let one = subst P p m in omega (arith, one)

-- a text begins with one piece
pub one_piece : {spot : Spot} (text : List ℕ) {piece other : Piece} → IsPiece spot text piece → IsPiece spot text other → piece ≡ other
one_piece text (end e) (end f) = refl
one_piece text (separator e) (separator f) = refl
one_piece text (line_comment b e) (line_comment c f) = ap Gap (e ∙ sym f)
one_piece text (block_comment b c e) (block_comment b' c' e') = ap Gap (e ∙ ap (λ k. k + 4) (one_close (drop 2 text) _ _ c c') ∙ sym e')
one_piece text (block_comment {k = k} b c e) (open_comment b' none) = absurd (none k c.here)
one_piece text (open_comment b none) (block_comment {k = k} b' c e) = absurd (none k c.here)
one_piece text (open_comment b none) (open_comment b' none') = refl
one_piece text (include_line a i e) (include_line b j f) = ap Gap (e ∙ sym f)
one_piece text (include_line a i e) (mark m n l b none) = absurd (none (a, i))
one_piece text (include_line a i e) (bad_byte s b w m) = absurd (no_hash text i.0 m)
one_piece text (mark m n l b none) (include_line a i e) = absurd (none (a, i))
one_piece text (mark m n l b none) (mark m' n' l' b' none') = ap (Lexeme Mark) (n ∙ sym n')
one_piece text (mark m n l b none) (bad_byte s b' w zero_len) = absurd (omega (arith, m, n, zero_len))
one_piece text (bad_byte s b w m) (include_line a i e) = absurd (no_hash text i.0 m)
one_piece text (bad_byte s b w zero_len) (mark m n l b' none) = absurd (omega (arith, m, n, zero_len))
one_piece text (bad_byte s b w m) (bad_byte s' b' w' m') = refl
one_piece text (name e n) (name f m) = ap (Lexeme Name) (n ∙ sym m)
one_piece text (number e n s v) (number f m t w) = ap (Lexeme Number) (n ∙ sym m)
one_piece text (number e n s v) (bad_number f none) = absurd (no_number_here text _ _ _ n s v none)
one_piece text (bad_number f none) (number e n s v) = absurd (no_number_here text _ _ _ n s v none)
one_piece text (bad_number e none) (bad_number f none') = refl
one_piece text p q = absurd (omega (arith, class_is text p, class_is text q))

pub one_reading : {spot : Spot} {text : List ℕ} {one other : Reading} → Reads spot text one → Reads spot text other → one ≡ other
one_reading {text = text} (at_end p) (at_end q) = refl
one_reading {text = text} (at_end p) (at_fault q) = absurd (let e = one_piece text p q in cc)
one_reading {text = text} (at_end p) (past_gap q s) = absurd (let e = one_piece text p q in cc)
one_reading {text = text} (at_end p) (past_token q s f) = absurd (let e = one_piece text p q in cc)
one_reading {text = text} (at_fault p) (at_end q) = absurd (let e = one_piece text p q in cc)
one_reading {text = text} (at_fault p) (at_fault q) = let e = one_piece text p q in cc
one_reading {text = text} (at_fault p) (past_gap q s) = absurd (let e = one_piece text p q in cc)
one_reading {text = text} (at_fault p) (past_token q s f) = absurd (let e = one_piece text p q in cc)
one_reading {text = text} (past_gap p r) (at_end q) = absurd (let e = one_piece text p q in cc)
one_reading {text = text} (past_gap p r) (at_fault q) = absurd (let e = one_piece text p q in cc)
one_reading {spot} {text} {one} {other} (past_gap {n = n} p r) (past_gap {n = m} q s) =
    let e : m ≡ n = let e' = one_piece text p q in cc in
    one_reading r (let P : ℕ → Type 0 = λ k. Reads (behind spot (take k text)) (drop k text) other in subst P e s)
one_reading {text = text} (past_gap p r) (past_token q s f) = absurd (let e = one_piece text p q in cc)
one_reading {text = text} (past_token p r f) (at_end q) = absurd (let e = one_piece text p q in cc)
one_reading {text = text} (past_token p r f) (at_fault q) = absurd (let e = one_piece text p q in cc)
one_reading {text = text} (past_token p r f) (past_gap q s) = absurd (let e = one_piece text p q in cc)
one_reading {spot} {text} {one} {other} (past_token {kind = kind} {n = n} {rest = rest} p r f) (past_token {kind = kind'} {n = m} {rest = rest'} q s g) =
    let e : m ≡ n = let e' = one_piece text p q in cc in
    let k : kind' ≡ kind = let e' = one_piece text p q in cc in
    let same : rest ≡ rest' = one_reading r (let P : ℕ → Type 0 = λ k. Reads (behind spot (take k text)) (drop k text) rest' in subst P e s) in
    f ∙ (λ i. onto (token_at spot (sym k i) (take (sym e i) text)) (same i)) ∙ sym g
