-- A text is read as one thing.
use Rattle.std.proofs.Common.{◌≡◌, ℕ, List, [], ◌∷◌, ◌++◌, ◌⊎◌, inl, inr, refl, ap, sym, ◌∙◌, subst, append_assoc}
use Rattle.std.specs.Prelude.{Some, None, Ok, Err}
use Rattle.mc_base.specs.declared.text.place.Place.{Place}
use Rattle.mc_base.specs.declared.text.token.Token.{Token}
use Rattle.mc_c_syntax.specs.declared.lex.fault.LexFault.{LexFault}
use Rattle.mc_c_syntax.specs.Lex.Readings.{Reading, Lexes}
use Rattle.mc_c_syntax.specs.Ast.Names.{Tokens}
use Rattle.mc_flow.specs.declared.defs.rules.Def.{Def}
use Rattle.mc_flow.specs.declared.defs.shapes.StructInfo.{StructInfo}
use Rattle.mc_def_parse.specs.declared.tree.DefText.{DefText}
use Rattle.mc_def_parse.specs.Grammar.{MoreDefs}
use Rattle.mc_def_parse.specs.Faults.{CanBegin, StopsAt, IsStop, IsOnlyFile}
use Rattle.mc_def_read.specs.Judging.{Judged, judged}
use Rattle.mc_def_read.specs.Readings.{ReadsAs, by_bytes, by_tokens, by_items, place_of, syntax_at}

splits : (b c x y : Tokens) (t u : Token) → b ++ t ∷ x ≡ c ++ u ∷ y → (t ≡ u) ⊎ (((z : Tokens) × (c ≡ b ++ t ∷ z)) ⊎ ((z : Tokens) × (b ≡ c ++ u ∷ z)))
splits [] [] x y t u e = inl (cc)
splits [] (d ∷ c) x y t u e = let same : t ≡ d = cc in inr (inl (c, rw same refl))
splits (d ∷ b) [] x y t u e = let same : d ≡ u = cc in inr (inr (b, rw same refl))
splits (d ∷ b) (f ∷ c) x y t u e =
    let same : d ≡ f = cc in
    let rest : b ++ t ∷ x ≡ c ++ u ∷ y = cc in
    elim (splits b c x y t u rest) [ inl k ↦ inl k | inr (inl k) ↦ inr (inl (k.0, rw (same, k.1) refl)) | inr (inr k) ↦ inr (inr (k.0, rw (same, k.1) refl)) ]

shorter : (b z : Tokens) (t : Token) → CanBegin (b ++ t ∷ z) → CanBegin (b ++ t ∷ [])
shorter b z t can = record { more = z ++ can.more; file = can.file; spells = subst (λ ts. MoreDefs [] ts [] can.file) (append_assoc b (t ∷ z) can.more ∙ sym (append_assoc b (t ∷ []) (z ++ can.more))) can.spells }

one_stop : (tokens : Tokens) (place other : Place) → IsStop tokens place → IsStop tokens other → place ≡ other
one_stop tokens place other (b, t, s, e) (c, u, r, f) =
    elim (splits b c s.after r.after t u (sym s.split ∙ r.split)) [
      | inl k ↦ e ∙ ap (λ token. token.place) k ∙ sym f
      | inr (inl k) ↦ absurd (s.stuck (shorter b k.0 t (subst CanBegin k.1 r.viable)))
      | inr (inr k) ↦ absurd (r.stuck (shorter c k.0 u (subst CanBegin k.1 s.viable)))
    ]

-- tokens that stop spell no file
no_file : (tokens : Tokens) (place : Place) (file : List DefText) → IsStop tokens place → MoreDefs [] tokens [] file → ⊥
no_file tokens place file (b, t, s, e) spells = s.stuck (shorter b s.after t (record { more = []; file = file; spells = subst (λ ts. MoreDefs [] ts [] file) (s.split ∙ sym (nothing_more (b ++ t ∷ s.after))) spells })) where
  nothing_more : (ts : Tokens) → ts ++ [] ≡ ts
  nothing_more [] = refl
  nothing_more (x ∷ ts) = ap (λ ys. x ∷ ys) (nothing_more ts)

pub one_reading : ((text : List ℕ) (one other : Reading) → Lexes text one → Lexes text other → one ≡ other) → (text : List ℕ) (structs : List StructInfo) (one other : Judged (List Def)) → ReadsAs text structs one → ReadsAs text structs other → one ≡ other
one_reading unique text structs _ _ (by_bytes f p l e) (by_bytes g q m d) = let same = unique text _ _ l m in let k : f ≡ g = cc in let places : Some p ≡ Some q = sym e ∙ ap place_of k ∙ d in let place : p ≡ q = cc in ap (λ x. Err (syntax_at x)) place
one_reading unique text structs _ _ (by_bytes f p l e) (by_tokens ts q m s) = let same = unique text _ _ l m in absurd (cc)
one_reading unique text structs _ _ (by_bytes f p l e) (by_items ts file m o j) = let same = unique text _ _ l m in absurd (cc)
one_reading unique text structs _ _ (by_tokens ts p l s) (by_bytes g q m d) = let same = unique text _ _ l m in absurd (cc)
one_reading unique text structs _ _ (by_tokens ts p l s) (by_tokens us q m r) = let same = unique text _ _ l m in let k : us ≡ ts = cc in ap (λ x. Err (syntax_at x)) (one_stop ts p q s (subst (λ v. IsStop v q) k r))
one_reading unique text structs _ _ (by_tokens ts p l s) (by_items us file m o j) = let same = unique text _ _ l m in let k : us ≡ ts = cc in absurd (no_file ts p file s (subst (λ v. MoreDefs [] v [] file) k o.spells))
one_reading unique text structs _ _ (by_items ts file l o i) (by_bytes g q m d) = let same = unique text _ _ l m in absurd (cc)
one_reading unique text structs _ _ (by_items us file l o i) (by_tokens ts q m s) = let same = unique text _ _ l m in let k : us ≡ ts = cc in absurd (no_file ts q file s (subst (λ v. MoreDefs [] v [] file) k o.spells))
one_reading unique text structs _ _ (by_items ts file l o i) (by_items us other m r j) = let same = unique text _ _ l m in let k : us ≡ ts = cc in let files : other ≡ file = o.only other (subst (λ v. MoreDefs [] v [] other) k r.spells) in sym i ∙ ap (judged structs) (sym files) ∙ j
