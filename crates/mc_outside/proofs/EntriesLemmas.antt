-- What the first entry of a name holds after a write and after a new entry.
use Rattle.std.proofs.Common.{◌≡◌, ◌≢◌, Option, ◌++◌, ◌∷◌, [], ◌∙◌, ap, sym, subst, refl, ℕ, List, length, get_or, set, true, false, Some, None, string_bytes, String, Vec, Global, inl, inr, Option, Result, Ok, Err, OnErr}
use Rattle.std.specs.List.{position, position_or_len, find, slice_get}
use Rattle.std.specs.Option.{option_map, option_or}
use Rattle.std.specs.Str.{bytes_eq}
use Rattle.std.proofs.lemmas.Bool.{cases_Bool, cond-true}
use Rattle.std.proofs.lemmas.Bool.Decides.{Decides-ltb}
use Rattle.std.proofs.lemmas.List.Folds.{find_at, find-set, find_past, find-append}
use Rattle.std.proofs.lemmas.List.Quantifiers.{position-Some}
use Rattle.std.proofs.lemmas.Option.{cond_some, slice_get-get_or, slice_get_cases}
use Rattle.std.proofs.lemmas.Slice.Eq.{bytes_eq-Decides}
use Rattle.mc_outside.specs.Entries.{Entries, is_named, bytes_at}
use Rattle.mc_outside.specs.Outside.{OthersStay, Stays}

-- a name and what its file holds
abbrev Entry : Type 0
Entry = String Global × Vec ℕ Global

-- the place of a name is that of its first entry
place_is : (es : Entries) (name : List ℕ) (i : ℕ) → position (is_named name) es ≡ Some i → i ≡ position_or_len (is_named name) es
place_is es name i h = sym (cond_some _ _ _ h).1

-- a text that equals one name equals no other
differs : (a name other : List ℕ) → bytes_eq a name ≡ true → other ≢ name → bytes_eq a other ≡ false
differs a name other h ne = elim (cases_Bool (bytes_eq a other)) [
  | inl t ↦ absurd (ne (sym ((bytes_eq-Decides a other).0 t) ∙ (bytes_eq-Decides a name).0 h))
  | inr f ↦ f
]

pub read_here : (es : Entries) (name : List ℕ) (i : ℕ) (d : Entry) → position (is_named name) es ≡ Some i → bytes_at es name ≡ Some (get_or es i d).1.items
read_here es name i d h = ap (option_map (λ (e : Entry). e.1.items))
    (find_at (is_named name) es ∙ ap (slice_get es) (sym (place_is es name i h)) ∙ slice_get-get_or es i d (position-Some (is_named name) es i d h).0)

pub written_here : (es : Entries) (name : List ℕ) (i : ℕ) (e : Entry) → position (is_named name) es ≡ Some i → is_named name e ≡ true → bytes_at (set es i e) name ≡ Some e.1.items
written_here es name i e h same = ap (option_map (λ (x : Entry). x.1.items))
    (find-set (is_named name) es i e (place_is es name i h) (position-Some (is_named name) es i e h).0 same)

-- the entry at the place of a name has that name
pub is_there : (es : Entries) (name : List ℕ) (i : ℕ) (e d : Entry) → position (is_named name) es ≡ Some i → e.0 ≡ (get_or es i d).0 → is_named name e ≡ true
is_there es name i e d h same = ap (λ s. bytes_eq (string_bytes s) name) same ∙ (position-Some (is_named name) es i d h).1

pub written_others : (es : Entries) (name : List ℕ) (i : ℕ) (e d : Entry) → position (is_named name) es ≡ Some i → e.0 ≡ (get_or es i d).0 → OthersStay name (bytes_at es) (bytes_at (set es i e))
written_others es name i e d h same other ne = ap (option_map (λ (x : Entry). x.1.items))
    (find_past (is_named other) es i e d
    (differs (string_bytes (get_or es i d).0) name other (position-Some (is_named name) es i d h).1 ne)
    (differs (string_bytes e.0) name other (is_there es name i e d h same) ne))

-- an entry is written that holds what was held
pub rewritten : (es : Entries) (name : List ℕ) (i : ℕ) (e d : Entry) → position (is_named name) es ≡ Some i → e.0 ≡ (get_or es i d).0 → e.1.items ≡ (get_or es i d).1.items → Stays (bytes_at es) (bytes_at (set es i e))
rewritten es name i e d h same held other = elim (cases_Bool (bytes_eq other name)) [
  | inl t ↦ subst (λ n. bytes_at (set es i e) n ≡ bytes_at es n) (sym ((bytes_eq-Decides other name).0 t))
      (written_here es name i e h (is_there es name i e d h same) ∙ ap Some held ∙ sym (read_here es name i d h))
  | inr f ↦ written_others es name i e d h same other (λ eq. let t = (bytes_eq-Decides other name).1 eq in cc)
]

-- no entry has a name that has no place
not_found : (es : Entries) (name : List ℕ) → position (is_named name) es ≡ None → find (is_named name) es ≡ None
not_found es name h = find_at (is_named name) es ∙ (elim (slice_get_cases es (position_or_len (is_named name) es)).1 [
  | inl w ↦ let e = cond-true _ (Some (position_or_len (is_named name) es)) None ((Decides-ltb (position_or_len (is_named name) es) (length es)).1 w.1) in cc
  | inr w ↦ w.1
])

pub missing : (es : Entries) (name : List ℕ) → position (is_named name) es ≡ None → bytes_at es name ≡ None
missing es name h = ap (option_map (λ (x : Entry). x.1.items)) (not_found es name h)

pub added_here : (es : Entries) (name : List ℕ) (e : Entry) → position (is_named name) es ≡ None → string_bytes e.0 ≡ name → bytes_at (es ++ e ∷ []) name ≡ Some e.1.items
added_here es name e h same =
    rw (find-append, not_found es name h, (bytes_eq-Decides (string_bytes e.0) name).1 same)

or_none : (o : Option Entry) → option_or o None ≡ o
or_none None = refl
or_none (Some e) = refl

pub added_others : (es : Entries) (name : List ℕ) (e : Entry) → string_bytes e.0 ≡ name → OthersStay name (bytes_at es) (bytes_at (es ++ e ∷ []))
added_others es name e same other ne =
    let other_name = differs (string_bytes e.0) name other ((bytes_eq-Decides (string_bytes e.0) name).1 same) ne in
    rw (find-append, other_name, or_none)

pub when_err : {T E P : Type 0} (r : Result T E) → P → OnErr r P
when_err (Ok _) h = tt
when_err (Err _) h = h
