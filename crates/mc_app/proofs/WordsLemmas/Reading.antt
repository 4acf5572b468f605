-- What a command has read.
use Rattle.std.proofs.Common.{◌≡◌, ◌∙◌, ℕ, List, Option, Some, None, Result, Ok, Err, Bool, true, false, ◌&&◌, refl, sym, ap, option_map, MatchOption}
use Rattle.std.specs.Borrow.{Bor}
use Rattle.std.specs.Str.Parse.{ParsesBool, ParsesUnsigned}
use Rattle.clap.specs.Words.{App, ReadsOne, first_of, first_value, matches_of, one_text}
use Rattle.clap.specs.Walk.{one_of, rows_of}
use Rattle.clap.specs.declared.parser.matches.Found.{Found}
use Rattle.clap.proofs.WalkLemmas.{first_value-rows, one_text-rows}
use Rattle.mc_app.specs.Words.Words.{Reads, ReadsFlag, ReadsPerhaps, ReadsUnsigned, flag_text}

same_word : (f : Found) (app : App) (words : List (List ℕ)) (id : List ℕ) → rows_of f ≡ matches_of app words → first_value f id ≡ first_of id (matches_of app words)
same_word f app words id rows = first_value-rows f id ∙ ap (first_of id) rows

pub word_read : (f : Found) (app : App) (words : List (List ℕ)) (id : List ℕ) (r : Option (Bor (List ℕ))) → rows_of f ≡ matches_of app words
    → option_map (λ s. s.now) r ≡ first_value f id → MatchOption r ((w : List ℕ) → Reads app words id w → ⊥) (λ s. Reads app words id s.now)
word_read f app words id None rows e = λ w reads. let two : None ≡ Some w = e ∙ same_word f app words id rows ∙ reads in cc
word_read f app words id (Some s) rows e = sym (e ∙ same_word f app words id rows)

pub word_read_perhaps : (f : Found) (app : App) (words : List (List ℕ)) (id : List ℕ) (r : Option (Bor (List ℕ))) → rows_of f ≡ matches_of app words
    → option_map (λ s. s.now) r ≡ first_value f id → ReadsPerhaps app words id (option_map (λ s. s.now) r)
word_read_perhaps f app words id r rows e = sym (e ∙ same_word f app words id rows)

-- ---- numbers

same_text : (f : Found) (app : App) (words : List (List ℕ)) (id : List ℕ) → rows_of f ≡ matches_of app words → one_text f id ≡ one_of id (matches_of app words)
same_text f app words id rows = one_text-rows f id ∙ ap (one_of id) rows

-- a number that is read is the one of its name, and where none is read there is none
pub number_read : (bits : ℕ) (E : Type 0) (Gives : List ℕ → Result ℕ E → Type 0) (f : Found) (app : App) (words : List (List ℕ)) (id : List ℕ) (r : Option ℕ) → rows_of f ≡ matches_of app words
    → (one_text f id ≡ None → r ≡ None) → ((t : List ℕ) → one_text f id ≡ Some t → ReadsOne Gives t r)
    → ((bs : List ℕ) (q : Result ℕ E) → Gives bs q → ParsesUnsigned bits 10 bs q)
    → MatchOption r ((n : ℕ) → ReadsUnsigned bits app words id n → ⊥) (ReadsUnsigned bits app words id)
number_read bits E Gives f app words id None rows none value parses =
    λ n reads.
    let read = value reads.0 (same_text f app words id rows ∙ reads.1) in
    let failed = parses reads.0 (Err read.0) read.1 in
    failed reads.2.0
number_read bits E Gives f app words id (Some n) rows none value parses = at (one_text f id) refl
  where
    at : (t : Option (List ℕ)) → one_text f id ≡ t → ReadsUnsigned bits app words id n
    at None e = let two : Some n ≡ None = none e in cc
    at (Some t) e = (t, sym (same_text f app words id rows) ∙ e, parses t (Ok n) (value t e))

-- ---- flags

-- a flag that is read is the one of its name, and where none is read there is none
pub flag_read : (E : Type 0) (Gives : List ℕ → Result Bool E → Type 0) (f : Found) (app : App) (words : List (List ℕ)) (id : List ℕ) (r : Option Bool) → rows_of f ≡ matches_of app words
    → (one_text f id ≡ None → r ≡ None) → ((t : List ℕ) → one_text f id ≡ Some t → ReadsOne Gives t r)
    → ((bs : List ℕ) (q : Result Bool E) → Gives bs q → ParsesBool bs q)
    → MatchOption r ((is : Bool) → ReadsFlag app words id is → ⊥) (ReadsFlag app words id)
flag_read E Gives f app words id None rows none value parses =
    λ is reads.
    let read = value (flag_text is) (same_text f app words id rows ∙ reads) in
    no_text is read.0 (parses (flag_text is) (Err read.0) read.1)
  where
    no_text : (is : Bool) (e : E) → ParsesBool (flag_text is) (Err e) → ⊥
    no_text true e failed = failed.0 refl
    no_text false e failed = failed.1 refl
flag_read E Gives f app words id (Some is) rows none value parses = at (one_text f id) refl
  where
    text_is : (t : List ℕ) (is : Bool) → ParsesBool {E = E} t (Ok is) → t ≡ flag_text is
    text_is t true e = e
    text_is t false e = e

    at : (t : Option (List ℕ)) → one_text f id ≡ t → ReadsFlag app words id is
    at None e = let two : Some is ≡ None = none e in cc
    at (Some t) e = sym (same_text f app words id rows) ∙ e ∙ ap Some (text_is t is (parses t (Ok is) (value t e)))

-- a test that both pass
pub both_left : (a b : Bool) → (a && b) ≡ true → a ≡ true
both_left true b e = refl
both_left false b e = cc
