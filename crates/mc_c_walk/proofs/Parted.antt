-- What the code has of the visible variables, the last first.
use Rattle.std.proofs.Common.{◌≡◌, ℕ, ◌+◌, ◌-◌, ◌≤◌, Bool, true, false, cond, min, List, [], ◌∷◌, ◌++◌, length, map, reverse, take, drop, insert, refl, ap, sym, ◌∙◌, arith, append_assoc, add-one, length-append}
use Rattle.std.specs.Prelude.{Option, Some, None, find, option_map}
use Rattle.mc_c_syntax.specs.Ast.Names.{is_same}
use Rattle.std.proofs.lemmas.List.{drop-drop, drop-take, drop_at, drop_min, length-drop, length-map, length-reverse, length-take, map-append, reverse-append, take-append-drop, take-take, take_at, take_min}
use Rattle.mc_c_types.specs.Held.{variable_held, variables_held}
use Rattle.mc_c_types.specs.Scopes.{Scope, declare}
use Rattle.mc_c_types.specs.Tables.{Variable}
use Rattle.mc_c_types.specs.declared.scope.Named.{Named}
use Rattle.mc_c_walk.specs.Parting.{parted, scope_held, outside, as_head, behind_heads}
use Rattle.mc_c_walk.specs.declared.variables.Marks.{Marks}

-- ---- the variables of the first and of the last of several
held_joined : (xs ys : List Named) → variables_held (xs ++ ys) ≡ variables_held ys ++ variables_held xs
held_joined xs ys = ap (λ zs. map variable_held zs) (reverse-append xs ys) ∙ map-append variable_held (reverse ys) (reverse xs)

length_held : (vs : List Named) → length (variables_held vs) ≡ length vs
length_held vs = length-map (reverse vs) variable_held ∙ length-reverse vs

held_split : (n : ℕ) (vs : List Named) → variables_held vs ≡ variables_held (drop n vs) ++ variables_held (take n vs)
held_split n vs = ap variables_held (sym (take-append-drop n vs)) ∙ held_joined (take n vs) (drop n vs)

length_last : (n k : ℕ) (vs : List Named) → length vs - n ≡ k → length (variables_held (drop n vs)) ≡ k
length_last n k vs is = length_held (drop n vs) ∙ length-drop n vs ∙ is

held_first : (n k : ℕ) (vs : List Named) → length vs - n ≡ k → variables_held (take n vs) ≡ drop k (variables_held vs)
held_first n k vs is = sym (drop_at (variables_held (drop n vs)) (variables_held (take n vs)) k (length_last n k vs is)) ∙ ap (λ zs. drop k zs) (sym (held_split n vs))

held_last : (n k : ℕ) (vs : List Named) → length vs - n ≡ k → variables_held (drop n vs) ≡ take k (variables_held vs)
held_last n k vs is = sym (take_at (variables_held (drop n vs)) (variables_held (take n vs)) k (length_last n k vs is)) ∙ ap (λ zs. take k zs) (sym (held_split n vs))

held_put : (n : ℕ) (vs : List Named) (v : Named) → variables_held (insert vs n v) ≡ variables_held (drop n vs) ++ (variable_held v ∷ variables_held (take n vs))
held_put n vs v =
    held_joined (take n vs) (v ∷ drop n vs)
    ∙ ap (λ zs. zs ++ variables_held (take n vs)) (held_joined (v ∷ []) (drop n vs))
    ∙ append_assoc (variables_held (drop n vs)) (variable_held v ∷ []) (variables_held (take n vs))

-- ---- parts of lists
take_sum : (a b : ℕ) (vs : List Variable) → take (a + b) vs ≡ take a vs ++ take b (drop a vs)
take_sum a b vs =
    sym (take-append-drop a (take (a + b) vs))
    ∙ ap (λ zs. zs ++ drop a (take (a + b) vs)) (take-take a (a + b) vs (omega arith))
    ∙ ap (λ zs. take a vs ++ zs) (drop-take a b vs)

parted_at : (P Q : List Variable) (heads own : ℕ) → length P ≡ heads → parted heads own (P ++ Q) ≡ record { heads = P; own = take own Q; outer = drop own Q }
parted_at P Q heads own is = rw (take_at P Q heads is) (rw (drop_at P Q heads is) refl)

parted_min : (a b n : ℕ) (vs : List Variable) → length vs ≡ n → parted (min a n) (min b (n - min a n)) vs ≡ parted a b vs
parted_min a b n vs is =
    let rest_is : n - min a n ≡ length (drop a vs) = omega (arith, length-drop a vs, is) in
    rw rest_is
    (rw (sym is)
    (rw (take_min a vs) (rw (drop_min a vs) (rw (take_min b (drop a vs)) (rw (drop_min b (drop a vs)) refl)))))

-- ---- what the code does
pub length_put : (vs : List Named) (n : ℕ) (v : Named) → length (insert vs n v) ≡ length vs + 1
length_put vs n v = omega (arith, length-append (take n vs) (v ∷ drop n vs), length-take n vs, length-drop n vs)

pub own_grown : (h o n more : ℕ) → more ≡ n + 1 → h + o ≤ n → more - h - (n - h - o) ≡ o + 1
own_grown h o n more is within = omega arith

pub declared_held : (h o : ℕ) (vs : List Named) (v : Named) → h + o ≤ length vs → scope_held (insert vs (length vs - h) v) h (o + 1) ≡ declare (scope_held vs h o) (variable_held v)
declared_held h o vs v within =
    let is : length vs - (length vs - h) ≡ h = omega arith in
    ap (λ zs. parted h (o + 1) zs) (held_put (length vs - h) vs v)
    ∙ parted_at (variables_held (drop (length vs - h) vs)) (variable_held v ∷ variables_held (take (length vs - h) vs)) h (o + 1) (length_last (length vs - h) h vs is)
    ∙ rw (add-one o) refl
    ∙ sym (ap (λ (s : Scope). declare s (variable_held v)) (ap (λ zs. parted h o zs) (held_split (length vs - h) vs) ∙ parted_at (variables_held (drop (length vs - h) vs)) (variables_held (take (length vs - h) vs)) h o (length_last (length vs - h) h vs is)))

around : (h o : ℕ) (vs : List Named) → h + o ≤ length vs → variables_held (take (length vs - h - o) vs) ≡ drop o (drop h (variables_held vs))
around h o vs within = held_first (length vs - h - o) (h + o) vs (omega arith) ∙ sym (drop-drop o h (variables_held vs))

length_around : (h o : ℕ) (vs : List Named) → length (drop o (drop h (variables_held vs))) ≡ length vs - h - o
length_around h o vs = omega (arith, length-drop o (drop h (variables_held vs)), length-drop h (variables_held vs), length_held vs)

pub left_held : (h o : ℕ) (vs : List Named) (m : Marks) → h + o ≤ length vs
    → scope_held (take (length vs - h - o) vs) (min m.heads (length vs - h - o)) (min m.own (length vs - h - o - min m.heads (length vs - h - o))) ≡ outside m (scope_held vs h o)
left_held h o vs m within =
    ap (λ zs. parted (min m.heads (length vs - h - o)) (min m.own (length vs - h - o - min m.heads (length vs - h - o))) zs) (around h o vs within)
    ∙ parted_min m.heads m.own (length vs - h - o) (drop o (drop h (variables_held vs))) (length_around h o vs)

pub headed_held : (h o : ℕ) (vs : List Named) (m : Marks)
    → scope_held vs (h + o + min m.heads (length vs - h - o)) (min m.own (length vs - h - o - min m.heads (length vs - h - o))) ≡ as_head m (scope_held vs h o)
headed_held h o vs m =
    let rest_is : Scope = parted (min m.heads (length vs - h - o)) (min m.own (length vs - h - o - min m.heads (length vs - h - o))) (drop o (drop h (variables_held vs))) in
    rw (take_sum (h + o) (min m.heads (length vs - h - o)) (variables_held vs))
    (rw (take_sum h o (variables_held vs))
    (rw (sym (drop-drop (min m.heads (length vs - h - o)) (h + o) (variables_held vs)))
    (rw (sym (drop-drop o h (variables_held vs)))
    (ap (λ (s : Scope). record { heads = take h (variables_held vs) ++ take o (drop h (variables_held vs)) ++ s.heads; own = s.own; outer = s.outer }) (parted_min m.heads m.own (length vs - h - o) (drop o (drop h (variables_held vs))) (length_around h o vs))))))

pub without_heads_held : (h o kept : ℕ) (vs : List Named) → h + o ≤ length vs → scope_held (take (length vs - (h - kept)) vs) (h - (h - kept)) o ≡ behind_heads kept (scope_held vs h o)
without_heads_held h o kept vs within =
    let length_is : length (take h (variables_held vs)) ≡ h = omega (arith, length-take h (variables_held vs), length_held vs) in
    let kept_is : h - kept + (h - (h - kept)) ≡ h = omega arith in
    rw (held_first (length vs - (h - kept)) (h - kept) vs (omega arith))
    (rw length_is
    (rw (drop-drop (h - (h - kept)) (h - kept) (variables_held vs))
    (rw (sym (drop-take (h - kept) (h - (h - kept)) (variables_held vs))) (rw kept_is refl))))

pub own_held : (h o : ℕ) (vs : List Named) → h + o ≤ length vs
    → variables_held (take (length vs - h - (length vs - h - o)) (drop (length vs - h - o) vs)) ≡ take o (drop h (variables_held vs))
own_held h o vs within =
    let own_is : length vs - h - (length vs - h - o) ≡ o = omega arith in
    rw own_is
    (held_first o h (drop (length vs - h - o) vs) (omega (arith, length-drop (length vs - h - o) vs))
    ∙ ap (λ zs. drop h zs) (held_last (length vs - h - o) (h + o) vs (omega arith))
    ∙ drop-take h o (variables_held vs))

-- ---- the variable of a name
found_step : (v : Named) (b : Bool) (rest : Option Named) → option_map variable_held (cond b (Some v) rest) ≡ cond b (Some (variable_held v)) (option_map variable_held rest)
found_step v true rest = refl
found_step v false rest = refl

pub found_held : (name : List ℕ) (vs : List Named) → option_map variable_held (find (λ v. is_same v.name.now name) vs) ≡ find (λ v. is_same v.name name) (map variable_held vs)
found_held name [] = refl
found_held name (v ∷ vs) =
    found_step v (is_same v.name.now name) (find (λ v. is_same v.name.now name) vs)
    ∙ ap (cond (is_same v.name.now name) (Some (variable_held v))) (found_held name vs)
