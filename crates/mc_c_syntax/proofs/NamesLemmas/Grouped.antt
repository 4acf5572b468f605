-- The items of names, where one more is added.
use Rattle.std.proofs.Common.{◌≡◌, ℕ, List, [], ◌∷◌, ◌++◌, refl, ap, sym, subst, ◌∙◌, Bool, true, false, cond, Bor}
use Rattle.std.proofs.lemmas.List.{append-nil}
use Rattle.std.specs.Prelude.{Some}
use Rattle.std.specs.declared.vec.Vec.{Vec}
use Rattle.indexmap.specs.IndexMap.{IndexMap, UpdatesBy, get_by}
use Rattle.mc_c_syntax.specs.Ast.Names.{is_same}
use Rattle.mc_c_syntax.specs.Names.Grouped.{Adds, Stays, items_of, items_at}
use Rattle.mc_c_syntax.proofs.NamesLemmas.Firsts.{same_is}

nothing_more : {X : Type 0} (b : Bool) (xs : List X) → xs ++ cond b [] [] ≡ xs
nothing_more true xs = append-nil xs
nothing_more false xs = append-nil xs

module _ {X Z S : Type 0} where
  -- a name that is the same has the same items
  same_items : (groups : IndexMap (Bor (List ℕ)) (Vec X Z) S) (name other : List ℕ) (b : Bool) (group : Vec X Z) (more : List X) → is_same name other ≡ b
      → group.items ≡ items_at groups name ++ more → items_of (cond b (Some group) (get_by (λ key. is_same other key.now) groups)) ≡ items_at groups other ++ cond b more []
  same_items groups name other false group more same is = sym (append-nil (items_at groups other))
  same_items groups name other true group more same is = is ∙ ap (λ n. items_at groups n ++ more) (same_is name other same)

  -- the group of a name is put with these items more
  abbrev pub Puts : IndexMap (Bor (List ℕ)) (Vec X Z) S → IndexMap (Bor (List ℕ)) (Vec X Z) S → Bor (List ℕ) → Vec X Z → Type 0
  Puts before after key group = UpdatesBy (λ k l. is_same k.now l.now) (λ k. is_same key.now k.now) before after (Some group)

  pub Adds-put : (before after : IndexMap (Bor (List ℕ)) (Vec X Z) S) (key : Bor (List ℕ)) (named : List ℕ) (group : Vec X Z) (item : X)
      → key.now ≡ named → group.items ≡ items_at before key.now ++ item ∷ [] → Puts before after key group → Adds before after named item
  Adds-put before after key named group item is holds updates other =
      subst (λ n. items_at after other ≡ items_at before other ++ cond (is_same n other) (item ∷ []) []) is
      (ap items_of (updates.0 (record { ref_ptr = key.ref_ptr; now = other })) ∙ same_items before key.now other (is_same key.now other) group (item ∷ []) refl holds)

  pub Stays-put : (before after : IndexMap (Bor (List ℕ)) (Vec X Z) S) (key : Bor (List ℕ)) (group : Vec X Z) → group.items ≡ items_at before key.now → Puts before after key group → Stays before after
  Stays-put before after key group holds updates other =
      ap items_of (updates.0 (record { ref_ptr = key.ref_ptr; now = other }))
      ∙ same_items before key.now other (is_same key.now other) group [] refl (holds ∙ sym (append-nil (items_at before key.now)))
      ∙ nothing_more (is_same key.now other) (items_at before other)
