-- A search in which marks are turned into others that do the same: what meets goals, turned, meets the same goals.
use Rattle.std.proofs.Common.{◌≡◌, ℕ, zero, suc, List, [], ◌∷◌, ◌++◌, Bool, ◌&&◌, true, false, Option, Some, None, map, refl, ◌∙◌, ap, subst}
use Rattle.mc_shape_search.specs.Search.Search.{Space, first, applies, is_free}
use Rattle.mc_shape_search.specs.Search.Met.{Leads}
use Rattle.mc_shape_search.specs.Tries.Stack.{branch}
use Rattle.mc_shape_search.specs.Tries.Thin.{StandsFor}
use Rattle.mc_shape_search.proofs.SearchLemmas.Firsts.{first_in, first_out}
use Rattle.mc_shape_search.proofs.SearchLemmas.Tries.{leads_by_try, try_by_leads, AreListed}

and_parts : (a b : Bool) → (a && b) ≡ true → (a ≡ true) × (b ≡ true)
and_parts true b e = (refl, e)
and_parts false b e = cc

and_both : (a b : Bool) → a ≡ true → b ≡ true → (a && b) ≡ true
and_both true b e f = f
and_both false b e f = cc

map_last : {M : Type 0} (f : M → M) (log : List M) (m : M) → map f (log ++ m ∷ []) ≡ map f log ++ f m ∷ []
map_last f [] m = refl
map_last f (x ∷ log) m = ap (λ l. f x ∷ l) (map_last f log m)

-- goals of two lists go together, one by one
abbrev pub AllGo : {G : Type 0} → (G → G → Type 0) → List G → List G → Type 0
AllGo R [] [] = Unit {0}
AllGo R [] (h ∷ hs) = ⊥
AllGo R (g ∷ gs) [] = ⊥
AllGo R (g ∷ gs) (h ∷ hs) = R g h × AllGo R gs hs

pub all_go_self : {G : Type 0} (R : G → G → Type 0) → ((g : G) → R g g) → (gs : List G) → AllGo R gs gs
all_go_self R self [] = tt
all_go_self R self (g ∷ gs) = (self g, all_go_self R self gs)

all_go_both : {G : Type 0} (R : G → G → Type 0) (gs hs is js : List G) → AllGo R gs hs → AllGo R is js → AllGo R (gs ++ is) (hs ++ js)
all_go_both R [] [] is js a b = b
all_go_both R [] (h ∷ hs) is js a b = absurd a
all_go_both R (g ∷ gs) [] is js a b = absurd a
all_go_both R (g ∷ gs) (h ∷ hs) is js a b = (a.0, all_go_both R gs hs is js a.1 b)

module _ {G M : Type 0} (w : Space G M) (R : G → G → Type 0) (turn : M → M) where
  -- a turned mark does for a goal what the mark does for one that goes with it
  pub record Turns : Type 0 where
    pub listed : AreListed w
    pub fits : (g h : G) (m : M) → R g h → w.fits g m ≡ true → w.fits h (turn m) ≡ true
    pub calls : (g h : G) (m : M) → R g h → w.fits g m ≡ true → AllGo R (w.calls g m) (w.calls h (turn m))
    pub free : (log : List M) (m : M) → is_free w.takes log m ≡ true → is_free w.takes (map turn log) (turn m) ≡ true
    pub ends : (log : List M) → w.ends log ≡ true → w.ends (map turn log) ≡ true

  module _ (t : Turns) where
    turned_applies : (g h : G) (log : List M) (m : M) → R g h → applies w g log m ≡ true → applies w h (map turn log) (turn m) ≡ true
    turned_applies g h log m r a =
        let both = and_parts (w.fits g m) (is_free w.takes log m) a in
        and_both (w.fits h (turn m)) (is_free w.takes (map turn log) (turn m)) (t.fits g h m r both.0) (t.free log m both.1)

    turned_leads : (n : ℕ) (gs hs : List G) (log after : List M) → AllGo R gs hs → Leads w n gs log after → Leads w n hs (map turn log) (map turn after)
    turned_leads zero [] [] log after r l = (ap (map turn) l.0, t.ends log l.1)
    turned_leads (suc n) [] [] log after r l = (ap (map turn) l.0, t.ends log l.1)
    turned_leads n [] (h ∷ hs) log after r l = absurd r
    turned_leads n (g ∷ gs) [] log after r l = absurd r
    turned_leads zero (g ∷ gs) (h ∷ hs) log after r l = elim l [ ]
    turned_leads (suc n) (g ∷ gs) (h ∷ hs) log after r (m, i, a, l) =
        let both = and_parts (w.fits g m) (is_free w.takes log m) a in
        let b = turned_applies g h log m r.0 a in
        let on = turned_leads n (w.calls g m ++ gs) (w.calls h (turn m) ++ hs) (log ++ m ∷ []) after (all_go_both R (w.calls g m) (w.calls h (turn m)) gs hs (t.calls g h m r.0 both.0) r.1) l in
        (turn m, t.listed h (map turn log) (turn m) b, b, subst (λ l. Leads w n (w.calls h (turn m) ++ hs) l (map turn after)) (map_last turn log m) on)

    -- a mark stands for the one that is turned into it, where nothing else is turned
    pub turned_stands : ((g : G) → R g g) → (one other : M) → turn other ≡ one → ((log : List M) → is_free w.takes log one ≡ true → is_free w.takes log other ≡ true → map turn log ≡ log) → StandsFor w one other
    turned_stands self one other is same n g gs log free app = (here, λ none. at none (first (branch w n g gs log other)) refl)
      where
        parts : (w.fits g other ≡ true) × (is_free w.takes log other ≡ true)
        parts = and_parts (w.fits g other) (is_free w.takes log other) app

        here : applies w g log one ≡ true
        here = and_both (w.fits g one) (is_free w.takes log one) (subst (λ m. w.fits g m ≡ true) is (t.fits g g other (self g) parts.0)) free

        still : map turn log ≡ log
        still = same log free parts.1

        on : (after : List M) → Leads w n (w.calls g other ++ gs) (log ++ other ∷ []) after → Leads w n (w.calls g one ++ gs) (log ++ one ∷ []) (map turn after)
        on after l =
            let far = turned_leads n (w.calls g other ++ gs) (w.calls g (turn other) ++ gs) (log ++ other ∷ []) after (all_go_both R (w.calls g other) (w.calls g (turn other)) gs gs (t.calls g g other (self g) parts.0) (all_go_self R self gs)) l in
            let front : map turn (log ++ other ∷ []) ≡ log ++ turn other ∷ [] = map_last turn log other ∙ ap (λ l. l ++ turn other ∷ []) still in
            let near : Leads w n (w.calls g (turn other) ++ gs) (log ++ turn other ∷ []) (map turn after) = subst (λ l. Leads w n (w.calls g (turn other) ++ gs) l (map turn after)) front far in
            subst (λ m. Leads w n (w.calls g m ++ gs) (log ++ m ∷ []) (map turn after)) is near

        at : first (branch w n g gs log one) ≡ None → (o : Option (List M)) → first (branch w n g gs log other) ≡ o → first (branch w n g gs log other) ≡ None
        at none None e = e
        at none (Some after) e =
            absurd (first_out (branch w n g gs log one) (map turn after) none
            (try_by_leads w n (w.calls g one ++ gs) (log ++ one ∷ []) (map turn after)
            (on after (leads_by_try w n (w.calls g other ++ gs) (log ++ other ∷ []) after (first_in (branch w n g gs log other) after e)))))
