-- What comes of what premises give.
use Rattle.std.proofs.Common.{◌≡◌, ℕ, Bool, true, false, Option, Some, None, [], Ok, refl, sym, ap, ◌∙◌}
use Rattle.std.specs.Prelude.{◌==◌, ◌&&◌, not, length, slice_get}
use Rattle.std.specs.List.{list_all}
use Rattle.mc_state.specs.Known.{is_false}
use Rattle.mc_state.specs.Lists.{all_both}
use Rattle.mc_state.specs.Named.{are_distinct}
use Rattle.mc_state.specs.Premises.{Judged, need, have, then_give}
use Rattle.mc_kernel.specs.Judges.{are_images, is_known_too, is_edge_at, knows_image, is_whole_too, ends}
use Rattle.mc_check_line.specs.Jump.Fitting.{fitting_to, JumpsAreFits}

-- a premise comes before what comes of the rest
after : {A B : Type 0} (f : A → B) (k : ℕ) (b : Bool) (rest : Judged A) → then_give f (need k b rest) ≡ need k b (then_give f rest)
after f k true rest = refl
after f k false rest = refl

-- rests that are the same for each witness
have_same : {W A : Type 0} (k : ℕ) (o : Option W) (f g : W → Judged A) → ((w : W) → f w ≡ g w) → have k o f ≡ have k o g
have_same k None f g same = refl
have_same k (Some w) f g same = same w

-- a premise, and what comes of the rest
step : {A B : Type 0} (f : A → B) (k : ℕ) (b : Bool) (rest : Judged A) (given : Judged B) → then_give f rest ≡ given → then_give f (need k b rest) ≡ need k b given
step f k b rest given e = after f k b rest ∙ ap (need k b) e

pub jumps_fit : JumpsAreFits
jumps_fit know heads j images ids s =
    ap (need 2 (not (is_false know)))
    (have_same 3 (slice_get heads j) _ (λ t. then_give ends (fitting_to know t images ids s)) (λ t. sym (
    step ends 4 (are_images know s images t) _ _
    (step ends 5 (all_both (is_known_too know images) t.env s.env) _ _
    (step ends 6 (are_distinct ids && length t.graph.edges == length ids) _ _
    (step ends 7 (all_both (is_edge_at know s.graph.edges images) t.graph.edges ids) _ _
    (step ends 8 (list_all (knows_image know images) t.atoms) _ _
    (step ends 9 (is_whole_too s t ids) (Ok tt) (Ok []) refl)))))
    )))
