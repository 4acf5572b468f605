use Rattle.std.proofs.Common.{◌≡◌, ◌∙◌, ◌++◌, List, ℕ, ap, drop, length, refl}
use Rattle.std.specs.Prelude.{codes}
use Rattle.std.proofs.lemmas.Bool.Decides.{Decides-eqb}
use Rattle.std.proofs.lemmas.List.{append_assoc}
use Rattle.std.proofs.lemmas.Slice.Eq.{starts_is}
use Rattle.mc_base.specs.Text.Places.{place_text}
use Rattle.mc_app.proofs.tried.is_at.Goals as goal

pub returns : goal.returns
returns c = λ starts.
    let line = c.args.line.now in
    let front = c.as_slice.result.now in
    let place = place_text c.args.place in
    let rest = drop (length front) line in
    let found : line ≡ front ++ rest = (starts_is Decides-eqb line front c.starts_with.result c.starts_with.ensures.value).0 starts in
    let front_is : front ≡ (codes "alarm at " ++ place) ++ codes " " =
    rw (c.as_slice.ensures.value, c.in_ok-push.ensures.items, c.in_ok-print_place.ensures, c.in_ok-extend_from_slice.ensures.items, c.new-front.ensures.items) refl in
    (rest, found ∙ ap (λ (l : List ℕ). l ++ rest) (front_is ∙ append_assoc (codes "alarm at ") place (codes " ")))
