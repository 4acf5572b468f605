use Rattle.std.proofs.Common.{◌≡◌, ◌++◌, ◌∷◌, [], refl}
use Rattle.std.specs.Prelude.{codes}
use Rattle.mc_lines.specs.Cert.Lines.{lines_of}
use Rattle.mc_app.proofs.Shown.{adds_nothing, so_far_last, so_far_next}
use Rattle.mc_app.proofs.tried.shown.Goals as goal

pub loop-line-preserved-in_ok-push_found : goal.loop-line-preserved-in_ok-push_found
loop-line-preserved-in_ok-push_found c =
    let text = c.loop-line.text.items in
    let line = c.in-Some.line.now in
    let before = c.push.new.self.items in
    let lines : lines_of c.loop-line.rest.now ≡ line ∷ lines_of c.in-Some.behind.now = c.in-Some.ensures.lines in
    let before_is : before ≡ (text ++ line) ++ codes "\n" = rw (c.in_ok-push.ensures.items, c.in_ok-extend_from_slice.ensures.items) refl in
    so_far_next c.args.report.now c.args.found.now text c.loop-line.rest.now line c.in-Some.behind.now before c.push_found.new.out.items c.loop-line.invariant lines before_is c.in_ok-push_found.ensures

pub loop-line-preserved : goal.loop-line-preserved
loop-line-preserved c =
    let text = c.loop-line.text.items in
    let line = c.in-Some.line.now in
    let before = c.push.new.self.items in
    let lines : lines_of c.loop-line.rest.now ≡ line ∷ lines_of c.in-Some.behind.now = c.in-Some.ensures.lines in
    let before_is : before ≡ (text ++ line) ++ codes "\n" = rw (c.in_ok-push.ensures.items, c.in_ok-extend_from_slice.ensures.items) refl in
    so_far_next c.args.report.now c.args.found.now text c.loop-line.rest.now line c.in-Some.behind.now before before c.loop-line.invariant lines before_is
    (adds_nothing c.args.found.now line before before refl)

pub returns : goal.returns
returns c =
    let none : lines_of c.loop-line.rest.now ≡ [] = c.in_default.ensures.lines in
    so_far_last c.args.report.now c.args.found.now c.loop-line.text.items c.loop-line.rest.now c.loop-line.invariant none
