use Rattle.std.proofs.Common.{◌≡◌, ◌∙◌, ◌++◌, ap, append_assoc, codes, subst, sym}
use Rattle.std.specs.Fmt.{decimal}
use Rattle.mc_run.specs.declared.interpret.ending.Ending.{Ending}
use Rattle.mc_app.specs.Printing.{ending_text}
use Rattle.mc_app.proofs.run_text.print_ending.Goals as goal

pub returns-in_ok-print_number-in-Short : goal.returns-in_ok-print_number-in-Short
returns-in_ok-print_number-in-Short c =
    let number = decimal c.in-Short.number in
    let added = c.in_ok-print_number-in-Short.ensures ∙ ap (λ bytes. bytes ++ number) c.in_ok-extend_from_slice-in-Short.ensures.items in
    subst (λ (e : Ending). c.print_number.new.out.items ≡ c.args.out.now.items ++ ending_text e) (sym c.in-Short.is) (added ∙ append_assoc c.args.out.now.items (codes "script: short at ") number)

pub returns-in_ok-print_number-in-Bad : goal.returns-in_ok-print_number-in-Bad
returns-in_ok-print_number-in-Bad c =
    let number = decimal c.in-Bad.number in
    let added = c.in_ok-print_number-in-Bad.ensures ∙ ap (λ bytes. bytes ++ number) c.in_ok-extend_from_slice-in-Bad.ensures.items in
    subst (λ (e : Ending). c.print_number-in-Bad.new.out.items ≡ c.args.out.now.items ++ ending_text e) (sym c.in-Bad.is) (added ∙ append_assoc c.args.out.now.items (codes "script: bad at ") number)
