-- The example's definitions fit their structs, and its segment stands in a well-made state.
use Rattle.std.proofs.Common.{◌≡◌, [], ◌∷◌, refl, sym, subst, arith, inr}
use Rattle.std.specs.Prelude.{All}
use Rattle.mc_base.specs.declared.plain.Kind.TheVariants.{Ptr}
use Rattle.mc_flow.specs.declared.defs.rules.Def.{Def}
use Rattle.mc_flow.specs.declared.defs.rules.Rule.{Rule}
use Rattle.mc_flow.specs.Defs.Conditions.{CallFits, RuleFitsStructs, DefFits, DefsFit}
use Rattle.mc_state.specs.Fits.{IsWellMade}
use Rattle.mc_rules_logic.specs.Back.Examples.{structs, dlls, dll_def, same_def, null_rule, node_rule, same_rule, dll_segment}
use Rattle.mc_rules_logic.proofs.BackLemmas.ExampleStates.{bounded_segment}
use Rattle.mc_flow.proofs.DefsLemmas.SomeStructs.{all_cons, all_nil}

null_fits : RuleFitsStructs structs dlls (Ptr ∷ []) null_rule
null_fits =
    record {
      block = refl;
      fits = record {
        names = record { front = refl; contents = refl; atoms = ((Ptr, (omega arith, refl), (tt, refl)), refl) };
        guarded = λ e. refl;
        calls = all_nil (CallFits dlls null_rule.names);
      };
    }

node_fits : RuleFitsStructs structs dlls (Ptr ∷ []) node_rule
node_fits =
    record {
      block = refl;
      fits = record {
        names = record { front = refl; contents = refl; atoms = ((Ptr, (omega arith, refl), ((omega arith, refl), refl)), refl) };
        guarded = λ e. cc;
        calls = all_cons (CallFits dlls node_rule.names) _ [] (record { def = dll_def; defined = refl; pointer = refl; args = refl }) (all_nil (CallFits dlls node_rule.names));
      };
    }

same_fits : RuleFitsStructs structs dlls (Ptr ∷ []) same_rule
same_fits =
    record {
      block = refl;
      fits = record {
        names = record { front = refl; contents = refl; atoms = refl };
        guarded = λ e. cc;
        calls = all_cons (CallFits dlls same_rule.names) _ [] (record { def = same_def; defined = refl; pointer = refl; args = refl }) (all_nil (CallFits dlls same_rule.names));
      };
    }

def_fits : (def : Def) (first second : Rule) → def.rules ≡ first ∷ second ∷ [] → RuleFitsStructs structs dlls def.params first → RuleFitsStructs structs dlls def.params second → DefFits structs dlls def
def_fits def first second e f g =
    let fits = RuleFitsStructs structs dlls def.params in
    record {
      some = λ none. cc;
      rules = subst (All fits) (sym e) (all_cons fits first (second ∷ []) f (all_cons fits second [] g (all_nil fits)));
    }

pub dlls_fit : DefsFit structs dlls
dlls_fit =
    all_cons (DefFits structs dlls) dll_def (same_def ∷ []) (def_fits dll_def null_rule node_rule refl null_fits node_fits)
    (all_cons (DefFits structs dlls) same_def [] (def_fits same_def null_rule same_rule refl null_fits same_fits) (all_nil (DefFits structs dlls)))

pub made_segment : IsWellMade dlls [] structs dll_segment
made_segment =
    record {
      bounded = bounded_segment;
      atoms = tt;
      fits_defs = ((inr refl, (dll_def, refl, (inr refl, tt)), inr refl, (dll_def, refl, (inr refl, tt))), tt);
      fits_program = record { vars_fit = tt; blocks_fit = (tt, tt) };
    }
