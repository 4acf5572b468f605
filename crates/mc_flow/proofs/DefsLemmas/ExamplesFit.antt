-- The examples' definitions fit their structs.
use Rattle.std.proofs.Common.{◌≡◌, [], ◌∷◌, refl, sym, subst, arith}
use Rattle.std.specs.Prelude.{All}
use Rattle.std.proofs.lemmas.Int.{ints}
use Rattle.mc_base.specs.declared.plain.Kind.TheVariants.{Int, Ptr}
use Rattle.mc_flow.specs.declared.defs.rules.Call.{Call}
use Rattle.mc_flow.specs.declared.defs.rules.Def.{Def}
use Rattle.mc_flow.specs.declared.defs.rules.Rule.{Rule}
use Rattle.mc_flow.specs.Defs.Conditions.{CallFits, RuleFitsStructs, DefFits, DefsFit}
use Rattle.mc_flow.specs.Defs.Examples.{structs, defs, tree_id, null_rule, list_rule, no_length_rule, lenlist_rule, tree_rule, list_def, lenlist_def, tree_def}
use Rattle.mc_flow.proofs.DefsLemmas.SomeStructs.{all_nil, all_cons}

null_fits : RuleFitsStructs structs defs [] null_rule
null_fits =
    record {
      block = refl;
      fits = record {
        names = record { front = refl; contents = refl; atoms = ((Ptr, (omega arith, refl), (tt, refl)), refl) };
        guarded = λ e. refl;
        calls = all_nil (CallFits defs null_rule.names);
      };
    }

list_fits : RuleFitsStructs structs defs [] list_rule
list_fits =
    record {
      block = refl;
      fits = record {
        names = record { front = refl; contents = refl; atoms = refl };
        guarded = λ e. cc;
        calls = all_cons (CallFits defs list_rule.names) _ [] (record { def = list_def; defined = refl; pointer = refl; args = refl }) (all_nil (CallFits defs list_rule.names));
      };
    }

no_length_fits : RuleFitsStructs structs defs (Int ∷ []) no_length_rule
no_length_fits =
    record {
      block = refl;
      fits = record {
        names = record {
          front = refl;
          contents = refl;
          atoms = ((Ptr, (omega arith, refl), (tt, refl)), ((Int, (omega arith, refl), (tt, (omega (arith, ints), omega (arith, ints)))), refl));
        };
        guarded = λ e. refl;
        calls = all_nil (CallFits defs no_length_rule.names);
      };
    }

lenlist_fits : RuleFitsStructs structs defs (Int ∷ []) lenlist_rule
lenlist_fits =
    record {
      block = refl;
      fits = record {
        names = record { front = refl; contents = refl; atoms = ((Int, refl, refl, ((omega arith, refl), (omega (arith, ints), omega (arith, ints)))), refl) };
        guarded = λ e. cc;
        calls = all_cons (CallFits defs lenlist_rule.names) _ [] (record { def = lenlist_def; defined = refl; pointer = refl; args = refl }) (all_nil (CallFits defs lenlist_rule.names));
      };
    }

tree_fits : RuleFitsStructs structs defs [] tree_rule
tree_fits =
    let left : Call = record { pred = tree_id; at = 1; args = [] } in
    let right : Call = record { pred = tree_id; at = 2; args = [] } in
    record {
      block = refl;
      fits = record {
        names = record { front = refl; contents = refl; atoms = refl };
        guarded = λ e. cc;
        calls = all_cons (CallFits defs tree_rule.names) left (right ∷ []) (record { def = tree_def; defined = refl; pointer = refl; args = refl })
            (all_cons (CallFits defs tree_rule.names) right [] (record { def = tree_def; defined = refl; pointer = refl; args = refl }) (all_nil (CallFits defs tree_rule.names)));
      };
    }

def_fits : (def : Def) (first second : Rule) → def.rules ≡ first ∷ second ∷ [] → RuleFitsStructs structs defs def.params first → RuleFitsStructs structs defs def.params second → DefFits structs defs def
def_fits def first second e f g =
    let fits = RuleFitsStructs structs defs def.params in
    record {
      some = λ none. cc;
      rules = subst (All fits) (sym e) (all_cons fits first (second ∷ []) f (all_cons fits second [] g (all_nil fits)));
    }

pub examples_fit : DefsFit structs defs
examples_fit =
    all_cons (DefFits structs defs) list_def (lenlist_def ∷ tree_def ∷ []) (def_fits list_def null_rule list_rule refl null_fits list_fits)
    (all_cons (DefFits structs defs) lenlist_def (tree_def ∷ []) (def_fits lenlist_def no_length_rule lenlist_rule refl no_length_fits lenlist_fits)
    (all_cons (DefFits structs defs) tree_def [] (def_fits tree_def null_rule tree_rule refl null_fits tree_fits) (all_nil (DefFits structs defs))))
