-- Predicates with back positions and without.
use Rattle.std.specs.Prelude.{ℕ, pos, false, Some, None, List, [], ◌∷◌, codes}
use Rattle.mc_base.specs.declared.ids.PredId.{PredId}
use Rattle.mc_base.specs.declared.plain.Kind.TheVariants.{Int, Ptr}
use Rattle.mc_flow.specs.declared.defs.rules.Def.{Def}
use Rattle.mc_flow.specs.declared.defs.rules.DefAtom.TheVariants.{Eq}
use Rattle.mc_flow.specs.declared.defs.rules.Rule.{Rule}
use Rattle.mc_flow.specs.Defs.Examples.{cell_id}

-- the predicate with a number
abbrev pub predicate : ℕ → PredId
predicate n = record { 0 = n }

-- with a parameter ptr p: rule { this = 0; }
abbrev pub end_rule : Rule
end_rule = record { block = None; contents = []; names = Ptr ∷ Ptr ∷ []; calls = []; atoms = Eq 0 None (pos 0) false ∷ [] }

-- rule { this->cell { data: d, next: n }; P(n, a); } for a predicate and a name as argument
abbrev pub cell_rule : ℕ → ℕ → Rule
cell_rule pred name =
    record {
      block = Some cell_id;
      contents = 2 ∷ 3 ∷ [];
      names = Ptr ∷ Ptr ∷ Int ∷ Ptr ∷ [];
      calls = record { pred = predicate pred; at = 3; args = name ∷ [] } ∷ [];
      atoms = [];
    }

-- predicate 0 passes `this` on, as the node before; 1 passes its parameter on; 2 calls 1 alone
abbrev pub defs : List Def
defs =
    record { name = codes "back"; params = Ptr ∷ []; rules = end_rule ∷ cell_rule 0 0 ∷ [] }
    ∷ record { name = codes "same"; params = Ptr ∷ []; rules = end_rule ∷ cell_rule 1 1 ∷ [] }
    ∷ record { name = codes "other"; params = Ptr ∷ []; rules = cell_rule 1 1 ∷ [] }
    ∷ []
