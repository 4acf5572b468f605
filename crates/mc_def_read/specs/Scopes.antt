-- The names of a rule, as the judge keeps them.
use Rattle.std.specs.Prelude.{ℕ, List, [], ◌∷◌, ◌++◌, map}
use Rattle.mc_base.specs.declared.plain.Kind.{Kind}
use Rattle.mc_def_read.specs.declared.kept.Scope.{Scope as Kept}
use Rattle.mc_def_read.specs.declared.body.Body.{Body as KeptBody}
use Rattle.mc_def_read.specs.declared.body.Setting.{Setting}
use Rattle.mc_def_read.specs.declared.held.Held.{Held as KeptHeld}
use Rattle.mc_def_read.specs.Judging.{Scope, Context, Body, Held, kinds_of}

-- the names of the definition and of the rule, with their kinds
abbrev pub scope_of : Kept → Scope
scope_of kept = record { names = kept.front.now ++ kept.own; kinds = kept.kinds.items }

-- and one more
abbrev pub with_name : Scope → Kind → List ℕ → Scope
with_name scope kind text = record { names = scope.names ++ text ∷ []; kinds = scope.kinds ++ kind ∷ [] }

-- a rule up to an item
abbrev pub body_of : KeptBody → Body
body_of kept = record { scope = scope_of kept.scope; calls = kept.calls; atoms = kept.atoms }

-- what the rules of a file may speak of
abbrev pub setting_of : Setting → Context
setting_of setting = record {
  structs = setting.structs.now;
  shapes = setting.shapes;
  preds = setting.preds;
  params = map
      (λ d. kinds_of d.head.params) setting.file.now;
}

-- a block up to a content
abbrev pub held_of : KeptHeld → Held
held_of kept = record { names = kept.front.now ++ kept.own; fields = kept.fields.items }
