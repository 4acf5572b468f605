-- What the lowering of a statement rests on: the program, and what was made by then.
use Rattle.std.specs.Prelude.{◌≡◌, ◌<◌, ◌++◌, ℕ, suc, List, [], ◌∷◌, Option, Some, None, Contains, length}
use Rattle.mc_flow.specs.declared.defs.shapes.Structs.{Structs}
use Rattle.mc_semantics.specs.declared.resolved.program.Resolved.{Resolved}
use Rattle.mc_lower.specs.declared.builder.Builder.{Builder}
use Rattle.mc_lower.specs.declared.builder.Label.{Label}
use Rattle.mc_lower.specs.declared.lines.Awaited.{Awaited}
use Rattle.mc_lower.specs.declared.variables.Owner.{Owner as OwnerCode}
use Rattle.mc_lower.specs.declared.variables.Variable.{Variable}

-- what is lowered
pub record Source : Type 0 where
  pub program : Resolved
  pub structs : Structs

-- the owners of the variables that are no temporaries, and how many blocks and occurrences of functions there are
pub record State : Type 0 where
  pub owners : List OwnerCode
  pub blocks : ℕ
  pub occurrences : ℕ

-- what is lowered, what was made by then, and the labels that wait, the next one first
pub record Known : Type 0 where
  pub source : Source
  pub state : State
  pub waiting : List Awaited

-- a temporary is no one's for long
abbrev pub lasting : OwnerCode → List OwnerCode
lasting (OwnerCode.Local i x) = OwnerCode.Local i x ∷ []
lasting (OwnerCode.Result i) = OwnerCode.Result i ∷ []
lasting (OwnerCode.Temporary j kind) = []

abbrev pub owners_of : List Variable → List OwnerCode
owners_of [] = []
owners_of (v ∷ vs) = lasting v.owner ++ owners_of vs

abbrev pub known : Builder → Known
known b =
    record {
      source = record { program = b.program.now; structs = b.structs.now };
      state =
          record {
            owners = owners_of b.variables.list.items;
            blocks = length b.blocks.items;
            occurrences = length b.lines.outs.items;
          };
      waiting = b.lines.waiting;
    }

abbrev pub nothing_known : Resolved → Structs → Known
nothing_known program structs =
    record {
      source = record { program = program; structs = structs };
      state = record { owners = []; blocks = 0; occurrences = 0 };
      waiting = [];
    }

-- the same is known
abbrev pub Keeps : Builder → Builder → Type 0
Keeps old new = known new ≡ known old

-- ---- what is made
abbrev pub with_owners : List OwnerCode → Known → Known
with_owners os k =
    record {
      source = k.source;
      state =
          record { owners = k.state.owners ++ os; blocks = k.state.blocks; occurrences = k.state.occurrences };
      waiting = k.waiting;
    }

abbrev pub with_local : (i x : ℕ) → Known → Known
with_local i x k = with_owners (OwnerCode.Local i x ∷ []) k

abbrev pub with_result : ℕ → Known → Known
with_result i k = with_owners (OwnerCode.Result i ∷ []) k

abbrev pub with_block : Known → Known
with_block k =
    record {
      source = k.source;
      state =
          record { owners = k.state.owners; blocks = suc k.state.blocks; occurrences = k.state.occurrences };
      waiting = k.waiting;
    }

-- where its `return` goes waits first
abbrev pub with_occurrence : Known → Known
with_occurrence k =
    record {
      source = k.source;
      state =
          record { owners = k.state.owners; blocks = k.state.blocks; occurrences = suc k.state.occurrences };
      waiting = Awaited.Out k.state.occurrences ∷ k.waiting;
    }

-- ---- labels that wait
abbrev pub with_next : Awaited → Known → Known
with_next a k = record { source = k.source; state = k.state; waiting = a ∷ k.waiting }

abbrev pub with_label : Label → Known → Known
with_label l k = with_next (Awaited.Goal l) k

abbrev pub with_all : List Awaited → Known → Known
with_all [] k = k
with_all (a ∷ more) k = with_next a (with_all more k)

-- a label waits first
abbrev pub Waits : Known → Type 0
Waits k = (l : Label) × (m : Known) × (k ≡ with_label l m)

-- ---- what is there
-- a variable of an occurrence of a function is made
abbrev pub IsThere : Known → (i x : ℕ) → Type 0
IsThere k i x = Contains k.state.owners (OwnerCode.Local i x)

-- the result of an occurrence is made
abbrev pub IsAnswered : Known → ℕ → Type 0
IsAnswered k i = Contains k.state.owners (OwnerCode.Result i)

-- the block, if any, is there
abbrev pub IsOpen : Known → Option ℕ → Type 0
IsOpen k None = Unit {0}
IsOpen k (Some i) = i < k.state.blocks

-- what is owned is of an occurrence that there is
abbrev pub IsWithin : ℕ → OwnerCode → Type 0
IsWithin n (OwnerCode.Local i x) = i < n
IsWithin n (OwnerCode.Result i) = i < n
IsWithin n (OwnerCode.Temporary j kind) = Unit {0}

abbrev pub IsBounded : State → Type 0
IsBounded s = (o : OwnerCode) → Contains s.owners o → IsWithin s.occurrences o
