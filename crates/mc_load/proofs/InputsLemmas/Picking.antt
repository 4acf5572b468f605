-- What is known of one of several cases.
use Rattle.std.proofs.Common.{◌≡◌, ℕ, List, subst}
use Rattle.std.specs.Prelude.{None, IfOk, MatchOption, MatchResult, Some, Option, Result, Ok, Err}
use Rattle.mc_flow.specs.declared.defs.shapes.StructInfo.{StructInfo}
use Rattle.mc_load.specs.declared.read.cause.Refusal.{Refusal}
use Rattle.mc_load.specs.declared.read.cause.ReadFault.{ReadFault}
use Rattle.mc_load.specs.declared.read.cause.ReadFault.TheVariants as reading
use Rattle.mc_load.specs.Read.Refusals.{IsFault, IsRefused}
use Rattle.mc_def_parse.specs.declared.fault.DefFault.{DefFault}
use Rattle.mc_def_parse.specs.declared.fault.DefFault.TheVariants as definitions
use Rattle.mc_def_parse.specs.declared.fault.Refusal.{Refusal as DefRefusal}
use Rattle.mc_def_read.specs.Readings.{ReadsAs, IsFault as IsUnreadAs}

pub at_some : {X : Type 0} (o : Option X) (x : X) (P : Type 0) (Q : X → Type 0) → o ≡ Some x → MatchOption o P Q → Q x
at_some None x P Q e m = cc
at_some (Some y) x P Q e m = let same : y ≡ x = cc in subst Q same m

pub at_ok : {X Y : Type 0} (r : Result X Y) (x : X) (P : X → Type 0) (Q : Y → Type 0) → r ≡ Ok x → MatchResult r P Q → P x
at_ok (Ok y) x P Q e m = let same : y ≡ x = cc in subst P same m
at_ok (Err y) x P Q e m = cc

pub only_ok : {X Y : Type 0} (r : Result X Y) (x : X) (P : X → Type 0) → r ≡ Ok x → IfOk r P → P x
only_ok (Ok y) x P e m = let same : y ≡ x = cc in subst P same m
only_ok (Err y) x P e m = cc

pub at_err : {X Y : Type 0} (r : Result X Y) (y : Y) (P : X → Type 0) (Q : Y → Type 0) → r ≡ Err y → MatchResult r P Q → Q y
at_err (Ok x) y P Q e m = cc
at_err (Err x) y P Q e m = let same : x ≡ y = cc in subst Q same m

pub refused_of : (text name : List ℕ) (told : ReadFault) (refusal : Refusal) → told ≡ reading.Refused refusal → IsFault text name told → IsRefused text name refusal
refused_of text name (reading.Refused other) refusal e is = let same : other ≡ refusal = cc in subst (λ (r : Refusal). IsRefused text name r) same is
refused_of text name reading.NoMemory refusal e is = cc

pub undefined_of : (text : List ℕ) (structs : List StructInfo) (told : DefFault) (refusal : DefRefusal) → told ≡ definitions.Refused refusal → IsUnreadAs text structs told → ReadsAs text structs (Err refusal)
undefined_of text structs (definitions.Refused other) refusal e is = let same : other ≡ refusal = cc in subst (λ (r : DefRefusal). ReadsAs text structs (Err r)) same is
undefined_of text structs definitions.NoMemory refusal e is = cc
