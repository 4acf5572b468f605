-- A fault of a part is the fault of the whole.
use Rattle.std.proofs.Common.{◌≡◌, ℕ, List, sym, subst}
use Rattle.std.specs.Prelude.{Result, Ok, Err, IsErrAnd}
use Rattle.serde_json.specs.Data.{Data}
use Rattle.mc_lines.specs.declared.cert.fault.LineFault.{LineFault}
use Rattle.mc_lines.specs.declared.cert.fault.LineFault.TheVariants.{NotJson, Form, Version, NoMemory}
use Rattle.mc_lines.specs.Cert.Entries.{named_data}
use Rattle.mc_lines.specs.Cert.Reads.{Reads}

pub pass_on : {D T E U : Type 0} (spelled : T → D) (fits : T → Type 0) (d : D) (whole : U → E) (suits : U → Type 0) (w : E) → ((y : U) → suits y → w ≡ whole y → (x : T) × fits x × (d ≡ spelled x)) → (e : LineFault) → Reads spelled fits d (Err e) → Reads whole suits w (Err e)
pass_on spelled fits d whole suits w within NotJson r = r
pass_on spelled fits d whole suits w within Form r = λ y f e. let x = within y f e in r x.0 x.1 x.2
pass_on spelled fits d whole suits w within Version r = r
pass_on spelled fits d whole suits w within NoMemory r = r

-- whatever is spelled so has a part of that kind
pub fault_of_part : {D T E U : Type 0} (spelled : T → D) (fits : T → Type 0) (d : D) (whole : U → E) (suits : U → Type 0) (w : E) → ((y : U) → suits y → w ≡ whole y → (x : T) × fits x × (d ≡ spelled x)) → (e : LineFault) → Reads spelled fits d (Err e) → (r : Result U LineFault) → IsErrAnd r (λ x. x ≡ e) → Reads whole suits w r
fault_of_part spelled fits d whole suits w within e fault (Ok x) is = absurd is
fault_of_part spelled fits d whole suits w within e fault (Err f) is =
    subst (λ g. Reads whole suits w (Err g)) (sym is) (pass_on spelled fits d whole suits w within e fault)

-- the same of an array that begins with a name
pub fault_of_form : {D T U : Type 0} (spelled : T → D) (fits : T → Type 0) (d : D) (whole : U → Data) (suits : U → Type 0) (s t : List ℕ) (ds : List Data) → s ≡ t → ((y : U) → suits y → named_data t ds ≡ whole y → (x : T) × fits x × (d ≡ spelled x)) → (e : LineFault) → Reads spelled fits d (Err e) → (r : Result U LineFault) → IsErrAnd r (λ x. x ≡ e) → Reads whole suits (named_data s ds) r
fault_of_form spelled fits d whole suits s t ds same within e fault r is =
    subst (λ n. Reads whole suits (named_data n ds) r) (sym same) (fault_of_part spelled fits d whole suits (named_data t ds) within e fault r is)
