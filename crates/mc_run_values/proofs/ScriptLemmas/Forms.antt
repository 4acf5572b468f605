-- Which line an array can be the line of, by its name and the number of its entries.
use Rattle.std.proofs.Common.{◌≡◌, ◌≢◌, ◌∙◌, ℕ, ℤ, List, [], ◌∷◌, ◌≤◌, String, Global, length, lit≤, refl}
use Rattle.std.specs.Prelude.{codes, string_bytes}
use Rattle.std.specs.Str.{bytes_eq}
use Rattle.serde_json.specs.Data.{Data}
use Rattle.mc_lines.specs.Cert.Entries.{count_data, list_data, named_data, signed_data, values_data, word_data}
use Rattle.mc_run_values.specs.declared.script.line.NamedBlock.{NamedBlock}
use Rattle.mc_run_values.specs.declared.script.line.ScriptLine.{ScriptLine}
use Rattle.mc_run_values.specs.declared.script.line.ScriptLine.TheVariants.{Input, Malloc, Shape}
use Rattle.mc_run_values.specs.Script.Lines.{block_data, line_data}
use Rattle.mc_lines.proofs.CertLemmas.Arrays.{Either, OfNamed, form_of, values_in, values_once}

-- what a line with this name and these entries is
abbrev pub IsForm : List ℕ → List Data → ScriptLine → Type 0
IsForm s [] l = ⊥
IsForm s (a ∷ []) l =
    Either (bytes_eq s (codes "input")) ((v : ℤ) × (l ≡ Input v) × (a ≡ signed_data v))
    (Either (bytes_eq s (codes "malloc")) ((n : ℕ) × (l ≡ Malloc n) × (a ≡ count_data n)) ⊥)
IsForm s (a ∷ b ∷ []) l =
    Either (bytes_eq s (codes "shape")) ((v : ℤ) × (blocks : List NamedBlock) × (l ≡ Shape v blocks) × (a ∷ b ∷ [] ≡ signed_data v ∷ list_data block_data blocks ∷ [])) ⊥
IsForm s (a ∷ b ∷ c ∷ more) l = ⊥

own : (l : ScriptLine) → OfNamed (λ s ds. IsForm s ds l) (values_in (line_data l))
own (Input v) = (v, refl, refl)
own (Malloc n) = (n, refl, refl)
own (Shape v blocks) = (v, blocks, refl, refl)

-- a line whose array has this name and these entries
pub line_form : (s : List ℕ) (ds : List Data) (l : ScriptLine) → named_data s ds ≡ line_data l → IsForm s ds l
line_form s ds l e = form_of line_data IsForm own s ds l e

-- one or two entries
pub line_length : (s : List ℕ) (ds : List Data) (l : ScriptLine) → named_data s ds ≡ line_data l → (1 ≤ length ds) × (length ds ≤ 2)
line_length s ds l e = within ds (line_form s ds l e)
  where
    within : (ds : List Data) → IsForm s ds l → (1 ≤ length ds) × (length ds ≤ 2)
    within [] h = absurd h
    within (a ∷ []) h = (lit≤ tt, lit≤ tt)
    within (a ∷ b ∷ []) h = (lit≤ tt, lit≤ tt)
    within (a ∷ b ∷ c ∷ more) h = absurd h

-- each is an array that begins with a name
pub no_line : (d : Data) → ((s : List ℕ) (ds : List Data) → d ≢ named_data s ds) → (l : ScriptLine) → d ≢ line_data l
no_line d none (Input v) e = none (codes "input") (signed_data v ∷ []) e
no_line d none (Malloc n) e = none (codes "malloc") (count_data n ∷ []) e
no_line d none (Shape v blocks) e = none (codes "shape") (signed_data v ∷ list_data block_data blocks ∷ []) e

-- the parts of a block
abbrev pub block_parts : (ℕ × (String Global) × (List ℤ)) → List Data
block_parts x = count_data x.0 ∷ word_data (string_bytes x.1) ∷ list_data signed_data x.2 ∷ []

-- the entries of a block
pub block_entries : (ds : List Data) (b : NamedBlock) → values_data ds ≡ block_data b → ds ≡ count_data b.address ∷ word_data (string_bytes b.shape) ∷ list_data signed_data b.fields ∷ []
block_entries ds b e = values_once ds (count_data b.address ∷ word_data (string_bytes b.shape) ∷ list_data signed_data b.fields ∷ []) e

-- each is an array
pub no_block : (d : Data) → ((ds : List Data) → d ≢ values_data ds) → (b : NamedBlock) → d ≢ block_data b
no_block d none b e = none (count_data b.address ∷ word_data (string_bytes b.shape) ∷ list_data signed_data b.fields ∷ []) e
