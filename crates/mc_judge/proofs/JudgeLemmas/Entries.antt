-- The entries of lines after their names.
use Rattle.std.proofs.Common.{◌≡◌, ℕ, List, [], ◌∷◌}
use Rattle.serde_json.specs.Data.{Data}
use Rattle.mc_lines.specs.declared.cert.line.Line.{Line}
use Rattle.mc_lines.specs.declared.cert.line.Line.TheVariants.{Header, Cut, Head, Pass, End, Step, L1, L2, L3, L4, L5, L6, L7, L8, L9, L10}
use Rattle.mc_lines.specs.declared.cert.line.Line.TheVariants.{L11, L12, L13, L14, L15, C1, C2, C3}
use Rattle.mc_lines.specs.Cert.Entries.{count_data, edge_id_data, form_data, ind_entries, kind_data, list_data}
use Rattle.mc_lines.specs.Cert.Entries.{named_data, node_data, point_data, pred_data, seg_entries, signed_data}
use Rattle.mc_lines.specs.Cert.Entries.{state_data, step_data, version_data}
use Rattle.mc_lines.specs.Cert.Document.{data_of}
use Rattle.mc_judge.specs.Judge.Verdicts.{IsNamed}

-- what stands after the name
abbrev pub entries : Line → List Data
entries (Header version form) = version_data version ∷ form_data form ∷ []
entries (Cut p) = point_data p ∷ []
entries (Head p raw) = point_data p ∷ state_data raw ∷ []
entries Pass = []
entries End = []
entries (Step rule) = []
entries (L1 e) = edge_id_data e ∷ []
entries (L2 e) = edge_id_data e ∷ []
entries (L3 fold) = ind_entries fold
entries (L4 fold) = seg_entries fold
entries (L5 i j) = edge_id_data i ∷ edge_id_data j ∷ []
entries (L6 i j) = edge_id_data i ∷ edge_id_data j ∷ []
entries (L7 pred a args b ends) = pred_data pred ∷ node_data a ∷ list_data node_data args ∷ node_data b ∷ list_data node_data ends ∷ []
entries (L8 node c kind) = node_data node ∷ signed_data c ∷ kind_data kind ∷ []
entries (L9 keep gone) = node_data keep ∷ node_data gone ∷ []
entries (L10 e) = edge_id_data e ∷ []
entries (L11 node) = node_data node ∷ []
entries L12 = []
entries (L13 j images edges) = count_data j ∷ list_data node_data images ∷ list_data edge_id_data edges ∷ []
entries (L14 e) = edge_id_data e ∷ []
entries (L15 e) = edge_id_data e ∷ []
entries C1 = []
entries (C2 tries) = list_data (list_data step_data) tries ∷ []
entries (C3 j steps) = count_data j ∷ list_data step_data steps ∷ []

pub named : (line : Line) (name : List ℕ) → data_of line ≡ named_data name (entries line) → IsNamed line name
named line name e = (entries line, e)
