-- Where one stands in a text.
use Rattle.std.specs.Prelude.{ℕ, ◌+◌, ◌≤◌, ◌==◌, ◌&&◌, true, List, if◌then◌else◌, fold}
use Rattle.mc_c_syntax.specs.declared.lex.spot.Spot.{Spot}
use Rattle.mc_c_syntax.specs.Lex.Bytes.{is_blank}

-- before the first byte: line 1, column 1
abbrev pub start : Spot
start = record { place = record { line = 1; column = 1 }; at_line_start = true }

-- after one more byte: a line feed begins a line, and any other byte is one column
abbrev pub step : Spot → ℕ → Spot
step spot byte =
    if byte == 10
    then record { place = record { line = spot.place.line + 1; column = 1 }; at_line_start = true }
    else record {
      place = record
          { line = spot.place.line; column = spot.place.column + 1 };
      at_line_start = spot.at_line_start
          && is_blank byte;
    }

-- after these bytes
abbrev pub behind : Spot → List ℕ → Spot
behind spot bytes = fold step spot bytes

-- lines and columns stay numbers of 32 bits over this many bytes
pub record HasRoom (spot : Spot) (count : ℕ) : Type 0 where
  pub lines : spot.place.line + count ≤ 4294967295
  pub columns : spot.place.column + count ≤ 4294967295
