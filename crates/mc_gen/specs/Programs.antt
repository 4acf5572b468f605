-- The programs that come of a number.
use Rattle.std.specs.Prelude.{◌≡◌, ◌+◌, ℕ, List, map}
use Rattle.mc_gen.specs.declared.kinds.BlockKind.{BlockKind}
use Rattle.mc_gen.specs.declared.made.Made.{Made}
use Rattle.mc_gen.specs.Draws.{after, drawn, draws, next_of}
use Rattle.mc_gen.specs.Texts.{kind_of, program_text}

-- how many blocks the program of a number has: one more than a draw below 4
abbrev pub count_of : ℕ → ℕ
count_of x = 1 + drawn (next_of x) 4

-- the kinds of its blocks: a draw below 5 for each
abbrev pub kinds_of : ℕ → List BlockKind
kinds_of x = map kind_of (draws (count_of x) 5 (next_of x))

-- the number that the program after it comes of
abbrev pub next_program : ℕ → ℕ
next_program x = after (1 + count_of x) x

-- this is the program of a number
pub record IsProgramOf (x : ℕ) (made : Made) : Type 0 where
  pub kinds : made.kinds.items ≡ kinds_of x
  pub text : made.text.items ≡ program_text (kinds_of x)
  pub next : made.next ≡ next_program x
