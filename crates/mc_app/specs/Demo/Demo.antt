-- What `demo` prints.
use Rattle.std.specs.Prelude.{◌≡◌, ◌++◌, ℕ, suc, Bool, true, false, List, [], ◌∷◌, codes, length}
use Rattle.std.specs.Fmt.{decimal}
use Rattle.std.specs.List.{filter, flat_map}
use Rattle.mc_judge.specs.declared.judge.verdict.Verdict.TheVariants as verdict
use Rattle.mc_gen.specs.Programs.{kinds_of, next_program}
use Rattle.mc_gen.specs.Texts.{number_of, program_text}
use Rattle.mc_gen.specs.declared.kinds.BlockKind.{BlockKind}
use Rattle.mc_app.specs.Demo.Seen.{IsSeen}
use Rattle.mc_app.specs.Printing.{verdict_text}
use Rattle.mc_app.specs.declared.demo.seen.Seen.{Seen}
use Rattle.mc_app.specs.declared.demo.seen.Seen.TheVariants.{Unread, NotYet, Paths, Judged}

-- ---- programs

-- each is seen of the program in its place, of which the first comes of x
abbrev pub AreSeen : (x : ℕ) → List Seen → Type 0
AreSeen x [] = Unit {0}
AreSeen x (seen ∷ more) = IsSeen (program_text (kinds_of x)) seen × AreSeen (next_program x) more

-- ---- lines

-- what is seen of a program
abbrev pub seen_text : Seen → List ℕ
seen_text Unread = codes "unread"
seen_text NotYet = codes "NotYet"
seen_text Paths = codes "limit: Paths"
seen_text (Judged v) = verdict_text v

-- the kinds of blocks, a blank before each
unfoldable pub kinds_text : List BlockKind → List ℕ
kinds_text kinds = flat_map (λ kind. codes " " ++ decimal (number_of kind)) kinds

-- the line of the program of this number
unfoldable pub line_text : (number : ℕ) → List BlockKind → Seen → List ℕ
line_text number kinds seen = decimal number ++ codes ":" ++ kinds_text kinds ++ codes ": " ++ seen_text seen ++ codes "\n"

-- a line for each program, from this number on, of which the first comes of x
unfoldable pub lines_text : (number x : ℕ) → List Seen → List ℕ
lines_text number x [] = []
lines_text number x (seen ∷ more) = line_text number (kinds_of x) seen ++ lines_text (suc number) (next_program x) more

-- ---- the last line

abbrev pub is_safe : Seen → Bool
is_safe (Judged verdict.Safe) = true
is_safe (Judged (verdict.Alarms count)) = false
is_safe (Judged (verdict.Refused cause)) = false
is_safe Unread = false
is_safe NotYet = false
is_safe Paths = false

abbrev pub has_alarms : Seen → Bool
has_alarms (Judged verdict.Safe) = false
has_alarms (Judged (verdict.Alarms count)) = true
has_alarms (Judged (verdict.Refused cause)) = false
has_alarms Unread = false
has_alarms NotYet = false
has_alarms Paths = false

abbrev pub is_limit : Seen → Bool
is_limit (Judged v) = false
is_limit Unread = false
is_limit NotYet = false
is_limit Paths = true

-- how many lines say so
abbrev pub count : (Seen → Bool) → List Seen → ℕ
count is seen = length (filter is seen)

-- how many programs are safe, have alarms, or came to the limit
unfoldable pub last_text : List Seen → List ℕ
last_text seen =
    codes "demo: " ++ decimal (count is_safe seen) ++ codes " safe, " ++ decimal (count has_alarms seen) ++ codes " alarms, "
    ++ decimal (count is_limit seen) ++ codes " limits\n"

-- ---- the whole

-- the text has a line for each of the 64 programs that come of a number, and one that counts them
pub record IsDemo (n : ℕ) (text : List ℕ) : Type 0 where
  pub seen : List Seen
  pub all : length seen ≡ 64
  pub are_seen : AreSeen n seen
  pub prints : text ≡ lines_text 1 n seen ++ last_text seen
