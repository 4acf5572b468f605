-- Calls that are counted from 1 and fail at the numbers listed.
use Rattle.std.specs.Prelude.{◌==◌, ℕ, List, Bool, true, false, Option, Some, None, Result, Ok, Err}
use Rattle.std.specs.List.{list_any}
use Rattle.mc_outside.specs.Outside.{next}
use Rattle.mc_outside.specs.declared.outside.FileFault.{FileFault}
use Rattle.mc_outside.specs.declared.outside.FileFault.TheVariants.{Failed, NoMemory}

-- the numbers of the calls that fail, how many calls were made, and how many failed
pub record CallCount : Type 0 where
  pub failing : List ℕ
  pub made : ℕ
  pub faults : ℕ

-- no call was made yet
abbrev pub no_calls : List ℕ → CallCount
no_calls failing = record { failing = failing; made = 0; faults = 0 }

-- the next call is listed as one that fails
abbrev pub fails_next : CallCount → Bool
fails_next calls = list_any (λ n. n == next calls.made) calls.failing

-- one fault more
abbrev pub one_fault : CallCount → CallCount
one_fault calls = record { failing = calls.failing; made = calls.made; faults = next calls.faults }

-- one call more
abbrev pub one_call : CallCount → CallCount
one_call calls = record { failing = calls.failing; made = next calls.made; faults = calls.faults }

-- the count after a call, by what it answered
abbrev pub after_call : {T : Type 0} → CallCount → Result T FileFault → CallCount
after_call calls (Ok _) = one_call calls
after_call calls (Err Failed) = one_fault (one_call calls)
after_call calls (Err NoMemory) = one_call calls

-- what a call answers: `Failed` where it is to fail or the file is missing, and else by what the file holds
abbrev pub read_answer : {T : Type 0} → Bool → Option (List ℕ) → (List ℕ → T) → Result T FileFault
read_answer true held f = Err Failed
read_answer false None f = Err Failed
read_answer false (Some bytes) f = Ok (f bytes)

-- a call failed or did not
abbrev pub is_failed : {T : Type 0} → Result T FileFault → Bool
is_failed (Ok _) = false
is_failed (Err Failed) = true
is_failed (Err NoMemory) = false
