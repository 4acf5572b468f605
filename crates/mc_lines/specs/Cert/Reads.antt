-- What it means that a value is read.
use Rattle.std.specs.Prelude.{◌≡◌, ◌≢◌, Result, Ok, Err}
use Rattle.mc_lines.specs.declared.cert.fault.LineFault.{LineFault}
use Rattle.mc_lines.specs.declared.cert.fault.LineFault.TheVariants.{NotJson, Form, Version, NoMemory}

-- this is what is spelled so and fits its type, or nothing is; want of memory is free
abbrev pub Reads : {D T : Type 0} → (T → D) → (T → Type 0) → D → Result T LineFault → Type 0
Reads spelled fits d (Ok x) = (d ≡ spelled x) × fits x
Reads {T = T} spelled fits d (Err Form) = (x : T) → fits x → d ≢ spelled x
Reads spelled fits d (Err NoMemory) = Unit {0}
Reads spelled fits d (Err NotJson) = ⊥
Reads spelled fits d (Err Version) = ⊥
