use Rattle.std.proofs.Common.{ap, Option, option_map, ℕ}
use Rattle.mc_base.specs.declared.ids.StructId.{StructId}
use Rattle.mc_c_syntax.specs.Ast.Names.{is_same}
use Rattle.mc_c_syntax.specs.Ast.Views.{struct_of}
use Rattle.mc_c_syntax.proofs.NamesLemmas.Positions.{position-map}
use Rattle.mc_c_types.proofs.tables.NameTables.struct_number.Goals as goal

abbrev numbered : Option ℕ → Option StructId
numbered place = option_map (λ n. record { 0 = n }) place

pub returns-in-None : goal.returns-in-None
returns-in-None c =
    rw (position-map (λ s. is_same s.name.text c.args.name.now) (λ s. struct_of s.now) c.args.self.now.structs) (ap numbered c.in-None.ensures)

pub returns-in-Some : goal.returns-in-Some
returns-in-Some c =
    rw (position-map (λ s. is_same s.name.text c.args.name.now) (λ s. struct_of s.now) c.args.self.now.structs) (ap numbered c.in-Some.ensures)
