-- Which numbers of variables a map holds.
use Rattle.std.specs.Prelude.{◌≡◌, ◌==◌, ◌&&◌, ℕ, List, position}
use Rattle.indexmap.specs.IndexMap.{IndexMap, get_by}
use Rattle.mc_base.specs.declared.text.place.Place.{Place}
use Rattle.mc_semantics.specs.Configs.{is_place}
use Rattle.mc_c_types.specs.declared.scope.Named.{Named}
use Rattle.mc_resolve.specs.declared.locals.PlaceKey.{PlaceKey}

-- the map has for each place the number of the first variable there, and no other places
abbrev pub AreNumbers : {S : Type 0} → List Named → IndexMap PlaceKey ℕ S → Type 0
AreNumbers variables numbers =
    (place : Place) → get_by (λ key. place.line == key.line && place.column == key.column) numbers
    ≡ position (λ v. is_place v.place place) variables
