-- The names so far, and those of the rest.
use Rattle.std.proofs.Common.{◌≡◌, ◌++◌, drop, map, string_bytes}
use Rattle.capnp_schema.specs.Schema.{seen_enumerant}
use Rattle.riftcalico_core.specs.Wanted.{names_listed}
use Rattle.riftcalico_core.proofs.wanted.put_names.Given as goal

abbrev pub invariant-loop-enumerant : goal.invariant-loop-enumerant
invariant-loop-enumerant l = string_bytes l.note ++ names_listed (map seen_enumerant (drop l.enumerant-index l.enumerants)) ≡ string_bytes l.initial.note ++ names_listed (map seen_enumerant l.initial.enumerants)
