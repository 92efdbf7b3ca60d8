-- What is left are the names from a number on.
use Rattle.std.proofs.Common.{drop, string_bytes}
use Rattle.capnp_schema.specs.Enums.{enum_in, enum_number, enum_set}
use Rattle.capnp_structs.specs.Enums.{names_text}
use Rattle.capnp_structs.proofs.Appended.{IsLeft}
use Rattle.capnp_structs.proofs.enums.put_names.Given as goal

abbrev pub invariant-loop-ordinal : goal.invariant-loop-ordinal
invariant-loop-ordinal l =
    IsLeft (string_bytes l.fn.out) (names_text (enum_set l.schema) (enum_number l.schema) 0 (enum_in l.schema).enumerants) (string_bytes l.out)
    (names_text (enum_set l.schema) (enum_number l.schema) l.ordinal (drop l.ordinal (enum_in l.schema).enumerants))
