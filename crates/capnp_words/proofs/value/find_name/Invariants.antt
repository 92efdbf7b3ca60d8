use Rattle.std.proofs.Common.{◌≡◌, drop}
use Rattle.capnp_schema.specs.Enumerants.{enum_of_list}
use Rattle.capnp_words.specs.Words.{name_among}
use Rattle.capnp_words.specs.Steps.Values.{enumerant_names}
use Rattle.capnp_words.proofs.value.find_name.Given as goal

abbrev pub invariant-loop-ordinal : goal.invariant-loop-ordinal
invariant-loop-ordinal l = name_among (drop l.ordinal (enumerant_names (enum_of_list l.enumerants))) l.ordinal l.longest l.word ≡ name_among (enumerant_names (enum_of_list l.enumerants)) 0 0 l.word
