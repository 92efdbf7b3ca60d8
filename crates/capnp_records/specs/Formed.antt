-- What has to be well-formed for a run to leave a well-formed message.
use Rattle.std.specs.Prelude.{⊤}
use Rattle.capnp_wire.specs.WellFormed.{AreBytes, IsWellFormed, IsWellFormedStruct}
use Rattle.capnp_records.specs.Call.{Source, TextSource, DataSource, StructSource, ListSource, Op, Set}

-- what the reader of a source stands on is well-formed
abbrev pub SourceFormed : Source → Type 0
SourceFormed (TextSource bytes) = AreBytes bytes
SourceFormed (DataSource bytes) = AreBytes bytes
SourceFormed (StructSource l s from) = IsWellFormedStruct s
SourceFormed (ListSource l t from) = IsWellFormed t
SourceFormed s = ⊤

abbrev pub OpFormed : Op → Type 0
OpFormed (Set s) = SourceFormed s
OpFormed op = ⊤
