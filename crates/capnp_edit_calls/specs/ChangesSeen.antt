-- Changes as the code has them.
use Rattle.std.specs.Prelude.{List, map}
use Rattle.capnp_records.specs.Call.{Source}
use Rattle.capnp_dynamic_readers.specs.declared.dynamic_value.Reader.{Reader as DynamicValue}
use Rattle.capnp_slots.specs.SetValues.{source_of}
use Rattle.capnp_edits.specs.Changes.{Append, Edit, Insert, Remove, Resize}
use Rattle.capnp_edit_calls.specs.declared.change.Change.{Change}
use Rattle.capnp_edit_calls.specs.declared.change.Change.TheVariants as change

abbrev pub sources_of : List DynamicValue → List Source
sources_of values = map source_of values

abbrev pub change_seen : Change → Edit
change_seen (change.Append values) = Append (sources_of values.now)
change_seen (change.Insert i v) = Insert i (source_of v)
change_seen (change.Remove i) = Remove i
change_seen (change.Resize n) = Resize n
