-- What holds of spliced lists as values.
use Rattle.std.specs.Prelude.{◌≡◌, List}
use Rattle.capnp_wire.specs.Tree.{Tree}
use Rattle.capnp_splices.specs.Splices.{IsSplice, Splice, spliced_list}
use Rattle.capnp_schema.specs.Accepted.{IsAccepted, NamesEntries}
use Rattle.capnp_schema.specs.Ranges.{HasWidths}
use Rattle.capnp_schema.specs.Schema.{Schemas}
use Rattle.capnp_schema.specs.Types.{ListType, SchemaType, element_size}
use Rattle.capnp_records.specs.Call.{Source}
use Rattle.capnp_records.specs.Reading.{value_of}
use Rattle.capnp_records.specs.Record as value
use Rattle.capnp_records.specs.Record.{Endless, Values}
use Rattle.capnp_edits.specs.Added.{added_values}
use Rattle.capnp_edits.specs.Changes.{AreListed, Edit, IsChanged, edited_values}
use Rattle.capnp_edits.specs.Edits.{spliced}
use Rattle.capnp_wire.specs.declared.size.StructSize.{StructSize}

-- where two lists are read as elements of a type, the list that is made of them is read as the elements of the first with
-- those of the second at the place, whatever the sizes that they have
abbrev pub SpliceLaw : Type 0
SpliceLaw =
    (set : Schemas) (e : SchemaType) (size : StructSize) (s : Splice) (elements added : Values) → HasWidths e → IsSplice s →
    value_of set s.old Endless (ListType e) ≡ value.Elements elements →
    value_of set s.added Endless (ListType e) ≡ value.Elements added →
    value_of set (spliced_list (element_size e) size s) Endless (ListType e) ≡ value.Elements (spliced s.at s.removed added elements)

-- a list of values is read as what a set of an element puts there for each
abbrev pub ListedLaw : Type 0
ListedLaw =
    (set : Schemas) (e : SchemaType) (sources : List Source) (t : Tree) → IsAccepted set → NamesEntries set e → HasWidths e → AreListed set e sources t →
    value_of set t Endless (ListType e) ≡ value.Elements (added_values set e sources)

-- what an edit makes of a list is read as what it makes of its elements
abbrev pub EditLaw : Type 0
EditLaw =
    (set : Schemas) (e : SchemaType) (old : Tree) (edit : Edit) (new : Tree) (elements : Values) → IsAccepted set → NamesEntries set e → HasWidths e → IsChanged set e old edit new →
    value_of set old Endless (ListType e) ≡ value.Elements elements →
    value_of set new Endless (ListType e) ≡ value.Elements (edited_values set e edit elements)
