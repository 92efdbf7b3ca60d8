-- What the code has of structs and enums, as the definition sees it.
use Rattle.std.specs.Prelude.{List, map}
use Rattle.capnp_request.specs.Conversion.{Float32Note, Float64Note, InterfaceNote, Note, StandIn, UntypedDefaultNote}
use Rattle.capnp_request.specs.declared.notes.Note.{Note as NoteRecord}
use Rattle.capnp_request.specs.declared.notes.StandIn.{StandIn as StandInRecord}
use Rattle.capnp_request.specs.declared.notes.StandIn.TheVariants as stand

abbrev pub seen_stand_in : StandInRecord → StandIn
seen_stand_in stand.Float32 = Float32Note
seen_stand_in stand.Float64 = Float64Note
seen_stand_in stand.Interface = InterfaceNote
seen_stand_in stand.UntypedDefault = UntypedDefaultNote

abbrev pub seen_note : NoteRecord → Note
seen_note n = record { entry = n.entry; field = n.field; stand_in = seen_stand_in n.stand_in }

abbrev pub seen_notes : List NoteRecord → List Note
seen_notes notes = map seen_note notes
