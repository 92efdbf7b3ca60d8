-- The lines that say what stands for something else in a set.
use Rattle.std.specs.Prelude.{ℕ, List, [], ◌∷◌, ◌++◌, codes}
use Rattle.capnp_schema.specs.Names.{name_at}
use Rattle.capnp_schema.specs.Schema.{Schemas, node_of}
use Rattle.capnp_request.specs.declared.notes.Note.{Note}
use Rattle.capnp_request.specs.declared.notes.StandIn.{StandIn}
use Rattle.capnp_request.specs.declared.notes.StandIn.TheVariants.{Float32, Float64, Interface, UntypedDefault}

-- what stands for what
abbrev pub stand_in_words : StandIn → List ℕ
stand_in_words Float32 = codes "Float32 stands as UInt32"
stand_in_words Float64 = codes "Float64 stands as UInt64"
stand_in_words Interface = codes "an interface stands as AnyPointer"
stand_in_words UntypedDefault = codes "the default of an untyped field is left out"

-- the line of a field of an entry, both by name
abbrev pub field_line : (entry field words : List ℕ) → List ℕ
field_line entry field words = entry ++ codes "." ++ field ++ codes ": " ++ words ++ 10 ∷ []

abbrev pub note_line : Schemas → Note → List ℕ
note_line set note = field_line (node_of set note.entry).display_name (name_at (node_of set note.entry).fields note.field) (stand_in_words note.stand_in)

-- the lines of notes, one after another
abbrev pub note_lines : Schemas → List Note → List ℕ
note_lines set [] = []
note_lines set (note ∷ notes) = note_line set note ++ note_lines set notes
