-- What holds of edits: the statements of the laws.
use Rattle.std.specs.Prelude.{◌≡◌, List, [], ◌∷◌, ◌++◌, Ok}
use Rattle.capnp_wire.specs.Tree.{StructTree}
use Rattle.capnp_schema.specs.Ranges.{HasRanges}
use Rattle.capnp_schema.specs.Schema.{Schemas}
use Rattle.capnp_schema.specs.StructHandles.{IsStruct, number_of, set_of}
use Rattle.capnp_schema.specs.Types.{ListType, SchemaType}
use Rattle.capnp_schema.specs.declared.schema.structs.StructSchema.{StructSchema}
use Rattle.capnp_records.specs.Call.{Call, Done, PathStep, Reply as ReplySeen}
use Rattle.capnp_records.specs.Operation.{IsDone}
use Rattle.capnp_records.specs.Reading.{reads, value_of}
use Rattle.capnp_records.specs.Record as value
use Rattle.capnp_records.specs.Record.{Endless, Values}
use Rattle.capnp_records.specs.Run.{Run, root_type}
use Rattle.capnp_records.specs.Step.{AtEnd, StepTarget, Walks, step_target}
use Rattle.capnp_slots.specs.Standing.{IsUnder}
use Rattle.capnp_edits.specs.Changes.{Edit, edited_values}
use Rattle.capnp_call.specs.declared.calls.Reply.{Reply}
use Rattle.capnp_edit_calls.specs.ActsMade.{ActsMade}
use Rattle.capnp_edit_calls.specs.EditsMade.{IsEditMade}
use Rattle.capnp_edit_calls.specs.declared.acts.Act.{Act}

-- a list of these elements is put in the place of what the last step of a path names, and nothing else is done
abbrev pub PutsList : Schemas → PathStep → SchemaType → Values → AtEnd
PutsList set last e elements t old reply new = (x : StepTarget) × (step_target set t old last ≡ Ok x) × (x.type ≡ ListType e) × IsDone (x.put (value.Elements elements)) reply new

-- An edit that is made walks the path as a call does, and puts the elements that it makes of the list's in their place: the
-- record is the one before with these at the end of the path, and nothing else is changed.
abbrev pub EditedLaw : Type 0
EditedLaw =
    (schema : StructSchema) (old new : StructTree) (path : List PathStep) (last : PathStep) (edit : Edit) (elements : Values) → IsStruct schema → HasRanges (set_of schema) → IsUnder schema old →
    (made : IsEditMade schema old (path ++ last ∷ []) edit Done new) → value_of (set_of schema) made.list Endless (ListType made.element) ≡ value.Elements elements →
    Walks (set_of schema) (PutsList (set_of schema) last made.element (edited_values (set_of schema) made.element edit elements)) path (root_type (set_of schema) (number_of schema))
    (value.Struct (reads (set_of schema) old (number_of schema))) Done (value.Struct (reads (set_of schema) new (number_of schema)))

-- Calls and edits in a row are a run of the machine: each edit or copy that is made is a set of what it makes, and one that
-- is refused is no call.
abbrev pub ActsLaw : Type 0
ActsLaw =
    (schema : StructSchema) (old new : StructTree) (acts : List Act) (replies : List Reply) → IsStruct schema → HasRanges (set_of schema) → IsUnder schema old → ActsMade schema old acts replies new →
    (calls : List Call) × (answers : List ReplySeen) × Run (set_of schema) (number_of schema) (reads (set_of schema) old (number_of schema)) calls answers (reads (set_of schema) new (number_of schema))
