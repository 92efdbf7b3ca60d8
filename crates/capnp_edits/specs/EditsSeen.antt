-- Edits and places as the code has them.
use Rattle.std.specs.Prelude.{[], ◌∷◌, Result, Ok, Err}
use Rattle.capnp_device.specs.declared.error.Error.{Error}
use Rattle.capnp_device.specs.declared.error.ErrorKind.{ErrorKind}
use Rattle.capnp_slots.specs.SetValues.{source_of}
use Rattle.capnp_edits.specs.Changes.{Append, Edit, Insert, Place, Remove, Resize}
use Rattle.capnp_edits.specs.declared.edit.Edit.{Edit as EditOf}
use Rattle.capnp_edits.specs.declared.edit.Edit.TheVariants as edit
use Rattle.capnp_edits.specs.declared.edit.Place.{Place as PlaceOf}

abbrev pub edit_seen : EditOf → Edit
edit_seen (edit.Append v) = Append (source_of v ∷ [])
edit_seen (edit.Insert i v) = Insert i (source_of v)
edit_seen (edit.Remove i) = Remove i
edit_seen (edit.Resize n) = Resize n

abbrev pub place_seen : Result PlaceOf Error → Result Place ErrorKind
place_seen (Ok p) = Ok (record { at = p.at; removed = p.removed })
place_seen (Err e) = Err e.kind
