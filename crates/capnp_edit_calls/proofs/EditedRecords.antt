-- What an edit that is made does to a record.
use Rattle.std.proofs.Common.{ℕ, ◌≡◌, refl, [], ◌∷◌, ◌++◌, Some, sym, subst}
use Rattle.capnp_schema.specs.Ranges.{HasWidths}
use Rattle.capnp_schema.specs.Schema.{Schemas}
use Rattle.capnp_schema.specs.StructHandles.{generic_of, number_of, set_of}
use Rattle.capnp_schema.specs.Types.{ListType, SchemaType, StructType}
use Rattle.capnp_records.specs.Call.{Call, Done, ListSource, Op, Set}
use Rattle.capnp_records.specs.Laws.{OverlayLaw}
use Rattle.capnp_records.specs.Reading.{reads, value_of}
use Rattle.capnp_records.specs.Record as value
use Rattle.capnp_records.specs.Record.{Endless, Left, Record}
use Rattle.capnp_records.specs.Run.{Ends, Run, root_type}
use Rattle.capnp_records.specs.Step.{Walks}
use Rattle.capnp_records.specs.Writes.TreeEnds.{TreeStep}
use Rattle.capnp_edits.specs.Changes.{edited_values}
use Rattle.capnp_edits.specs.Laws.{EditLaw}
use Rattle.capnp_edit_calls.specs.Laws.{EditedLaw}
use Rattle.capnp_edit_calls.specs.PathReads.{list_part, struct_part}
use Rattle.capnp_edit_calls.proofs.Found.{last_along}
use Rattle.capnp_edit_calls.proofs.ListPuts.{walks}
use Rattle.capnp_edit_calls.proofs.PathTypes.{end_widths, read_type, type_along}

pub edited_records : OverlayLaw → EditLaw → EditedLaw
edited_records overlay edit_law schema old new path last edit elements stands ranges room made read =
    walks set e (Left made.levels) made.changed e (edited_values set e edit elements) changed_read path last (root_type set b) (value.Struct (reads set old b)) (value.Struct (reads set new b)) along step
  where
    set : Schemas
    set = set_of schema

    b : ℕ
    b = number_of schema

    e : SchemaType
    e = made.element

    op : Op
    op = Set (ListSource (Left made.levels) made.changed e)

    seen_along : type_along set (path ++ last ∷ []) (Some (StructType b (generic_of schema))) ≡ Some (ListType e)
    seen_along = read_type set (path ++ last ∷ []) (struct_part schema made.there.seen.seen) (list_part set made.there.levels e made.list) made.there.seen.read

    along : type_along set (path ++ last ∷ []) (Some (root_type set b)) ≡ Some (ListType e)
    along = subst (λ (g : ℕ). type_along set (path ++ last ∷ []) (Some (StructType b g)) ≡ Some (ListType e)) stands.generic seen_along

    widths : HasWidths e
    widths = end_widths set ranges (path ++ last ∷ []) b (generic_of schema) (ListType e) seen_along

    changed_read : value_of set made.changed Endless (ListType e) ≡ value.Elements (edited_values set e edit elements)
    changed_read = edit_law set e made.list edit made.changed elements stands.accepted made.there.entries widths made.is_changed read

    tree_step : TreeStep set b old (record { path = path; last = last; op = op }) Done new
    tree_step = subst (λ (c : Call). TreeStep set b old c Done new) (last_along path last op) made.set

    run : Run set b (reads set old b) (record { path = path; last = last; op = op } ∷ []) (Done ∷ []) (reads set new b)
    run = overlay set stands.accepted ranges b stands.number old (record { path = path; last = last; op = op } ∷ []) (Done ∷ []) new room (new, tree_step, refl)

    step : Walks set (Ends set last op) path (root_type set b) (value.Struct (reads set old b)) Done (value.Struct (reads set new b))
    step = subst (λ (r : Record). Walks set (Ends set last op) path (root_type set b) (value.Struct (reads set old b)) Done (value.Struct r)) (sym run.2) run.1
