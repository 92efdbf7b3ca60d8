-- What tells more of a refusal: the place, the struct there, and names that may have been meant.
use Rattle.std.specs.Prelude.{ℕ, suc, ◌==◌, List, [], ◌∷◌, ◌++◌, cond, Option, Some, codes, get_or, map, string_bytes, take}
use Rattle.std.specs.Str.Lines.{lines}
use Rattle.capnp_device.specs.declared.error.ErrorKind.{ErrorKind}
use Rattle.capnp_device.specs.declared.error.ErrorKind.TheVariants.{FieldNotFound}
use Rattle.capnp_patch.specs.declared.place.Place.{Place}
use Rattle.capnp_patch.specs.declared.place.Place.TheVariants as place
use Rattle.capnp_records.specs.Call.{ElementAt, FieldNamed, FieldNumber, PathStep}
use Rattle.capnp_schema.specs.Schema.{Schemas, TypedField}
use Rattle.capnp_schema.specs.StructHandles.{struct_fields, struct_node}
use Rattle.capnp_schema.specs.declared.schema.structs.StructSchema.{StructSchema}
use Rattle.capnp_structs.specs.Names.{structs_text}
use Rattle.capnp_words.specs.Paths.{step_word}
use Rattle.riftcalico_core.specs.Near.{near_note}

abbrev pub field_name : TypedField → List ℕ
field_name f = f.field.name

-- ---- a place ----

-- steps as words, each behind a point
abbrev pub words_behind_points : List PathStep → List ℕ
words_behind_points [] = []
words_behind_points (s ∷ steps) = 46 ∷ step_word s ++ words_behind_points steps

-- such words are told without the first point; where there are none nothing is told
abbrev pub at_note : List ℕ → List ℕ
at_note [] = []
at_note (b ∷ words) = cond (b == 46) (codes " at " ++ words) []

-- of a field that isn't there, the struct or group that was asked, and what may have been meant
abbrev pub meant_note : StructSchema → PathStep → List ℕ
meant_note s (FieldNamed name) = near_note name (map field_name (struct_fields s))
meant_note s (FieldNumber i) = []
meant_note s (ElementAt i) = []

abbrev pub within_note : Option StructSchema → ErrorKind → PathStep → List ℕ
within_note (Some s) FieldNotFound step = codes " in " ++ (struct_node s).display_name ++ meant_note s step
within_note within kind step = []

-- the note of what is refused of a value that is asked for by a path
abbrev pub place_note : (path : List PathStep) → Place → List ℕ
place_note path place.Root = []
place_note path (place.Step x) =
    at_note (words_behind_points (take (suc x.index) path)) ++ within_note x.within x.error.kind (get_or path x.index (FieldNumber 0))
place_note path (place.Part x) = at_note (words_behind_points path ++ string_bytes x.words)

-- ---- a name ----

-- the structs of a set that may have been meant by a name that none has
abbrev pub name_note : Schemas → (name : List ℕ) → List ℕ
name_note set name = near_note name (lines (structs_text set))
