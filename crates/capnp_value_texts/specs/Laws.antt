-- What holds of values that are printed.
use Rattle.std.specs.Prelude.{ℕ, ◌<◌, ◌≡◌, ⊤, List, Bool, true, false, not, ◌||◌, ◌==◌, length, Ok}
use Rattle.std.specs.List.{AllByRecursion, list_all}
use Rattle.capnp_schema.specs.Schema.{Schemas, TypedField}
use Rattle.capnp_schema.specs.Types.{EnumType, SchemaType}
use Rattle.capnp_records.specs.Record.{Value}
use Rattle.capnp_records.specs.Text.{said_text, text_of}
use Rattle.capnp_json_fields.specs.Marks.{is_float}
use Rattle.capnp_words.specs.Laws.{IsWritable}
use Rattle.capnp_words.specs.Values.{enumerant_words}
use Rattle.capnp_value_texts.specs.Calls.{field_of_text, field_target, set_call}
use Rattle.capnp_value_texts.specs.Lengths.{is_end}

-- a byte that stands for itself anywhere in a leaf, also first
abbrev pub is_leaf_byte : ℕ → Bool
is_leaf_byte b = not (is_end b || b == 34 || b == 40 || b == 91 || b == 60)

abbrev pub IsLeafName : List ℕ → Type 0
IsLeafName name = (0 < length name) × (list_all is_leaf_byte name ≡ true)

-- the names of an enum's enumerants
abbrev pub HasLeafNames : Schemas → SchemaType → Type 0
HasLeafNames set (EnumType e) = AllByRecursion IsLeafName (enumerant_words set e)
HasLeafNames set t = ⊤

-- What is printed of a value that holds no others, under a field whose numbers are none of floats, has one call: it sets that value.
abbrev pub PrintedLeavesAreSet : Type 0
PrintedLeavesAreSet =
    (set : Schemas) (indented : Bool) (f : TypedField) (i : ℕ) (v : Value) (text : List ℕ)
    → IsWritable set f.type v → HasLeafNames set f.type → is_float f ≡ false → text_of set indented f.type v ≡ said_text text
    → field_of_text set f i text ≡ Ok (set_call (field_target f i) v)
