-- What holds of what is printed of whole values.
use Rattle.std.specs.Prelude.{ℕ, zero, suc, ◌<◌, ◌≡◌, ◌⊎◌, ⊤, List, [], ◌∷◌, Bool, false, cond, None, Ok, Some, length}
use Rattle.capnp_device.specs.declared.error.ErrorKind.TheVariants.{OutOfMemory, SizePastFormat}
use Rattle.capnp_schema.specs.Accepted.{IsAccepted}
use Rattle.capnp_schema.specs.Types.{SchemaType}
use Rattle.capnp_schema.specs.Schema.{Field, Schemas, field_at, fields_of, is_member}
use Rattle.capnp_records.specs.Call.{Call, Done, Refused, Reply}
use Rattle.capnp_records.specs.Default.{default_record}
use Rattle.capnp_records.specs.Part.{value_count, with_part}
use Rattle.capnp_records.specs.Record as value
use Rattle.capnp_records.specs.Record.{Elements, Endless, MoreValues, NoValues, Parts, Record, Value}
use Rattle.capnp_records.specs.Run.{Run, root_type}
use Rattle.capnp_records.specs.Text.{Layout, Out, said_text, text_of}
use Rattle.capnp_json_fields.specs.Marks.{is_float}
use Rattle.capnp_float_texts.specs.Laws.{HasNoFloats}
use Rattle.capnp_float_texts.specs.Texts.{float_text_of}
use Rattle.capnp_diffs.specs.Laws.{AreDone, HaveRoom}
use Rattle.capnp_value_texts.specs.Calls.{element_of_text, field_of_text, lists_of, root_of_text}
use Rattle.capnp_value_texts.specs.Lines.{HasLine, line_on}
use Rattle.capnp_value_texts.specs.Written.{Written, most_levels}
use Rattle.capnp_value_laws.specs.Texts.{IsTextOf}
use Rattle.capnp_value_laws.specs.Trees.{printed_value}
use Rattle.capnp_diffs.specs.Changes.{ByKind, Either}
use Rattle.capnp_value_laws.specs.Whole.{IsWhole, IsWholeGroup}

-- ---- texts ----

abbrev pub layout_of : (indented : Bool) → Layout
layout_of indented = cond indented (Some 0) None

-- What is printed of a value: its text with floats, or under a set that has none the one that shows none.
abbrev pub IsPrint : Schemas → (floats indented : Bool) → SchemaType → Value → Out → Type 0
IsPrint set floats indented t v o = (o ≡ float_text_of set floats indented t v) ⊎ (HasNoFloats set × (floats ≡ false) × (o ≡ text_of set indented t v))

-- A whole value has a text, on one line and on lines: one of its tree, which has no more brackets within one another than are read.
abbrev pub WholeValuesArePrinted : Type 0
WholeValuesArePrinted =
    (set : Schemas) (floats indented : Bool) (t : SchemaType) (v : Value) (o : Out) → IsWhole set floats most_levels t v → IsPrint set floats indented t v o
    → HasLine most_levels (printed_value set floats t v) × (text : List ℕ) × (o ≡ said_text text) × IsTextOf (layout_of indented) (printed_value set floats t v) text

-- without lines there is one such text
abbrev pub OneLineIsOneText : Type 0
OneLineIsOneText = (w : Written) (text : List ℕ) → IsTextOf None w text → text ≡ line_on w []

-- ---- calls ----

-- calls are done up to the first that is refused, for the want of memory or because the format has no room
abbrev pub AreDoneToRoom : List Reply → Type 0
AreDoneToRoom [] = ⊤
AreDoneToRoom (reply ∷ replies) = ((reply ≡ Done) × AreDoneToRoom replies) ⊎ (reply ≡ Refused OutOfMemory) ⊎ (reply ≡ Refused SizePastFormat)

-- Calls lead from one record to another: the machine of records refuses none of them but for room, and ends there if it refuses none.
abbrev pub Lead : Schemas → (brand : ℕ) → Record → List Call → Record → Type 0
Lead set b old calls new = (replies : List Reply) (left : Record) → Run set b old calls replies left → AreDoneToRoom replies × (HaveRoom replies → AreDone replies × (left ≡ new))

-- a record has a place for a field: a member's is the union
abbrev pub HasPlace : Record → Field → (index : ℕ) → Type 0
HasPlace (Parts vs u) f i = Either (is_member f) ⊤ (i < value_count vs)

-- A whole record has a text, on one line and on lines, and calls that lead from the new record to it are read of that text.
abbrev pub PrintedRecordsAreMade : Type 0
PrintedRecordsAreMade =
    (set : Schemas) (indented : Bool) (b : ℕ) (r : Record) (o : Out) → IsAccepted set → IsWhole set false most_levels (root_type set b) (value.Struct r)
    → IsPrint set false indented (root_type set b) (value.Struct r) o → (text : List ℕ) × (o ≡ said_text text)
    × (calls : List Call) × (root_of_text set b text ≡ Ok calls) × Lead set b (default_record set Endless b) calls r

-- The same of a field's value: in any record with a place for it, the calls leave it there, and nothing else is another.
abbrev pub PrintedFieldsAreMade : Type 0
PrintedFieldsAreMade =
    (set : Schemas) (indented : Bool) (b i : ℕ) (old : Record) (v : Value) (o : Out) → IsAccepted set → i < length (fields_of set b) → HasPlace old (field_at set b i).field i
    → ByKind (field_at set b i).field.kind (IsWhole set (is_float (field_at set b i)) most_levels (field_at set b i).type v) (IsWholeGroup set most_levels (field_at set b i).type v)
    → IsPrint set (is_float (field_at set b i)) indented (field_at set b i).type v o → (text : List ℕ) × (o ≡ said_text text)
    × (calls : List Call) × (field_of_text set (field_at set b i) i text ≡ Ok calls) × Lead set b old calls (with_part old (field_at set b i).field i v)

-- ---- elements of lists ----

-- a value as the one element of a list, which is the one element of another, so many times
abbrev pub alone_value : (depth : ℕ) → Value → Value
alone_value zero v = v
alone_value (suc n) v = Elements (MoreValues (alone_value n v) NoValues)

-- The same of an element of the lists that a field is: the calls leave there lists with it alone.
abbrev pub PrintedElementsAreMade : Type 0
PrintedElementsAreMade =
    (set : Schemas) (indented : Bool) (b i n : ℕ) (old : Record) (t : SchemaType) (v : Value) (o : Out) → IsAccepted set → b < length set.brands → i < length (fields_of set b) → HasPlace old (field_at set b i).field i
    → (field_at set b i).type ≡ lists_of (suc n) t → IsWhole set (is_float (field_at set b i)) most_levels t v → IsPrint set (is_float (field_at set b i)) indented t v o
    → (text : List ℕ) × (o ≡ said_text text) × (calls : List Call) × (element_of_text set (field_at set b i) i (suc n) text ≡ Ok calls)
    × Lead set b old calls (with_part old (field_at set b i).field i (alone_value (suc n) v))
