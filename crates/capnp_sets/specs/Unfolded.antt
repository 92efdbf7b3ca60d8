-- How much there is of the values of a set, where each pointer in their words is followed.
use Rattle.std.specs.Prelude.{ℕ, ◌+◌, List, [], ◌∷◌}
use Rattle.capnp_wire.specs.Unfolded.{unfolded}
use Rattle.capnp_schema.specs.Accepted.{words_root}
use Rattle.capnp_schema.specs.Schema.{Annotation, Enum, Enumerant, Field, Node, Schemas, Value, StructValue, ListValue, AnyPointerValue, default_of}

abbrev pub total : {A : Type 0} → (A → ℕ) → List A → ℕ
total size [] = 0
total size (x ∷ xs) = size x + total size xs

-- only structs, lists and untyped pointers have words
abbrev pub value_size : Value → ℕ
value_size (StructValue words) = unfolded (words_root words)
value_size (ListValue words) = unfolded (words_root words)
value_size (AnyPointerValue words) = unfolded (words_root words)
value_size value = 0

abbrev pub annotation_size : Annotation → ℕ
annotation_size a = value_size a.value

abbrev pub field_size : Field → ℕ
field_size f = value_size (default_of f) + total annotation_size f.annotations

abbrev pub node_size : Node → ℕ
node_size n = total annotation_size n.annotations + total field_size n.fields

abbrev pub enumerant_size : Enumerant → ℕ
enumerant_size x = total annotation_size x.annotations

abbrev pub enum_size : Enum → ℕ
enum_size e = total annotation_size e.annotations + total enumerant_size e.enumerants

-- defaults and the values of annotations
abbrev pub values_size : Schemas → ℕ
values_size set = total node_size set.nodes + total enum_size set.enums
