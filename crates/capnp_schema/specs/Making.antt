-- Records of schemas without annotations.
use Rattle.std.specs.Prelude.{ℕ, List, [], length, replicate, true, false}
use Rattle.capnp_schema.specs.Types.{SchemaType}
use Rattle.capnp_schema.specs.Schema.{Node, Brand, Field, FieldKind}

-- a field that is no member of a union
abbrev pub non_union_field : List ℕ → FieldKind → Field
non_union_field name kind = record { name = name; discriminant_value = 65535; annotations = []; kind = kind }

abbrev pub as_member : Field → ℕ → Field
as_member f value = record { name = f.name; discriminant_value = value; annotations = f.annotations; kind = f.kind }

-- a struct without a union
abbrev pub node_without_union : (id : ℕ) → List ℕ → (words pointers : ℕ) → List Field → Node
node_without_union id name words pointers fields = record { id = id; display_name = name; annotations = []; data_word_count = words; pointer_count = pointers; is_group = false; discriminant_count = 0; discriminant_offset = 0; fields = fields }

abbrev pub as_group : Node → Node
as_group n = record { id = n.id; display_name = n.display_name; annotations = n.annotations; data_word_count = n.data_word_count; pointer_count = n.pointer_count; is_group = true; discriminant_count = n.discriminant_count; discriminant_offset = n.discriminant_offset; fields = n.fields }

abbrev pub with_union : Node → (count offset : ℕ) → Node
with_union n count offset = record { id = n.id; display_name = n.display_name; annotations = n.annotations; data_word_count = n.data_word_count; pointer_count = n.pointer_count; is_group = n.is_group; discriminant_count = count; discriminant_offset = offset; fields = n.fields }

-- a node with the types of its fields
abbrev pub unannotated_brand : ℕ → List SchemaType → Brand
unannotated_brand node types = record { node = node; field_types = types; annotation_types = record { own = []; children = replicate (length types) [] } }
