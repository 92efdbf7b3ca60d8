-- Shared fields and structs by their parts.
use Rattle.std.specs.Prelude.{ℕ, Bool, ◌≤◌, ◌≡◌, ◌↔◌, length}
use Rattle.capnp_schema.specs.Schema.{Schemas, TypedField, fields_of, node_of}
use Rattle.capnp_records.specs.Compatible.{Pairs, Related, SameKind, SharedField, SharedStruct}
use Rattle.capnp_compatible.specs.Steps.Closing.{FieldsShared, UnionGrows}

pub field_parts : (lists : Bool) (set : Schemas) (pairs : Pairs) (f g : TypedField) →
    (SharedField lists set pairs f g ↔ ((SameKind f.field.kind g.field.kind) × (f.field.discriminant_value ≡ g.field.discriminant_value) × Related lists set pairs f.type g.type))
field_parts lists set pairs f g = (λ s. (s.kind, s.discriminant_value, s.type), λ s. record { kind = s.0; discriminant_value = s.1; type = s.2 })

pub struct_parts : (lists : Bool) (set : Schemas) (pairs : Pairs) (a b : ℕ) →
    (SharedStruct lists set pairs a b ↔ ((length (fields_of set a) ≤ length (fields_of set b)) × FieldsShared lists set pairs a b (length (fields_of set a)) × UnionGrows (node_of set a) (node_of set b)))
struct_parts lists set pairs a b = (λ s. (s.beginning, s.fields, s.union), λ s. record { beginning = s.0; fields = s.1; union = s.2 })
