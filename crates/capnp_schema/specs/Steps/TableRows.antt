-- What the rows of a table of schemas stand for: steps of the code.
use Rattle.std.specs.Prelude.{ℕ, List}
use Rattle.capnp_base.specs.declared.introspect.TypeVariant.{TypeVariant}
use Rattle.capnp_base.specs.declared.introspect.TypeVariant.TheVariants as variant
use Rattle.capnp_schema.specs.Schema.{Field, FieldKind, Annotation}

-- the struct whose brand and node have a number
abbrev pub struct_variant : ℕ → TypeVariant
struct_variant number = variant.Struct (record { number = number; generic = number })

abbrev pub typed_row_field : ℕ → List ℕ → FieldKind → List Annotation → Field
typed_row_field value name kind annotations = record { name = name; discriminant_value = value; annotations = annotations; kind = kind }
