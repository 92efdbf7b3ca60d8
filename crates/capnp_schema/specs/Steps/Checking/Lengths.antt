-- How many types and annotations there are at each field and each enumerant.
use Rattle.std.specs.Prelude.{ℕ, List, length, map, Option, Some, None, Vec}
use Rattle.std.specs.declared.alloc.Global.{Global}
use Rattle.capnp_base.specs.declared.introspect.«Type».{«Type» as TypeHandle}
use Rattle.capnp_schema.specs.Types.{seen_type}
use Rattle.capnp_schema.specs.Schema.{Annotation}

abbrev pub children_counts : List (Vec TypeHandle Global) → List ℕ
children_counts types = map length (map (λ (ts : Vec TypeHandle Global). map seen_type ts.items) types)

-- of entries by what they are to definitions, and by the annotations of these
abbrev pub annotation_counts : {A B : Type 0} → (A → B) → (B → List Annotation) → List A → List ℕ
annotation_counts seen annotations entries = map length (map annotations (map seen entries))

abbrev pub types_count : Option (Vec TypeHandle Global) → ℕ
types_count None = 0
types_count (Some ts) = length ts.items

abbrev pub annotation_count : {A B : Type 0} → (A → B) → (B → List Annotation) → Option A → ℕ
annotation_count seen annotations None = 0
annotation_count seen annotations (Some x) = length (annotations (seen x))
