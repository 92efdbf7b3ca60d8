-- Places with too many fields, enumerants or annotations.
use Rattle.std.proofs.Common.{◌≡◌, ℕ, ◌<◌, ◌≤◌, Some, arith, length, slice_get, sym}
use Rattle.capnp_device.specs.declared.error.SchemaTable.TheVariants.{Node as InNodes, Enum as InEnums}
use Rattle.capnp_schema.specs.Schema.{Schemas, Node, Enum, Enumerant, Field}
use Rattle.capnp_schema.specs.Accepted.{HasFewAnnotations}
use Rattle.capnp_schema.specs.Broken.{EntryBreaks, IsBroken, field_count, enumerant_count, node_annotation_count, field_annotation_count, enum_annotation_count, enumerant_annotation_count}
use Rattle.capnp_schema.proofs.EntryWalk.{entry_breaks}

module _ (set : Schemas) (n : ℕ) (x : Node) (here : slice_get set.nodes n ≡ Some x) where
  pub crowded_node : 65535 < length x.fields → IsBroken set 3 InNodes n 65535
  crowded_node many = field_count n (entry_breaks set.nodes (λ (y : Node). length y.fields ≤ 65535) n x (sym here) (λ few. absurd (omega arith)))

  pub annotated_node : (HasFewAnnotations x.annotations → ⊥) → IsBroken set 3 InNodes n 65535
  annotated_node many = node_annotation_count n (entry_breaks set.nodes (λ (y : Node). HasFewAnnotations y.annotations) n x (sym here) many)

  pub annotated_field : (i : ℕ) → EntryBreaks x.fields (λ (f : Field). HasFewAnnotations f.annotations) i → IsBroken set 3 InNodes n i
  annotated_field i many = field_annotation_count n i (record { entry = x; is = here; child = many })

module _ (set : Schemas) (n : ℕ) (x : Enum) (here : slice_get set.enums n ≡ Some x) where
  pub crowded_enum : 65535 < length x.enumerants → IsBroken set 3 InEnums n 65535
  crowded_enum many = enumerant_count n (entry_breaks set.enums (λ (y : Enum). length y.enumerants ≤ 65535) n x (sym here) (λ few. absurd (omega arith)))

  pub annotated_enum : (HasFewAnnotations x.annotations → ⊥) → IsBroken set 3 InEnums n 65535
  annotated_enum many = enum_annotation_count n (entry_breaks set.enums (λ (y : Enum). HasFewAnnotations y.annotations) n x (sym here) many)

  pub annotated_enumerant : (i : ℕ) → EntryBreaks x.enumerants (λ (y : Enumerant). HasFewAnnotations y.annotations) i → IsBroken set 3 InEnums n i
  annotated_enumerant i many = enumerant_annotation_count n i (record { entry = x; is = here; child = many })
