-- A compatible successor is one where lists may have become lists of structs, too.
use Rattle.std.specs.Prelude.{ℕ, ◌≡◌, true, false}
use Rattle.capnp_schema.specs.StructHandles.{IsStruct, number_of, set_of}
use Rattle.capnp_schema.specs.declared.schema.structs.StructSchema.{StructSchema}
use Rattle.capnp_schema.specs.Schema.{Schemas, field_at}
use Rattle.capnp_schema.specs.Types.{SchemaType, VoidType, BoolType, IntType, UIntType, EnumType, TextType, DataType, StructType, ListType, AnyPointerType}
use Rattle.capnp_records.specs.Compatible.{IsCompatible, IsCompatibleOrUpgraded, Pairs, Related, SharedStruct}
use Rattle.capnp_compatible.specs.Checked.{Follows}
use Rattle.capnp_compatible.proofs.Walking.{decides_no, decides_yes}

related_wider : (set : Schemas) (pairs : Pairs) (s t : SchemaType) → Related false set pairs s t → Related true set pairs s t
related_wider set pairs VoidType VoidType h = tt
related_wider set pairs BoolType BoolType h = tt
related_wider set pairs (IntType m) (IntType n) h = h
related_wider set pairs (UIntType m) (UIntType n) h = h
related_wider set pairs TextType TextType h = tt
related_wider set pairs DataType DataType h = tt
related_wider set pairs AnyPointerType AnyPointerType h = tt
related_wider set pairs (EnumType d) (EnumType e) h = h
related_wider set pairs (ListType (StructType a i)) (ListType (StructType b g)) h = h
related_wider set pairs (ListType s) (ListType (StructType b g)) h = absurd h
related_wider set pairs (ListType s) (ListType t) h = related_wider set pairs s t h
related_wider set pairs (StructType a i) (StructType b g) h = h
related_wider set pairs s t h = absurd h

struct_wider : (set : Schemas) (pairs : Pairs) (a b : ℕ) → SharedStruct false set pairs a b → SharedStruct true set pairs a b
struct_wider set pairs a b h = record {
  beginning = h.beginning;
  fields = λ i below. record {
    kind = (h.fields i below).kind;
    discriminant_value = (h.fields i below).discriminant_value;
    type = related_wider set pairs (field_at set a i).type (field_at set b i).type (h.fields i below).type;
  };
  union = h.union;
}

pub wider : (set : Schemas) (a b : ℕ) → IsCompatible set a b → IsCompatibleOrUpgraded set a b
wider set a b h = record { pairs = h.pairs; given = h.given; closed = λ m n p. struct_wider set h.pairs m n (h.closed m n p) }

module _ (older newer : StructSchema) (one : IsStruct older) (other : IsStruct newer) (set : set_of newer ≡ set_of older) where
  pub follows_as_it_was : IsCompatible (set_of older) (number_of older) (number_of newer) → Follows older newer false
  follows_as_it_was h = record { older_stands = one; newer_stands = other; one_set = set; pairs = wider (set_of older) (number_of older) (number_of newer) h; decided = decides_no (λ n. n h) }

  pub follows_upgraded : (IsCompatible (set_of older) (number_of older) (number_of newer) → ⊥) → IsCompatibleOrUpgraded (set_of older) (number_of older) (number_of newer) → Follows older newer true
  follows_upgraded n h = record { older_stands = one; newer_stands = other; one_set = set; pairs = h; decided = decides_yes n }
