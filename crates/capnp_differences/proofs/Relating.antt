-- A pair of structs of which nothing differs is shared, and of a shared pair nothing differs.
use Rattle.std.proofs.Common.{ℕ, ◌<◌, ◌≤◌, ◌≡◌, ◌==◌, nat_le, ⊎_elim, inl, inr, refl, Option, Some, None, true, length, arith}
use Rattle.std.proofs.lemmas.Bool.{cases_lt, eq-eqb, eqb-true, le-leb, leb-true}
use Rattle.capnp_schema.specs.Types.{SchemaType, VoidType, BoolType, IntType, UIntType, EnumType, TextType, DataType, StructType, ListType, AnyPointerType}
use Rattle.capnp_schema.specs.Schema.{Schemas, enum_at, fields_of, field_at, node_of}
use Rattle.capnp_records.specs.Compatible.{Pairs, Related, SharedStruct, type_in_place}
use Rattle.capnp_differences.specs.Differences.{DiffersAt, SameDefaults, struct_pair, type_change}
use Rattle.capnp_differences.specs.Steps.Comparing.{Has, HasNamed, pair_of}
use Rattle.capnp_differences.specs.Steps.Telling.{AreKnown, IsKnown}
use Rattle.capnp_differences.specs.declared.differences.Cause.{Cause}
use Rattle.capnp_differences.specs.declared.differences.Cause.TheVariants as cause
use Rattle.capnp_differences.proofs.Changes.{kinds_defaults, kinds_from, kinds_same, members_from, members_same, same_from, same_none, unions_from, unions_same}

module _ (set : Schemas) (pairs : Pairs) where
  -- ---- types ----

  related_from : (became : Cause) (s t : SchemaType) → ((c : Cause) → type_change became set s t ≡ Some c → ⊥) → Has pairs (struct_pair set s t) → Related true set pairs s t
  related_from became VoidType VoidType quiet h = tt
  related_from became BoolType BoolType quiet h = tt
  related_from became (IntType m) (IntType n) quiet h = eqb-true m n (same_from (m == n) cause.TypeChanged quiet)
  related_from became (UIntType m) (UIntType n) quiet h = eqb-true m n (same_from (m == n) cause.TypeChanged quiet)
  related_from became TextType TextType quiet h = tt
  related_from became DataType DataType quiet h = tt
  related_from became AnyPointerType AnyPointerType quiet h = tt
  related_from became (EnumType d) (EnumType e) quiet h =
      leb-true (length (enum_at set d).enumerants) (length (enum_at set e).enumerants)
      (same_from (nat_le (length (enum_at set d).enumerants) (length (enum_at set e).enumerants)) cause.FewerEnumerants quiet)
  related_from became (ListType s) (ListType t) quiet h = related_from cause.ElementsBecameStructs s (type_in_place true set s t) quiet h
  related_from became (StructType a g) (StructType b k) quiet h = h
  related_from became s (StructType b k) quiet h = absurd (quiet became refl)
  related_from became s t quiet h = absurd (quiet cause.TypeChanged refl)

  related_same : (became : Cause) (s t : SchemaType) → Related true set pairs s t → (c : Cause) → type_change became set s t ≡ Some c → ⊥
  related_same became VoidType VoidType r c e = cc
  related_same became BoolType BoolType r c e = cc
  related_same became (IntType m) (IntType n) r c e = same_none (m == n) cause.TypeChanged c (eq-eqb m n r) e
  related_same became (UIntType m) (UIntType n) r c e = same_none (m == n) cause.TypeChanged c (eq-eqb m n r) e
  related_same became TextType TextType r c e = cc
  related_same became DataType DataType r c e = cc
  related_same became AnyPointerType AnyPointerType r c e = cc
  related_same became (EnumType x) (EnumType y) r c e =
      same_none (nat_le (length (enum_at set x).enumerants) (length (enum_at set y).enumerants)) cause.FewerEnumerants c
      (le-leb (length (enum_at set x).enumerants) (length (enum_at set y).enumerants) r) e
  related_same became (ListType s) (ListType t) r c e = related_same cause.ElementsBecameStructs s (type_in_place true set s t) r c e
  related_same became (StructType a g) (StructType b k) r c e = cc
  related_same became s t r c e = absurd r

  related_named : (s t : SchemaType) → Related true set pairs s t → Has pairs (struct_pair set s t)
  related_named VoidType VoidType r = tt
  related_named BoolType BoolType r = tt
  related_named (IntType m) (IntType n) r = tt
  related_named (UIntType m) (UIntType n) r = tt
  related_named TextType TextType r = tt
  related_named DataType DataType r = tt
  related_named AnyPointerType AnyPointerType r = tt
  related_named (EnumType d) (EnumType e) r = tt
  related_named (ListType s) (ListType t) r = related_named s (type_in_place true set s t) r
  related_named (StructType a g) (StructType b k) r = r
  related_named s t r = absurd r

  -- ---- structs ----

  -- of a shared pair nothing differs
  pub shared_same : (a b : ℕ) → SharedStruct true set pairs a b → (o : Option ℕ) (c : Cause) → DiffersAt set (pair_of a b) o c → ⊥
  shared_same a b s None c h = unions_same (node_of set a) (node_of set b) s.union c h
  shared_same a b s (Some i) c (below, inl gone) = let start = s.beginning in let past = gone.0 in omega arith
  shared_same a b s (Some i) c (below, inr (here, inl e)) = kinds_same (field_at set a i).field.kind (field_at set b i).field.kind (s.fields i below).kind c e
  shared_same a b s (Some i) c (below, inr (here, inr (inl other))) = other.1 (kinds_defaults (field_at set a i).field.kind (field_at set b i).field.kind (s.fields i below).kind)
  shared_same a b s (Some i) c (below, inr (here, inr (inr (inl e)))) = members_same (field_at set a i).field (field_at set b i).field (s.fields i below).discriminant_value c e
  shared_same a b s (Some i) c (below, inr (here, inr (inr (inr e)))) = related_same cause.TypeChanged (field_at set a i).type (field_at set b i).type (s.fields i below).type c e

  pub shared_named : (a b : ℕ) → SharedStruct true set pairs a b → (i : ℕ) → i < length (fields_of set a) → Has pairs (struct_pair set (field_at set a i).type (field_at set b i).type)
  shared_named a b s i below = related_named (field_at set a i).type (field_at set b i).type (s.fields i below).type

  -- a pair of which nothing differs is shared, where the pairs that its fields name are there
  module _ (a b : ℕ) (quiet : (o : Option ℕ) (c : Cause) → DiffersAt set (pair_of a b) o c → ⊥) (known : AreKnown set a b (length (fields_of set a))) (named : HasNamed set pairs a b) where
    start : length (fields_of set a) ≤ length (fields_of set b)
    start = ⊎_elim (λ fewer. absurd (quiet (Some (length (fields_of set b))) cause.FieldGone (fewer, inl (omega arith, refl)))) (λ enough. enough) (cases_lt (length (fields_of set b)) (length (fields_of set a)))

    default : (i : ℕ) → i < length (fields_of set a) → i < length (fields_of set b) → SameDefaults (field_at set a i).field.kind (field_at set b i).field.kind
    default i below here = at (known i below here)
      where
        at : IsKnown (SameDefaults (field_at set a i).field.kind (field_at set b i).field.kind) → SameDefaults (field_at set a i).field.kind (field_at set b i).field.kind
        at (inl same) = same
        at (inr other) = absurd (quiet (Some i) cause.DefaultChanged (below, inr (here, inr (inl (refl, other, λ e. quiet (Some i) cause.TypeChanged (below, inr (here, inr (inr (inr e)))))))))

    pub shared_from : SharedStruct true set pairs a b
    shared_from = record {
      beginning = start;
      fields = λ i below. let here : i < length (fields_of set b) = (let enough = start in omega arith) in record {
        kind = kinds_from (field_at set a i).field.kind (field_at set b i).field.kind (λ c e. quiet (Some i) c (below, inr (here, inl e))) (default i below here);
        discriminant_value = members_from (field_at set a i).field (field_at set b i).field (λ c e. quiet (Some i) c (below, inr (here, inr (inr (inl e)))));
        type = related_from cause.TypeChanged (field_at set a i).type (field_at set b i).type (λ c e. quiet (Some i) c (below, inr (here, inr (inr (inr e))))) (named i below here);
      };
      union = unions_from (node_of set a) (node_of set b) (λ c h. quiet None c h);
    }
