-- A rule that is broken at a place.
use Rattle.std.specs.Prelude.{ℕ, ◌<◌, ◌≡◌, List, length, slice_get, Some, ⊤}
use Rattle.capnp_device.specs.declared.error.SchemaTable.{SchemaTable}
use Rattle.capnp_device.specs.declared.error.SchemaTable.TheVariants.{Node as InNodes, Brand as InBrands, Enum as InEnums}
use Rattle.capnp_device.specs.declared.error.Error.{Error}
use Rattle.capnp_device.specs.declared.error.ErrorKind.{ErrorKind}
use Rattle.capnp_device.specs.declared.error.ErrorKind.TheVariants as error
use Rattle.capnp_schema.specs.Schema.{Schemas, Node, Brand, Enum, Enumerant, Field, TypedField, brand_at, node_of, fields_of, field_at}
use Rattle.capnp_schema.specs.Accepted.{AllName, AreFew, BrandHasTypes, DefaultIsOfType, DefaultStands, DiscriminantApart, DiscriminantFits, EnumHasTypes, FieldsApart, GroupStands, HasEachMember, HasFewAnnotations, HasNamedType, HasOwnName, HaveWords, NamesNode, NamesOwnGroup, ReadsDefault, SlotLiesInside}

-- that P isn't so of field i of brand b, which is there
pub record FieldBreaks (set : Schemas) (P : TypedField → Type 0) (b i : ℕ) : Type 0 where
  pub brand : b < length set.brands
  pub field : i < length (fields_of set b)
  pub broken : P (field_at set b i) → ⊥

-- that P isn't so of an entry of a list, which is there
pub record EntryBreaks {A : Type 0} (entries : List A) (P : A → Type 0) (i : ℕ) : Type 0 where
  pub entry : A
  pub is : slice_get entries i ≡ Some entry
  pub broken : P entry → ⊥

-- that P isn't so of child i of an entry
pub record ChildBreaks {A B : Type 0} (entries : List A) (children : A → List B) (P : B → Type 0) (e i : ℕ) : Type 0 where
  pub entry : A
  pub is : slice_get entries e ≡ Some entry
  pub child : EntryBreaks (children entry) P i

-- a rule by its number, the list in which it is broken, the entry there, and the field or enumerant; 65,535 where the
-- whole entry is meant
pub data IsBroken (set : Schemas) : ℕ → SchemaTable → ℕ → ℕ → Type 0 where
  field_type : (b i : ℕ) → FieldBreaks set (HasNamedType set) b i → IsBroken set 1 InBrands b i
  brand_types : (b : ℕ) → EntryBreaks set.brands (λ (x : Brand). AllName set x.annotation_types.own) b → IsBroken set 1 InBrands b 65535
  brand_child_types : (b i : ℕ) → ChildBreaks set.brands (λ (x : Brand). x.annotation_types.children) (AllName set) b i → IsBroken set 1 InBrands b i
  enum_types : (e : ℕ) → EntryBreaks set.enums (λ (x : Enum). AllName set x.annotation_types.own) e → IsBroken set 1 InEnums e 65535
  enum_child_types : (e i : ℕ) → ChildBreaks set.enums (λ (x : Enum). x.annotation_types.children) (AllName set) e i → IsBroken set 1 InEnums e i
  brand_node : (b : ℕ) → EntryBreaks set.brands (NamesNode set) b → IsBroken set 2 InBrands b 65535
  brand_lengths : (b : ℕ) → b < length set.brands → (BrandHasTypes (node_of set b) (brand_at set b) → ⊥) → IsBroken set 2 InBrands b 65535
  enum_lengths : (e : ℕ) → EntryBreaks set.enums EnumHasTypes e → IsBroken set 2 InEnums e 65535
  name : (n i : ℕ) → EntryBreaks set.nodes (λ (x : Node). HasOwnName x.fields i) n → IsBroken set 3 InNodes n i
  field_count : (n : ℕ) → EntryBreaks set.nodes (λ (x : Node). AreFew x.fields) n → IsBroken set 3 InNodes n 65535
  enumerant_count : (e : ℕ) → EntryBreaks set.enums (λ (x : Enum). AreFew x.enumerants) e → IsBroken set 3 InEnums e 65535
  node_annotation_count : (n : ℕ) → EntryBreaks set.nodes (λ (x : Node). HasFewAnnotations x.annotations) n → IsBroken set 3 InNodes n 65535
  field_annotation_count : (n i : ℕ) → ChildBreaks set.nodes (λ (x : Node). x.fields) (λ (f : Field). HasFewAnnotations f.annotations) n i → IsBroken set 3 InNodes n i
  enum_annotation_count : (e : ℕ) → EntryBreaks set.enums (λ (x : Enum). HasFewAnnotations x.annotations) e → IsBroken set 3 InEnums e 65535
  enumerant_annotation_count : (e i : ℕ) → ChildBreaks set.enums (λ (x : Enum). x.enumerants) (λ (y : Enumerant). HasFewAnnotations y.annotations) e i → IsBroken set 3 InEnums e i
  slot_outside : (b i : ℕ) → FieldBreaks set (SlotLiesInside (node_of set b)) b i → IsBroken set 4 InBrands b i
  default_kind : (b i : ℕ) → FieldBreaks set DefaultIsOfType b i → IsBroken set 5 InBrands b i
  default_words : (n i : ℕ) → ChildBreaks set.nodes (λ (x : Node). x.fields) DefaultStands n i → IsBroken set 6 InNodes n i
  default_list : (b i : ℕ) → FieldBreaks set ReadsDefault b i → IsBroken set 6 InBrands b i
  node_annotation_words : (n : ℕ) → EntryBreaks set.nodes (λ (x : Node). HaveWords x.annotations) n → IsBroken set 6 InNodes n 65535
  field_annotation_words : (n i : ℕ) → ChildBreaks set.nodes (λ (x : Node). x.fields) (λ (f : Field). HaveWords f.annotations) n i → IsBroken set 6 InNodes n i
  enum_annotation_words : (e : ℕ) → EntryBreaks set.enums (λ (x : Enum). HaveWords x.annotations) e → IsBroken set 6 InEnums e 65535
  enumerant_annotation_words : (e i : ℕ) → ChildBreaks set.enums (λ (x : Enum). x.enumerants) (λ (y : Enumerant). HaveWords y.annotations) e i → IsBroken set 6 InEnums e i
  group_type : (b i : ℕ) → FieldBreaks set (NamesOwnGroup set) b i → IsBroken set 7 InBrands b i
  group_parent : (g : ℕ) → g < length set.brands → (GroupStands set g → ⊥) → IsBroken set 8 InBrands g 65535
  members : (n : ℕ) → EntryBreaks set.nodes HasEachMember n → IsBroken set 9 InNodes n 65535
  discriminant_outside : (n : ℕ) → EntryBreaks set.nodes DiscriminantFits n → IsBroken set 10 InNodes n 65535
  fields_meet : (b i : ℕ) → FieldBreaks set (FieldsApart set b i) b i → IsBroken set 11 InBrands b i
  discriminant_met : (b i : ℕ) → FieldBreaks set (DiscriminantApart set b) b i → IsBroken set 12 InBrands b i

-- what a refusal says of the lists: that there is no memory, or a rule that is broken and where
abbrev pub IsKindOf : Schemas → ErrorKind → Type 0
IsKindOf set error.OutOfMemory = ⊤
IsKindOf set (error.Schema table field rule entry) = IsBroken set rule table entry field
IsKindOf set kind = ⊥

abbrev pub IsRefusalOf : Schemas → Error → Type 0
IsRefusalOf set e = IsKindOf set e.kind
