-- What is asked of a message where lists became lists of structs: that they are read as what they were, and that no level is
-- missing inside them; and when two records are the same but for the levels that their missing parts carry.
use Rattle.std.specs.Prelude.{ℕ, ◌≡◌, List, ◌∷◌, Bool, true, false, not, ◌&&◌}
use Rattle.capnp_wire.specs.Tree as tree
use Rattle.capnp_wire.specs.Tree.{Tree}
use Rattle.capnp_wire.specs.declared.fault.Fault.TheVariants as fault
use Rattle.capnp_device.specs.declared.error.ErrorKind.{ErrorKind}
use Rattle.capnp_device.specs.declared.error.ErrorKind.TheVariants.{TooDeep}
use Rattle.capnp_schema.specs.Types.{SchemaType, struct_number}
use Rattle.capnp_schema.specs.Schema.{Schemas, TypedField, field_at, fields_of}
use Rattle.capnp_records.specs.Record as value
use Rattle.capnp_records.specs.Record.{Value, Values, Union, Record, Parts, NoUnion, Active, Unknown, NoValues, MoreValues, Endless}
use Rattle.capnp_records.specs.Reading.{element_type}
use Rattle.capnp_records.specs.Compatible.{became_struct, projection_of}

-- ---- values of which no part was refused for want of levels ----

abbrev pub is_too_deep : ErrorKind → Bool
is_too_deep TooDeep = true
is_too_deep kind = false

-- an untyped pointer that stands where no level was left
abbrev pub is_deep_leaf : Tree → Bool
is_deep_leaf (tree.FaultLeaf fault.TooDeep) = true
is_deep_leaf x = false

abbrev mutual
  pub is_uncut : Value → Bool
  is_uncut (value.Fault kind) = not (is_too_deep kind)
  is_uncut (value.Untyped x) = not (is_deep_leaf x)
  is_uncut (value.Struct r) = is_uncut_record r
  is_uncut (value.Group r) = is_uncut_record r
  is_uncut (value.Elements vs) = are_uncut vs
  is_uncut v = true

  pub are_uncut : Values → Bool
  are_uncut NoValues = true
  are_uncut (MoreValues v vs) = is_uncut v && are_uncut vs

  pub is_uncut_union : Union → Bool
  is_uncut_union (Active i v) = is_uncut v
  is_uncut_union u = true

  pub is_uncut_record : Record → Bool
  is_uncut_record (Parts vs u) = are_uncut vs && is_uncut_union u

-- ---- lists that are read as what they were ----

-- what is asked where elements became structs, or else
abbrev pub asked_by : Bool → Bool → Bool → Bool
asked_by true upgraded others = upgraded
asked_by false upgraded others = others

-- Of what an older type and a newer one read at one place: where the newer reads the elements of a list that became one of
-- structs, the older reads elements too, since they have a size that it reads, and no level is missing inside; and so at
-- every depth.
abbrev mutual
  pub lists_read : Schemas → SchemaType → SchemaType → Value → Value → Bool
  lists_read set s t (value.Struct r) (value.Struct q) = record_lists_read set (struct_number s) (struct_number t) r q
  lists_read set s t (value.Group r) (value.Group q) = record_lists_read set (struct_number s) (struct_number t) r q
  lists_read set s t (value.Elements vs) (value.Elements ws) =
      asked_by (became_struct (element_type s) (element_type t))
      (are_uncut ws && first_lists_read set (element_type s) (field_at set (struct_number (element_type t)) 0).type vs ws)
      (each_lists_read set (element_type s) (element_type t) vs ws)
  lists_read set s t v (value.Elements ws) = not (became_struct (element_type s) (element_type t))
  lists_read set s t v w = true

  pub each_lists_read : Schemas → SchemaType → SchemaType → Values → Values → Bool
  each_lists_read set s t (MoreValues v vs) (MoreValues w ws) = lists_read set s t v w && each_lists_read set s t vs ws
  each_lists_read set s t vs ws = true

  -- of elements and the structs that they became, by the element's type and that of field 0
  pub first_lists_read : Schemas → SchemaType → SchemaType → Values → Values → Bool
  first_lists_read set s t (MoreValues v vs) (MoreValues w ws) = struct_lists_read set s t v w && first_lists_read set s t vs ws
  first_lists_read set s t vs ws = true

  pub struct_lists_read : Schemas → SchemaType → SchemaType → Value → Value → Bool
  struct_lists_read set s t v (value.Struct (Parts ws u)) = part_lists_read set s t v ws
  struct_lists_read set s t v w = true

  pub part_lists_read : Schemas → SchemaType → SchemaType → Value → Values → Bool
  part_lists_read set s t v (MoreValues w ws) = lists_read set s t v w
  part_lists_read set s t v ws = true

  pub field_lists_read : Schemas → List TypedField → List TypedField → Values → Values → Bool
  field_lists_read set (f ∷ fs) (g ∷ gs) (MoreValues v vs) (MoreValues w ws) = lists_read set f.type g.type v w && field_lists_read set fs gs vs ws
  field_lists_read set fs gs vs ws = true

  pub union_lists_read : Schemas → ℕ → ℕ → Union → Union → Bool
  union_lists_read set a b (Active i v) (Active j w) = lists_read set (field_at set a i).type (field_at set b i).type v w
  union_lists_read set a b u x = true

  pub record_lists_read : Schemas → ℕ → ℕ → Record → Record → Bool
  record_lists_read set a b (Parts vs u) (Parts ws x) = field_lists_read set (fields_of set a) (fields_of set b) vs ws && union_lists_read set a b u x

-- ---- records but for the levels of missing parts ----

-- A list of pointers is read with the levels that its reader has left, and the same pointers as structs with one less: so a
-- missing part there carries other levels under the older schema and the newer.
abbrev mutual
  pub unleveled : Value → Value
  unleveled (value.Missing l) = value.Missing Endless
  unleveled (value.Struct r) = value.Struct (unleveled_record r)
  unleveled (value.Group r) = value.Group (unleveled_record r)
  unleveled (value.Elements vs) = value.Elements (unleveled_values vs)
  unleveled v = v

  pub unleveled_values : Values → Values
  unleveled_values NoValues = NoValues
  unleveled_values (MoreValues v vs) = MoreValues (unleveled v) (unleveled_values vs)

  pub unleveled_union : Union → Union
  unleveled_union NoUnion = NoUnion
  unleveled_union (Active i v) = Active i (unleveled v)
  unleveled_union (Unknown d) = Unknown d

  pub unleveled_record : Record → Record
  unleveled_record (Parts vs u) = Parts (unleveled_values vs) (unleveled_union u)

-- ---- what is asked of a struct, and what an older schema sees of it then ----

-- of the records that an older brand and a newer one read of one struct: each list that became one of structs, where it is
-- there and read, is read as what it was, and no level is missing inside
abbrev pub AreUpgradesRead : Schemas → ℕ → ℕ → Record → Record → Type 0
AreUpgradesRead set older newer r q = record_lists_read set older newer (unleveled_record r) (unleveled_record q) ≡ true

-- the older record is the projection of the newer, but for the levels of missing parts
abbrev pub IsSeenOf : Schemas → ℕ → ℕ → Record → Record → Type 0
IsSeenOf set older newer r q = unleveled_record r ≡ projection_of set older newer (unleveled_record q)
