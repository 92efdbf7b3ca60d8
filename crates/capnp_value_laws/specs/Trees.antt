-- What is printed of a value, as it is written: leaves by their bytes, and brackets with parts.
use Rattle.std.specs.Prelude.{ℕ, suc, List, [], ◌∷◌, ◌++◌, Bool, true, false, not, ◌||◌, ◌==◌, cond, codes, flat_map, Option, Some, None}
use Rattle.std.specs.Fmt.{debug_escape}
use Rattle.capnp_schema.specs.Schema.{Schemas, field_at, is_member}
use Rattle.capnp_schema.specs.Types.{SchemaType, struct_number}
use Rattle.capnp_records.specs.Reading.{element_type}
use Rattle.capnp_records.specs.Record as value
use Rattle.capnp_records.specs.Record.{Active, MoreValues, NoUnion, NoValues, Record, Union, Unknown, Value, Values, is_there}
use Rattle.capnp_records.specs.Text.{data_text, enum_text, stands_before}
use Rattle.capnp_json_fields.specs.Marks.{is_float}
use Rattle.capnp_float_texts.specs.Texts.{number_text}
use Rattle.capnp_value_texts.specs.Written.{Fields, Items, Leaf, NoPart, Part, Parts, Written}

-- ---- parts ----

abbrev pub both_parts : Parts → Parts → Parts
both_parts NoPart qs = qs
both_parts (Part place name w ps) qs = Part place name w (both_parts ps qs)

abbrev pub part_if : (is_shown : Bool) → (name : List ℕ) → Written → Parts
part_if true name w = Part 0 name w NoPart
part_if false name w = NoPart

-- the active member while its place is still to come: its index, and its part where it is shown
abbrev pub MemberPart : Type 0
MemberPart = Option (ℕ × Parts)

abbrev pub member_left : MemberPart → Parts
member_left None = NoPart
member_left (Some m) = m.1

-- the member where it stands before the non-union field of an index, and it where its place is still to come behind that
abbrev pub parts_before : MemberPart → (index : ℕ) → Parts
parts_before None i = NoPart
parts_before (Some m) i = cond (stands_before (Some (m.0, [])) i) m.1 NoPart

abbrev pub part_later : MemberPart → (index : ℕ) → MemberPart
part_later None i = None
part_later (Some m) i = cond (stands_before (Some (m.0, [])) i) None (Some m)

-- at a member's own index stands nothing
abbrev pub own_parts : (is_member : Bool) → MemberPart → (index : ℕ) → Parts → Parts
own_parts true m i own = NoPart
own_parts false m i own = both_parts (parts_before m i) own

abbrev pub member_behind : (is_member : Bool) → MemberPart → (index : ℕ) → MemberPart
member_behind true m i = m
member_behind false m i = part_later m i

-- ---- values ----

-- a text of ASCII in quotes
abbrev pub quoted_bytes : List ℕ → List ℕ
quoted_bytes bs = 34 ∷ (flat_map (debug_escape 34) bs ++ 34 ∷ [])

-- Void is `()`, as a struct without fields is. Nothing is printed of the others that have no bytes here. A field says whether its
-- numbers are floats, and a list hands it on to its elements.
abbrev mutual
  pub printed_value : Schemas → (floats : Bool) → SchemaType → Value → Written
  printed_value set floats t value.Void = Fields 0 NoPart
  printed_value set floats t (value.Truth b) = Leaf 0 (cond b (codes "true") (codes "false"))
  printed_value set floats t (value.Number n) = Leaf 0 (number_text floats t n)
  printed_value set floats t (value.Enum n) = Leaf 0 (enum_text set t n)
  printed_value set floats t (value.Text bs) = Leaf 0 (quoted_bytes bs)
  printed_value set floats t (value.Data bs) = Leaf 0 (data_text bs)
  printed_value set floats t (value.Struct r) = Fields 0 (printed_record set (struct_number t) r)
  printed_value set floats t (value.Group r) = Fields 0 (printed_record set (struct_number t) r)
  printed_value set floats t (value.Elements vs) = Items 0 (printed_elements set floats (element_type t) vs)
  printed_value set floats t (value.Untyped x) = Leaf 0 []
  printed_value set floats t (value.Fault kind) = Leaf 0 []
  printed_value set floats t (value.Missing l) = Leaf 0 []
  printed_value set floats t value.Elsewhere = Leaf 0 []

  pub printed_elements : Schemas → (floats : Bool) → SchemaType → Values → Parts
  printed_elements set floats e NoValues = NoPart
  printed_elements set floats e (MoreValues v vs) = Part 0 [] (printed_value set floats e v) (printed_elements set floats e vs)

  pub printed_record : Schemas → (brand : ℕ) → Record → Parts
  printed_record set b (value.Parts vs u) = printed_fields set b 0 vs (printed_member set b u)

  -- the non-union fields that are there, by index; the active member stands before the first one of greater index, shown or not
  pub printed_fields : Schemas → (brand index : ℕ) → Values → MemberPart → Parts
  printed_fields set b i NoValues m = member_left m
  printed_fields set b i (MoreValues v vs) m =
      both_parts (own_parts (is_member (field_at set b i).field) m i (part_if (is_there v) (field_at set b i).field.name (printed_value set (is_float (field_at set b i)) (field_at set b i).type v)))
      (printed_fields set b (suc i) vs (member_behind (is_member (field_at set b i).field) m i))

  -- a member of discriminant value 0 is shown where it is there, and every other one always
  pub printed_member : Schemas → (brand : ℕ) → Union → MemberPart
  printed_member set b NoUnion = None
  printed_member set b (Unknown number) = None
  printed_member set b (Active i v) =
      Some (i, part_if (is_there v || not ((field_at set b i).field.discriminant_value == 0)) (field_at set b i).field.name (printed_value set (is_float (field_at set b i)) (field_at set b i).type v))
