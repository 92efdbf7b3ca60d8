-- Worked rows of texts with floats. They judge the definitions.
use Rattle.std.proofs.Common.{ℕ, ◌≡◌, refl, List, [], ◌∷◌, ◌++◌, true, false, None, Ok, Err, codes, pos, negsuc}
use Rattle.std.specs.Fmt.{digits}
use Rattle.capnp_device.specs.declared.error.ErrorKind.TheVariants.{BadPointer, TooDeep, WrongPointerKind}
use Rattle.capnp_floats.specs.declared.width.Width.TheVariants.{Float32, Float64}
use Rattle.capnp_schema.specs.Schema.{Annotation, Field, Group, Node, Schemas, Slot, VoidValue, no_types}
use Rattle.capnp_schema.specs.Types.{IntType, ListType, StructType, UIntType, VoidType}
use Rattle.capnp_records.specs.Record as value
use Rattle.capnp_records.specs.Record.{Active, Left, MoreValues, NoUnion, NoValues, Parts, Record, Union, Value, Values}
use Rattle.capnp_records.specs.Text.{known_pieces, said_text, text_of}
use Rattle.capnp_json_fields.specs.Marks.{float_id}
use Rattle.capnp_float_texts.specs.Numbers.{float_bytes}
use Rattle.capnp_float_texts.specs.Texts.{float_text_of, text_within}

-- ---- a set, and records under it ----

abbrev marked : List Annotation
marked = record { id = float_id; value = VoidValue } ∷ []

abbrev slot : List ℕ → List Annotation → Field
slot name annotations = record { name = name; discriminant_value = 65535; annotations = annotations; kind = Slot 0 VoidValue }

abbrev member : List ℕ → ℕ → List Annotation → Field
member name number annotations = record { name = name; discriminant_value = number; annotations = annotations; kind = Slot 0 VoidValue }

abbrev node : List ℕ → List Field → Node
node name fields = record { id = 0; display_name = name; annotations = []; data_word_count = 0; pointer_count = 0; is_group = false; discriminant_count = 0; discriminant_offset = 0; fields = fields }

-- struct 0 has marked fields and others, struct 1 a union; the marks of an integer with a sign, of a group and of a struct say
-- nothing
abbrev rows : Schemas
rows = record {
  nodes =
      node (codes "All") (slot (codes "ratio") marked ∷ slot (codes "count") [] ∷ slot (codes "ratios") marked ∷ slot (codes "grid") marked ∷ slot (codes "whole") marked
      ∷ record { name = codes "group"; discriminant_value = 65535; annotations = marked; kind = Group 1 } ∷ slot (codes "next") marked ∷ [])
      ∷ node (codes "Union") (member (codes "none") 0 [] ∷ slot (codes "x") [] ∷ member (codes "price") 1 marked ∷ member (codes "rank") 2 [] ∷ []) ∷ [];
  brands =
      record { node = 0; field_types = UIntType 4 ∷ UIntType 4 ∷ ListType (UIntType 8) ∷ ListType (ListType (UIntType 4)) ∷ IntType 4 ∷ StructType 1 1 ∷ StructType 0 0 ∷ []; annotation_types = no_types }
      ∷ record { node = 1; field_types = VoidType ∷ UIntType 4 ∷ UIntType 8 ∷ UIntType 4 ∷ []; annotation_types = no_types } ∷ [];
  enums = [];
}

abbrev values : List Value → Values
values [] = NoValues
values (v ∷ vs) = MoreValues v (values vs)

abbrev missing : Value
missing = value.Missing (Left 63)

abbrev number : ℕ → Value
number n = value.Number (pos n)

abbrev union_record : Union → Record
union_record union = Parts (values (value.Elsewhere ∷ number 3 ∷ value.Elsewhere ∷ value.Elsewhere ∷ [])) union

abbrev all_record : (ratio : ℕ) → (ratios grid group next : Value) → Record
all_record ratio ratios grid group next = Parts (values (number ratio ∷ number ratio ∷ ratios ∷ grid ∷ value.Number (negsuc 4) ∷ group ∷ next ∷ [])) NoUnion

-- ---- fields ----

-- a field that is marked is shown as a float, and the next one, of the same bits, as an integer
marked_and_not : float_text_of rows false false (StructType 0 0) (value.Struct (all_record 2139095040 missing missing missing missing)) ≡ said_text (codes "(ratio = inf, count = 2139095040, whole = -5)")
unfolding digits float_bytes
marked_and_not = refl

-- the bits of a finite float are those of its own width
finite_32 : float_text_of rows false false (StructType 0 0) (value.Struct (Parts (values (number 1069547520 ∷ number 7 ∷ [])) NoUnion))
    ≡ Ok (known_pieces (codes "(ratio = ") ++ (known_pieces (float_bytes Float32 1069547520) ++ known_pieces (codes ", count = 7")) ++ known_pieces (codes ")"))
unfolding digits
finite_32 = refl

finite_64 : float_text_of rows false false (ListType (UIntType 8)) (value.Elements (values (number 4607182418800017408 ∷ []))) ≡ said_text (codes "[4607182418800017408]")
unfolding digits
finite_64 = refl

list_64 : float_text_of rows true false (ListType (UIntType 8)) (value.Elements (values (number 4607182418800017408 ∷ [])))
    ≡ Ok (known_pieces (codes "[") ++ (known_pieces (float_bytes Float64 4607182418800017408) ++ []) ++ known_pieces (codes "]"))
list_64 = refl

-- a list hands its mark on, and a list of lists too
lists : float_text_of rows false false (StructType 0 0) (value.Struct (all_record 4286578688 (value.Elements (values (number 9221120237041090560 ∷ number 18442240474082181120 ∷ [])))
    (value.Elements (values (value.Elements (values (number 2143289344 ∷ [])) ∷ value.Elements (values []) ∷ []))) missing missing))
    ≡ said_text (codes "(ratio = -inf, count = 4286578688, ratios = [nan, -inf], grid = [[nan], []], whole = -5)")
unfolding digits float_bytes
lists = refl

indented : float_text_of rows false true (StructType 0 0) (value.Struct (all_record 2139095040 (value.Elements (values (number 9218868437227405312 ∷ []))) missing missing missing))
    ≡ said_text (codes "(\n  ratio = inf,\n  count = 2139095040,\n  ratios = [\n    inf\n  ],\n  whole = -5\n)")
unfolding digits float_bytes
indented = refl

-- the mark of a group's or struct's own field is no mark of the fields in it
group : float_text_of rows false false (StructType 0 0) (value.Struct (all_record 2139095040 missing missing (value.Group (union_record (Active 2 (number 9218868437227405312)))) (value.Struct (all_record 2139095040 missing missing missing missing))))
    ≡ said_text (codes "(ratio = inf, count = 2139095040, whole = -5, group = (x = 3, price = inf), next = (ratio = inf, count = 2139095040, whole = -5))")
unfolding digits float_bytes
group = refl

unmarked_member : float_text_of rows false false (StructType 1 1) (value.Struct (union_record (Active 3 (number 2139095040)))) ≡ said_text (codes "(x = 3, rank = 2139095040)")
unfolding digits
unmarked_member = refl

first_member : float_text_of rows false false (StructType 1 1) (value.Struct (union_record (Active 0 value.Void))) ≡ said_text (codes "(none = (), x = 3)")
unfolding digits
first_member = refl

-- ---- values that stand alone ----

alone : float_text_of rows true false (UIntType 4) (number 2139095040) ≡ said_text (codes "inf")
unfolding float_bytes
alone = refl

alone_as_integer : float_text_of rows false false (UIntType 4) (number 2139095040) ≡ said_text (codes "2139095040")
unfolding digits
alone_as_integer = refl

-- no number of another width is a float
small : float_text_of rows true false (UIntType 2) (number 31744) ≡ said_text (codes "31744")
unfolding digits
small = refl

signed : float_text_of rows true false (IntType 8) (value.Number (negsuc 4)) ≡ said_text (codes "-5")
unfolding digits
signed = refl

-- a struct has no mark that it hands on
struct_alone : float_text_of rows true false (StructType 1 1) (value.Struct (union_record (Active 3 (number 1)))) ≡ said_text (codes "(x = 3, rank = 1)")
unfolding digits
struct_alone = refl

-- what shows no floats shows the integer of the bits, marked or not
plain : text_of rows false (StructType 0 0) (value.Struct (all_record 2139095040 missing missing missing missing)) ≡ said_text (codes "(ratio = 2139095040, count = 2139095040, whole = -5)")
unfolding digits
plain = refl

-- ---- refusals and levels ----

refused : float_text_of rows false false (StructType 0 0) (value.Struct (all_record 2139095040 (value.Fault BadPointer) (value.Fault WrongPointerKind) missing missing)) ≡ Err BadPointer
unfolding digits float_bytes
refused = refl

no_level : text_within rows 0 true None (ListType (UIntType 4)) (value.Elements (values [])) ≡ Err TooDeep
no_level = refl

deep_before_kind : text_within rows 0 true None (ListType (UIntType 4)) (value.Fault WrongPointerKind) ≡ Err TooDeep
deep_before_kind = refl
