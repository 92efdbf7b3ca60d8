-- Worked rows: the calls by which texts make roots and values, and the places of what has none.
use Rattle.std.proofs.Common.{◌≡◌, ℕ, true, false, List, [], ◌∷◌, Ok, refl, codes, map}
use Rattle.std.specs.Char.{encode_utf8}
use Rattle.capnp_schema.specs.Schema.{Schemas, Node, Brand, Field, FieldKind, Slot, Group, VoidValue, UIntValue, TextValue, StructValue, ListValue, field_at, no_types}
use Rattle.capnp_schema.specs.Types.{SchemaType, VoidType, UIntType, TextType, StructType, ListType, AnyPointerType}
use Rattle.capnp_records.specs.Call.{Call, ElementAt, FieldNumber, Init, Initn, Op, PathStep, Set, TextSource, UIntSource, VoidSource}
use Rattle.capnp_value_texts.specs.Calls.{element_of_text, root_of_text}
use Rattle.capnp_value_texts.specs.Errors.{Read, refused}
use Rattle.capnp_value_texts.specs.Written.{parts_within, written_within}
use Rattle.capnp_value_texts.specs.declared.error.RefusalKind.TheVariants.{CannotStand, GivenTwice, NameUnknown}

abbrev field : List ℕ → ℕ → FieldKind → Field
field name member kind = record { name = name; discriminant_value = member; annotations = []; kind = kind }

-- a number, a struct of its own kind, a list of such, and lists of numbers; and a union of nothing, a text, and a group with a
-- number and an untyped pointer
abbrev node : Node
node = record {
  id = 1;
  display_name = [];
  annotations = [];
  data_word_count = 1;
  pointer_count = 5;
  is_group = false;
  discriminant_count = 3;
  discriminant_offset = 1;
  fields = field (codes "a") 65535 (Slot 0 (UIntValue 1 0)) ∷ field (codes "s") 65535 (Slot 0 (StructValue [])) ∷ field (codes "l") 65535 (Slot 1 (ListValue []))
      ∷ field (codes "m") 65535 (Slot 2 (ListValue [])) ∷ field (codes "v") 0 (Slot 0 VoidValue) ∷ field (codes "t") 1 (Slot 3 (TextValue [])) ∷ field (codes "g") 2 (Group 1) ∷ [];
}

abbrev group : Node
group = record {
  id = 2;
  display_name = [];
  annotations = [];
  data_word_count = 1;
  pointer_count = 5;
  is_group = true;
  discriminant_count = 0;
  discriminant_offset = 0;
  fields = field (codes "p") 65535 (Slot 4 (UIntValue 1 0)) ∷ field (codes "q") 65535 (Slot 4 VoidValue) ∷ [];
}

abbrev brand : ℕ → List SchemaType → Brand
brand n types = record { node = n; field_types = types; annotation_types = no_types }

abbrev set : Schemas
set = record {
  nodes = node ∷ group ∷ [];
  brands = brand 0 (UIntType 1 ∷ StructType 0 0 ∷ ListType (StructType 0 0) ∷ ListType (ListType (UIntType 1)) ∷ VoidType ∷ TextType ∷ StructType 1 1 ∷ []) ∷ brand 1 (UIntType 1 ∷ AnyPointerType ∷ []) ∷ [];
  enums = [];
}

abbrev call : List PathStep → PathStep → Op → Call
call path last op = record { path = path; last = last; op = op }

abbrev root : List ℕ → Read (List Call)
root text = root_of_text set 0 text

abbrev byte : ℕ → Op
byte n = Set (UIntSource 1 n)

no_fields : root (codes " ( )") ≡ Ok []
unfolding root_of_text written_within parts_within
no_fields = refl

number : root (codes "(a = 255)") ≡ Ok (call [] (FieldNumber 0) (byte 255) ∷ [])
unfolding root_of_text written_within parts_within
number = refl

inner : root (codes "(s = (a = 7, s = ()))")
    ≡ Ok (call [] (FieldNumber 1) Init ∷ call (FieldNumber 1 ∷ []) (FieldNumber 0) (byte 7) ∷ call (FieldNumber 1 ∷ []) (FieldNumber 1) Init ∷ [])
unfolding root_of_text written_within parts_within
inner = refl

-- structs stand in a new list
structs : root (codes "(l = [(a = 7), (), (v = ())])")
    ≡ Ok (call [] (FieldNumber 2) (Initn 3) ∷ call (FieldNumber 2 ∷ ElementAt 0 ∷ []) (FieldNumber 0) (byte 7) ∷ call (FieldNumber 2 ∷ ElementAt 2 ∷ []) (FieldNumber 4) (Set VoidSource) ∷ [])
unfolding root_of_text written_within parts_within
structs = refl

lists : root (codes "(m = [[], [1, 2]])")
    ≡ Ok (call [] (FieldNumber 3) (Initn 2) ∷ call (FieldNumber 3 ∷ []) (ElementAt 0) (Initn 0) ∷ call (FieldNumber 3 ∷ []) (ElementAt 1) (Initn 2)
    ∷ call (FieldNumber 3 ∷ ElementAt 1 ∷ []) (ElementAt 0) (byte 1) ∷ call (FieldNumber 3 ∷ ElementAt 1 ∷ []) (ElementAt 1) (byte 2) ∷ [])
unfolding root_of_text written_within parts_within
lists = refl

in_a_group : root (codes "(g = (p = 1))") ≡ Ok (call [] (FieldNumber 6) Init ∷ call (FieldNumber 6 ∷ []) (FieldNumber 0) (byte 1) ∷ [])
unfolding root_of_text written_within parts_within
in_a_group = refl

text : root (codes "(t = \"a,\\\"\")") ≡ Ok (call [] (FieldNumber 5) (Set (TextSource (codes "a,\""))) ∷ [])
unfolding root_of_text written_within parts_within encode_utf8
text = refl

refused_there : map root (codes "(b = 1)" ∷ codes "(a = 1, a = 2)" ∷ codes "(v = (), t = x)" ∷ codes "(a = 256)" ∷ codes "(a = (b = 1))" ∷ codes "(a = [1])" ∷ codes "(s = [1])" ∷ codes "(s = 1)" ∷ codes "(l = (a = 1))"
    ∷ codes "(l = [(a = 1), (a = x)])" ∷ codes "(v = (a = 1))" ∷ codes "(g = (q = 0))" ∷ codes "(g = (q = ()))" ∷ codes "[1]" ∷ codes " x" ∷ codes "(a = 1" ∷ [])
    ≡ refused NameUnknown 1 ∷ refused GivenTwice 8 ∷ refused GivenTwice 9 ∷ refused CannotStand 7 ∷ refused CannotStand 5 ∷ refused CannotStand 5 ∷ refused CannotStand 5 ∷ refused CannotStand 5 ∷ refused CannotStand 5
    ∷ refused CannotStand 20 ∷ refused CannotStand 5 ∷ refused CannotStand 10 ∷ refused CannotStand 10 ∷ refused CannotStand 0 ∷ refused CannotStand 1 ∷ refused CannotStand 6 ∷ []
unfolding root_of_text written_within parts_within
refused_there = refl

-- an element of the lists of numbers is the one of a list, and a number the one of a list in it; a place is the text's own
in_lists : map (λ depth. element_of_text set (field_at set 0 3) 3 depth (codes " [1, 2]")) (0 ∷ 1 ∷ 2 ∷ [])
    ≡ refused CannotStand 2 ∷ Ok (call [] (FieldNumber 3) (Initn 1) ∷ call (FieldNumber 3 ∷ []) (ElementAt 0) (Initn 2)
    ∷ call (FieldNumber 3 ∷ ElementAt 0 ∷ []) (ElementAt 0) (byte 1) ∷ call (FieldNumber 3 ∷ ElementAt 0 ∷ []) (ElementAt 1) (byte 2) ∷ []) ∷ refused CannotStand 1 ∷ []
unfolding element_of_text written_within parts_within
in_lists = refl
