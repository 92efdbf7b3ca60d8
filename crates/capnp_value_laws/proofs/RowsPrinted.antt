-- Worked rows: the texts of what is printed of values, and which values are whole.
use Rattle.std.proofs.Common.{◌≡◌, ℕ, true, false, List, [], ◌∷◌, inl, None, Some, pos, negsuc, refl, codes, map, arith}
use Rattle.std.specs.Fmt.{debug_escape, digits}
use Rattle.std.specs.Str.{chars, is_utf8}
use lib.Utf8.{encode}
use Rattle.capnp_schema.specs.Schema.{Brand, BoolValue, Enumerant, EnumValue, Field, FieldKind, Group, IntValue, ListValue, Node, Schemas, Slot, StructValue, TextValue, UIntValue, VoidValue, field_at, no_types}
use Rattle.capnp_schema.specs.Types.{BoolType, EnumType, IntType, ListType, SchemaType, StructType, TextType, UIntType, VoidType}
use Rattle.capnp_records.specs.Record as value
use Rattle.capnp_records.specs.Record.{Active, Endless, Left, MoreValues, NoUnion, NoValues, Parts, Record, Union, Value, Values}
use Rattle.capnp_records.specs.Text.{said_text, text_of}
use Rattle.capnp_value_texts.specs.Lines.{line_on}
use Rattle.capnp_value_texts.specs.Written.{Fields, Items, Leaf, NoPart, Part, Written}
use Rattle.capnp_value_laws.specs.Texts.{IsTextOf}
use Rattle.capnp_value_laws.specs.Trees.{printed_value}
use Rattle.capnp_value_laws.proofs.OneLine.{one_line as only_line}
use Rattle.capnp_value_laws.specs.Whole.{IsFieldName, IsWhole}

abbrev field : List ℕ → ℕ → FieldKind → Field
field name member kind = record { name = name; discriminant_value = member; annotations = []; kind = kind }

-- a number, a text, lists of structs of its own kind and of lists; between them a union of nothing, an enum, and a group; and a truth value
abbrev node : Node
node = record {
  id = 1;
  display_name = [];
  annotations = [];
  data_word_count = 1;
  pointer_count = 4;
  is_group = false;
  discriminant_count = 3;
  discriminant_offset = 1;
  fields = field (codes "a") 65535 (Slot 0 (IntValue 1 (pos 0))) ∷ field (codes "t") 65535 (Slot 0 (TextValue [])) ∷ field (codes "v") 0 (Slot 0 VoidValue) ∷ field (codes "l") 65535 (Slot 1 (ListValue []))
      ∷ field (codes "e") 1 (Slot 2 (EnumValue 0)) ∷ field (codes "m") 65535 (Slot 2 (ListValue [])) ∷ field (codes "g") 2 (Group 1) ∷ field (codes "z") 65535 (Slot 8 (BoolValue false)) ∷ [];
}

abbrev group : Node
group = record {
  id = 2;
  display_name = [];
  annotations = [];
  data_word_count = 1;
  pointer_count = 4;
  is_group = true;
  discriminant_count = 0;
  discriminant_offset = 0;
  fields = field (codes "p") 65535 (Slot 2 (UIntValue 2 0)) ∷ field (codes "s") 65535 (Slot 3 (StructValue [])) ∷ [];
}

-- a union whose member of discriminant value 0 is a pointer
abbrev chosen : Node
chosen = record {
  id = 3;
  display_name = [];
  annotations = [];
  data_word_count = 1;
  pointer_count = 1;
  is_group = false;
  discriminant_count = 2;
  discriminant_offset = 0;
  fields = field (codes "x") 0 (Slot 0 (TextValue [])) ∷ field (codes "y") 1 (Slot 0 (TextValue [])) ∷ [];
}

abbrev brand : ℕ → List SchemaType → Brand
brand n types = record { node = n; field_types = types; annotation_types = no_types }

abbrev enumerant : List ℕ → Enumerant
enumerant name = record { name = name; annotations = [] }

abbrev pub set : Schemas
set = record {
  nodes = node ∷ group ∷ chosen ∷ [];
  brands = brand 0 (IntType 1 ∷ TextType ∷ VoidType ∷ ListType (StructType 0 0) ∷ EnumType 0 ∷ ListType (ListType (UIntType 1)) ∷ StructType 1 1 ∷ BoolType ∷ [])
      ∷ brand 1 (UIntType 2 ∷ StructType 0 0 ∷ []) ∷ brand 2 (TextType ∷ TextType ∷ []) ∷ [];
  enums = record { id = 4; display_name = []; annotations = []; enumerants = enumerant (codes "red") ∷ enumerant (codes "blue") ∷ []; annotation_types = no_types } ∷ [];
}

abbrev pub row : List Value → Values
row [] = NoValues
row (v ∷ vs) = MoreValues v (row vs)

abbrev pub missing : Value
missing = value.Missing Endless

-- a record by its number, text, lists and truth value, and its union
abbrev pub of_parts : Value → Value → Value → Value → Value → Union → Record
of_parts a t l m z u = Parts (row (a ∷ t ∷ value.Elsewhere ∷ l ∷ value.Elsewhere ∷ m ∷ value.Elsewhere ∷ z ∷ [])) u

abbrev pub plain : Record
plain = of_parts (value.Number (negsuc 4)) missing missing missing (value.Truth true) (Active 2 value.Void)

abbrev pub with_lists : Record
with_lists = of_parts (value.Number (pos 7)) (value.Text (codes "a,\"b")) (value.Elements (row (value.Struct plain ∷ []))) (value.Elements (row (value.Elements NoValues ∷ value.Elements (row (value.Number (pos 1) ∷ value.Number (pos 2) ∷ [])) ∷ [])))
    (value.Truth false) (Active 4 (value.Enum 1))

abbrev pub with_group : Record
with_group = of_parts (value.Number (pos 0)) missing missing missing (value.Truth false) (Active 6 (value.Group (Parts (row (value.Number (pos 300) ∷ value.Struct plain ∷ [])) NoUnion)))

abbrev one_line : Record → List ℕ
one_line r = line_on (printed_value set false (StructType 0 0) (value.Struct r)) []

plain_line : one_line plain ≡ codes "(a = -5, v = (), z = true)"
unfolding digits
plain_line = refl

lists_line : one_line with_lists ≡ codes "(a = 7, t = \"a,\\\"b\", l = [(a = -5, v = (), z = true)], e = blue, m = [[], [1, 2]], z = false)"
unfolding digits debug_escape
lists_line = refl

group_line : one_line with_group ≡ codes "(a = 0, g = (p = 300, s = (a = -5, v = (), z = true)), z = false)"
unfolding digits
group_line = refl

-- a member of discriminant value 0 isn't printed where it is null
null_lines : map (λ (u : Union). line_on (printed_value set false (StructType 2 2) (value.Struct (Parts (row (value.Elsewhere ∷ value.Elsewhere ∷ [])) u))) []) (Active 0 missing ∷ Active 0 (value.Text []) ∷ Active 1 (value.Text []) ∷ [])
    ≡ codes "()" ∷ codes "(x = \"\")" ∷ codes "(y = \"\")" ∷ []
unfolding debug_escape
null_lines = refl

texts : map (λ (r : Record). text_of set false (StructType 0 0) (value.Struct r)) (plain ∷ with_lists ∷ with_group ∷ []) ≡ map (λ (r : Record). said_text (one_line r)) (plain ∷ with_lists ∷ with_group ∷ [])
unfolding digits debug_escape is_utf8 chars encode
texts = refl

-- on lines; where no part is printed the bracket is closed on the next one
on_lines : map (λ (v : Value). text_of set true (StructType 1 1) v) (value.Struct (Parts (row (value.Number (pos 1) ∷ value.Struct plain ∷ [])) NoUnion) ∷ [])
    ≡ said_text (codes "(\n  p = 1,\n  s = (\n    a = -5,\n    v = (),\n    z = true\n  )\n)") ∷ []
unfolding digits
on_lines = refl

nothing_on_lines : text_of set true (StructType 2 2) (value.Struct (Parts (row (value.Elsewhere ∷ value.Elsewhere ∷ [])) (Active 0 missing))) ≡ said_text (codes "(\n)")
nothing_on_lines = refl

-- ---- which texts are ones of a tree ----

abbrev tree : Written
tree = Fields 0 (Part 0 (codes "a") (Items 0 (Part 0 [] (Leaf 0 (codes "1")) (Part 0 [] (Leaf 0 (codes "2")) NoPart))) (Part 0 (codes "b") (Fields 0 NoPart) NoPart))

tree_on_lines : IsTextOf (Some 0) tree (codes "(\n  a = [\n    1,\n    2\n  ],\n  b = ()\n)")
tree_on_lines = (
  codes "\n  a = [\n    1,\n    2\n  ],\n  b = ()\n)",
  (
    codes "[\n    1,\n    2\n  ]",
    codes ",\n  b = ()\n)",
    (codes "\n    1,\n    2\n  ]", (codes "1", codes ",\n    2\n  ]", refl, (codes "2", codes "\n  ]", refl, refl, refl), refl), refl),
    (codes "()", codes "\n)", (codes ")", inl refl, refl), refl, refl),
    refl,
  ),
  refl,
)

-- a text on lines is none on one line
no_line : IsTextOf None (Items 0 (Part 0 [] (Leaf 0 (codes "1")) NoPart)) (codes "[\n  1\n]") → ⊥
no_line h = differs (only_line (Items 0 (Part 0 [] (Leaf 0 (codes "1")) NoPart)) (codes "[\n  1\n]") h)
  where
    differs : codes "[\n  1\n]" ≡ codes "[1]" → ⊥
    differs e = cc

-- ---- which are whole ----

named_first : IsFieldName (field_at set 0 0).field.name
named_first = (omega arith, refl)

-- `()` of the member takes a second bracket
plain_is_whole : IsWhole set false 2 (StructType 0 0) (value.Struct plain)
plain_is_whole = (
  (
    omega arith,
    (named_first, ((omega arith, omega arith), tt, tt)),
    (
      omega arith,
      refl,
      (
        omega arith,
        tt,
        (
          omega arith,
          refl,
          (
            omega arith,
            tt,
            (
              omega arith,
              refl,
              (
                omega arith,
                tt,
                (
                  omega arith,
                  ((omega arith, refl), (tt, tt, tt)),
                  refl,
                ),
              ),
            ),
          ),
        ),
      ),
    ),
  ),
  (omega arith, refl, ((omega arith, refl), (tt, tt, tt))),
)

one_bracket_is_too_few : IsWhole set false 1 (StructType 0 0) (value.Struct plain) → ⊥
one_bracket_is_too_few h = h.1.2.1

first_is_whole : IsWhole set false 1 (StructType 2 2) (value.Struct (Parts (row (value.Elsewhere ∷ value.Elsewhere ∷ [])) (Active 0 missing)))
first_is_whole = ((omega arith, tt, (omega arith, tt, refl)), (omega arith, refl, refl))

-- what is printed of a null pointer there is its default, which would stand there
null_member_is_not : IsWhole set false 1 (StructType 2 2) (value.Struct (Parts (row (value.Elsewhere ∷ value.Elsewhere ∷ [])) (Active 1 missing))) → ⊥
null_member_is_not h = h.1.2.1.0

null_element_is_not : IsWhole set false 1 (ListType TextType) (value.Elements (row (missing ∷ []))) → ⊥
null_element_is_not h = h.1.0.0

levels_are_not : IsWhole set false 2 (StructType 0 0) (value.Struct (of_parts (value.Number (pos 0)) (value.Missing (Left 63)) missing missing (value.Truth true) (Active 2 value.Void))) → ⊥
levels_are_not h = h.0.2.1

past_ascii_is_not : IsWhole set false 1 TextType (value.Text (200 ∷ [])) → ⊥
past_ascii_is_not h = let no : false ≡ true = h.0.0 in grind (arith)
