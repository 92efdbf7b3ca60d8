-- Worked rows: what is printed of floats, and which of them are whole.
use Rattle.std.proofs.Common.{◌≡◌, ℕ, true, false, List, [], ◌∷◌, ◌++◌, inl, inr, Ok, pos, refl, codes, arith}
use Rattle.std.specs.Fmt.{digits}
use Rattle.capnp_floats.specs.declared.width.Width.TheVariants.{Float32}
use Rattle.capnp_schema.specs.Schema.{Annotation, Field, Node, Schemas, Slot, UIntValue, VoidValue, no_types}
use Rattle.capnp_schema.specs.Types.{IntType, ListType, StructType, UIntType}
use Rattle.capnp_records.specs.Call.{ElementAt, FieldNumber, Initn, Set, UIntSource}
use Rattle.capnp_records.specs.Record as value
use Rattle.capnp_records.specs.Record.{NoUnion, Parts, Value}
use Rattle.capnp_records.specs.Text.{said_text}
use Rattle.capnp_json_fields.specs.Marks.{float_id}
use Rattle.capnp_float_texts.specs.Numbers.{float_bytes}
use Rattle.capnp_float_texts.specs.Texts.{float_text_of}
use Rattle.capnp_value_texts.specs.Calls.{root_calls}
use Rattle.capnp_value_texts.specs.Lines.{line_on}
use Rattle.capnp_value_laws.specs.Trees.{printed_value}
use Rattle.capnp_value_laws.specs.Whole.{IsNoNan, IsWhole}
use Rattle.capnp_value_laws.proofs.RowsMade.{call}
use Rattle.capnp_value_laws.proofs.RowsPrinted.{row}

abbrev slot : List ℕ → List Annotation → Field
slot name annotations = record { name = name; discriminant_value = 65535; annotations = annotations; kind = Slot 0 (UIntValue 4 0) }

abbrev marked : List Annotation
marked = record { id = float_id; value = VoidValue } ∷ []

abbrev node : Node
node = record {
  id = 1;
  display_name = [];
  annotations = [];
  data_word_count = 1;
  pointer_count = 1;
  is_group = false;
  discriminant_count = 0;
  discriminant_offset = 0;
  fields = slot (codes "ratio") marked ∷ slot (codes "count") [] ∷ slot (codes "ratios") marked ∷ [];
}

abbrev set : Schemas
set = record { nodes = node ∷ []; brands = record { node = 0; field_types = UIntType 4 ∷ UIntType 4 ∷ ListType (UIntType 8) ∷ []; annotation_types = no_types } ∷ []; enums = [] }

abbrev number : ℕ → Value
number n = value.Number (pos n)

-- by its marked number, the other one and the list
abbrev of_numbers : ℕ → ℕ → List Value → Value
of_numbers a b vs = value.Struct (Parts (row (number a ∷ number b ∷ value.Elements (row vs) ∷ [])) NoUnion)

-- the same bits are a float where the field is marked, and a list hands it on
line : line_on (printed_value set false (StructType 0 0) (of_numbers 2139095040 2139095040 (number 18442240474082181120 ∷ number 9218868437227405312 ∷ []))) []
    ≡ codes "(ratio = inf, count = 2139095040, ratios = [-inf, inf])"
unfolding digits float_bytes
line = refl

text : float_text_of set false false (StructType 0 0) (of_numbers 2139095040 2139095040 (number 18442240474082181120 ∷ number 9218868437227405312 ∷ [])) ≡ said_text (codes "(ratio = inf, count = 2139095040, ratios = [-inf, inf])")
unfolding digits float_bytes
text = refl

-- a finite float's bytes are its text
finite_line : line_on (printed_value set true (UIntType 4) (number 1069547520)) [] ≡ float_bytes Float32 1069547520 ++ []
finite_line = refl

-- what is read of them are the bits
calls : root_calls set 0 (printed_value set false (StructType 0 0) (of_numbers 2139095040 7 (number 18442240474082181120 ∷ [])))
    ≡ Ok (call [] (FieldNumber 0) (Set (UIntSource 4 2139095040)) ∷ call [] (FieldNumber 1) (Set (UIntSource 4 7)) ∷ call [] (FieldNumber 2) (Initn 1) ∷ call (FieldNumber 2 ∷ []) (ElementAt 0) (Set (UIntSource 8 18442240474082181120)) ∷ [])
unfolding digits float_bytes
calls = refl

infinities_are_whole : IsWhole set false 2 (StructType 0 0) (of_numbers 2139095040 2139095040 (number 18442240474082181120 ∷ []))
infinities_are_whole = (
  (
    omega arith,
    ((omega arith, refl), ((omega arith, omega arith), tt, inr refl)),
    (
      omega arith,
      ((omega arith, refl), ((omega arith, omega arith), tt, tt)),
      (omega arith, ((omega arith, refl), (omega arith, (((omega arith, omega arith), tt, inr refl), tt))), refl),
    ),
  ),
  refl,
)

-- 1.5 of either width
finite_is : IsNoNan true (UIntType 4) (number 1069547520)
finite_is = inl refl

wide_is : IsNoNan true (UIntType 8) (number 4609434218613702656)
wide_is = inl refl

-- what is no number is none, but for where no floats are
nan_is_none : IsNoNan true (UIntType 4) (number 2143289344) → ⊥
nan_is_none (inl e) = let no : ⊥ = cc in absurd no
nan_is_none (inr e) = omega (arith, e)

wide_nan_is_none : IsNoNan true (UIntType 8) (number 9221120237041090560) → ⊥
wide_nan_is_none (inl e) = let no : ⊥ = cc in absurd no
wide_nan_is_none (inr e) = omega (arith, e)

plain_is : IsNoNan false (UIntType 4) (number 2143289344)
plain_is = tt

-- no number of another width is a float, nor one with a sign
narrow_is : IsNoNan true (UIntType 2) (number 31745)
narrow_is = tt

signed_is : IsNoNan true (IntType 4) (number 2143289344)
signed_is = tt
