-- Worked examples of groups and spans, computed.
use Rattle.std.specs.Prelude.{◌≡◌, refl, [], ◌∷◌, true, false, Some, None}
use Rattle.capnp_schema.specs.Footprint.{DataBit, PointerAt}
use Rattle.capnp_schema.specs.Steps.Checking.Parents.{group_target}
use Rattle.capnp_schema.specs.Builtin.{builtin}
use Rattle.capnp_schema.specs.declared.check.spans.Span.TheVariants.{Data, Pointer}
use Rattle.capnp_schema.specs.Steps.Checking.Spans.{span_names, some_span}

-- Shapes.circle and Shapes.tag are the groups of brands 4 and 5; Shapes.id and Loop.again are slots
shapes_id : group_target builtin 3 0 ≡ None
shapes_id = refl

shapes_circle : group_target builtin 3 1 ≡ Some 4
shapes_circle = refl

shapes_tag : group_target builtin 3 2 ≡ Some 5
shapes_tag = refl

loop_again : group_target builtin 6 1 ≡ None
loop_again = refl

no_such_field : group_target builtin 3 4 ≡ None
no_such_field = refl

no_such_brand : group_target builtin 9 0 ≡ None
no_such_brand = refl

-- a span of the bits 32 to 63
first_bit : span_names (Data 32 32) (DataBit 32) ≡ true
first_bit = refl

last_bit : span_names (Data 32 32) (DataBit 63) ≡ true
last_bit = refl

bit_before : span_names (Data 32 32) (DataBit 31) ≡ false
bit_before = refl

bit_after : span_names (Data 32 32) (DataBit 64) ≡ false
bit_after = refl

no_pointer : span_names (Data 32 32) (PointerAt 32) ≡ false
no_pointer = refl

-- a span of no bits, as a Void slot has
no_bits : span_names (Data 0 0) (DataBit 0) ≡ false
no_bits = refl

pointer : some_span (Data 0 8 ∷ Pointer 1 ∷ []) (PointerAt 1) ≡ true
pointer = refl

other_pointer : some_span (Data 0 8 ∷ Pointer 1 ∷ []) (PointerAt 0) ≡ false
other_pointer = refl
