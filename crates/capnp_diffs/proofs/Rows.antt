-- Worked rows of changes: which calls make one record into another, and which records no calls make.
use Rattle.std.specs.Prelude.{ℕ, ◌≡◌, pos, refl, List, [], ◌∷◌, codes}
use Rattle.capnp_wire.specs.Tree.{Numbers, Tree}
use Rattle.capnp_device.specs.declared.error.ErrorKind.TheVariants.{BadPointer}
use Rattle.capnp_schema.specs.Builtin.{builtin}
use Rattle.capnp_schema.specs.Types.{ListType, StructType, TextType, UIntType, VoidType}
use Rattle.capnp_records.specs.Call.{ElementAt, FieldNumber, PathStep}
use Rattle.capnp_records.specs.Record.{Active, Elements, Elsewhere, Endless, Fault, Group, Missing, MoreValues, NoUnion, NoValues, Number, Parts, Record, Struct, Text, Union, Unknown, Untyped, Value, Void}
use Rattle.capnp_diffs.specs.Changes.{Change, Clears, Goal, Inits, IsRecordTold, Puts, record_changes}

abbrev changed : List PathStep → PathStep → Goal → Change
changed path last goal = record { path = path; last = last; goal = goal }

abbrev field : ℕ → Goal → Change
field i goal = changed [] (FieldNumber i) goal

-- ---- a union of `x` and `y : UInt8` beside `a : UInt16` and `b : Text`, as brand 1 ----

abbrev number : ℕ → Value
number n = Number (pos n)

abbrev mixed : ℕ → Value → Union → Record
mixed a b u = Parts (MoreValues (number a) (MoreValues Elsewhere (MoreValues Elsewhere (MoreValues b NoValues)))) u

equal_none : record_changes builtin 1 (mixed 3 (Text (codes "k")) (Active 2 (number 9))) (mixed 3 (Text (codes "k")) (Active 2 (number 9))) ≡ []
equal_none = refl

field_put : record_changes builtin 1 (mixed 3 (Missing Endless) (Active 2 (number 9))) (mixed 4 (Missing Endless) (Active 2 (number 9))) ≡ field 0 (Puts (UIntType 2) (number 4)) ∷ []
field_put = refl

text_put : record_changes builtin 1 (mixed 3 (Missing Endless) (Active 1 Void)) (mixed 3 (Text (codes "k")) (Active 1 Void)) ≡ field 3 (Puts TextType (Text (codes "k"))) ∷ []
text_put = refl

-- an empty text is none that is missing
text_cleared : record_changes builtin 1 (mixed 3 (Text []) (Active 1 Void)) (mixed 3 (Missing Endless) (Active 1 Void)) ≡ field 3 Clears ∷ []
text_cleared = refl

member_put : record_changes builtin 1 (mixed 3 (Missing Endless) (Active 2 (number 9))) (mixed 3 (Missing Endless) (Active 2 (number 10))) ≡ field 2 (Puts (UIntType 1) (number 10)) ∷ []
member_put = refl

-- a member that becomes active is put, whatever it has
void_member_put : record_changes builtin 1 (mixed 3 (Missing Endless) (Active 2 (number 9))) (mixed 3 (Missing Endless) (Active 1 Void)) ≡ field 1 (Puts VoidType Void) ∷ []
void_member_put = refl

-- the non-union fields come first
both_put : record_changes builtin 1 (mixed 3 (Missing Endless) (Active 1 Void)) (mixed 4 (Text (codes "k")) (Active 2 (number 0))) ≡
    field 0 (Puts (UIntType 2) (number 4)) ∷ field 3 (Puts TextType (Text (codes "k"))) ∷ field 2 (Puts (UIntType 1) (number 0)) ∷ []
both_put = refl

-- an unknown discriminant is left by a call, and reached by none
unknown_left : record_changes builtin 1 (mixed 3 (Missing Endless) (Unknown 9)) (mixed 3 (Missing Endless) (Active 1 Void)) ≡ field 1 (Puts VoidType Void) ∷ []
unknown_left = refl

unknown_not_reached : IsRecordTold builtin 1 (mixed 3 (Missing Endless) (Active 1 Void)) (mixed 3 (Missing Endless) (Unknown 9)) → ⊥
unknown_not_reached told = told.1

-- ---- groups that are members, as brand 3: `id`, `circle` with `r`, `tag` with a union of its own, `word` ----

abbrev shape : ℕ → Union → Record
shape id u = Parts (MoreValues (number id) (MoreValues Elsewhere (MoreValues Elsewhere (MoreValues Elsewhere NoValues)))) u

abbrev circle : ℕ → Value
circle r = Group (Parts (MoreValues (number r) NoValues) NoUnion)

group_gone_into : record_changes builtin 3 (shape 1 (Active 1 (circle 5))) (shape 1 (Active 1 (circle 6))) ≡ changed (FieldNumber 1 ∷ []) (FieldNumber 0) (Puts (UIntType 4) (number 6)) ∷ []
group_gone_into = refl

-- a group that becomes active is made anew, and has then what differs from its default record
group_made_anew : record_changes builtin 3 (shape 1 (Active 3 (Text (codes "k")))) (shape 1 (Active 1 (circle 6))) ≡ field 1 Inits ∷ changed (FieldNumber 1 ∷ []) (FieldNumber 0) (Puts (UIntType 4) (number 6)) ∷ []
group_made_anew = refl

empty_group_made_anew : record_changes builtin 3 (shape 1 (Active 3 (Text (codes "k")))) (shape 1 (Active 1 (circle 0))) ≡ field 1 Inits ∷ []
empty_group_made_anew = refl

-- a null member is cleared, so that it becomes active
null_member_cleared : record_changes builtin 3 (shape 1 (Active 1 (circle 0))) (shape 1 (Active 3 (Missing Endless))) ≡ field 3 Clears ∷ []
null_member_cleared = refl

text_member_put : record_changes builtin 3 (shape 1 (Active 3 (Missing Endless))) (shape 1 (Active 3 (Text (codes "k")))) ≡ field 3 (Puts TextType (Text (codes "k"))) ∷ []
text_member_put = refl

-- ---- lists, as brand 7: numbers, `Data`, `Text`, and structs of one `UInt16` ----

abbrev lists : Value → Value → Record
lists numbers structs = Parts (MoreValues numbers (MoreValues (Missing Endless) (MoreValues (Missing Endless) (MoreValues structs NoValues)))) NoUnion

abbrev two : Value → Value → Value
two v w = Elements (MoreValues v (MoreValues w NoValues))

abbrev one_field : ℕ → Value
one_field a = Struct (Parts (MoreValues (number a) NoValues) NoUnion)

-- a list of numbers is put whole
numbers_put : record_changes builtin 7 (lists (two (number 1) (number 2)) (Missing Endless)) (lists (two (number 1) (number 3)) (Missing Endless)) ≡ field 0 (Puts (ListType (UIntType 1)) (two (number 1) (number 3))) ∷ []
numbers_put = refl

-- one of structs is gone into
element_gone_into : record_changes builtin 7 (lists (Missing Endless) (two (one_field 1) (one_field 2))) (lists (Missing Endless) (two (one_field 1) (one_field 3))) ≡
    changed (FieldNumber 3 ∷ ElementAt 1 ∷ []) (FieldNumber 0) (Puts (UIntType 2) (number 3)) ∷ []
element_gone_into = refl

-- and put whole where it has another length
length_put : record_changes builtin 7 (lists (Missing Endless) (two (one_field 1) (one_field 2))) (lists (Missing Endless) (Elements (MoreValues (one_field 1) NoValues))) ≡
    field 3 (Puts (ListType (StructType 0 0)) (Elements (MoreValues (one_field 1) NoValues))) ∷ []
length_put = refl

both_lists_same : record_changes builtin 7 (lists (two (number 1) (number 2)) (two (one_field 1) (one_field 2))) (lists (two (number 1) (number 2)) (two (one_field 1) (one_field 2))) ≡ []
both_lists_same = refl

-- what can't be read isn't compared
fault_not_told : IsRecordTold builtin 7 (lists (Fault BadPointer) (Missing Endless)) (lists (Fault BadPointer) (Missing Endless)) → ⊥
fault_not_told told = told.0.1.0

-- ---- an untyped pointer, as in the group `tag` of brand 3 ----

abbrev tag : Tree → Record
tag x = Parts (MoreValues (number 1) (MoreValues Elsewhere (MoreValues Elsewhere (MoreValues (Untyped x) (MoreValues (Missing Endless) NoValues))))) (Active 1 Void)

same_untyped : record_changes builtin 5 (tag (Numbers 1 (7 ∷ []))) (tag (Numbers 1 (7 ∷ []))) ≡ []
same_untyped = refl

other_untyped_not_put : IsRecordTold builtin 5 (tag (Numbers 1 (7 ∷ []))) (tag (Numbers 1 (8 ∷ []))) → ⊥
other_untyped_not_put told = told.0.2.2.2.1.1
