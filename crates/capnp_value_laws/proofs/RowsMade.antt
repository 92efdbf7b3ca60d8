-- Worked rows: the calls of what is printed of records, and a run of them.
use Rattle.std.proofs.Common.{arith, inl, inr, ◌≡◌, true, false, List, [], ◌∷◌, Ok, pos, negsuc, refl, codes}
use Rattle.std.specs.Char.{encode_utf8}
use Rattle.std.specs.Fmt.{debug_escape, digits}
use Rattle.capnp_device.specs.declared.error.ErrorKind.TheVariants.{OutOfMemory, TypeMismatch}
use Rattle.capnp_schema.specs.Schema.{field_at}
use Rattle.capnp_schema.specs.Types.{StructType}
use Rattle.capnp_records.specs.Call.{BoolSource, Call, Done, ElementAt, EnumSource, FieldNumber, Init, Initn, IntSource, Op, PathStep, Refused, Set, TextSource, UIntSource, VoidSource}
use Rattle.capnp_records.specs.Default.{default_record}
use Rattle.capnp_records.specs.Record as value
use Rattle.capnp_records.specs.Record.{Active, Endless, NoUnion, NoValues, Parts, Record}
use Rattle.capnp_records.specs.Run.{Run}
use Rattle.capnp_value_texts.specs.Calls.{root_calls}
use Rattle.capnp_value_texts.specs.Errors.{Read}
use Rattle.capnp_value_laws.specs.Laws.{AreDoneToRoom, HasPlace}
use Rattle.capnp_value_laws.specs.Trees.{printed_value}
use Rattle.capnp_value_laws.proofs.RowsPrinted.{missing, of_parts, plain, set, with_group, with_lists}

abbrev pub call : List PathStep → PathStep → Op → Call
call path last op = record { path = path; last = last; op = op }

abbrev calls_of : Record → Read (List Call)
calls_of r = root_calls set 0 (printed_value set false (StructType 0 0) (value.Struct r))

abbrev plain_calls : List PathStep → List Call
plain_calls path = call path (FieldNumber 0) (Set (IntSource 1 (negsuc 4))) ∷ call path (FieldNumber 2) (Set VoidSource) ∷ call path (FieldNumber 7) (Set (BoolSource true)) ∷ []

of_plain : calls_of plain ≡ Ok (plain_calls [])
unfolding digits
of_plain = refl

-- a struct stands in a new list, and lists in it are begun
of_lists : calls_of with_lists
    ≡ Ok (call [] (FieldNumber 0) (Set (IntSource 1 (pos 7))) ∷ call [] (FieldNumber 1) (Set (TextSource (codes "a,\"b"))) ∷ call [] (FieldNumber 3) (Initn 1)
    ∷ call (FieldNumber 3 ∷ ElementAt 0 ∷ []) (FieldNumber 0) (Set (IntSource 1 (negsuc 4))) ∷ call (FieldNumber 3 ∷ ElementAt 0 ∷ []) (FieldNumber 2) (Set VoidSource)
    ∷ call (FieldNumber 3 ∷ ElementAt 0 ∷ []) (FieldNumber 7) (Set (BoolSource true)) ∷ call [] (FieldNumber 4) (Set (EnumSource 1)) ∷ call [] (FieldNumber 5) (Initn 2)
    ∷ call (FieldNumber 5 ∷ []) (ElementAt 0) (Initn 0) ∷ call (FieldNumber 5 ∷ []) (ElementAt 1) (Initn 2) ∷ call (FieldNumber 5 ∷ ElementAt 1 ∷ []) (ElementAt 0) (Set (UIntSource 1 1))
    ∷ call (FieldNumber 5 ∷ ElementAt 1 ∷ []) (ElementAt 1) (Set (UIntSource 1 2)) ∷ call [] (FieldNumber 7) (Set (BoolSource false)) ∷ [])
unfolding digits debug_escape encode_utf8
of_lists = refl

-- a group is made anew, and a struct in it
of_group : calls_of with_group
    ≡ Ok (call [] (FieldNumber 0) (Set (IntSource 1 (pos 0))) ∷ call [] (FieldNumber 6) Init ∷ call (FieldNumber 6 ∷ []) (FieldNumber 0) (Set (UIntSource 2 300)) ∷ call (FieldNumber 6 ∷ []) (FieldNumber 1) Init
    ∷ call (FieldNumber 6 ∷ FieldNumber 1 ∷ []) (FieldNumber 0) (Set (IntSource 1 (negsuc 4))) ∷ call (FieldNumber 6 ∷ FieldNumber 1 ∷ []) (FieldNumber 2) (Set VoidSource)
    ∷ call (FieldNumber 6 ∷ FieldNumber 1 ∷ []) (FieldNumber 7) (Set (BoolSource true)) ∷ call [] (FieldNumber 7) (Set (BoolSource false)) ∷ [])
unfolding digits
of_group = refl

-- there is a run of them from the new record
plain_run : Run set 0 (default_record set Endless 0) (plain_calls []) (Done ∷ Done ∷ Done ∷ []) plain
plain_run = (
  of_parts (value.Number (negsuc 4)) missing missing missing (value.Truth false) (Active 2 value.Void),
  (refl, refl),
  (
    of_parts (value.Number (negsuc 4)) missing missing missing (value.Truth false) (Active 2 value.Void),
    (refl, refl),
    (plain, (refl, refl), refl),
  ),
)

-- ---- what the laws say ----

done_to_room : AreDoneToRoom (Done ∷ Refused OutOfMemory ∷ Refused TypeMismatch ∷ [])
done_to_room = inl (refl, inr (inl refl))

-- no other refusal comes first
refused_before : AreDoneToRoom (Done ∷ Refused TypeMismatch ∷ Refused OutOfMemory ∷ []) → ⊥
refused_before (inl (done, inl (e, rest))) = let no : ⊥ = cc in absurd no
refused_before (inl (done, inr (inl e))) = let no : ⊥ = cc in absurd no
refused_before (inl (done, inr (inr e))) = let no : ⊥ = cc in absurd no
refused_before (inr (inl e)) = let no : ⊥ = cc in absurd no
refused_before (inr (inr e)) = let no : ⊥ = cc in absurd no

last_place : HasPlace plain (field_at set 0 7).field 7
last_place = omega arith

-- a member's place is the union, whatever stands there
member_place : HasPlace (Parts NoValues NoUnion) (field_at set 0 2).field 2
member_place = tt

no_place : HasPlace (Parts NoValues NoUnion) (field_at set 0 0).field 0 → ⊥
no_place h = omega (arith, h)
