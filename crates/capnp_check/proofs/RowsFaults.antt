-- Worked rows of all parts that are shown, and of those that are refused. They judge the definitions.
use Rattle.std.proofs.Common.{ℕ, ◌≡◌, refl, List, [], ◌∷◌, length, pos, Option, Some, None, codes}
use Rattle.std.specs.Fmt.{digits}
use Rattle.capnp_device.specs.declared.error.ErrorKind.{ErrorKind}
use Rattle.capnp_device.specs.declared.error.ErrorKind.TheVariants.{TooDeep, WrongPointerKind, BadPointer}
use Rattle.capnp_schema.specs.Builtin.{builtin}
use Rattle.capnp_schema.specs.Types.{ListType, StructType}
use Rattle.capnp_records.specs.Record as value
use Rattle.capnp_records.specs.Record.{Active, MoreValues, NoUnion, NoValues, Parts, Record, Values}
use Rattle.capnp_check.specs.Faults.{ShownPart, parts_from, parts_within, refused_parts}
use Rattle.capnp_check.specs.Places.{value_parts}
use Rattle.capnp_check.specs.declared.place.PlaceStep.{PlaceStep}
use Rattle.capnp_check.specs.declared.place.PlaceStep.TheVariants.{Field, Element}

abbrev at : List PlaceStep → List ℕ → Option ErrorKind → ShownPart
at path words refusal = record { path = path; words = words; refusal = refusal }

-- ---- two faults in a group ----

abbrev tag : Record
tag = Parts (MoreValues (value.Number (pos 1)) (MoreValues value.Elsewhere (MoreValues value.Elsewhere (MoreValues (value.Fault WrongPointerKind) (MoreValues (value.Fault BadPointer) NoValues))))) (Active 2 (value.Number (pos 0)))

abbrev shapes : Record
shapes = Parts (MoreValues (value.Number (pos 0)) (MoreValues value.Elsewhere (MoreValues value.Elsewhere (MoreValues value.Elsewhere NoValues)))) (Active 2 (value.Group tag))

two_in_group : refused_parts (parts_within builtin 5 (value_parts 64 (StructType 3 3) (value.Struct shapes)))
    ≡ at (Field 2 ∷ Field 3 ∷ []) (codes ".tag.any") (Some WrongPointerKind) ∷ at (Field 2 ∷ Field 4 ∷ []) (codes ".tag.q") (Some BadPointer) ∷ []
unfolding parts_within parts_from
two_in_group = refl

-- the struct, its number and group, and four fields of the group
counted : length (parts_within builtin 5 (value_parts 64 (StructType 3 3) (value.Struct shapes))) ≡ 7
unfolding parts_within parts_from
counted = refl

all_in_order : parts_within builtin 2 (value_parts 64 (StructType 3 3) (value.Struct shapes))
    ≡ at [] [] None ∷ at (Field 0 ∷ []) (codes ".id") None
    ∷ at (Field 2 ∷ []) (codes ".tag") None ∷ at (Field 2 ∷ Field 0 ∷ []) (codes ".tag.n") None ∷ at (Field 2 ∷ Field 2 ∷ []) (codes ".tag.u1") None
    ∷ at (Field 2 ∷ Field 3 ∷ []) (codes ".tag.any") (Some WrongPointerKind) ∷ at (Field 2 ∷ Field 4 ∷ []) (codes ".tag.q") (Some BadPointer) ∷ []
unfolding parts_within parts_from
all_in_order = refl

-- a step less shows none of the group's fields
one_step : refused_parts (parts_within builtin 1 (value_parts 64 (StructType 3 3) (value.Struct shapes))) ≡ []
unfolding parts_within parts_from
one_step = refl

-- ---- a member that isn't active ----

abbrev other_member : Record
other_member = Parts (MoreValues (value.Number (pos 0)) (MoreValues (value.Fault BadPointer) (MoreValues value.Elsewhere (MoreValues (value.Fault BadPointer) NoValues)))) (Active 2 (value.Group (Parts NoValues NoUnion)))

not_in_inactive_member : refused_parts (parts_within builtin 5 (value_parts 64 (StructType 3 3) (value.Struct other_member))) ≡ []
unfolding parts_within parts_from
not_in_inactive_member = refl

-- ---- elements ----

abbrev node : value.Value → Record
node name = Parts (MoreValues (value.Number (pos 5)) (MoreValues name (MoreValues (value.Enum 2) NoValues))) NoUnion

abbrev nodes : Values
nodes = MoreValues (value.Fault BadPointer) (MoreValues (value.Struct (node (value.Text []))) (MoreValues (value.Struct (node (value.Fault WrongPointerKind))) NoValues))

in_elements : refused_parts (parts_within builtin 5 (value_parts 64 (ListType (StructType 8 8)) (value.Elements nodes)))
    ≡ at (Element 0 ∷ []) (codes ".0") (Some BadPointer) ∷ at (Element 2 ∷ Field 1 ∷ []) (codes ".2.displayName") (Some WrongPointerKind) ∷ []
unfolding parts_within parts_from digits
in_elements = refl

elements_counted : length (parts_within builtin 5 (value_parts 64 (ListType (StructType 8 8)) (value.Elements nodes))) ≡ 10
unfolding parts_within parts_from
elements_counted = refl

-- ---- levels ----

-- each struct is too deep, and none of its fields is shown
all_too_deep : refused_parts (parts_within builtin 5 (value_parts 1 (ListType (StructType 8 8)) (value.Elements nodes)))
    ≡ at (Element 0 ∷ []) (codes ".0") (Some BadPointer) ∷ at (Element 1 ∷ []) (codes ".1") (Some TooDeep) ∷ at (Element 2 ∷ []) (codes ".2") (Some TooDeep) ∷ []
unfolding parts_within parts_from digits
all_too_deep = refl

refused_itself : parts_within builtin 5 (value_parts 0 (StructType 8 8) (value.Fault WrongPointerKind)) ≡ at [] [] (Some TooDeep) ∷ []
unfolding parts_within parts_from
refused_itself = refl
