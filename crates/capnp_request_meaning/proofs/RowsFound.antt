-- Worked rows of names that groups share with structs, and of structs that are found by them.
use Rattle.std.proofs.Common.{ℕ, ◌≡◌, arith, codes, refl, true, false, List, [], ◌∷◌, Option, Some, None, Ok, Err}
use Rattle.std.specs.Str.{chars, is_utf8}
use lib.Utf8.{encode}
use Rattle.capnp_schema.specs.ByName.{brand_asked}
use Rattle.capnp_schema.specs.Schema.{Schemas}
use Rattle.capnp_request.specs.Conversion.{Note}
use Rattle.capnp_request.specs.Order.{conversion_of}
use Rattle.capnp_request.specs.Terms.{FieldTerm, GroupTerm, MemberTerm, NoScopes, OtherNode, RequestTerm, Said, SchemaNode, StructNode, StructTerm}
use Rattle.capnp_request.specs.Work.{Entry, GroupOf}
use Rattle.capnp_schema.specs.Types.{TextType}
use Rattle.capnp_request_meaning.specs.Found.{HasApartGroups, IsOnePart, last_part}
use Rattle.capnp_request_meaning.specs.Meaning.{AreGroupsDistinct}
use Rattle.capnp_request_meaning.proofs.RowsOwn.{boxes}
use Rattle.capnp_request_meaning.proofs.Rows.{field, names_in, node, row_set, slot, struct_part}

-- ---- a struct of another file that is named as a group ----

abbrev shared_fields : List FieldTerm
shared_fields = field (codes "g") 65535 (GroupTerm 3) ∷ slot (codes "s") 65535 0 (StructTerm 6 NoScopes) ∷ []

abbrev owner : SchemaNode
owner = node 2 (codes "x.capnp:A") 1 [] (StructNode (struct_part false 0 shared_fields))

abbrev other : SchemaNode
other = node 6 (codes "y.capnp:A.g") 5 [] (StructNode (struct_part false 0 []))

-- the group has a smaller number than the struct
abbrev shared : RequestTerm
shared = record {
  nodes =
      node 1 (codes "x.capnp") 0 (2 ∷ []) OtherNode ∷ owner ∷ node 3 (codes "x.capnp:A.g") 2 [] (StructNode (struct_part true 0 (slot (codes "t") 65535 1 (MemberTerm TextType) ∷ [])))
      ∷ other ∷ [];
  files = Ok (1 ∷ []);
}

row_shared : names_in (conversion_of shared false) ≡ Ok (codes "A" ∷ codes "A.g" ∷ codes "A.g" ∷ [])
unfolding is_utf8 chars encode
row_shared = refl

abbrev asked_in : Said (Schemas × List Note) → List ℕ → Option ℕ
asked_in (Ok p) name = brand_asked p.0 name
asked_in (Err kind) name = None

-- the query passes over it
row_found : asked_in (conversion_of shared false) (codes "A.g") ≡ Some 2
unfolding is_utf8 chars encode
row_found = refl

row_owner_found : asked_in (conversion_of shared false) (codes "A") ≡ Some 0
unfolding is_utf8 chars encode
row_owner_found = refl

-- and finds no group
row_no_group : brand_asked row_set (codes "A.g") ≡ None
row_no_group = refl

row_struct : brand_asked row_set (codes "A") ≡ Some 0
row_struct = refl

-- and bound structs by theirs
row_bound : asked_in (conversion_of boxes false) (codes "Box(Data)") ≡ Some 3
unfolding is_utf8 chars encode
row_bound = refl

row_unbound : asked_in (conversion_of boxes false) (codes "Box") ≡ Some 0
unfolding is_utf8 chars encode
row_unbound = refl

-- so these are not told apart
row_not_apart : HasApartGroups shared.nodes → ⊥
row_not_apart h = h 6 2 3 other owner (struct_part false 0 []) (struct_part false 0 shared_fields) 0 (field (codes "g") 65535 (GroupTerm 3)) (codes "y.capnp:A.g") refl refl refl refl refl refl (record { list = Ok (field (codes "g") 65535 (GroupTerm 3)) ∷ Ok (slot (codes "s") 65535 0 (StructTerm 6 NoScopes)) ∷ []; said = refl; there = refl }) refl refl

-- ---- last parts ----

row_last : last_part (codes "y.capnp:A.g") ≡ codes "g"
row_last = refl

row_last_file : last_part (codes "y.capnp:A") ≡ codes "A"
row_last_file = refl

row_last_whole : last_part (codes "A") ≡ codes "A"
row_last_whole = refl

row_part : IsOnePart (codes "aB1")
row_part = (refl, refl, (refl, refl, (refl, refl, tt)))

row_two_parts : IsOnePart (codes "a.b") → ⊥
row_two_parts h = let e : true ≡ false = h.2.0 in cc

-- ---- groups, once each ----

abbrev twice : List Entry
twice = record { node = 3; bound = []; place = GroupOf 0 1 } ∷ record { node = 3; bound = []; place = GroupOf 0 1 } ∷ []

row_twice : AreGroupsDistinct twice → ⊥
row_twice h = h 0 1 0 1 (record { node = 3; bound = []; place = GroupOf 0 1 }) (record { node = 3; bound = []; place = GroupOf 0 1 }) (omega arith) refl refl refl refl
