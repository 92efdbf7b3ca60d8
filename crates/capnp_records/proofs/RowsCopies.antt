-- Worked rows of group copies that end early.
use Rattle.std.proofs.Common.{ℕ, true, refl, List, [], ◌∷◌, codes, replicate, inr}
use Rattle.std.specs.Fmt.{digits}
use Rattle.capnp_wire.specs.Tree.{Null, Numbers, NoTrees, MoreTrees}
use Rattle.capnp_wire.specs.Place.{tree_at}
use Rattle.capnp_device.specs.declared.error.ErrorKind.TheVariants.{OutOfMemory, TextNotTerminated}
use Rattle.capnp_schema.specs.Types.{StructType, TextType, UIntType, VoidType}
use Rattle.capnp_schema.specs.Schema.{Schemas, Group, TextValue, UIntValue, VoidValue}
use Rattle.capnp_schema.specs.Builtin.{builtin, member, builtin_field, builtin_brand, builtin_struct_node}
use Rattle.capnp_records.specs.Record.{Left, Endless}
use Rattle.capnp_records.specs.Default.{default_record}
use Rattle.capnp_records.specs.Text.{said_text}
use Rattle.capnp_records.specs.Call.{FieldNamed, Source, StructSource, Set, Call, Refused}
use Rattle.capnp_records.proofs.RowWords.{Runs, RunsIn, call, named}

-- the copy of q fails with 7, or for memory
abbrev cut_source : List ℕ → Source
cut_source q = StructSource (Left 63) (record { bytes = 0 ∷ 0 ∷ 1 ∷ 0 ∷ 3 ∷ 0 ∷ 1 ∷ 0 ∷ 9 ∷ replicate 7 0; pointers = MoreTrees Null (MoreTrees (Numbers 1 q) NoTrees) }) 5

abbrev set_tag : Source → Call
set_tag s = record { path = []; last = FieldNamed (codes "tag"); op = Set s }

copy_ends_for_memory : Runs 3 (default_record builtin Endless 3) (set_tag (cut_source (122 ∷ 0 ∷ [])) ∷ []) (Refused OutOfMemory ∷ []) (said_text (codes "(id = 0, tag = (n = 3, u1 = 9))"))
unfolding tree_at digits
copy_ends_for_memory = (_, (_, (_, _, inr (refl, refl), (refl, refl)), refl), refl)

copy_ends_at_a_text : Runs 3 (default_record builtin Endless 3) (set_tag (cut_source (122 ∷ 1 ∷ [])) ∷ []) (Refused TextNotTerminated ∷ []) (said_text (codes "(id = 0, tag = (n = 3, u1 = 9))"))
unfolding tree_at digits
copy_ends_at_a_text = (_, (_, (_, _, (refl, refl), (refl, refl)), refl), refl)

-- ---- a member that is cut ----

-- a struct of a group g: non-union k, and members e and m
abbrev outer : Schemas
outer = record {
  nodes = builtin_struct_node 1 (codes "Outer") 1 1 (record { name = codes "g"; discriminant_value = 65535; annotations = []; kind = Group 1 } ∷ [])
      ∷ record { id = 2; display_name = codes "Outer.g"; annotations = []; data_word_count = 1; pointer_count = 1; is_group = true; discriminant_count = 2; discriminant_offset = 1; fields = builtin_field (codes "k") 0 (UIntValue 2 0) ∷ member 0 (codes "e") 0 VoidValue ∷ member 1 (codes "m") 0 (TextValue []) ∷ [] }
      ∷ [];
  brands = builtin_brand 0 (StructType 1 1 ∷ []) ∷ builtin_brand 1 (UIntType 2 ∷ VoidType ∷ TextType ∷ []) ∷ [];
  enums = [];
}

-- the member is copied before the non-union fields, so where it isn't, none is
the_member_comes_first : RunsIn outer 0 (default_record outer Endless 0)
    (call [] (named "g") (Set (StructSource (Left 63) (record { bytes = 4 ∷ 0 ∷ 1 ∷ 0 ∷ 0 ∷ 0 ∷ 0 ∷ 0 ∷ []; pointers = MoreTrees (Numbers 1 (104 ∷ 105 ∷ [])) NoTrees }) 1)) ∷ [])
    (Refused TextNotTerminated ∷ [])
    (said_text (codes "(g = (k = 0, e = ()))"))
unfolding tree_at digits
the_member_comes_first = (_, (_, (_, _, (refl, refl), (refl, refl)), refl), refl)
