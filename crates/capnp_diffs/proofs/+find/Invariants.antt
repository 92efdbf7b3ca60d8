-- A call is on fewer levels, or into a lower group, or comes later in the walk of the same part.
use Rattle.std.proofs.Common.{◌+◌, ◌≡◌}
use Rattle.capnp_wire.specs.Standing.{levels_of, list_levels, struct_levels}
use Rattle.capnp_schema.specs.Entries.{lists_seen}
use Rattle.capnp_schema.specs.Laws.{group_height}
use Rattle.capnp_schema.specs.StructHandles.{number_of, set_of}
use Rattle.capnp_schema.specs.Types.{seen_type}
use Rattle.capnp_dynamic_readers.specs.Typed.{struct_type}
use Rattle.capnp_diffs.proofs.Falls.{walk_base}
use Rattle.capnp_diffs.proofs.RowsFound.{Onward}
use Rattle.capnp_schema.specs.FieldLists.{field_schema}
use Rattle.capnp_diffs.proofs.FieldRows.{IsLeft}
use Rattle.capnp_diffs.proofs.+find.Given as goal

-- ---- what stands behind two pointers ----

abbrev pub decreases-pointers::find_behind : goal.decreases-pointers::find_behind
decreases-pointers::find_behind l = walk_base (lists_seen l.schemas.now) (levels_of l.new) 0 + 4

abbrev pub decreases-pointers::find_in_struct : goal.decreases-pointers::find_in_struct
decreases-pointers::find_in_struct l = walk_base (set_of l.schema) (levels_of l.new) 0 + 3

abbrev pub decreases-pointers::find_in_list : goal.decreases-pointers::find_in_list
decreases-pointers::find_in_list l = walk_base (lists_seen l.schemas.now) (levels_of l.new) 0 + 3

-- ---- lists ----

abbrev pub decreases-lists::find_in_lists : goal.decreases-lists::find_in_lists
decreases-lists::find_in_lists l = walk_base (lists_seen l.schemas.now) (list_levels l.new) 0 + 6

abbrev pub decreases-lists::find_in_structs : goal.decreases-lists::find_in_structs
decreases-lists::find_in_structs l = walk_base (set_of l.schema) (list_levels l.new) 0 + 5

abbrev pub decreases-lists::find_in_pointers : goal.decreases-lists::find_in_pointers
decreases-lists::find_in_pointers l = walk_base (lists_seen l.schemas.now) (list_levels l.new) 0 + 5

abbrev pub invariant-lists::find_in_structs-loop-index : goal.invariant-lists::find_in_structs-loop-index
invariant-lists::find_in_structs-loop-index l = record {
  path : l.path.items ≡ l.initial.path.items;
  onward : Onward (set_of l.fn.schema) (struct_type l.fn.schema) l.fn.old l.fn.new l.initial.path.items l.initial.out.items l.index l.out.items;
}

abbrev pub invariant-lists::find_in_pointers-loop-index : goal.invariant-lists::find_in_pointers-loop-index
invariant-lists::find_in_pointers-loop-index l = record {
  path : l.path.items ≡ l.initial.path.items;
  onward : Onward (lists_seen l.fn.schemas) (seen_type l.fn.element) l.fn.old l.fn.new l.initial.path.items l.initial.out.items l.index l.out.items;
}

-- ---- records ----

abbrev pub decreases-records::find_in_record : goal.decreases-records::find_in_record
decreases-records::find_in_record l = walk_base (set_of l.schema) (struct_levels l.new) (group_height (set_of l.schema) (number_of l.schema)) + 7

abbrev pub decreases-records::find_in_fields : goal.decreases-records::find_in_fields
decreases-records::find_in_fields l = walk_base (set_of l.schema) (struct_levels l.new) (group_height (set_of l.schema) (number_of l.schema)) + 6

abbrev pub decreases-records::find_in_union : goal.decreases-records::find_in_union
decreases-records::find_in_union l = walk_base (set_of l.schema) (struct_levels l.new) (group_height (set_of l.schema) (number_of l.schema)) + 6

abbrev pub decreases-records::find_in_field : goal.decreases-records::find_in_field
decreases-records::find_in_field l = walk_base (set_of (field_schema l.field)) (struct_levels l.new) (group_height (set_of (field_schema l.field)) (number_of (field_schema l.field))) + 5

abbrev pub decreases-records::switch_to : goal.decreases-records::switch_to
decreases-records::switch_to l = walk_base (set_of (field_schema l.field)) (struct_levels l.new) (group_height (set_of (field_schema l.field)) (number_of (field_schema l.field))) + 5

abbrev pub invariant-records::find_in_fields-loop-index : goal.invariant-records::find_in_fields-loop-index
invariant-records::find_in_fields-loop-index l = record {
  path : l.path.items ≡ l.fn.path.items;
  left : IsLeft l.schema l.old l.new l.fn.path.items l.fn.out.items l.index l.out.items;
}
