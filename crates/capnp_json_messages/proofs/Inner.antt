-- Elements that are begun: structs of a list, and lists of a list of lists.
use Rattle.std.proofs.Common.{ℕ, ◌≡◌, ◌<◌, refl, List, ap, sym, subst, ◌∙◌}
use Rattle.capnp_wire.specs.Elements.{HasPointer, HasStruct, with_pointer_element, with_struct_element}
use Rattle.capnp_wire.specs.Reading.{element_pointer, element_struct}
use Rattle.capnp_wire.specs.Tree.{StructTree, Tree}
use Rattle.capnp_wire.specs.WellFormed.{IsWellFormed}
use Rattle.capnp_base.specs.declared.introspect.«Type».{«Type» as TypeHandle}
use Rattle.capnp_arena.specs.Built.{IsBuilt, built_at, place_words}
use Rattle.capnp_arena.specs.Facts.Places.{at_then}
use Rattle.capnp_arena.specs.Forest.{Changes, Forest, PartChanges, Planted, struct_from, tree}
use Rattle.capnp_arena.specs.Frame.{LeavesPointer}
use Rattle.capnp_arena.specs.Leaves.{Leaves}
use Rattle.capnp_arena.specs.Segment.{segment}
use Rattle.capnp_arena.specs.declared.arena.Arena.{Arena}
use Rattle.capnp_arena.specs.declared.arena.Place.{Place}
use Rattle.capnp_schema.specs.Accepted.{IsAccepted, NamesEntries}
use Rattle.capnp_schema.specs.Schema.{Schemas}
use Rattle.capnp_schema.specs.StructHandles.{generic_of, number_of, set_of}
use Rattle.capnp_schema.specs.Types.{ListType, SchemaType, StructType, seen_type}
use Rattle.capnp_schema.specs.declared.schema.structs.StructSchema.{StructSchema}
use Rattle.capnp_records.proofs.ElementChanges.{pointer_here}
use Rattle.capnp_records.proofs.StepElement.{fits_at, nth_seen}
use Rattle.capnp_records.specs.Facts.ListValues.{list_read}
use Rattle.capnp_records.specs.Part.{value_count, with_value}
use Rattle.capnp_records.specs.Reading.{reads, value_of}
use Rattle.capnp_records.specs.Record as value
use Rattle.capnp_records.specs.Record.{Endless, Record, Values}
use Rattle.capnp_records.specs.Writes.Contents.{new_list}
use Rattle.capnp_records.specs.Writes.ElementEnds.{HasElementThere, element_written}
use Rattle.capnp_records.specs.Writes.Slots.{At, Fits}
use Rattle.capnp_json_messages.specs.Put.{HasNew, IsListOf}
use Rattle.capnp_json_messages.specs.Started.{InnerListStarted, InnerStarted}
use Rattle.capnp_json_messages.proofs.ElementPuts.{IsElementContent, content_put, count_put, put_twice, room_at, struct_puts}

-- ---- structs ----

same_struct : {r s : Record} → value.Struct r ≡ value.Struct s → r ≡ s
same_struct e = cc

pub inner_begun : (schema : StructSchema) (word j : ℕ) (now : Arena) (q : Place) → HasNew (set_of schema) (StructType (number_of schema) (generic_of schema)) (tree (segment now) word) j
    → HasStruct (tree (segment now) word) j → IsBuilt now q → built_at now q ≡ element_struct (tree (segment now) word) j
    → ((new : List ℕ) → Planted new (place_words q) → PartChanges (place_words q) (segment now) new → Leaves word (with_struct_element j (struct_from new q.start q.data_words q.pointers) (tree (segment now) word)) (segment now) new)
    → InnerStarted schema word j now q
inner_begun schema word j now q has there planted is leaves = record {
  planted = planted;
  room = subst (λ (y : StructTree). Fits set b y) (sym is) (fits_at set b g x j there has.list.sound);
  here = ap (λ (y : StructTree). reads set y b) is ∙ same_struct (sym (nth_seen set x (StructType b g) has.values j (list_read set x (StructType b g) has.values has.list.reads_as) has.inside).1 ∙ has.as_new);
  frame = λ later left. let l = leaves (segment later) left.planted left.changes in record { forest = l.forest; changes = l.changes };
  puts = λ later left fits. struct_puts set b g x (tree (segment later) word) j (built_at later q) there fits (leaves (segment later) left.planted left.changes).tree;
}
  where
    set : Schemas
    set = set_of schema

    b : ℕ
    b = number_of schema

    g : ℕ
    g = generic_of schema

    x : Tree
    x = tree (segment now) word

-- ---- lists ----

-- a list in a list has what it reads as
pub list_content : (set : Schemas) (e : SchemaType) (y : Tree) → IsElementContent set (ListType e) (At y) (value_of set y Endless (ListType e))
list_content set e y = record { suits = tt; reads_as = refl }

pub inner_list_begun : (set : Schemas) → IsAccepted set → (e : SchemaType) (word j count : ℕ) (old m : Arena) (w : ℕ) → NamesEntries set (ListType e)
    → HasPointer (tree (segment old) word) j × HasPointer (tree (segment m) word) j × (tree (segment m) word ≡ with_pointer_element j (new_list set e count) (tree (segment old) word))
    → LeavesPointer word old m
    → Forest (segment m) w → tree (segment m) w ≡ element_pointer (tree (segment m) word) j 1
    → ((new : List ℕ) → Forest new w → Changes w (segment m) new → Leaves word (with_pointer_element j (tree new w) (tree (segment m) word)) (segment m) new)
    → InnerListStarted set e word j count old m w
inner_list_begun set accepted e word j count old m w entries (there, still, written) frame forest here leaves = record {
  forest = forest;
  here = here ∙ (ap (λ (y : Tree). element_pointer y j 1) written ∙ pointer_here (tree (segment old) word) j (new_list set e count) there);
  frame = λ later left. let l = leaves (segment later) left.forest left.changes in record { forest = l.forest; changes = at_then frame.changes l.changes };
  puts = λ later left vs list inside fresh.
      subst (IsListOf set (ListType e) (tree (segment later) word)) (put_twice vs j (value_of set (new_list set e count) Endless (ListType e)) (value_of set (tree (segment later) w) Endless (ListType e)))
      (content_put set accepted (ListType e) (tree (segment m) word) (tree (segment later) word) j (At (tree (segment later) w)) (value_of set (tree (segment later) w) Endless (ListType e)) (with_value vs j (value_of set (new_list set e count) Endless (ListType e)))
      entries still (list_content set e (tree (segment later) w)) (leaves (segment later) left.forest left.changes).tree
      (content_put set accepted (ListType e) (tree (segment old) word) (tree (segment m) word) j (At (new_list set e count)) (value_of set (new_list set e count) Endless (ListType e)) vs entries there (list_content set e (new_list set e count)) written list));
}

-- what was put into a list leaves its elements where they are
pub still_there : (set : Schemas) → IsAccepted set → (e : SchemaType) (t : TypeHandle) (x x' y : Tree) (j : ℕ) (vs : Values) → ListType e ≡ seen_type t → NamesEntries set (ListType e) → IsWellFormed x → IsWellFormed x' → j < value_count vs
    → IsListOf set (seen_type t) x vs → x' ≡ element_written (seen_type t) x j (At y) → HasPointer x j × HasPointer x' j × (x' ≡ with_pointer_element j y x)
still_there set accepted e t x x' y j vs is entries formed formed' inside list written = (
  subst (λ (u : SchemaType). HasElementThere u x j) (sym is) (room_at set x j vs formed inside t list),
  subst (λ (u : SchemaType). HasElementThere u x' j) (sym is) (room_at set x' j (with_value vs j (value_of set y Endless (ListType e))) formed' (subst (λ n. j < n) (sym (count_put vs j (value_of set y Endless (ListType e)))) inside) t after),
  written_there,
)
  where
    written_there : x' ≡ with_pointer_element j y x
    written_there = written ∙ ap (λ (u : SchemaType). element_written u x j (At y)) (sym is)

    after : IsListOf set (seen_type t) x' (with_value vs j (value_of set y Endless (ListType e)))
    after = subst (λ (u : SchemaType). IsListOf set u x' (with_value vs j (value_of set y Endless (ListType e)))) is
        (content_put set accepted (ListType e) x x' j (At y) (value_of set y Endless (ListType e)) vs entries (subst (λ (u : SchemaType). HasElementThere u x j) (sym is) (room_at set x j vs formed inside t list))
        (list_content set e y) written_there (subst (λ (u : SchemaType). IsListOf set u x vs) (sym is) list))
