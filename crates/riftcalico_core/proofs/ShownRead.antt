-- What a printed text stands for, or the place of what it is refused for.
use Rattle.std.proofs.Common.{◌≡◌, ◌<◌, ℕ, length, None, Option, Some, List, Result, Ok, Err, IfErr, IfOk, refl, subst, sym, ◌∙◌}
use Rattle.capnp_wire.specs.Depth.{IsShallow}
use Rattle.capnp_wire.specs.Edits.{struct_in}
use Rattle.capnp_wire.specs.Place.{struct_tree}
use Rattle.capnp_wire.specs.Tree.{StructTree, Tree, nth_tree}
use Rattle.capnp_wire.specs.WellFormed.{IsWellFormed}
use Rattle.capnp_wire.specs.Words.{first_fault}
use Rattle.capnp_arena.specs.declared.arena.Arena.{Arena}
use Rattle.capnp_schema.specs.Accepted.{GroupFits}
use Rattle.capnp_schema.specs.FieldLists.{field_schema, index_of, typed_of}
use Rattle.capnp_schema.specs.GroupsDown.{place_of_field}
use Rattle.capnp_schema.specs.Schema.{Schemas}
use Rattle.capnp_schema.specs.StructHandles.{IsStruct, number_of, set_of, struct_fields}
use Rattle.capnp_schema.specs.Types.{ListType, SchemaType, StructType}
use Rattle.capnp_schema.specs.declared.schema.fields.Field.{Field}
use Rattle.capnp_schema.specs.declared.schema.structs.StructSchema.{StructSchema}
use Rattle.capnp_records.specs.Call.{Call, ListSource, Source, StructSource}
use Rattle.capnp_records.specs.Record.{Left}
use Rattle.capnp_records.specs.Writes.TreeEnds.{offset_of}
use Rattle.capnp_slots.specs.Fields.{field_set}
use Rattle.capnp_value_texts.specs.Calls.{element_of_text, lists_of, root_of_text}
use Rattle.capnp_value_texts.specs.Errors as text
use Rattle.capnp_value_texts.specs.Values.{IsMadeOf, IsNotMadeOf}
use Rattle.capnp_value_texts.specs.declared.error.Error.{Error as TextError}
use Rattle.capnp_value_texts.specs.declared.error.Error.TheVariants.{NotMade, OutOfMemory, Refused}
use Rattle.capnp_value_texts.specs.declared.error.Refusal.{Refusal}
use Rattle.riftcalico_core.specs.JsonValues.{begin}
use Rattle.riftcalico_core.specs.LastFields.{Spot}
use Rattle.riftcalico_core.specs.ShownSeen.{part_source, shown_source, tree_down}
use Rattle.riftcalico_core.specs.declared.shown_values.Part.{Part}
use Rattle.riftcalico_core.specs.ShownValues.{IsSchemaOf, IsShownRead, IsUnmade, Making, not_made, refused, too_deep}
use Rattle.riftcalico_core.specs.Steps.ShownValues.{IsPlaceOf}
use Rattle.riftcalico_core.proofs.ShownTaken.{list_taken, root_below, root_formed, root_sound, struct_taken}

-- ---- what is read ----

pub made_root : (schema : StructSchema) (calls : text.Read (List Call)) (x : Tree) → IsMadeOf schema calls x → x ≡ struct_tree (struct_in x)
made_root schema (Ok calls) x made = made.root
made_root schema (Err r) x made = absurd made

made_formed : (schema : StructSchema) (calls : text.Read (List Call)) (x : Tree) → IsMadeOf schema calls x → IsWellFormed x
made_formed schema (Ok calls) x made = made.formed
made_formed schema (Err r) x made = absurd made

module _ (schema : StructSchema) (spot : Option Spot) (g : ℕ) (bytes : List ℕ) where
  abbrev struct_making : Making
  struct_making = record { brand = number_of schema; calls = root_of_text (set_of schema) (number_of schema) bytes }

  pub struct_read : (x : Tree) → IsMadeOf schema (root_of_text (set_of schema) (number_of schema) bytes) x → first_fault x ≡ None → IsShallow x →
      (s : Source) → s ≡ StructSource (Left 63) (struct_in x) (number_of schema) → IsShownRead (set_of schema) spot (StructType (number_of schema) g) bytes s
  struct_read x made sound shallow s is =
      let root = made_root schema (root_of_text (set_of schema) (number_of schema) bytes) x made in
      subst (IsShownRead (set_of schema) spot (StructType (number_of schema) g) bytes) (sym is) (record {
        making = struct_making;
        asked = refl;
        schema = schema;
        of = record { same_set = refl; same_number = refl };
        root = x;
        made = made;
        taken = struct_taken (set_of schema) (number_of schema) g (struct_in x) (root_sound x root sound) (root_below x root shallow);
      })

module _ (f : Field) (n : ℕ) (e : SchemaType) (bytes : List ℕ) where
  abbrev calls_there : text.Read (List Call)
  calls_there = element_of_text (field_set f) (typed_of f) (index_of f) n bytes

  abbrev list_making : Making
  list_making = record { brand = number_of (field_schema f); calls = calls_there }

  pub list_read : (typed_of f).type ≡ lists_of n (ListType e) → GroupFits (field_set f) (typed_of f).field.kind (typed_of f).type → (x : Tree) → IsMadeOf (field_schema f) calls_there x → first_fault x ≡ None →
      (s : Source) → s ≡ ListSource (Left 62) (tree_down n (nth_tree (struct_in x).pointers (offset_of (typed_of f).field.kind))) e → IsShownRead (field_set f) (Some (record { place = place_of_field f; depth = n })) (ListType e) bytes s
  list_read typed fits x made sound s is =
      let root = made_root (field_schema f) calls_there x made in
      subst (IsShownRead (field_set f) (Some (record { place = place_of_field f; depth = n })) (ListType e) bytes) (sym is) (record {
        making = list_making;
        asked = refl;
        schema = field_schema f;
        of = record { same_set = refl; same_number = refl };
        root = x;
        made = made;
        taken = list_taken (field_set f) (struct_in x) (typed_of f) n e typed fits (root_sound x root sound) (root_formed x root (made_formed (field_schema f) calls_there x made));
      })

-- ---- where nothing is ----

is_refused : (schema : StructSchema) (calls : text.Read (List Call)) (r : Refusal) → IsNotMadeOf schema calls (Refused r) → calls ≡ Err r
is_refused schema (Ok cs) r h = absurd h
is_refused schema (Err q) r h = h

module _ (set : Schemas) (m : Making) (bytes : List ℕ) (schema : StructSchema) (of : IsSchemaOf set m.brand schema) where
  pub unmade_at : (e : TextError) (first place : ℕ) → first ≡ begin bytes → IsNotMadeOf schema m.calls e → IsPlaceOf e first place → IsUnmade set m bytes place
  unmade_at (Refused r) first place begins why at = subst (IsUnmade set m bytes) (sym at) (refused r (is_refused schema m.calls r why))
  unmade_at (NotMade kind) first place begins why at = subst (IsUnmade set m bytes) (sym (at.0 ∙ begins)) (not_made schema kind of at.1 why)
  unmade_at OutOfMemory first place begins why at = absurd at

  pub deep_at : (x : Tree) (first place : ℕ) → first ≡ begin bytes → place ≡ first → IsMadeOf schema m.calls x → (IsShallow x → ⊥) → IsUnmade set m bytes place
  deep_at x first place begins is made deep = subst (IsUnmade set m bytes) (sym (is ∙ begins)) (too_deep schema x of made deep)

-- ---- what is kept of a root, or where it is too deep ----

pub struct_if : {W : Type 0} (shown : W → Source) (kept : Result W ℕ) (schema : StructSchema) (spot : Option Spot) (g : ℕ) (bytes : List ℕ) (x : Tree) → IsMadeOf schema (root_of_text (set_of schema) (number_of schema) bytes) x →
    IfOk kept (λ w. shown w ≡ StructSource (Left 63) (struct_in x) (number_of schema)) → IfOk kept (λ w. IsShallow x) → IfOk kept (λ w. first_fault x ≡ None) →
    IfOk kept (λ w. IsShownRead (set_of schema) spot (StructType (number_of schema) g) bytes (shown w))
struct_if shown (Ok w) schema spot g bytes x made source shallow sound = struct_read schema spot g bytes x made sound shallow (shown w) source
struct_if shown (Err at) schema spot g bytes x made source shallow sound = tt {0}

pub list_if : {W : Type 0} (shown : W → Source) (kept : Result W ℕ) (f : Field) (n : ℕ) (e : SchemaType) (bytes : List ℕ) (x : Tree) → (typed_of f).type ≡ lists_of n (ListType e) → GroupFits (field_set f) (typed_of f).field.kind (typed_of f).type →
    IsMadeOf (field_schema f) (element_of_text (field_set f) (typed_of f) (index_of f) n bytes) x →
    IfOk kept (λ w. shown w ≡ ListSource (Left 62) (tree_down n (nth_tree (struct_in x).pointers (offset_of (typed_of f).field.kind))) e) → IfOk kept (λ w. first_fault x ≡ None) →
    IfOk kept (λ w. IsShownRead (field_set f) (Some (record { place = place_of_field f; depth = n })) (ListType e) bytes (shown w))
list_if shown (Ok w) f n e bytes x typed fits made source sound = list_read f n e bytes typed fits x made sound (shown w) source
list_if shown (Err at) f n e bytes x typed fits made source sound = tt {0}

pub deep_if : {W : Type 0} (kept : Result W ℕ) (set : Schemas) (m : Making) (bytes : List ℕ) (schema : StructSchema) → IsSchemaOf set m.brand schema → (x : Tree) (first : ℕ) → first ≡ begin bytes → IsMadeOf schema m.calls x →
    IfErr kept (λ at. at ≡ first) → IfErr kept (λ at. IsShallow x → ⊥) → IfErr kept (IsUnmade set m bytes)
deep_if (Ok w) set m bytes schema of x first begins made place deep = tt {0}
deep_if (Err at) set m bytes schema of x first begins made place deep = deep_at set m bytes schema of x first at begins place made deep

-- what is kept of a root is a part of it, whatever that is
pub part_is : (kept : Result (Arena × Part) ℕ) (part : Part) (x : Tree) (s : StructTree → Source) → IfOk kept (λ w. shown_source w ≡ part_source part (struct_in x)) → ((y : StructTree) → part_source part y ≡ s y) →
    IfOk kept (λ w. shown_source w ≡ s (struct_in x))
part_is (Ok w) part x s source is = source ∙ is (struct_in x)
part_is (Err at) part x s source is = tt {0}

-- the type of a field of an accepted set is that of a slot or of a group
pub list_fits : (f : Field) (schema : StructSchema) → schema ≡ field_schema f → IsStruct schema → index_of f < length (struct_fields (field_schema f)) → GroupFits (field_set f) (typed_of f).field.kind (typed_of f).type
list_fits f schema is stands inside =
    let there : IsStruct (field_schema f) = subst IsStruct is stands in
    there.accepted.rule7 (number_of (field_schema f)) (index_of f) there.number inside
