-- Parts that a walk enters: what is known of them, and what is left of their owner.
use Rattle.std.proofs.Common.{ℕ, ◌≡◌, refl, List, IsTrue, None, ap, arith, sym, subst}
use Rattle.capnp_wire.specs.Edits.{is_struct, struct_in, with_pointer_tree}
use Rattle.capnp_wire.specs.Facts.Rows.{tree_count_with_tree}
use Rattle.capnp_wire.specs.Tree.{StructTree, Tree}
use Rattle.capnp_wire.specs.WellFormed.{IsWellFormed}
use Rattle.capnp_wire.specs.Words.{first_fault}
use Rattle.capnp_arena.specs.Facts.Structs.{tree_struct}
use Rattle.capnp_arena.specs.Forest.{Forest, struct_from, tree}
use Rattle.capnp_arena.specs.Shape.{StructIn, shape_at}
use Rattle.capnp_schema.specs.FieldLists.{typed_of}
use Rattle.capnp_schema.specs.Schema.{ListValue, Schemas, VoidValue, default_of}
use Rattle.capnp_schema.specs.StructHandles.{generic_of, number_of, set_of}
use Rattle.capnp_schema.specs.Types.{ListType, SchemaType, StructType}
use Rattle.capnp_schema.specs.declared.schema.fields.Field.{Field}
use Rattle.capnp_schema.specs.declared.schema.structs.StructSchema.{StructSchema}
use Rattle.capnp_records.specs.Facts.Extension.{fits_extended}
use Rattle.capnp_records.specs.Writes.Fill.{entered_list}
use Rattle.capnp_records.specs.Writes.Slots.{Fits}
use Rattle.capnp_slots.specs.Fields.{field_set}
use Rattle.capnp_slots.specs.Fills.{fill_due, filled_in, filled_tree, pointer_in}
use Rattle.capnp_slots.specs.Standing.{IsUnder}
use Rattle.capnp_call.proofs.ListBehind.{list_stands}
use Rattle.capnp_call.specs.Lists.{IsListStand}
use Rattle.capnp_call.specs.Ways.{IsStructSlot}

-- ---- a struct behind a slot ----

pub record IsStructHere (schema : StructSchema) (t : Tree) : Type 0 where
  pub here : IsTrue (is_struct t)
  pub room : IsUnder schema (struct_in t)

pub struct_here : (f : Field) (s : StructTree) (schema : StructSchema) (t : Tree) → IsStructSlot f schema → t ≡ filled_in f s → IsStructHere schema t
struct_here f s schema t leads e =
    subst (IsStructHere schema) (sym e)
    (subst (λ (u : SchemaType). IsStructHere schema (filled_tree (field_set f) (default_of (typed_of f).field) u (pointer_in f s))) leads.type_is
    (subst (λ (z : Schemas). IsStructHere schema (filled_tree z (default_of (typed_of f).field) (StructType (number_of schema) (generic_of schema)) (pointer_in f s))) leads.set
    (record { here = refl; room = fits_extended (set_of schema) (number_of schema) _ })))

-- the struct that a pointer leads to, by its place
pub here_is : (bytes : List ℕ) (at a d p : ℕ) → Forest bytes at → shape_at bytes at ≡ StructIn a d p → struct_in (tree bytes at) ≡ struct_from bytes a d p
here_is bytes at a d p f e = ap struct_in (tree_struct bytes at a d p f e)

-- ---- elements ----

-- the list behind it
pub inner_stands : (set : Schemas) (e : SchemaType) (t now : Tree) → now ≡ entered_list set e t → fill_due set VoidValue (ListType e) t ≡ None → first_fault t ≡ None → IsWellFormed now → IsListStand set e now
inner_stands set e t now is due whole formed =
    subst (IsListStand set e) (sym is) (list_stands set VoidValue t e due whole (λ words same. absurd (other same)) (subst IsWellFormed is formed))
  where
    other : {words : List ℕ} → VoidValue ≡ ListValue words → ⊥
    other e = cc

-- ---- a struct of which a pointer was filled ----

pub fits_filled : (set : Schemas) (b i : ℕ) (s m : StructTree) (t : Tree) → m ≡ with_pointer_tree s i t → Fits set b s → Fits set b m
fits_filled set b i s m t e h = subst (Fits set b) (sym e) (h.0, omega (arith, h.1, tree_count_with_tree s.pointers i t))
