-- What is started anew can be handed out.
use Rattle.std.proofs.Common.{ℕ, ◌*◌, ◌<◌, ◌≤◌, ◌≡◌, refl, Bool, true, false, Option, Some, replicate, ap, sym, subst, ◌∙◌}
use Rattle.capnp_device.specs.declared.error.Error.{Error}
use Rattle.capnp_wire.specs.Facts.Lengths.{HasAtLeast_zero_struct}
use Rattle.capnp_wire.specs.Tree.{StructTree, Tree, Trees, nth_tree, tree_count}
use Rattle.capnp_schema.specs.FieldLists.{IsFound, typed_of}
use Rattle.capnp_schema.specs.Footprint.{Spot}
use Rattle.capnp_schema.specs.Schema.{Field as FieldEntry, Node, Schemas, is_member, node_of}
use Rattle.capnp_schema.specs.StructHandles.{number_of, set_of, struct_field}
use Rattle.capnp_schema.specs.Types.{is_pointer, SchemaType, VoidType, BoolType, IntType, UIntType, EnumType, TextType, DataType, StructType, ListType, AnyPointerType}
use Rattle.capnp_schema.specs.declared.schema.fields.Field.{Field}
use Rattle.capnp_schema.specs.declared.schema.structs.StructSchema.{StructSchema}
use Rattle.capnp_records.specs.Facts.Pointers.{nth_tree_put_same}
use Rattle.capnp_records.specs.Step.{is_group_field}
use Rattle.capnp_records.specs.Writes.Contents.{init_tree, initn_tree}
use Rattle.capnp_records.specs.Writes.ElementEnds.{InitnContent}
use Rattle.capnp_records.specs.Writes.Overlay.{switch, switched_struct}
use Rattle.capnp_records.specs.Writes.Slots.{At}
use Rattle.capnp_schema.specs.Plan.{brand_size}
use Rattle.capnp_records.specs.Writes.TreeEnds.{InitContent}
use Rattle.capnp_slots.specs.Fields.{IsPointerField, IsRoomFor, IsSlot, Keeps, field_brand, field_set, pointer_index, slot_with, switched_to}
use Rattle.capnp_slots.specs.Fills.{pointer_in}
use Rattle.capnp_slots.specs.Groups.{IsGroupAt, group_without}
use Rattle.capnp_slots.specs.Inits.{HasInit, HasInitn, IsInitRefusal, IsInitnRefusal, init_content, initn_content}
use Rattle.capnp_dynamic.specs.Built.{built_schema, built_struct}
use Rattle.capnp_dynamic.specs.Handed.{HandsInit, HandsInitn, HandsNew, HandsNewSized, HandsOut, IsSizedRefusal, IsStartRefusal, start_handed}
use Rattle.capnp_dynamic.specs.Steps.Handed.{CanBeHanded}
use Rattle.capnp_dynamic.specs.declared.dynamic_struct.build.Builder.{Builder as StructHandle}
use Rattle.capnp_dynamic.specs.declared.dynamic_value.build.Builder.{Builder as BuiltValue}
use Rattle.capnp_dynamic.specs.declared.dynamic_value.build.Builder.TheVariants as built
use Rattle.capnp_dynamic.proofs.Builders.{moved}
use Rattle.capnp_dynamic.proofs.HandedOut.{new_list_holds, text_is}

-- ---- what stands at the pointer ----

switched_pointers : (n : Node) (f : FieldEntry) (s : StructTree) → (switched_struct n f s).pointers ≡ s.pointers
switched_pointers n f s = go (is_member f)
  where
    go : (q : Bool) → (elim q as (λ _. StructTree) [ true ↦ switch n f.discriminant_value s | false ↦ s ]).pointers ≡ s.pointers
    go true = refl
    go false = refl

slot_there : (f : Field) (s s' : StructTree) (t : Tree) → pointer_index f < tree_count s.pointers → s' ≡ slot_with f (At t) s → pointer_in f s' ≡ t
slot_there f s s' t inside e =
    ap (λ (y : StructTree). nth_tree y.pointers (pointer_index f)) e
    ∙ nth_tree_put_same (switched_to f s).pointers (pointer_index f) t
    (subst (λ (ps : Trees). pointer_index f < tree_count ps) (sym (switched_pointers (node_of (field_set f) (field_brand f)) (typed_of f).field s)) inside)

pub room_kept : (f : Field) (inside : Spot → Bool) (s s' : StructTree) → IsRoomFor f s → Keeps inside s s' → IsRoomFor f s'
room_kept f inside s s' room kept = (
  subst (λ n. 8 * (brand_size (field_set f) (field_brand f)).data_words ≤ n) (sym kept.writes.data_size) room.0,
  subst (λ n. (brand_size (field_set f) (field_brand f)).pointers ≤ n) (sym kept.writes.pointer_count) room.1,
)

-- ---- init ----

pointer_of_init : (set : Schemas) (t : SchemaType) → InitContent set t (At (init_tree set t)) → is_pointer t ≡ true
pointer_of_init set VoidType h = absurd h
pointer_of_init set BoolType h = absurd h
pointer_of_init set (IntType k) h = absurd h
pointer_of_init set (UIntType k) h = absurd h
pointer_of_init set (EnumType k) h = absurd h
pointer_of_init set TextType h = refl
pointer_of_init set DataType h = refl
pointer_of_init set (StructType b g) h = refl
pointer_of_init set (ListType e) h = refl
pointer_of_init set AnyPointerType h = refl

handed_init : (set : Schemas) (t : SchemaType) → InitContent set t (At (init_tree set t)) → CanBeHanded set t (init_tree set t)
handed_init set VoidType h = absurd h
handed_init set BoolType h = absurd h
handed_init set (IntType k) h = absurd h
handed_init set (UIntType k) h = absurd h
handed_init set (EnumType k) h = absurd h
handed_init set TextType h = absurd h
handed_init set DataType h = absurd h
handed_init set (StructType b g) h = (refl, HasAtLeast_zero_struct (brand_size set b))
handed_init set (ListType e) h = absurd h
handed_init set AnyPointerType h = tt

pub init_pointer : (f : Field) → HasInit f → IsPointerField f
init_pointer f h = pointer_of_init (field_set f) (typed_of f).type h

pub init_hands : (f : Field) (s s' : StructTree) → HasInit f → pointer_index f < tree_count s.pointers → s' ≡ slot_with f (init_content f) s → CanBeHanded (field_set f) (typed_of f).type (pointer_in f s')
init_hands f s s' h inside e =
    subst (CanBeHanded (field_set f) (typed_of f).type) (sym (slot_there f s s' (init_tree (field_set f) (typed_of f).type) inside e)) (handed_init (field_set f) (typed_of f).type h)

pub init_stands : (f : Field) (s s' : StructTree) (v : BuiltValue) → HasInit f → pointer_index f < tree_count s.pointers → s' ≡ slot_with f (init_content f) s →
    HandsOut true (field_set f) (typed_of f).type (pointer_in f s') v → HandsNew (field_set f) (typed_of f) v
init_stands f s s' v h inside e out =
    (h, subst (λ (y : Tree). HandsOut true (field_set f) (typed_of f).type y v) (slot_there f s s' (init_tree (field_set f) (typed_of f).type) inside e) out)

-- ---- initn ----

pointer_of_initn : (set : Schemas) (n : ℕ) (t : SchemaType) → InitnContent set n t (At (initn_tree set t n)) → is_pointer t ≡ true
pointer_of_initn set n VoidType h = absurd h
pointer_of_initn set n BoolType h = absurd h
pointer_of_initn set n (IntType k) h = absurd h
pointer_of_initn set n (UIntType k) h = absurd h
pointer_of_initn set n (EnumType k) h = absurd h
pointer_of_initn set n TextType h = refl
pointer_of_initn set n DataType h = refl
pointer_of_initn set n (StructType b g) h = refl
pointer_of_initn set n (ListType e) h = refl
pointer_of_initn set n AnyPointerType h = refl

pub handed_initn : (set : Schemas) (n : ℕ) (t : SchemaType) → InitnContent set n t (At (initn_tree set t n)) → CanBeHanded set t (initn_tree set t n)
handed_initn set n VoidType h = absurd h
handed_initn set n BoolType h = absurd h
handed_initn set n (IntType k) h = absurd h
handed_initn set n (UIntType k) h = absurd h
handed_initn set n (EnumType k) h = absurd h
handed_initn set n TextType h = text_is (replicate n 0)
handed_initn set n DataType h = refl
handed_initn set n (StructType b g) h = absurd h
handed_initn set n (ListType e) h = new_list_holds set e n
handed_initn set n AnyPointerType h = absurd h

pub initn_pointer : (f : Field) (n : ℕ) → HasInitn f n → IsPointerField f
initn_pointer f n h = pointer_of_initn (field_set f) n (typed_of f).type h

pub initn_hands : (f : Field) (n : ℕ) (s s' : StructTree) → HasInitn f n → pointer_index f < tree_count s.pointers → s' ≡ slot_with f (initn_content f n) s → CanBeHanded (field_set f) (typed_of f).type (pointer_in f s')
initn_hands f n s s' h inside e =
    subst (CanBeHanded (field_set f) (typed_of f).type) (sym (slot_there f s s' (initn_tree (field_set f) (typed_of f).type n) inside e)) (handed_initn (field_set f) n (typed_of f).type h)

pub initn_stands : (f : Field) (n : ℕ) (s s' : StructTree) (v : BuiltValue) → HasInitn f n → pointer_index f < tree_count s.pointers → s' ≡ slot_with f (initn_content f n) s →
    HandsOut true (field_set f) (typed_of f).type (pointer_in f s') v → HandsNewSized (field_set f) (typed_of f) n v
initn_stands f n s s' v h inside e out =
    (h, subst (λ (y : Tree). HandsOut true (field_set f) (typed_of f).type y v) (slot_there f s s' (initn_tree (field_set f) (typed_of f).type n) inside e) out)

-- ---- by the kind of a field, and by its name ----

pub init_group : (f : Field) (g : StructHandle) (s : StructTree) → IsGroupAt f (built_schema g) → built_struct g ≡ group_without f s → HandsInit f s (built.Struct g)
init_group f g s at e = subst (λ (q : Bool). start_handed q (field_set f) (field_brand f) (typed_of f) s (built.Struct g)) (sym at.is_group) (at.set, at.number, e)

pub init_slot : (f : Field) (s : StructTree) (v : BuiltValue) → IsSlot f → HandsNew (field_set f) (typed_of f) v → HandsInit f s v
init_slot f s v slot h = subst (λ (q : Bool). start_handed q (field_set f) (field_brand f) (typed_of f) s v) (sym slot) h

pub same_init : (s : StructSchema) (o : Option ℕ) (f g : Field) → IsFound s o (Some f) → IsFound s o (Some g) → (x : StructTree) (v : BuiltValue) → HandsInit f x v → HandsInit g x v
same_init s o f g a b x v h =
    moved (λ (z : StructSchema) (i : ℕ). start_handed (is_group_field (struct_field z i).field.kind) (set_of z) (number_of z) (struct_field z i) x v) s o f g a b h

pub same_start_refusal : (s : StructSchema) (o : Option ℕ) (f g : Field) → IsFound s o (Some f) → IsFound s o (Some g) → (e : Error) → IsStartRefusal f e → IsStartRefusal g e
same_start_refusal s o f g a b e h =
    moved (λ (z : StructSchema) (i : ℕ). (is_group_field (struct_field z i).field.kind ≡ false) × IsInitRefusal (struct_field z i).type e.kind) s o f g a b h

pub same_initn : (s : StructSchema) (o : Option ℕ) (f g : Field) → IsFound s o (Some f) → IsFound s o (Some g) → (n : ℕ) (v : BuiltValue) → HandsInitn f n v → HandsInitn g n v
same_initn s o f g a b n v h = moved (λ (z : StructSchema) (i : ℕ). HandsNewSized (set_of z) (struct_field z i) n v) s o f g a b h

pub same_sized_refusal : (s : StructSchema) (o : Option ℕ) (f g : Field) → IsFound s o (Some f) → IsFound s o (Some g) → (n : ℕ) (e : Error) → IsSizedRefusal f n e → IsSizedRefusal g n e
same_sized_refusal s o f g a b n e h = moved (λ (z : StructSchema) (i : ℕ). IsInitnRefusal (set_of z) n (struct_field z i).type e.kind) s o f g a b h
