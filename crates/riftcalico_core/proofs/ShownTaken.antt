-- What a root of calls holds is taken by a set as it stands there.
use Rattle.std.proofs.Common.{◌≡◌, ℕ, zero, suc, Bool, true, false, None, cond, ◌==◌, length, nat_lt, option_map, refl, arith, ap, sym, subst, ◌∙◌}
use Rattle.std.proofs.lemmas.Bool.Decides.{nat_tests}
use Rattle.capnp_device.specs.declared.error.ErrorKind.TheVariants.{TypeMismatch}
use Rattle.capnp_wire.specs.Depth.{AreBelow, IsShallow}
use Rattle.capnp_wire.specs.Edits.{struct_in}
use Rattle.capnp_wire.specs.Place.{struct_tree}
use Rattle.capnp_wire.specs.Facts.Parts.{IsWellFormed_nth_tree}
use Rattle.capnp_wire.specs.Facts.ReadBack.{none_first}
use Rattle.capnp_wire.specs.Reading.{cut_pointer, element_pointer, refusal}
use Rattle.capnp_wire.specs.Tree as tree
use Rattle.capnp_wire.specs.Tree.{StructTree, Tree, nth_tree, tree_count}
use Rattle.capnp_wire.specs.WellFormed.{AreElements, AreWellFormed, IsWellFormed}
use Rattle.capnp_wire.specs.Words.{first_fault, first_fault_of_all}
use Rattle.capnp_schema.specs.Accepted.{GroupFits}
use Rattle.capnp_schema.specs.Plan.{plan_place}
use Rattle.capnp_schema.specs.Schema.{FieldKind, Group, Schemas, Slot, TypedField}
use Rattle.capnp_schema.specs.Types.{ListType, SchemaType, StructType}
use Rattle.capnp_schema.specs.declared.plan.Place.TheVariants as place
use Rattle.capnp_records.specs.Call.{ListSource, StructSource}
use Rattle.capnp_records.specs.Facts.Extension.{reads_rounded}
use Rattle.capnp_records.specs.Facts.ListValues.{elements_seen, list_is, unread}
use Rattle.capnp_records.specs.Facts.Pointers.{values_of_nth}
use Rattle.capnp_records.specs.Given.{Copies, CopiesGroup, Fails, Given, copied_struct}
use Rattle.capnp_records.specs.Reading.{Reading, kind_value, part_of, reads, record_within, value_of, values_of}
use Rattle.capnp_records.specs.Record as value
use Rattle.capnp_records.specs.Record.{Endless, Left, Record, Value}
use Rattle.capnp_records.specs.Writes.TreeEnds.{offset_of}
use Rattle.capnp_call.proofs.Behind.{nth_sound}
use Rattle.capnp_json_messages.specs.Ones.{IsCopyOf, IsTakenAs}
use Rattle.capnp_value_texts.specs.Calls.{lists_of}
use Rattle.riftcalico_core.specs.ShownSeen.{tree_down}
use Rattle.riftcalico_core.specs.ShownValues.{first_element, first_within}

-- ---- a struct ----

same_brand : (b : ℕ) → (b == b) ≡ true
same_brand b = grind (arith, nat_tests)

-- what a test of two numbers that are one chooses
where_same : (set : Schemas) (b : ℕ) (g other : Given) (v : Value) → IsCopyOf set g v → IsCopyOf set (cond (b == b) g other) v
where_same set b g other v h = subst (λ (q : Bool). IsCopyOf set (cond q g other) v) (sym (same_brand b)) h

pub struct_taken : (set : Schemas) (b g : ℕ) (s : StructTree) → first_fault_of_all s.pointers ≡ None → AreBelow 64 s.pointers → IsTakenAs set (StructType b g) (StructSource (Left 63) s b) (value.Struct (reads set s b))
struct_taken set b g s sound below = record {
  slot = whole;
  element = where_same set b (Copies (copied_struct s) false (value_of set (copied_struct s) Endless (StructType b g))) (Fails TypeMismatch) (value.Struct (reads set s b)) whole;
  group = where_same set b (CopiesGroup (Left 63) s b) (Fails TypeMismatch) (value.Struct (reads set s b)) (ap (option_map refusal) sound, below, refl);
}
  where
    whole : IsCopyOf set (Copies (copied_struct s) false (value_of set (copied_struct s) Endless (StructType b g))) (value.Struct (reads set s b))
    whole = (ap (option_map refusal) sound, refl, ap value.Struct (reads_rounded set s b))

-- ---- the list of a field ----

pub list_placed : (set : Schemas) (k : FieldKind) (t e : SchemaType) → t ≡ ListType e → GroupFits set k t → plan_place k t ≡ place.Pointer (offset_of k)
list_placed set (Slot o d) t e is fits = subst (λ (u : SchemaType). plan_place (Slot o d) u ≡ place.Pointer o) (sym is) refl
list_placed set (Group n) t e is fits = absurd (subst (GroupFits set (Group n)) is fits)

-- the value of the field is that of the tree behind its pointer
list_seen : (set : Schemas) (group : ℕ → Record) (s : StructTree) (k : FieldKind) (t e : SchemaType) → t ≡ ListType e → GroupFits set k t →
    value_of set (nth_tree s.pointers (offset_of k)) Endless (ListType e) ≡ kind_value group Endless s.bytes (values_of set s.pointers) k t
list_seen set group s (Slot o d) t e is fits =
    subst (λ (u : SchemaType). value_of set (nth_tree s.pointers o) Endless (ListType e) ≡ kind_value group Endless s.bytes (values_of set s.pointers) (Slot o d) u) (sym is)
    (sym (ap (λ (r : Reading). r Endless (ListType e)) (values_of_nth set s.pointers o)))
list_seen set group s (Group n) t e is fits = absurd (subst (GroupFits set (Group n)) is fits)

-- ---- the first element of a list of lists ----

-- where levels are left nothing is cut
uncut : (x : Tree) → cut_pointer 62 x ≡ x
uncut tree.Null = refl
uncut x = refl

first_formed : (x : Tree) → IsWellFormed x → IsWellFormed (element_pointer x 0 62)
first_formed (tree.Pointers ps) h = IsWellFormed_nth_tree ps 0 h.1
first_formed (tree.Composite d p tree.NoStructs) h = tt
first_formed (tree.Composite d p (tree.MoreStructs bytes ps es)) h =
    let of : AreElements d p (tree.MoreStructs bytes ps es) = h.4 in
    subst IsWellFormed (sym (uncut (nth_tree ps 0))) (IsWellFormed_nth_tree ps 0 of.3)
first_formed x h = tt

first_sound : (x : Tree) → first_fault x ≡ None → first_fault (element_pointer x 0 62) ≡ None
first_sound (tree.Pointers ps) h = nth_sound ps 0 h
first_sound (tree.Composite d p tree.NoStructs) h = refl
first_sound (tree.Composite d p (tree.MoreStructs bytes ps es)) h =
    ap first_fault (uncut (nth_tree ps 0)) ∙ nth_sound ps 0 (none_first (first_fault_of_all ps) _ h)
first_sound x h = refl

-- without pointers none is there
no_pointer : (ps : tree.Trees) → tree_count ps ≡ 0 → cut_pointer 62 (nth_tree ps 0) ≡ tree.Null
no_pointer tree.NoTrees h = refl
no_pointer (tree.MoreTrees t ts) h = absurd (omega (arith, h))

-- structs are read as pointers where each has one
structs_seen : (set : Schemas) (t : SchemaType) (d p : ℕ) (es : tree.Structs) (q : Bool) → nat_lt 0 p ≡ q →
    first_element (value_of set (tree.Composite d p es) Endless (ListType (ListType t)))
    ≡ first_element (elim q as (λ _. Value) [ true ↦ elements_seen set (tree.Composite d p es) (ListType t) | false ↦ unread (tree.Composite d p es) ])
structs_seen set t d p es q is =
    ap first_element (list_is set (tree.Composite d p es) (ListType t))
    ∙ ap (λ (r : Bool). first_element (elim r as (λ _. Value) [ true ↦ elements_seen set (tree.Composite d p es) (ListType t) | false ↦ unread (tree.Composite d p es) ])) is

none_less : nat_lt 0 0 ≡ false
none_less = grind (arith, nat_tests)

some_more : (p : ℕ) → nat_lt 0 (suc p) ≡ true
some_more p = grind (arith, nat_tests)

first_of_structs : (set : Schemas) (t : SchemaType) (d p : ℕ) (es : tree.Structs) → IsWellFormed (tree.Composite d p es) →
    value_of set (element_pointer (tree.Composite d p es) 0 62) Endless (ListType t) ≡ first_element (value_of set (tree.Composite d p es) Endless (ListType (ListType t)))
first_of_structs set t d zero tree.NoStructs h = sym (structs_seen set t d zero tree.NoStructs false none_less)
first_of_structs set t d (suc p) tree.NoStructs h = sym (structs_seen set t d (suc p) tree.NoStructs true (some_more p))
first_of_structs set t d zero (tree.MoreStructs bytes ps es) h =
    let of : AreElements d zero (tree.MoreStructs bytes ps es) = h.4 in
    ap (λ (x : Tree). value_of set x Endless (ListType t)) (no_pointer ps of.2) ∙ sym (structs_seen set t d zero (tree.MoreStructs bytes ps es) false none_less)
first_of_structs set t d (suc p) (tree.MoreStructs bytes ps es) h = sym (structs_seen set t d (suc p) (tree.MoreStructs bytes ps es) true (some_more p))

first_seen : (set : Schemas) (t : SchemaType) (x : Tree) → IsWellFormed x → value_of set (element_pointer x 0 62) Endless (ListType t) ≡ first_element (value_of set x Endless (ListType (ListType t)))
first_seen set t (tree.Composite d p es) h = first_of_structs set t d p es h
first_seen set t (tree.Pointers tree.NoTrees) h = sym (ap first_element (list_is set (tree.Pointers tree.NoTrees) (ListType t)))
first_seen set t (tree.Pointers (tree.MoreTrees u us)) h = sym (ap first_element (list_is set (tree.Pointers (tree.MoreTrees u us)) (ListType t)))
first_seen set t (tree.Numbers w bytes) h = sym (ap first_element (list_is set (tree.Numbers w bytes) (ListType t)))
first_seen set t (tree.Bits bs) h = sym (ap first_element (list_is set (tree.Bits bs) (ListType t)))
first_seen set t (tree.Voids n) h = sym (ap first_element (list_is set (tree.Voids n) (ListType t)))
first_seen set t x h = refl

-- ---- so many lists down ----

down_formed : (n : ℕ) (x : Tree) → IsWellFormed x → IsWellFormed (tree_down n x)
down_formed zero x h = h
down_formed (suc n) x h = first_formed (tree_down n x) (down_formed n x h)

down_sound : (n : ℕ) (x : Tree) → first_fault x ≡ None → first_fault (tree_down n x) ≡ None
down_sound zero x h = h
down_sound (suc n) x h = first_sound (tree_down n x) (down_sound n x h)

-- the same type by its innermost list
pub lists_more : (n : ℕ) (e : SchemaType) → lists_of n (ListType e) ≡ ListType (lists_of n e)
lists_more zero e = refl
lists_more (suc n) e = ap ListType (lists_more n e)

down_seen : (set : Schemas) (n : ℕ) (e : SchemaType) (x : Tree) → IsWellFormed x → value_of set (tree_down n x) Endless (ListType e) ≡ first_within n (value_of set x Endless (lists_of n (ListType e)))
down_seen set zero e x h = refl
down_seen set (suc n) e x h =
    first_seen set e (tree_down n x) (down_formed n x h)
    ∙ (ap first_element (down_seen set n (ListType e) x h)
    ∙ ap (λ (t : SchemaType). first_within (suc n) (value_of set x Endless t)) (lists_more n (ListType e)))

-- ---- the list at a spot ----

module _ (set : Schemas) (s : StructTree) (f : TypedField) where
  abbrev list : Tree
  list = nth_tree s.pointers (offset_of f.field.kind)

  abbrev value_there : Value
  value_there = part_of set Endless s.bytes (values_of set s.pointers) f

  list_there : (n : ℕ) (e : SchemaType) → f.type ≡ lists_of n (ListType e) → GroupFits set f.field.kind f.type → value_of set list Endless (lists_of n (ListType e)) ≡ value_there
  list_there n e is fits =
      ap (value_of set list Endless) (lists_more n e)
      ∙ list_seen set (record_within (length set.brands) set Endless s.bytes (values_of set s.pointers)) s f.field.kind f.type (lists_of n e) (is ∙ lists_more n e) fits

  pub list_taken : (n : ℕ) (e : SchemaType) → f.type ≡ lists_of n (ListType e) → GroupFits set f.field.kind f.type → first_fault_of_all s.pointers ≡ None → AreWellFormed s.pointers →
      IsTakenAs set (ListType e) (ListSource (Left 62) (tree_down n list) e) (first_within n value_there)
  list_taken n e is fits sound formed = record { slot = whole; element = whole; group = tt }
    where
      whole : IsCopyOf set (Copies (tree_down n list) false (value_of set (tree_down n list) Endless (ListType e))) (first_within n value_there)
      whole = (
        ap (option_map refusal) (down_sound n list (nth_sound s.pointers (offset_of f.field.kind) sound)),
        refl,
        down_seen set n e list (IsWellFormed_nth_tree s.pointers (offset_of f.field.kind) formed) ∙ ap (first_within n) (list_there n e is fits),
      )

-- ---- a root ----

-- what is sound and shallow of a root's tree is of its pointers
pub root_sound : (x : Tree) → x ≡ struct_tree (struct_in x) → first_fault x ≡ None → first_fault_of_all (struct_in x).pointers ≡ None
root_sound x root sound = sym (ap first_fault root) ∙ sound

pub root_below : (x : Tree) → x ≡ struct_tree (struct_in x) → IsShallow x → AreBelow 64 (struct_in x).pointers
root_below x root shallow = let below : IsShallow (struct_tree (struct_in x)) = subst IsShallow root shallow in below.1

pub root_formed : (x : Tree) → x ≡ struct_tree (struct_in x) → IsWellFormed x → AreWellFormed (struct_in x).pointers
root_formed x root formed = let whole : IsWellFormed (struct_tree (struct_in x)) = subst IsWellFormed root formed in whole.4
