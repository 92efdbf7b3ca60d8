-- The element of a list of one has the list's one value, and so has its copy.
use Rattle.std.proofs.Common.{◌≡◌, ℕ, zero, suc, Bool, true, false, cond, ◌==◌, None, option_map, refl, arith, ap, sym, subst, ◌∙◌}
use Rattle.std.proofs.lemmas.Bool.{true≢false}
use Rattle.std.proofs.lemmas.Bool.Decides.{nat_tests}
use Rattle.capnp_device.specs.declared.error.ErrorKind.TheVariants.{TypeMismatch}
use Rattle.capnp_wire.specs.Depth.{AreBelow, IsShallow}
use Rattle.capnp_wire.specs.Elements.{or_empty, reads_list}
use Rattle.capnp_wire.specs.Facts.ReadBack.{none_first}
use Rattle.capnp_wire.specs.Reading.{element_pointer, element_struct, list_length, refusal}
use Rattle.capnp_wire.specs.Tree as tree
use Rattle.capnp_wire.specs.Tree.{StructTree, Tree}
use Rattle.capnp_wire.specs.Words.{first_fault, first_fault_of_all, first_of}
use Rattle.capnp_wire.specs.declared.size.ElementSize.{ElementSize}
use Rattle.capnp_schema.specs.Schema.{Schemas}
use Rattle.capnp_schema.specs.Types.{ListType, SchemaType, StructType, element_size}
use Rattle.capnp_records.specs.Call.{ListSource, StructSource}
use Rattle.capnp_records.specs.Facts.Extension.{reads_rounded}
use Rattle.capnp_records.specs.Facts.ListValues.{cut_same, elements_same, elements_seen, list_is, unread}
use Rattle.capnp_records.specs.Given.{Copies, CopiesGroup, Fails, Given, copied_struct}
use Rattle.capnp_records.specs.Reading.{reads, value_of}
use Rattle.capnp_records.specs.Record as value
use Rattle.capnp_records.specs.Record.{Endless, Left, Levels, MoreValues, NoValues, Value, Values, values_from}
use Rattle.capnp_records.specs.Steps.Stand.{seen_element}
use Rattle.capnp_records.specs.Writes.Stand.{ListSound}
use Rattle.capnp_json_messages.specs.Ones.{IsCopyOf, IsInnerReadable, IsListIfAsked, IsReadable, IsTakenAs, element_source, inner_list, is_elements, is_whole}
use Rattle.capnp_json_messages.specs.Put.{IsListOf}

-- ---- what is read as a list ----

not_unread : (x : Tree) (vs : Values) → unread x ≡ value.Elements vs → ⊥
not_unread tree.Null vs h = cc
not_unread (tree.Struct bytes ps) vs h = cc
not_unread (tree.Voids n) vs h = cc
not_unread (tree.Bits bs) vs h = cc
not_unread (tree.Numbers w bytes) vs h = cc
not_unread (tree.Pointers ps) vs h = cc
not_unread (tree.Composite d p es) vs h = cc
not_unread (tree.FaultLeaf k) vs h = cc

first_value : (f : ℕ → Value) (n : ℕ) (v : Value) → values_from f 0 n ≡ MoreValues v NoValues → f 0 ≡ v
first_value f zero v h = absurd (none_there h)
  where
    none_there : {w : Value} {ws : Values} → NoValues ≡ MoreValues w ws → ⊥
    none_there e = cc
first_value f (suc n) v h = same_first h
  where
    same_first : {a w : Value} {bs ws : Values} → MoreValues a bs ≡ MoreValues w ws → a ≡ w
    same_first e = cc

-- what has values is read as elements of its type's size
listed_by : (set : Schemas) (e : SchemaType) (x : Tree) (vs : Values) (q : Bool) → reads_list (element_size e) x ≡ q
    → (elim q as (λ _. Value) [ true ↦ elements_seen set x e | false ↦ unread x ]) ≡ value.Elements vs → reads_list (element_size e) x ≡ true
listed_by set e x vs true is k = is
listed_by set e x vs false is k = absurd (not_unread x vs k)

pub listed : (set : Schemas) (e : SchemaType) (x : Tree) (vs : Values) → value_of set x Endless (ListType e) ≡ value.Elements vs → reads_list (element_size e) x ≡ true
listed set e x vs h = listed_by set e x vs (reads_list (element_size e) x) refl (sym (list_is set x e) ∙ h)

-- the first of a list of one has its value
pub one_seen : (set : Schemas) (e : SchemaType) (x : Tree) (v : Value) → value_of set x Endless (ListType e) ≡ value.Elements (MoreValues v NoValues) → seen_element set x e 0 ≡ v
one_seen set e x v h = by_reads (reads_list (element_size e) x) refl (sym (list_is set x e) ∙ h)
  where
    by_reads : (q : Bool) → reads_list (element_size e) x ≡ q → (elim q as (λ _. Value) [ true ↦ elements_seen set x e | false ↦ unread x ]) ≡ value.Elements (MoreValues v NoValues) → seen_element set x e 0 ≡ v
    by_reads true is k = first_value (seen_element set x e) (list_length x) v (elements_same k)
    by_reads false is k = absurd (not_unread x (MoreValues v NoValues) k)

-- ---- an element that is a list ----

pub pointer_level : (x : Tree) → element_pointer x 0 63 ≡ element_pointer x 0 1
pointer_level (tree.Composite d p es) = refl
pointer_level x = refl

-- one that has values is no null
not_empty : (set : Schemas) (e : SchemaType) (s : ElementSize) (x : Tree) (v : Value) → value_of set x Endless (ListType e) ≡ v → is_elements v ≡ true → or_empty s x ≡ x
not_empty set e s tree.Null v h k = absurd (true≢false (sym k ∙ ap is_elements (sym h)))
not_empty set e s (tree.Struct bytes ps) v h k = refl
not_empty set e s (tree.Voids n) v h k = refl
not_empty set e s (tree.Bits bs) v h k = refl
not_empty set e s (tree.Numbers w bytes) v h k = refl
not_empty set e s (tree.Pointers ps) v h k = refl
not_empty set e s (tree.Composite d p es) v h k = refl
not_empty set e s (tree.FaultLeaf f) v h k = refl

inner_is : (set : Schemas) (e : SchemaType) (x : Tree) (v : Value) → seen_element set x (ListType e) 0 ≡ v → is_elements v ≡ true → inner_list e x ≡ element_pointer x 0 1
inner_is set e x v seen there =
    ap (or_empty (element_size e)) (pointer_level x) ∙ not_empty set e (element_size e) (element_pointer x 0 1) v seen there

inner_value : (set : Schemas) (e : SchemaType) (x : Tree) (v : Value) → seen_element set x (ListType e) 0 ≡ v → is_elements v ≡ true → value_of set (inner_list e x) Endless (ListType e) ≡ v
inner_value set e x v seen there = ap (λ (y : Tree). value_of set y Endless (ListType e)) (inner_is set e x v seen there) ∙ seen

values_there : (set : Schemas) (e : SchemaType) (y : Tree) (v : Value) → value_of set y Endless (ListType e) ≡ v → is_elements v ≡ true → reads_list (element_size e) y ≡ true
values_there set e y (value.Elements vs) h k = listed set e y vs h
values_there set e y v h k = absurd (true≢false (sym k))

-- ---- what can be read ----

inner_readable : (set : Schemas) (t : SchemaType) (x : Tree) (v : Value) → seen_element set x t 0 ≡ v → IsListIfAsked t v → IsInnerReadable t x
inner_readable set (ListType e) x v seen there = values_there set e (inner_list e x) v (inner_value set e x v seen there) there
inner_readable set t x v seen there = tt

pub one_readable : (set : Schemas) (t : SchemaType) (x : Tree) (v : Value) → IsListOf set t x (MoreValues v NoValues) → IsListIfAsked t v → IsReadable t x
one_readable set t x v list there =
    (listed set t x (MoreValues v NoValues) list.reads_as, inner_readable set t x v (one_seen set t x v list.reads_as) there)

-- ---- what is sound ----

first_sound : (ts : tree.Trees) → first_fault_of_all ts ≡ None → first_fault_of_all (tree.only_tree ts 0) ≡ None
first_sound tree.NoTrees h = refl
first_sound (tree.MoreTrees t ts) h = ap (λ o. first_of o None) (none_first (first_fault t) (first_fault_of_all ts) h)

struct_sound : (x : Tree) → first_fault x ≡ None → first_fault_of_all (element_struct x 0).pointers ≡ None
struct_sound (tree.Pointers ps) h = first_sound ps h
struct_sound (tree.Composite d p tree.NoStructs) h = refl
struct_sound (tree.Composite d p (tree.MoreStructs bytes ps es)) h = none_first (first_fault_of_all ps) _ h
struct_sound x h = refl

first_tree_sound : (ts : tree.Trees) → first_fault_of_all ts ≡ None → first_fault (tree.nth_tree ts 0) ≡ None
first_tree_sound tree.NoTrees h = refl
first_tree_sound (tree.MoreTrees t ts) h = none_first (first_fault t) (first_fault_of_all ts) h

pointer_sound : (x : Tree) → first_fault x ≡ None → first_fault (element_pointer x 0 1) ≡ None
pointer_sound (tree.Pointers ps) h = first_tree_sound ps h
pointer_sound (tree.Composite d p es) h =
    ap first_fault (cut_same (tree.nth_tree (tree.nth_struct es 0).pointers 0)) ∙ first_tree_sound (tree.nth_struct es 0).pointers (struct_sound (tree.Composite d p es) h)
pointer_sound x h = refl

-- ---- the levels of a struct in a list ----

struct_levels : (set : Schemas) (b g : ℕ) (x : Tree) → ListSound set (StructType b g) x → reads_list (element_size (StructType b g)) x ≡ true → IsShallow x → AreBelow 63 (element_struct x 0).pointers
struct_levels set b g tree.Null sound is shallow = absurd (true≢false (sym is))
struct_levels set b g (tree.Struct bytes ps) sound is shallow = absurd (true≢false (sym is))
struct_levels set b g (tree.Voids n) sound is shallow = absurd sound
struct_levels set b g (tree.Bits bs) sound is shallow = absurd (true≢false (sym is))
struct_levels set b g (tree.Numbers w bytes) sound is shallow = absurd sound
struct_levels set b g (tree.Pointers ps) sound is shallow = absurd sound
struct_levels set b g (tree.Composite d p tree.NoStructs) sound is shallow = tt
struct_levels set b g (tree.Composite d p (tree.MoreStructs bytes ps es)) sound is shallow = let below = shallow.1 in below.0
struct_levels set b g (tree.FaultLeaf k) sound is shallow = absurd (true≢false (sym is))

-- ---- copies ----

same_brand : (b : ℕ) → (b == b) ≡ true
same_brand b = grind (arith, nat_tests)

-- what a test of two numbers that are one chooses
where_same : (set : Schemas) (b : ℕ) (g other : Given) (v : Value) → IsCopyOf set g v → IsCopyOf set (cond (b == b) g other) v
where_same set b g other v h = subst (λ (q : Bool). IsCopyOf set (cond q g other) v) (sym (same_brand b)) h

struct_taken : (set : Schemas) (b g : ℕ) (s : StructTree) (v : Value) → value.Struct (reads set s b) ≡ v → first_fault_of_all s.pointers ≡ None → AreBelow 63 s.pointers
    → IsTakenAs set (StructType b g) (StructSource (Left 62) s b) v
struct_taken set b g s v seen sound below = record {
  slot = whole;
  element = where_same set b (Copies (copied_struct s) false (value_of set (copied_struct s) Endless (StructType b g))) (Fails TypeMismatch) v whole;
  group = where_same set b (CopiesGroup (Left 62) s b) (Fails TypeMismatch) v (ap (option_map refusal) sound, below, seen);
}
  where
    whole : IsCopyOf set (Copies (copied_struct s) false (value_of set (copied_struct s) Endless (StructType b g))) v
    whole = (ap (option_map refusal) sound, refl, ap value.Struct (reads_rounded set s b) ∙ seen)

list_taken : (set : Schemas) (e : SchemaType) (l : Levels) (y : Tree) (v : Value) → value_of set y Endless (ListType e) ≡ v → first_fault y ≡ None → IsTakenAs set (ListType e) (ListSource l y e) v
list_taken set e l y v seen sound = record {
  slot = (ap (option_map refusal) sound, refl, seen);
  element = (ap (option_map refusal) sound, refl, seen);
  group = tt;
}

pub one_taken : (set : Schemas) (t : SchemaType) (x : Tree) (v : Value) → is_whole t ≡ true → IsListIfAsked t v → IsListOf set t x (MoreValues v NoValues) → first_fault x ≡ None → IsShallow x
    → IsTakenAs set t (element_source t x) v
one_taken set (StructType b g) x v whole there list sound shallow =
    struct_taken set b g (element_struct x 0) v (one_seen set (StructType b g) x v list.reads_as) (struct_sound x sound)
    (struct_levels set b g x list.sound (listed set (StructType b g) x (MoreValues v NoValues) list.reads_as) shallow)
one_taken set (ListType e) x v whole there list sound shallow =
    list_taken set e _ (inner_list e x) v (inner_value set e x v (one_seen set (ListType e) x v list.reads_as) there)
    (ap first_fault (inner_is set e x v (one_seen set (ListType e) x v list.reads_as) there) ∙ pointer_sound x sound)
one_taken set t x v whole there list sound shallow = absurd (true≢false (sym whole))
