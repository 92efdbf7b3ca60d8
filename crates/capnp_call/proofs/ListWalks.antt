-- The walk of a path from a list, a step after another, and what is done at its end there.
use Rattle.std.proofs.Common.{ℕ, ◌-◌, ◌*◌, ◌^◌, ◌<◌, ◌≤◌, ◌≡◌, ◌⊎◌, refl, List, [], ◌∷◌, Bool, true, false, ◌&&◌, nat_lt, IsTrue, Option, Some, None, Ok, Err, ap, arith, inl, inr, sym, subst, ◌∙◌}
use Rattle.std.proofs.lemmas.Bool.{lt-ltb, true≢false}
use Rattle.capnp_device.specs.declared.error.Error.{Error}
use Rattle.capnp_device.specs.declared.error.ErrorKind.{ErrorKind}
use Rattle.capnp_device.specs.declared.error.ErrorKind.TheVariants.{NoSuchElement, NotAContainer, OutOfMemory, UntypedStep}
use Rattle.capnp_wire.specs.Edits.{IsDueRefusal}
use Rattle.capnp_wire.specs.Facts.Room.{HasPointer_there}
use Rattle.capnp_wire.specs.WellFormed.{IsWellFormed}
use Rattle.capnp_wire.specs.Elements.{HasPointer, HasStruct, reads_list, with_pointer_element, with_struct_element}
use Rattle.capnp_wire.specs.Reading.{element_pointer, element_struct, is_null_tree, list_length}
use Rattle.capnp_wire.specs.Tree as tree
use Rattle.capnp_wire.specs.Tree.{StructTree, Tree}
use Rattle.capnp_wire.specs.Words.{first_fault}
use Rattle.capnp_wire.specs.declared.size.ElementSize.TheVariants.{InlineComposite}
use Rattle.capnp_base.specs.declared.introspect.RawBrandedStructSchema.{RawBrandedStructSchema}
use Rattle.capnp_base.specs.declared.introspect.«Type».{«Type» as TypeHandle}
use Rattle.capnp_base.specs.declared.introspect.TypeVariant.{TypeVariant}
use Rattle.capnp_base.specs.declared.introspect.TypeVariant.TheVariants as variant
use Rattle.capnp_schema.specs.Schema.{ListValue, Schemas, VoidValue}
use Rattle.capnp_schema.specs.Types.{AnyPointerType, BoolType, DataType, IntType, ListType, SchemaType, StructType, TextType, UIntType, VoidType, seen_variant}
use Rattle.capnp_records.specs.Call.{ElementAt, FieldNamed, FieldNumber, PathStep, Refused}
use Rattle.capnp_records.specs.Call as record_call
use Rattle.capnp_records.specs.Facts.Frame.{chosen_first, second_of}
use Rattle.capnp_records.specs.Facts.ListValues.{count_values_from, list_from, nth_values_from}
use Rattle.capnp_records.specs.Part.{value_count}
use Rattle.capnp_records.specs.Reading.{value_of}
use Rattle.capnp_records.specs.Record as value
use Rattle.capnp_records.specs.Record.{Endless, NoValues, Values, values_from}
use Rattle.capnp_records.specs.Step.{CanRefuse, Found, StepTarget, fault_of, filled_value, for_memory, for_size, in_list, size_of, takes_room, step_target, walked_by_type, walked_result, walked_target}
use Rattle.capnp_records.specs.Writes.Fill.{IsAtRest, entered_list}
use Rattle.capnp_records.specs.Writes.Slots.{Fits}
use Rattle.capnp_schema.specs.Plan.{brand_size}
use Rattle.capnp_records.specs.Writes.Stand.{ListSound, OnList, OnStruct}
use Rattle.capnp_records.specs.Steps.Stand.{seen_element}
use Rattle.capnp_records.specs.Writes.TreeEnds.{TreeDoesAt, TreeEnds}
use Rattle.capnp_records.specs.Writes.TreeRun.{TreeEnd, TreeEnters, TreePasses, TreeWalks}
use Rattle.capnp_slots.specs.Fills.{fill_due}
use Rattle.capnp_call.proofs.Behind.{due_memory}
use Rattle.capnp_call.proofs.ListBehind.{IsListDefault, memory_there, null_holds, slot_within}
use Rattle.capnp_call.proofs.ListReads.{IsTooLarge, IsUnreadable, list_read, list_unfilled}
use Rattle.capnp_call.specs.Ends.{AsStruct}
use Rattle.capnp_call.specs.Lists.{IsListStand, ListEnds}
use Rattle.capnp_call.specs.Steps.Lists.{ElementDoes, ElementWalks, ListWalks, element_at, refusal_at_nothing}
use Rattle.capnp_call.specs.Seen.{op_seen, path_seen, reply_seen, step_seen}
use Rattle.capnp_call.specs.Walks.{EndsAt, StructWalks}
use Rattle.capnp_call.specs.declared.calls.Ending.{Ending}
use Rattle.capnp_call.specs.declared.calls.Op.{Op}
use Rattle.capnp_call.specs.declared.calls.Op.TheVariants as op
use Rattle.capnp_call.specs.declared.calls.Reply.{Reply}
use Rattle.capnp_call.specs.declared.calls.Reply.TheVariants as reply
use Rattle.capnp_call.specs.declared.calls.Step.{Step}
use Rattle.capnp_call.specs.declared.calls.Step.TheVariants as step

past : (m n : ℕ) → n ≤ m → nat_lt m n ≡ false
past m n a = grind (arith, a)

and_false : (a : Bool) → (a && false) ≡ false
and_false true = refl
and_false false = refl

-- ---- what an element is ----

module _ (set : Schemas) (e : SchemaType) (x : Tree) where
  abbrev vs : Values
  vs = values_from (seen_element set x e) 0 (list_length x)

  count : value_count vs ≡ list_length x
  count = count_values_from (seen_element set x e) 0 (list_length x)

  found_in : (i : ℕ) → i < list_length x → in_list e vs (ElementAt i) ≡ Ok (element_at set e x i)
  found_in i inside = chosen_first (nat_lt i (value_count vs)) _ _ (lt-ltb i (value_count vs) (subst (λ n. i < n) (sym count) inside))

  found_past : (i : ℕ) → list_length x ≤ i → in_list e vs (ElementAt i) ≡ Err NoSuchElement
  found_past i h = second_of (nat_lt i (value_count vs)) _ _ (past i (value_count vs) (subst (λ n. n ≤ i) (sym count) h))

  pub part_seen : (i : ℕ) → i < list_length x → (element_at set e x i).part ≡ seen_element set x e i
  part_seen i inside = nth_values_from (seen_element set x e) 0 (list_length x) i inside ∙ ap (seen_element set x e) (omega arith)

  module _ (stands : IsListStand set e x) (there : is_null_tree x ≡ false) where
    value_is : value_of set x Endless (ListType e) ≡ value.Elements vs
    value_is = list_from set x e (stands.reads_it there)

    target_is : (s : PathStep) (r : Found) → in_list e vs s ≡ r → step_target set (ListType e) (value_of set x Endless (ListType e)) s ≡ r
    target_is s r found = ap (λ v. step_target set (ListType e) v s) value_is ∙ found

    -- ---- the path ----

    pub list_end : (path : List Step) (end : Ending) (r : Reply) (x' : Tree) → path ≡ [] → ListEnds set e end x r x' → ListWalks set e path end x r x'
    unfolding ListWalks
    list_end path end r x' is ends = subst (λ (p : List Step). ListWalks set e p end x r x') (sym is) ends

    pub element_there : (i : ℕ) (rest : List Step) (end : Ending) (r : Reply) (x' : Tree) → i < list_length x → ElementWalks set e i rest end x r x' → ListWalks set e (step.Element i ∷ rest) end x r x'
    unfolding ListWalks ElementWalks
    element_there i rest end r x' inside walks =
        subst (λ (y : Found). TreePasses set (TreeWalks set (EndsAt set end) (path_seen rest)) (ListType e) (OnList x) (ElementAt i) (walked_result y) (reply_seen r) (OnList x'))
        (sym (target_is (ElementAt i) (Ok (element_at set e x i)) (found_in i inside))) walks

    refused_at : (s : PathStep) (kind : ErrorKind) (further : TreeEnd) → in_list e vs s ≡ Err kind → TreePasses set further (ListType e) (OnList x) s (walked_target set (ListType e) (value_of set x Endless (ListType e)) s) (Refused kind) (OnList x)
    refused_at s kind further found =
        subst (λ (y : Found). TreePasses set further (ListType e) (OnList x) s (walked_result y) (Refused kind) (OnList x)) (sym (target_is s (Err kind) found)) (refl, refl)

    pub element_past : (i : ℕ) (rest : List Step) (end : Ending) → list_length x ≤ i → ListWalks set e (step.Element i ∷ rest) end x (reply.Refused NoSuchElement) x
    unfolding ListWalks
    element_past i rest end h = refused_at (ElementAt i) NoSuchElement (TreeWalks set (EndsAt set end) (path_seen rest)) (found_past i h)

    pub field_of_list : (i : ℕ) (rest : List Step) (end : Ending) → ListWalks set e (step.Field i ∷ rest) end x (reply.Refused NotAContainer) x
    unfolding ListWalks
    field_of_list i rest end = refused_at (FieldNumber i) NotAContainer (TreeWalks set (EndsAt set end) (path_seen rest)) refl

    pub name_of_list : (s : Step) (name : List ℕ) (rest : List Step) (end : Ending) → step_seen s ≡ FieldNamed name → ListWalks set e (s ∷ rest) end x (reply.Refused NotAContainer) x
    unfolding ListWalks
    name_of_list s name rest end is =
        subst (λ (y : PathStep). TreePasses set (TreeWalks set (EndsAt set end) (path_seen rest)) (ListType e) (OnList x) y (walked_target set (ListType e) (value_of set x Endless (ListType e)) y) (Refused NotAContainer) (OnList x)) (sym is)
        (refused_at (FieldNamed name) NotAContainer (TreeWalks set (EndsAt set end) (path_seen rest)) refl)

    -- ---- the end ----

    -- nothing but Which asks no step
    ends_by : (o : Op) (last : PathStep) (r : record_call.Reply) (x' : Tree) → (o ≡ op.Which → ⊥) →
        TreeDoesAt set (op_seen o) (step_target set (ListType e) (value_of set x Endless (ListType e)) last) (ListType e) (OnList x) last r (OnList x') → TreeEnds set last (op_seen o) (ListType e) (OnList x) r (OnList x')
    ends_by op.Which last r x' names does = absurd (names refl)
    ends_by o last r x' names does = does

    pub ends_element : (end : Ending) (i : ℕ) (r : Reply) (x' : Tree) → (end.call.now.op ≡ op.Which → ⊥) → step_seen end.call.now.last ≡ ElementAt i → i < list_length x → ElementDoes set e i end.call.now.op x r x' → ListEnds set e end x r x'
    ends_element end i r x' names last inside does =
        subst (λ (s : PathStep). TreeEnds set s (op_seen end.call.now.op) (ListType e) (OnList x) (reply_seen r) (OnList x')) (sym last)
        (ends_by end.call.now.op (ElementAt i) (reply_seen r) x' names
        (subst (λ (y : Found). TreeDoesAt set (op_seen end.call.now.op) y (ListType e) (OnList x) (ElementAt i) (reply_seen r) (OnList x')) (sym (target_is (ElementAt i) (Ok (element_at set e x i)) (found_in i inside))) does))

    ends_refused : (end : Ending) (s : PathStep) (kind : ErrorKind) → (end.call.now.op ≡ op.Which → ⊥) → step_seen end.call.now.last ≡ s → in_list e vs s ≡ Err kind → ListEnds set e end x (reply.Refused kind) x
    ends_refused end s kind names last found =
        subst (λ (y : PathStep). TreeEnds set y (op_seen end.call.now.op) (ListType e) (OnList x) (Refused kind) (OnList x)) (sym last)
        (ends_by end.call.now.op s (Refused kind) x names
        (subst (λ (y : Found). TreeDoesAt set (op_seen end.call.now.op) y (ListType e) (OnList x) s (Refused kind) (OnList x)) (sym (target_is s (Err kind) found)) (refl, refl)))

    pub ends_past : (end : Ending) (i : ℕ) → (end.call.now.op ≡ op.Which → ⊥) → end.call.now.last ≡ step.Element i → list_length x ≤ i → ListEnds set e end x (reply.Refused NoSuchElement) x
    ends_past end i names last h = ends_refused end (ElementAt i) NoSuchElement names (ap step_seen last) (found_past i h)

    -- the last step names a field
    pub ends_at_field : (end : Ending) → (end.call.now.op ≡ op.Which → ⊥) → ((i : ℕ) → end.call.now.last ≡ step.Element i → ⊥) → ListEnds set e end x (reply.Refused NotAContainer) x
    ends_at_field end names other = go end.call.now.last refl
      where
        go : (l : Step) → end.call.now.last ≡ l → ListEnds set e end x (reply.Refused NotAContainer) x
        go (step.Field i) is = ends_refused end (FieldNumber i) NotAContainer names (ap step_seen is) refl
        go (step.Named name) is = ends_refused end (FieldNamed name.now) NotAContainer names (ap step_seen is) refl
        go (step.Element i) is = absurd (other i is)

-- ---- a null that no default filled ----

nothing_found : (e : SchemaType) (s : PathStep) → in_list e NoValues s ≡ Err (refusal_at_nothing s)
nothing_found e (FieldNumber i) = refl
nothing_found e (FieldNamed name) = refl
nothing_found e (ElementAt i) = second_of (nat_lt i 0) _ _ (past i 0 (omega arith))

pub nothing_steps : (path : List Step) (s : Step) (rest : List Step) (end : Ending) (kind : ErrorKind) → path ≡ s ∷ rest → kind ≡ refusal_at_nothing (step_seen s) →
    (set : Schemas) (e : SchemaType) → ListWalks set e path end tree.Null (reply.Refused kind) tree.Null
unfolding ListWalks
nothing_steps path s rest end kind is same set e =
    subst (λ (p : List Step). ListWalks set e p end tree.Null (reply.Refused kind) tree.Null) (sym is)
    (subst (λ (y : Found). TreePasses set (TreeWalks set (EndsAt set end) (path_seen rest)) (ListType e) (OnList tree.Null) (step_seen s) (walked_result y) (Refused kind) (OnList tree.Null)) (sym (nothing_at set e (step_seen s))) (ap Refused same, refl))
  where
    nothing_at : (set : Schemas) (e : SchemaType) (s : PathStep) → step_target set (ListType e) (value.Missing Endless) s ≡ Err (refusal_at_nothing s)
    nothing_at set e s = nothing_found e s

pub nothing_which : (path : List Step) (end : Ending) → path ≡ [] → end.call.now.op ≡ op.Which → (set : Schemas) (e : SchemaType) → ListWalks set e path end tree.Null (reply.Refused NotAContainer) tree.Null
unfolding ListWalks
nothing_which path end is which set e =
    subst (λ (p : List Step). ListWalks set e p end tree.Null (reply.Refused NotAContainer) tree.Null) (sym is)
    (subst (λ (o : Op). TreeEnds set (step_seen end.call.now.last) (op_seen o) (ListType e) (OnList tree.Null) (Refused NotAContainer) (OnList tree.Null)) (sym which) ((refl, refl), refl))

nothing_by : (o : Op) (set : Schemas) (e : SchemaType) (last : PathStep) (kind : ErrorKind) → (o ≡ op.Which → ⊥) → kind ≡ refusal_at_nothing last →
    TreeEnds set last (op_seen o) (ListType e) (OnList tree.Null) (Refused kind) (OnList tree.Null)
nothing_by op.Which set e last kind names same = absurd (names refl)
nothing_by o set e last kind names same =
    subst (λ (y : Found). TreeDoesAt set (op_seen o) y (ListType e) (OnList tree.Null) last (Refused kind) (OnList tree.Null)) (sym (nothing_found e last)) (ap Refused same, refl)

pub nothing_ends : (path : List Step) (end : Ending) (kind : ErrorKind) → path ≡ [] → (end.call.now.op ≡ op.Which → ⊥) → kind ≡ refusal_at_nothing (step_seen end.call.now.last) →
    (set : Schemas) (e : SchemaType) → ListWalks set e path end tree.Null (reply.Refused kind) tree.Null
unfolding ListWalks
nothing_ends path end kind is names same set e =
    subst (λ (p : List Step). ListWalks set e p end tree.Null (reply.Refused kind) tree.Null) (sym is) (nothing_by end.call.now.op set e (step_seen end.call.now.last) kind names same)

-- ---- into an element ----

struct_there : (set : Schemas) (b g : ℕ) (x : Tree) (i : ℕ) → reads_list InlineComposite x ≡ true → ListSound set (StructType b g) x → i < list_length x → HasStruct x i
struct_there set b g (tree.Composite d p es) i reads sound a = a
struct_there set b g tree.Null i reads sound a = absurd (true≢false (sym reads))
struct_there set b g (tree.Struct bytes ps) i reads sound a = absurd (true≢false (sym reads))
struct_there set b g (tree.Voids n) i reads sound a = absurd sound
struct_there set b g (tree.Bits bs) i reads sound a = absurd (true≢false (sym reads))
struct_there set b g (tree.Numbers w bytes) i reads sound a = absurd sound
struct_there set b g (tree.Pointers ps) i reads sound a = absurd sound
struct_there set b g (tree.FaultLeaf k) i reads sound a = absurd (true≢false (sym reads))

-- what has an element is no null
pub filled_there : (x : Tree) (i : ℕ) → i < list_length x → is_null_tree x ≡ false
filled_there tree.Null i a = absurd (omega (arith, a))
filled_there x i a = refl

pub has_struct : (set : Schemas) (b g : ℕ) (x : Tree) (i : ℕ) → IsListStand set (StructType b g) x → i < list_length x → HasStruct x i
has_struct set b g x i stands a = struct_there set b g x i (stands.reads_it (filled_there x i a)) stands.sound a

pub fits_at : (set : Schemas) (b g : ℕ) (x : Tree) (i : ℕ) → HasStruct x i → ListSound set (StructType b g) x → Fits set b (element_struct x i)
fits_at set b g (tree.Composite d p es) i there sound = sound i there
fits_at set b g x i there sound = absurd there

pub has_pointer : (set : Schemas) (e : SchemaType) (x : Tree) (i : ℕ) → IsListStand set (ListType e) x → i < list_length x → HasPointer x i
has_pointer set e x i stands a = HasPointer_there x i (stands.reads_it (filled_there x i a)) stands.formed a

module _ (set : Schemas) (x : Tree) (i : ℕ) (rest : List Step) (end : Ending) (inside : i < list_length x) where
  -- an element of another type leads nowhere
  pub element_stops : (e : SchemaType) (kind : ErrorKind) → walked_by_type (element_at set e x i) e ≡ Err kind → ElementWalks set e i rest end x (reply.Refused kind) x
  unfolding ElementWalks
  element_stops e kind is =
      subst (λ (y : Found). TreePasses set (TreeWalks set (EndsAt set end) (path_seen rest)) (ListType e) (OnList x) (ElementAt i) y (Refused kind) (OnList x)) (sym is) (refl, refl)

  pub element_in_struct : (b g : ℕ) (r : Reply) (y : StructTree) → StructWalks set b rest end (element_struct x i) r y → ElementWalks set (StructType b g) i rest end x r (with_struct_element i y x)
  unfolding StructWalks ElementWalks
  element_in_struct b g r y walks =
      subst (λ (o : Option ErrorKind). TreeEnters set further (ListType (StructType b g)) (OnList x) (ElementAt i) o (element_at set (StructType b g) x i) (reply_seen r) (OnList (with_struct_element i y x)))
      (sym (ap fault_of (part_seen set (StructType b g) x i inside)))
      (inr (record { within = tt; there = tt; inner = OnStruct y; goes_on = walks AsStruct g; rest = refl }))
    where
      further : TreeEnd
      further = TreeWalks set (EndsAt set end) (path_seen rest)

  module _ (e : SchemaType) where
    abbrev at : Tree
    at = element_pointer x i 1

    pub element_in_list : (r : Reply) (y : Tree) → HasPointer x i → fill_due set VoidValue (ListType e) at ≡ None → first_fault at ≡ None → ListWalks set e rest end (entered_list set e at) r y →
        ElementWalks set (ListType e) i rest end x r (with_pointer_element i y x)
    unfolding ListWalks ElementWalks
    element_in_list r y there due whole walks =
        subst (λ (o : Option ErrorKind). TreeEnters set further (ListType (ListType e)) (OnList x) (ElementAt i) o (element_at set (ListType e) x i) (reply_seen r) (OnList (with_pointer_element i y x)))
        (sym (ap fault_of (part_seen set (ListType e) x i inside) ∙ list_read set VoidValue at e due whole))
        (inr (record { within = slot_within set VoidValue at e due; there = there; inner = OnList y; goes_on = walks; rest = refl }))
      where
        further : TreeEnd
        further = TreeWalks set (EndsAt set end) (path_seen rest)

    -- elements have no defaults
    no_default : IsListDefault VoidValue e
    no_default words is = absurd (other is)
      where
        other : VoidValue ≡ ListValue words → ⊥
        other e = cc

    memory_of : (t : SchemaType) → fill_due set VoidValue (ListType t) at ≡ None → (IsAtRest set VoidValue (ListType t) at → ⊥) → (z : StepTarget) → z.part ≡ value_of set at Endless (ListType t) →
        IsTrue (takes_room z (ListType t) z.part)
    memory_of (StructType b g) due moves z part = go (is_null_tree at) refl
      where
        go : (q : Bool) → is_null_tree at ≡ q → IsTrue (takes_room z (ListType (StructType b g)) z.part)
        go true h = absurd (moves (and_false (is_null_tree at), null_holds (brand_size set b) at h))
        go false h = memory_there set z b g at part h
    memory_of t due moves z part = absurd (moves (and_false (is_null_tree at), due))

    pub element_list_stops : (n : Error) (x' : Tree) → x' ≡ x → ((b : ℕ) → ((brand_size set b).data_words < 2 ^ 16) × ((brand_size set b).pointers < 2 ^ 16)) → IsWellFormed at → first_fault at ≡ None →
        IsDueRefusal n (fill_due set VoidValue (ListType e) at) → (IsAtRest set VoidValue (ListType e) at → ⊥) → ElementWalks set (ListType e) i rest end x (reply.Refused n.kind) x'
    unfolding ElementWalks
    element_list_stops n x' same sizes formed whole refusal moves =
        subst (λ (z : Tree). ElementWalks set (ListType e) i rest end x (reply.Refused n.kind) z) (sym same) (go (fill_due set VoidValue (ListType e) at) refl)
      where
        further : TreeEnd
        further = TreeWalks set (EndsAt set end) (path_seen rest)

        z : StepTarget
        z = element_at set (ListType e) x i

        part_is : z.part ≡ value_of set at Endless (ListType e)
        part_is = part_seen set (ListType e) x i inside

        enters : (o : Option ErrorKind) → fault_of z.part ≡ o → TreeEnters set further (ListType (ListType e)) (OnList x) (ElementAt i) o z (Refused n.kind) (OnList x) →
            TreePasses set further (ListType (ListType e)) (OnList x) (ElementAt i) (Ok z) (Refused n.kind) (OnList x)
        enters o is h = subst (λ (q : Option ErrorKind). TreeEnters set further (ListType (ListType e)) (OnList x) (ElementAt i) q z (Refused n.kind) (OnList x)) (sym is) h

        refused : (kind : ErrorKind) → n.kind ≡ kind → IsUnreadable set e at kind ⊎ IsTooLarge set VoidValue e at kind → TreePasses set further (ListType (ListType e)) (OnList x) (ElementAt i) (Ok z) (Refused n.kind) (OnList x)
        refused kind is (inl h) = enters (Some kind) (ap fault_of part_is ∙ h.fault) (ap Refused is, refl)
        refused kind is (inr h) = enters None (ap fault_of part_is ∙ h.sound)
            (inl (record {
              kind = kind;
              can = subst (CanRefuse set z) (sym h.past.0) (for_size h.past.1 (subst (λ v. 2 ^ 29 - 1 < size_of (filled_value set VoidValue (ListType e) v) * 131070) (sym part_is) h.past.2));
              moves = moves;
              refused = (ap Refused is, refl);
            }))

        go : (o : Option ErrorKind) → fill_due set VoidValue (ListType e) at ≡ o → TreePasses set further (ListType (ListType e)) (OnList x) (ElementAt i) (Ok z) (Refused n.kind) (OnList x)
        go (Some kind) due = refused kind (refusal.1 kind due) (list_unfilled set VoidValue at e kind sizes no_default formed due)
        go None due = enters None (ap fault_of part_is ∙ list_read set VoidValue at e due whole)
            (inl (record {
              kind = OutOfMemory;
              can = for_memory (memory_of e due moves z part_is);
              moves = moves;
              refused = (ap Refused (due_memory n (fill_due set VoidValue (ListType e) at) refusal due), refl);
            }))

-- ---- elements that lead nowhere, and steps that name none ----

pub other_stops : (set : Schemas) (v : TypeVariant) (x : Tree) (i : ℕ) (rest : List Step) (end : Ending) → i < list_length x → ((z : RawBrandedStructSchema) → v ≡ variant.Struct z → ⊥) → ((t : TypeHandle) → v ≡ variant.List t → ⊥) →
    (v ≡ variant.AnyPointer → ⊥) → ElementWalks set (seen_variant v) i rest end x (reply.Refused NotAContainer) x
other_stops set (variant.Struct z) x i rest end a s l p = absurd (s z refl)
other_stops set (variant.List t) x i rest end a s l p = absurd (l t refl)
other_stops set variant.AnyPointer x i rest end a s l p = absurd (p refl)
other_stops set variant.Void x i rest end a s l p = element_stops set x i rest end a VoidType NotAContainer refl
other_stops set variant.Bool x i rest end a s l p = element_stops set x i rest end a BoolType NotAContainer refl
other_stops set variant.Int8 x i rest end a s l p = element_stops set x i rest end a (IntType 1) NotAContainer refl
other_stops set variant.Int16 x i rest end a s l p = element_stops set x i rest end a (IntType 2) NotAContainer refl
other_stops set variant.Int32 x i rest end a s l p = element_stops set x i rest end a (IntType 4) NotAContainer refl
other_stops set variant.Int64 x i rest end a s l p = element_stops set x i rest end a (IntType 8) NotAContainer refl
other_stops set variant.UInt8 x i rest end a s l p = element_stops set x i rest end a (UIntType 1) NotAContainer refl
other_stops set variant.UInt16 x i rest end a s l p = element_stops set x i rest end a (UIntType 2) NotAContainer refl
other_stops set variant.UInt32 x i rest end a s l p = element_stops set x i rest end a (UIntType 4) NotAContainer refl
other_stops set variant.UInt64 x i rest end a s l p = element_stops set x i rest end a (UIntType 8) NotAContainer refl
other_stops set (variant.Enum n) x i rest end a s l p = element_stops set x i rest end a (seen_variant (variant.Enum n)) NotAContainer refl
other_stops set variant.Text x i rest end a s l p = element_stops set x i rest end a TextType NotAContainer refl
other_stops set variant.«Data» x i rest end a s l p = element_stops set x i rest end a DataType NotAContainer refl

pub untyped_stops : (set : Schemas) (e : SchemaType) (x : Tree) (i : ℕ) (rest : List Step) (end : Ending) → i < list_length x → AnyPointerType ≡ e → ElementWalks set e i rest end x (reply.Refused UntypedStep) x
untyped_stops set e x i rest end a is = subst (λ (t : SchemaType). ElementWalks set t i rest end x (reply.Refused UntypedStep) x) is (element_stops set x i rest end a AnyPointerType UntypedStep refl)

pub names_none : (set : Schemas) (e : SchemaType) (x : Tree) (stands : IsListStand set e x) (there : is_null_tree x ≡ false) (path : List Step) (s : Step) (rest : List Step) (end : Ending) → path ≡ s ∷ rest →
    ((i : ℕ) → s ≡ step.Element i → ⊥) → ListWalks set e path end x (reply.Refused NotAContainer) x
names_none set e x stands there path s rest end is other = subst (λ (p : List Step). ListWalks set e p end x (reply.Refused NotAContainer) x) (sym is) (go s other)
  where
    go : (s : Step) → ((i : ℕ) → s ≡ step.Element i → ⊥) → ListWalks set e (s ∷ rest) end x (reply.Refused NotAContainer) x
    go (step.Field i) other = field_of_list set e x stands there i rest end
    go (step.Named name) other = name_of_list set e x stands there (step.Named name) name.now rest end refl
    go (step.Element i) other = absurd (other i refl)
