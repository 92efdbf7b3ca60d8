-- What a set does is what the machine of records says, and why it is refused.
use Rattle.std.proofs.Common.{ℕ, suc, ◌≡◌, ◌≢◌, refl, Bool, true, false, length, Option, Some, None, ap, inl, inr, sym, subst, ◌∙◌}
use Rattle.std.proofs.lemmas.Bool.{true≢false}
use Rattle.capnp_device.specs.declared.error.ErrorKind.{ErrorKind}
use Rattle.capnp_wire.specs.Tree.{StructTree, Tree}
use Rattle.capnp_schema.specs.FieldLists.{field_schema, typed_of}
use Rattle.capnp_schema.specs.Schema.{Schemas, TypedField, default_of, field_at, Value as SchemaValue}
use Rattle.capnp_schema.specs.StructHandles.{struct_node}
use Rattle.capnp_schema.specs.Types.{ListType, SchemaType, StructType}
use Rattle.capnp_schema.specs.declared.schema.fields.Field.{Field}
use Rattle.capnp_records.specs.Call.{ElementAt, Refused, Set, Source}
use Rattle.capnp_records.specs.Call as record_call
use Rattle.capnp_records.specs.Given.{Copies, CopiesGroup, Fails, Given, Gives, copy_refusal, given_part, given_element, given_group, given_slot}
use Rattle.capnp_records.specs.Operation.{CopiesWhole, Sets}
use Rattle.capnp_records.specs.Record.{Record, Value}
use Rattle.capnp_records.specs.Step.{StepTarget, is_group_field}
use Rattle.capnp_records.specs.Writes.Contents.{SourceFits}
use Rattle.capnp_records.specs.Writes.ElementEnds.{ElementSetContent, HasElementThere}
use Rattle.capnp_records.specs.Writes.Overlay.{switched_struct}
use Rattle.capnp_records.specs.Writes.Stand.{OnList, seen_stand, stand_struct, step_field}
use Rattle.capnp_records.specs.Writes.TreeCopy.{TreeCopiesWithin}
use Rattle.capnp_records.specs.Writes.TreeEnds.{CopiedReply, CopiesGiven, SetContent, TreeDoes, with_stand_struct}
use Rattle.capnp_slots.specs.ElementSets.{IsElementSet, element_content, element_given}
use Rattle.capnp_slots.specs.Fields.{IsSlot, field_brand, field_set}
use Rattle.capnp_slots.specs.FieldWrites.{IsFieldSet, KindIsSet}
use Rattle.capnp_slots.specs.GroupSets.{IsGroupSet, given_to_group}
use Rattle.capnp_slots.specs.Groups.{IsGroup}
use Rattle.capnp_slots.specs.Primitives.{given_content, given_to, set_content}
use Rattle.capnp_slots.specs.Sources.{IsSet, IsSetRefusal, IsTaken, copy_due}
use Rattle.capnp_call.proofs.Behind.{is_memory, memory_is}
use Rattle.capnp_call.proofs.EndsDone.{slot_does, stays}
use Rattle.capnp_call.proofs.Replies.{refused_undone}
use Rattle.capnp_call.specs.Ends.{AsGroup, AsStruct, Whole, stand_of, whole_of}
use Rattle.capnp_call.specs.Steps.Ends.{FieldDoes}
use Rattle.capnp_call.specs.Steps.Lists.{element_at}
use Rattle.capnp_call.specs.Steps.Seen.{reply_by}
use Rattle.capnp_call.specs.Ways.{target_in}

-- ---- why a set is refused ----

same_kind : {j k : ErrorKind} → Some j ≡ Some k → j ≡ k
same_kind e = cc

none_some : {k : ErrorKind} → None ≡ Some k → ⊥
none_some e = cc

copy_refused : (x : StepTarget) (v old : Value) (kind : ErrorKind) (o : Option ErrorKind) (past : Bool) → copy_due o past ≡ Some kind → CopiesWhole x v old (Refused kind) old o past
copy_refused x v old kind None true due = (ap Refused (sym (same_kind due)), refl)
copy_refused x v old kind None false due = absurd (none_some due)
copy_refused x v old kind (Some k) past due = (ap Refused (sym (same_kind due)), refl)

pub set_refused : (set : Schemas) (x : StepTarget) (g : Given) (old : Value) (kind : ErrorKind) → IsSetRefusal g kind → Sets set x g old (Refused kind) old
set_refused set x (Gives v) old kind h = absurd h
set_refused set x (CopiesGroup l s b) old kind h = absurd h
set_refused set x (Fails due) old kind h = (ap Refused h, refl)
set_refused set x (Copies source past v) old kind h = go (is_memory kind) refl
  where
    go : (q : Bool) → is_memory kind ≡ q → Sets set x (Copies source past v) old (Refused kind) old
    go true m = inl (ap Refused (memory_is kind m), refl)
    go false m = inr (copy_refused x v old kind (copy_refusal source) past (h (λ e. true≢false (sym (ap is_memory e) ∙ m))))

-- ---- a slot ----

content_of : (x : StepTarget) (d : SchemaValue) (t : SchemaType) (s : Source) (g : Given) → x.default ≡ d → x.type ≡ t → IsTaken g → SetContent x s g (given_content d t s g)
content_of x d t s (Gives v) e h taken = subst (λ (c : SchemaValue). SetContent x s (Gives v) (given_content c t s (Gives v))) e (subst (λ (u : SchemaType). SetContent x s (Gives v) (given_content x.default u s (Gives v))) h refl)
content_of x d t s (Copies y past v) e h taken = (taken.0, taken.1, refl)
content_of x d t s (CopiesGroup l y b) e h taken = absurd taken
content_of x d t s (Fails kind) e h taken = absurd taken

module _ (f : Field) (s s' : StructTree) (source : Source) where
  -- what a slot is given
  given_is : (w : Record → Value) → IsSlot f → given_part (field_set f) (target_in w f s) source ≡ given_to f source
  given_is w slot = ap (λ q. elim q as (λ _. Given) [ true ↦ given_group (typed_of f).type source | false ↦ given_slot (field_set f) (typed_of f).type source ]) slot

  slot_set : IsSlot f → SourceFits source → IsSet f source s s' → FieldDoes f (Set source) s record_call.Done s'
  slot_set slot fits is =
      slot_does f s s' (Set source) (set_content f source) slot
      (λ whole. (
        fits,
        subst (λ (z : Given). SetContent (target_in whole f s) source z (set_content f source)) (sym (given_is whole slot))
            (content_of (target_in whole f s) (default_of (typed_of f).field) (typed_of f).type source (given_to f source) refl refl is.taken),
      ))
      is.written

  slot_unset : (kind : ErrorKind) → IsSlot f → s' ≡ s → IsSetRefusal (given_to f source) kind → FieldDoes f (Set source) s (Refused kind) s'
  slot_unset kind slot same h =
      stays f s s' (Set source) (Refused kind) (refused_undone kind) same
      (λ whole old. subst (λ (z : Given). Sets (field_set f) (target_in whole f s) z old (Refused kind) old) (sym (given_is whole slot)) (set_refused (field_set f) (target_in whole f s) (given_to f source) old kind h))

  -- ---- a group ----

  group_given : (w : Record → Value) → IsGroup f → given_part (field_set f) (target_in w f s) source ≡ given_to_group f source
  group_given w is = ap (λ q. elim q as (λ _. Given) [ true ↦ given_group (typed_of f).type source | false ↦ given_slot (field_set f) (typed_of f).type source ]) is

  copied_reply : (o : Option ErrorKind) (r : record_call.Reply) → r ≡ reply_by o → CopiedReply o r
  copied_reply None r e = e
  copied_reply (Some kind) r e = e

  group_set : (o : Option ErrorKind) (r : record_call.Reply) → IsGroup f → r ≡ reply_by o → IsGroupSet f (given_to_group f source) s o s' → FieldDoes f (Set source) s r s'
  group_set o r is reply h w g step e = go (given_to_group f source) (group_given (whole_of w) is) h
    where
      x : StepTarget
      x = target_in (whole_of w) f s

      named : typed_of f ≡ step_field (field_set f) (field_brand f) step
      named = ap (field_at (field_set f) (field_brand f)) (sym e)

      stand_is : (w : Whole) → stand_struct (stand_of w s) ≡ s
      stand_is AsStruct = refl
      stand_is AsGroup = refl

      with_is : (w : Whole) → stand_of w s' ≡ with_stand_struct (stand_of w s) s'
      with_is AsStruct = refl
      with_is AsGroup = refl

      go : (z : Given) → given_part (field_set f) x source ≡ z → IsGroupSet f z s o s' → TreeDoes (field_set f) (Set source) x (StructType (field_brand f) g) (stand_of w s) step r (stand_of w s')
      go (Gives v) is_given done = absurd done
      go (Copies y past v) is_given done = absurd done
      go (CopiesGroup l y b) is_given done =
          inr (inr (inr (inr (
            is,
            subst (λ (z : Given). CopiesGiven (field_set f) z (StructType (field_brand f) g) (stand_of w s) step r (stand_of w s')) (sym is_given) (
              o,
              s',
              subst (λ (m : StructTree). TreeCopiesWithin (suc (length (field_set f).brands)) (field_set f) l y b m o s')
                  (ap (λ (y : TypedField). switched_struct (struct_node (field_schema f)) y.field s) named ∙ ap (λ (m : StructTree). switched_struct (struct_node (field_schema f)) (step_field (field_set f) (field_brand f) step).field m) (sym (stand_is w))) done,
              copied_reply o r reply,
              with_is w,
            ),
          ))))
      go (Fails kind) is_given done =
          inl (
            subst (λ (z : Given). Sets (field_set f) x z (seen_stand (field_set f) (StructType (field_brand f) g) (stand_of w s)) r (seen_stand (field_set f) (StructType (field_brand f) g) (stand_of w s))) (sym is_given)
                (reply ∙ ap reply_by done.0, refl),
            ap (stand_of w) done.1,
            subst (λ (y : record_call.Reply). y ≢ record_call.Done) (sym (reply ∙ ap reply_by done.0)) (refused_undone kind),
          )

  -- ---- either ----

  pub field_set_done : (o : Option ErrorKind) (r : record_call.Reply) → SourceFits source → r ≡ reply_by o → IsFieldSet f source s o s' → FieldDoes f (Set source) s r s'
  field_set_done o r fits = go (is_group_field (typed_of f).field.kind) refl o
    where
      go : (q : Bool) → is_group_field (typed_of f).field.kind ≡ q → (o : Option ErrorKind) → r ≡ reply_by o → KindIsSet q f source s o s' → FieldDoes f (Set source) s r s'
      go true group o reply h = group_set o r group reply h
      go false slot None reply h = subst (λ (y : record_call.Reply). FieldDoes f (Set source) s y s') (sym reply) (slot_set slot fits h)
      go false slot (Some kind) reply h = subst (λ (y : record_call.Reply). FieldDoes f (Set source) s y s') (sym reply) (slot_unset kind slot h.1 h.0)

-- ---- an element ----

element_content_of : (x : StepTarget) (t : SchemaType) (s : Source) (g : Given) → x.type ≡ t → IsTaken g → ElementSetContent x s g (element_given t s g)
element_content_of x t s (Gives v) e taken = subst (λ (u : SchemaType). ElementSetContent x s (Gives v) (element_given u s (Gives v))) e refl
element_content_of x t s (Copies y past v) e taken = (taken.0, taken.1, refl)
element_content_of x t s (CopiesGroup l y b) e taken = absurd taken
element_content_of x t s (Fails kind) e taken = absurd taken

pub element_set : (set : Schemas) (e : SchemaType) (i : ℕ) (s : Source) (x x' : Tree) → SourceFits s → HasElementThere e x i → IsElementSet set e s i x x' →
    TreeDoes set (Set s) (element_at set e x i) (ListType e) (OnList x) (ElementAt i) record_call.Done (OnList x')
element_set set e i s x x' fits room is =
    inr (inl (element_content set e s, (fits, element_content_of (element_at set e x i) e s (given_element set e s) refl is.taken), room, refl, ap OnList is.written))

pub element_unset : (set : Schemas) (e : SchemaType) (i : ℕ) (s : Source) (x x' : Tree) (kind : ErrorKind) → x' ≡ x → IsSetRefusal (given_element set e s) kind →
    TreeDoes set (Set s) (element_at set e x i) (ListType e) (OnList x) (ElementAt i) (Refused kind) (OnList x')
element_unset set e i s x x' kind same h = inl (set_refused set (element_at set e x i) (given_element set e s) (seen_stand set (ListType e) (OnList x)) kind h, ap OnList same, refused_undone kind)
