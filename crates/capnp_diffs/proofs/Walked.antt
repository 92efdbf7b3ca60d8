-- What one call that makes a change does at its place, and what it does there from further out.
use Rattle.std.specs.Prelude.{⊤}
use Rattle.std.proofs.Common.{ℕ, zero, suc, ◌<◌, ◌≡◌, ◌≢◌, ◌⊎◌, inl, inr, refl, [], length, Bool, true, false, not, ◌&&◌, nat_lt, Option, Some, None, Ok, Err, arith, ap, ap₂, sym, ◌∙◌, subst}
use Rattle.std.proofs.lemmas.Bool.{eq-eqb, eqb-true, lt-ltb, true≢false}
use Rattle.capnp_device.specs.declared.error.ErrorKind.{ErrorKind}
use Rattle.capnp_device.specs.declared.error.ErrorKind.TheVariants.{InactiveMember, OutOfMemory, SizePastFormat, FieldNotFound, NoSuchElement}
use Rattle.capnp_schema.specs.Types.{ListType, SchemaType, StructType, is_pointer, struct_number}
use Rattle.capnp_schema.specs.Schema.{Field, ListValue, Schemas, TypedField, default_of, field_at, fields_of, is_member, Value as SchemaValue}
use Rattle.capnp_records.specs.Call.{Clear, Done, ElementAt, FieldNumber, Get, Has, Init, Initn, Op, PathStep, Refused, Reply, Set, Source, Which}
use Rattle.capnp_records.specs.Default.{default_record}
use Rattle.capnp_records.specs.Facts.Frame.{chosen_first, second_of}
use Rattle.capnp_records.specs.Given.{Copies, CopiesGroup, Fails, Given, Gives, copy_refusal, given_slot, given_part}
use Rattle.capnp_records.specs.Operation.{CopiesWhole, Does, DoesAt, Inits, IsDone, Sets, cleared_value}
use Rattle.capnp_records.specs.Part.{active_value, is_active, is_inactive, nth_value, part_at, value_count, with_part, with_value}
use Rattle.capnp_records.specs.Reading.{slot_value}
use Rattle.capnp_records.specs.Record as value
use Rattle.capnp_records.specs.Record.{Active, Endless, MoreValues, NoUnion, NoValues, Parts, Record, Union, Unknown, Value, Values, is_there}
use Rattle.capnp_records.specs.Run.{Ends}
use Rattle.capnp_records.specs.Step.{CanRefuse, Enters, Passes, StepTarget, Walks, element_target, fault_of, field_target, filled_value, for_memory, for_size, is_group_field, step_target, walked_by_type, walked_result, walked_target}
use Rattle.capnp_diffs.specs.Changes.{Change, Clears, Inits as InitsGoal, Puts, behind}
use Rattle.capnp_diffs.specs.Laws.{IsValueGiven, Reaches}

-- ---- what a change does ----

-- what has parts of its own
abbrev pub IsSolid : Value → Type 0
IsSolid (value.Struct r) = ⊤
IsSolid (value.Group r) = ⊤
IsSolid (value.Elements vs) = ⊤
IsSolid v = ⊥

pub record HasRoom (reply : Reply) : Type 0 where
  pub memory : reply ≢ Refused OutOfMemory
  pub format : reply ≢ Refused SizePastFormat

-- each call that makes a change turns one value of a type into another, where there is room
abbrev pub Makes : Schemas → SchemaType → Value → Change → Value → Type 0
Makes set t v c m =
    (op : Op) → Reaches set op c.goal → (reply : Reply) (new : Value) → Walks set (Ends set c.last op) c.path t v reply new → HasRoom reply →
    (reply ≡ Done) × (new ≡ m)

-- ---- from one step further out ----

filled_there : (set : Schemas) (d : SchemaValue) (t : SchemaType) (v : Value) → is_there v ≡ true → filled_value set d t v ≡ v
filled_there set (ListValue words) (ListType e) (value.Missing l) h = absurd (true≢false (sym h))
filled_there set d (StructType b g) (value.Missing l) h = absurd (true≢false (sym h))
filled_there set d t v h = refl

solid_there : (v : Value) → IsSolid v → is_there v ≡ true
solid_there (value.Struct r) solid = refl
solid_there (value.Group r) solid = refl
solid_there (value.Elements vs) solid = refl
solid_there v solid = absurd solid

solid_sound : (v : Value) → IsSolid v → fault_of v ≡ None
solid_sound (value.Struct r) solid = refl
solid_sound (value.Group r) solid = refl
solid_sound (value.Elements vs) solid = refl
solid_sound v solid = absurd solid

-- what a step is walked to, where the part there is this one
pub record Leaf (set : Schemas) (t u : SchemaType) (step : PathStep) (put : Value → Value) (p : Value) : Type 0 where
  pub target : StepTarget
  pub found : walked_target set t (put p) step ≡ Ok target
  pub type : target.type ≡ u
  pub part : target.part ≡ p
  pub puts : (w : Value) → target.put w ≡ put w

-- a step leads on whatever stands there, as long as that has parts
pub record Nest (set : Schemas) (t u : SchemaType) (step : PathStep) (put : Value → Value) : Type 0 where
  pub leads : (p : Value) → IsSolid p → Leaf set t u step put p
  pub solid : (p : Value) → IsSolid (put p)

no_room : {set : Schemas} {x : StepTarget} {kind : ErrorKind} {reply : Reply} → CanRefuse set x kind → reply ≡ Refused kind → HasRoom reply → ⊥
no_room (for_memory h) e room = room.memory e
no_room (for_size s h) e room = room.format e

pub nest_makes : (set : Schemas) (t u : SchemaType) (step : PathStep) (put : Value → Value) (p q : Value) (c : Change) → Nest set t u step put → IsSolid p → Makes set u p c q → Makes set t (put p) (behind step c) (put q)
nest_makes set t u step put p q c nest solid makes op reaches reply new walks room =
    let at = nest.leads p solid in
    entered at
    (subst (λ k. Enters set (Walks set (Ends set c.last op) c.path) (put p) k at.target reply new) (ap fault_of at.part ∙ solid_sound p solid)
    (subst (λ f. Passes set (Walks set (Ends set c.last op) c.path) (put p) f reply new) at.found walks))
  where
    entered : (at : Leaf set t u step put p) → Enters set (Walks set (Ends set c.last op) c.path) (put p) None at.target reply new → (reply ≡ Done) × (new ≡ put q)
    entered at (inl (kind, can, refused)) = absurd (no_room can refused.0 room)
    entered at (inr goes) =
        let filled : filled_value set at.target.default at.target.type at.target.part ≡ p =
        ap (filled_value set at.target.default at.target.type) at.part ∙ filled_there set at.target.default at.target.type p (solid_there p solid) in
        let inner : Walks set (Ends set c.last op) c.path u p reply goes.part =
        subst (λ v. Walks set (Ends set c.last op) c.path u v reply goes.part) filled
        (subst (λ z. Walks set (Ends set c.last op) c.path z (filled_value set at.target.default at.target.type at.target.part) reply goes.part) at.type goes.goes_on) in
        let (done, is) = makes op reaches reply goes.part inner room in
        (done, goes.rest ∙ (at.puts goes.part ∙ ap put is))

-- ---- a part of a record ----

-- a struct or a group
abbrev pub wrap : Bool → Record → Value
wrap true r = value.Struct r
wrap false r = value.Group r

abbrev pub fields_in : Record → Values
fields_in (Parts vs u) = vs

-- the record has a place for a field
abbrev pub HasPlace : Record → Field → ℕ → Type 0
HasPlace r f i = (is_member f ≡ true) ⊎ ((is_member f ≡ false) × (i < value_count (fields_in r)))

pub nth_with : (vs : Values) (i : ℕ) (w : Value) → i < value_count vs → nth_value (with_value vs i w) i ≡ w
nth_with NoValues i w h = absurd (omega (arith, h))
nth_with (MoreValues v vs) zero w h = refl
nth_with (MoreValues v vs) (suc i) w h = nth_with vs i w (omega (arith, h))

pub with_with : (vs : Values) (i : ℕ) (v w : Value) → with_value (with_value vs i v) i w ≡ with_value vs i w
with_with NoValues i v w = refl
with_with (MoreValues u vs) zero v w = refl
with_with (MoreValues u vs) (suc i) v w = ap (MoreValues u) (with_with vs i v w)

pub with_nth : (vs : Values) (i : ℕ) → with_value vs i (nth_value vs i) ≡ vs
with_nth NoValues i = refl
with_nth (MoreValues v vs) zero = refl
with_nth (MoreValues v vs) (suc i) = ap (MoreValues v) (with_nth vs i)

pub count_with : (vs : Values) (i : ℕ) (w : Value) → value_count (with_value vs i w) ≡ value_count vs
count_with NoValues i w = refl
count_with (MoreValues v vs) zero w = refl
count_with (MoreValues v vs) (suc i) w = ap suc (count_with vs i w)

module _ (f : Field) (i : ℕ) where
  pub with_member : (vs : Values) (u : Union) (w : Value) → is_member f ≡ true → with_part (Parts vs u) f i w ≡ Parts vs (Active i w)
  with_member vs u w e = chosen_first (is_member f) (Parts vs (Active i w)) (Parts (with_value vs i w) u) e

  pub with_plain : (vs : Values) (u : Union) (w : Value) → is_member f ≡ false → with_part (Parts vs u) f i w ≡ Parts (with_value vs i w) u
  with_plain vs u w e = second_of (is_member f) (Parts vs (Active i w)) (Parts (with_value vs i w) u) e

  pub part_member : (vs : Values) (u : Union) → is_member f ≡ true → part_at (Parts vs u) f i ≡ active_value u
  part_member vs u e = chosen_first (is_member f) (active_value u) (nth_value vs i) e

  pub part_plain : (vs : Values) (u : Union) → is_member f ≡ false → part_at (Parts vs u) f i ≡ nth_value vs i
  part_plain vs u e = second_of (is_member f) (active_value u) (nth_value vs i) e

  pub put_part : (r : Record) (w : Value) → HasPlace r f i → part_at (with_part r f i w) f i ≡ w
  put_part (Parts vs u) w (inl e) = ap (λ r. part_at r f i) (with_member vs u w e) ∙ part_member vs (Active i w) e
  put_part (Parts vs u) w (inr (e, h)) = ap (λ r. part_at r f i) (with_plain vs u w e) ∙ (part_plain (with_value vs i w) u e ∙ nth_with vs i w h)

  active_here : (is_active (Active i value.Void) i) ≡ true
  active_here = eq-eqb i i refl

  pub put_active : (r : Record) (w : Value) → HasPlace r f i → is_inactive (with_part r f i w) f i ≡ false
  put_active (Parts vs u) w (inl e) = ap (λ r. is_inactive r f i) (with_member vs u w e) ∙ ap₂ (λ a b. a && not b) e (eq-eqb i i refl)
  put_active (Parts vs u) w (inr (e, h)) = ap (λ r. is_inactive r f i) (with_plain vs u w e) ∙ ap (λ a. a && not (is_active u i)) e

  pub put_put : (r : Record) (v w : Value) → HasPlace r f i → with_part (with_part r f i v) f i w ≡ with_part r f i w
  put_put (Parts vs u) v w (inl e) = ap (λ r. with_part r f i w) (with_member vs u v e) ∙ (with_member vs (Active i v) w e ∙ sym (with_member vs u w e))
  put_put (Parts vs u) v w (inr (e, h)) =
      ap (λ r. with_part r f i w) (with_plain vs u v e) ∙ (with_plain (with_value vs i v) u w e ∙ (ap (λ xs. Parts xs u) (with_with vs i v w) ∙ sym (with_plain vs u w e)))

  pub put_same : (r : Record) (v : Value) → is_inactive r f i ≡ false → part_at r f i ≡ v → with_part r f i v ≡ r
  put_same (Parts vs u) v active part = by_case (is_member f) refl
    where
      is_there_active : (u : Union) → is_active u i ≡ true → active_value u ≡ v → Active i v ≡ u
      is_there_active NoUnion a e = absurd (true≢false (sym a))
      is_there_active (Active j w) a e = ap₂ Active (eqb-true i j a) (sym e)
      is_there_active (Unknown n) a e = absurd (true≢false (sym a))

      not_false : (q : Bool) → not q ≡ false → q ≡ true
      not_false true e = refl
      not_false false e = absurd (true≢false e)

      by_case : (q : Bool) → is_member f ≡ q → with_part (Parts vs u) f i v ≡ Parts vs u
      by_case true e =
          with_member vs u v e
          ∙ ap (Parts vs) (is_there_active u (not_false (is_active u i) (sym (ap (λ a. a && not (is_active u i)) e) ∙ active)) (sym (part_member vs u e) ∙ part))
      by_case false e = with_plain vs u v e ∙ ap (λ xs. Parts xs u) (ap (with_value vs i) (sym part ∙ part_plain vs u e) ∙ with_nth vs i)

-- a struct or list is walked
abbrev pub IsWalked : SchemaType → Type 0
IsWalked (StructType c h) = ⊤
IsWalked (ListType e) = ⊤
IsWalked t = ⊥

-- ---- a field ----

module _ (set : Schemas) (b g i : ℕ) (k : Bool) where
  abbrev f : TypedField
  f = field_at set b i

  -- a field is found at its index
  abbrev target_in : Record → StepTarget
  target_in r = field_target (wrap k) r f i

  found_by_index : (h : Bool) (r : Record) → nat_lt i (length (fields_of set b)) ≡ true → step_target set (StructType b g) (wrap h r) (FieldNumber i) ≡ Ok (field_target (wrap h) r f i)
  found_by_index true r e = chosen_first (nat_lt i (length (fields_of set b))) (Ok (field_target value.Struct r f i)) (Err FieldNotFound) e
  found_by_index false r e = chosen_first (nat_lt i (length (fields_of set b))) (Ok (field_target value.Group r f i)) (Err FieldNotFound) e

  pub field_is_found : (r : Record) → i < length (fields_of set b) → step_target set (StructType b g) (wrap k r) (FieldNumber i) ≡ Ok (target_in r)
  field_is_found r h = found_by_index k r (lt-ltb i (length (fields_of set b)) h)

  wrap_solid : (h : Bool) (r : Record) → IsSolid (wrap h r)
  wrap_solid true r = tt
  wrap_solid false r = tt

  pub whole_solid : (r : Record) → IsSolid (wrap k r)
  whole_solid r = wrap_solid k r

  walked_on : (x : StepTarget) (t : SchemaType) → IsWalked t → walked_by_type x t ≡ Ok x
  walked_on x (StructType c h) is = refl
  walked_on x (ListType e) is = refl
  walked_on x t is = absurd is

  pub field_nest : (r : Record) (t : SchemaType) → f.type ≡ t → i < length (fields_of set b) → HasPlace r f.field i → IsWalked t → Nest set (StructType b g) t (FieldNumber i) (λ p. wrap k (with_part r f.field i p))
  field_nest r t is inside place walked = record {
    leads = λ p solid. record {
      target = target_in (with_part r f.field i p);
      found =
          ap walked_result (field_is_found (with_part r f.field i p) inside)
          ∙ (second_of (is_inactive (with_part r f.field i p) f.field i) (Err InactiveMember) (walked_by_type (target_in (with_part r f.field i p)) f.type) (put_active f.field i r p place)
          ∙ walked_on (target_in (with_part r f.field i p)) f.type (subst IsWalked (sym is) walked));
      type = is;
      part = put_part f.field i r p place;
      puts = λ w. ap (wrap k) (put_put f.field i r p w place);
    };
    solid = λ p. whole_solid (with_part r f.field i p);
  }

  -- ---- one that is put, cleared or made anew ----

  copies_done : (x : StepTarget) (u v old : Value) (reply : Reply) (new : Value) (past : Bool) (refusal : Option ErrorKind) → u ≡ v → refusal ≡ None → CopiesWhole x u old reply new refusal past → HasRoom reply → IsDone (x.put v) reply new
  copies_done x u v old reply new past (Some kind) is none whole room = absurd (some_none none)
    where
      some_none : {kind : ErrorKind} → Some kind ≡ None → ⊥
      some_none e = cc
  copies_done x u v old reply new true None is none whole room = absurd (room.format whole.0)
  copies_done x u v old reply new false None is none whole room = (whole.0, whole.1 ∙ ap x.put is)

  sets_done : (x : StepTarget) (given : Given) (v old : Value) (reply : Reply) (new : Value) → IsValueGiven given v → Sets set x given old reply new → HasRoom reply → IsDone (x.put v) reply new
  sets_done x (Gives u) v old reply new is sets room = (sets.0, sets.1 ∙ ap x.put is)
  sets_done x (Copies source past u) v old reply new is (inl refused) room = absurd (room.memory refused.0)
  sets_done x (Copies source past u) v old reply new is (inr whole) room = copies_done x u v old reply new past (copy_refusal source) is.0 is.1 whole room
  sets_done x (CopiesGroup l s c) v old reply new is sets room = absurd is
  sets_done x (Fails kind) v old reply new is sets room = absurd is

  -- what a slot takes
  slot_given : (r : Record) (s : Source) → is_group_field f.field.kind ≡ false → given_part set (target_in r) s ≡ given_slot set f.type s
  slot_given r s slot = second_of (is_group_field f.field.kind) _ (given_slot set f.type s) slot

  slot_cleared : (r : Record) → is_group_field f.field.kind ≡ false → is_pointer f.type ≡ true → cleared_value set (target_in r) ≡ value.Missing Endless
  slot_cleared r slot pointer =
      second_of (is_group_field f.field.kind) (value.Group (default_record set Endless (struct_number f.type))) (slot_value Endless [] [] 0 (default_of f.field) f.type) slot
      ∙ chosen_first (is_pointer f.type) _ _ pointer

  module _ (r : Record) (inside : i < length (fields_of set b)) where
    found_here : (op : Op) (reply : Reply) (new : Value) → DoesAt set op (step_target set (StructType b g) (wrap k r) (FieldNumber i)) (wrap k r) reply new → Does set op (target_in r) (wrap k r) reply new
    found_here op reply new does = subst (λ found. DoesAt set op found (wrap k r) reply new) (field_is_found r inside) does

    pub puts : (w : Value) → is_group_field f.field.kind ≡ false → Makes set (StructType b g) (wrap k r) (record { path = []; last = FieldNumber i; goal = Puts f.type w }) (wrap k (with_part r f.field i w))
    puts w slot Get reaches reply new walks room = absurd reaches
    puts w slot Has reaches reply new walks room = absurd reaches
    puts w slot Which reaches reply new walks room = absurd reaches
    puts w slot (Set s) reaches reply new walks room =
        sets_done (target_in r) (given_slot set f.type s) w (wrap k r) reply new reaches
        (subst (λ given. Sets set (target_in r) given (wrap k r) reply new) (slot_given r s slot) (found_here (Set s) reply new walks)) room
    puts w slot Init reaches reply new walks room = absurd reaches
    puts w slot (Initn n) reaches reply new walks room = absurd reaches
    puts w slot Clear reaches reply new walks room = absurd reaches

    pub clears : is_group_field f.field.kind ≡ false → is_pointer f.type ≡ true → Makes set (StructType b g) (wrap k r) (record { path = []; last = FieldNumber i; goal = Clears }) (wrap k (with_part r f.field i (value.Missing Endless)))
    clears slot pointer Get reaches reply new walks room = absurd reaches
    clears slot pointer Has reaches reply new walks room = absurd reaches
    clears slot pointer Which reaches reply new walks room = absurd reaches
    clears slot pointer (Set s) reaches reply new walks room = absurd reaches
    clears slot pointer Init reaches reply new walks room = absurd reaches
    clears slot pointer (Initn n) reaches reply new walks room = absurd reaches
    clears slot pointer Clear reaches reply new walks room =
        let done : IsDone (wrap k (with_part r f.field i (cleared_value set (target_in r)))) reply new = found_here Clear reply new walks in
        (done.0, done.1 ∙ ap (λ w. wrap k (with_part r f.field i w)) (slot_cleared r slot pointer))

    inits_group : (t : SchemaType) (c h : ℕ) (reply : Reply) (new : Value) → t ≡ StructType c h → is_group_field f.field.kind ≡ true → Inits set (target_in r) t (wrap k r) reply new → IsDone (wrap k (with_part r f.field i (value.Group (default_record set Endless c)))) reply new
    inits_group t c h reply new is group does = of_group _ _ (is_group_field f.field.kind) group (subst (λ z. Inits set (target_in r) z (wrap k r) reply new) is does)
      where
        of_group : (P Q : Type 0) (q : Bool) → q ≡ true → (elim q as (λ _. Type 0) [ true ↦ P | false ↦ Q ]) → P
        of_group P Q true e made = made
        of_group P Q false e made = absurd (true≢false (sym e))

    pub inits : (c h : ℕ) → f.type ≡ StructType c h → is_group_field f.field.kind ≡ true →
        Makes set (StructType b g) (wrap k r) (record { path = []; last = FieldNumber i; goal = InitsGoal }) (wrap k (with_part r f.field i (value.Group (default_record set Endless c))))
    inits c h is group Get reaches reply new walks room = absurd reaches
    inits c h is group Has reaches reply new walks room = absurd reaches
    inits c h is group Which reaches reply new walks room = absurd reaches
    inits c h is group (Set s) reaches reply new walks room = absurd reaches
    inits c h is group Init reaches reply new walks room = inits_group f.type c h reply new is group (found_here Init reply new walks)
    inits c h is group (Initn n) reaches reply new walks room = absurd reaches
    inits c h is group Clear reaches reply new walks room = absurd reaches

-- ---- an element of a list of structs ----

pub element_nest : (set : Schemas) (b g i : ℕ) (vs : Values) → i < value_count vs → Nest set (ListType (StructType b g)) (StructType b g) (ElementAt i) (λ p. value.Elements (with_value vs i p))
element_nest set b g i vs inside = record {
  leads = λ p solid. record {
    target = element_target (StructType b g) (with_value vs i p) i;
    found =
        ap walked_result (chosen_first (nat_lt i (value_count (with_value vs i p))) (Ok (element_target (StructType b g) (with_value vs i p) i)) (Err NoSuchElement)
        (lt-ltb i (value_count (with_value vs i p)) (subst (λ n. i < n) (sym (count_with vs i p)) inside)));
    type = refl;
    part = nth_with vs i p inside;
    puts = λ w. ap value.Elements (with_with vs i p w);
  };
  solid = λ p. tt;
}
