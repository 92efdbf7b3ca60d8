-- The steps of a walk that appends the lines of fields, in the words of the walk.
use Rattle.std.proofs.Common.{ℕ, zero, suc, ◌+◌, ◌-◌, ◌<◌, ◌≤◌, List, [], ◌∷◌, ◌++◌, drop, length, Option, Some, None, ◌≡◌, ◌∙◌, add-one, ap, arith, refl, subst, sym}
use Rattle.capnp_device.specs.declared.error.ErrorKind.{ErrorKind}
use Rattle.capnp_schema.specs.Accepted.{IsParent}
use Rattle.capnp_schema.specs.Facts.GroupFields.{group_field_found, target_parent}
use Rattle.capnp_schema.specs.Facts.GroupWalks.{frames_group, frames_outside, steps_advance, steps_enter, steps_leave}
use Rattle.capnp_schema.specs.FieldLists.{IsFieldOf, index_of, field_schema, typed_of}
use Rattle.capnp_schema.specs.GroupFields.{group_field_of}
use Rattle.capnp_schema.specs.GroupsDown.{IsGroupFieldOf, place_of_field}
use Rattle.capnp_schema.specs.GroupWalks.{above, frames, frames_above, walk_brand, walk_depth, walk_index, walk_schema, walk_set}
use Rattle.capnp_schema.specs.Steps.GroupWalks.{steps_left}
use Rattle.capnp_schema.specs.Schema.{FieldKind, Group, Schemas, Slot, field_at, fields_of, kind_target}
use Rattle.capnp_schema.specs.StructHandles.{number_of, set_of, struct_fields}
use Rattle.capnp_schema.specs.Types.{SchemaType, AnyPointerType, BoolType, DataType, EnumType, IntType, ListType, StructType, TextType, UIntType, VoidType, struct_brand}
use Rattle.capnp_schema.specs.declared.schema.fields.Field.{Field}
use Rattle.capnp_schema.specs.declared.schema.group_walk.GroupWalk.{GroupWalk}
use Rattle.capnp_schema.specs.declared.schema.structs.StructSchema.{StructSchema}
use Rattle.capnp_dynamic_readers.specs.Facts.Appended.{bytes_put}
use Rattle.capnp_dynamic_readers.specs.Pieces.{IsAppended}
use Rattle.capnp_structs.specs.Fields.{Line, UnionLine, FieldLine, enums_named, field_line, group_line, inside, line_text, lines_text, lines_within, slot_line, union_line}
use Rattle.capnp_structs.specs.Limits.{HasRefusedField, HasRefusedLine, IsStopped}
use Rattle.capnp_structs.proofs.Walked.{IsListed, left_first, left_group, left_inside, left_none, left_outside, left_slot, lines_left, listed_first, listed_left, listed_more, listed_plain, listed_stopped, path_group, path_under}

-- what is known of the field that a walk stands at, by the walk's set, brand and index
pub at_place : (set : Schemas) (w : GroupWalk) (f : Field) (P : Schemas → ℕ → ℕ → Type 0) → walk_set w ≡ set → IsFieldOf (walk_schema w) (walk_index w) f →
    P (set_of (field_schema f)) (number_of (field_schema f)) (index_of f) → P set (walk_brand w) (walk_index w)
at_place set w f P same is p =
    subst (λ (z : Schemas). P z (walk_brand w) (walk_index w)) same
    (subst (λ (n : ℕ). P (walk_set w) (walk_brand w) n) is.index
    (subst (λ (s : StructSchema). P (set_of s) (number_of s) (index_of f)) is.schema p))

inside_set : (set : Schemas) (w : GroupWalk) (f : Field) → walk_set w ≡ set → IsFieldOf (walk_schema w) (walk_index w) f → walk_index w < length (fields_of set (walk_brand w))
inside_set set w f same is = subst (λ (z : Schemas). walk_index w < length (fields_of z (walk_brand w))) same is.inside

-- what stands above a walk
above_of : (w : GroupWalk) (fs : List (ℕ × ℕ)) (b i : ℕ) → frames w ≡ (b, i) ∷ fs → above w ≡ fs
above_of w fs b i e = ap (drop 1) e

pub none_above : (w : GroupWalk) (s : StructSchema) → s ≡ walk_schema w → None ≡ group_field_of (set_of s) (number_of s) → above w ≡ []
none_above w s is none = frames_outside (walk_set w) (walk_depth w) (walk_brand w) (sym (subst (λ (z : StructSchema). None ≡ group_field_of (set_of z) (number_of z)) is none))

-- the frames above a group that is left
above_group : (w outer : GroupWalk) (own : Field) → walk_depth outer + 1 ≡ walk_depth w → frames outer ≡ above w → Some (place_of_field own) ≡ group_field_of (walk_set w) (walk_brand w) →
    above w ≡ (number_of (field_schema own), index_of own + 1) ∷ above outer
above_group w outer own depth fs place =
    let here : above w ≡ (number_of (field_schema own), index_of own + 1) ∷ frames_above (walk_set w) (walk_depth outer) (number_of (field_schema own)) =
    frames_group (walk_set w) (walk_depth outer) (walk_depth w) (walk_brand w) (number_of (field_schema own)) (index_of own) (omega (arith, depth)) (sym place) in
    here ∙ ap (λ (rest : List (ℕ × ℕ)). (number_of (field_schema own), index_of own + 1) ∷ rest) (sym (above_of outer _ _ _ (fs ∙ here)))

-- ---- the path ----

pub path_start : (set : Schemas) (w : GroupWalk) (b : ℕ) (path : List ℕ) → frames w ≡ (b, 0) ∷ [] → path ≡ [] → path ≡ path_under set (above w)
unfolding path_under
path_start set w b path fs e = e ∙ ap (path_under set) (sym (above_of w [] b 0 fs))

pub path_advance : (set : Schemas) (w new : GroupWalk) (path : List ℕ) → frames new ≡ (walk_brand w, walk_index w + 1) ∷ above w → path ≡ path_under set (above w) → path ≡ path_under set (above new)
path_advance set w new path fs e = e ∙ ap (path_under set) (sym (above_of new (above w) _ _ fs))

pub path_enter : (set : Schemas) (w new : GroupWalk) (f : Field) (g : ℕ) (path path' : List ℕ) → walk_set w ≡ set → IsFieldOf (walk_schema w) (walk_index w) f →
    frames new ≡ (g, 0) ∷ (walk_brand w, walk_index w + 1) ∷ above w → path ≡ path_under set (above w) → path' ≡ inside path (typed_of f) → path' ≡ path_under set (above new)
path_enter set w new f g path path' same is fs e long =
    at_place set w f (λ z b i. path' ≡ inside path (field_at z b i)) same is long
    ∙ (ap (λ (p : List ℕ). inside p (field_at set (walk_brand w) (walk_index w))) e
    ∙ (sym (path_group set (walk_brand w) (walk_index w) (above w)) ∙ ap (path_under set) (sym (above_of new _ _ _ fs))))

-- what is left of the path behind a group
pub path_leave : (set : Schemas) (w outer : GroupWalk) (s : StructSchema) (own : Field) (path : List ℕ) → s ≡ walk_schema w → walk_set w ≡ set → walk_depth outer + 1 ≡ walk_depth w → frames outer ≡ above w → IsGroupFieldOf s own →
    Some (place_of_field own) ≡ group_field_of (set_of s) (number_of s) → path ≡ path_under set (above w) → path ≡ inside (path_under set (above outer)) (typed_of own)
path_leave set w outer s own path at same depth fs is place e =
    let here : Some (place_of_field own) ≡ group_field_of (walk_set w) (walk_brand w) = subst (λ (z : StructSchema). Some (place_of_field own) ≡ group_field_of (set_of z) (number_of z)) at place in
    e ∙ (ap (path_under set) (above_group w outer own depth fs here)
    ∙ (path_group set (number_of (field_schema own)) (index_of own) (above outer)
    ∙ ap (λ (z : Schemas). inside (path_under set (above outer)) (field_at z (number_of (field_schema own)) (index_of own))) (sym (is.set ∙ (ap set_of at ∙ same)))))

-- ---- the text, and how much is left to do ----

pub fewer_past : (set : Schemas) (left : ℕ) (w new : GroupWalk) (f : Field) → walk_set w ≡ set → IsFieldOf (walk_schema w) (walk_index w) f → frames new ≡ (walk_brand w, walk_index w + 1) ∷ above w →
    steps_left set left (frames new) < steps_left set left (frames w)
fewer_past set left w new f same is fs =
    subst (λ (l : List (ℕ × ℕ)). steps_left set left l < steps_left set left (frames w)) (sym fs)
    (steps_advance set left (walk_brand w) (walk_index w) (above w) (inside_set set w f same is))

parent : (set : Schemas) (w : GroupWalk) (f : Field) (g : ℕ) → walk_set w ≡ set → IsFieldOf (walk_schema w) (walk_index w) f → group_field_of (set_of (field_schema f)) g ≡ Some (place_of_field f) → IsParent set g (walk_brand w) (walk_index w)
parent set w f g same is back =
    target_parent set g (walk_brand w) (walk_index w) (group_field_found set g (walk_brand w) (walk_index w) (at_place set w f (λ z b i. group_field_of z g ≡ Some (b, i)) same is back)).1

pub fewer_inside : (set : Schemas) (left : ℕ) (w new : GroupWalk) (f : Field) (g : ℕ) → (left ≡ 0 → ⊥) → walk_set w ≡ set → IsFieldOf (walk_schema w) (walk_index w) f → group_field_of (set_of (field_schema f)) g ≡ Some (place_of_field f) →
    frames new ≡ (g, 0) ∷ (walk_brand w, walk_index w + 1) ∷ above w → steps_left set (left - 1) (frames new) < steps_left set left (frames w)
fewer_inside set left w new f g some same is back fs =
    let more : suc (left - 1) ≡ left = omega (arith, some) in
    subst (λ (l : List (ℕ × ℕ)). steps_left set (left - 1) l < steps_left set left (frames w)) (sym fs)
    (subst (λ (n : ℕ). steps_left set (left - 1) ((g, 0) ∷ (walk_brand w, walk_index w + 1) ∷ above w) < steps_left set n (frames w)) more
    (steps_enter set (left - 1) (walk_brand w) (walk_index w) g (above w) (parent set w f g same is back)))

pub fewer_outside : (set : Schemas) (left : ℕ) (w outer : GroupWalk) → frames outer ≡ above w → steps_left set (left + 1) (frames outer) < steps_left set left (frames w)
fewer_outside set left w outer fs =
    subst (λ (l : List (ℕ × ℕ)). steps_left set (left + 1) l < steps_left set left (frames w)) (sym fs)
    (subst (λ (n : ℕ). steps_left set n (above w) < steps_left set left (frames w)) (sym (add-one left)) (steps_leave set left (walk_brand w) (walk_index w) (above w)))

-- ---- the lines that are left ----

-- a walk in a set stands at a field
pub record StandsAt (set : Schemas) (w : GroupWalk) (f : Field) : Type 0 where
  pub in_set : walk_set w ≡ set
  pub field : IsFieldOf (walk_schema w) (walk_index w) f

-- the line of a slot was appended, and the enum that its type names added
pub record IsSlotSaid (set : Schemas) (w : GroupWalk) (f : Field) (prefix text text' enums enums' : List ℕ) (t : SchemaType) : Type 0 where
  -- the field is no group
  pub slot : None ≡ kind_target (typed_of f).field.kind (typed_of f).type
  -- the line stands under the path of the groups above
  pub path : prefix ≡ path_under set (above w)
  pub put : IsAppended text (slot_line (set_of (field_schema f)) (number_of (field_schema f)) (index_of f) prefix) text'
  -- the enums that its type names
  pub typed : t ≡ (typed_of f).type
  pub added : enums' ≡ enums ++ enums_named t

-- a walk goes into a group, whose struct has this schema
pub record GoesInto (set : Schemas) (w new : GroupWalk) (f : Field) (s : StructSchema) : Type 0 where
  pub leads : Some (number_of s) ≡ kind_target (typed_of f).field.kind (typed_of f).type
  pub in_set : set_of s ≡ set
  pub frames : frames new ≡ (number_of s, 0) ∷ (walk_brand w, walk_index w + 1) ∷ above w

-- the line of a group was appended, and behind it that of the union inside
pub record IsGroupSaid (set : Schemas) (w : GroupWalk) (f : Field) (s : StructSchema) (prefix base prefix' text mid text' : List ℕ) : Type 0 where
  -- the group's line stands under the path of the groups above
  pub path : prefix ≡ path_under set (above w)
  pub put : IsAppended text (group_line (set_of (field_schema f)) (number_of (field_schema f)) (index_of f) prefix) mid
  -- the union's line stands under that path and the group's name
  pub path_base : base ≡ path_under set (above w)
  pub path_inside : prefix' ≡ inside base (typed_of f)
  pub union : text' ≡ mid ++ union_line (set_of s) prefix' (number_of s)

-- a group names no enum
struct_unnamed : (t : SchemaType) (g : ℕ) → Some g ≡ struct_brand t → enums_named t ≡ []
struct_unnamed VoidType g is = refl
struct_unnamed BoolType g is = refl
struct_unnamed (IntType bytes) g is = refl
struct_unnamed (UIntType bytes) g is = refl
struct_unnamed (EnumType e) g is = absurd (cc is)
struct_unnamed TextType g is = refl
struct_unnamed DataType g is = refl
struct_unnamed (StructType b n) g is = refl
struct_unnamed (ListType t) g is = absurd (cc is)
struct_unnamed AnyPointerType g is = refl

group_unnamed : (k : FieldKind) (t : SchemaType) (g : ℕ) → Some g ≡ kind_target k t → enums_named t ≡ []
group_unnamed (Slot offset default) t g is = absurd (cc is)
group_unnamed (Group node) t g is = struct_unnamed t g is

-- the union of the struct that a walk starts at
pub starts : (set : Schemas) (start first : List ℕ) (groups left b : ℕ) (w : GroupWalk) (prefix text' : List ℕ) → (groups ≡ 0 → ⊥) → left ≡ groups - 1 → frames w ≡ (b, 0) ∷ [] →
    prefix ≡ [] → text' ≡ start ++ union_line set prefix b → IsListed set start first (lines_within set groups [] b) (lines_left set left (frames w)) text' first
starts set start first groups left b w prefix text' some less fs none put =
    let whole : List Line = lines_within set groups [] b in
    let line : text' ≡ start ++ union_line set [] b = put ∙ ap (λ (p : List ℕ). start ++ union_line set p b) none in
    listed_left set start first whole (lines_left set left ((b, 0) ∷ [])) (lines_left set left (frames w)) text' first (ap (lines_left set left) (sym fs))
    (listed_plain set start first whole (UnionLine [] b) (lines_left set left ((b, 0) ∷ [])) start text' first (bytes_put (union_line set [] b) start text' line) refl
    (listed_left set start first whole whole (UnionLine [] b ∷ lines_left set left ((b, 0) ∷ [])) start first (left_first set groups left b some less) (listed_first set start first whole)))

module _ (set : Schemas) (start first : List ℕ) (whole : List Line) where
  pub said_slot : (left : ℕ) (w new : GroupWalk) (f : Field) (prefix text text' enums enums' : List ℕ) (t : SchemaType) → StandsAt set w f → IsSlotSaid set w f prefix text text' enums enums' t →
      frames new ≡ (walk_brand w, walk_index w + 1) ∷ above w → IsListed set start first whole (lines_left set left (frames w)) text enums → IsListed set start first whole (lines_left set left (frames new)) text' enums'
  said_slot left w new f prefix text text' enums enums' t at said fs before =
      let same : walk_set w ≡ set = at.in_set in
      let is : IsFieldOf (walk_schema w) (walk_index w) f = at.field in
      let b : ℕ = walk_brand w in
      let i : ℕ = walk_index w in
      let p : List ℕ = path_under set (above w) in
      let leads_here : None ≡ kind_target (field_at set b i).field.kind (field_at set b i).type = at_place set w f (λ z b i. None ≡ kind_target (field_at z b i).field.kind (field_at z b i).type) same is said.slot in
      let put_here : IsAppended text (slot_line set b i p) text' =
      subst (λ (q : List ℕ). IsAppended text (slot_line set b i q) text') said.path (at_place set w f (λ z b i. IsAppended text (slot_line z b i prefix) text') same is said.put) in
      let line_here : IsAppended text (line_text set (FieldLine p b i)) text' = subst (λ (o : Option ℕ). IsAppended text (field_line set b i p o) text') leads_here put_here in
      let add_here : enums' ≡ enums ++ enums_named (field_at set b i).type =
      at_place set w f (λ z b i. enums' ≡ enums ++ enums_named (field_at z b i).type) same is (said.added ∙ ap (λ (u : SchemaType). enums ++ enums_named u) said.typed) in
      listed_left set start first whole (lines_left set left ((b, i + 1) ∷ above w)) (lines_left set left (frames new)) text' enums' (ap (lines_left set left) (sym fs))
      (listed_more set start first whole (FieldLine p b i) (lines_left set left ((b, i + 1) ∷ above w)) text text' enums enums' line_here add_here
      (listed_left set start first whole (lines_left set left (frames w)) _ text enums (left_slot set left b i (above w) (inside_set set w f same is) leads_here) before))

  -- the line of a group
  group_put : (w : GroupWalk) (f : Field) (g : ℕ) (prefix text text' : List ℕ) → walk_set w ≡ set → IsFieldOf (walk_schema w) (walk_index w) f → prefix ≡ path_under set (above w) →
      Some g ≡ kind_target (field_at set (walk_brand w) (walk_index w)).field.kind (field_at set (walk_brand w) (walk_index w)).type →
      IsAppended text (group_line (set_of (field_schema f)) (number_of (field_schema f)) (index_of f) prefix) text' →
      IsAppended text (line_text set (FieldLine (path_under set (above w)) (walk_brand w) (walk_index w))) text'
  group_put w f g prefix text text' same is path leads put =
      let b : ℕ = walk_brand w in
      let i : ℕ = walk_index w in
      let put_here : IsAppended text (group_line set b i (path_under set (above w))) text' =
      subst (λ (p : List ℕ). IsAppended text (group_line set b i p) text') path (at_place set w f (λ z b i. IsAppended text (group_line z b i prefix) text') same is put) in
      subst (λ (o : Option ℕ). IsAppended text (field_line set b i (path_under set (above w)) o) text') leads put_here

  leads_set : (w : GroupWalk) (f : Field) (g : ℕ) → walk_set w ≡ set → IsFieldOf (walk_schema w) (walk_index w) f → Some g ≡ kind_target (typed_of f).field.kind (typed_of f).type →
      Some g ≡ kind_target (field_at set (walk_brand w) (walk_index w)).field.kind (field_at set (walk_brand w) (walk_index w)).type
  leads_set w f g same is leads = at_place set w f (λ z b i. Some g ≡ kind_target (field_at z b i).field.kind (field_at z b i).type) same is leads

  pub said_group : (left : ℕ) (w new : GroupWalk) (f : Field) (g : ℕ) (prefix text text' enums : List ℕ) → left ≡ 0 → walk_set w ≡ set → IsFieldOf (walk_schema w) (walk_index w) f →
      Some g ≡ kind_target (typed_of f).field.kind (typed_of f).type → prefix ≡ path_under set (above w) →
      IsAppended text (group_line (set_of (field_schema f)) (number_of (field_schema f)) (index_of f) prefix) text' → frames new ≡ (walk_brand w, walk_index w + 1) ∷ above w →
      IsListed set start first whole (lines_left set left (frames w)) text enums → IsListed set start first whole (lines_left set left (frames new)) text' enums
  said_group left w new f g prefix text text' enums none same is leads path put fs before =
      let b : ℕ = walk_brand w in
      let i : ℕ = walk_index w in
      let leads_here = leads_set w f g same is leads in
      listed_left set start first whole (lines_left set left ((b, i + 1) ∷ above w)) (lines_left set left (frames new)) text' enums (ap (lines_left set left) (sym fs))
      (listed_plain set start first whole (FieldLine (path_under set (above w)) b i) (lines_left set left ((b, i + 1) ∷ above w)) text text' enums
      (group_put w f g prefix text text' same is path leads_here put) (group_unnamed (field_at set b i).field.kind (field_at set b i).type g leads_here)
      (listed_left set start first whole (lines_left set left (frames w)) _ text enums (left_group set left b i g (above w) none (inside_set set w f same is) leads_here) before))

  -- the line of a slot was stopped
  pub slot_stopped : (limit left : ℕ) (w : GroupWalk) (f : Field) (prefix text enums : List ℕ) (kind : ErrorKind) → StandsAt set w f → None ≡ kind_target (typed_of f).field.kind (typed_of f).type → prefix ≡ path_under set (above w) →
      IsStopped limit text (slot_line (set_of (field_schema f)) (number_of (field_schema f)) (index_of f) prefix) (HasRefusedField (set_of (field_schema f)) (number_of (field_schema f)) (index_of f)) kind →
      IsListed set start first whole (lines_left set left (frames w)) text enums → IsStopped limit start (lines_text set whole) (HasRefusedLine set whole) kind
  slot_stopped limit left w f prefix text enums kind at slot path h before =
      let same : walk_set w ≡ set = at.in_set in
      let is : IsFieldOf (walk_schema w) (walk_index w) f = at.field in
      let b : ℕ = walk_brand w in
      let i : ℕ = walk_index w in
      let p : List ℕ = path_under set (above w) in
      let leads_here : None ≡ kind_target (field_at set b i).field.kind (field_at set b i).type = at_place set w f (λ z b i. None ≡ kind_target (field_at z b i).field.kind (field_at z b i).type) same is slot in
      let here : IsStopped limit text (slot_line set b i p) (HasRefusedField set b i) kind =
      subst (λ (q : List ℕ). IsStopped limit text (slot_line set b i q) (HasRefusedField set b i) kind) path (at_place set w f (λ z b i. IsStopped limit text (slot_line z b i prefix) (HasRefusedField z b i) kind) same is h) in
      listed_stopped set start first whole limit (FieldLine p b i) (lines_left set left ((b, i + 1) ∷ above w)) text enums kind
      (subst (λ (o : Option ℕ). IsStopped limit text (field_line set b i p o) (HasRefusedField set b i) kind) leads_here here)
      (listed_left set start first whole (lines_left set left (frames w)) _ text enums (left_slot set left b i (above w) (inside_set set w f same is) leads_here) before)

  -- that of a group, whether it is gone into or not
  group_first : (left : ℕ) (w : GroupWalk) (f : Field) (g : ℕ) (text enums : List ℕ) → walk_set w ≡ set → IsFieldOf (walk_schema w) (walk_index w) f →
      Some g ≡ kind_target (field_at set (walk_brand w) (walk_index w)).field.kind (field_at set (walk_brand w) (walk_index w)).type → IsListed set start first whole (lines_left set left (frames w)) text enums →
      (rest : List Line) × IsListed set start first whole (FieldLine (path_under set (above w)) (walk_brand w) (walk_index w) ∷ rest) text enums
  group_first zero w f g text enums same is leads before = (
    lines_left set zero ((walk_brand w, walk_index w + 1) ∷ above w),
    listed_left set start first whole (lines_left set zero (frames w)) _ text enums (left_group set zero (walk_brand w) (walk_index w) g (above w) refl (inside_set set w f same is) leads) before,
  )
  group_first (suc left) w f g text enums same is leads before = (
    UnionLine (inside (path_under set (above w)) (field_at set (walk_brand w) (walk_index w))) g ∷ lines_left set left ((g, 0) ∷ (walk_brand w, walk_index w + 1) ∷ above w),
    listed_left set start first whole (lines_left set (suc left) (frames w)) _ text enums (left_inside set left (walk_brand w) (walk_index w) g (above w) (inside_set set w f same is) leads) before,
  )

  pub group_stopped : (limit left : ℕ) (w : GroupWalk) (f : Field) (g : ℕ) (prefix text enums : List ℕ) (kind : ErrorKind) → StandsAt set w f → Some g ≡ kind_target (typed_of f).field.kind (typed_of f).type → prefix ≡ path_under set (above w) →
      IsStopped limit text (group_line (set_of (field_schema f)) (number_of (field_schema f)) (index_of f) prefix) (HasRefusedField (set_of (field_schema f)) (number_of (field_schema f)) (index_of f)) kind →
      IsListed set start first whole (lines_left set left (frames w)) text enums → IsStopped limit start (lines_text set whole) (HasRefusedLine set whole) kind
  group_stopped limit left w f g prefix text enums kind at leads path h before =
      let same : walk_set w ≡ set = at.in_set in
      let is : IsFieldOf (walk_schema w) (walk_index w) f = at.field in
      let b : ℕ = walk_brand w in
      let i : ℕ = walk_index w in
      let p : List ℕ = path_under set (above w) in
      let leads_here = leads_set w f g same is leads in
      let here : IsStopped limit text (group_line set b i p) (HasRefusedField set b i) kind =
      subst (λ (q : List ℕ). IsStopped limit text (group_line set b i q) (HasRefusedField set b i) kind) path (at_place set w f (λ z b i. IsStopped limit text (group_line z b i prefix) (HasRefusedField z b i) kind) same is h) in
      let rest = group_first left w f g text enums same is leads_here before in
      listed_stopped set start first whole limit (FieldLine p b i) rest.0 text enums kind
      (subst (λ (o : Option ℕ). IsStopped limit text (field_line set b i p o) (HasRefusedField set b i) kind) leads_here here) rest.1

  -- the path of a group that is gone into
  path_inside : (w : GroupWalk) (f : Field) (path path' : List ℕ) → walk_set w ≡ set → IsFieldOf (walk_schema w) (walk_index w) f → path ≡ path_under set (above w) → path' ≡ inside path (typed_of f) →
      path' ≡ inside (path_under set (above w)) (field_at set (walk_brand w) (walk_index w))
  path_inside w f path path' same is here long =
      at_place set w f (λ z b i. path' ≡ inside path (field_at z b i)) same is long ∙ ap (λ (p : List ℕ). inside p (field_at set (walk_brand w) (walk_index w))) here

  pub goes_inside : (left : ℕ) (w new : GroupWalk) (f : Field) (s : StructSchema) (prefix base prefix' text mid text' enums : List ℕ) → (left ≡ 0 → ⊥) → StandsAt set w f → GoesInto set w new f s → IsGroupSaid set w f s prefix base prefix' text mid text' →
      IsListed set start first whole (lines_left set left (frames w)) text enums → IsListed set start first whole (lines_left set (left - 1) (frames new)) text' enums
  goes_inside left w new f s prefix base prefix' text mid text' enums some at goes said before =
      let same : walk_set w ≡ set = at.in_set in
      let is : IsFieldOf (walk_schema w) (walk_index w) f = at.field in
      let b : ℕ = walk_brand w in
      let i : ℕ = walk_index w in
      let g : ℕ = number_of s in
      let p : List ℕ = path_under set (above w) in
      let p' : List ℕ = inside p (field_at set b i) in
      let more : left ≡ suc (left - 1) = omega (arith, some) in
      let leads_here = leads_set w f g same is goes.leads in
      let rest : List Line = lines_left set (left - 1) ((g, 0) ∷ (b, i + 1) ∷ above w) in
      let left_here = ap (λ (n : ℕ). lines_left set n (frames w)) more ∙ left_inside set (left - 1) b i g (above w) (inside_set set w f same is) leads_here in
      let union_here : text' ≡ mid ++ union_line set p' g =
      said.union ∙ (ap (λ (z : Schemas). mid ++ union_line z prefix' g) goes.in_set ∙ ap (λ (q : List ℕ). mid ++ union_line set q g) (path_inside w f base prefix' same is said.path_base said.path_inside)) in
      listed_left set start first whole rest (lines_left set (left - 1) (frames new)) text' enums (ap (lines_left set (left - 1)) (sym goes.frames))
      (listed_plain set start first whole (UnionLine p' g) rest mid text' enums (bytes_put (union_line set p' g) mid text' union_here) refl
      (listed_plain set start first whole (FieldLine p b i) (UnionLine p' g ∷ rest) text mid enums
      (group_put w f g prefix text mid same is said.path leads_here said.put) (group_unnamed (field_at set b i).field.kind (field_at set b i).type g leads_here)
      (listed_left set start first whole (lines_left set left (frames w)) _ text enums left_here before)))

  -- past the last field
  past_all : (left : ℕ) (w : GroupWalk) → walk_set w ≡ set → length (struct_fields (walk_schema w)) ≤ walk_index w → lines_left set left (frames w) ≡ lines_left set (suc left) (above w)
  past_all left w same past = left_outside set left (walk_brand w) (walk_index w) (above w) (subst (λ (z : Schemas). length (fields_of z (walk_brand w)) ≤ walk_index w) same past)

  pub goes_outside : (left : ℕ) (w outer : GroupWalk) (text enums : List ℕ) → walk_set w ≡ set → length (struct_fields (walk_schema w)) ≤ walk_index w → frames outer ≡ above w →
      IsListed set start first whole (lines_left set left (frames w)) text enums → IsListed set start first whole (lines_left set (left + 1) (frames outer)) text enums
  goes_outside left w outer text enums same past fs before =
      listed_left set start first whole (lines_left set left (frames w)) (lines_left set (left + 1) (frames outer)) text enums
      (past_all left w same past ∙ (ap (λ (n : ℕ). lines_left set n (above w)) (sym (add-one left)) ∙ ap (lines_left set (left + 1)) (sym fs))) before

  pub none_left_of : (left : ℕ) (w : GroupWalk) → walk_set w ≡ set → length (struct_fields (walk_schema w)) ≤ walk_index w → above w ≡ [] → lines_left set left (frames w) ≡ []
  none_left_of left w same past none = past_all left w same past ∙ left_none set (suc left) (above w) none
