-- What the text of a value is refused with is a number of reads.
use Rattle.std.specs.Prelude.{ℕ, zero, suc, ⊤, List, [], ◌∷◌, ◌++◌, Bool, true, false, not, cond, ◌||◌, ◌==◌, Option, Some, None, Ok, Err, codes}
use Rattle.std.proofs.Common.{refl}
use Rattle.capnp_device.specs.declared.error.ErrorKind.{ErrorKind}
use Rattle.capnp_device.specs.declared.error.ErrorKind.TheVariants.{WrongElementSize, WrongPointerKind}
use Rattle.capnp_schema.specs.Schema.{Schemas, TypedField, VoidValue, default_of, field_at, fields_of, is_member, Value as SchemaValue}
use Rattle.capnp_schema.specs.Types.{SchemaType, struct_number}
use Rattle.capnp_records.specs.Default.{read_of}
use Rattle.capnp_records.specs.Reading.{element_type}
use Rattle.capnp_records.specs.Record as value
use Rattle.capnp_records.specs.Record.{Active, MoreValues, NoUnion, NoValues, Parts, Record, Union, Unknown, Value, Values, is_there}
use Rattle.capnp_records.specs.Text.{Inner, Layout, Member, Out, after, before, bracketed_text, debug_pieces, decimals, deeper, element_texts, entering_fault, fault_kind, is_entered, item, item_if, later, line, list_text, member, more_text, part_text, record_text, member_rest, said_text, separator, shown, stands_before, struct_text, text_of, text_within, value_text, quoted_text}
use Rattle.capnp_records.specs.Facts.ReadFaults.{AllSound, IsReadKind, RecordSound, Sound, UnionSound, read_of_sound}
use Rattle.std.specs.Str.{is_utf8}

abbrev pub OutSound : Out → Type 0
OutSound (Ok text) = ⊤
OutSound (Err kind) = IsReadKind kind

abbrev AllOut : List Out → Type 0
AllOut [] = ⊤
AllOut (x ∷ xs) = OutSound x × AllOut xs

after_sound : (a b : Out) → OutSound a → OutSound b → OutSound (after a b)
after_sound (Err k) b h i = h
after_sound (Ok xs) (Err k) h i = i
after_sound (Ok xs) (Ok ys) h i = tt

append_sound : (xs ys : List Out) → AllOut xs → AllOut ys → AllOut (xs ++ ys)
append_sound [] ys h k = k
append_sound (x ∷ xs) ys h k = (h.0, append_sound xs ys h.1 k)

more_sound : (at : Layout) (first : Bool) (xs : List Out) → AllOut xs → OutSound (more_text at first xs)
more_sound at first [] h = tt
more_sound at first (x ∷ xs) h = after_sound (said_text (separator at first)) _ tt (after_sound x (more_text at false xs) h.0 (more_sound at false xs h.1))

bracketed_sound : (opening closing : List ℕ) (at : Layout) (xs : List Out) → AllOut xs → OutSound (bracketed_text opening closing at xs)
bracketed_sound opening closing at xs h =
    after_sound (said_text opening) _ tt (after_sound (more_text (deeper at) true xs) (said_text (line at ++ closing)) (more_sound (deeper at) true xs h) tt)

list_sound : (at : Layout) (xs : List Out) → AllOut xs → OutSound (list_text at xs)
list_sound at [] h = tt
list_sound at (x ∷ xs) h = bracketed_sound (codes "[") (codes "]") at (x ∷ xs) h

struct_sound : (at : Layout) (fs : List TypedField) (xs : List Out) → AllOut xs → OutSound (struct_text at fs xs)
struct_sound at [] xs h = tt
struct_sound at (f ∷ fs) xs h = bracketed_sound (codes "(") (codes ")") at xs h

abbrev MemberSound : Member → Type 0
MemberSound None = ⊤
MemberSound (Some m) = AllOut m.1

rest_sound : (m : Member) → MemberSound m → AllOut (member_rest m)
rest_sound None h = tt
rest_sound (Some m) h = h

one_sound : (q : Bool) (o : Out) → OutSound o → AllOut (item_if q o)
one_sound true o h = (h, tt)
one_sound false o h = tt

before_sound : (m : Member) (i : ℕ) → MemberSound m → AllOut (before m i)
before_sound m i h = go (stands_before m i)
  where
    go : (q : Bool) → AllOut (cond q (member_rest m) [])
    go true = rest_sound m h
    go false = tt

later_sound : (m : Member) (i : ℕ) → MemberSound m → MemberSound (later m i)
later_sound m i h = go (stands_before m i)
  where
    go : (q : Bool) → MemberSound (cond q None m)
    go true = tt
    go false = h

abbrev InnerSound : Inner → Type 0
InnerSound inner = (at : Layout) (t : SchemaType) (v : Value) → Sound v → OutSound (inner at t v)

module _ (set : Schemas) (inner : Inner) (sound : InnerSound inner) where
  item_sound : (f : TypedField) (o : Out) → OutSound o → OutSound (item f o)
  item_sound f o h = after_sound (said_text (f.field.name ++ codes " = ")) o tt h

  mutual
    part_sound : (at : Layout) (d : SchemaValue) (t : SchemaType) (v : Value) → Sound v → OutSound (part_text set inner at d t v)
    part_sound at d t (value.Group r) h = record_sound at (struct_number t) r h
    part_sound at d t v h = sound at t (read_of set d t v) (read_of_sound set d t v h)

    record_sound : (at : Layout) (b : ℕ) (r : Record) → RecordSound r → OutSound (record_text set inner at b r)
    record_sound at b (Parts vs u) h =
        struct_sound at (fields_of set b) _ (shown_sound (deeper at) (fields_of set b) 0 vs (member set inner (deeper at) b u) h.0 (member_sound (deeper at) b u h.1))

    shown_sound : (at : Layout) (fs : List TypedField) (i : ℕ) (vs : Values) (m : Member) → AllSound vs → MemberSound m → AllOut (shown set inner at fs i vs m)
    shown_sound at fs i NoValues m h k = rest_sound m k
    shown_sound at [] i (MoreValues v vs) m h k = rest_sound m k
    shown_sound at (f ∷ fs) i (MoreValues v vs) m h k =
        go (λ m k. shown_sound at fs (suc i) vs m h.1 k) (item_sound f _ (part_sound at (default_of f.field) f.type v h.0)) (is_member f.field)
      where
        text : Out
        text = item f (part_text set inner at (default_of f.field) f.type v)

        go : ((m : Member) → MemberSound m → AllOut (shown set inner at fs (suc i) vs m)) → OutSound text → (q : Bool) →
            AllOut (elim q as (λ _. List Out) [
              | true ↦ shown set inner at fs (suc i) vs m
              | false ↦ before m i ++ item_if (is_there v) text ++ shown set inner at fs (suc i) vs (later m i)
            ])
        go ih part true = ih m k
        go ih part false = append_sound _ _ (append_sound _ _ (before_sound m i k) (one_sound (is_there v) text part)) (ih (later m i) (later_sound m i k))

    member_sound : (at : Layout) (b : ℕ) (u : Union) → UnionSound u → MemberSound (member set inner at b u)
    member_sound at b NoUnion h = tt
    member_sound at b (Unknown n) h = tt
    member_sound at b (Active i v) h =
        one_sound (is_there v || not ((field_at set b i).field.discriminant_value == 0)) _
        (item_sound (field_at set b i) _ (part_sound at (default_of (field_at set b i).field) (field_at set b i).type v h))

  elements_sound : (at : Layout) (t : SchemaType) (vs : Values) → AllSound vs → AllOut (element_texts set inner at t vs)
  elements_sound at t NoValues h = tt
  elements_sound at t (MoreValues v vs) h = (sound at t _ (read_of_sound set VoidValue t v h.0), elements_sound at t vs h.1)

-- ---- a value, by the text of what stands further in ----

entering_sound : (kind : ErrorKind) → IsReadKind kind → IsReadKind (entering_fault kind)
entering_sound WrongPointerKind h = refl
entering_sound WrongElementSize h = refl
entering_sound kind h = h

fault_sound : (inner : Option Inner) (t : SchemaType) (kind : ErrorKind) → IsReadKind kind → IsReadKind (fault_kind inner t kind)
fault_sound None t kind h = go (is_entered t)
  where
    go : (q : Bool) → IsReadKind (cond q (entering_fault kind) kind)
    go true = entering_sound kind h
    go false = h
fault_sound (Some inner) t kind h = h

quoted_sound : (bs : List ℕ) → OutSound (quoted_text bs)
quoted_sound bs = go (is_utf8 bs)
  where
    go : (q : Bool) → OutSound (elim q as (λ _. Out) [ true ↦ Ok (debug_pieces bs) | false ↦ said_text (codes "<invalid utf-8: [" ++ decimals bs ++ codes "]>") ])
    go true = tt
    go false = tt

abbrev StandsIn : Option Inner → Type 0
StandsIn None = ⊤
StandsIn (Some inner) = InnerSound inner

value_sound : (set : Schemas) (inner : Option Inner) → StandsIn inner → InnerSound (value_text set inner)
value_sound set inner h at t value.Void s = tt
value_sound set inner h at t (value.Truth b) s = tt
value_sound set inner h at t (value.Number n) s = tt
value_sound set inner h at t (value.Enum n) s = tt
value_sound set inner h at t (value.Text bs) s = quoted_sound bs
value_sound set inner h at t (value.Data bs) s = tt
value_sound set None h at t (value.Struct r) s = refl
value_sound set (Some inner) h at t (value.Struct r) s = record_sound set inner h at (struct_number t) r s
value_sound set inner h at t (value.Group r) s = tt
value_sound set None h at t (value.Elements vs) s = refl
value_sound set (Some inner) h at t (value.Elements vs) s = list_sound at _ (elements_sound set inner h (deeper at) (element_type t) vs s)
value_sound set inner h at t (value.Untyped x) s = tt
value_sound set inner h at t (value.Fault kind) s = fault_sound inner t kind s
value_sound set inner h at t (value.Missing l) s = tt
value_sound set inner h at t value.Elsewhere s = tt

text_sound : (set : Schemas) (n : ℕ) → InnerSound (text_within set n)
text_sound set zero = value_sound set None tt
text_sound set (suc n) = value_sound set (Some (text_within set n)) (text_sound set n)

-- the text of a value that stands alone
pub whole_sound : (set : Schemas) (indented : Bool) (t : SchemaType) (v : Value) → Sound v → OutSound (text_of set indented t v)
whole_sound set indented t v h = part_sound set (text_within set 64) (text_sound set 64) (cond indented (Some 0) None) VoidValue t v h
