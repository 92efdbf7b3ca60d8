-- The refusal of a text is the first one of its parts.
use Rattle.std.proofs.Common.{ℕ, zero, suc, ◌+◌, ◌-◌, ◌<◌, ◌≡◌, refl, List, [], ◌∷◌, ◌++◌, Bool, true, false, codes, length, Option, Some, None, Ok, Err, ap, sym, ◌∙◌, arith}
use Rattle.capnp_device.specs.declared.error.ErrorKind.{ErrorKind}
use Rattle.capnp_schema.specs.Schema.{TypedField}
use Rattle.capnp_schema.specs.StructHandles.{struct_fields}
use Rattle.capnp_records.specs.Text.{Inner, Layout, Out, after, bracketed_text, deeper, item, item_if, line, list_text, more_text, quoted_text, said_text, debug_pieces, decimals, separator, struct_text, text_within, value_text}
use Rattle.std.specs.Str.{is_utf8}
use Rattle.capnp_dynamic_readers.specs.Handles.{schema_of}
use Rattle.capnp_dynamic_readers.specs.Reads.{element_seen}
use Rattle.capnp_dynamic_readers.specs.Seen.{value_seen}
use Rattle.capnp_dynamic_readers.specs.Shown.{set_seen, type_seen}
use Rattle.capnp_dynamic_readers.specs.Steps.Leaf.{IsLeaf}
use Rattle.capnp_dynamic_readers.specs.Steps.Shown.{count_of, element_items, element_shown, list_shown, record_items, record_shown, value_shown}
use Rattle.capnp_dynamic_readers.specs.declared.dynamic_list.Reader.{Reader as ListHandle}
use Rattle.capnp_dynamic_readers.specs.declared.dynamic_struct.Reader.{Reader as StructHandle}
use Rattle.capnp_dynamic_readers.specs.declared.dynamic_value.Reader.{Reader as DynamicValue}
use Rattle.capnp_dynamic_readers.specs.declared.dynamic_value.Reader.TheVariants as dynamic
use Rattle.capnp_check.specs.Refusals.{text_refusal}
use Rattle.capnp_check.specs.Steps.Walks.{first_refusal, or_later}
use Rattle.capnp_dynamic_readers.specs.Facts.ItemsInOrder.{from_end, from_here, from_start}

-- ---- the first of two ----

pub or_none : (o : Option ErrorKind) → or_later o None ≡ o
or_none None = refl
or_none (Some kind) = refl

pub or_assoc : (a b c : Option ErrorKind) → or_later (or_later a b) c ≡ or_later a (or_later b c)
or_assoc None b c = refl
or_assoc (Some kind) b c = refl

pub refusal_after : (x y : Out) → text_refusal (after x y) ≡ or_later (text_refusal x) (text_refusal y)
refusal_after (Err k) y = refl
refusal_after (Ok a) (Err k) = refl
refusal_after (Ok a) (Ok b) = refl

pub refusal_said : (bytes : List ℕ) (y : Out) → text_refusal (after (said_text bytes) y) ≡ text_refusal y
refusal_said bytes y = refusal_after (said_text bytes) y

pub first_append : (xs ys : List Out) → first_refusal (xs ++ ys) ≡ or_later (first_refusal xs) (first_refusal ys)
first_append [] ys = refl
first_append (x ∷ xs) ys = ap (or_later (text_refusal x)) (first_append xs ys) ∙ sym (or_assoc (text_refusal x) (first_refusal xs) (first_refusal ys))

-- ---- items and brackets ----

pub more_refusal : (at : Layout) (first : Bool) (xs : List Out) → text_refusal (more_text at first xs) ≡ first_refusal xs
more_refusal at first [] = refl
more_refusal at first (x ∷ xs) =
    refusal_said (separator at first) (after x (more_text at false xs))
    ∙ (refusal_after x (more_text at false xs) ∙ ap (or_later (text_refusal x)) (more_refusal at false xs))

pub bracketed_refusal : (opening closing : List ℕ) (at : Layout) (items : List Out) → text_refusal (bracketed_text opening closing at items) ≡ first_refusal items
bracketed_refusal opening closing at items =
    refusal_said opening (after (more_text (deeper at) true items) (said_text (line at ++ closing)))
    ∙ (refusal_after (more_text (deeper at) true items) (said_text (line at ++ closing))
    ∙ (or_none (text_refusal (more_text (deeper at) true items)) ∙ more_refusal (deeper at) true items))

-- the refusal of an item where it is shown
abbrev pub own_refusal : Bool → Option ErrorKind → Option ErrorKind
own_refusal true o = o
own_refusal false o = None

pub item_refusal : (q : Bool) (f : TypedField) (text : Out) → first_refusal (item_if q (item f text)) ≡ own_refusal q (text_refusal text)
item_refusal true f text = or_none (text_refusal (item f text)) ∙ refusal_said (f.field.name ++ codes " = ") text
item_refusal false f text = refl

-- ---- structs ----

pub record_refusal : (left : ℕ) (h : StructHandle) → text_refusal (record_shown left None h) ≡ first_refusal (from_here left None h 0)
record_refusal left h = go (struct_fields (schema_of h)) refl
  where
    go : (fs : List TypedField) → struct_fields (schema_of h) ≡ fs → text_refusal (record_shown left None h) ≡ first_refusal (from_here left None h 0)
    go [] e =
        ap (λ (fs : List TypedField). text_refusal (struct_text None fs (record_items left None h))) e
        ∙ sym (ap first_refusal (from_end left None h 0 (omega (arith, ap length e))))
    go (f ∷ fs) e =
        ap (λ (fs : List TypedField). text_refusal (struct_text None fs (record_items left None h))) e
        ∙ (bracketed_refusal (codes "(") (codes ")") None (record_items left None h)
        ∙ ap first_refusal (sym (from_start left None h)))

-- ---- lists ----

pub list_refusal : (at : Layout) (items : List Out) → text_refusal (list_text at items) ≡ first_refusal items
list_refusal at [] = refl
list_refusal at (x ∷ xs) = bracketed_refusal (codes "[") (codes "]") at (x ∷ xs)

less_one : (n i : ℕ) → i < n → n - i ≡ suc (n - (i + 1))
less_one n i h = omega (arith, h)

next_is : (i : ℕ) → suc i ≡ i + 1
next_is i = omega arith

none_left : (n i : ℕ) → n < i + 1 → n - i ≡ 0
none_left n i h = omega (arith, h)

-- the refusal of the elements from one on
abbrev pub elements_refusal : ℕ → ListHandle → ℕ → Option ErrorKind
elements_refusal left l i = first_refusal (element_items left None l i (count_of l - i))

module _ (left : ℕ) (l : ListHandle) where
  pub elements_start : text_refusal (list_shown left None l) ≡ elements_refusal left l 0
  elements_start = list_refusal None (element_items left None l 0 (count_of l)) ∙ ap (λ (n : ℕ). first_refusal (element_items left None l 0 n)) (omega arith)

  pub elements_next : (i : ℕ) → i < count_of l → elements_refusal left l i ≡ or_later (text_refusal (element_shown left None l (element_seen l i))) (elements_refusal left l (i + 1))
  elements_next i h =
      ap (λ (m : ℕ). first_refusal (element_items left None l i m)) (less_one (count_of l) i h)
      ∙ ap (λ (j : ℕ). or_later (text_refusal (element_shown left None l (element_seen l i))) (first_refusal (element_items left None l j (count_of l - (i + 1))))) (next_is i)

  pub elements_end : (i : ℕ) → count_of l < i + 1 → elements_refusal left l i ≡ None
  elements_end i h = ap (λ (m : ℕ). first_refusal (element_items left None l i m)) (none_left (count_of l) i h)

-- ---- levels ----

before_suc : (n : ℕ) → suc n - 1 ≡ n
before_suc n = omega arith

pub struct_deep : (left : ℕ) (at : Layout) (r : StructHandle) → 0 < left → value_shown left at (dynamic.Struct r) ≡ record_shown (left - 1) at r
struct_deep zero at r h = absurd (omega (arith, h))
struct_deep (suc n) at r h = ap (λ m. record_shown m at r) (sym (before_suc n))

pub list_deep : (left : ℕ) (at : Layout) (l : ListHandle) → 0 < left → value_shown left at (dynamic.List l) ≡ list_shown (left - 1) at l
list_deep zero at l h = absurd (omega (arith, h))
list_deep (suc n) at l h = ap (λ m. list_shown m at l) (sym (before_suc n))

-- ---- a value that is no struct and no list has a text ----

by_levels : (left : ℕ) (v : DynamicValue) → ((inner : Option Inner) → text_refusal (value_text (set_seen v) inner None (type_seen v) (value_seen v)) ≡ None) → text_refusal (value_shown left None v) ≡ None
by_levels zero v h = h None
by_levels (suc n) v h = h (Some (text_within (set_seen v) n))

pub quoted_said : (bs : List ℕ) → text_refusal (quoted_text bs) ≡ None
quoted_said bs = go (is_utf8 bs)
  where
    go : (q : Bool) → text_refusal (elim q as (λ _. Out) [ true ↦ Ok (debug_pieces bs) | false ↦ said_text (codes "<invalid utf-8: [" ++ decimals bs ++ codes "]>") ]) ≡ None
    go true = refl
    go false = refl

pub leaf_said : (left : ℕ) (v : DynamicValue) → IsLeaf v → text_refusal (value_shown left None v) ≡ None
leaf_said left dynamic.Void h = by_levels left dynamic.Void (λ inner. refl)
leaf_said left (dynamic.Bool b) h = by_levels left (dynamic.Bool b) (λ inner. refl)
leaf_said left (dynamic.Int8 x) h = by_levels left (dynamic.Int8 x) (λ inner. refl)
leaf_said left (dynamic.Int16 x) h = by_levels left (dynamic.Int16 x) (λ inner. refl)
leaf_said left (dynamic.Int32 x) h = by_levels left (dynamic.Int32 x) (λ inner. refl)
leaf_said left (dynamic.Int64 x) h = by_levels left (dynamic.Int64 x) (λ inner. refl)
leaf_said left (dynamic.UInt8 x) h = by_levels left (dynamic.UInt8 x) (λ inner. refl)
leaf_said left (dynamic.UInt16 x) h = by_levels left (dynamic.UInt16 x) (λ inner. refl)
leaf_said left (dynamic.UInt32 x) h = by_levels left (dynamic.UInt32 x) (λ inner. refl)
leaf_said left (dynamic.UInt64 x) h = by_levels left (dynamic.UInt64 x) (λ inner. refl)
leaf_said left (dynamic.Enum e) h = by_levels left (dynamic.Enum e) (λ inner. refl)
leaf_said left (dynamic.Text t) h = by_levels left (dynamic.Text t) (λ inner. quoted_said t.0.now)
leaf_said left (dynamic.«Data» bytes) h = by_levels left (dynamic.«Data» bytes) (λ inner. refl)
leaf_said left (dynamic.Struct s) h = absurd h
leaf_said left (dynamic.List l) h = absurd h
leaf_said left (dynamic.AnyPointer p) h = by_levels left (dynamic.AnyPointer p) (λ inner. refl)

pub leaf_from : (v : DynamicValue) → ((s : StructHandle) → v ≡ dynamic.Struct s → ⊥) → ((l : ListHandle) → v ≡ dynamic.List l → ⊥) → IsLeaf v
leaf_from (dynamic.Struct s) h k = absurd (h s refl)
leaf_from (dynamic.List l) h k = absurd (k l refl)
leaf_from v h k = tt {0}

-- ---- a value by its level ----

pub struct_refusal : (left : ℕ) (v : DynamicValue) (o : Option ErrorKind) (s : StructHandle) → (left ≡ 0 → ⊥) → v ≡ dynamic.Struct s → o ≡ text_refusal (record_shown (left - 1) None s) → o ≡ text_refusal (value_shown left None v)
struct_refusal left v o s some is e = e ∙ (ap text_refusal (sym (struct_deep left None s (omega (arith, some)))) ∙ ap (λ (z : DynamicValue). text_refusal (value_shown left None z)) (sym is))

pub list_value_refusal : (left : ℕ) (v : DynamicValue) (o : Option ErrorKind) (l : ListHandle) → (left ≡ 0 → ⊥) → v ≡ dynamic.List l → o ≡ text_refusal (list_shown (left - 1) None l) → o ≡ text_refusal (value_shown left None v)
list_value_refusal left v o l some is e = e ∙ (ap text_refusal (sym (list_deep left None l (omega (arith, some)))) ∙ ap (λ (z : DynamicValue). text_refusal (value_shown left None z)) (sym is))
