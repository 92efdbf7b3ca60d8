-- Spans: when two of them meet, and what is added to them.
use Rattle.std.proofs.Common.{ℕ, zero, suc, ◌≡◌, ◌+◌, ◌-◌, ◌<◌, ◌≤◌, ⊎_elim, Bool, true, false, ◌||◌, List, [], ◌∷◌, ◌++◌, length, get_or, drop, arith, refl, sym, ap, ◌∙◌, Option, Some, None, slice_get, add-one}
use Rattle.std.proofs.lemmas.Bool.{cases_lt}
use Rattle.std.proofs.lemmas.Bool.Decides.{nat_tests}
use Rattle.capnp_schema.specs.Schema.{Schemas, Node, TypedField, node_of, fields_of, seen_kind}
use Rattle.capnp_schema.specs.declared.record.ValueRecord.{ValueRecord}
use Rattle.capnp_schema.specs.declared.record.FieldKind.TheVariants as kind
use Rattle.capnp_schema.specs.declared.lists.TypedField.{TypedField as TypedRecord}
use Rattle.capnp_schema.specs.Types.{seen_type, struct_brand}
use Rattle.capnp_schema.specs.Steps.Entries.{brand_node, seen_typed}
use Rattle.capnp_schema.specs.Footprint.{Spot, DataBit, PointerAt, is_in, slot_names, group_names, kind_names, some_field, brand_names, discriminant_names}
use Rattle.capnp_schema.specs.declared.check.spans.Span.{Span}
use Rattle.capnp_schema.specs.declared.check.spans.Span.TheVariants.{Data, Pointer}
use Rattle.capnp_schema.specs.Steps.Checking.Spans.{span_names, some_span, field_names, entry_names, some_brand, reached_spot}
use Rattle.capnp_schema.proofs.FoundEntries.{found_node}
use Rattle.capnp_schema.proofs.GroupTargets.{node_missing}

in_holds : (first n i : ℕ) → first ≤ i → i < first + n → is_in first n i ≡ true
in_holds first n i h k = grind (arith, nat_tests)

pub right_meets : (a b : Span) (first count other size : ℕ) → a ≡ Data first count → b ≡ Data other size → 0 < size → first ≤ other → other - first < count → (p : Spot) × (span_names a p ≡ true) × (span_names b p ≡ true)
right_meets a b first count other size e k some le lt = (DataBit other, rw e (in_holds first count other le (omega arith)), rw k (in_holds other size other (omega arith) (omega arith)))

pub left_meets : (a b : Span) (first count other size : ℕ) → a ≡ Data first count → b ≡ Data other size → 0 < count → other < first → first - other < size → (p : Spot) × (span_names a p ≡ true) × (span_names b p ≡ true)
left_meets a b first count other size e k some le lt = (DataBit first, rw e (in_holds first count first (omega arith) (omega arith)), rw k (in_holds other size first (omega arith) (omega arith)))

pub pointers_meet : (a b : Span) (x y : ℕ) → a ≡ Pointer x → b ≡ Pointer y → x ≡ y → (p : Spot) × (span_names a p ≡ true) × (span_names b p ≡ true)
pointers_meet a b x y e k same = (PointerAt x, rw e (grind (arith, nat_tests)), rw k (grind (arith, nat_tests)))

pub some_span_append : (xs : List Span) (y : Span) (p : Spot) → some_span (xs ++ y ∷ []) p ≡ (some_span xs p || span_names y p)
some_span_append [] y p = at (span_names y p)
  where
    at : (b : Bool) → (b || false) ≡ b
    at true = refl
    at false = refl
some_span_append (x ∷ xs) y p = at (span_names x p) (some_span_append xs y p)
  where
    at : (b : Bool) → some_span (xs ++ y ∷ []) p ≡ (some_span xs p || span_names y p) → (b || some_span (xs ++ y ∷ []) p) ≡ ((b || some_span xs p) || span_names y p)
    at true e = refl
    at false e = e

-- one of the spans names the spot
pub span_at : (xs : List Span) (p : Spot) → some_span xs p ≡ true → (k : ℕ) × (k < length xs) × ((d : Span) → span_names (get_or xs k d) p ≡ true)
span_at [] p e = cc
span_at (x ∷ xs) p e = at (span_names x p) refl (some_span xs p) (span_at xs p) e
  where
    at : (b : Bool) → span_names x p ≡ b → (c : Bool) → (c ≡ true → (k : ℕ) × (k < length xs) × ((d : Span) → span_names (get_or xs k d) p ≡ true)) → (b || c) ≡ true → (k : ℕ) × (k < suc (length xs)) × ((d : Span) → span_names (get_or (x ∷ xs) k d) p ≡ true)
    at true is c rest h = (0, omega arith, λ d. is)
    at false is c rest h = let r = rest h in (suc r.0, omega arith, r.2)

pub some_from_at : (xs : List Span) (k : ℕ) (d : Span) (p : Spot) → k < length xs → span_names (get_or xs k d) p ≡ true → some_span xs p ≡ true
some_from_at [] k d p h e = absurd (omega arith)
some_from_at (x ∷ xs) zero d p h e = rw e refl
some_from_at (x ∷ xs) (suc k) d p h e = at (span_names x p) (some_from_at xs k d p (omega arith) e)
  where
    at : (b : Bool) → some_span xs p ≡ true → (b || some_span xs p) ≡ true
    at true e = refl
    at false e = e

pub none_from_all : (xs : List Span) (p : Spot) → ((k : ℕ) (d : Span) → k < length xs → span_names (get_or xs k d) p ≡ false) → some_span xs p ≡ false
none_from_all [] p h = refl
none_from_all (x ∷ xs) p h = rw (h 0 x (omega arith)) (none_from_all xs p (λ k d lt. h (suc k) d (omega arith)))

-- one more span of a list meets nothing
pub row_done : (a b : List Span) (i : ℕ) (e : Span) → i < length a
    → ((k : ℕ) (d : Span) (p : Spot) → k < i → span_names (get_or a k d) p ≡ true → some_span b p ≡ false)
    → ((p : Spot) → span_names (get_or a i e) p ≡ true → some_span b p ≡ false)
    → (k : ℕ) (d : Span) (p : Spot) → k < i + 1 → span_names (get_or a k d) p ≡ true → some_span b p ≡ false
row_done a b i e inside before here k d p lt named =
    ⊎_elim
    (λ less. before k d p less named)
    (λ le. let is : k ≡ i = omega arith in here p (sym (ap (λ (s : Span). span_names s p) (get_any a i d e inside)) ∙ sym (ap (λ (j : ℕ). span_names (get_or a j d) p) is) ∙ named))
    (cases_lt k i)
  where
    get_any : (zs : List Span) (j : ℕ) (x y : Span) → j < length zs → get_or zs j x ≡ get_or zs j y
    get_any [] j x y h = absurd (omega arith)
    get_any (z ∷ zs) zero x y h = refl
    get_any (z ∷ zs) (suc j) x y h = get_any zs j x y (omega arith)

pub or_false : (x y : Bool) → y ≡ false → x ≡ (x || y)
or_false true y e = refl
or_false false y e = sym e

pub or_assoc : (x y z : Bool) → ((x || y) || z) ≡ (x || (y || z))
or_assoc true y z = refl
or_assoc false y z = refl

-- what was named, what a part adds, and what is left, in another order
or_swap : (before part rest : Bool) → ((before || part) || rest) ≡ ((before || rest) || part)
or_swap true part rest = refl
or_swap false true true = refl
or_swap false true false = refl
or_swap false false true = refl
or_swap false false false = refl

or_none : (x : Bool) → (x || false) ≡ x
or_none true = refl
or_none false = refl

-- one more span
span_reached : (groups : ℕ) (set : Schemas) (out : List Span) (below : List ℕ) (s : Span) (p : Spot) → reached_spot groups set (out ++ s ∷ []) below p ≡ (reached_spot groups set out below p || span_names s p)
span_reached groups set out below s p =
    ap (λ x. x || some_brand groups set below p) (some_span_append out s p) ∙ or_swap (some_span out p) (span_names s p) (some_brand groups set below p)

some_brand_append : (groups : ℕ) (set : Schemas) (bs : List ℕ) (b : ℕ) (p : Spot) → some_brand groups set (bs ++ b ∷ []) p ≡ (some_brand groups set bs p || brand_names groups set b p)
some_brand_append groups set [] b p = or_none (brand_names groups set b p)
some_brand_append groups set (x ∷ xs) b p =
    ap (λ y. brand_names groups set x p || y) (some_brand_append groups set xs b p) ∙ sym (or_assoc (brand_names groups set x p) (some_brand groups set xs p) (brand_names groups set b p))

-- one field of the loop
pub field_added : (groups : ℕ) (set : Schemas) (fs : List TypedField) (p : Spot) (before after : Bool) (i : ℕ) (whole : Bool)
    → after ≡ (before || entry_names groups set (slice_get fs i) p)
    → (before || some_field (field_names groups set) (drop i fs) p) ≡ whole
    → (after || some_field (field_names groups set) (drop (i + 1) fs) p) ≡ whole
field_added groups set fs p before after i whole one kept =
    rw (one, or_assoc, add-one) (ap (λ b. before || b) (sym (parts fs i)) ∙ kept)
  where
    parts : (fs : List TypedField) (i : ℕ) → some_field (field_names groups set) (drop i fs) p ≡ (entry_names groups set (slice_get fs i) p || some_field (field_names groups set) (drop (suc i) fs) p)
    parts [] zero = refl
    parts [] (suc i) = refl
    parts (f ∷ fs) zero = refl
    parts (f ∷ fs) (suc i) = parts fs i

-- a struct's fields and its discriminant
pub brand_added : (set : Schemas) (groups b : ℕ) (p : Spot) (before : Bool) (out : List Span) (below : List ℕ) (n : Node) (s : Span)
    → Some n ≡ brand_node set b
    → reached_spot groups set out below p ≡ (before || some_field (field_names groups set) (fields_of set b) p)
    → span_names s p ≡ discriminant_names n p
    → reached_spot groups set (out ++ s ∷ []) below p ≡ (before || brand_names (suc groups) set b p)
brand_added set groups b p before out below n s there fields names =
    span_reached groups set out below s p
    ∙ ap (λ x. reached_spot groups set out below p || x) (names ∙ ap (λ m. discriminant_names m p) (sym (found_node set b n there)))
    ∙ ap (λ x. x || discriminant_names (node_of set b) p) fields
    ∙ or_assoc before (some_field (field_names groups set) (fields_of set b) p) (discriminant_names (node_of set b) p)

-- a struct whose node isn't there has no discriminant
pub fields_alone : (set : Schemas) (groups b : ℕ) (p : Spot) (before after : Bool)
    → None ≡ brand_node set b
    → after ≡ (before || some_field (field_names groups set) (fields_of set b) p)
    → after ≡ (before || brand_names (suc groups) set b p)
fields_alone set groups b p before after missing fields =
    fields ∙ ap (λ x. before || x) (or_false (some_field (field_names groups set) (fields_of set b) p) (discriminant_names (node_of set b) p) (none p))
  where
    none : (p : Spot) → discriminant_names (node_of set b) p ≡ false
    none (DataBit i) = rw (node_missing set b missing) refl
    none (PointerAt i) = refl

-- one more slot
pub slot_added : (groups : ℕ) (set : Schemas) (entry : Option TypedField) (f : TypedRecord) (offset : ℕ) (default : ValueRecord) (out : List Span) (below : List ℕ) (s : Span) (p : Spot)
    → Some (seen_typed f) ≡ entry → f.field.now.kind ≡ kind.Slot offset default → span_names s p ≡ slot_names offset (seen_type f.field_type.now) p
    → reached_spot groups set (out ++ s ∷ []) below p ≡ (reached_spot groups set out below p || entry_names groups set entry p)
slot_added groups set entry f offset default out below s p there is names =
    span_reached groups set out below s p
    ∙ ap (λ x. reached_spot groups set out below p || x) (names ∙ ap (λ k. kind_names (brand_names groups set) (seen_kind k) (seen_type f.field_type.now) p) (sym is) ∙ ap (λ e. entry_names groups set e p) there)

-- one more group
pub group_added : (groups : ℕ) (set : Schemas) (entry : Option TypedField) (f : TypedRecord) (node g : ℕ) (out : List Span) (below : List ℕ) (p : Spot)
    → Some (seen_typed f) ≡ entry → f.field.now.kind ≡ kind.Group node → Some g ≡ struct_brand (seen_type f.field_type.now)
    → reached_spot groups set out (below ++ g ∷ []) p ≡ (reached_spot groups set out below p || entry_names groups set entry p)
group_added groups set entry f node g out below p there is target =
    ap (λ x. some_span out p || x) (some_brand_append groups set below g p)
    ∙ sym (or_assoc (some_span out p) (some_brand groups set below p) (brand_names groups set g p))
    ∙ ap (λ x. reached_spot groups set out below p || x) (ap (λ t. group_names (brand_names groups set) t p) target ∙ ap (λ k. kind_names (brand_names groups set) (seen_kind k) (seen_type f.field_type.now) p) (sym is) ∙ ap (λ e. entry_names groups set e p) there)

-- nothing is reached below the last depth
pub reached_all : (set : Schemas) (out : List Span) (brands : List ℕ) (p : Spot) → reached_spot 0 set out brands p ≡ some_span out p
reached_all set out brands p = ap (λ x. some_span out p || x) (none brands) ∙ or_none (some_span out p)
  where
    none : (bs : List ℕ) → some_brand 0 set bs p ≡ false
    none [] = refl
    none (b ∷ bs) = none bs

-- brands by the brands of their groups, after the last of them
pub all_brands : (groups : ℕ) (set : Schemas) (bs : List ℕ) (i : ℕ) (p : Spot) (reaches whole : Bool) → length bs ≤ i
    → (reaches || some_brand (suc groups) set (drop i bs) p) ≡ whole → reaches ≡ whole
all_brands groups set bs i p reaches whole past kept = sym (or_none reaches) ∙ ap (λ x. reaches || x) (sym (left bs i past)) ∙ kept
  where
    left : (bs : List ℕ) (i : ℕ) → length bs ≤ i → some_brand (suc groups) set (drop i bs) p ≡ false
    left [] zero h = refl
    left [] (suc i) h = refl
    left (x ∷ bs) zero h = absurd (omega arith)
    left (x ∷ bs) (suc i) h = left bs i (omega arith)
