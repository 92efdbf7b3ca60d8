-- The elements of a spliced list are those of the first with those of the second at the place.
use Rattle.std.proofs.Common.{◌≡◌, ℕ, zero, suc, ◌+◌, ◌-◌, ◌<◌, ◌≤◌, refl, sym, ap, ap₂, subst, ◌∙◌, Bool, true, false, cond, nat_lt, arith, IsTrue, ◌==◌, ◌||◌}
use Rattle.std.proofs.lemmas.Bool.{lt-ltb, le-ltb}
use Rattle.std.proofs.lemmas.Bool.Decides.{nat_tests}
use Rattle.capnp_wire.specs.Elements.{reads_list}
use Rattle.capnp_wire.specs.Reading.{element_struct, list_length}
use Rattle.capnp_wire.specs.Tree.{StructTree, Tree}
use Rattle.capnp_wire.specs.WellFormed.{is_width}
use Rattle.capnp_wire.specs.declared.size.StructSize.{StructSize}
use Rattle.capnp_splices.specs.Facts.Kept.{bits_kept, bytes_kept, eights_kept, fours_kept, pointers_kept, structs_kept, twos_kept, voids_kept}
use Rattle.capnp_splices.specs.Splices.{Element, IsSplice, Splice, picked, spliced_count, spliced_list, spliced_size}
use Rattle.capnp_schema.specs.Ranges.{HasWidths}
use Rattle.capnp_schema.specs.Schema.{Schemas}
use Rattle.capnp_schema.specs.Types.{AnyPointerType, BoolType, DataType, EnumType, IntType, ListType, SchemaType, StructType, TextType, UIntType, VoidType, element_size}
use Rattle.capnp_records.specs.Facts.Extension.{reads_extended}
use Rattle.capnp_records.specs.Facts.ListValues.{ListRead, list_from, list_read, values_from_same}
use Rattle.capnp_records.specs.Reading.{number_value, reads, value_of}
use Rattle.capnp_records.specs.Record as value
use Rattle.capnp_records.specs.Record.{Endless, MoreValues, Value, Values, values_from}
use Rattle.capnp_records.specs.Steps.Stand.{seen_element}
use Rattle.capnp_edits.specs.Laws.{SpliceLaw}
use Rattle.capnp_edits.specs.Edits.{append_values, first_values, spliced, values_behind}

-- ---- rows of values ----

at_zero : {A : Type 0} (f : ℕ → A) (a : ℕ) → f (a + 0) ≡ f a
at_zero f a = ap f (omega arith)

at_suc : {A : Type 0} (f : ℕ → A) (a i : ℕ) → f (suc a + i) ≡ f (a + suc i)
at_suc f a i = ap f (omega arith)

-- two rows from different numbers on
same_row : (f g : ℕ → Value) (a b n : ℕ) → ((i : ℕ) → i < n → f (a + i) ≡ g (b + i)) → values_from f a n ≡ values_from g b n
same_row f g a b zero h = refl
same_row f g a b (suc n) h =
    ap₂ MoreValues (sym (at_zero f a) ∙ (h 0 (omega arith) ∙ at_zero g b))
    (same_row f g (suc a) (suc b) n (λ i c. at_suc f a i ∙ (h (suc i) (omega (arith, c)) ∙ sym (at_suc g b i))))

row_append : (f : ℕ → Value) (a m n : ℕ) → values_from f a (m + n) ≡ append_values (values_from f a m) (values_from f (a + m) n)
row_append f a zero n = ap₂ (values_from f) {x = a} {y = a + 0} (omega arith) (omega arith)
row_append f a (suc m) n =
    ap (values_from f a) {x = suc m + n} {y = suc (m + n)} (omega arith)
    ∙ (ap (MoreValues (f a)) (row_append f (suc a) m n)
    ∙ ap (λ k. MoreValues (f a) (append_values (values_from f (suc a) m) (values_from f k n))) {x = suc a + m} {y = a + suc m} (omega arith))

first_row : (f : ℕ → Value) (a m n : ℕ) → m ≤ n → first_values m (values_from f a n) ≡ values_from f a m
first_row f a zero n h = refl
first_row f a (suc m) zero h = absurd (omega (arith, h))
first_row f a (suc m) (suc n) h = ap (MoreValues (f a)) (first_row f (suc a) m n (omega (arith, h)))

row_behind : (f : ℕ → Value) (a m n : ℕ) → m ≤ n → values_behind m (values_from f a n) ≡ values_from f (a + m) (n - m)
row_behind f a zero n h = ap₂ (values_from f) {x = a} {y = a + 0} (omega arith) (omega arith)
row_behind f a (suc m) zero h = absurd (omega (arith, h))
row_behind f a (suc m) (suc n) h = row_behind f (suc a) m n (omega (arith, h)) ∙ ap₂ (values_from f) {x = suc a + m} {y = a + suc m} (omega arith) (omega arith)

-- ---- which element stands where ----

module _ (g : Element → Value) (s : Splice) (within : s.at + s.removed ≤ list_length s.old) where
  abbrev old : ℕ → Value
  old i = g (record { list = s.old; index = i })

  abbrev new : ℕ → Value
  new i = g (record { list = s.added; index = i })

  second : (i : ℕ) (x y : Element) → nat_lt i s.at ≡ false → g (cond (nat_lt i s.at) x y) ≡ g y
  second i x y e = ap (λ b. g (cond b x y)) {x = nat_lt i s.at} {y = false} e

  before : (i : ℕ) → i < s.at → g (picked s i) ≡ old i
  before i h = ap (λ b. g (cond b (record { list = s.old; index = i }) (cond (nat_lt (i - s.at) (list_length s.added)) (record { list = s.added; index = i - s.at }) (record { list = s.old; index = i - list_length s.added + s.removed })))) {x = nat_lt i s.at} {y = true} (lt-ltb i s.at h)

  between : (i : ℕ) → i < list_length s.added → g (picked s (s.at + i)) ≡ new i
  between i h =
      second (s.at + i) _ _ (le-ltb (s.at + i) s.at (omega arith))
      ∙ (ap (λ b. g (cond b (record { list = s.added; index = s.at + i - s.at }) (record { list = s.old; index = s.at + i - list_length s.added + s.removed }))) {x = nat_lt (s.at + i - s.at) (list_length s.added)} {y = true} (lt-ltb (s.at + i - s.at) (list_length s.added) (omega (arith, h)))
      ∙ ap new {x = s.at + i - s.at} {y = i} (omega arith))

  behind : (i : ℕ) → g (picked s (s.at + list_length s.added + i)) ≡ old (s.at + s.removed + i)
  behind i =
      second (s.at + list_length s.added + i) _ _ (le-ltb (s.at + list_length s.added + i) s.at (omega arith))
      ∙ (ap (λ b. g (cond b (record { list = s.added; index = s.at + list_length s.added + i - s.at }) (record { list = s.old; index = s.at + list_length s.added + i - list_length s.added + s.removed }))) {x = nat_lt (s.at + list_length s.added + i - s.at) (list_length s.added)} {y = false}
      (le-ltb (s.at + list_length s.added + i - s.at) (list_length s.added) (omega arith))
      ∙ ap old {x = s.at + list_length s.added + i - list_length s.added + s.removed} {y = s.at + s.removed + i} (omega arith))

  pub picked_row : values_from (λ i. g (picked s i)) 0 (spliced_count s) ≡ spliced s.at s.removed (values_from (λ i. g (record { list = s.added; index = i })) 0 (list_length s.added)) (values_from (λ i. g (record { list = s.old; index = i })) 0 (list_length s.old))
  picked_row =
      ap (values_from (λ i. g (picked s i)) 0) {x = spliced_count s} {y = s.at + (list_length s.added + (list_length s.old - (s.at + s.removed)))} (omega (arith, within))
      ∙ (row_append (λ i. g (picked s i)) 0 s.at (list_length s.added + (list_length s.old - (s.at + s.removed)))
      ∙ ap₂ append_values first
      (row_append (λ i. g (picked s i)) (0 + s.at) (list_length s.added) (list_length s.old - (s.at + s.removed)) ∙ ap₂ append_values middle last))
    where
      first : values_from (λ i. g (picked s i)) 0 s.at ≡ first_values s.at (values_from old 0 (list_length s.old))
      first = same_row (λ i. g (picked s i)) old 0 0 s.at (λ i h. ap (λ k. g (picked s k)) {x = 0 + i} {y = i} (omega arith) ∙ (before i h ∙ ap old {x = i} {y = 0 + i} (omega arith))) ∙ sym (first_row old 0 s.at (list_length s.old) (omega (arith, within)))

      middle : values_from (λ i. g (picked s i)) (0 + s.at) (list_length s.added) ≡ values_from new 0 (list_length s.added)
      middle = same_row (λ i. g (picked s i)) new (0 + s.at) 0 (list_length s.added) (λ i h. ap (λ k. g (picked s k)) {x = 0 + s.at + i} {y = s.at + i} (omega arith) ∙ (between i h ∙ ap new {x = i} {y = 0 + i} (omega arith)))

      last : values_from (λ i. g (picked s i)) (0 + s.at + list_length s.added) (list_length s.old - (s.at + s.removed)) ≡ values_behind (s.at + s.removed) (values_from old 0 (list_length s.old))
      last =
          same_row (λ i. g (picked s i)) old (0 + s.at + list_length s.added) (0 + (s.at + s.removed)) (list_length s.old - (s.at + s.removed))
          (λ i h. ap (λ k. g (picked s k)) {x = 0 + s.at + list_length s.added + i} {y = s.at + list_length s.added + i} (omega arith) ∙ (behind i ∙ ap old {x = s.at + s.removed + i} {y = 0 + (s.at + s.removed) + i} (omega arith)))
          ∙ sym (row_behind old 0 (s.at + s.removed) (list_length s.old) within)

-- ---- lists under a type ----

abbrev seen_of : Schemas → SchemaType → Element → Value
seen_of set t e = seen_element set e.list t e.index

-- a list that is read as the type asks, and at each index has what stands where it comes from
record Carries (set : Schemas) (e : SchemaType) (s : Splice) (t : Tree) : Type 0 where
  reads_it : reads_list (element_size e) t ≡ true
  count : list_length t ≡ spliced_count s
  each : (i : ℕ) → i < spliced_count s → seen_element set t e i ≡ seen_of set e (picked s i)

-- is read as the spliced elements
carried : (set : Schemas) (e : SchemaType) (s : Splice) (t : Tree) (elements added : Values) → s.at + s.removed ≤ list_length s.old → Carries set e s t → ListRead set s.old e elements → ListRead set s.added e added
    → value_of set t Endless (ListType e) ≡ value.Elements (spliced s.at s.removed added elements)
carried set e s t elements added within c old new =
    list_from set t e c.reads_it
    ∙ ap value.Elements
    (ap (values_from (seen_element set t e) 0) c.count
    ∙ (values_from_same (seen_element set t e) (λ i. seen_of set e (picked s i)) 0 (spliced_count s) (λ i h. ap (seen_element set t e) {x = 0 + i} {y = i} (omega arith) ∙ (c.each i h ∙ ap (λ k. seen_of set e (picked s k)) {x = i} {y = 0 + i} (omega arith)))
    ∙ (picked_row (seen_of set e) s within
    ∙ ap₂ (spliced s.at s.removed) new.same old.same)))

-- the widths that numbers have
data Width (n : ℕ) : Type 0 where
  one : n ≡ 1 → Width n
  two : n ≡ 2 → Width n
  four : n ≡ 4 → Width n
  eight : n ≡ 8 → Width n

widths : (n : ℕ) → IsTrue (is_width n) → Width n
widths n h = go (n == 1) (n == 2) (n == 4) (n == 8) refl refl refl refl h
  where
    go : (a b c d : Bool) → (n == 1) ≡ a → (n == 2) ≡ b → (n == 4) ≡ c → (n == 8) ≡ d → IsTrue (a || b || c || d) → Width n
    go true b c d p q r t h = one (grind (arith, nat_tests))
    go false true c d p q r t h = two (grind (arith, nat_tests))
    go false false true d p q r t h = four (grind (arith, nat_tests))
    go false false false true p q r t h = eight (grind (arith, nat_tests))
    go false false false false p q r t h = absurd (grind (arith, nat_tests))

-- by numbers of a width
module _ (set : Schemas) (size : StructSize) (s : Splice) (h : IsSplice s) where
  int_carries : (bytes : ℕ) → IsTrue (is_width bytes) → reads_list (element_size (IntType bytes)) s.old ≡ true → reads_list (element_size (IntType bytes)) s.added ≡ true → Carries set (IntType bytes) s (spliced_list (element_size (IntType bytes)) size s)
  int_carries bytes w = elim (widths bytes w) [
    | one e ↦ subst (λ k. reads_list (element_size (IntType k)) s.old ≡ true → reads_list (element_size (IntType k)) s.added ≡ true → Carries set (IntType k) s (spliced_list (element_size (IntType k)) size s)) (sym e) (λ o a. let k = bytes_kept size s h o a in record { reads_it = k.reads; count = k.length; each = λ i b. ap (number_value (IntType 1)) (k.number i b) })
    | two e ↦ subst (λ k. reads_list (element_size (IntType k)) s.old ≡ true → reads_list (element_size (IntType k)) s.added ≡ true → Carries set (IntType k) s (spliced_list (element_size (IntType k)) size s)) (sym e) (λ o a. let k = twos_kept size s h o a in record { reads_it = k.reads; count = k.length; each = λ i b. ap (number_value (IntType 2)) (k.number i b) })
    | four e ↦ subst (λ k. reads_list (element_size (IntType k)) s.old ≡ true → reads_list (element_size (IntType k)) s.added ≡ true → Carries set (IntType k) s (spliced_list (element_size (IntType k)) size s)) (sym e) (λ o a. let k = fours_kept size s h o a in record { reads_it = k.reads; count = k.length; each = λ i b. ap (number_value (IntType 4)) (k.number i b) })
    | eight e ↦ subst (λ k. reads_list (element_size (IntType k)) s.old ≡ true → reads_list (element_size (IntType k)) s.added ≡ true → Carries set (IntType k) s (spliced_list (element_size (IntType k)) size s)) (sym e) (λ o a. let k = eights_kept size s h o a in record { reads_it = k.reads; count = k.length; each = λ i b. ap (number_value (IntType 8)) (k.number i b) })
  ]

  uint_carries : (bytes : ℕ) → IsTrue (is_width bytes) → reads_list (element_size (UIntType bytes)) s.old ≡ true → reads_list (element_size (UIntType bytes)) s.added ≡ true → Carries set (UIntType bytes) s (spliced_list (element_size (UIntType bytes)) size s)
  uint_carries bytes w = elim (widths bytes w) [
    | one e ↦ subst (λ k. reads_list (element_size (UIntType k)) s.old ≡ true → reads_list (element_size (UIntType k)) s.added ≡ true → Carries set (UIntType k) s (spliced_list (element_size (UIntType k)) size s)) (sym e) (λ o a. let k = bytes_kept size s h o a in record { reads_it = k.reads; count = k.length; each = λ i b. ap (number_value (UIntType 1)) (k.number i b) })
    | two e ↦ subst (λ k. reads_list (element_size (UIntType k)) s.old ≡ true → reads_list (element_size (UIntType k)) s.added ≡ true → Carries set (UIntType k) s (spliced_list (element_size (UIntType k)) size s)) (sym e) (λ o a. let k = twos_kept size s h o a in record { reads_it = k.reads; count = k.length; each = λ i b. ap (number_value (UIntType 2)) (k.number i b) })
    | four e ↦ subst (λ k. reads_list (element_size (UIntType k)) s.old ≡ true → reads_list (element_size (UIntType k)) s.added ≡ true → Carries set (UIntType k) s (spliced_list (element_size (UIntType k)) size s)) (sym e) (λ o a. let k = fours_kept size s h o a in record { reads_it = k.reads; count = k.length; each = λ i b. ap (number_value (UIntType 4)) (k.number i b) })
    | eight e ↦ subst (λ k. reads_list (element_size (UIntType k)) s.old ≡ true → reads_list (element_size (UIntType k)) s.added ≡ true → Carries set (UIntType k) s (spliced_list (element_size (UIntType k)) size s)) (sym e) (λ o a. let k = eights_kept size s h o a in record { reads_it = k.reads; count = k.length; each = λ i b. ap (number_value (UIntType 8)) (k.number i b) })
  ]

  carries : (e : SchemaType) → HasWidths e → reads_list (element_size e) s.old ≡ true → reads_list (element_size e) s.added ≡ true → Carries set e s (spliced_list (element_size e) size s)
  carries VoidType w o a = let k = voids_kept size s in record { reads_it = k.reads; count = k.length; each = λ i b. refl }
  carries BoolType w o a = let k = bits_kept size s o a in record { reads_it = k.reads; count = k.length; each = λ i b. ap value.Truth (k.bit i b) }
  carries (IntType bytes) w o a = int_carries bytes w o a
  carries (UIntType bytes) w o a = uint_carries bytes w o a
  carries (EnumType number) w o a = let k = twos_kept size s h o a in record { reads_it = k.reads; count = k.length; each = λ i b. ap (number_value (EnumType number)) (k.number i b) }
  carries TextType w o a = let k = pointers_kept size s h o a in record { reads_it = k.reads; count = k.length; each = λ i b. ap (λ t. value_of set t Endless TextType) (k.pointer i b) }
  carries DataType w o a = let k = pointers_kept size s h o a in record { reads_it = k.reads; count = k.length; each = λ i b. ap (λ t. value_of set t Endless DataType) (k.pointer i b) }
  carries (StructType b g) w o a = let k = structs_kept size s in record {
    reads_it = k.reads;
    count = k.length;
    each = λ i c. ap (λ (x : StructTree). value.Struct (reads set x b)) (k.struct i c) ∙ ap value.Struct (reads_extended set (spliced_size size s) (element_struct (picked s i).list (picked s i).index) b);
  }
  carries (ListType t) w o a = let k = pointers_kept size s h o a in record { reads_it = k.reads; count = k.length; each = λ i b. ap (λ x. value_of set x Endless (ListType t)) (k.pointer i b) }
  carries AnyPointerType w o a = let k = pointers_kept size s h o a in record { reads_it = k.reads; count = k.length; each = λ i b. ap (λ t. value_of set t Endless AnyPointerType) (k.pointer i b) }

pub spliced_values : SpliceLaw
spliced_values set e size s elements added w h old new =
    let o : ListRead set s.old e elements = list_read set s.old e elements old in
    let a : ListRead set s.added e added = list_read set s.added e added new in
    carried set e s (spliced_list (element_size e) size s) elements added h.within (carries set size s h e w o.reads_it a.reads_it) o a
