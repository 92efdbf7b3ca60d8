-- What a list that is filled reads as, and what a list that is not is refused with.
use Rattle.std.proofs.Common.{ℕ, ◌*◌, ◌-◌, ◌^◌, ◌<◌, ◌≡◌, ◌⊎◌, refl, List, Bool, true, false, Some, None, Ok, Err, Result, IsOk, IsTrue, ap, arith, inl, inr, sym, subst, ◌∙◌}
use Rattle.std.proofs.lemmas.Bool.{true≢false}
use Rattle.capnp_device.specs.declared.error.ErrorKind.{ErrorKind}
use Rattle.capnp_device.specs.declared.error.ErrorKind.TheVariants.{SizePastFormat}
use Rattle.capnp_wire.specs.Defaults.{error_of, list_refusal}
use Rattle.capnp_wire.specs.Elements.{reads_list}
use Rattle.capnp_wire.specs.Facts.Room.{reads_list_as_list}
use Rattle.capnp_wire.specs.Reading.{as_list, is_null_tree, list_length}
use Rattle.capnp_wire.specs.StructLists.{grown_size, struct_list, struct_list_refusal}
use Rattle.capnp_wire.specs.Tree as tree
use Rattle.capnp_wire.specs.Tree.{Tree}
use Rattle.capnp_wire.specs.WellFormed.{IsWellFormed}
use Rattle.capnp_wire.specs.Words.{first_fault}
use Rattle.capnp_wire.specs.declared.size.ElementSize.TheVariants.{InlineComposite}
use Rattle.capnp_wire.specs.declared.size.StructSize.{StructSize}
use Rattle.capnp_schema.specs.Accepted.{words_root}
use Rattle.capnp_schema.specs.Schema.{ListValue, Schemas, Value as SchemaValue}
use Rattle.capnp_schema.specs.Types.{ListType, SchemaType, StructType, element_size}
use Rattle.capnp_records.specs.Facts.Refusals.{list_answered, list_refused, past_greatest}
use Rattle.capnp_records.specs.Facts.ListValues.{count_values_from, elements_seen, list_from}
use Rattle.capnp_records.specs.Facts.Readers.{null_is}
use Rattle.capnp_records.specs.Reading.{value_of}
use Rattle.capnp_records.specs.Record.{Endless}
use Rattle.capnp_records.specs.Step.{fault_of, filled_value, is_struct_list, size_of}
use Rattle.capnp_records.specs.Writes.Fill.{list_or_default}
use Rattle.capnp_schema.specs.Plan.{brand_size}
use Rattle.capnp_records.specs.Steps.Stand.{seen_element}
use Rattle.capnp_slots.specs.Fills.{fill_due}

some_none : {A : Type 0} {a : A} → Some a ≡ None → ⊥
some_none e = cc

none_some : {A : Type 0} {a : A} → None ≡ Some a → ⊥
none_some e = cc

same_kind : {k l : ErrorKind} → Some k ≡ Some l → k ≡ l
same_kind e = cc

-- what is no null is not filled
pub kept_default : (d : SchemaValue) (x : Tree) → is_null_tree x ≡ false → list_or_default d x ≡ x
kept_default (ListValue words) tree.Null h = absurd (true≢false h)
kept_default d x h = refl

-- ---- what is read ----

-- what nothing refuses as a list of structs can be read as one
structs_read : (set : Schemas) (size : StructSize) (x : Tree) (b g : ℕ) → struct_list_refusal size x ≡ None → first_fault x ≡ None → fault_of (value_of set x Endless (ListType (StructType b g))) ≡ None
structs_read set size tree.Null b g due whole = refl
structs_read set size (tree.Struct bytes ps) b g due whole = absurd (some_none due)
structs_read set size (tree.Voids n) b g due whole = refl
structs_read set size (tree.Bits bs) b g due whole = absurd (some_none due)
structs_read set size (tree.Numbers w bytes) b g due whole = refl
structs_read set size (tree.Pointers ps) b g due whole = refl
structs_read set size (tree.Composite d p es) b g due whole = refl
structs_read set size (tree.FaultLeaf k) b g due whole = absurd (some_none whole)

-- and the same of other elements
answered_list : (e : SchemaType) (x : Tree) → is_null_tree x ≡ false → (r : Result Tree ErrorKind) → as_list (element_size e) x 1 ≡ r → error_of r ≡ None → reads_list (element_size e) x ≡ true
answered_list e x there (Ok y) is due = reads_list_as_list (element_size e) x 1 y there is
answered_list e x there (Err kind) is due = absurd (some_none due)

pub plain_reads : (e : SchemaType) (x : Tree) → list_refusal (element_size e) x ≡ None → is_null_tree x ≡ false → reads_list (element_size e) x ≡ true
plain_reads e x due there = answered_list e x there (as_list (element_size e) x 1) refl due

elements_sound : (set : Schemas) (x : Tree) (e : SchemaType) → reads_list (element_size e) x ≡ true → fault_of (value_of set x Endless (ListType e)) ≡ None
elements_sound set x e reads = ap fault_of (list_from set x e reads)

plain_read : (set : Schemas) (x : Tree) (e : SchemaType) → list_refusal (element_size e) x ≡ None → fault_of (value_of set x Endless (ListType e)) ≡ None
plain_read set x e due = go (is_null_tree x) refl
  where
    go : (q : Bool) → is_null_tree x ≡ q → fault_of (value_of set x Endless (ListType e)) ≡ None
    go true h = subst (λ (y : Tree). fault_of (value_of set y Endless (ListType e)) ≡ None) (sym (null_is x h)) refl
    go false h = elements_sound set x e (plain_reads e x due h)

-- a list that is walked is no fault
pub list_read : (set : Schemas) (d : SchemaValue) (x : Tree) (e : SchemaType) → fill_due set d (ListType e) x ≡ None → first_fault x ≡ None → fault_of (value_of set x Endless (ListType e)) ≡ None
list_read set d x (StructType b g) due whole = go (is_null_tree x) refl
  where
    go : (q : Bool) → is_null_tree x ≡ q → fault_of (value_of set x Endless (ListType (StructType b g))) ≡ None
    go true h = subst (λ (y : Tree). fault_of (value_of set y Endless (ListType (StructType b g))) ≡ None) (sym (null_is x h)) refl
    go false h = structs_read set (brand_size set b) x b g (subst (λ (y : Tree). struct_list_refusal (brand_size set b) y ≡ None) (kept_default d x h) due) whole
list_read set d x e due whole = plain_read set x e due

-- ---- how it stands then ----

pub structs_stand : (size : StructSize) (x : Tree) → struct_list_refusal size x ≡ None → first_fault x ≡ None → is_null_tree (struct_list size x) ≡ false → reads_list InlineComposite (struct_list size x) ≡ true
structs_stand size tree.Null due whole there = absurd (true≢false there)
structs_stand size (tree.Struct bytes ps) due whole there = absurd (some_none due)
structs_stand size (tree.Voids n) due whole there = refl
structs_stand size (tree.Bits bs) due whole there = absurd (some_none due)
structs_stand size (tree.Numbers w bytes) due whole there = refl
structs_stand size (tree.Pointers ps) due whole there = refl
structs_stand size (tree.Composite d p es) due whole there = refl
structs_stand size (tree.FaultLeaf k) due whole there = absurd (some_none whole)

-- ---- what is refused ----

-- a list of structs that is past the format with the greatest sizes that there are
record IsPast (x : Tree) (kind : ErrorKind) : Type 0 where
  pub kind_is : kind ≡ SizePastFormat
  pub past : 2 ^ 29 - 1 < list_length x * 131070
  pub reads_it : reads_list InlineComposite x ≡ true

past_from : (x : Tree) (size : StructSize) (kind : ErrorKind) → (kind ≡ SizePastFormat) × (2 ^ 29 - 1 < list_length x * 131070) → reads_list InlineComposite x ≡ true → IsPast x kind
past_from x size kind h reads = record { kind_is = h.0; past = h.1; reads_it = reads }

structs_refused : (set : Schemas) (size : StructSize) (x : Tree) (b g : ℕ) (kind : ErrorKind) → size.data_words < 2 ^ 16 → size.pointers < 2 ^ 16 → IsWellFormed x → struct_list_refusal size x ≡ Some kind →
    (fault_of (value_of set x Endless (ListType (StructType b g))) ≡ Some kind) ⊎ IsPast x kind
structs_refused set size tree.Null b g kind a c h e = absurd (none_some e)
structs_refused set size (tree.Struct bytes ps) b g kind a c h e = inl e
structs_refused set size (tree.Voids n) b g kind a c h e = inr (past_from (tree.Voids n) size kind (past_greatest n (grown_size size (tree.Voids n)) kind (omega (arith, a)) (omega (arith, c)) e) refl)
structs_refused set size (tree.Bits bs) b g kind a c h e = inl e
structs_refused set size (tree.Numbers w bytes) b g kind a c h e = inr (past_from (tree.Numbers w bytes) size kind (past_greatest _ (grown_size size (tree.Numbers w bytes)) kind (omega (arith, a)) (omega (arith, c)) e) refl)
structs_refused set size (tree.Pointers ps) b g kind a c h e = inr (past_from (tree.Pointers ps) size kind (past_greatest _ (grown_size size (tree.Pointers ps)) kind (omega (arith, a)) (omega (arith, c)) e) refl)
structs_refused set size (tree.Composite d p es) b g kind a c h e = inr (past_from (tree.Composite d p es) size kind (past_greatest _ (grown_size size (tree.Composite d p es)) kind (omega (arith, a, h.0)) (omega (arith, c, h.1)) e) refl)
structs_refused set size (tree.FaultLeaf k) b g kind a c h e = absurd (none_some e)

-- a list that is read has as many elements as it is long
size_read : (set : Schemas) (x : Tree) (e : SchemaType) → reads_list (element_size e) x ≡ true → size_of (value_of set x Endless (ListType e)) ≡ list_length x
size_read set x e reads = ap size_of (list_from set x e reads) ∙ count_values_from (seen_element set x e) 0 (list_length x)

-- and is not filled
unfilled : (set : Schemas) (d : SchemaValue) (x : Tree) (e : SchemaType) → reads_list (element_size e) x ≡ true → filled_value set d (ListType e) (value_of set x Endless (ListType e)) ≡ value_of set x Endless (ListType e)
unfilled set d x e reads =
    ap (filled_value set d (ListType e)) (list_from set x e reads) ∙ (same d ∙ sym (list_from set x e reads))
  where
    same : (d : SchemaValue) → filled_value set d (ListType e) (elements_seen set x e) ≡ elements_seen set x e
    same (ListValue words) = refl
    same d = refl

-- the sizes of a list that may be refused for them
abbrev pub IsPastSize : Schemas → SchemaValue → SchemaType → Tree → ErrorKind → Type 0
IsPastSize set d e x kind = (kind ≡ SizePastFormat) × IsTrue (is_struct_list (ListType e)) × (2 ^ 29 - 1 < size_of (filled_value set d (ListType e) (value_of set x Endless (ListType e))) * 131070)

-- why a list is refused: it can't be read, or it can and is past the format
pub record IsUnreadable (set : Schemas) (e : SchemaType) (x : Tree) (kind : ErrorKind) : Type 0 where
  pub fault : fault_of (value_of set x Endless (ListType e)) ≡ Some kind

pub record IsTooLarge (set : Schemas) (d : SchemaValue) (e : SchemaType) (x : Tree) (kind : ErrorKind) : Type 0 where
  pub sound : fault_of (value_of set x Endless (ListType e)) ≡ None
  pub past : IsPastSize set d e x kind

larger : (m n : ℕ) → m ≡ n → 2 ^ 29 - 1 < n * 131070 → 2 ^ 29 - 1 < m * 131070
larger m n e h = subst (λ k. 2 ^ 29 - 1 < k * 131070) (sym e) h

module _ (set : Schemas) (b g : ℕ) (words_fit : (brand_size set b).data_words < 2 ^ 16) (pointers_fit : (brand_size set b).pointers < 2 ^ 16) where
  -- what stands there
  there_refused : (d : SchemaValue) (x : Tree) (kind : ErrorKind) → IsWellFormed x → struct_list_refusal (brand_size set b) x ≡ Some kind →
      IsUnreadable set (StructType b g) x kind ⊎ IsTooLarge set d (StructType b g) x kind
  there_refused d x kind formed due = go (structs_refused set (brand_size set b) x b g kind words_fit pointers_fit formed due)
    where
      go : (fault_of (value_of set x Endless (ListType (StructType b g))) ≡ Some kind) ⊎ IsPast x kind → IsUnreadable set (StructType b g) x kind ⊎ IsTooLarge set d (StructType b g) x kind
      go (inl fault) = inl (record { fault = fault })
      go (inr past) = inr (record {
        sound = elements_sound set x (StructType b g) past.reads_it;
        past = (past.kind_is, refl, larger _ (list_length x) (ap size_of (unfilled set d x (StructType b g) past.reads_it) ∙ size_read set x (StructType b g) past.reads_it) past.past);
      })

  -- a default in the place of a null
  null_refused : (d : SchemaValue) (kind : ErrorKind) → ((words : List ℕ) → d ≡ ListValue words → IsWellFormed (words_root words) × IsOk (as_list InlineComposite (words_root words) 1)) →
      struct_list_refusal (brand_size set b) (list_or_default d tree.Null) ≡ Some kind → IsTooLarge set d (StructType b g) tree.Null kind
  null_refused (ListValue words) kind of due = go (structs_refused set (brand_size set b) (words_root words) b g kind words_fit pointers_fit (of words refl).0 due)
    where
      never : (r : Result Tree ErrorKind) → as_list InlineComposite (words_root words) 1 ≡ r → IsOk r → is_null_tree (words_root words) ≡ false → fault_of (value_of set (words_root words) Endless (ListType (StructType b g))) ≡ None
      never (Ok y) is ok there = list_answered set (words_root words) y (StructType b g) there is
      never (Err k) is ok there = absurd (true≢false (sym ok))

      sound : (q : Bool) → is_null_tree (words_root words) ≡ q → fault_of (value_of set (words_root words) Endless (ListType (StructType b g))) ≡ None
      sound true h = subst (λ (y : Tree). fault_of (value_of set y Endless (ListType (StructType b g))) ≡ None) (sym (null_is (words_root words) h)) refl
      sound false h = never (as_list InlineComposite (words_root words) 1) refl (of words refl).1 h

      go : (fault_of (value_of set (words_root words) Endless (ListType (StructType b g))) ≡ Some kind) ⊎ IsPast (words_root words) kind → IsTooLarge set (ListValue words) (StructType b g) tree.Null kind
      go (inl fault) = absurd (none_some (sym (sound (is_null_tree (words_root words)) refl) ∙ fault))
      go (inr past) = record { sound = refl; past = (past.kind_is, refl, larger _ (list_length (words_root words)) (size_read set (words_root words) (StructType b g) past.reads_it) past.past) }
  null_refused d kind of due = absurd (none_some due)

-- what is not read as a list of a type
plain_unfilled : (set : Schemas) (x : Tree) (e : SchemaType) (kind : ErrorKind) → list_refusal (element_size e) x ≡ Some kind → IsUnreadable set e x kind
plain_unfilled set x e kind due = go (is_null_tree x) refl
  where
    same : (r : Result Tree ErrorKind) → as_list (element_size e) x 1 ≡ r → error_of r ≡ Some kind → is_null_tree x ≡ false → fault_of (value_of set x Endless (ListType e)) ≡ Some kind
    same (Ok y) is h there = absurd (none_some h)
    same (Err k) is h there = list_refused set x e kind there (is ∙ ap Err (same_kind h))

    go : (q : Bool) → is_null_tree x ≡ q → IsUnreadable set e x kind
    go true h = absurd (none_some (subst (λ (y : Tree). list_refusal (element_size e) y ≡ Some kind) (null_is x h) due))
    go false h = record { fault = same (as_list (element_size e) x 1) refl due h }

-- why a list is not filled: what stands there, or a default in the place of a null
pub list_unfilled : (set : Schemas) (d : SchemaValue) (x : Tree) (e : SchemaType) (kind : ErrorKind) →
    ((b : ℕ) → ((brand_size set b).data_words < 2 ^ 16) × ((brand_size set b).pointers < 2 ^ 16)) →
    ((words : List ℕ) → d ≡ ListValue words → IsWellFormed (words_root words) × IsOk (as_list (element_size e) (words_root words) 1)) →
    IsWellFormed x → fill_due set d (ListType e) x ≡ Some kind → IsUnreadable set e x kind ⊎ IsTooLarge set d e x kind
list_unfilled set d x (StructType b g) kind fits of formed due = go (is_null_tree x) refl
  where
    go : (q : Bool) → is_null_tree x ≡ q → IsUnreadable set (StructType b g) x kind ⊎ IsTooLarge set d (StructType b g) x kind
    go true h = inr (subst (λ (y : Tree). IsTooLarge set d (StructType b g) y kind) (sym (null_is x h))
        (null_refused set b g (fits b).0 (fits b).1 d kind of (subst (λ (y : Tree). struct_list_refusal (brand_size set b) (list_or_default d y) ≡ Some kind) (null_is x h) due)))
    go false h = there_refused set b g (fits b).0 (fits b).1 d x kind formed (subst (λ (y : Tree). struct_list_refusal (brand_size set b) y ≡ Some kind) (kept_default d x h) due)
list_unfilled set d x e kind fits of formed due = inl (plain_unfilled set x e kind due)
