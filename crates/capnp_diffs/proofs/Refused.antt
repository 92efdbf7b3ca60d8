-- A step that is refused has its cause in what it compares.
use Rattle.std.specs.Prelude.{IfErr, IsErrAnd}
use Rattle.std.proofs.Common.{ℕ, ◌+◌, ◌<◌, ◌≡◌, ◌∙◌, refl, [], Bool, true, false, ◌==◌, cond, None, Result, Ok, Err, inl, inr, ap, sym, subst}
use Rattle.std.proofs.lemmas.Bool.{eqb-true, true≢false}
use Rattle.capnp_device.specs.declared.error.ErrorKind.{ErrorKind}
use Rattle.capnp_device.specs.declared.error.ErrorKind.TheVariants.{CannotSetAnyPointerFieldToAPrimitiveValue, OutOfMemory, TooDeep}
use Rattle.capnp_wire.specs.Place.{struct_tree}
use Rattle.capnp_wire.specs.Reading.{as_struct, element_levels, element_pointer, element_struct, is_null_tree, list_length, with_level}
use Rattle.capnp_wire.specs.Tree as tree
use Rattle.capnp_wire.specs.Tree.{StructTree, Tree, nth_tree}
use Rattle.capnp_wire.specs.declared.size.ElementSize.{ElementSize}
use Rattle.capnp_schema.specs.Schema.{Schemas}
use Rattle.capnp_schema.specs.Types.{AnyPointerType, ListType, SchemaType, StructType, element_size, is_pointer, struct_brand}
use Rattle.capnp_diffs.specs.Changes.{row_changes}
use Rattle.capnp_diffs.specs.Refusals.{Compared, IsCompared, IsEntered, IsListEntered, IsRefusal, IsUncopied, IsUnread, Lists, NewPointer, Pair, Pointers, Structs, elements_of}
use Rattle.capnp_diffs.specs.Refusals as cause
use Rattle.capnp_diffs.specs.Steps.Refusing.{IsCutOff, IsPutRefusal, IsRefusedAt, IsRefusedWhere}

pub err_map : {T E : Type 0} {P Q : E → Type 0} (r : Result T E) → ((e : E) → P e → Q e) → IfErr r P → IfErr r Q
err_map (Ok x) f h = tt {0}
err_map (Err e) f h = f e h

pub err_and : {T E : Type 0} {P Q : E → Type 0} (r : Result T E) → IsErrAnd r Q → ((e : E) → Q e → P e) → IfErr r P
err_and (Ok x) h f = absurd h
err_and (Err e) h f = f e h

-- ---- memory ----

no_memory : (p : Pair) (k : ErrorKind) → k ≡ OutOfMemory → IsRefusal p k
no_memory p k e = subst (IsRefusal p) (sym e) cause.NoMemory

pub memory_where : (what : Compared) (k : ErrorKind) → k ≡ OutOfMemory → IsRefusedWhere what k
memory_where what k e p c at = no_memory p k e

pub memory_at : (set : Schemas) (c : ℕ) (what : Compared) (k : ErrorKind) → k ≡ OutOfMemory → IsRefusedAt set c what k
memory_at set c what k e p is at = no_memory p k e

-- ---- behind pointers ----

pub at_where : (set : Schemas) (c : ℕ) (what : Compared) (k : ErrorKind) → IsRefusedWhere what k → IsRefusedAt set c what k
at_where set c what k r p is at = r p c at

module _ (t : SchemaType) (x : Tree) (l : ℕ) (y : Tree) (m : ℕ) (k : ErrorKind) where
  pub old_unread : IsUnread t x l k → IsRefusedWhere (Pointers t x l y m) k
  old_unread unread p c at = cause.OldUnread c t x l y m at k unread

  pub new_unread : IsUnread t y m k → IsRefusedWhere (Pointers t x l y m) k
  new_unread unread p c at = cause.NewUnread c t x l y m at k unread

  -- under another name of the type
  pub layer_where : (s : SchemaType) → s ≡ t → IsRefusedWhere (Pointers s x l y m) k → IsRefusedWhere (Pointers t x l y m) k
  layer_where s is r p c at = r p c (subst (λ z. IsCompared p c (Pointers z x l y m)) (sym is) at)

  pub layer_at : (set z : Schemas) (c : ℕ) (s : SchemaType) → z ≡ set → s ≡ t → IsRefusedAt z c (Pointers s x l y m) k → IsRefusedAt set c (Pointers t x l y m) k
  layer_at set z c s is_set is r p at_set at = r p (at_set ∙ sym is_set) (subst (λ u. IsCompared p c (Pointers u x l y m)) (sym is) at)

pub member_unread : (t : SchemaType) (y : Tree) (m : ℕ) (k : ErrorKind) → IsUnread t y m k → IsRefusedWhere (NewPointer t y m) k
member_unread t y m k unread p c at = cause.MemberUnread c t y m at k unread

pub member_layer : (s t : SchemaType) (y : Tree) (m : ℕ) (k : ErrorKind) → s ≡ t → IsRefusedWhere (NewPointer s y m) k → IsRefusedWhere (NewPointer t y m) k
member_layer s t y m k is r p c at = r p c (subst (λ z. IsCompared p c (NewPointer z y m)) (sym is) at)

pub other_untyped : (x : Tree) (l : ℕ) (y : Tree) (m : ℕ) (k : ErrorKind) → k ≡ CannotSetAnyPointerFieldToAPrimitiveValue → (x ≡ y → ⊥) → is_null_tree y ≡ false → IsRefusedWhere (Pointers AnyPointerType x l y m) k
other_untyped x l y m k is differ there p c at = subst (IsRefusal p) (sym is) (cause.OtherUntyped c x l y m at differ there)

pub member_untyped : (y : Tree) (m : ℕ) (k : ErrorKind) → k ≡ CannotSetAnyPointerFieldToAPrimitiveValue → is_null_tree y ≡ false → IsRefusedWhere (NewPointer AnyPointerType y m) k
member_untyped y m k is there p c at = subst (IsRefusal p) (sym is) (cause.NewUntyped c y m at there)

-- ---- what is put whole ----

abbrev entered : StructTree → Result StructTree ErrorKind
entered s = Ok s

never_struct : {k : ErrorKind} {s : StructTree} → Err k ≡ entered s → ⊥
never_struct e = cc

same_struct : {s q : StructTree} → entered s ≡ entered q → s ≡ q
same_struct e = cc

entered_ok : (l : ℕ) (r : Result StructTree ErrorKind) (s : StructTree) → with_level l r ≡ Ok s → r ≡ Ok s
entered_ok l r s e = go (l == 0) e
  where
    go : (q : Bool) → cond q (Err TooDeep) r ≡ Ok s → r ≡ Ok s
    go true e = absurd (never_struct e)
    go false e = e

-- a struct that was entered stands at the pointer
entered_at : (x : Tree) (l : ℕ) (s : StructTree) → is_null_tree x ≡ false → as_struct x l ≡ Ok s → struct_tree s ≡ x
entered_at tree.Null l s there read = absurd (true≢false there)
entered_at (tree.Struct bytes ps) l s there read = ap struct_tree (sym (same_struct (entered_ok l _ s read)))
entered_at (tree.Voids v) l s there read = absurd (never_struct (entered_ok l _ s read))
entered_at (tree.Bits bs) l s there read = absurd (never_struct (entered_ok l _ s read))
entered_at (tree.Numbers w bytes) l s there read = absurd (never_struct (entered_ok l _ s read))
entered_at (tree.Pointers ps) l s there read = absurd (never_struct (entered_ok l _ s read))
entered_at (tree.Composite d c es) l s there read = absurd (never_struct (entered_ok l _ s read))
entered_at (tree.FaultLeaf f) l s there read = absurd (never_struct read)

module _ (set : Schemas) (c : ℕ) (x : Tree) (l : ℕ) (y : Tree) (m : ℕ) (k : ErrorKind) where
  module _ (b g : ℕ) where
    pub new_struct_refused : (s : StructTree) (n : ℕ) → is_null_tree x ≡ true → IsEntered y m s n → IsPutRefusal (struct_tree s) k → IsRefusedAt set c (Pointers (StructType b g) x l y m) k
    new_struct_refused s n null inside (inl e) p is at = no_memory p k e
    new_struct_refused s n null inside (inr u) p is at = cause.Uncopied c (StructType b g) x l y m at tt null k (subst (λ z. IsUncopied z k) (entered_at y m s inside.0 inside.1) u)

    pub inside_struct : (s : StructTree) (n : ℕ) (q : StructTree) (j : ℕ) → IsEntered x l s n → IsEntered y m q j → IsRefusedAt set c (Structs b s n q j) k → IsRefusedAt set c (Pointers (StructType b g) x l y m) k
    inside_struct s n q j in_old in_new r p is at = r p is (cause.Behind c b g x l y m at s n q j in_old in_new)

  module _ (e : SchemaType) where
    pub new_list_refused : is_null_tree x ≡ true → IsPutRefusal y k → IsRefusedAt set c (Pointers (ListType e) x l y m) k
    new_list_refused null (inl is_memory) p is at = no_memory p k is_memory
    new_list_refused null (inr u) p is at = cause.Uncopied c (ListType e) x l y m at tt null k u

    pub inside_list : (size : ElementSize) → size ≡ element_size e → (z : Tree) (n : ℕ) (w : Tree) (j : ℕ) → IsListEntered size x l z n → IsListEntered size y m w j → IsRefusedAt set c (Lists e z n w j) k → IsRefusedAt set c (Pointers (ListType e) x l y m) k
    inside_list size sized z n w j in_old in_new r p is at =
        r p is (cause.ListBehind c e x l y m at z n w j (subst (λ v. IsListEntered v x l z n) sized in_old) (subst (λ v. IsListEntered v y m w j) sized in_new))

-- what a member is put to that becomes active
module _ (y : Tree) (m : ℕ) (k : ErrorKind) where
  pub member_struct_refused : (b g : ℕ) (s : StructTree) → is_null_tree y ≡ false → as_struct y m ≡ Ok s → IsPutRefusal (struct_tree s) k → IsRefusedWhere (NewPointer (StructType b g) y m) k
  member_struct_refused b g s there read (inl e) p c at = no_memory p k e
  member_struct_refused b g s there read (inr u) p c at = cause.MemberUncopied c (StructType b g) y m at tt k (subst (λ z. IsUncopied z k) (entered_at y m s there read) u)

  pub member_list_refused : (e : SchemaType) → IsPutRefusal y k → IsRefusedWhere (NewPointer (ListType e) y m) k
  member_list_refused e (inl is_memory) p c at = no_memory p k is_memory
  member_list_refused e (inr u) p c at = cause.MemberUncopied c (ListType e) y m at tt k u

-- ---- lists ----

-- no level is left
pub record IsTooDeep (l : ℕ) (k : ErrorKind) : Type 0 where
  pub levels : l ≡ 0
  pub kind : k ≡ TooDeep

pub too_deep : (l : ℕ) (s : StructTree) (k : ErrorKind) → Err k ≡ with_level l (Ok s) → IsTooDeep l k
too_deep l s k e = go (l == 0) refl e
  where
    refused : ErrorKind → Result StructTree ErrorKind
    refused j = Err j

    same_kind : {j : ErrorKind} → refused k ≡ refused j → k ≡ j
    same_kind e = cc

    never : refused k ≡ Ok s → ⊥
    never e = cc

    go : (q : Bool) → (l == 0) ≡ q → refused k ≡ cond q (refused TooDeep) (Ok s) → IsTooDeep l k
    go true zero e = record { levels = eqb-true l 0 zero; kind = same_kind e }
    go false zero e = absurd (never e)

module _ (set : Schemas) (c : ℕ) (x : Tree) (l : ℕ) (y : Tree) (m : ℕ) (k : ErrorKind) where
  -- under another name of the elements' type
  pub list_layer : (z : Schemas) (s e : SchemaType) → z ≡ set → s ≡ e → IsRefusedAt z c (Lists s x l y m) k → IsRefusedAt set c (Lists e x l y m) k
  list_layer z s e is_set is r p at_set at = r p (at_set ∙ sym is_set) (subst (λ t. IsCompared p c (Lists t x l y m)) (sym is) at)

  -- put whole
  module _ (e : SchemaType) (w : Tree) (same : y ≡ w) where
    pub unlike_lengths : (list_length x ≡ list_length y → ⊥) → IsPutRefusal w k → IsRefusedAt set c (Lists e x l y m) k
    unlike_lengths differ (inl is_memory) p is at = no_memory p k is_memory
    unlike_lengths differ (inr u) p is at = cause.ListUncopied c e x l y m at (inl differ) k (subst (λ z. IsUncopied z k) (sym same) u)

    pub unlike_rows : struct_brand e ≡ None → (row_changes set e 0 (elements_of set e x) (elements_of set e y) ≡ [] → ⊥) → IsPutRefusal w k → IsRefusedAt set c (Lists e x l y m) k
    unlike_rows plain differ (inl is_memory) p is at = no_memory p k is_memory
    unlike_rows plain differ (inr u) p is at =
        cause.ListUncopied c e x l y m at
        (inr (plain, λ none. differ (subst (λ z. row_changes z e 0 (elements_of z e x) (elements_of z e y) ≡ []) is none))) k (subst (λ z. IsUncopied z k) (sym same) u)

  module _ (i : ℕ) (lengths : list_length x ≡ list_length y) (inside : i < list_length x) where
    -- structs
    module _ (b g : ℕ) where
      pub old_too_deep : Err k ≡ with_level l (Ok (element_struct x i)) → IsRefusedAt set c (Lists (StructType b g) x l y m) k
      old_too_deep e p is at =
          let deep = too_deep l (element_struct x i) k e in
          subst (IsRefusal p) (sym deep.kind) (cause.OldTooDeep c b g x y m (subst (λ n. IsCompared p c (Lists (StructType b g) x n y m)) deep.levels at) i lengths inside)

      pub new_too_deep : Err k ≡ with_level m (Ok (element_struct y i)) → IsRefusedAt set c (Lists (StructType b g) x l y m) k
      new_too_deep e p is at =
          let deep = too_deep m (element_struct y i) k e in
          subst (IsRefusal p) (sym deep.kind) (cause.NewTooDeep c b g x l y (subst (λ n. IsCompared p c (Lists (StructType b g) x l y n)) deep.levels at) i lengths inside)

      pub inside_element : (s : StructTree) (n : ℕ) (q : StructTree) (j : ℕ) → s ≡ element_struct x i → n + 1 ≡ l → q ≡ element_struct y i → j + 1 ≡ m → IsRefusedAt set c (Structs b s n q j) k → IsRefusedAt set c (Lists (StructType b g) x l y m) k
      inside_element s n q j is_s is_n is_q is_j r p is at =
          r p is (subst (λ u. IsCompared p c (Structs b u n q j)) (sym is_s) (subst (λ v. IsCompared p c (Structs b (element_struct x i) n v j)) (sym is_q) (cause.Element c b g x l y m at i n j lengths inside is_n is_j)))

    -- pointers
    module _ (e : SchemaType) where
      pub old_cut_off : IsCutOff x l i k → IsRefusedAt set c (Lists e x l y m) k
      old_cut_off (is_kind, cut) p is at = subst (IsRefusal p) (sym is_kind) (cause.OldPointerTooDeep c e x l y m at i lengths inside cut)

      pub new_cut_off : IsCutOff y m i k → IsRefusedAt set c (Lists e x l y m) k
      new_cut_off (is_kind, cut) p is at = subst (IsRefusal p) (sym is_kind) (cause.NewPointerTooDeep c e x l y m at i lengths inside cut)

      pub inside_pointer : is_pointer e ≡ true → struct_brand e ≡ None → (s : Tree) (n : ℕ) (q : Tree) (j : ℕ) → (s ≡ element_pointer x i l) × (n ≡ element_levels x l) → (q ≡ element_pointer y i m) × (j ≡ element_levels y m) →
          IsRefusedAt set c (Pointers e s n q j) k → IsRefusedAt set c (Lists e x l y m) k
      inside_pointer pointer plain s n q j in_old in_new r p is at =
          r p is
          (subst (λ u. IsCompared p c (Pointers e u n q j)) (sym in_old.0)
          (subst (λ u. IsCompared p c (Pointers e (element_pointer x i l) u q j)) (sym in_old.1)
          (subst (λ u. IsCompared p c (Pointers e (element_pointer x i l) (element_levels x l) u j)) (sym in_new.0)
          (subst (λ u. IsCompared p c (Pointers e (element_pointer x i l) (element_levels x l) (element_pointer y i m) u)) (sym in_new.1)
          (cause.PointerElement c e x l y m at i lengths inside pointer plain)))))
