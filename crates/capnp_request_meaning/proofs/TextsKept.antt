-- Names that are made of UTF-8 are UTF-8.
use Rattle.std.proofs.Common.{ℕ, zero, suc, ◌+◌, ◌-◌, ◌<◌, ◌≡◌, ◌∙◌, ◌==◌, ◌&&◌, ap, append_assoc, arith, codes, nat_lt, refl, subst, sym, Bool, true, false, List, [], ◌∷◌, ◌++◌, drop, get_or, length, slice_get}
use Rattle.std.proofs.lemmas.Bool.{and_parts, eqb-true, ltb-true}
use Rattle.std.proofs.lemmas.List.{append-nil, drop_at, get_or_at, length-append, take_at}
use Rattle.std.proofs.lemmas.Str.{IsCharBoundary-after_ascii, IsCharBoundary-before_ascii, IsUtf8-append, IsUtf8-drop, IsUtf8-from_ascii, IsUtf8-nil, IsUtf8-take}
use Rattle.std.specs.Option.{unwrap_or}
use Rattle.std.specs.Str.{IsAscii, IsUtf8}
use Rattle.capnp_schema.specs.Types.{SchemaType, AnyPointerType, BoolType, DataType, EnumType, IntType, ListType, StructType, TextType, UIntType, VoidType}
use Rattle.capnp_request.specs.Names.{bindings_name, bound_name, dotted_of, file_of, file_where, has_colon, more_names, occurrences_of, part_bindings, set_type_name, sizes, type_name, unsigned_name}
use Rattle.capnp_request.specs.Work.{Bound, MarkedType}

-- ---- ASCII ----

abbrev all_small : List ℕ → Bool
all_small [] = true
all_small (x ∷ xs) = nat_lt x 128 && all_small xs

small_at : (xs : List ℕ) → all_small xs ≡ true → IsAscii xs
small_at [] h i = omega arith
small_at (x ∷ xs) h zero = let parts = and_parts (nat_lt x 128) (all_small xs) h in ltb-true x 128 parts.0
small_at (x ∷ xs) h (suc i) = let parts = and_parts (nat_lt x 128) (all_small xs) h in small_at xs parts.1 i

ascii : (xs : List ℕ) → all_small xs ≡ true → IsUtf8 xs
ascii xs h = IsUtf8-from_ascii xs (small_at xs h)

-- ---- texts that are cut before and behind an ASCII byte ----

module _ (p xs : List ℕ) (x : ℕ) (small : x < 128) (text : IsUtf8 (p ++ x ∷ xs)) where
  inside : length p < length (p ++ x ∷ xs)
  inside = let e : length (p ++ x ∷ xs) ≡ length p + suc (length xs) = length-append p (x ∷ xs) in omega (arith, e)

  at_byte : get_or (p ++ x ∷ xs) (length p) 0 < 128
  at_byte = subst (λ b. b < 128) (sym (get_or_at p x xs 0 (length p) refl)) small

  before_byte : IsUtf8 p
  before_byte = subst IsUtf8 (take_at p (x ∷ xs) (length p) refl) (IsUtf8-take (p ++ x ∷ xs) (length p) text (IsCharBoundary-before_ascii (p ++ x ∷ xs) (length p) inside at_byte))

  behind_byte : IsUtf8 xs
  behind_byte =
      let rest : drop (length p + 1) ((p ++ x ∷ []) ++ xs) ≡ xs = drop_at (p ++ x ∷ []) xs (length p + 1) (length-append p (x ∷ [])) in
      subst IsUtf8 (ap (λ ys. drop (length p + 1) ys) (sym (append_assoc p (x ∷ []) xs)) ∙ rest) (IsUtf8-drop (p ++ x ∷ xs) (length p + 1) text (IsCharBoundary-after_ascii (p ++ x ∷ xs) (length p) text inside at_byte))

-- ---- what stands before and behind the last colon ----

colon_first : (x : ℕ) (xs : List ℕ) → has_colon (x ∷ xs) ≡ true → has_colon xs ≡ false → x ≡ 58
colon_first x xs h none = go (x == 58) refl h
  where
    go : (q : Bool) → (x == 58) ≡ q → nat_lt 0 (elim q as (λ _. ℕ) [ true ↦ suc (occurrences_of 58 xs) | false ↦ occurrences_of 58 xs ]) ≡ true → x ≡ 58
    go true e k = eqb-true x 58 e
    go false e k = absurd (cc)

none_dotted : (xs : List ℕ) → has_colon xs ≡ false → dotted_of xs ≡ xs
none_dotted [] h = refl
none_dotted (x ∷ xs) h = ap (λ q. elim q as (λ _. List ℕ) [ true ↦ dotted_of xs | false ↦ x ∷ xs ]) h

none_filed : (xs : List ℕ) → has_colon xs ≡ false → file_of xs ≡ []
none_filed [] h = refl
none_filed (x ∷ xs) h = ap (λ q. elim q as (λ _. List ℕ) [ true ↦ x ∷ file_of xs | false ↦ [] ]) h

next_part : (p xs : List ℕ) (x : ℕ) → IsUtf8 (p ++ x ∷ xs) → IsUtf8 ((p ++ x ∷ []) ++ xs)
next_part p xs x h = subst IsUtf8 (sym (append_assoc p (x ∷ []) xs)) h

dotted_behind : (xs p : List ℕ) → IsUtf8 (p ++ xs) → has_colon xs ≡ true → IsUtf8 (dotted_of xs)
dotted_behind [] p h colon = IsUtf8-nil
dotted_behind (x ∷ xs) p h colon = subst IsUtf8 (sym (ap (λ q. elim q as (λ _. List ℕ) [ true ↦ dotted_of xs | false ↦ x ∷ xs ]) colon)) (go (has_colon xs) refl (dotted_behind xs (p ++ x ∷ []) (next_part p xs x h)))
  where
    go : (q : Bool) → has_colon xs ≡ q → (has_colon xs ≡ true → IsUtf8 (dotted_of xs)) → IsUtf8 (dotted_of xs)
    go true e later = later e
    go false e later =
        let first : x ≡ 58 = colon_first x xs colon e in
        let small : x < 128 = omega (arith, first) in
        subst IsUtf8 (sym (none_dotted xs e)) (behind_byte p xs x small h)

pub dotted_text : (xs : List ℕ) → IsUtf8 xs → IsUtf8 (dotted_of xs)
dotted_text xs h = go (has_colon xs) refl
  where
    go : (q : Bool) → has_colon xs ≡ q → IsUtf8 (dotted_of xs)
    go true e = dotted_behind xs [] h e
    go false e = subst IsUtf8 (sym (none_dotted xs e)) h

file_before : (xs p : List ℕ) → IsUtf8 (p ++ xs) → has_colon xs ≡ true → IsUtf8 (p ++ file_of xs)
file_before [] p h colon = h
file_before (x ∷ xs) p h colon =
    subst (λ ys. IsUtf8 (p ++ ys)) (sym (ap (λ q. elim q as (λ _. List ℕ) [ true ↦ x ∷ file_of xs | false ↦ [] ]) colon)) (subst IsUtf8 (append_assoc p (x ∷ []) (file_of xs)) (go (has_colon xs) refl (file_before xs (p ++ x ∷ []) (next_part p xs x h))))
  where
    go : (q : Bool) → has_colon xs ≡ q → (has_colon xs ≡ true → IsUtf8 ((p ++ x ∷ []) ++ file_of xs)) → IsUtf8 ((p ++ x ∷ []) ++ file_of xs)
    go true e later = later e
    go false e later =
        let first : x ≡ 58 = colon_first x xs colon e in
        let small : x < 128 = omega (arith, first) in
        let before : IsUtf8 p = before_byte p xs x small h in
        let with_colon : IsUtf8 (p ++ x ∷ []) = subst (λ y. IsUtf8 (p ++ y ∷ [])) (sym first) (IsUtf8-append p (58 ∷ []) before (ascii (58 ∷ []) refl)) in
        subst IsUtf8 (sym (ap (λ ys. (p ++ x ∷ []) ++ ys) (none_filed xs e) ∙ append-nil (p ++ x ∷ []))) with_colon

file_text : (xs : List ℕ) → IsUtf8 xs → IsUtf8 (file_of xs)
file_text xs h = go (has_colon xs) refl
  where
    go : (q : Bool) → has_colon xs ≡ q → IsUtf8 (file_of xs)
    go true e = file_before xs [] h e
    go false e = subst IsUtf8 (sym (none_filed xs e)) IsUtf8-nil

pub where_text : (q : Bool) (xs : List ℕ) → IsUtf8 xs → IsUtf8 (file_where q xs)
where_text true xs h = file_text xs h
where_text false xs h = IsUtf8-nil

-- ---- types and bindings by name ----

abbrev pub AreTexts : List (List ℕ) → Type 0
AreTexts [] = Unit {0}
AreTexts (xs ∷ xss) = IsUtf8 xs × AreTexts xss

named_text : (names : List (List ℕ)) (i : ℕ) → AreTexts names → IsUtf8 (unwrap_or (slice_get names i) [])
named_text [] i h = IsUtf8-nil
named_text (x ∷ names) zero h = h.0
named_text (x ∷ names) (suc i) h = named_text names i h.1

sizes_text : (one two four eight : List ℕ) (bytes : ℕ) → IsUtf8 one → IsUtf8 two → IsUtf8 four → IsUtf8 eight → IsUtf8 (sizes one two four eight bytes)
sizes_text one two four eight bytes a b c d = go (bytes == 1) (bytes == 2) (bytes == 4)
  where
    go : (p q r : Bool) → IsUtf8 (elim p as (λ _. List ℕ) [ true ↦ one | false ↦ elim q as (λ _. List ℕ) [ true ↦ two | false ↦ elim r as (λ _. List ℕ) [ true ↦ four | false ↦ eight ] ] ])
    go true q r = a
    go false true r = b
    go false false true = c
    go false false false = d

unsigned_text : (q : Bool) (bytes : ℕ) → IsUtf8 (unsigned_name q bytes)
unsigned_text true bytes = sizes_text (codes "UInt8") (codes "UInt16") (codes "Float32") (codes "Float64") bytes (ascii (codes "UInt8") refl) (ascii (codes "UInt16") refl) (ascii (codes "Float32") refl) (ascii (codes "Float64") refl)
unsigned_text false bytes = sizes_text (codes "UInt8") (codes "UInt16") (codes "UInt32") (codes "UInt64") bytes (ascii (codes "UInt8") refl) (ascii (codes "UInt16") refl) (ascii (codes "UInt32") refl) (ascii (codes "UInt64") refl)

module _ (structs enums : List (List ℕ)) (struct_texts : AreTexts structs) (enum_texts : AreTexts enums) where
  set_type_text : (q : Bool) (t : SchemaType) → IsUtf8 (set_type_name structs enums q t)
  set_type_text q VoidType = ascii (codes "Void") refl
  set_type_text q BoolType = ascii (codes "Bool") refl
  set_type_text q (IntType bytes) = sizes_text (codes "Int8") (codes "Int16") (codes "Int32") (codes "Int64") bytes (ascii (codes "Int8") refl) (ascii (codes "Int16") refl) (ascii (codes "Int32") refl) (ascii (codes "Int64") refl)
  set_type_text q (UIntType bytes) = unsigned_text q bytes
  set_type_text q (EnumType number) = named_text enums number enum_texts
  set_type_text q TextType = ascii (codes "Text") refl
  set_type_text q DataType = ascii (codes "Data") refl
  set_type_text q (StructType number generic) = named_text structs number struct_texts
  set_type_text q (ListType element) =
      IsUtf8-append (codes "List(" ++ set_type_name structs enums q element) (codes ")") (IsUtf8-append (codes "List(") (set_type_name structs enums q element) (ascii (codes "List(") refl) (set_type_text q element)) (ascii (codes ")") refl)
  set_type_text q AnyPointerType = ascii (codes "AnyPointer") refl

  type_text : (t : MarkedType) → IsUtf8 (type_name structs enums t)
  type_text t = set_type_text t.is_float t.type

  more_text : (ts : List MarkedType) (count : ℕ) → IsUtf8 (more_names structs enums ts count)
  more_text [] zero = IsUtf8-nil
  more_text (t ∷ ts) zero = IsUtf8-nil
  more_text [] (suc count) = IsUtf8-append (codes ", AnyPointer") (more_names structs enums [] count) (ascii (codes ", AnyPointer") refl) (more_text [] count)
  more_text (t ∷ ts) (suc count) =
      IsUtf8-append (codes ", " ++ type_name structs enums t) (more_names structs enums ts count) (IsUtf8-append (codes ", ") (type_name structs enums t) (ascii (codes ", ") refl) (type_text t)) (more_text ts count)

  bindings_text : (ts : List MarkedType) (count : ℕ) → IsUtf8 (bindings_name structs enums ts count)
  bindings_text [] count = IsUtf8-nil
  bindings_text (t ∷ ts) count =
      let first : IsUtf8 (codes "(" ++ type_name structs enums t) = IsUtf8-append (codes "(") (type_name structs enums t) (ascii (codes "(") refl) (type_text t) in
      let all : IsUtf8 (codes "(" ++ type_name structs enums t ++ more_names structs enums ts (count - 1)) = IsUtf8-append (codes "(" ++ type_name structs enums t) (more_names structs enums ts (count - 1)) first (more_text ts (count - 1)) in
      IsUtf8-append (codes "(" ++ type_name structs enums t ++ more_names structs enums ts (count - 1)) (codes ")") all (ascii (codes ")") refl)

  part_text : (bs : List Bound) (dots k : ℕ) → IsUtf8 (part_bindings structs enums bs dots k)
  part_text [] dots k = IsUtf8-nil
  part_text (b ∷ bs) dots k = go (dots - b.distance == k) (part_text bs dots k)
    where
      go : (q : Bool) → IsUtf8 (part_bindings structs enums bs dots k) → IsUtf8 (elim q as (λ _. List ℕ) [ true ↦ bindings_name structs enums b.types b.parameters ++ part_bindings structs enums bs dots k | false ↦ part_bindings structs enums bs dots k ])
      go true h = IsUtf8-append (bindings_name structs enums b.types b.parameters) (part_bindings structs enums bs dots k) (bindings_text b.types b.parameters) h
      go false h = h

  -- behind what was gone over, whose last character may not be whole yet
  bound_behind : (bs : List Bound) (dots k : ℕ) (p xs : List ℕ) → IsUtf8 (p ++ xs) → IsUtf8 (p ++ bound_name structs enums bs dots k xs)
  bound_behind bs dots k p [] h = IsUtf8-append p (part_bindings structs enums bs dots k) (subst IsUtf8 (append-nil p) h) (part_text bs dots k)
  bound_behind bs dots k p (x ∷ xs) h = go (x == 46) refl (λ t. bound_behind bs dots (k + 1) (46 ∷ []) xs t) (bound_behind bs dots k (p ++ x ∷ []) xs (next_part p xs x h))
    where
      go : (q : Bool) → (x == 46) ≡ q → (IsUtf8 (46 ∷ xs) → IsUtf8 (46 ∷ bound_name structs enums bs dots (k + 1) xs)) → IsUtf8 ((p ++ x ∷ []) ++ bound_name structs enums bs dots k xs)
          → IsUtf8 (p ++ (elim q as (λ _. List ℕ) [ true ↦ part_bindings structs enums bs dots k ++ 46 ∷ bound_name structs enums bs dots (k + 1) xs | false ↦ x ∷ bound_name structs enums bs dots k xs ]))
      go true e next same =
          let dot : x ≡ 46 = eqb-true x 46 e in
          let small : x < 128 = omega (arith, dot) in
          let before : IsUtf8 p = before_byte p xs x small h in
          let behind : IsUtf8 xs = behind_byte p xs x small h in
          let rest : IsUtf8 (46 ∷ bound_name structs enums bs dots (k + 1) xs) = next (IsUtf8-append (46 ∷ []) xs (ascii (46 ∷ []) refl) behind) in
          IsUtf8-append p (part_bindings structs enums bs dots k ++ 46 ∷ bound_name structs enums bs dots (k + 1) xs) before (IsUtf8-append (part_bindings structs enums bs dots k) (46 ∷ bound_name structs enums bs dots (k + 1) xs) (part_text bs dots k) rest)
      go false e next same = subst IsUtf8 (append_assoc p (x ∷ []) (bound_name structs enums bs dots k xs)) same

  pub bound_text : (bs : List Bound) (dots k : ℕ) (xs : List ℕ) → IsUtf8 xs → IsUtf8 (bound_name structs enums bs dots k xs)
  bound_text bs dots k xs h = bound_behind bs dots k [] xs h

-- a parent's name, a dot and a field's
pub group_text : (parent field : List ℕ) → IsUtf8 parent → IsUtf8 field → IsUtf8 (parent ++ 46 ∷ field)
group_text parent field h k = IsUtf8-append parent (46 ∷ field) h (IsUtf8-append (46 ∷ []) field (ascii (46 ∷ []) refl) k)
