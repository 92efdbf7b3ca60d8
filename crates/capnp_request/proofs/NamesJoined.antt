-- Names piece by piece.
use Rattle.std.proofs.Common.{ℕ, zero, suc, ◌+◌, ◌-◌, ◌<◌, ◌≤◌, ◌≡◌, ◌==◌, ◌∙◌, arith, ap, refl, sym, subst, codes, Bool, true, false, List, [], ◌∷◌, ◌++◌, length, map, get_or, slice_get, drop, option_map, string_bytes, String, Some, None, Err, append_assoc, drop-cons, length-append}
use Rattle.std.proofs.lemmas.List.{append-nil}
use Rattle.std.proofs.lemmas.Option.{slice_get-map}
use Rattle.std.specs.Option.{unwrap_or}
use Rattle.capnp_device.specs.declared.error.ErrorKind.{ErrorKind}
use Rattle.capnp_device.specs.declared.error.ErrorKind.TheVariants.{NodeNotFound}
use Rattle.capnp_base.specs.Types.{base_variant}
use Rattle.capnp_base.specs.declared.introspect.BaseType.{BaseType}
use Rattle.capnp_base.specs.declared.introspect.BaseType.TheVariants as base
use Rattle.capnp_base.specs.declared.introspect.RawBrandedStructSchema.{RawBrandedStructSchema}
use Rattle.capnp_base.specs.declared.introspect.RawEnumSchema.{RawEnumSchema}
use Rattle.capnp_base.specs.declared.introspect.TypeVariant.TheVariants as variant
use Rattle.capnp_schema.specs.Schema.{Field, Node, seen_field, seen_node}
use Rattle.capnp_schema.specs.declared.record.FieldRecord.{FieldRecord}
use Rattle.capnp_schema.specs.declared.record.NodeRecord.{NodeRecord}
use Rattle.capnp_schema.specs.Types.{SchemaType, lists_of, seen_base, seen_variant}
use Rattle.capnp_request.specs.Steps.Bindings.{bounds, seen_bound}
use Rattle.capnp_request.specs.Names.{bindings_name, bound_name, dotted_name, finished_name, group_name, more_names, part_bindings, set_type_name}
use Rattle.capnp_request.specs.Steps.NamesMade.{IsTooLong, bound_name_at, repeated_piece, struct_names, texts}
use Rattle.capnp_request.specs.Work.{MarkedType}
use Rattle.capnp_request.specs.declared.entries.BoundScope.{BoundScope}

-- a name that begins with one that is too long is too long
pub longer : {kind : ErrorKind} {xs : List ℕ} (zs : List ℕ) → IsTooLong kind xs → length xs ≤ length zs → IsTooLong kind zs
longer zs h more = record { too_long = λ is. ((h.too_long is).0, omega (arith, (h.too_long is).1)) }

pub begun : {kind : ErrorKind} (xs ys : List ℕ) → IsTooLong kind xs → IsTooLong kind (xs ++ ys)
begun xs ys h = longer (xs ++ ys) h (simp length-append (omega arith))

pub begun_two : {kind : ErrorKind} (name xs ys : List ℕ) → IsTooLong kind (name ++ xs) → IsTooLong kind (name ++ (xs ++ ys))
begun_two name xs ys h = longer (name ++ (xs ++ ys)) h (simp length-append (omega arith))

-- a name in three pieces
module _ (name a b c whole : List ℕ) (is : whole ≡ (a ++ b) ++ c) where
  pieces : name ++ whole ≡ ((name ++ a) ++ b) ++ c
  pieces = ap (λ xs. name ++ xs) is ∙ simp append_assoc

  pub first_long : (kind : ErrorKind) → IsTooLong kind (name ++ a) → IsTooLong kind (name ++ whole)
  first_long kind h = subst (IsTooLong kind) (sym pieces) (begun ((name ++ a) ++ b) c (begun (name ++ a) b h))

  pub second_long : (kind : ErrorKind) (next : List ℕ) → next ≡ name ++ a → IsTooLong kind (next ++ b) → IsTooLong kind (name ++ whole)
  second_long kind next e h = subst (IsTooLong kind) (sym pieces) (begun ((name ++ a) ++ b) c (subst (λ xs. IsTooLong kind (xs ++ b)) e h))

  pub third_long : (kind : ErrorKind) (next last : List ℕ) → next ≡ name ++ a → last ≡ next ++ b → IsTooLong kind (last ++ c) → IsTooLong kind (name ++ whole)
  third_long kind next last e f h = subst (IsTooLong kind) (sym pieces) (subst (λ xs. IsTooLong kind (xs ++ c)) (f ∙ ap (λ xs. xs ++ b) e) h)

  pub joined : (next last end : List ℕ) → next ≡ name ++ a → last ≡ next ++ b → end ≡ last ++ c → end ≡ name ++ whole
  joined next last end e f g = g ∙ (ap (λ xs. xs ++ c) (f ∙ ap (λ xs. xs ++ b) e) ∙ sym pieces)

-- ---- types ----

repeated_end : (n : ℕ) (p : List ℕ) → repeated_piece n p ++ p ≡ p ++ repeated_piece n p
repeated_end zero p = sym (append-nil p)
repeated_end (suc n) p = append_assoc p (repeated_piece n p) p ∙ ap (λ xs. p ++ xs) (repeated_end n p)

wrapped : (l ls t rs r : List ℕ) → rs ++ r ≡ r ++ rs → (l ++ ((ls ++ t) ++ rs)) ++ r ≡ ((l ++ ls) ++ t) ++ (r ++ rs)
wrapped l ls t rs r e = simp append_assoc (ap (λ xs. l ++ (ls ++ (t ++ xs))) e)

pub lists_name : (structs enums : List (List ℕ)) (q : Bool) (n : ℕ) (t : SchemaType) →
    set_type_name structs enums q (lists_of n t) ≡ (repeated_piece n (codes "List(") ++ set_type_name structs enums q t) ++ repeated_piece n (codes ")")
lists_name structs enums q zero t = sym (append-nil (set_type_name structs enums q t))
lists_name structs enums q (suc n) t =
    ap (λ xs. (codes "List(" ++ xs) ++ codes ")") (lists_name structs enums q n t)
    ∙ wrapped (codes "List(") (repeated_piece n (codes "List(")) (set_type_name structs enums q t) (repeated_piece n (codes ")")) (codes ")") (repeated_end n (codes ")"))

pub variant_seen : (b : BaseType) → seen_variant (base_variant b) ≡ seen_base b
variant_seen base.Void = refl
variant_seen base.Bool = refl
variant_seen base.Int8 = refl
variant_seen base.Int16 = refl
variant_seen base.Int32 = refl
variant_seen base.Int64 = refl
variant_seen base.UInt8 = refl
variant_seen base.UInt16 = refl
variant_seen base.UInt32 = refl
variant_seen base.UInt64 = refl
variant_seen base.Text = refl
variant_seen base.«Data» = refl
variant_seen (base.Struct s) = refl
variant_seen base.AnyPointer = refl
variant_seen (base.Enum e) = refl

-- the name of a struct or enum, by the name of its number
pub struct_word : (structs enums : List (List ℕ)) (q : Bool) (b : BaseType) (s : RawBrandedStructSchema) (name : List ℕ) → variant.Struct s ≡ base_variant b → unwrap_or (slice_get structs s.number) [] ≡ name →
    set_type_name structs enums q (seen_base b) ≡ name
struct_word structs enums q b s name e h = ap (set_type_name structs enums q) (sym (variant_seen b) ∙ ap seen_variant (sym e)) ∙ h

pub enum_word : (structs enums : List (List ℕ)) (q : Bool) (b : BaseType) (s : RawEnumSchema) (name : List ℕ) → variant.Enum s ≡ base_variant b → unwrap_or (slice_get enums s.number) [] ≡ name →
    set_type_name structs enums q (seen_base b) ≡ name
enum_word structs enums q b s name e h = ap (set_type_name structs enums q) (sym (variant_seen b) ∙ ap seen_variant (sym e)) ∙ h

pub name_there : (nodes : List NodeRecord) (i : ℕ) (n : NodeRecord) → slice_get nodes i ≡ Some n → unwrap_or (slice_get (struct_names nodes) i) [] ≡ string_bytes n.display_name
name_there nodes i n e =
    ap (λ o. unwrap_or o []) (slice_get-map (λ (n : Node). n.display_name) (map seen_node nodes) i ∙ ap (option_map (λ (n : Node). n.display_name)) (slice_get-map seen_node nodes i ∙ ap (option_map seen_node) e))

pub name_missing : (nodes : List NodeRecord) (i : ℕ) → slice_get nodes i ≡ None → unwrap_or (slice_get (struct_names nodes) i) [] ≡ []
name_missing nodes i e =
    ap (λ o. unwrap_or o []) (slice_get-map (λ (n : Node). n.display_name) (map seen_node nodes) i ∙ ap (option_map (λ (n : Node). n.display_name)) (slice_get-map seen_node nodes i ∙ ap (option_map seen_node) e))

pub text_there : {A : Type 0} (names : List (String A)) (i : ℕ) (n : String A) → slice_get names i ≡ Some n → unwrap_or (slice_get (texts names) i) [] ≡ string_bytes n
text_there names i n e = ap (λ o. unwrap_or o []) (slice_get-map string_bytes names i ∙ ap (option_map string_bytes) e)

pub text_missing : {A : Type 0} (names : List (String A)) (i : ℕ) → slice_get names i ≡ None → unwrap_or (slice_get (texts names) i) [] ≡ []
text_missing names i e = ap (λ o. unwrap_or o []) (slice_get-map string_bytes names i ∙ ap (option_map string_bytes) e)

-- ---- bindings ----

more_at : (structs enums : List (List ℕ)) (ts : List MarkedType) (count : ℕ) →
    more_names structs enums ts (suc count) ≡ (codes ", " ++ bound_name_at structs enums ts 0) ++ more_names structs enums (drop 1 ts) count
more_at structs enums [] count = refl
more_at structs enums (t ∷ ts) count = refl

name_behind : (structs enums : List (List ℕ)) (ts : List MarkedType) (i : ℕ) → bound_name_at structs enums (drop i ts) 0 ≡ bound_name_at structs enums ts i
name_behind structs enums [] zero = refl
name_behind structs enums [] (suc i) = refl
name_behind structs enums (t ∷ ts) zero = refl
name_behind structs enums (t ∷ ts) (suc i) = name_behind structs enums ts i

pub drop_more : {A : Type 0} (xs : List A) (i : ℕ) → drop 1 (drop i xs) ≡ drop (i + 1) xs
drop_more [] zero = refl
drop_more [] (suc i) = let e : suc i + 1 ≡ suc (i + 1) = omega arith in ap (λ n. drop n []) (sym e)
drop_more (x ∷ xs) zero = refl
drop_more (x ∷ xs) (suc i) = let e : suc i + 1 ≡ suc (i + 1) = omega arith in drop_more xs i ∙ ap (λ n. drop n (x ∷ xs)) (sym e)

pub more_left : (structs enums : List (List ℕ)) (ts : List MarkedType) (i p : ℕ) → i < p →
    more_names structs enums (drop i ts) (p - i) ≡ (codes ", " ++ bound_name_at structs enums ts i) ++ more_names structs enums (drop (i + 1) ts) (p - (i + 1))
more_left structs enums ts i p h =
    let e : p - i ≡ suc (p - (i + 1)) = omega (arith, h) in
    ap (more_names structs enums (drop i ts)) e ∙ (more_at structs enums (drop i ts) (p - (i + 1))
    ∙ (ap (λ n. (codes ", " ++ n) ++ more_names structs enums (drop 1 (drop i ts)) (p - (i + 1))) (name_behind structs enums ts i)
    ∙ ap (λ us. (codes ", " ++ bound_name_at structs enums ts i) ++ more_names structs enums us (p - (i + 1))) (drop_more ts i)))

-- ---- parts ----

abbrev pub scope_by : Bool → List ℕ → List ℕ → List ℕ
scope_by true name rest = name ++ rest
scope_by false name rest = rest

pub part_left : (structs enums : List (List ℕ)) (bs : List BoundScope) (i : ℕ) (b : BoundScope) (dots k : ℕ) → i < length bs → b ≡ get_or bs i b →
    part_bindings structs enums (bounds (drop i bs)) dots k
    ≡ scope_by (dots - b.distance == k) (bindings_name structs enums (seen_bound b).types b.parameters) (part_bindings structs enums (bounds (drop (i + 1) bs)) dots k)
part_left structs enums bs i b dots k inside is =
    let e : suc i ≡ i + 1 = omega arith in
    ap (λ xs. part_bindings structs enums (bounds xs) dots k) (drop-cons bs i b inside ∙ (ap (λ x. x ∷ drop (suc i) bs) (sym is) ∙ ap (λ n. b ∷ drop n bs) e)) ∙ go (dots - b.distance == k)
  where
    go : (q : Bool) → (elim q as (λ _. List ℕ) [
      | true ↦ bindings_name structs enums (seen_bound b).types b.parameters ++ part_bindings structs enums (bounds (drop (i + 1) bs)) dots k
      | false ↦ part_bindings structs enums (bounds (drop (i + 1) bs)) dots k
    ]) ≡ scope_by q (bindings_name structs enums (seen_bound b).types b.parameters) (part_bindings structs enums (bounds (drop (i + 1) bs)) dots k)
    go true = refl
    go false = refl

-- a dotted name from byte i on
abbrev pub byte_by : Bool → ℕ → (bindings dotted plain : List ℕ) → List ℕ
byte_by true x bindings dotted plain = bindings ++ 46 ∷ dotted
byte_by false x bindings dotted plain = x ∷ plain

pub dotted_left : (structs enums : List (List ℕ)) (bs : List BoundScope) (dots k : ℕ) (xs : List ℕ) (i : ℕ) → i < length xs →
    bound_name structs enums (bounds bs) dots k (drop i xs)
    ≡ byte_by (get_or xs i 0 == 46) (get_or xs i 0) (part_bindings structs enums (bounds bs) dots k) (bound_name structs enums (bounds bs) dots (k + 1) (drop (i + 1) xs)) (bound_name structs enums (bounds bs) dots k (drop (i + 1) xs))
dotted_left structs enums bs dots k xs i inside =
    let e : suc i ≡ i + 1 = omega arith in
    ap (bound_name structs enums (bounds bs) dots k) (drop-cons xs i 0 inside ∙ ap (λ n. get_or xs i 0 ∷ drop n xs) e) ∙ go (get_or xs i 0 == 46)
  where
    go : (q : Bool) → (elim q as (λ _. List ℕ) [
      | true ↦ part_bindings structs enums (bounds bs) dots k ++ 46 ∷ bound_name structs enums (bounds bs) dots (k + 1) (drop (i + 1) xs)
      | false ↦ get_or xs i 0 ∷ bound_name structs enums (bounds bs) dots k (drop (i + 1) xs)
    ]) ≡ byte_by q (get_or xs i 0) (part_bindings structs enums (bounds bs) dots k) (bound_name structs enums (bounds bs) dots (k + 1) (drop (i + 1) xs)) (bound_name structs enums (bounds bs) dots k (drop (i + 1) xs))
    go true = refl
    go false = refl

-- ---- one step of each loop ----

module _ (structs enums : List (List ℕ)) (ts : List MarkedType) (i p : ℕ) (inside : i < p) (name whole : List ℕ) (left : name ++ more_names structs enums (drop i ts) (p - i) ≡ whole) where
  pub comma_long : (kind : ErrorKind) → IsTooLong kind (name ++ codes ", ") → IsTooLong kind whole
  comma_long kind h = subst (IsTooLong kind) left (first_long name (codes ", ") (bound_name_at structs enums ts i) (more_names structs enums (drop (i + 1) ts) (p - (i + 1))) _ (more_left structs enums ts i p inside) kind h)

  pub bound_long : (kind : ErrorKind) (next : List ℕ) → next ≡ name ++ codes ", " → IsTooLong kind (next ++ bound_name_at structs enums ts i) → IsTooLong kind whole
  bound_long kind next e h = subst (IsTooLong kind) left (second_long name (codes ", ") (bound_name_at structs enums ts i) (more_names structs enums (drop (i + 1) ts) (p - (i + 1))) _ (more_left structs enums ts i p inside) kind next e h)

  pub other_appended : (next last : List ℕ) → next ≡ name ++ codes ", " → last ≡ next ++ bound_name_at structs enums ts i → last ++ more_names structs enums (drop (i + 1) ts) (p - (i + 1)) ≡ whole
  other_appended next last e f = joined name (codes ", ") (bound_name_at structs enums ts i) (more_names structs enums (drop (i + 1) ts) (p - (i + 1))) _ (more_left structs enums ts i p inside) next last _ e f refl ∙ left

module _ (structs enums : List (List ℕ)) (bs : List BoundScope) (i : ℕ) (b : BoundScope) (dots k : ℕ) (inside : i < length bs) (is : b ≡ get_or bs i b) (name whole : List ℕ)
    (left : name ++ part_bindings structs enums (bounds (drop i bs)) dots k ≡ whole) where
  abbrev bindings : List ℕ
  bindings = bindings_name structs enums (seen_bound b).types b.parameters

  abbrev rest : List ℕ
  rest = part_bindings structs enums (bounds (drop (i + 1) bs)) dots k

  here : (q : Bool) → (dots - b.distance == k) ≡ q → name ++ scope_by q bindings rest ≡ whole
  here q e = ap (λ t. name ++ scope_by t bindings rest) (sym e) ∙ (ap (λ xs. name ++ xs) (sym (part_left structs enums bs i b dots k inside is)) ∙ left)

  pub scope_long : (kind : ErrorKind) → (dots - b.distance == k) ≡ true → IsTooLong kind (name ++ bindings) → IsTooLong kind whole
  scope_long kind e h = subst (IsTooLong kind) (here true e) (begun_two name bindings rest h)

module _ (structs enums : List (List ℕ)) (bs : List BoundScope) (dots k : ℕ) (xs : List ℕ) (i : ℕ) (inside : i < length xs) (name whole : List ℕ)
    (left : name ++ bound_name structs enums (bounds bs) dots k (drop i xs) ≡ whole) where
  abbrev part : List ℕ
  part = part_bindings structs enums (bounds bs) dots k

  abbrev behind : ℕ → List ℕ
  behind j = bound_name structs enums (bounds bs) dots j (drop (i + 1) xs)

  at : (q : Bool) → (get_or xs i 0 == 46) ≡ q → name ++ byte_by q (get_or xs i 0) part (behind (k + 1)) (behind k) ≡ whole
  at q e = ap (λ t. name ++ byte_by t (get_or xs i 0) part (behind (k + 1)) (behind k)) (sym e) ∙ (ap (λ ys. name ++ ys) (sym (dotted_left structs enums bs dots k xs i inside)) ∙ left)

  pub part_long : (kind : ErrorKind) → (get_or xs i 0 == 46) ≡ true → IsTooLong kind (name ++ part) → IsTooLong kind whole
  part_long kind e h = subst (IsTooLong kind) (at true e) (begun_two name part (46 ∷ behind (k + 1)) h)

  pub dot_appended : (next last : List ℕ) → (get_or xs i 0 == 46) ≡ true → next ≡ name ++ part → last ≡ next ++ 46 ∷ [] → last ++ behind (k + 1) ≡ whole
  dot_appended next last e f g =
      let join : ((name ++ part) ++ 46 ∷ []) ++ behind (k + 1) ≡ name ++ (part ++ 46 ∷ behind (k + 1)) = simp append_assoc in
      ap (λ ys. ys ++ behind (k + 1)) (g ∙ ap (λ ys. ys ++ 46 ∷ []) f) ∙ (join ∙ at true e)

  pub byte_appended : (last : List ℕ) → (get_or xs i 0 == 46) ≡ false → last ≡ name ++ get_or xs i 0 ∷ [] → last ++ behind k ≡ whole
  byte_appended last e g = ap (λ ys. ys ++ behind k) g ∙ (append_assoc name (get_or xs i 0 ∷ []) (behind k) ∙ at false e)

pub dot_pushed : (name next last : List ℕ) (x : ℕ) → name ≡ next → last ≡ name ++ x ∷ [] → x ≡ 46 → last ≡ next ++ 46 ∷ []
dot_pushed name next last x e f g = f ∙ (ap (λ ys. ys ++ x ∷ []) e ∙ ap (λ y. next ++ y ∷ []) g)

-- ---- fields ----

pub field_there : (fields : List FieldRecord) (i : ℕ) (f : FieldRecord) → slice_get fields i ≡ Some f → slice_get (map (λ (f : Field). f.name) (map seen_field fields)) i ≡ Some (string_bytes f.name)
field_there fields i f e = slice_get-map (λ (f : Field). f.name) (map seen_field fields) i ∙ ap (option_map (λ (f : Field). f.name)) (slice_get-map seen_field fields i ∙ ap (option_map seen_field) e)

pub field_missing : (fields : List FieldRecord) (i : ℕ) → slice_get fields i ≡ None → slice_get (map (λ (f : Field). f.name) (map seen_field fields)) i ≡ None
field_missing fields i e = slice_get-map (λ (f : Field). f.name) (map seen_field fields) i ∙ ap (option_map (λ (f : Field). f.name)) (slice_get-map seen_field fields i ∙ ap (option_map seen_field) e)

pub member_named : (p : NodeRecord) (i : ℕ) (f : FieldRecord) (parent field : List ℕ) → slice_get p.body.fields.items i ≡ Some f → parent ≡ string_bytes p.display_name → field ≡ string_bytes f.name →
    group_name (Some (seen_node p)) i ≡ finished_name (parent ++ 46 ∷ field)
member_named p i f parent field e g h =
    ap (dotted_name (string_bytes p.display_name)) (field_there p.body.fields.items i f e)
    ∙ (ap (λ xs. finished_name (xs ++ 46 ∷ string_bytes f.name)) (sym g) ∙ ap (λ xs. finished_name (parent ++ 46 ∷ xs)) (sym h))

pub member_missing : (p : NodeRecord) (i : ℕ) (kind : ErrorKind) → slice_get p.body.fields.items i ≡ None → kind ≡ NodeNotFound → group_name (Some (seen_node p)) i ≡ Err kind
member_missing p i kind e k = ap (dotted_name (string_bytes p.display_name)) (field_missing p.body.fields.items i e) ∙ ap (λ (x : ErrorKind). Err x) (sym k)
