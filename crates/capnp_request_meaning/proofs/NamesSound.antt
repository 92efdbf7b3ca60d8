-- Names of nodes in which nothing is a cause are not refused for it.
use Rattle.std.proofs.Common.{ℕ, zero, suc, ◌≡◌, ◌∙◌, drop, refl, subst, sym, nat_lt, Bool, true, false, List, [], ◌∷◌, ◌++◌, length, map, slice_get, Option, Some, None, Ok, Err}
use Rattle.std.proofs.lemmas.Bool.{true≢false}
use Rattle.std.proofs.lemmas.Str.{IsUtf8-append, IsUtf8-from_is_utf8, is_utf8-from_IsUtf8}
use Rattle.std.specs.Str.{IsUtf8, is_utf8}
use Rattle.capnp_device.specs.declared.error.ErrorKind.TheVariants.{NameNotUtf8, NodeNotFound, TooManyTypes}
use Rattle.capnp_schema.specs.Schema.{Field, Node}
use Rattle.capnp_request.specs.Names.{Holder, bound_name, dotted_name, dotted_of, enum_name, file_where, finished_name, group_name, is_taken, occurrences_of, struct_name}
use Rattle.capnp_request.specs.Order.{Begun, Made, and_said, begin_enum, begin_struct, enum_names, name_entry, node_there, said_where}
use Rattle.capnp_request.specs.Scopes.{node_named}
use Rattle.capnp_request.specs.Terms.{NodeKind, Said, SchemaNode}
use Rattle.capnp_request.specs.Types.{is_enum, is_of_kind, is_struct_kind}
use Rattle.capnp_request.specs.Work.{Entry, GroupOf, Place, Whole}
use Rattle.capnp_request_meaning.specs.Sound.{AnySaid, IsNodeSound, IsNodeOfKind, IsSaidSo, IsTextFor, Refusal}
use Rattle.capnp_request_meaning.proofs.NamesMeant.{IsEnumBegun, chained, enum_begun, said_same, there_some}
use Rattle.capnp_request_meaning.proofs.WorkSound.{IsOther}
use Rattle.capnp_request_meaning.proofs.TextsKept.{AreTexts, bound_text, dotted_text, group_text, where_text}
use Rattle.capnp_request_meaning.proofs.TypesSound.{AreNodesSound}

pub said_so : {A B : Type 0} (cause : Refusal) (d : Said A) (f : A → Said B) → IsSaidSo cause AnySaid d → ((a : A) → d ≡ Ok a → IsSaidSo cause AnySaid (f a)) → IsSaidSo cause AnySaid (and_said d f)
said_so cause (Ok a) f so h = h a refl
said_so cause (Err kind) f so h = so

where_so_said : {A : Type 0} (cause : Refusal) → IsOther cause → (q : Bool) (d : Said A) → IsSaidSo cause AnySaid d → IsSaidSo cause AnySaid (said_where q TooManyTypes d)
where_so_said cause other true d h = h
where_so_said cause other false d h = other

finished_said : (cause : Refusal) → IsOther cause → (name : List ℕ) → IsTextFor cause name → IsSaidSo cause AnySaid (finished_name name)
finished_said cause other name text = go (nat_lt 1024 (length name)) (is_utf8 name) refl
  where
    go : (q r : Bool) → is_utf8 name ≡ r → IsSaidSo {A = List ℕ} cause AnySaid (elim q as (λ _. Said (List ℕ)) [ true ↦ Err TooManyTypes | false ↦ elim r as (λ _. Said (List ℕ)) [ true ↦ Ok name | false ↦ Err NameNotUtf8 ] ])
    go true r is = other
    go false true is = tt
    go false false is = λ same. true≢false (sym (text same) ∙ is)

-- what holds of what is said
pub said_at : {A : Type 0} (cause : Refusal) (P : A → Type 0) (d : Said A) (a : A) → IsSaidSo cause P d → d ≡ Ok a → P a
said_at cause P (Ok x) a h e = let same : x ≡ a = cc in subst P same h
said_at cause P (Err kind) a h e = absurd (cc)

any_said : {A : Type 0} (cause : Refusal) (P : A → Type 0) (d : Said A) → IsSaidSo cause P d → IsSaidSo cause AnySaid d
any_said cause P (Ok x) h = tt
any_said cause P (Err kind) h = h

-- names are texts where that is asked
abbrev pub AreTextsFor : Refusal → List (List ℕ) → Type 0
AreTextsFor cause names = NameNotUtf8 ≡ cause.kind → AreTexts names

text_for : (cause : Refusal) (bytes : List ℕ) → (NameNotUtf8 ≡ cause.kind → IsUtf8 bytes) → IsTextFor cause bytes
text_for cause bytes h same = is_utf8-from_IsUtf8 bytes (h same)

dotted_for : (cause : Refusal) (display : List ℕ) → IsTextFor cause display → IsTextFor cause (dotted_of display)
dotted_for cause display h = text_for cause (dotted_of display) (λ same. dotted_text display (IsUtf8-from_is_utf8 display (h same)))

there_said : (cause : Refusal) (test : NodeKind → Bool) (o : Option SchemaNode) → (NodeNotFound ≡ cause.kind → is_of_kind test o ≡ true) → IsSaidSo cause AnySaid (node_there o)
there_said cause test None e = λ same. let f : false ≡ true = e same in cc
there_said cause test (Some n) e = tt

-- each of these ids is an enum's
abbrev pub AreEnumIds : Refusal → List SchemaNode → List ℕ → Type 0
AreEnumIds cause nodes [] = Unit {0}
AreEnumIds cause nodes (id ∷ ids) = IsNodeOfKind cause is_enum nodes id × AreEnumIds cause nodes ids

pub ids_more : (cause : Refusal) (nodes : List SchemaNode) (ids : List ℕ) (id : ℕ) → AreEnumIds cause nodes ids → IsNodeOfKind cause is_enum nodes id → AreEnumIds cause nodes (ids ++ id ∷ [])
ids_more cause nodes [] id h is = (is, tt)
ids_more cause nodes (x ∷ ids) id h is = (h.0, ids_more cause nodes ids id h.1 is)

pub id_at : (cause : Refusal) (nodes : List SchemaNode) (ids : List ℕ) (n id : ℕ) → AreEnumIds cause nodes ids → slice_get ids n ≡ Some id → IsNodeOfKind cause is_enum nodes id
id_at cause nodes [] n id h e = absurd (cc)
id_at cause nodes (x ∷ ids) zero id h e = let same : x ≡ id = cc in subst (IsNodeOfKind cause is_enum nodes) same h.0
id_at cause nodes (x ∷ ids) (suc n) id h e = id_at cause nodes ids n id h.1 e

ids_left : (cause : Refusal) (nodes : List SchemaNode) (k : ℕ) (ids : List ℕ) → AreEnumIds cause nodes ids → AreEnumIds cause nodes (drop k ids)
ids_left cause nodes zero ids h = h
ids_left cause nodes (suc k) [] h = tt
ids_left cause nodes (suc k) (x ∷ ids) h = ids_left cause nodes k ids h.1

-- the parent of a group is made and has the field
pub record IsFieldMade (made : List Node) (p i : ℕ) : Type 0 where
  pub parent : Node
  pub field : List ℕ
  pub parent_text : IsUtf8 parent.display_name
  pub field_text : IsUtf8 field
  pub numbered : slice_get made p ≡ Some parent
  pub member : slice_get (map (λ (f : Field). f.name) parent.fields) i ≡ Some field

abbrev pub IsReady : List Node → Place → Type 0
IsReady made Whole = Unit {0}
IsReady made (GroupOf p i) = IsFieldMade made p i

module _ (cause : Refusal) (other : IsOther cause) (nodes : List SchemaNode) (named : AreNodesSound cause nodes) where
  display_said : (id : ℕ) (n : SchemaNode) → node_there (node_named nodes id) ≡ Ok n → IsSaidSo cause (IsTextFor cause) n.display_name
  display_said id n e = let is : IsNodeSound cause nodes n = named id n (there_some (node_named nodes id) n e) in is.display_name

  pub enum_said : (id : ℕ) → IsNodeOfKind cause is_enum nodes id → IsSaidSo cause AnySaid (begin_enum nodes id)
  enum_said id is = said_so cause (node_there (node_named nodes id)) (λ n. and_said n.display_name (λ display. and_said (enum_name display) (λ name. Ok (name, n)))) (there_said cause is_enum (node_named nodes id) is)
      (λ n e. said_so cause n.display_name (λ display. and_said (enum_name display) (λ name. Ok (name, n))) (any_said cause (IsTextFor cause) n.display_name (display_said id n e))
      (λ display f. said_so cause (enum_name display) (λ name. Ok (name, n)) (finished_said cause other (dotted_of display) (dotted_for cause display (said_at cause (IsTextFor cause) n.display_name display (display_said id n e) f))) (λ name g. tt)))

  names_said : (ids : List ℕ) (before : List (List ℕ)) → AreEnumIds cause nodes ids → IsSaidSo cause AnySaid (enum_names nodes ids before)
  names_said [] before h = tt
  names_said (id ∷ ids) before h = said_so cause (begin_enum nodes id) (λ b. enum_names nodes ids (before ++ b.0 ∷ [])) (enum_said id h.0) (λ b e. names_said ids (before ++ b.0 ∷ []) h.1)

  -- the names of enums are texts
  names_text : (ids : List ℕ) (before names : List (List ℕ)) → enum_names nodes ids before ≡ Ok names → AreTexts before → AreTexts names
  names_text [] before names e h = subst AreTexts (said_same before names e) h
  names_text (id ∷ ids) before names e h =
      let one = chained (begin_enum nodes id) (λ b. enum_names nodes ids (before ++ b.0 ∷ [])) names e in
      let begun : IsEnumBegun nodes id one.value.0 one.value.1 = enum_begun nodes id one.value one.first in
      names_text ids (before ++ one.value.0 ∷ []) names one.rest (one_text before one.value.0 h (IsUtf8-from_is_utf8 one.value.0 begun.text))
    where
      one_text : (xss : List (List ℕ)) (xs : List ℕ) → AreTexts xss → IsUtf8 xs → AreTexts (xss ++ xs ∷ [])
      one_text [] xs h k = (k, tt)
      one_text (ys ∷ xss) xs h k = (h.0, one_text xss xs h.1 k)

  module _ (made : List Node) (enums : List (List ℕ)) (holders : List Holder) (e : Entry) where
    group_said : (p i : ℕ) → IsFieldMade made p i → IsSaidSo cause AnySaid (group_name (slice_get made p) i)
    group_said p i is =
        subst (λ o. IsSaidSo cause AnySaid (group_name o i)) (sym is.numbered)
        (subst (λ o. IsSaidSo cause AnySaid (dotted_name is.parent.display_name o)) (sym is.member)
        (finished_said cause other (is.parent.display_name ++ 46 ∷ is.field) (text_for cause (is.parent.display_name ++ 46 ∷ is.field) (λ same. group_text is.parent.display_name is.field is.parent_text is.field_text))))

    abbrev structs_made : List (List ℕ)
    structs_made = map (λ (n : Node). n.display_name) made

    module _ (struct_texts : AreTexts structs_made) (enum_texts : AreTextsFor cause enums) where
      struct_for : (display : List ℕ) → IsTextFor cause display → IsTextFor cause (file_where (is_taken holders e.node (dotted_of display)) display ++ bound_name structs_made enums e.bound (occurrences_of 46 (dotted_of display)) 0 (dotted_of display))
      struct_for display h = text_for cause (file_where (is_taken holders e.node (dotted_of display)) display ++ bound_name structs_made enums e.bound (occurrences_of 46 (dotted_of display)) 0 (dotted_of display)) (λ same.
          let text : IsUtf8 display = IsUtf8-from_is_utf8 display (h same) in
          IsUtf8-append (file_where (is_taken holders e.node (dotted_of display)) display) (bound_name structs_made enums e.bound (occurrences_of 46 (dotted_of display)) 0 (dotted_of display)) (where_text (is_taken holders e.node (dotted_of display)) display text)
          (bound_text structs_made enums struct_texts (enum_texts same) e.bound (occurrences_of 46 (dotted_of display)) 0 (dotted_of display) (dotted_text display text)))

      entry_said : (p : Place) → IsReady made p → IsNodeOfKind cause is_struct_kind nodes e.node → IsSaidSo cause AnySaid (name_entry nodes made enums holders e p)
      entry_said (GroupOf p i) ready is = said_so cause (group_name (slice_get made p) i) (λ name. Ok (name, holders)) (group_said p i ready) (λ name g. tt)
      entry_said Whole ready is =
          said_so cause (node_there (node_named nodes e.node)) (λ n. and_said n.display_name (λ display. and_said (struct_name structs_made enums holders e.node e.bound display) (λ name. Ok (name, record { id = e.node; dotted = dotted_of display } ∷ holders)))) (there_said cause is_struct_kind (node_named nodes e.node) is)
          (λ n f. said_so cause n.display_name (λ display. and_said (struct_name structs_made enums holders e.node e.bound display) (λ name. Ok (name, record { id = e.node; dotted = dotted_of display } ∷ holders))) (any_said cause (IsTextFor cause) n.display_name (display_said e.node n f))
          (λ display g. said_so cause (struct_name structs_made enums holders e.node e.bound display) (λ name. Ok (name, record { id = e.node; dotted = dotted_of display } ∷ holders))
          (finished_said cause other (file_where (is_taken holders e.node (dotted_of display)) display ++ bound_name structs_made enums e.bound (occurrences_of 46 (dotted_of display)) 0 (dotted_of display)) (struct_for display (said_at cause (IsTextFor cause) n.display_name display (display_said e.node n f) g))) (λ name h. tt)))

  module _ (m : Made) (e : Entry) where
    abbrev with_node : List (List ℕ) → List ℕ × List Holder → SchemaNode → Said Begun
    with_node names named_so n = Ok (record { enum_names = names; name = named_so.0; holders = named_so.1; node = n })

    abbrev with_name : List (List ℕ) → List ℕ × List Holder → Said Begun
    with_name names named_so = and_said (node_there (node_named nodes e.node)) (with_node names named_so)

    abbrev with_names : List (List ℕ) → Said Begun
    with_names names = and_said (name_entry nodes m.nodes names m.holders e e.place) (with_name names)

    pub begin_said : (ids : List ℕ) → AreTexts (map (λ (n : Node). n.display_name) m.nodes) → AreTextsFor cause m.enum_names → AreEnumIds cause nodes ids → IsNodeOfKind cause is_struct_kind nodes e.node → IsReady m.nodes e.place → IsSaidSo cause AnySaid (begin_struct nodes m e ids)
    begin_said ids structs enums all is ready =
        where_so_said cause other (nat_lt (length m.nodes) 4294967296) (and_said (enum_names nodes (drop (length m.enum_names) ids) m.enum_names) with_names)
        (said_so cause (enum_names nodes (drop (length m.enum_names) ids) m.enum_names) with_names (names_said (drop (length m.enum_names) ids) m.enum_names (ids_left cause nodes (length m.enum_names) ids all))
        (λ names f. said_so cause (name_entry nodes m.nodes names m.holders e e.place) (with_name names) (entry_said m.nodes names m.holders e structs (λ same. names_text (drop (length m.enum_names) ids) m.enum_names names f (enums same)) e.place ready is)
        (λ named_so g. said_so cause (node_there (node_named nodes e.node)) (with_node names named_so) (there_said cause is_struct_kind (node_named nodes e.node) is) (λ n h. tt))))
