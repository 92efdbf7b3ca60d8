-- What the code makes, step by step, is what the definition makes.
use Rattle.std.proofs.Common.{ℕ, zero, suc, ◌+◌, ◌<◌, ◌≤◌, ◌≡◌, ◌∙◌, arith, ap, drop, length, map, refl, slice_get, sym, Bool, List, [], ◌∷◌, ◌++◌, Option, Some, None, Result, Ok, Err}
use Rattle.std.proofs.lemmas.Bool.{le-ltb, lt-ltb}
use Rattle.capnp_device.specs.declared.error.ErrorKind.{ErrorKind}
use Rattle.capnp_device.specs.declared.error.ErrorKind.TheVariants.{NodeNotFound, TooManyTypes}
use Rattle.capnp_schema.specs.Schema.{Brand, Enum, Node}
use Rattle.capnp_request.specs.Conversion.{Note}
use Rattle.capnp_request.specs.Names.{Holder, dotted_of, enum_name, struct_name}
use Rattle.capnp_request.specs.Order.{Begun, Made, add_struct, and_said, begin_enum, begin_struct, conversion_of, enum_made, enum_names, make_all, make_enum, make_next, make_struct, name_entry, name_files, node_there, nothing_made, nothing_named, result_of, said_where}
use Rattle.capnp_request.specs.Reading.{request_with}
use Rattle.capnp_request.specs.Scopes.{node_named}
use Rattle.capnp_request.specs.Terms.{Said, SchemaNode}
use Rattle.capnp_request.specs.Within.{make_step}
use Rattle.capnp_request.specs.Work.{Entry, Named, Whole, Work, work_of, work_said, ◌>>=◌, work_continued}
use Rattle.capnp_request.proofs.Works.{then_err, then_ok}

-- ---- the names of enums ----

module _ (nodes : List SchemaNode) (id : ℕ) where
  abbrev by_name : SchemaNode → List ℕ → Said (List ℕ × SchemaNode)
  by_name n display = and_said (enum_name display) (λ name. Ok (name, n))

  abbrev by_node : SchemaNode → Said (List ℕ × SchemaNode)
  by_node n = and_said n.display_name (by_name n)

  pub enum_missing : (kind : ErrorKind) → node_named nodes id ≡ None → kind ≡ NodeNotFound → begin_enum nodes id ≡ Err kind
  enum_missing kind e k = ap (λ o. and_said (node_there o) by_node) e ∙ ap (λ (x : ErrorKind). Err x) (sym k)

  module _ (n : SchemaNode) (found : node_named nodes id ≡ Some n) where
    opened : begin_enum nodes id ≡ by_node n
    opened = ap (λ o. and_said (node_there o) by_node) found

    pub enum_unread : (kind : ErrorKind) → n.display_name ≡ Err kind → begin_enum nodes id ≡ Err kind
    enum_unread kind e = opened ∙ ap (λ r. and_said r (by_name n)) e

    module _ (display : List ℕ) (read : n.display_name ≡ Ok display) where
      pub enum_unnamed : (kind : ErrorKind) → enum_name display ≡ Err kind → begin_enum nodes id ≡ Err kind
      enum_unnamed kind e = opened ∙ (ap (λ r. and_said r (by_name n)) read ∙ ap (λ r. and_said r (λ name. Ok (name, n))) e)

      pub enum_begun : (name : List ℕ) → enum_name display ≡ Ok name → begin_enum nodes id ≡ Ok (name, n)
      enum_begun name e = opened ∙ (ap (λ r. and_said r (by_name n)) read ∙ ap (λ r. and_said r (λ name. Ok (name, n))) e)

same_some : {A : Type 0} {x y : A} → Some x ≡ Some y → x ≡ y
same_some e = cc

pub drop_at : {A : Type 0} (xs : List A) (i : ℕ) (x : A) → slice_get xs i ≡ Some x → drop i xs ≡ x ∷ drop (i + 1) xs
drop_at [] i x e = cc
drop_at (y ∷ xs) zero x e = ap (λ z. z ∷ xs) (same_some e)
drop_at (y ∷ xs) (suc i) x e = let h : suc i + 1 ≡ suc (i + 1) = omega arith in drop_at xs i x e ∙ ap (λ n. x ∷ drop n (y ∷ xs)) (sym h)

pub drop_past : {A : Type 0} (xs : List A) (i : ℕ) → slice_get xs i ≡ None → drop i xs ≡ []
drop_past [] zero e = refl
drop_past [] (suc i) e = refl
drop_past (y ∷ xs) zero e = cc
drop_past (y ∷ xs) (suc i) e = drop_past xs i e

module _ (nodes : List SchemaNode) (ids : List ℕ) (i id : ℕ) (before : List (List ℕ)) (here : slice_get ids i ≡ Some id) where
  pub names_refused : (kind : ErrorKind) → begin_enum nodes id ≡ Err kind → enum_names nodes (drop i ids) before ≡ Err kind
  names_refused kind e = ap (λ xs. enum_names nodes xs before) (drop_at ids i id here) ∙ ap (λ r. and_said r (λ b. enum_names nodes (drop (i + 1) ids) (before ++ b.0 ∷ []))) e

  pub names_more : (name : List ℕ) (n : SchemaNode) → begin_enum nodes id ≡ Ok (name, n) → enum_names nodes (drop i ids) before ≡ enum_names nodes (drop (i + 1) ids) (before ++ name ∷ [])
  names_more name n e = ap (λ xs. enum_names nodes xs before) (drop_at ids i id here) ∙ ap (λ r. and_said r (λ b. enum_names nodes (drop (i + 1) ids) (before ++ b.0 ∷ []))) e

pub names_end : (nodes : List SchemaNode) (ids : List ℕ) (i : ℕ) (before : List (List ℕ)) → slice_get ids i ≡ None → enum_names nodes (drop i ids) before ≡ Ok before
names_end nodes ids i before e = ap (λ xs. enum_names nodes xs before) (drop_past ids i e)

-- ---- the name of an entry ----

module _ (nodes : List SchemaNode) (made : List Node) (enums : List (List ℕ)) (hs : List Holder) (e : Entry) where
  abbrev bytes : List ℕ → Said (List ℕ)
  bytes display = struct_name (map (λ (n : Node). n.display_name) made) enums hs e.node e.bound display

  abbrev held : List ℕ → List ℕ → Said (List ℕ × List Holder)
  held display name = Ok (name, record { id = e.node; dotted = dotted_of display } ∷ hs)

  abbrev by_display : SchemaNode → Said (List ℕ × List Holder)
  by_display n = and_said n.display_name (λ display. and_said (bytes display) (held display))

  pub entry_missing : (kind : ErrorKind) → node_named nodes e.node ≡ None → kind ≡ NodeNotFound → name_entry nodes made enums hs e Whole ≡ Err kind
  entry_missing kind m k = ap (λ o. and_said (node_there o) by_display) m ∙ ap (λ (x : ErrorKind). Err x) (sym k)

  module _ (n : SchemaNode) (found : node_named nodes e.node ≡ Some n) where
    shown : name_entry nodes made enums hs e Whole ≡ by_display n
    shown = ap (λ o. and_said (node_there o) by_display) found

    pub entry_unread : (kind : ErrorKind) → n.display_name ≡ Err kind → name_entry nodes made enums hs e Whole ≡ Err kind
    entry_unread kind r = shown ∙ ap (λ r. and_said r (λ display. and_said (bytes display) (held display))) r

    module _ (display : List ℕ) (read : n.display_name ≡ Ok display) where
      pub entry_unnamed : (kind : ErrorKind) → bytes display ≡ Err kind → name_entry nodes made enums hs e Whole ≡ Err kind
      entry_unnamed kind r = shown ∙ (ap (λ r. and_said r (λ display. and_said (bytes display) (held display))) read ∙ ap (λ r. and_said r (held display)) r)

      pub entry_named : (name : List ℕ) → bytes display ≡ Ok name → name_entry nodes made enums hs e Whole ≡ Ok (name, record { id = e.node; dotted = dotted_of display } ∷ hs)
      entry_named name r = shown ∙ (ap (λ r. and_said r (λ display. and_said (bytes display) (held display))) read ∙ ap (λ r. and_said r (held display)) r)

-- ---- what an entry begins with ----

module _ (nodes : List SchemaNode) (m : Made) (e : Entry) (enums : List ℕ) where
  abbrev with_node : List (List ℕ) → List ℕ × List Holder → SchemaNode → Said Begun
  with_node names named n = Ok (record { enum_names = names; name = named.0; holders = named.1; node = n })

  abbrev with_name : List (List ℕ) → List ℕ × List Holder → Said Begun
  with_name names named = and_said (node_there (node_named nodes e.node)) (with_node names named)

  abbrev with_names : List (List ℕ) → Said Begun
  with_names names = and_said (name_entry nodes m.nodes names m.holders e e.place) (with_name names)

  abbrev all_names : Said (List (List ℕ))
  all_names = enum_names nodes (drop (length m.enum_names) enums) m.enum_names

  pub too_many : (kind : ErrorKind) → 4294967296 ≤ length m.nodes → kind ≡ TooManyTypes → begin_struct nodes m e enums ≡ Err kind
  too_many kind h k = ap (λ q. said_where q TooManyTypes (and_said all_names with_names)) (le-ltb (length m.nodes) 4294967296 h) ∙ ap (λ (x : ErrorKind). Err x) (sym k)

  module _ (few : length m.nodes < 4294967296) where
    enough : begin_struct nodes m e enums ≡ and_said all_names with_names
    enough = ap (λ q. said_where q TooManyTypes (and_said all_names with_names)) (lt-ltb (length m.nodes) 4294967296 few)

    pub begin_unnamed_enum : (kind : ErrorKind) → all_names ≡ Err kind → begin_struct nodes m e enums ≡ Err kind
    begin_unnamed_enum kind r = enough ∙ ap (λ r. and_said r with_names) r

    module _ (names : List (List ℕ)) (all : all_names ≡ Ok names) where
      listed : begin_struct nodes m e enums ≡ with_names names
      listed = enough ∙ ap (λ r. and_said r with_names) all

      pub begin_unnamed : (kind : ErrorKind) → name_entry nodes m.nodes names m.holders e e.place ≡ Err kind → begin_struct nodes m e enums ≡ Err kind
      begin_unnamed kind r = listed ∙ ap (λ r. and_said r (with_name names)) r

      module _ (name : List ℕ) (holders : List Holder) (named : name_entry nodes m.nodes names m.holders e e.place ≡ Ok (name, holders)) where
        pub begin_missing : (kind : ErrorKind) → node_named nodes e.node ≡ None → kind ≡ NodeNotFound → begin_struct nodes m e enums ≡ Err kind
        begin_missing kind r k = listed ∙ (ap (λ r. and_said r (with_name names)) named ∙ (ap (λ o. and_said (node_there o) (with_node names (name, holders))) r ∙ ap (λ (x : ErrorKind). Err x) (sym k)))

        pub begin_done : (n : SchemaNode) → node_named nodes e.node ≡ Some n → begin_struct nodes m e enums ≡ Ok (record { enum_names = names; name = name; holders = holders; node = n })
        begin_done n r = listed ∙ (ap (λ r. and_said r (with_name names)) named ∙ ap (λ o. and_said (node_there o) (with_node names (name, holders))) r)

-- ---- what is made ----

abbrev pub all_made : (nodes : List Node) (brands : List Brand) (enums : List Enum) (notes : List Note) (names : List (List ℕ)) → List Holder → Made
all_made nodes brands enums notes names hs = record { nodes = nodes; brands = brands; enums = enums; notes = notes; enum_names = names; holders = hs }

pub same_made : (n u : List Node) (b v : List Brand) (e w : List Enum) (t x : List Note) (names : List (List ℕ)) (hs : List Holder) → n ≡ u → b ≡ v → e ≡ w → t ≡ x →
    all_made n b e t names hs ≡ all_made u v w x names hs
same_made n u b v e w t x names hs p q r s =
    ap (λ y. all_made y b e t names hs) p ∙ (ap (λ y. all_made u y e t names hs) q ∙ (ap (λ y. all_made u v y t names hs) r ∙ ap (λ y. all_made u v w y names hs) s))

module _ (nodes : List SchemaNode) (strict : Bool) (m : Made) (s : Named) where
  module _ (e : Entry) where
    abbrev behind : Begun → Work Made
    behind = add_struct nodes strict m e.node e.bound

    pub struct_refused : (kind : ErrorKind) → begin_struct nodes m e s.enums ≡ Err kind → make_struct nodes strict m e s ≡ Err kind
    struct_refused kind r = ap (λ r. work_continued behind (work_said r s)) r

    pub struct_begun : (b : Begun) → begin_struct nodes m e s.enums ≡ Ok b → make_struct nodes strict m e s ≡ behind b s
    struct_begun b r = ap (λ r. work_continued behind (work_said r s)) r

  module _ (id : ℕ) where
    abbrev with_enum : Enum → Work Made
    with_enum e = work_of (record m { enums = m.enums ++ e ∷ [] })

    abbrev from_enum : List ℕ × SchemaNode → Work Made
    from_enum b = enum_made nodes strict id b.0 b.1 >>= with_enum

    pub enum_refused : (kind : ErrorKind) → begin_enum nodes id ≡ Err kind → make_enum nodes strict m id s ≡ Err kind
    enum_refused kind r = ap (λ r. work_continued from_enum (work_said r s)) r

    module _ (name : List ℕ) (n : SchemaNode) (begun : begin_enum nodes id ≡ Ok (name, n)) where
      pub enum_unmade : (kind : ErrorKind) → enum_made nodes strict id name n s ≡ Err kind → make_enum nodes strict m id s ≡ Err kind
      enum_unmade kind r = ap (λ r. work_continued from_enum (work_said r s)) begun ∙ then_err (enum_made nodes strict id name n) with_enum s kind r

      pub enum_done : (e : Enum) (after : Named) → enum_made nodes strict id name n s ≡ Ok (e, after) → make_enum nodes strict m id s ≡ Ok (record m { enums = m.enums ++ e ∷ [] }, after)
      enum_done e after r = ap (λ r. work_continued from_enum (work_said r s)) begun ∙ then_ok (enum_made nodes strict id name n) with_enum s after e r

  module _ (again : Made → Work Made) where
    abbrev next : Option Entry → Option ℕ → Result (Made × Named) ErrorKind
    next e enum = make_next nodes strict again m e enum s

    module _ (e : Entry) (here : slice_get s.entries (length m.nodes) ≡ Some e) where
      at_entry : make_step nodes strict again m s ≡ work_continued again (make_struct nodes strict m e s)
      at_entry = ap (λ o. next o (slice_get s.enums (length m.enums))) here

      pub next_refused : (kind : ErrorKind) → make_struct nodes strict m e s ≡ Err kind → make_step nodes strict again m s ≡ Err kind
      next_refused kind r = at_entry ∙ ap (work_continued again) r

      pub next_made : (new : Made) (after : Named) → make_struct nodes strict m e s ≡ Ok (new, after) → make_step nodes strict again m s ≡ again new after
      next_made new after r = at_entry ∙ ap (work_continued again) r

    module _ (none : slice_get s.entries (length m.nodes) ≡ None) where
      module _ (id : ℕ) (here : slice_get s.enums (length m.enums) ≡ Some id) where
        at_enum : make_step nodes strict again m s ≡ work_continued again (make_enum nodes strict m id s)
        at_enum = ap (λ o. next o (slice_get s.enums (length m.enums))) none ∙ ap (next None) here

        pub next_enum_refused : (kind : ErrorKind) → make_enum nodes strict m id s ≡ Err kind → make_step nodes strict again m s ≡ Err kind
        next_enum_refused kind r = at_enum ∙ ap (work_continued again) r

        pub next_enum : (new : Made) (after : Named) → make_enum nodes strict m id s ≡ Ok (new, after) → make_step nodes strict again m s ≡ again new after
        next_enum new after r = at_enum ∙ ap (work_continued again) r

      pub next_none : slice_get s.enums (length m.enums) ≡ None → make_step nodes strict again m s ≡ Ok (m, s)
      next_none here = ap (λ o. next o (slice_get s.enums (length m.enums))) none ∙ ap (next None) here

-- ---- a whole request ----

module _ (files : Said (List ℕ)) (read : Said (List SchemaNode)) (strict : Bool) where
  pub nodes_refused : (kind : ErrorKind) → read ≡ Err kind → and_said (request_with files read) (λ r. conversion_of r strict) ≡ Err kind
  nodes_refused kind e = ap (λ r. and_said (request_with files r) (λ r. conversion_of r strict)) e

  module _ (nodes : List SchemaNode) (is : read ≡ Ok nodes) where
    abbrev order : List ℕ → Work Made
    order none = make_all nodes strict (65536 + suc (length nodes)) nothing_made

    opened_request : and_said (request_with files read) (λ r. conversion_of r strict) ≡ result_of (work_continued order (name_files nodes strict files nothing_named))
    opened_request = ap (λ r. and_said (request_with files r) (λ r. conversion_of r strict)) is

    pub roots_refused : (kind : ErrorKind) → name_files nodes strict files nothing_named ≡ Err kind → and_said (request_with files read) (λ r. conversion_of r strict) ≡ Err kind
    roots_refused kind e = opened_request ∙ ap (λ r. result_of (work_continued order r)) e

    pub roots_named : (ids : List ℕ) (after : Named) → name_files nodes strict files nothing_named ≡ Ok (ids, after) →
        and_said (request_with files read) (λ r. conversion_of r strict) ≡ result_of (make_all nodes strict (65536 + suc (length nodes)) nothing_made after)
    roots_named ids after e = opened_request ∙ ap (λ r. result_of (work_continued order r)) e
