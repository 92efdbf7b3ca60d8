-- The parts of enums, as the definition sees them.
use Rattle.std.proofs.Common.{Vec, ℕ, length, suc, ◌≡◌, ◌∙◌, ap, refl, sym, map, string_bytes, Bool, true, false, List, [], ◌∷◌, Result, Ok, Err}
use Rattle.std.specs.Global.{Global}
use Rattle.capnp_base.specs.declared.introspect.«Type».{«Type» as TypeHandle}
use Rattle.capnp_device.specs.declared.error.ErrorKind.{ErrorKind}
use Rattle.capnp_device.specs.declared.error.ErrorKind.TheVariants.{NodeNotFound}
use Rattle.capnp_records.specs.Record.{Record, Value}
use Rattle.capnp_schema.specs.Schema.{Annotation, Enum, Enumerant, seen_annotations, seen_enum, seen_enumerant}
use Rattle.capnp_schema.specs.declared.record.EnumRecord.{EnumRecord}
use Rattle.capnp_schema.specs.declared.record.EnumerantRecord.{EnumerantRecord}
use Rattle.capnp_schema.specs.Types.{SchemaType, seen_type}
use Rattle.capnp_request.specs.Conversion.{annotations_of, converted_name}
use Rattle.capnp_request.specs.Order.{all_enumerants, at_enum, enum_made, enumerant_of, firsts, seconds}
use Rattle.capnp_request.specs.Parts.{request_read_at}
use Rattle.capnp_request.specs.Reading.{annotation_terms_in, enumerant_said, text_term}
use Rattle.capnp_request.specs.Steps.StructsSeen.{enumerant_records, enumerant_types, seen_converted_enumerant, seen_enumerants}
use Rattle.capnp_request.specs.Terms.{AnnotationNode, EnumNode, EnumerantTerm, NodeKind, OtherNode, Said, SchemaNode, StructNode}
use Rattle.capnp_request.specs.Types.{is_enum}
use Rattle.capnp_request.specs.Work.{Named, Work, each_read, work_of, work_said, ◌>>=◌, work_continued}
use Rattle.capnp_request.specs.declared.enums.ConvertedEnumerant.{ConvertedEnumerant}
use Rattle.capnp_request.proofs.Works.{then_err, then_ok}

-- ---- an enumerant ----

pub name_on : (r : Record) (v : Value) → v ≡ request_read_at 11 0 r → (enumerant_said r).name ≡ text_term v
unfolding enumerant_said
name_on r v e = ap text_term (sym e)

pub annotations_on : (r : Record) → (enumerant_said r).annotations ≡ annotation_terms_in (request_read_at 11 1 r)
unfolding enumerant_said
annotations_on r = refl

module _ (nodes : List SchemaNode) (strict : Bool) (x : EnumerantTerm) (s : Named) where
  abbrev with_own : List ℕ → List (Annotation × SchemaType) → Work (Enumerant × List SchemaType)
  with_own name annotations = work_of (record { name = name; annotations = firsts annotations }, seconds annotations)

  abbrev with_name : List ℕ → Work (Enumerant × List SchemaType)
  with_name name = annotations_of nodes strict [] x.annotations >>= with_own name

  abbrev with_bytes : List ℕ → Work (Enumerant × List SchemaType)
  with_bytes bytes = work_said (converted_name bytes) >>= with_name

  pub enumerant_unread : (kind : ErrorKind) → x.name ≡ Err kind → enumerant_of nodes strict x s ≡ Err kind
  enumerant_unread kind e = ap (λ r. work_continued with_bytes (work_said r s)) e

  module _ (bytes : List ℕ) (read : x.name ≡ Ok bytes) where
    opened : enumerant_of nodes strict x s ≡ with_bytes bytes s
    opened = ap (λ r. work_continued with_bytes (work_said r s)) read

    pub enumerant_unnamed : (kind : ErrorKind) → converted_name bytes ≡ Err kind → enumerant_of nodes strict x s ≡ Err kind
    enumerant_unnamed kind e = opened ∙ ap (λ r. work_continued with_name (work_said r s)) e

    module _ (name : List ℕ) (named : converted_name bytes ≡ Ok name) where
      behind : enumerant_of nodes strict x s ≡ with_name name s
      behind = opened ∙ ap (λ r. work_continued with_name (work_said r s)) named

      pub enumerant_refused : (kind : ErrorKind) → annotations_of nodes strict [] x.annotations s ≡ Err kind → enumerant_of nodes strict x s ≡ Err kind
      enumerant_refused kind e = behind ∙ then_err (annotations_of nodes strict [] x.annotations) (with_own name) s kind e

      pub enumerant_given : (own : List (Annotation × SchemaType)) (after : Named) → annotations_of nodes strict [] x.annotations s ≡ Ok (own, after) →
          enumerant_of nodes strict x s ≡ Ok ((record { name = name; annotations = firsts own }, seconds own), after)
      enumerant_given own after e = behind ∙ then_ok (annotations_of nodes strict [] x.annotations) (with_own name) s after own e

-- ---- an enum ----

pub no_enum : {A : Type 0} (kind : NodeKind) (f : Said (List (Said EnumerantTerm)) → Work A) (s : Named) → is_enum kind ≡ false → at_enum kind f s ≡ Err NodeNotFound
no_enum (StructNode part) f s e = refl
no_enum (EnumNode enumerants) f s e = cc
no_enum (AnnotationNode t) f s e = refl
no_enum OtherNode f s e = refl

module _ (nodes : List SchemaNode) (strict : Bool) (id : ℕ) (name : List ℕ) (n : SchemaNode) (s : Named) where
  abbrev made : List (Enumerant × List SchemaType) → List (Annotation × SchemaType) → Enum
  made children own = record {
    id = id;
    display_name = name;
    annotations = firsts own;
    enumerants = map (λ (c : Enumerant × List SchemaType). c.0) children;
    annotation_types = record { own = seconds own; children = map (λ (c : Enumerant × List SchemaType). c.1) children };
  }

  abbrev from_own : List (Enumerant × List SchemaType) → List (Annotation × SchemaType) → Work Enum
  from_own children own = work_of (made children own)

  abbrev from_children : List (Enumerant × List SchemaType) → Work Enum
  from_children children = annotations_of nodes strict [] n.annotations >>= from_own children

  abbrev from_said : Said (List (Said EnumerantTerm)) → Work Enum
  from_said enumerants = all_enumerants nodes strict enumerants >>= from_children

  pub enum_missing : (kind : ErrorKind) → is_enum n.kind ≡ false → kind ≡ NodeNotFound → enum_made nodes strict id name n s ≡ Err kind
  enum_missing kind e k = no_enum n.kind from_said s e ∙ ap (λ (x : ErrorKind). Err x) (sym k)

  pub enum_unread : (kind : ErrorKind) → n.kind ≡ EnumNode (Err kind) → enum_made nodes strict id name n s ≡ Err kind
  enum_unread kind e = ap (λ k. at_enum k from_said s) e

  module _ (terms : List (Said EnumerantTerm)) (is : n.kind ≡ EnumNode (Ok terms)) where
    opened_enum : enum_made nodes strict id name n s ≡ (each_read (enumerant_of nodes strict) terms >>= from_children) s
    opened_enum = ap (λ k. at_enum k from_said s) is

    pub enumerants_refused : (kind : ErrorKind) → each_read (enumerant_of nodes strict) terms s ≡ Err kind → enum_made nodes strict id name n s ≡ Err kind
    enumerants_refused kind e = opened_enum ∙ then_err (each_read (enumerant_of nodes strict) terms) from_children s kind e

    module _ (children : List (Enumerant × List SchemaType)) (after : Named) (all : each_read (enumerant_of nodes strict) terms s ≡ Ok (children, after)) where
      behind_enum : enum_made nodes strict id name n s ≡ from_children children after
      behind_enum = opened_enum ∙ then_ok (each_read (enumerant_of nodes strict) terms) from_children s after children all

      pub own_refused : (kind : ErrorKind) → annotations_of nodes strict [] n.annotations after ≡ Err kind → enum_made nodes strict id name n s ≡ Err kind
      own_refused kind e = behind_enum ∙ then_err (annotations_of nodes strict [] n.annotations) (from_own children) after kind e

      pub enum_given : (own : List (Annotation × SchemaType)) (last : Named) → annotations_of nodes strict [] n.annotations after ≡ Ok (own, last) → enum_made nodes strict id name n s ≡ Ok (made children own, last)
      enum_given own last e = behind_enum ∙ then_ok (annotations_of nodes strict [] n.annotations) (from_own children) after last own e

-- ---- as they are seen ----

pub enumerants_seen : (es : List ConvertedEnumerant) → map (λ (c : Enumerant × List SchemaType). c.0) (seen_enumerants es) ≡ map seen_enumerant (enumerant_records es)
enumerants_seen [] = refl
enumerants_seen (e ∷ es) = ap (λ xs. seen_enumerant e.record ∷ xs) (enumerants_seen es)

pub enumerant_types_seen : (es : List ConvertedEnumerant) → map (λ (c : Enumerant × List SchemaType). c.1) (seen_enumerants es) ≡ map (λ types. map seen_type types) (enumerant_types es)
enumerant_types_seen [] = refl
enumerant_types_seen (e ∷ es) = ap (λ xs. map seen_type e.annotation_types.items ∷ xs) (enumerant_types_seen es)

abbrev enum_by : ℕ → List ℕ → List Annotation → List Enumerant → List SchemaType → List (List SchemaType) → Enum
enum_by id name own enumerants types children = record { id = id; display_name = name; annotations = own; enumerants = enumerants; annotation_types = record { own = types; children = children } }

pub enum_seen : (e : EnumRecord) (id : ℕ) (name : List ℕ) (own : List Annotation) (enumerants : List Enumerant) (types : List SchemaType) (children : List (List SchemaType)) → id ≡ e.id → name ≡ string_bytes e.display_name → own ≡ seen_annotations e.annotations.items → enumerants ≡ map seen_enumerant e.enumerants.items → types ≡ map seen_type e.annotation_types.own.items → children ≡ map (λ (v : Vec TypeHandle Global). map seen_type v.items) e.annotation_types.children.items
    → enum_by id name own enumerants types children ≡ seen_enum e
enum_seen e id name own enumerants types children e0 e1 e2 e3 e4 e5 =
    ap (λ (x : ℕ). enum_by x name own enumerants types children) e0
    ∙ (ap (λ (x : List ℕ). enum_by (e.id) x own enumerants types children) e1
    ∙ (ap (λ (x : List Annotation). enum_by (e.id) (string_bytes e.display_name) x enumerants types children) e2
    ∙ (ap (λ (x : List Enumerant). enum_by (e.id) (string_bytes e.display_name) (seen_annotations e.annotations.items) x types children) e3
    ∙ (ap (λ (x : List SchemaType). enum_by (e.id) (string_bytes e.display_name) (seen_annotations e.annotations.items) (map seen_enumerant e.enumerants.items) x children) e4
    ∙ (ap (λ (x : List (List SchemaType)). enum_by (e.id) (string_bytes e.display_name) (seen_annotations e.annotations.items) (map seen_enumerant e.enumerants.items) (map seen_type e.annotation_types.own.items) x) e5)))))

counted : {A B : Type 0} (f : A → B) (xs : List A) → length (map f xs) ≡ length xs
counted f [] = refl
counted f (x ∷ xs) = ap suc (counted f xs)

-- as many lists of types as enumerants
pub enumerants_counted : (es : List ConvertedEnumerant) (rs : List EnumerantRecord) (ts : List (Vec TypeHandle Global)) → rs ≡ enumerant_records es → map (λ (v : Vec TypeHandle Global). v.items) ts ≡ enumerant_types es → length ts ≡ length rs
enumerants_counted es rs ts records types =
    sym (counted (λ (v : Vec TypeHandle Global). v.items) ts) ∙ (ap length types ∙ (counted (λ (e : ConvertedEnumerant). e.annotation_types.items) es
    ∙ (sym (counted (λ (e : ConvertedEnumerant). e.record) es) ∙ ap length (sym records))))

-- what an enum is refused with before its enumerants are looked at
pub enum_off : (nodes : List SchemaNode) (strict : Bool) (id : ℕ) (name : List ℕ) (n : SchemaNode) (s : Named) (kind : ErrorKind) → (is_enum n.kind ≡ false → kind ≡ NodeNotFound) → (is_enum n.kind ≡ true → n.kind ≡ EnumNode (Err kind)) →
    enum_made nodes strict id name n s ≡ Err kind
enum_off nodes strict id name n s kind missing unread = go (is_enum n.kind) refl
  where
    go : (q : Bool) → is_enum n.kind ≡ q → enum_made nodes strict id name n s ≡ Err kind
    go false e = enum_missing nodes strict id name n s kind e (missing e)
    go true e = enum_unread nodes strict id name n s kind (unread e)

pub enumerant_pair : (e : ConvertedEnumerant) (name : List ℕ) (own : List Annotation) (types : List SchemaType) (s : Named) → name ≡ string_bytes e.record.name → own ≡ seen_annotations e.record.annotations.items → types ≡ map seen_type e.annotation_types.items →
    ◌≡◌ {A = Result ((Enumerant × List SchemaType) × Named) ErrorKind} (Ok ((record { name = name; annotations = own }, types), s)) (Ok (seen_converted_enumerant e, s))
enumerant_pair e name own types s p q r =
    ap (λ (x : List ℕ). Ok ((record { name = x; annotations = own }, types), s)) p
    ∙ (ap (λ (x : List Annotation). Ok ((record { name = string_bytes e.record.name; annotations = x }, types), s)) q
    ∙ ap (λ (x : List SchemaType). Ok ((record { name = string_bytes e.record.name; annotations = seen_annotations e.record.annotations.items }, x), s)) r)
