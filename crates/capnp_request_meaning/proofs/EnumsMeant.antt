-- An enum has what its node has.
use Rattle.std.proofs.Common.{ℕ, ◌≡◌, ◌∙◌, ap, refl, Bool, true, List, [], ◌∷◌, ◌++◌, map, ◌≤◌, length, subst, sym}
use Rattle.std.specs.Str.{is_utf8}
use Rattle.capnp_schema.specs.Schema.{Annotation, Enum, Enumerant}
use Rattle.capnp_schema.specs.Types.{SchemaType}
use Rattle.capnp_request.specs.Conversion.{annotations_of, converted_name}
use Rattle.capnp_request.specs.Order.{Made, all_enumerants, begin_enum, enum_made, enumerant_of, firsts, make_enum, seconds}
use Rattle.capnp_request.specs.Scopes.{node_named}
use Rattle.capnp_request.specs.Terms.{AnnotationTerm, EnumNode, EnumerantTerm, Said, SchemaNode}
use Rattle.capnp_request.specs.Work.{Entry, Named, Work, work_of, work_said, ◌>>=◌}
use Rattle.capnp_request_meaning.specs.Meaning.{IsAnnotationOf, IsEnumOf, IsEnumerantOf, IsSaidList, Numbers}
use Rattle.capnp_request_meaning.proofs.AnnotationsMeant.{annotations_meant, named_as, text_taken}
use Rattle.capnp_request_meaning.proofs.EntriesKept.{KeepsWhole}
use Rattle.capnp_request_meaning.proofs.NamesMeant.{IsEnumBegun, enum_begun}
use Rattle.capnp_request_meaning.proofs.TypesMeant.{numbers}
use Rattle.capnp_request_meaning.proofs.Works.{IsWork, all_of, bind, enum_bind, of_work, said_bind}

-- one enum more, of an id
pub record IsEnumAdded (k : Numbers) (m after : Made) (id : ℕ) : Type 0 where
  pub new : Enum
  pub nodes_are : after.nodes ≡ m.nodes
  pub brands_are : after.brands ≡ m.brands
  pub holders_are : after.holders ≡ m.holders
  pub names_are : after.enum_names ≡ m.enum_names
  pub enums_are : after.enums ≡ m.enums ++ new ∷ []
  pub is_id : new.id ≡ id
  pub is : IsEnumOf k new

-- an enum of an id and a name, with what its node has
pub record IsEnumMade (k : Numbers) (id : ℕ) (name : List ℕ) (node : SchemaNode) (e : Enum) : Type 0 where
  pub members : Said (List (Said EnumerantTerm))
  pub enumeration : node.kind ≡ EnumNode members
  pub is_id : e.id ≡ id
  pub is_name : e.display_name ≡ name
  pub annotations : IsSaidList (IsAnnotationOf k []) node.annotations e.annotations e.annotation_types.own
  pub enumerants : IsSaidList (IsEnumerantOf k) members e.enumerants e.annotation_types.children

module _ (K : List Entry → Type 0) (nodes : List SchemaNode) (whole : KeepsWhole K nodes) (strict : Bool) where
  abbrev pub enumerant_with : List ℕ → List (Annotation × SchemaType) → Work (Enumerant × List SchemaType)
  enumerant_with name annotations = work_of (record { name = name; annotations = firsts annotations }, seconds annotations)

  abbrev pub enumerant_named : EnumerantTerm → List ℕ → Work (Enumerant × List SchemaType)
  enumerant_named x name = annotations_of nodes strict [] x.annotations >>= enumerant_with name

  abbrev pub IsEnumerantMade : EnumerantTerm → Enumerant × List SchemaType → Named → Type 0
  IsEnumerantMade x y z = IsEnumerantOf (numbers nodes strict z) x y.0 y.1

  abbrev AreAnnotations : Said (List (Said AnnotationTerm)) → List (Annotation × SchemaType) → Named → Type 0
  AreAnnotations list ps z = IsSaidList (IsAnnotationOf (numbers nodes strict z) []) list (firsts ps) (seconds ps)

  pub enumerant_meant : (x : EnumerantTerm) → IsWork K (enumerant_of nodes strict x) (IsEnumerantMade x)
  enumerant_meant x =
      said_bind K x.name (λ bytes. work_said (converted_name bytes) >>= enumerant_named x) (IsEnumerantMade x)
      (λ bytes read. said_bind K (converted_name bytes) (enumerant_named x) (IsEnumerantMade x)
      (λ name taken. bind K (annotations_of nodes strict [] x.annotations) (enumerant_with name) (AreAnnotations x.annotations) (IsEnumerantMade x) (annotations_meant K nodes whole strict [] x.annotations)
      (λ annotations. of_work K (record { name = name; annotations = firsts annotations }, seconds annotations) (λ (y : Enumerant × List SchemaType) z. AreAnnotations x.annotations annotations z → IsEnumerantMade x y z)
      (λ z h. record { name = named_as x.name bytes name read taken; text = text_taken bytes name taken; annotations = h }))))

  abbrev pub AreEnumerants : Said (List (Said EnumerantTerm)) → List (Enumerant × List SchemaType) → Named → Type 0
  AreEnumerants members ys z = IsSaidList (IsEnumerantOf (numbers nodes strict z)) members (map (λ (y : Enumerant × List SchemaType). y.0) ys) (map (λ (y : Enumerant × List SchemaType). y.1) ys)

  pub enumerants_meant : (members : Said (List (Said EnumerantTerm))) → IsWork K (all_enumerants nodes strict members) (AreEnumerants members)
  enumerants_meant members = all_of K (enumerant_of nodes strict) (λ (y : Enumerant × List SchemaType). y.0) (λ (y : Enumerant × List SchemaType). y.1) (λ z. IsEnumerantOf (numbers nodes strict z)) enumerant_meant members

  module _ (id : ℕ) (name : List ℕ) (node : SchemaNode) where
    abbrev pub enum_with : List (Enumerant × List SchemaType) → List (Annotation × SchemaType) → Enum
    enum_with children own = record {
      id = id;
      display_name = name;
      annotations = firsts own;
      enumerants = map (λ (c : Enumerant × List SchemaType). c.0) children;
      annotation_types = record { own = seconds own; children = map (λ (c : Enumerant × List SchemaType). c.1) children };
    }

    abbrev pub with_own : List (Enumerant × List SchemaType) → List (Annotation × SchemaType) → Work Enum
    with_own children own = work_of (enum_with children own)

    abbrev pub with_children : List (Enumerant × List SchemaType) → Work Enum
    with_children children = annotations_of nodes strict [] node.annotations >>= with_own children

    abbrev pub with_members : Said (List (Said EnumerantTerm)) → Work Enum
    with_members members = all_enumerants nodes strict members >>= with_children

    abbrev IsEnumLater : Enum → Named → Type 0
    IsEnumLater e z = IsEnumMade (numbers nodes strict z) id name node e

    pub enum_meant : IsWork K (enum_made nodes strict id name node) IsEnumLater
    enum_meant = enum_bind K node.kind with_members IsEnumLater (λ members is.
        bind K (all_enumerants nodes strict members) with_children (AreEnumerants members) IsEnumLater (enumerants_meant members)
        (λ children. bind K (annotations_of nodes strict [] node.annotations) (with_own children) (AreAnnotations node.annotations) (λ e z. AreEnumerants members children z → IsEnumLater e z) (annotations_meant K nodes whole strict [] node.annotations)
        (λ own. of_work K (enum_with children own) (λ e z. AreAnnotations node.annotations own z → AreEnumerants members children z → IsEnumLater e z)
        (λ z annotated meant. record { members = members; enumeration = is; is_id = refl; is_name = refl; annotations = annotated; enumerants = meant }))))

  module _ (m : Made) (id : ℕ) where
    abbrev pub with_enum : Enum → Work Made
    with_enum e = work_of (record m { enums = m.enums ++ e ∷ [] })

    abbrev pub with_begun : List ℕ × SchemaNode → Work Made
    with_begun b = enum_made nodes strict id b.0 b.1 >>= with_enum

    enum_from : (z : Named) (name : List ℕ) (node : SchemaNode) (e : Enum) → IsEnumBegun nodes id name node → IsEnumMade (numbers nodes strict z) id name node e → IsEnumOf (numbers nodes strict z) e
    enum_from z name node e begun made = record {
      node = node;
      display = begun.display;
      members = made.members;
      first = ap (λ i. node_named nodes i) made.is_id ∙ begun.first;
      enumeration = made.enumeration;
      said = begun.said;
      name = made.is_name ∙ begun.is;
      short = subst (λ (xs : List ℕ). length xs ≤ 1024) (sym made.is_name) begun.short;
      text = subst (λ (xs : List ℕ). is_utf8 xs ≡ true) (sym made.is_name) begun.text;
      annotations = made.annotations;
      enumerants = made.enumerants;
    }

    pub enum_added : IsWork K (make_enum nodes strict m id) (λ after z. IsEnumAdded (numbers nodes strict z) m after id)
    enum_added = said_bind K (begin_enum nodes id) with_begun (λ after z. IsEnumAdded (numbers nodes strict z) m after id) (λ b h.
        bind K (enum_made nodes strict id b.0 b.1) with_enum (λ e z. IsEnumMade (numbers nodes strict z) id b.0 b.1 e) (λ after z. IsEnumAdded (numbers nodes strict z) m after id) (enum_meant id b.0 b.1)
        (λ e. of_work K (record m { enums = m.enums ++ e ∷ [] }) (λ (after : Made) z. IsEnumMade (numbers nodes strict z) id b.0 b.1 e → IsEnumAdded (numbers nodes strict z) m after id)
        (λ z made. record { new = e; nodes_are = refl; brands_are = refl; holders_are = refl; names_are = refl; enums_are = refl; is_id = made.is_id; is = enum_from z b.0 b.1 e (enum_begun nodes id b h) made })))
