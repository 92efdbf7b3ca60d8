-- Annotations and names as they stand.
use Rattle.std.proofs.Common.{ℕ, ◌≡◌, ◌∙◌, ap, refl, subst, Bool, true, false, List, map, Option, Some, None, Ok, Err}
use Rattle.std.specs.Str.{is_utf8}
use Rattle.capnp_device.specs.declared.error.ErrorKind.TheVariants.{NameNotUtf8}
use Rattle.capnp_schema.specs.Schema.{Annotation}
use Rattle.capnp_schema.specs.Types.{SchemaType}
use Rattle.capnp_request.specs.Conversion.{annotation_of, annotations_of, converted_name, declared_in, declared_term, declared_type, kind_declared}
use Rattle.capnp_request.specs.Scopes.{node_named, scopes_of}
use Rattle.capnp_request.specs.Terms.{AnnotationNode, AnnotationTerm, BrandTerm, EnumNode, NodeKind, OtherNode, Said, SchemaNode, StructNode, TypeTerm}
use Rattle.capnp_request.specs.Types.{named_scopes, type_of}
use Rattle.capnp_request.specs.Values.{value_stated}
use Rattle.capnp_request.specs.Work.{Bound, Entry, MarkedType, Named, work_of, work_unnoted, ◌>>=◌}
use Rattle.capnp_request_meaning.specs.Meaning.{EachBound, IsAnnotationOf, IsBoundBy, IsSaidList, IsTypeOf, Numbers, without_types}
use Rattle.capnp_request_meaning.proofs.EntriesKept.{KeepsWhole}
use Rattle.capnp_request_meaning.proofs.ListsFound.{same_some}
use Rattle.capnp_request_meaning.proofs.TypesMeant.{AreNamedScopes, brand_meant, numbers, scopes_named, type_meant}
use Rattle.capnp_request_meaning.proofs.Works.{IsWork, all_of, bind, of_work, said_bind, unnoted, weaker}

-- a name that is taken is what stands there
pub name_taken : (bytes name : List ℕ) → converted_name bytes ≡ Ok name → bytes ≡ name
name_taken bytes name h = go (is_utf8 bytes) h
  where
    go : (q : Bool) → (elim q as (λ _. Said (List ℕ)) [ true ↦ Ok bytes | false ↦ Err NameNotUtf8 ]) ≡ Ok name → bytes ≡ name
    go true e = cc
    go false e = absurd (cc)

pub text_taken : (bytes name : List ℕ) → converted_name bytes ≡ Ok name → is_utf8 name ≡ true
text_taken bytes name h = subst (λ xs. is_utf8 xs ≡ true) (name_taken bytes name h) (go (is_utf8 bytes) refl h)
  where
    go : (q : Bool) → is_utf8 bytes ≡ q → (elim q as (λ _. Said (List ℕ)) [ true ↦ Ok bytes | false ↦ Err NameNotUtf8 ]) ≡ Ok name → is_utf8 bytes ≡ true
    go true is e = is
    go false is e = absurd (cc)

pub named_as : (said : Said (List ℕ)) (bytes name : List ℕ) → said ≡ Ok bytes → converted_name bytes ≡ Ok name → said ≡ Ok name
named_as said bytes name e h = e ∙ ap (λ xs. Ok xs) (name_taken bytes name h)

-- ---- declarations ----

pub record IsDeclaration (o : Option SchemaNode) (t : TypeTerm) : Type 0 where
  pub node : SchemaNode
  pub first : o ≡ Some node
  pub annotation : node.kind ≡ AnnotationNode t

declares : (k : NodeKind) (t : TypeTerm) → kind_declared k ≡ Some t → k ≡ AnnotationNode t
declares (AnnotationNode u) t e = ap (λ x. AnnotationNode x) (same_some e)
declares (StructNode part) t e = absurd (cc)
declares (EnumNode enumerants) t e = absurd (cc)
declares OtherNode t e = absurd (cc)

pub declaration : (o : Option SchemaNode) (t : TypeTerm) → declared_term o ≡ Some t → IsDeclaration o t
declaration (Some n) t e = record { node = n; first = refl; annotation = declares n.kind t e }
declaration None t e = absurd (cc)

-- the type of an annotation of an id and a brand
pub record IsDeclared (k : Numbers) (inside : List Bound) (id : ℕ) (brand : BrandTerm) (u : MarkedType) : Type 0 where
  pub node : SchemaNode
  pub declared : TypeTerm
  pub bound : List Bound
  pub first : node_named k.nodes id ≡ Some node
  pub annotation : node.kind ≡ AnnotationNode declared
  pub scopes : scopes_of k.nodes id ≡ Ok (map without_types bound)
  pub brand_is : EachBound (IsBoundBy k inside brand) bound
  pub type : IsTypeOf k bound declared u

module _ (K : List Entry → Type 0) (nodes : List SchemaNode) (whole : KeepsWhole K nodes) (strict : Bool) (inside : List Bound) where
  abbrev IsDeclaredLater : ℕ → BrandTerm → MarkedType → Named → Type 0
  IsDeclaredLater id brand u z = IsDeclared (numbers nodes strict z) inside id brand u

  declared_meant : (id : ℕ) (brand : BrandTerm) (o : Option TypeTerm) → declared_term (node_named nodes id) ≡ o → IsWork K (declared_in nodes strict o (named_scopes nodes strict inside id brand)) (IsDeclaredLater id brand)
  declared_meant id brand None is = λ s. tt
  declared_meant id brand (Some t) is =
      let d : IsDeclaration (node_named nodes id) t = declaration (node_named nodes id) t is in
      bind K (named_scopes nodes strict inside id brand) (λ bound. type_of nodes strict bound t) (AreNamedScopes nodes strict inside id brand) (IsDeclaredLater id brand)
      (scopes_named K nodes whole strict inside id brand (brand_meant K nodes whole strict inside brand))
      (λ bound. weaker K (type_of nodes strict bound t) (λ u z. IsTypeOf (numbers nodes strict z) bound t u) (λ u z. AreNamedScopes nodes strict inside id brand bound z → IsDeclaredLater id brand u z)
      (λ u z h scopes. record { node = d.node; declared = t; bound = bound; first = d.first; annotation = d.annotation; scopes = scopes.0; brand_is = scopes.1; type = h })
      (type_meant K nodes whole strict bound t))

  abbrev pub IsAnnotationLater : AnnotationTerm → Annotation × SchemaType → Named → Type 0
  IsAnnotationLater a p z = IsAnnotationOf (numbers nodes strict z) inside a p.0 p.1

  pub annotation_meant : (a : AnnotationTerm) → IsWork K (annotation_of nodes strict inside a) (IsAnnotationLater a)
  annotation_meant a =
      said_bind K (value_stated a.value) (λ v. work_unnoted (declared_type nodes strict a.id inside a.brand) >>= (λ t. work_of (record { id = a.id; value = v }, t.type))) (IsAnnotationLater a)
      (λ v is. bind K (work_unnoted (declared_type nodes strict a.id inside a.brand)) (λ t. work_of (record { id = a.id; value = v }, t.type)) (IsDeclaredLater a.id a.brand) (IsAnnotationLater a)
      (unnoted K (declared_type nodes strict a.id inside a.brand) (IsDeclaredLater a.id a.brand) (declared_meant a.id a.brand (declared_term (node_named nodes a.id)) refl))
      (λ t. of_work K (record { id = a.id; value = v }, t.type) (λ (p : Annotation × SchemaType) z. IsDeclaredLater a.id a.brand t z → IsAnnotationLater a p z)
      (λ z h. record { node = h.node; declared = h.declared; bound = h.bound; said = t; id = refl; value = is; first = h.first; annotation = h.annotation; scopes = h.scopes; brand = h.brand_is; type = h.type; stands = refl })))

  pub annotations_meant : (list : Said (List (Said AnnotationTerm))) → IsWork K (annotations_of nodes strict inside list) (λ ps z. IsSaidList (IsAnnotationOf (numbers nodes strict z) inside) list (map (λ (p : Annotation × SchemaType). p.0) ps) (map (λ (p : Annotation × SchemaType). p.1) ps))
  annotations_meant list = all_of K (annotation_of nodes strict inside) (λ (p : Annotation × SchemaType). p.0) (λ (p : Annotation × SchemaType). p.1) (λ z. IsAnnotationOf (numbers nodes strict z) inside) annotation_meant list
