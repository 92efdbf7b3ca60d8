-- The work on an annotation, step by step.
use Rattle.std.proofs.Common.{ℕ, ◌≡◌, ◌∙◌, ap, pos, sym, Bool, List, Option, Some, None, Ok, Err}
use Rattle.capnp_device.specs.declared.error.ErrorKind.{ErrorKind}
use Rattle.capnp_device.specs.declared.error.ErrorKind.TheVariants.{NodeNotFound}
use Rattle.capnp_schema.specs.Schema.{Annotation, Value}
use Rattle.capnp_schema.specs.Types.{SchemaType}
use Rattle.capnp_records.specs.Record as value
use Rattle.capnp_records.specs.Record.{Record, Value as RecordValue}
use Rattle.capnp_request.specs.Steps.Seen.{list_seen}
use Rattle.capnp_request.specs.declared.handles.RequestList.{RequestList}
use Rattle.capnp_request.specs.Steps.Handles.{values_left}
use Rattle.capnp_request.proofs.ListsRead.{each_whole}
use Rattle.capnp_request.specs.Conversion.{annotation_of, annotations_of, declared_in, declared_term, declared_type}
use Rattle.capnp_request.specs.Parts.{request_read_at}
use Rattle.capnp_request.specs.Reading.{annotation_said, annotation_terms_in, brand_in, each_said, declaration_said, in_struct, number_in, type_levels, type_said, value_in, value_said, whole_type}
use Rattle.capnp_request.specs.Scopes.{node_named}
use Rattle.capnp_request.specs.Terms.{BrandTerm, SchemaNode, TypeTerm, UnreadType, ValueTerm}
use Rattle.capnp_request.specs.Types.{named_scopes, type_of}
use Rattle.capnp_request.specs.Values.{value_stated}
use Rattle.capnp_request.specs.Work.{Bound, MarkedType, Named, Seen, Work, each_read, work_of, nothing_seen, work_said, seen_in, work_unnoted, ◌>>=◌, work_continued}
use Rattle.capnp_request.specs.Steps.Work.{Numbered, named_with}

-- ---- work with what is seen in it alone ----

module _ {A : Type 0} (w : Work A) (n : Numbered) where
  abbrev keep : A → Work (A × Seen)
  keep a t = Ok ((a, t.seen), record t { seen = nothing_seen })

  pub seen_done : (a : A) (m : Numbered) (seen : Seen) → w (named_with n nothing_seen) ≡ Ok (a, named_with m seen) → seen_in w (named_with n nothing_seen) ≡ Ok ((a, seen), named_with m nothing_seen)
  seen_done a m seen e = ap (work_continued keep) e

  pub seen_refused : (kind : ErrorKind) → w (named_with n nothing_seen) ≡ Err kind → seen_in w (named_with n nothing_seen) ≡ Err kind
  seen_refused kind e = ap (work_continued keep) e

  pub unnoted_done : (a : A) (m : Numbered) (seen : Seen) → w (named_with n nothing_seen) ≡ Ok (a, named_with m seen) → work_unnoted w (named_with n nothing_seen) ≡ Ok (a, named_with m nothing_seen)
  unnoted_done a m seen e = ap (work_continued (λ (p : A × Seen). work_of p.0)) (seen_done a m seen e)

  pub unnoted_refused : (kind : ErrorKind) → w (named_with n nothing_seen) ≡ Err kind → work_unnoted w (named_with n nothing_seen) ≡ Err kind
  unnoted_refused kind e = ap (work_continued (λ (p : A × Seen). work_of p.0)) (seen_refused kind e)

-- ---- the type of an annotation ----

-- the term of a declaration
pub declaration_read : (d t : Record) (levels : ℕ) → levels ≡ type_levels → value.Struct t ≡ request_read_at 5 0 d → declaration_said d ≡ type_said levels t
unfolding declaration_said
declaration_read d t levels is e = ap (in_struct UnreadType whole_type) (sym e) ∙ ap (λ n. type_said n t) (sym is)

pub declaration_unread : (d : Record) (kind : ErrorKind) → value.Fault kind ≡ request_read_at 5 0 d → declaration_said d ≡ UnreadType kind
unfolding declaration_said
declaration_unread d kind e = ap (in_struct UnreadType whole_type) (sym e)

module _ (nodes : List SchemaNode) (strict : Bool) (id : ℕ) (inside : List Bound) (brand : BrandTerm) (n : Numbered) where
  abbrev start : Named
  start = named_with n nothing_seen

  abbrev found : Option TypeTerm → Work MarkedType
  found o = declared_in nodes strict o (named_scopes nodes strict inside id brand)

  pub undeclared_type : declared_term (node_named nodes id) ≡ None → work_unnoted (declared_type nodes strict id inside brand) start ≡ Err NodeNotFound
  undeclared_type e = unnoted_refused (declared_type nodes strict id inside brand) n NodeNotFound (ap (λ o. found o start) e)

  module _ (t : TypeTerm) (declared : declared_term (node_named nodes id) ≡ Some t) where
    declared_by : declared_type nodes strict id inside brand start ≡ work_continued (λ bound. type_of nodes strict bound t) (named_scopes nodes strict inside id brand start)
    declared_by = ap (λ o. found o start) declared

    pub unbound_type : (kind : ErrorKind) → named_scopes nodes strict inside id brand start ≡ Err kind → work_unnoted (declared_type nodes strict id inside brand) start ≡ Err kind
    unbound_type kind e = unnoted_refused (declared_type nodes strict id inside brand) n kind (declared_by ∙ ap (work_continued (λ bound. type_of nodes strict bound t)) e)

    module _ (bound : List Bound) (s : Named) (scopes : named_scopes nodes strict inside id brand start ≡ Ok (bound, s)) (k : TypeTerm) (is : t ≡ k) where
      type_by : declared_type nodes strict id inside brand start ≡ type_of nodes strict bound k s
      type_by = declared_by ∙ (ap (work_continued (λ bound. type_of nodes strict bound t)) scopes ∙ ap (λ x. type_of nodes strict bound x s) is)

      pub refused_type : (kind : ErrorKind) → type_of nodes strict bound k s ≡ Err kind → work_unnoted (declared_type nodes strict id inside brand) start ≡ Err kind
      refused_type kind e = unnoted_refused (declared_type nodes strict id inside brand) n kind (type_by ∙ e)

      pub done_type : (z : MarkedType) (m : Numbered) (seen : Seen) → type_of nodes strict bound k s ≡ Ok (z, named_with m seen) → work_unnoted (declared_type nodes strict id inside brand) start ≡ Ok (z, named_with m nothing_seen)
      done_type z m seen e = unnoted_done (declared_type nodes strict id inside brand) n z m seen (type_by ∙ e)

  -- the levels of the brand's terms
  pub by_levels : (v : RecordValue) (levels : ℕ) → levels ≡ type_levels → (s : Named) → named_scopes nodes strict inside id (brand_in whole_type v) s ≡ named_scopes nodes strict inside id (brand_in (type_said levels) v) s
  by_levels v levels is s = ap (λ l. named_scopes nodes strict inside id (brand_in (type_said l) v) s) (sym is)

-- ---- an annotation ----

module _ (nodes : List SchemaNode) (strict : Bool) (inside : List Bound) (r : Record) (id : ℕ) (number : value.Number (pos id) ≡ request_read_at 12 0 r) (s : Named) where
  abbrev rest : (given_id : ℕ) → Value → Work (Annotation × SchemaType)
  rest given_id v = work_unnoted (declared_type nodes strict given_id inside (brand_in whole_type (request_read_at 12 2 r))) >>= (λ t. work_of (record { id = given_id; value = v }, t.type))

  by_value : (w : ValueTerm) → value_in (request_read_at 12 1 r) ≡ w → annotation_of nodes strict inside (annotation_said r) s ≡ work_continued (rest id) (work_said (value_stated w) s)
  unfolding annotation_said
  by_value w e = ap (λ x. work_continued (rest (number_in x)) (work_said (value_stated (value_in (request_read_at 12 1 r))) s)) (sym number) ∙ ap (λ x. work_continued (rest id) (work_said (value_stated x) s)) e

  pub value_unread : (kind : ErrorKind) → value.Fault kind ≡ request_read_at 12 1 r → annotation_of nodes strict inside (annotation_said r) s ≡ Err kind
  value_unread kind e = by_value (value_in (value.Fault kind)) (ap value_in (sym e))

  module _ (q : Record) (there : value.Struct q ≡ request_read_at 12 1 r) where
    pub value_refused : (kind : ErrorKind) → value_stated (value_said q) ≡ Err kind → annotation_of nodes strict inside (annotation_said r) s ≡ Err kind
    value_refused kind e = by_value (value_said q) (ap value_in (sym there)) ∙ ap (λ x. work_continued (rest id) (work_said x s)) e

    module _ (v : Value) (is : value_stated (value_said q) ≡ Ok v) where
      by_type : annotation_of nodes strict inside (annotation_said r) s ≡ work_continued (λ t. work_of (record { id = id; value = v }, t.type)) (work_unnoted (declared_type nodes strict id inside (brand_in whole_type (request_read_at 12 2 r))) s)
      by_type = by_value (value_said q) (ap value_in (sym there)) ∙ ap (λ x. work_continued (rest id) (work_said x s)) is

      pub type_refused : (kind : ErrorKind) → work_unnoted (declared_type nodes strict id inside (brand_in whole_type (request_read_at 12 2 r))) s ≡ Err kind → annotation_of nodes strict inside (annotation_said r) s ≡ Err kind
      type_refused kind e = by_type ∙ ap (work_continued (λ t. work_of (record { id = id; value = v }, t.type))) e

      pub annotation_done : (z : MarkedType) (t : Named) → work_unnoted (declared_type nodes strict id inside (brand_in whole_type (request_read_at 12 2 r))) s ≡ Ok (z, t) → annotation_of nodes strict inside (annotation_said r) s ≡ Ok ((record { id = id; value = v }, z.type), t)
      annotation_done z t e = by_type ∙ ap (work_continued (λ t. work_of (record { id = id; value = v }, t.type))) e

-- ---- annotations in a row ----

module _ (nodes : List SchemaNode) (strict : Bool) (inside : List Bound) (s : Named) (v : RecordValue) where
  pub annotations_unread : (kind : ErrorKind) → value.Fault kind ≡ v → annotations_of nodes strict inside (annotation_terms_in v) s ≡ Err kind
  annotations_unread kind e = ap (λ x. annotations_of nodes strict inside (annotation_terms_in x) s) (sym e)

  pub annotations_start : (l : RequestList) → list_seen l ≡ v → annotations_of nodes strict inside (annotation_terms_in v) s ≡ each_read (annotation_of nodes strict inside) (each_said 12 annotation_said (values_left l 0)) s
  annotations_start l e = ap (λ x. annotations_of nodes strict inside (annotation_terms_in x) s) (sym e) ∙ ap (λ x. (work_said x >>= each_read (annotation_of nodes strict inside)) s) (each_whole 12 annotation_said l)
