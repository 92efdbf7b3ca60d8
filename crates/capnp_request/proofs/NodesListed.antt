-- The nodes of a request, one more at a time, and the map that says which has an id.
use Rattle.std.proofs.Common.{ℕ, ◌+◌, ◌<◌, ◌≤◌, ◌≡◌, ◌∙◌, ap, refl, sym, nat_eq, ◌==◌, Bool, true, false, List, [], ◌∷◌, ◌++◌, length, length-append, append_assoc, Option, Some, None, Ok, Err}
use Rattle.std.proofs.lemmas.List.{append-nil}
use Rattle.std.specs.HashMap.{HashMap, get}
use Rattle.std.specs.Option.{option_map}
use Rattle.capnp_device.specs.declared.error.ErrorKind.{ErrorKind}
use Rattle.capnp_wire.specs.declared.struct_reader.StructReader.{StructReader}
use Rattle.capnp_request.specs.Steps.Seen.{IsRequestRecord, element_seen, list_seen, record_seen}
use Rattle.capnp_records.specs.Record as value
use Rattle.capnp_records.specs.Record.{Record}
use Rattle.capnp_request.specs.declared.handles.RequestList.{RequestList}
use Rattle.capnp_request.specs.declared.handles.RequestRecord.{RequestRecord}
use Rattle.capnp_request.specs.Steps.Handles.{IsListOf, values_left}
use Rattle.capnp_request.specs.Steps.Nodes.{first_kept, node_record, or_none}
use Rattle.capnp_request.specs.Parts.{request_read_at}
use Rattle.capnp_request.specs.Reading.{all_said, both_said, each_said, node_said, nodes_in, whole_list}
use Rattle.capnp_request.specs.Scopes.{node_named, some_where}
use Rattle.capnp_request.specs.Terms.{Said, SchemaNode}
use Rattle.capnp_request.proofs.PartsRead.{same_record}
use Rattle.capnp_request.proofs.ListsRead.{all_whole, count_of, each_err, each_none, each_ok}

-- the record of a node's sections is that of its reader
pub section_record : (s : RequestRecord) → IsRequestRecord 2 s → node_record s.sections ≡ record_seen s
unfolding node_record
section_record s is = same_record s 2 is

-- ---- lists ----

abbrev pub joined : {A : Type 0} → List A → Said (List A) → Said (List A)
joined xs (Ok ys) = Ok (xs ++ ys)
joined xs (Err kind) = Err kind

join_more : {A : Type 0} (xs : List A) (y : A) (r : Said (List A)) → joined xs (both_said (Ok y) r) ≡ joined (xs ++ y ∷ []) r
join_more xs y (Ok ys) = ap (λ zs. Ok zs) (sym (append_assoc xs (y ∷ []) ys))
join_more xs y (Err kind) = refl

or_else : Option SchemaNode → Option SchemaNode → Option SchemaNode
or_else (Some x) other = Some x
or_else None other = other

or_some : (q : Bool) (n : SchemaNode) (rest other : Option SchemaNode) → some_where q n (or_else rest other) ≡ or_else (some_where q n rest) other
unfolding or_else
or_some true n rest other = refl
or_some false n rest other = refl

named_more : (ns : List SchemaNode) (n : SchemaNode) (id : ℕ) → node_named (ns ++ n ∷ []) id ≡ or_else (node_named ns id) (some_where (n.id == id) n None)
unfolding or_else
named_more [] n id = refl
named_more (x ∷ ns) n id = ap (some_where (x.id == id) x) (named_more ns n id) ∙ or_some (x.id == id) x (node_named ns id) (some_where (n.id == id) n None)

some_more : (o other : Option SchemaNode) (x : SchemaNode) → o ≡ Some x → or_else o other ≡ o
unfolding or_else
some_more o other x e = ap (λ p. or_else p other) e ∙ sym e

none_more : (o other : Option SchemaNode) → o ≡ None → or_else o other ≡ other
unfolding or_else
none_more o other e = ap (λ p. or_else p other) e

-- ---- the loop ----

abbrev pub said_by : StructReader → SchemaNode
said_by s = node_said (node_record s)

module _ {S : Type 0} where
  pub record ReadSoFar (l : RequestList) (m : HashMap ℕ StructReader S) (i : ℕ) : Type 0 where
    pub nodes : List SchemaNode
    pub whole : all_said (each_said 2 node_said (values_left l 0)) ≡ joined nodes (all_said (each_said 2 node_said (values_left l i)))
    pub count : length nodes ≡ i
    pub by_id : (id : ℕ) → option_map said_by (get nat_eq m id) ≡ node_named nodes id

  module _ (l : RequestList) (m : HashMap ℕ StructReader S) (i : ℕ) (h : ReadSoFar l m i) (is : IsListOf 2 l) (inside : i < count_of l) where
    -- an element that can't be read
    pub node_unread : (kind : ErrorKind) → value.Fault kind ≡ element_seen l i → all_said (each_said 2 node_said (values_left l 0)) ≡ Err kind
    node_unread kind e = h.whole ∙ ap (λ xs. joined h.nodes (all_said xs)) (each_err 2 node_said l i kind is inside e)

    module _ (r : Record) (e : value.Struct r ≡ element_seen l i) (id : ℕ) (id_is : (node_said r).id ≡ id) where
      whole_more : all_said (each_said 2 node_said (values_left l 0)) ≡ joined (h.nodes ++ node_said r ∷ []) (all_said (each_said 2 node_said (values_left l (i + 1))))
      whole_more =
          h.whole
          ∙ (ap (λ xs. joined h.nodes (all_said xs)) (each_ok 2 node_said l i r is inside e)
          ∙ join_more h.nodes (node_said r) (all_said (each_said 2 node_said (values_left l (i + 1)))))

      count_more : length (h.nodes ++ node_said r ∷ []) ≡ i + 1
      count_more = length-append h.nodes (node_said r ∷ []) ∙ ap (λ k. k + 1) h.count

      same_test : (q : ℕ) → ((node_said r).id == q) ≡ nat_eq id q
      same_test q = ap (λ k. k == q) id_is

      same_node : (q : ℕ) (o : Option StructReader) (t : Bool) → option_map said_by o ≡ node_named h.nodes q → nat_eq id q ≡ t → (x : StructReader) → node_record x ≡ r →
          option_map said_by (first_kept o t x) ≡ or_else (node_named h.nodes q) (some_where ((node_said r).id == q) (node_said r) None)
      same_node q (Some y) t there same x section = there ∙ sym (some_more (node_named h.nodes q) (some_where ((node_said r).id == q) (node_said r) None) (said_by y) (sym there))
      same_node q None true there same x section =
          ap (λ s. Some (node_said s)) section
          ∙ (sym (ap (λ t. some_where t (node_said r) None) (same_test q ∙ same))
          ∙ sym (none_more (node_named h.nodes q) (some_where ((node_said r).id == q) (node_said r) None) (sym there)))
      same_node q None false there same x section =
          sym (ap (λ t. some_where t (node_said r) None) (same_test q ∙ same))
          ∙ sym (none_more (node_named h.nodes q) (some_where ((node_said r).id == q) (node_said r) None) (sym there))

      pub one_read : (m' : HashMap ℕ StructReader S) (x : StructReader) → ((q : ℕ) → get nat_eq m' q ≡ first_kept (get nat_eq m q) (nat_eq id q) x) → node_record x ≡ r → ReadSoFar l m' (i + 1)
      one_read m' x kept section = record {
        nodes = h.nodes ++ node_said r ∷ [];
        whole = whole_more;
        count = count_more;
        by_id = λ q. ap (option_map said_by) (kept q) ∙ (same_node q (get nat_eq m q) (nat_eq id q) (h.by_id q) refl x section ∙ sym (named_more h.nodes (node_said r) q));
      }

  -- all were read
  module _ (l : RequestList) (m : HashMap ℕ StructReader S) (i : ℕ) (h : ReadSoFar l m i) (past : count_of l ≤ i) where
    pub all_read : all_said (each_said 2 node_said (values_left l 0)) ≡ Ok h.nodes
    all_read = h.whole ∙ (ap (λ xs. joined h.nodes (all_said xs)) (each_none 2 node_said l i past) ∙ ap (λ xs. Ok xs) (append-nil h.nodes))

-- what a request's list of nodes says
pub nodes_read : (r : Record) (l : RequestList) → list_seen l ≡ request_read_at 0 0 r → nodes_in r ≡ all_said (each_said 2 node_said (values_left l 0))
nodes_read r l e = ap (whole_list 2 node_said) (sym e) ∙ all_whole 2 node_said l

pub nodes_unread : (r : Record) (kind : ErrorKind) → value.Fault kind ≡ request_read_at 0 0 r → nodes_in r ≡ Err kind
nodes_unread r kind e = ap (whole_list 2 node_said) (sym e)

-- the nodes of what was made of a request
pub nodes_made : (r : Record) (ns : List SchemaNode) → nodes_in r ≡ Ok ns → or_none (nodes_in r) ≡ ns
nodes_made r ns e = ap or_none e
