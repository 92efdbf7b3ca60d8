-- What a node of a request says, part by part.
use Rattle.std.proofs.Common.{ℕ, ◌≡◌, ◌∙◌, ap, pos, refl, sym, zero, suc, arith, ◌==◌, Bool, false, not, List, Option, Some, None, Ok, Err, slice_get}
use Rattle.std.proofs.lemmas.Bool.Decides.{nat_tests}
use Rattle.std.specs.Option.{unwrap_or}
use Rattle.capnp_device.specs.declared.error.ErrorKind.{ErrorKind}
use Rattle.capnp_records.specs.Part.{which_of}
use Rattle.capnp_records.specs.Record as value
use Rattle.capnp_records.specs.Record.{Record, Value, Values}
use Rattle.capnp_request.specs.Steps.Seen.{list_seen}
use Rattle.capnp_request.specs.declared.handles.RequestList.{RequestList}
use Rattle.capnp_request.proofs.ListsRead.{all_left, count_left, count_of}
use Rattle.capnp_request.specs.Conversion.{declared_term, kind_declared}
use Rattle.capnp_request.specs.Parts.{request_read_at}
use Rattle.capnp_request.specs.Reading.{by_member, declaration_said, enumerant_said, enumerants_said, list_or, list_said, node_kinds, node_said, number_in, struct_said, text_term, truth_in, list_value_count}
use Rattle.capnp_request.specs.Terms.{AnnotationNode, EnumNode, NodeKind, OtherNode, SchemaNode, StructNode}
use Rattle.capnp_request.specs.Types.{is_enum, is_root, is_struct_kind}
use Rattle.capnp_request.specs.Steps.Types.{is_annotation}

pub node_id : (r : Record) → (node_said r).id ≡ number_in (request_read_at 2 0 r)
unfolding node_said
node_id r = refl

pub node_name : (r : Record) → (node_said r).display_name ≡ text_term (request_read_at 2 1 r)
unfolding node_said
node_name r = refl

pub node_scope : (r : Record) → (node_said r).scope ≡ number_in (request_read_at 2 2 r)
unfolding node_said
node_scope r = refl

pub node_parameters : (r : Record) → (node_said r).parameters ≡ list_or Err (λ (vs : Values). Ok (list_value_count vs)) (request_read_at 2 11 r)
unfolding node_said
node_parameters r = refl

-- the same by what was read
pub id_read : (r : Record) (n : ℕ) → value.Number (pos n) ≡ request_read_at 2 0 r → (node_said r).id ≡ n
id_read r n e = node_id r ∙ ap number_in (sym e)

pub scope_read : (r : Record) (n : ℕ) → value.Number (pos n) ≡ request_read_at 2 2 r → (node_said r).scope ≡ n
scope_read r n e = node_scope r ∙ ap number_in (sym e)

pub name_read : (r : Record) (bytes : List ℕ) → value.Text bytes ≡ request_read_at 2 1 r → (node_said r).display_name ≡ Ok bytes
name_read r bytes e = node_name r ∙ ap text_term (sym e)

pub name_unread : (r : Record) (kind : ErrorKind) → value.Fault kind ≡ request_read_at 2 1 r → (node_said r).display_name ≡ Err kind
name_unread r kind e = node_name r ∙ ap text_term (sym e)

-- ---- kinds, by the active member ----

abbrev kind_at : ℕ → Value → NodeKind
kind_at i = unwrap_or (slice_get node_kinds i) (λ v. OtherNode)

kind_of : (r : Record) → (node_said r).kind ≡ by_member OtherNode node_kinds 2 (which_of r) r
unfolding node_said
kind_of r = refl

pub kind_by : (r : Record) (m i : ℕ) → which_of r ≡ Some m → m ≡ i → (node_said r).kind ≡ kind_at i (request_read_at 2 i r)
kind_by r m i which is = kind_of r ∙ (ap (λ o. by_member OtherNode node_kinds 2 o r) which ∙ ap (λ j. kind_at j (request_read_at 2 j r)) is)

pub kind_none : (r : Record) → which_of r ≡ None → (node_said r).kind ≡ OtherNode
kind_none r which = kind_of r ∙ ap (λ o. by_member OtherNode node_kinds 2 o r) which

pub struct_kind : (r s : Record) → which_of r ≡ Some 6 → value.Struct s ≡ request_read_at 2 6 r → (node_said r).kind ≡ StructNode (struct_said s)
struct_kind r s which e = kind_by r 6 6 which refl ∙ ap (kind_at 6) (sym e)

pub enum_kind : (r s : Record) → which_of r ≡ Some 7 → value.Struct s ≡ request_read_at 2 7 r → (node_said r).kind ≡ EnumNode (enumerants_said s)
enum_kind r s which e = kind_by r 7 7 which refl ∙ ap (kind_at 7) (sym e)

pub annotation_kind : (r s : Record) → which_of r ≡ Some 10 → value.Struct s ≡ request_read_at 2 10 r → (node_said r).kind ≡ AnnotationNode (declaration_said s)
annotation_kind r s which e = kind_by r 10 10 which refl ∙ ap (kind_at 10) (sym e)

-- the kind of a member by its number
abbrev kind_test : (NodeKind → Bool) → ℕ → Type 0
kind_test test n = (m : ℕ) (v : Value) → test (kind_at m v) ≡ (m == n)

struct_member : kind_test is_struct_kind 6
struct_member zero v = refl
struct_member (suc zero) v = refl
struct_member (suc (suc zero)) v = refl
struct_member (suc (suc (suc zero))) v = refl
struct_member (suc (suc (suc (suc zero)))) v = refl
struct_member (suc (suc (suc (suc (suc zero))))) v = refl
struct_member (suc (suc (suc (suc (suc (suc zero)))))) v = refl
struct_member (suc (suc (suc (suc (suc (suc (suc zero))))))) v = refl
struct_member (suc (suc (suc (suc (suc (suc (suc (suc zero)))))))) v = refl
struct_member (suc (suc (suc (suc (suc (suc (suc (suc (suc zero))))))))) v = refl
struct_member (suc (suc (suc (suc (suc (suc (suc (suc (suc (suc zero)))))))))) v = refl
struct_member (suc (suc (suc (suc (suc (suc (suc (suc (suc (suc (suc m))))))))))) v = grind (arith, nat_tests)

enum_member : kind_test is_enum 7
enum_member zero v = refl
enum_member (suc zero) v = refl
enum_member (suc (suc zero)) v = refl
enum_member (suc (suc (suc zero))) v = refl
enum_member (suc (suc (suc (suc zero)))) v = refl
enum_member (suc (suc (suc (suc (suc zero))))) v = refl
enum_member (suc (suc (suc (suc (suc (suc zero)))))) v = refl
enum_member (suc (suc (suc (suc (suc (suc (suc zero))))))) v = refl
enum_member (suc (suc (suc (suc (suc (suc (suc (suc zero)))))))) v = refl
enum_member (suc (suc (suc (suc (suc (suc (suc (suc (suc zero))))))))) v = refl
enum_member (suc (suc (suc (suc (suc (suc (suc (suc (suc (suc zero)))))))))) v = refl
enum_member (suc (suc (suc (suc (suc (suc (suc (suc (suc (suc (suc m))))))))))) v = grind (arith, nat_tests)

annotation_member : kind_test is_annotation 10
annotation_member zero v = refl
annotation_member (suc zero) v = refl
annotation_member (suc (suc zero)) v = refl
annotation_member (suc (suc (suc zero))) v = refl
annotation_member (suc (suc (suc (suc zero)))) v = refl
annotation_member (suc (suc (suc (suc (suc zero))))) v = refl
annotation_member (suc (suc (suc (suc (suc (suc zero)))))) v = refl
annotation_member (suc (suc (suc (suc (suc (suc (suc zero))))))) v = refl
annotation_member (suc (suc (suc (suc (suc (suc (suc (suc zero)))))))) v = refl
annotation_member (suc (suc (suc (suc (suc (suc (suc (suc (suc zero))))))))) v = refl
annotation_member (suc (suc (suc (suc (suc (suc (suc (suc (suc (suc zero)))))))))) v = refl
annotation_member (suc (suc (suc (suc (suc (suc (suc (suc (suc (suc (suc m))))))))))) v = grind (arith, nat_tests)

pub struct_where : (r : Record) (m : ℕ) → which_of r ≡ Some m → is_struct_kind (node_said r).kind ≡ (m == 6)
struct_where r m which = ap is_struct_kind (kind_by r m m which refl) ∙ struct_member m (request_read_at 2 m r)

pub enum_where : (r : Record) (m : ℕ) → which_of r ≡ Some m → is_enum (node_said r).kind ≡ (m == 7)
enum_where r m which = ap is_enum (kind_by r m m which refl) ∙ enum_member m (request_read_at 2 m r)

pub annotation_where : (r : Record) (m : ℕ) → which_of r ≡ Some m → is_annotation (node_said r).kind ≡ (m == 10)
annotation_where r m which = ap is_annotation (kind_by r m m which refl) ∙ annotation_member m (request_read_at 2 m r)

-- ---- what stands in the parts of kinds ----

pub enumerants_read : (k : NodeKind) (s : Record) (v : Value) → k ≡ EnumNode (enumerants_said s) → v ≡ request_read_at 4 0 s → k ≡ EnumNode (list_said 11 enumerant_said v)
unfolding enumerants_said
enumerants_read k s v e there = e ∙ ap (λ x. EnumNode (list_said 11 enumerant_said x)) (sym there)

pub enumerants_unread : (k : NodeKind) (s : Record) (kind : ErrorKind) → k ≡ EnumNode (enumerants_said s) → value.Fault kind ≡ request_read_at 4 0 s → k ≡ EnumNode (Err kind)
unfolding enumerants_said
enumerants_unread k s kind e there = e ∙ ap (λ x. EnumNode (list_said 11 enumerant_said x)) (sym there)

pub root_read : (k : NodeKind) (s : Record) (b : Bool) → k ≡ StructNode (struct_said s) → value.Truth b ≡ request_read_at 3 2 s → is_root k ≡ not b
unfolding struct_said
root_read k s b e there = ap is_root e ∙ ap (λ x. not (truth_in x)) (sym there)

pub no_root : (k : NodeKind) → is_struct_kind k ≡ false → is_root k ≡ false
no_root (StructNode part) e = cc
no_root (EnumNode enumerants) e = refl
no_root (AnnotationNode t) e = refl
no_root OtherNode e = refl

-- ---- nodes of an id ----

pub declared_by : (o : Option SchemaNode) (r s : Record) → Some (node_said r) ≡ o → (node_said r).kind ≡ AnnotationNode (declaration_said s) → declared_term o ≡ Some (declaration_said s)
declared_by o r s there is = ap declared_term (sym there) ∙ ap kind_declared is

pub undeclared : (o : Option SchemaNode) (r : Record) → Some (node_said r) ≡ o → is_annotation (node_said r).kind ≡ false → declared_term o ≡ None
undeclared o r there not = ap declared_term (sym there) ∙ go (node_said r).kind not
  where
    go : (k : NodeKind) → is_annotation k ≡ false → kind_declared k ≡ None
    go (StructNode part) e = refl
    go (EnumNode enumerants) e = refl
    go (AnnotationNode t) e = cc
    go OtherNode e = refl

-- how many parameters
pub parameters_unread : (r : Record) (kind : ErrorKind) → value.Fault kind ≡ request_read_at 2 11 r → (node_said r).parameters ≡ Err kind
parameters_unread r kind e = node_parameters r ∙ ap (list_or Err (λ (vs : Values). Ok (list_value_count vs))) (sym e)

pub parameters_read : (r : Record) (l : RequestList) → list_seen l ≡ request_read_at 2 11 r → (node_said r).parameters ≡ Ok (count_of l)
parameters_read r l e =
    node_parameters r
    ∙ (ap (list_or Err (λ (vs : Values). Ok (list_value_count vs))) (sym e)
    ∙ (ap (list_or Err (λ (vs : Values). Ok (list_value_count vs))) (all_left l) ∙ ap (λ n. Ok n) (count_left l)))
