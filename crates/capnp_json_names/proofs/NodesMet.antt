-- What meets in a set, from what does in one of its nodes or enums.
use Rattle.std.proofs.Common.{◌≡◌, ℕ, ◌+◌, ◌<◌, ◌≤◌, List, get_or, length, map, slice_get, Some, None, sym, ◌∙◌, ap, below_more, arith}
use Rattle.std.specs.Option.{option_map, unwrap_or}
use Rattle.std.proofs.lemmas.List.{length-map}
use Rattle.capnp_schema.specs.Schema.{Enum, Node, Schemas, enum_at, no_enum, no_node, node_at}
use Rattle.capnp_json_names.specs.Meetings.{EnumerantsMeet, FieldsMeet, enum_pair, enumerants_meeting, fields_meeting, node_pair}
use Rattle.capnp_json_names.specs.Met.{IsMet, enumerant_name_at, field_name_at}
use Rattle.capnp_json_names.specs.Steps.Met.{IsMetEnumerants, IsMetFields}
use Rattle.capnp_json_names.specs.declared.names.NamesMeet.{NamesMeet}
use Rattle.capnp_json_names.proofs.First.{none_first, some_first}
use Rattle.capnp_json_names.proofs.Found.{seen_one}
use Rattle.capnp_json_names.proofs.Pairs.{inside}

-- an entry of a list of the set
pub seen_there : {A B : Type 0} (f : A → B) (xs : List A) (ys : List B) (i : ℕ) (x : A) → map f xs ≡ ys → i < length xs → x ≡ get_or xs i x → slice_get ys i ≡ Some (f x)
seen_there f xs ys i x e below is = ap (λ zs. slice_get zs i) (sym e) ∙ seen_one f xs i x below is

pub seen_past : {A B : Type 0} (f : A → B) (xs : List A) (ys : List B) (i : ℕ) → map f xs ≡ ys → length xs ≤ i → length ys ≤ i
seen_past f xs ys i e past = let n = sym (ap length e) ∙ length-map xs f in omega arith

-- ---- fields ----

node_is : (set : Schemas) (n : ℕ) (x : Node) → slice_get set.nodes n ≡ Some x → node_at set n ≡ x
node_is set n x there = ap (λ o. unwrap_or o no_node) there

pub node_met : (set : Schemas) (n : ℕ) (x : Node) (m : NamesMeet) → slice_get set.nodes n ≡ Some x → ((k : ℕ) → k < n → node_pair (node_at set k) ≡ None) → IsMetFields x m → IsMet set (fields_meeting set) m
node_met set n x m there before met =
    let is = node_is set n x there in
    record {
      meeting = FieldsMeet n met.pair.0 met.pair.1;
      is = some_first (λ k. option_map (λ (p : ℕ × ℕ). FieldsMeet k p.0 p.1) (node_pair (node_at set k))) (length set.nodes) n (FieldsMeet n met.pair.0 met.pair.1) (inside set.nodes n x there)
          (ap (option_map (λ (p : ℕ × ℕ). FieldsMeet n p.0 p.1)) (ap node_pair is ∙ met.is)) (λ k below. ap (option_map (λ (p : ℕ × ℕ). FieldsMeet k p.0 p.1)) (before k below));
      place = met.place ∙ ap (λ (y : Node). y.display_name) (sym is);
      first = met.first ∙ ap (λ (y : Node). field_name_at y.fields met.pair.0) (sym is);
      second = met.second ∙ ap (λ (y : Node). field_name_at y.fields met.pair.1) (sym is);
    }

pub node_passed : (set : Schemas) (n : ℕ) (x : Node) → slice_get set.nodes n ≡ Some x → ((k : ℕ) → k < n → node_pair (node_at set k) ≡ None) → node_pair x ≡ None → (k : ℕ) → k < n + 1 → node_pair (node_at set k) ≡ None
node_passed set n x there before none =
    let P : ℕ → Type 0 = λ k. node_pair (node_at set k) ≡ None in
    below_more P n before (ap node_pair (node_is set n x there) ∙ none)

pub no_node_left : (set : Schemas) (n : ℕ) → length set.nodes ≤ n → ((k : ℕ) → k < n → node_pair (node_at set k) ≡ None) → fields_meeting set ≡ None
no_node_left set n past before =
    none_first (λ k. option_map (λ (p : ℕ × ℕ). FieldsMeet k p.0 p.1) (node_pair (node_at set k))) (length set.nodes) (λ k below. ap (option_map (λ (p : ℕ × ℕ). FieldsMeet k p.0 p.1)) (before k (omega arith)))

-- ---- enumerants ----

enum_is : (set : Schemas) (e : ℕ) (x : Enum) → slice_get set.enums e ≡ Some x → enum_at set e ≡ x
enum_is set e x there = ap (λ o. unwrap_or o no_enum) there

pub enum_met : (set : Schemas) (e : ℕ) (x : Enum) (m : NamesMeet) → slice_get set.enums e ≡ Some x → ((k : ℕ) → k < e → enum_pair (enum_at set k) ≡ None) → IsMetEnumerants x m → IsMet set (enumerants_meeting set) m
enum_met set e x m there before met =
    let is = enum_is set e x there in
    record {
      meeting = EnumerantsMeet e met.pair.0 met.pair.1;
      is = some_first (λ k. option_map (λ (p : ℕ × ℕ). EnumerantsMeet k p.0 p.1) (enum_pair (enum_at set k))) (length set.enums) e (EnumerantsMeet e met.pair.0 met.pair.1) (inside set.enums e x there)
          (ap (option_map (λ (p : ℕ × ℕ). EnumerantsMeet e p.0 p.1)) (ap enum_pair is ∙ met.is)) (λ k below. ap (option_map (λ (p : ℕ × ℕ). EnumerantsMeet k p.0 p.1)) (before k below));
      place = met.place ∙ ap (λ (y : Enum). y.display_name) (sym is);
      first = met.first ∙ ap (λ (y : Enum). enumerant_name_at y.enumerants met.pair.0) (sym is);
      second = met.second ∙ ap (λ (y : Enum). enumerant_name_at y.enumerants met.pair.1) (sym is);
    }

pub enum_passed : (set : Schemas) (e : ℕ) (x : Enum) → slice_get set.enums e ≡ Some x → ((k : ℕ) → k < e → enum_pair (enum_at set k) ≡ None) → enum_pair x ≡ None → (k : ℕ) → k < e + 1 → enum_pair (enum_at set k) ≡ None
enum_passed set e x there before none =
    let P : ℕ → Type 0 = λ k. enum_pair (enum_at set k) ≡ None in
    below_more P e before (ap enum_pair (enum_is set e x there) ∙ none)

pub no_enum_left : (set : Schemas) (e : ℕ) → length set.enums ≤ e → ((k : ℕ) → k < e → enum_pair (enum_at set k) ≡ None) → enumerants_meeting set ≡ None
no_enum_left set e past before =
    none_first (λ k. option_map (λ (p : ℕ × ℕ). EnumerantsMeet k p.0 p.1) (enum_pair (enum_at set k))) (length set.enums) (λ k below. ap (option_map (λ (p : ℕ × ℕ). EnumerantsMeet k p.0 p.1)) (before k (omega arith)))
