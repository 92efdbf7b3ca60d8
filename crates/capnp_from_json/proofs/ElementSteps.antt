-- Elements one after another, by the bounds of their definition.
use Rattle.std.proofs.Common.{ℕ, zero, suc, ◌≡◌, ◌+◌, ◌-◌, ◌<◌, ◌≤◌, List, [], ◌∷◌, ◌++◌, length, refl, sym, ap, ◌∙◌, arith, Some, None, Ok, Err, append_assoc}
use Rattle.std.specs.Prelude.{pos}
use Rattle.capnp_records.specs.Record as value
use Rattle.capnp_records.specs.Record.{Value, Values, NoValues, MoreValues}
use Rattle.capnp_json_text.specs.Values.{Json, Elements, NoElement, Element, elements_within, following_item}
use Rattle.capnp_from_json.specs.Errors.{IsErrorOf, Read, refused}
use Rattle.capnp_from_json.specs.ElementReads.{behind, bytes_read}
use Rattle.capnp_from_json.specs.LeafReads.{past_format}
use Rattle.capnp_from_json.specs.declared.error.RefusalKind.TheVariants.{SizePastFormat}
use Rattle.capnp_json_fields.specs.declared.fields.DataForm.TheVariants.{Array}
use Rattle.std.proofs.lemmas.Bool.{le-ltb, lt-ltb}
use Rattle.capnp_from_json.specs.Records.{Rules, as_data, byte_target, bytes_of, data_array, element_count, elements_of_json, first_of_two, unless, value_of_json}
use Rattle.capnp_from_json.specs.declared.error.Refusal.{Refusal}
use Rattle.capnp_from_json.specs.declared.error.Error.{Error}
use Rattle.capnp_from_json.specs.declared.error.Error.TheVariants as error

none_there : (json : List ℕ → Json) (n : ℕ) → element_count (elements_within json n None) ≡ 0
none_there json zero = refl
none_there json (suc n) = refl

pub count_more : (json : List ℕ → Json) (whole count : ℕ) (rest next : List ℕ) (total : ℕ) → count < whole → following_item rest ≡ Some next
    → count + element_count (elements_within json (suc (whole - count)) (Some rest)) ≡ total
    → count + 1 + element_count (elements_within json (suc (whole - (count + 1))) (Some next)) ≡ total
count_more json whole count rest next total l f h =
    let e : element_count (elements_within json (whole - count) (following_item rest)) ≡ element_count (elements_within json (suc (whole - (count + 1))) (Some next)) =
    ap (λ o. element_count (elements_within json (whole - count) o)) f
    ∙ ap (λ n. element_count (elements_within json n (Some next))) (let x : whole - count ≡ suc (whole - (count + 1)) = omega arith in x) in
    let g : count + suc (element_count (elements_within json (whole - count) (following_item rest))) ≡ total = h in
    omega arith

pub count_last : (json : List ℕ → Json) (whole count : ℕ) (rest : List ℕ) (total : ℕ) → following_item rest ≡ None
    → count + element_count (elements_within json (suc (whole - count)) (Some rest)) ≡ total → count + 1 ≡ total
count_last json whole count rest total f h =
    let e : element_count (elements_within json (whole - count) (following_item rest)) ≡ 0 =
    ap (λ o. element_count (elements_within json (whole - count) o)) f ∙ none_there json (whole - count) in
    let g : count + suc (element_count (elements_within json (whole - count) (following_item rest))) ≡ total = h in
    omega arith

-- ---- bytes ----

pub nothing_before : (r : Read (List ℕ)) → r ≡ behind [] r
nothing_before (Ok bs) = refl
nothing_before (Err refusal) = refl

one_byte : (n : ℕ) (vs : Read Values) → bytes_read (first_of_two (Ok (value.Number (pos n))) vs) ≡ behind (n ∷ []) (bytes_read vs)
one_byte n (Ok vs) = refl
one_byte n (Err refusal) = refl

two_fronts : (front more : List ℕ) (r : Read (List ℕ)) → behind front (behind more r) ≡ behind (front ++ more) r
two_fronts front more (Ok bs) = ap Ok (sym (append_assoc front more bs))
two_fronts front more (Err refusal) = refl

no_elements : (rules : Rules) (json : List ℕ → Json) (n levels : ℕ) → bytes_read (elements_of_json rules (elements_within json n None) levels byte_target) ≡ Ok []
no_elements rules json zero levels = refl
no_elements rules json (suc n) levels = refl

nothing_behind : (xs : List ℕ) → xs ++ [] ≡ xs
nothing_behind [] = refl
nothing_behind (x ∷ xs) = ap (λ ys. x ∷ ys) (nothing_behind xs)

module _ (rules : Rules) (json : List ℕ → Json) (levels n : ℕ) (rest : List ℕ) (front : List ℕ) (all : Read (List ℕ))
    (h : all ≡ behind front (bytes_read (elements_of_json rules (elements_within json (suc n) (Some rest)) levels byte_target))) where
  pub byte_more : (byte : ℕ) → value_of_json rules (json rest) levels byte_target ≡ Ok (value.Number (pos byte))
      → all ≡ behind (front ++ byte ∷ []) (bytes_read (elements_of_json rules (elements_within json n (following_item rest)) levels byte_target))
  byte_more byte e =
      let others : Read Values = elements_of_json rules (elements_within json n (following_item rest)) levels byte_target in
      h ∙ ap (λ v. behind front (bytes_read (first_of_two v others))) e ∙ ap (behind front) (one_byte byte others) ∙ two_fronts front (byte ∷ []) (bytes_read others)

  pub byte_refused : (refusal : Refusal) → value_of_json rules (json rest) levels byte_target ≡ Err refusal → all ≡ Err refusal
  byte_refused refusal e =
      let others : Read Values = elements_of_json rules (elements_within json n (following_item rest)) levels byte_target in
      h ∙ ap (λ v. behind front (bytes_read (first_of_two v others))) e

  pub error_goes_on : (e : Error) → IsErrorOf (value_of_json rules (json rest) levels byte_target) e → IsErrorOf all e
  error_goes_on error.OutOfMemory i = tt
  error_goes_on error.TooLarge i = i
  error_goes_on (error.Refused refusal) i = byte_refused refusal i

  pub last_byte : (byte : ℕ) → value_of_json rules (json rest) levels byte_target ≡ Ok (value.Number (pos byte)) → following_item rest ≡ None → all ≡ Ok (front ++ byte ∷ [])
  last_byte byte e f =
      byte_more byte e ∙ ap (λ o. behind (front ++ byte ∷ []) (bytes_read (elements_of_json rules (elements_within json n o) levels byte_target))) f
      ∙ ap (behind (front ++ byte ∷ [])) (no_elements rules json n levels) ∙ ap Ok (nothing_behind (front ++ byte ∷ []))

  -- with one element less that may follow
  pub next_byte : (byte : ℕ) → value_of_json rules (json rest) levels byte_target ≡ Ok (value.Number (pos byte)) → (next : List ℕ) → following_item rest ≡ Some next → (m : ℕ) → n ≡ suc m
      → all ≡ behind (front ++ byte ∷ []) (bytes_read (elements_of_json rules (elements_within json (suc m) (Some next)) levels byte_target))
  next_byte byte e next f m l =
      byte_more byte e ∙ ap (λ o. behind (front ++ byte ∷ []) (bytes_read (elements_of_json rules (elements_within json n o) levels byte_target))) f
      ∙ ap (λ k. behind (front ++ byte ∷ []) (bytes_read (elements_of_json rules (elements_within json k (Some next)) levels byte_target))) l

-- ---- data ----

same_bytes : (a b : List ℕ) → ◌≡◌ {A = Read (List ℕ)} (Ok a) (Ok b) → a ≡ b
same_bytes a b e = cc

no_bytes : (r : Refusal) (b : List ℕ) → ◌≡◌ {A = Read (List ℕ)} (Err r) (Ok b) → ⊥
no_bytes r b e = cc

same_refusal : (a b : Refusal) → ◌≡◌ {A = Read (List ℕ)} (Err a) (Err b) → a ≡ b
same_refusal a b e = cc

same_values : (a b : Values) → ◌≡◌ {A = Read Values} (Ok a) (Ok b) → a ≡ b
same_values a b e = cc

no_values : (r : Refusal) (b : Values) → ◌≡◌ {A = Read Values} (Err r) (Ok b) → ⊥
no_values r b e = cc

read_as : (place n : ℕ) (vs : Read Values) (bytes : List ℕ) → bytes_read vs ≡ Ok bytes → as_data vs ≡ Ok (value.Data bytes)
read_as place n (Ok vs) bytes h = let e : bytes_of vs ≡ bytes = same_bytes (bytes_of vs) bytes h in ap (λ b. Ok (value.Data b)) e
read_as place n (Err refusal) bytes h = absurd (no_bytes refusal bytes h)

refused_as : (vs : Read Values) (refusal : Refusal) → bytes_read vs ≡ Err refusal → as_data vs ≡ Err refusal
refused_as (Ok vs) refusal h = absurd (no_bytes refusal (bytes_of vs) (sym h))
refused_as (Err other) refusal h = ap Err (same_refusal other refusal h)

elements_counted : (rules : Rules) (es : Elements) (levels : ℕ) (vs : Values) → elements_of_json rules es levels byte_target ≡ Ok vs → length (bytes_of vs) ≡ element_count es
elements_counted rules NoElement levels vs h = ap (λ v. length (bytes_of v)) (sym (same_values NoValues vs h))
elements_counted rules (Element j es) levels vs h = counted_two (value_of_json rules j levels byte_target) (elements_of_json rules es levels byte_target) (elements_counted rules es levels) h
  where
    counted_two : (v : Read Value) (rest : Read Values) → ((ws : Values) → rest ≡ Ok ws → length (bytes_of ws) ≡ element_count es) → first_of_two v rest ≡ Ok vs → length (bytes_of vs) ≡ suc (element_count es)
    counted_two (Ok v) (Ok ws) k g = ap (λ x. length (bytes_of x)) (sym (same_values (MoreValues v ws) vs g)) ∙ ap suc (k ws refl)
    counted_two (Ok v) (Err refusal) k g = absurd (no_values refusal vs g)
    counted_two (Err refusal) rest k g = absurd (no_values refusal vs g)

read_values : (vs : Read Values) (bytes : List ℕ) → bytes_read vs ≡ Ok bytes → (ws : Values) × (vs ≡ Ok ws) × (bytes_of ws ≡ bytes)
read_values (Ok vs) bytes h = (vs, refl, same_bytes (bytes_of vs) bytes h)
read_values (Err refusal) bytes h = absurd (no_bytes refusal bytes h)

module _ (rules : Rules) (es : Elements) (place levels : ℕ) where
  pub all_data : (bytes : List ℕ) → bytes_read (elements_of_json rules es levels byte_target) ≡ Ok bytes → length bytes ≤ 536870911
      → data_array place Array (element_count es) (elements_of_json rules es levels byte_target) ≡ Ok (value.Data bytes)
  all_data bytes h l =
      let w : (ws : Values) × (elements_of_json rules es levels byte_target ≡ Ok ws) × (bytes_of ws ≡ bytes) = read_values (elements_of_json rules es levels byte_target) bytes h in
      let n : element_count es ≡ length bytes = sym (elements_counted rules es levels w.0 w.1) ∙ ap length w.2 in
      ap (λ b. unless b (refused SizePastFormat place) (as_data (elements_of_json rules es levels byte_target))) (le-ltb 536870911 (element_count es) (let m : element_count es ≤ 536870911 = omega arith in m))
      ∙ read_as place 0 (elements_of_json rules es levels byte_target) bytes h

  pub much_data : (count : ℕ) → count ≡ element_count es → 536870911 < count
      → data_array place Array (element_count es) (elements_of_json rules es levels byte_target) ≡ Err (past_format place)
  much_data count n l =
      ap (λ b. unless b (refused SizePastFormat place) (as_data (elements_of_json rules es levels byte_target))) (lt-ltb 536870911 (element_count es) (let m : 536870911 < element_count es = omega arith in m))

  pub much_read : (bytes : List ℕ) → bytes_read (elements_of_json rules es levels byte_target) ≡ Ok bytes → 536870911 < length bytes
      → data_array place Array (element_count es) (elements_of_json rules es levels byte_target) ≡ Err (past_format place)
  much_read bytes h l =
      let w : (ws : Values) × (elements_of_json rules es levels byte_target ≡ Ok ws) × (bytes_of ws ≡ bytes) = read_values (elements_of_json rules es levels byte_target) bytes h in
      much_data (length bytes) (sym (sym (elements_counted rules es levels w.0 w.1) ∙ ap length w.2)) l

  pub data_refused : (refusal : Refusal) (count : ℕ) → count ≡ element_count es → count ≤ 536870911 → bytes_read (elements_of_json rules es levels byte_target) ≡ Err refusal
      → data_array place Array (element_count es) (elements_of_json rules es levels byte_target) ≡ Err refusal
  data_refused refusal count n l h =
      ap (λ b. unless b (refused SizePastFormat place) (as_data (elements_of_json rules es levels byte_target))) (le-ltb 536870911 (element_count es) (let m : element_count es ≤ 536870911 = omega arith in m))
      ∙ refused_as (elements_of_json rules es levels byte_target) refusal h
