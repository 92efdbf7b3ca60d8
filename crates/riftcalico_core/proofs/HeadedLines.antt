-- Lines with their paths, and without; and a path as a word.
use Rattle.std.proofs.Common.{ℕ, ◌-◌, ◌<◌, ◌≤◌, List, [], ◌∷◌, ◌++◌, Bool, true, false, Result, Ok, Err, IfErr, codes, length, map, string_bytes, ap, append-nil, arith, inl, inr, refl, subst, sym, ◌≡◌, ◌≢◌, ◌∙◌}
use Rattle.std.specs.List.{join_with_byte}
use Rattle.capnp_device.specs.declared.error.ErrorKind.TheVariants.{OutOfMemory, TooLarge}
use Rattle.capnp_records.specs.Call.{PathStep}
use Rattle.capnp_words.specs.Paths.{step_word, words_of_path}
use Rattle.riftcalico_core.specs.Gets.{IsLineRefused, IsQueryLine, IsQueryRefused, IsQueryText, heading}
use Rattle.riftcalico_core.specs.Notes.{words_behind_points}
use Rattle.riftcalico_core.specs.Queries.{Query, query_words}
use Rattle.riftcalico_core.specs.declared.fault.Fault.{Fault}
use Rattle.riftcalico_core.specs.declared.job.GetJob.{GetJob}

-- ---- a path as a word ----

joined : (s : PathStep) (ss : List PathStep) → join_with_byte 46 (map step_word (s ∷ ss)) ≡ step_word s ++ words_behind_points ss
joined s [] = sym (append-nil (step_word s))
joined s (t ∷ ts) = ap (λ (ws : List ℕ). step_word s ++ 46 ∷ ws) (joined t ts)

pub without_point : (path : List PathStep) (word : List ℕ) → words_behind_points path ≡ 46 ∷ word → word ≡ words_of_path path
without_point [] word e = absurd (none e)
  where
    none : [] ≡ 46 ∷ word → ⊥
    none h = cc
without_point (s ∷ ss) word e = sym (ap behind_first e) ∙ sym (joined s ss)
  where
    behind_first : List ℕ → List ℕ
    behind_first [] = []
    behind_first (x ∷ xs) = xs

pub no_point : (path : List PathStep) → ((word : List ℕ) → words_behind_points path ≢ 46 ∷ word) → 46 ∷ [] ≡ words_of_path path
no_point [] none = refl
no_point (s ∷ ss) none = absurd (none (step_word s ++ words_behind_points ss) refl)

-- ---- a line ----

heading_is : (w : Bool) (q : Query) (h : List ℕ) → w ≡ true → h ≡ query_words q ++ codes ": " → h ≡ heading w q
heading_is w q h is e = e ∙ ap (λ (b : Bool). heading b q) (sym is)

module _ (j : GetJob) (bytes : List ℕ) (q : Query) where
  module _ (h : List ℕ) (w : j.with_paths ≡ true) (e : h ≡ query_words q ++ codes ": ") where
    pub headed : (text line : List ℕ) → IsQueryText j bytes q text → line ≡ h ++ text → IsQueryLine j bytes q line
    headed text line is l = record { text = text; is = is; line_is = l ∙ ap (λ (x : List ℕ). x ++ text) (heading_is j.with_paths q h w e) }

    pub long_heading : (limit : ℕ) (f : Fault) → limit < length h → f.error.kind ≡ TooLarge → string_bytes f.note ≡ [] → IsLineRefused limit j bytes q f
    long_heading limit f long kind note = inl (record { kind = kind; longer = subst (λ (x : List ℕ). limit < length x) (heading_is j.with_paths q h w e) long; note = note })

    pub no_text : (limit : ℕ) (f : Fault) → length h ≤ limit → IsQueryRefused (limit - length h) j bytes q f → IsLineRefused limit j bytes q f
    no_text limit f fits r =
        let is = heading_is j.with_paths q h w e in
        inr (record { fits = subst (λ (x : List ℕ). length x ≤ limit) is fits; refused = subst (λ (x : List ℕ). IsQueryRefused (limit - length x) j bytes q f) is r })

  module _ (w : j.with_paths ≡ false) where
    none_heading : [] ≡ heading j.with_paths q
    none_heading = ap (λ (b : Bool). heading b q) (sym w)

    pub unheaded : (text : List ℕ) → IsQueryText j bytes q text → IsQueryLine j bytes q text
    unheaded text is = record { text = text; is = is; line_is = ap (λ (x : List ℕ). x ++ text) none_heading }

    no_text_alone : (limit : ℕ) (f : Fault) → IsQueryRefused limit j bytes q f → IsLineRefused limit j bytes q f
    no_text_alone limit f r =
        let all : limit ≡ limit - 0 = omega arith in
        let fits : length (heading j.with_paths q) ≤ limit = subst (λ (x : List ℕ). length x ≤ limit) none_heading (omega arith) in
        let refused : IsQueryRefused (limit - length (heading j.with_paths q)) j bytes q f =
        subst (λ (x : List ℕ). IsQueryRefused (limit - length x) j bytes q f) none_heading (subst (λ (n : ℕ). IsQueryRefused n j bytes q f) all r) in
        inr (record { fits = fits; refused = refused })

    pub all_refused : {A : Type 0} (limit : ℕ) (r : Result A Fault) → IfErr r (λ f. f.error.kind ≢ OutOfMemory → IsQueryRefused limit j bytes q f) → IfErr r (λ f. f.error.kind ≢ OutOfMemory → IsLineRefused limit j bytes q f)
    all_refused limit (Ok x) h = h
    all_refused limit (Err f) h = λ memory. no_text_alone limit f (h memory)
