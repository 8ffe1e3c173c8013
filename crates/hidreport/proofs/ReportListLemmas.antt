-- The report with an id by its place in the list.
use Rattle.std.proofs.Common.{◌≡◌, ℕ, suc, ◌+◌, ◌<◌, ◌≤◌, Bool, true, false, cond, List, [], ◌∷◌}
use Rattle.std.proofs.Common.{◌++◌, length, get_or, set, Option, None, Some, IfSome, refl, sym, ap}
use Rattle.std.proofs.Common.{◌∙◌, arith}
use Rattle.std.specs.Prelude.{IsSomeAnd}
use Rattle.std.proofs.lemmas.Grind.{common_steps}
use Rattle.hidreport.specs.Parser.Ids.{AllBelow}
use Rattle.hidreport.specs.Parser.Machine.{added_to, index_in, size_in}
use Rattle.hidreport_fields.specs.ReportIds.{same_key}
use Rattle.hidreport_fields.specs.ReportIds.{id_bits}
use Rattle.hidreport_fields.specs.Records.{ReportOf}
use Rattle.hidreport.proofs.ReportLemmas.{same_key-refl}

-- a report with more bits and fields
abbrev pub extended : {A : Type 0} → ReportOf A → ℕ → List A → ReportOf A
extended r bits fields = record { id = r.id; size = r.size + bits; fields = r.fields ++ fields }

added-by : {A : Type 0} (b : Bool) (key : Option ℕ) (bits : ℕ) (fields : List A) (r : ReportOf A)
    (rs : List (ReportOf A)) (i : ℕ) (d : ReportOf A)
    → same_key r.id key ≡ b → i ≡ cond b 0 (suc (index_in key rs)) → i < suc (length rs)
    → (index_in key rs < length rs
    → added_to key bits fields rs ≡ set rs (index_in key rs)
    (extended (get_or rs (index_in key rs) d) bits fields))
    → added_to key bits fields (r ∷ rs) ≡ set (r ∷ rs) i
    (extended (get_or (r ∷ rs) i d) bits fields)
added-by true key bits fields r rs i d s e lt rest =
    ap (λ b. cond b (extended r bits fields ∷ rs) (r ∷ added_to key bits fields rs)) s
    ∙ ap (λ n. set (r ∷ rs) n (extended (get_or (r ∷ rs) n d) bits fields)) (sym e)
added-by false key bits fields r rs i d s e lt rest =
    let below : index_in key rs < length rs = omega arith in
    ap (λ b. cond b (extended r bits fields ∷ rs) (r ∷ added_to key bits fields rs)) s
    ∙ ap (λ l. r ∷ l) (rest below)
    ∙ ap (λ n. set (r ∷ rs) n (extended (get_or (r ∷ rs) n d) bits fields)) (sym e)

-- where the report is there it is extended in its place
pub added_to-at : {A : Type 0} (key : Option ℕ) (bits : ℕ) (fields : List A) (rs : List (ReportOf A))
    (i : ℕ) (d : ReportOf A)
    → i ≡ index_in key rs → i < length rs
    → added_to key bits fields rs ≡ set rs i (extended (get_or rs i d) bits fields)
added_to-at key bits fields [] i d e lt = absurd (omega arith)
added_to-at key bits fields (r ∷ rs) i d e lt =
    added-by (same_key r.id key) key bits fields r rs i d refl e lt
    (λ below. added_to-at key bits fields rs (index_in key rs) d refl below)

new-by : {A : Type 0} (b : Bool) (key : Option ℕ) (bits : ℕ) (fields : List A) (r : ReportOf A)
    (rs : List (ReportOf A))
    → same_key r.id key ≡ b → suc (length rs) ≤ cond b 0 (suc (index_in key rs))
    → (length rs ≤ index_in key rs
    → (added_to key bits fields rs ≡ rs ++ record
    { id = key; size = id_bits key + bits; fields = fields } ∷ []) ×
    (size_in key rs ≡ id_bits key))
    → (added_to key bits fields (r ∷ rs) ≡ r ∷ rs ++ record
    { id = key; size = id_bits key + bits; fields = fields } ∷ []) ×
    (size_in key (r ∷ rs) ≡ id_bits key)
new-by true key bits fields r rs s le rest = absurd (omega arith)
new-by false key bits fields r rs s le rest =
    let below : length rs ≤ index_in key rs = omega arith in
    let both = rest below in (
      ap (λ b. cond b (extended r bits fields ∷ rs) (r ∷ added_to key bits fields rs)) s
          ∙ ap (λ l. r ∷ l) both.0,
      ap (λ b. cond b r.size (size_in key rs)) s ∙ both.1,
    )

-- where it isn't, it is made behind the others
pub added_to-new : {A : Type 0} (key : Option ℕ) (bits : ℕ) (fields : List A) (rs : List (ReportOf A))
    → length rs ≤ index_in key rs
    → (added_to key bits fields rs ≡ rs ++ record
    { id = key; size = id_bits key + bits; fields = fields } ∷ []) ×
    (size_in key rs ≡ id_bits key)
added_to-new key bits fields [] le = (refl, refl)
added_to-new key bits fields (r ∷ rs) le =
    new-by (same_key r.id key) key bits fields r rs refl le (added_to-new key bits fields rs)

size-by : {A : Type 0} (b : Bool) (key : Option ℕ) (r : ReportOf A) (rs : List (ReportOf A)) (i : ℕ)
    (d : ReportOf A)
    → same_key r.id key ≡ b → i ≡ cond b 0 (suc (index_in key rs)) → i < suc (length rs)
    → (index_in key rs < length rs → size_in key rs ≡ (get_or rs (index_in key rs) d).size)
    → size_in key (r ∷ rs) ≡ (get_or (r ∷ rs) i d).size
size-by true key r rs i d s e lt rest = ap (λ b. cond b r.size (size_in key rs)) s
    ∙ ap (λ n. (get_or (r ∷ rs) n d).size) (sym e)
size-by false key r rs i d s e lt rest =
    let below : index_in key rs < length rs = omega arith in
    ap (λ b. cond b r.size (size_in key rs)) s ∙ rest below
    ∙ ap (λ n. (get_or (r ∷ rs) n d).size) (sym e)

-- its size is where it ends
pub size_in-at : {A : Type 0} (key : Option ℕ) (rs : List (ReportOf A)) (i : ℕ) (d : ReportOf A)
    → i ≡ index_in key rs → i < length rs → size_in key rs ≡ (get_or rs i d).size
size_in-at key [] i d e lt = absurd (omega arith)
size_in-at key (r ∷ rs) i d e lt =
    size-by (same_key r.id key) key r rs i d refl e lt
    (λ below. size_in-at key rs (index_in key rs) d refl below)

-- the same, of the report that stands there
pub added_to-found : {A : Type 0} (key : Option ℕ) (bits : ℕ) (fields : List A)
    (rs : List (ReportOf A)) (i : ℕ) (r : ReportOf A)
    → i ≡ index_in key rs → i < length rs → r ≡ get_or rs i r
    → (added_to key bits fields rs ≡ set rs i (extended r bits fields)) × (size_in key rs ≡ r.size)
added_to-found {A} key bits fields rs i r e lt here = (
  added_to-at key bits fields rs i r e lt
      ∙ ap (λ z. set rs i (extended z bits fields)) (sym here),
  size_in-at key rs i r e lt
      ∙ ap (λ (z : ReportOf A). z.size) (sym here),
)

index-by : {A : Type 0} (b : Bool) (key : Option ℕ) (bits : ℕ) (fields : List A) (r : ReportOf A)
    (rs : List (ReportOf A)) → same_key r.id key ≡ b
    → index_in key (added_to key bits fields rs) ≡ index_in key rs
    → index_in key (added_to key bits fields (r ∷ rs)) ≡ index_in key (r ∷ rs)
index-by true key bits fields r rs s rest =
    ap (λ b. index_in key (cond b (extended r bits fields ∷ rs) (r ∷ added_to key bits fields rs)))
    s
    ∙ ap (λ b. cond b 0 (suc (index_in key rs))) (s ∙ sym s)
index-by false key bits fields r rs s rest =
    ap (λ b. index_in key (cond b (extended r bits fields ∷ rs) (r ∷ added_to key bits fields rs)))
    s
    ∙ ap (λ n. cond (same_key r.id key) 0 (suc n)) rest

-- a report keeps its place when fields are added to it
pub index_in-added : {A : Type 0} (key : Option ℕ) (bits : ℕ) (fields : List A)
    (rs : List (ReportOf A)) → index_in key (added_to key bits fields rs) ≡ index_in key rs
index_in-added key bits fields [] = ap (λ b. cond b 0 1) (same_key-refl key)
index_in-added key bits fields (r ∷ rs) =
    index-by (same_key r.id key) key bits fields r rs refl (index_in-added key bits fields rs)

absent-by : {A : Type 0} (b c : Bool) (key : Option ℕ) (bits : ℕ) (fields : List A) (n : ℕ)
    (r : ReportOf A) (rs : List (ReportOf A))
    → same_key r.id (Some n) ≡ b → same_key r.id key ≡ c
    → cond b 0 (suc (index_in (Some n) rs)) ≡ suc (length rs)
    → (index_in (Some n) rs ≡ length rs
    → index_in (Some n) (added_to key bits fields rs) ≡ length (added_to key bits fields rs))
    → index_in (Some n) (added_to key bits fields (r ∷ rs)) ≡ length
    (added_to key bits fields (r ∷ rs))
absent-by true c key bits fields n r rs s t e rest = absurd (omega (arith, e))
absent-by false true key bits fields n r rs s t e rest =
    ap (λ b. index_in (Some n) (cond b (extended r bits fields ∷ rs)
    (r ∷ added_to key bits fields rs))) t
    ∙ ap (λ b. cond b 0 (suc (index_in (Some n) rs))) s ∙ e
    ∙ sym (ap (λ b. length (cond b (extended r bits fields ∷ rs) (r ∷ added_to key bits fields rs)))
    t)
absent-by false false key bits fields n r rs s t e rest =
    let tail : index_in (Some n) rs ≡ length rs = omega (arith, e) in
    ap (λ b. index_in (Some n) (cond b (extended r bits fields ∷ rs)
    (r ∷ added_to key bits fields rs))) t
    ∙ ap (λ b. cond b 0 (suc (index_in (Some n) (added_to key bits fields rs)))) s
    ∙ ap suc (rest tail)
    ∙ sym (ap (λ b. length (cond b (extended r bits fields ∷ rs) (r ∷ added_to key bits fields rs)))
    t)

-- a report with another id that isn't there isn't there behind more fields either
absent-added : {A : Type 0} (key : Option ℕ) (bits : ℕ) (fields : List A) (n : ℕ)
    (rs : List (ReportOf A)) → same_key key (Some n) ≡ false
    → index_in (Some n) rs ≡ length rs
    → index_in (Some n) (added_to key bits fields rs) ≡ length (added_to key bits fields rs)
absent-added key bits fields n [] other e = ap (λ b. cond b 0 1) other
absent-added key bits fields n (r ∷ rs) other e =
    absent-by (same_key r.id (Some n)) (same_key r.id key) key bits fields n r rs refl refl e
    (absent-added key bits fields n rs other)

other-key : (key : Option ℕ) (bound n : ℕ) → IfSome key (λ id. id < bound) → bound ≤ n
    → same_key key (Some n) ≡ false
other-key None bound n less le = refl
other-key (Some id) bound n less le = grind (arith, common_steps, less, le)

-- the ids stay below a bound that the new one is below too
pub below-added : {A : Type 0} (old new : Option ℕ) (key : Option ℕ) (bits : ℕ) (fields : List A)
    (rs : List (ReportOf A)) → IfSome old (λ bound. AllBelow bound rs)
    → IfSome new (λ above. IsSomeAnd old (λ bound. (bound ≤ above) × IfSome key (λ id. id < above)))
    → IfSome new (λ above. AllBelow above (added_to key bits fields rs))
below-added old None key bits fields rs known wider = tt
below-added None (Some above) key bits fields rs known wider = absurd wider
below-added (Some bound) (Some above) key bits fields rs known wider = λ n le.
    absent-added key bits fields n rs (other-key key above n wider.1 le)
    (known n (omega (arith, wider.0, le)))
