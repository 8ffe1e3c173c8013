-- What is announced under a limit weighs no more than it.
use Rattle.std.proofs.Common.{◌≡◌, ℕ, ◌+◌, ◌-◌, ◌≤◌, Bool, true, false, cond, ◌&&◌, List, [], ◌∷◌}
use Rattle.std.proofs.Common.{◌++◌, Option, None, Some, IfSome, is_some, Result, Ok, Err, refl}
use Rattle.std.proofs.Common.{sym, ap}
use Rattle.std.proofs.Common.{◌∙◌, arith}
use Rattle.std.specs.Prelude.{nat_lt, sum_by}
use Rattle.std.proofs.lemmas.Bool.Decides.{nat_tests}
use Rattle.std.proofs.lemmas.Grind.{common_steps}
use Rattle.std.proofs.lemmas.List.Sums.{sum_by-append, sum_by-cons}
use Rattle.hidreport_items.specs.Answer.{GrammarFault}
use Rattle.hidreport_items.specs.Flags.{Flags}
use Rattle.hidreport_items.specs.Spelling.{item_of}
use Rattle.hidreport_items.specs.declared.item.ItemType.{ItemType}
use Rattle.hidreport_lists.specs.Entry.{Entry}
use Rattle.hidreport_lists.specs.Itemising.{itemise}
use Rattle.hidreport_lists.specs.Rebuilt.{items_of}
use Rattle.hidreport.specs.Budget.{is_faulty_by, meaning_within_by, parse_items_within}
use Rattle.hidreport.specs.Budget.{parse_within_by, unless_past}
use Rattle.hidreport.specs.Fields.{fields_of}
use Rattle.hidreport.specs.ItemState.{first_of}
use Rattle.hidreport.specs.Kinds.{Indexed, Direction, Input, Output, Feature, data_of, goes}
use Rattle.hidreport.specs.Making.{extent}
use Rattle.hidreport_fields.specs.ReportIds.{same_key}
use Rattle.hidreport.specs.Meaning.{InForce, at_offset, meaning_by, parse_by, parse_items}
use Rattle.hidreport.specs.MeaningFault.{MeaningFault, BudgetExceeded}
use Rattle.hidreport.specs.Options.{parse_limited, reading_of}
use Rattle.hidreport.specs.Parser.Budget.{past_fault, walk_within, weight_in, weight_made_in}
use Rattle.hidreport.specs.Parser.Machine.{StateRecord, added_to, adds, fault_in, go_on, key_in}
use Rattle.hidreport.specs.Parser.Machine.{next_state}
use Rattle.hidreport_fields.specs.Lookup.{reports_of}
use Rattle.hidreport.specs.Parser.Machine.{next_reports, first_state, start_in}
use Rattle.hidreport.specs.Parser.Machine.{unless_fault}
use Rattle.hidreport.specs.Places.{bits_of}
use Rattle.hidreport_fields.specs.Records.{DescriptorRecord, FieldRecord, ReportRecord}
use Rattle.hidreport.specs.declared.parse_options.ParseOptions.{ParseOptions}
use Rattle.hidreport.specs.Weight.{descriptor_weight, field_weight, first_past, report_weight}
use Rattle.hidreport.proofs.BudgetWalkLemmas.{walk-within}

-- fields add their weight to the report that they go to
added-by : (b : Bool) (id : Option ℕ) (bits : ℕ) (fields : List FieldRecord) (r : ReportRecord)
    (rs : List ReportRecord) → same_key r.id id ≡ b
    → sum_by report_weight (added_to id bits fields rs) ≡ sum_by report_weight rs + sum_by
    field_weight fields
    → sum_by report_weight (added_to id bits fields (r ∷ rs)) ≡ sum_by report_weight (r ∷ rs) +
    sum_by field_weight fields
added-by true id bits fields r rs same rest =
    let longer : ReportRecord = record
    { id = r.id; size = r.size + bits; fields = r.fields ++ fields } in
    let step : sum_by report_weight (added_to id bits fields (r ∷ rs)) ≡ sum_by report_weight
    (longer ∷ rs) = ap (λ b. sum_by report_weight
    (cond b (longer ∷ rs) (r ∷ added_to id bits fields rs))) same in
    let here : report_weight longer ≡ report_weight r + sum_by field_weight fields =
    sum_by-append field_weight r.fields fields in
    let new = sum_by-cons report_weight longer rs in
    let old = sum_by-cons report_weight r rs in
    omega (arith, step, here, new, old)
added-by false id bits fields r rs same rest =
    let longer : ReportRecord = record
    { id = r.id; size = r.size + bits; fields = r.fields ++ fields } in
    let step : sum_by report_weight (added_to id bits fields (r ∷ rs)) ≡ sum_by report_weight
    (r ∷ added_to id bits fields rs) =
    ap (λ b. sum_by report_weight (cond b (longer ∷ rs) (r ∷ added_to id bits fields rs)))
    same in
    let new = sum_by-cons report_weight r (added_to id bits fields rs) in
    let old = sum_by-cons report_weight r rs in
    omega (arith, step, rest, new, old)

added-weight : (id : Option ℕ) (bits : ℕ) (fields : List FieldRecord) (rs : List ReportRecord)
    → sum_by report_weight (added_to id bits fields rs) ≡ sum_by report_weight rs + sum_by
    field_weight fields
added-weight id bits fields [] = grind (arith, common_steps)
added-weight id bits fields (r ∷ rs) =
    added-by (same_key r.id id) id bits fields r rs refl (added-weight id bits fields rs)

-- in a direction, the reports weigh at most what the item's fields weigh more
next-by : (b : Bool) (d : Direction) (h : StateRecord) (x : ItemType) → adds d h x ≡ b
    → sum_by report_weight (next_reports d h x)
    ≡ sum_by report_weight (reports_of d h.descriptor) + cond b
    (sum_by field_weight (fields_of h.item_state h.opened h.fields (start_in d h) (data_of x)
    (extent h.item_state))) 0
next-by b d h x is =
    let fields = fields_of h.item_state h.opened h.fields (start_in d h) (data_of x)
    (extent h.item_state) in
    ap (λ b. sum_by report_weight (cond b
    (added_to (key_in d h) (bits_of (extent h.item_state)) fields (reports_of d h.descriptor))
    (reports_of d h.descriptor))) is
    ∙ heavier b (key_in d h) (bits_of (extent h.item_state)) fields (reports_of d h.descriptor) where
      heavier : (b : Bool) (id : Option ℕ) (bits : ℕ) (fields : List FieldRecord)
          (rs : List ReportRecord)
          → sum_by report_weight (cond b (added_to id bits fields rs) rs)
          ≡ sum_by report_weight rs + cond b (sum_by field_weight fields) 0
      heavier true id bits fields rs = added-weight id bits fields rs
      heavier false id bits fields rs = omega arith

-- the fields go to one direction
abbrev made_in : Direction → StateRecord → Option (Direction × Flags) → ℕ
made_in d h o = cond (goes d o && is_some (extent h.item_state))
    (sum_by field_weight (fields_of h.item_state h.opened h.fields (start_in d h) o
    (extent h.item_state))) 0

part-le : (b : Bool) (n : ℕ) → cond b n 0 ≤ n
part-le true n = omega arith
part-le false n = omega arith

one-direction : (h : StateRecord) (o : Option (Direction × Flags))
    → made_in Input h o + (made_in Output h o + made_in Feature h o) ≤ weight_made_in h o
one-direction h None = omega arith
one-direction h (Some (Input, flags)) =
    let part = part-le (is_some (extent h.item_state))
    (sum_by field_weight (fields_of h.item_state h.opened h.fields (start_in Input h)
    (Some (Input, flags)) (extent h.item_state))) in omega (arith, part)
one-direction h (Some (Output, flags)) =
    let part = part-le (is_some (extent h.item_state))
    (sum_by field_weight (fields_of h.item_state h.opened h.fields (start_in Output h)
    (Some (Output, flags)) (extent h.item_state))) in omega (arith, part)
one-direction h (Some (Feature, flags)) =
    let part = part-le (is_some (extent h.item_state))
    (sum_by field_weight (fields_of h.item_state h.opened h.fields (start_in Feature h)
    (Some (Feature, flags)) (extent h.item_state))) in omega (arith, part)

next-weight : (h : StateRecord) (x : ItemType)
    → descriptor_weight (next_state h x).descriptor ≤ descriptor_weight h.descriptor + weight_in h x
next-weight h x =
    let i = next-by (adds Input h x) Input h x refl in
    let o = next-by (adds Output h x) Output h x refl in
    let f = next-by (adds Feature h x) Feature h x refl in
    let one = one-direction h (data_of x) in
    omega (arith, i, o, f, one)

abbrev pub Announces : Result DescriptorRecord (ℕ × MeaningFault) → DescriptorRecord → Type 0
Announces r d = r ≡ Ok d

-- an item where the walk goes on is within what is left
bounded-by : (o : Option MeaningFault) (b : Bool) (h : StateRecord) (k left : ℕ) (x : ItemType)
    (xs : List ItemType) (d : DescriptorRecord) → fault_in h x ≡ o → nat_lt left (weight_in h x) ≡ b
    → Announces (walk_within (Some left) h k (x ∷ xs)) d
    → (weight_in h x ≤ left
    → Announces (walk_within (Some (left - weight_in h x)) (next_state h x) (k + 1) xs) d
    → descriptor_weight d ≤ descriptor_weight h.descriptor + left)
    → descriptor_weight d ≤ descriptor_weight h.descriptor + left
bounded-by (Some f) b h k left x xs d e past is later =
    let bad : Announces (Err (k, f)) d =
    sym (ap (λ o. go_on (unless_fault
    (first_of o (past_fault (nat_lt left (weight_in h x)))) (next_state h x)) k
    (λ n. walk_within (Some (left - weight_in h x)) n (k + 1) xs)) e) ∙ is in cc
bounded-by None true h k left x xs d e past is later =
    let bad : Announces (Err (k, BudgetExceeded)) d =
    sym (ap (λ o. go_on (unless_fault
    (first_of o (past_fault (nat_lt left (weight_in h x)))) (next_state h x)) k
    (λ n. walk_within (Some (left - weight_in h x)) n (k + 1) xs)) e
    ∙ ap (λ b. go_on (unless_fault (past_fault b) (next_state h x)) k
    (λ n. walk_within (Some (left - weight_in h x)) n (k + 1) xs)) past) ∙ is in cc
bounded-by None false h k left x xs d e past is later =
    later (grind (arith, nat_tests))
    (sym (ap (λ o. go_on (unless_fault (first_of o (past_fault (nat_lt left (weight_in h x))))
    (next_state h x)) k (λ n. walk_within (Some (left - weight_in h x)) n (k + 1) xs)) e
    ∙ ap (λ b. go_on (unless_fault (past_fault b) (next_state h x)) k
    (λ n. walk_within (Some (left - weight_in h x)) n (k + 1) xs)) past) ∙ is)

bounded-from : (h : StateRecord) (k left : ℕ) (xs : List ItemType) (d : DescriptorRecord)
    → Announces (walk_within (Some left) h k xs) d
    → descriptor_weight d ≤ descriptor_weight h.descriptor + left
bounded-from h k left [] d is =
    let same : h.descriptor ≡ d = cc in
    let weighs : descriptor_weight h.descriptor ≡ descriptor_weight d =
    ap descriptor_weight same in omega (arith, weighs)
bounded-from h k left (x ∷ xs) d is =
    bounded-by (fault_in h x) (nat_lt left (weight_in h x)) h k left x xs d refl refl is
    (λ fits rest.
    let later = bounded-from (next_state h x) (k + 1) (left - weight_in h x) xs d rest in
    let grown = next-weight h x in
    omega (arith, fits, later, grown))

found-ok : (entries : List Entry) (r : Result DescriptorRecord (ℕ × MeaningFault))
    (d : DescriptorRecord) → at_offset entries r ≡ Ok d → Announces r d
found-ok entries (Ok announced) d e = let same : announced ≡ d = cc in ap Ok same
found-ok entries (Err first) d e = cc

bounded-items : (options : ParseOptions) (limit : ℕ) (r : Result (List Entry) (ℕ × GrammarFault))
    (d : DescriptorRecord) → parse_items_within (reading_of options) limit r ≡ Ok d
    → descriptor_weight d ≤ limit
bounded-items options limit (Ok entries) d e =
    let bound = bounded-from (first_state options) 0 limit (items_of entries) d
    (walk-within options limit (items_of entries)
    ∙ found-ok entries (meaning_within_by (reading_of options) limit (items_of entries)) d e) in
    let none : descriptor_weight (first_state options).descriptor ≡ 0 = omega arith in
    omega (arith, bound, none)
bounded-items options limit (Err fault) d e = cc

-- the reports of a descriptor that is read under a limit
pub within-bounded : (options : ParseOptions) (limit : ℕ) (bytes : List ℕ) (d : DescriptorRecord)
    → parse_within_by (reading_of options) limit bytes ≡ Ok d → descriptor_weight d ≤ limit
within-bounded options limit [] d e = cc
within-bounded options limit (b ∷ bs) d e =
    bounded-items options limit (itemise item_of (b ∷ bs)) d e

-- they are what the plain parse announces

stack-by : (b : Bool) (r : Result DescriptorRecord (ℕ × MeaningFault)) (bad : ℕ × MeaningFault)
    (d : DescriptorRecord) → Announces (cond b r (Err bad)) d → Announces r d
stack-by true r bad d e = e
stack-by false r bad d e = cc

plain-of : (o : Option Indexed) (r : Result DescriptorRecord (ℕ × MeaningFault))
    (d : DescriptorRecord) → Announces (unless_past o r) d → Announces r d
plain-of None r d e = e
plain-of (Some p) r d e = stack-by (is_faulty_by p.0 r) r (p.0, BudgetExceeded) d e

plain-items : (reading : InForce) (limit : ℕ) (r : Result (List Entry) (ℕ × GrammarFault))
    (d : DescriptorRecord) → parse_items_within reading limit r ≡ Ok d
    → parse_items reading r ≡ Ok d
plain-items reading limit (Ok entries) d e =
    ap (at_offset entries) (plain-of
    (first_past (reading (items_of entries)) limit (items_of entries))
    (meaning_by reading (items_of entries)) d
    (found-ok entries (meaning_within_by reading limit (items_of entries)) d e))
plain-items reading limit (Err fault) d e = cc

pub within-plain : (reading : InForce) (limit : ℕ) (bytes : List ℕ) (d : DescriptorRecord)
    → parse_within_by reading limit bytes ≡ Ok d → parse_by reading bytes ≡ Ok d
within-plain reading limit [] d e = cc
within-plain reading limit (b ∷ bs) d e =
    plain-items reading limit (itemise item_of (b ∷ bs)) d e

-- so what is read as it was asked for is the plain parse's, and within the limit

pub limited-plain : (reading : InForce) (limit : Option ℕ) (bytes : List ℕ)
    (d : DescriptorRecord) → parse_limited reading limit bytes ≡ Ok d
    → parse_by reading bytes ≡ Ok d
limited-plain reading None bytes d e = e
limited-plain reading (Some limit) bytes d e = within-plain reading limit bytes d e

pub limited-bounded : (options : ParseOptions) (limit : Option ℕ) (bytes : List ℕ)
    (d : DescriptorRecord) → parse_limited (reading_of options) limit bytes ≡ Ok d
    → IfSome limit (λ n. descriptor_weight d ≤ n)
limited-bounded options None bytes d e = tt
limited-bounded options (Some limit) bytes d e = within-bounded options limit bytes d e
