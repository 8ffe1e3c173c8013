-- The walk that answers groups: where it ends they are the definition's.
use Rattle.std.proofs.Common.{◌≡◌, ◌∙◌, ◌+◌, ℕ, suc, List, [], ◌∷◌, ◌++◌, Option, None, Some}
use Rattle.std.proofs.Common.{Result, Ok, Err, add-one, ap, append-nil, append_assoc, arith}
use Rattle.std.proofs.Common.{IfSome, ◌≢◌, length, refl, subst, sym}
use Rattle.std.specs.Prelude.{option_map}
use Rattle.std.specs.List.{enumerate_from}
use Rattle.std.proofs.lemmas.Grind.{common_steps}
use Rattle.hidreport_items.specs.Answer.{GrammarFault}
use Rattle.hidreport_items.specs.Spelling.{item_of}
use Rattle.hidreport_items.specs.declared.item.ItemType.{ItemType}
use Rattle.hidreport_lists.specs.Answer.{Answers, AnswersBy, Refusal, Refuses}
use Rattle.hidreport_lists.specs.declared.error.ParserError.{ParserError}
use Rattle.hidreport_lists.specs.declared.error.ParserError.TheVariants as errors
use Rattle.hidreport_lists.specs.Entry.{Entry}
use Rattle.hidreport_lists.specs.Itemising.{itemise}
use Rattle.hidreport.specs.Groups.{OutlineRecord, grouped, listed}
use Rattle.hidreport.specs.ItemState.{ItemState, first_of}
use Rattle.hidreport.specs.Laws.{parse_any}
use Rattle.hidreport.specs.Meaning.{InForce, at_offset, descriptor, first_fault, parse_by}
use Rattle.hidreport.specs.Meaning.{parse_items, unless_first}
use Rattle.hidreport.specs.MeaningFault.{MeaningFault}
use Rattle.hidreport.specs.Options.{reading_of}
use Rattle.hidreport.specs.Outline.{answer_with, groups_in, items_in, items_or_none}
use Rattle.hidreport.specs.Parser.Budget.{in_fields, in_groups, is_past, left_behind, past_fault}
use Rattle.hidreport.specs.Parser.Budget.{stop_in, walk_bytes, walk_bytes_to, walk_items}
use Rattle.hidreport.specs.Parser.Budget.{walk_items_to, walk_to, weight_in}
use Rattle.hidreport.specs.Parser.Machine.{StateRecord, fault_in, first_state, go_on, next_state}
use Rattle.hidreport.specs.Parser.Machine.{unless_fault}
use Rattle.hidreport.specs.declared.parse_options.ParseOptions.{ParseOptions}
use Rattle.hidreport.specs.declared.parser.push_keeps.PushKeeps.{PushKeeps}
use Rattle.hidreport.specs.declared.parser.usages_by.UsagesBy.{UsagesBy}
use Rattle.hidreport_fields.specs.Records.{DescriptorRecord}
use Rattle.hidreport.proofs.BudgetBoundLemmas.{limited-plain}
use Rattle.hidreport.proofs.ListedLemmas.{grouped-listed}
use Rattle.hidreport.proofs.ParseLemmas.{bytes-as, items_of}
use Rattle.hidreport.proofs.PushReadings.{kept_stack, reading-follows}
use Rattle.hidreport.proofs.WalkLemmas.{Follows, Holds, groups-at-end, holds-next, holds-nothing}

-- an item that stops nothing has no fault
pub unstopped : (o p : Option MeaningFault) → first_of o p ≡ None → o ≡ None
unstopped None p none = refl
unstopped (Some f) p none = cc

-- the walk that answers groups answers those of all items where the other answers fields

on-by : (o : Option MeaningFault) (v : OutlineRecord) (h : StateRecord) (k : ℕ)
    (rest : StateRecord → Result OutlineRecord (ℕ × MeaningFault))
    (fields : StateRecord → Result DescriptorRecord (ℕ × MeaningFault))
    → (o ≡ None → rest h ≡ answer_with v (fields h))
    → go_on (unless_fault o h) k rest ≡ answer_with v (go_on (unless_fault o h) k fields)
on-by None v h k rest fields same = same refl
on-by (Some f) v h k rest fields same = refl

groups-from : (push_keeps : PushKeeps) (by : UsagesBy) (item_state : ℕ → ItemState)
    (stack : ℕ → List ItemState) (items front rest : List ItemType) (h : StateRecord)
    (left : Option ℕ) → Follows push_keeps by item_state stack items
    → h.push_keeps ≡ push_keeps → items ≡ front ++ rest
    → Holds item_state stack items (length front) h
    → walk_to in_groups left h (length front) rest
    ≡ answer_with (grouped item_state items) (walk_to in_fields left h (length front) rest)
groups-from push_keeps by item_state stack items front [] h left follows reads e held =
    let whole : items ≡ front = e ∙ append-nil front in
    ap Ok (groups-at-end item_state stack items h
    (subst (λ n. Holds item_state stack items n h) (ap length (sym whole)) held))
groups-from push_keeps by item_state stack items front (x ∷ xs) h left follows reads e held =
    let k = length front in
    let v = grouped item_state items in
    let less = left_behind left (weight_in h x) in
    let more : items ≡ (front ++ x ∷ []) ++ xs = e ∙ sym (append_assoc front (x ∷ []) xs) in
    let size : length (front ++ x ∷ []) ≡ suc k = grind (arith, common_steps) in
    let size_one : length (front ++ x ∷ []) ≡ k + 1 = size ∙ sym (add-one k) in
    on-by (stop_in left h x) v (next_state h x) k
    (λ next. walk_to in_groups less next (k + 1) xs)
    (λ next. walk_to in_fields less next (k + 1) xs)
    (λ goes.
    let faultless = unstopped (fault_in h x) (past_fault (is_past left (weight_in h x))) goes in
    let next : Holds item_state stack items (length (front ++ x ∷ [])) (next_state h x) =
    subst (λ n. Holds item_state stack items n (next_state h x)) (sym size)
    (holds-next push_keeps by item_state stack items front xs h x follows reads e held faultless) in
    subst (λ n. walk_to in_groups less (next_state h x) n xs
    ≡ answer_with v (walk_to in_fields less (next_state h x) n xs)) size_one
    (groups-from push_keeps by item_state stack items (front ++ x ∷ []) xs (next_state h x) less
    follows reads more next))

groups-walked : (options : ParseOptions) (items : List ItemType)
    → walk_to in_groups options.limit (first_state options) 0 items
    ≡ answer_with (grouped (reading_of options items) items)
    (walk_to in_fields options.limit (first_state options) 0 items)
groups-walked options items =
    let push_keeps = options.push_keeps in
    let by = options.usages in
    let follows = reading-follows push_keeps by items in
    groups-from push_keeps by (reading_of options items) (kept_stack push_keeps by items) items []
    items (first_state options) options.limit follows refl refl
    (holds-nothing push_keeps by (reading_of options items) (kept_stack push_keeps by items) items
    follows)

-- over the bytes

offset-with : (entries : List Entry) (v : OutlineRecord)
    (r : Result DescriptorRecord (ℕ × MeaningFault))
    → at_offset entries (answer_with v r) ≡ answer_with v (at_offset entries r)
offset-with entries v (Ok d) = refl
offset-with entries v (Err f) = refl

items-with : (options : ParseOptions) (r : Result (List Entry) (ℕ × GrammarFault))
    → walk_items_to in_groups options.limit (first_state options) r
    ≡ answer_with (grouped (reading_of options (items_or_none r)) (items_or_none r))
    (walk_items options.limit (first_state options) r)
items-with options (Ok entries) =
    ap (at_offset entries) (groups-walked options (items_of entries))
    ∙ offset-with entries (grouped (reading_of options (items_of entries)) (items_of entries))
    (walk_to in_fields options.limit (first_state options) 0 (items_of entries))
items-with options (Err fault) = refl

bytes-with : (options : ParseOptions) (bytes : List ℕ)
    → walk_bytes_to in_groups options bytes
    ≡ answer_with (groups_in options bytes) (walk_bytes options bytes)
bytes-with options [] = refl
bytes-with options (b ∷ bs) = items-with options (itemise item_of (b ∷ bs))

-- the walk over bytes answers the groups of their items where they are parsed
pub groups-as : (options : ParseOptions) (bytes : List ℕ)
    → walk_bytes_to in_groups options bytes
    ≡ answer_with (groups_in options bytes) (parse_any options bytes)
groups-as options bytes =
    bytes-with options bytes ∙ ap (answer_with (groups_in options bytes)) (bytes-as options bytes)

-- listed, the groups are the reports

described-by : (entries : List Entry) (o : Option (ℕ × MeaningFault)) (all d : DescriptorRecord)
    → at_offset entries (unless_first o all) ≡ Ok d → all ≡ d
described-by entries None all d is = let same : all ≡ d = cc in same
described-by entries (Some f) all d is = cc

described : (reading : InForce) (r : Result (List Entry) (ℕ × GrammarFault)) (b : ℕ) (bs : List ℕ)
    (d : DescriptorRecord) → itemise item_of (b ∷ bs) ≡ r → parse_by reading (b ∷ bs) ≡ Ok d
    → descriptor (reading (items_or_none r)) (items_or_none r) ≡ d
described reading (Ok entries) b bs d read is =
    described-by entries (first_fault (reading (items_of entries)) (items_of entries)
    (enumerate_from 0 (items_of entries))) (descriptor (reading (items_of entries))
    (items_of entries)) d (sym (ap (parse_items reading) read) ∙ is)
described reading (Err fault) b bs d read is =
    let no : parse_items reading (Err fault) ≡ Ok d =
    sym (ap (parse_items reading) read) ∙ is in cc

pub groups-listed : (options : ParseOptions) (bytes : List ℕ) (d : DescriptorRecord)
    → parse_any options bytes ≡ Ok d → listed (groups_in options bytes) ≡ d
groups-listed options [] d is =
    let no : parse_by (reading_of options) [] ≡ Ok d =
    limited-plain (reading_of options) options.limit [] d is in cc
groups-listed options (b ∷ bs) d is =
    grouped-listed (reading_of options (items_in (b ∷ bs))) (items_in (b ∷ bs))
    ∙ described (reading_of options) (itemise item_of (b ∷ bs)) b bs d refl
    (limited-plain (reading_of options) options.limit (b ∷ bs) d is)

answered : (v : OutlineRecord) (r : Result DescriptorRecord Refusal) (o : OutlineRecord)
    → ((d : DescriptorRecord) → r ≡ Ok d → listed v ≡ d) → answer_with v r ≡ Ok o
    → r ≡ Ok (listed o)
answered v (Ok d) o lists is = let same : v ≡ o = cc in
    ap Ok (sym (lists d refl) ∙ ap listed same)
answered v (Err refusal) o lists is = cc

pub outline-read : (options : ParseOptions) (bytes : List ℕ) (o : OutlineRecord)
    → answer_with (groups_in options bytes) (parse_any options bytes) ≡ Ok o
    → parse_any options bytes ≡ Ok (listed o)
outline-read options bytes o is = answered (groups_in options bytes) (parse_any options bytes) o
    (groups-listed options bytes) is

-- a refusal is that of the reports

pub with-never : (v : OutlineRecord) (r : Result DescriptorRecord Refusal) (refusal : Refusal)
    → r ≢ Err refusal → answer_with v r ≢ Err refusal
with-never v (Ok d) refusal never is = cc
with-never v (Err other) refusal never is = never (let same : other ≡ refusal = cc in ap Err same)

err-with : (v : OutlineRecord) (r : Result DescriptorRecord Refusal) (refusal : Refusal)
    → answer_with v r ≡ Err refusal → r ≡ Err refusal
err-with v (Ok d) refusal is = cc
err-with v (Err other) refusal is = let same : other ≡ refusal = cc in ap Err same

with-refused : (v : OutlineRecord) (r : Result DescriptorRecord Refusal) (e : ParserError)
    → Refuses e (answer_with v r) → Refuses e r
with-refused v r (errors.InvalidData offset message) is = err-with v r _ is
with-refused v r errors.OutOfBounds is = err-with v r _ is
with-refused v r errors.MismatchingReportId is = err-with v r _ is
with-refused v r errors.OutOfMemory is = tt
with-refused v r (errors.BudgetExceeded offset) is = err-with v r _ is

-- what is answered in groups is answered field by field where it is listed
pub listed-answers : (v : OutlineRecord) (r : Result DescriptorRecord Refusal)
    (result : Result OutlineRecord ParserError)
    → ((d : DescriptorRecord) → r ≡ Ok d → listed v ≡ d) → Answers result (answer_with v r)
    → AnswersBy listed result r
listed-answers v r (Ok o) lists is = answered v r o lists is
listed-answers v r (Err e) lists is = with-refused v r e is

pub some-mapped : {A B : Type 0} (f : A → B) (P : B → Type 0) (o : Option A)
    → IfSome (option_map f o) P → IfSome o (λ x. P (f x))
some-mapped f P None is = is
some-mapped f P (Some x) is = is
