-- From the walk over the entries to the answer.
use Rattle.std.proofs.Common.{◌≡◌, ◌≢◌, ℕ, suc, ◌+◌, false, List, [], ◌∷◌}
use Rattle.std.proofs.Common.{map, Option, None, Some, IfSome, IsOk, Result, Ok, Err, refl}
use Rattle.std.proofs.Common.{sym, ap, ◌∙◌, subst, arith}
use Rattle.std.specs.Prelude.{◌-◌}
use Rattle.std.proofs.lemmas.Bool.Decides.{nat_tests}
use Rattle.hidreport_items.specs.Answer.{GrammarFault}
use Rattle.hidreport_items.specs.Spelling.{item_of}
use Rattle.hidreport_items.specs.declared.item.ItemType.{ItemType}
use Rattle.hidreport_lists.specs.Answer.{Refusal, InvalidData, OutOfBounds, BudgetExceeded, Refuses}
use Rattle.hidreport_lists.specs.Entry.{Entry}
use Rattle.hidreport_lists.specs.Itemising.{itemise, items_from}
use Rattle.hidreport_lists.proofs.ItemLemmas.{with_front}
use Rattle.hidreport_lists.specs.Messages.{grammar_message}
use Rattle.hidreport_lists.specs.declared.error.ParserError.{ParserError}
use Rattle.hidreport_lists.specs.declared.error.ParserError.TheVariants as errors
use Rattle.hidreport.specs.Budget.{parse_items_within}
use Rattle.hidreport.specs.ItemState.{first_of}
use Rattle.hidreport.specs.MeaningFault.{MeaningFault}
use Rattle.hidreport.specs.Parser.Budget.{is_past, left_behind, past_fault, stop_in, walk_bytes}
use Rattle.hidreport.specs.Parser.Budget.{walk_bytes_to, walk_items, walk_items_to, walk_to}
use Rattle.hidreport.specs.Parser.Budget.{weight_in}
use Rattle.hidreport.specs.Parser.Machine.{StateRecord, fault_in, next_state, unless_fault, step}
use Rattle.hidreport.specs.Parser.Machine.{go_on}
use Rattle.hidreport.specs.Parser.Machine.{first_state}
use Rattle.hidreport.specs.Laws.{parse_any}
use Rattle.hidreport.specs.Meaning.{InForce, at_offset, empty_descriptor, offset_at, parse_items}
use Rattle.hidreport.specs.Meaning.{refusal_at}
use Rattle.hidreport.specs.Parser.Refusals.{IsFaultOf, IsRefusal, fault_named}
use Rattle.hidreport.specs.declared.parser.fault.Fault.{Fault}
use Rattle.hidreport.specs.declared.parse_options.ParseOptions.{ParseOptions}
use Rattle.hidreport.specs.Options.{parse_limited, reading_of}
use Rattle.hidreport_fields.specs.Records.{DescriptorRecord}
use Rattle.hidreport.proofs.ReadingLemmas.{walk-meaning}
use Rattle.hidreport.proofs.BudgetWalkLemmas.{walk-unlimited, walk-within}
use Rattle.std.proofs.Common.{◌<◌, drop, length, length-drop}
use Rattle.hidreport_lists.specs.FrontItem.{IsAtFront}
use Rattle.hidreport_lists.specs.declared.front.FrontItem.{FrontItem}
use Rattle.hidreport_lists.proofs.FrontLemmas.{front-first}

-- what stands behind an item is shorter
pub shorter : (rest : List ℕ) (front : FrontItem) → IsAtFront front rest
    → length (drop front.size rest) < length rest
shorter rest front is =
    simp length-drop (omega (arith, (front-first 0 rest front is).0, is.0))

-- the items of the entries
abbrev pub items_of : List Entry → List ItemType
items_of entries = map (λ (e : Entry). e.item) entries

abbrev step_of : Result StateRecord MeaningFault → Result StateRecord MeaningFault
step_of r = r

-- what weighs nothing is within each limit, and spends nothing
pub nothing-within : (left : Option ℕ) → is_past left 0 ≡ false
nothing-within None = refl
nothing-within (Some n) = grind (arith, nat_tests)

pub nothing-spent : (left : Option ℕ) → left_behind left 0 ≡ left
nothing-spent None = refl
nothing-spent (Some n) = ap Some (let e : n - 0 ≡ n = omega arith in e)

-- an item that stops the walk neither by a fault nor by its weight
pub goes-on : (left : Option ℕ) (h next : StateRecord) (x : ItemType) (o : Option MeaningFault)
    → fault_in h x ≡ o → step h x ≡ Ok next → is_past left (weight_in h x) ≡ false
    → unless_fault (stop_in left h x) (next_state h x) ≡ Ok next
goes-on left h next x None faultless stepped within =
    ap (λ o. unless_fault (first_of o (past_fault (is_past left (weight_in h x)))) (next_state h x))
    faultless
    ∙ ap (λ b. unless_fault (past_fault b) (next_state h x)) within
    ∙ ap (λ o. unless_fault o (next_state h x)) (sym faultless) ∙ stepped
goes-on left h next x (Some f) fault stepped within =
    let bad : step_of (Err f) ≡ step_of (Ok next) =
    sym (ap (λ o. unless_fault o (next_state h x)) fault) ∙ stepped in cc

-- behind another entry each index is one higher, and each offset the same
later : {A : Type 0} (part : StateRecord → A) (e : Entry) (entries : List Entry) (left : Option ℕ)
    (h : StateRecord) (j k : ℕ) (xs : List ItemType) → j ≡ suc k
    → at_offset (e ∷ entries) (walk_to part left h j xs)
    ≡ at_offset entries (walk_to part left h k xs)
later part e entries left h j k [] one = refl
later part e entries left h j k (x ∷ xs) one =
    going (unless_fault (stop_in left h x) (next_state h x))
    (λ next. later part e entries (left_behind left (weight_in h x)) next (j + 1) (k + 1) xs
    (omega (arith, one)))
  where
    going : (r : Result StateRecord MeaningFault)
        → ((next : StateRecord) → at_offset (e ∷ entries)
        (walk_to part (left_behind left (weight_in h x)) next (j + 1) xs)
        ≡ at_offset entries (walk_to part (left_behind left (weight_in h x)) next (k + 1) xs))
        → at_offset (e ∷ entries) (go_on r j
        (λ n. walk_to part (left_behind left (weight_in h x)) n (j + 1) xs))
        ≡ at_offset entries (go_on r k
        (λ n. walk_to part (left_behind left (weight_in h x)) n (k + 1) xs))
    going (Err f) rest = ap (λ i. Err (refusal_at (offset_at (e ∷ entries) i) f)) one
    going (Ok next) rest = rest next

-- one item further
pub walked-on : {A : Type 0} (part : StateRecord → A) (e : Entry) (left behind : Option ℕ)
    (h next : StateRecord) (r : Result (List Entry) (ℕ × GrammarFault))
    → step h e.item ≡ Ok next → is_past left (weight_in h e.item) ≡ false
    → behind ≡ left_behind left (weight_in h e.item)
    → walk_items_to part left h (with_front (e ∷ []) r) ≡ walk_items_to part behind next r
walked-on part e left behind h next (Err fault) stepped within is = refl
walked-on part e left behind h next (Ok entries) stepped within is =
    ap (λ r. at_offset (e ∷ entries) (go_on r 0
    (λ n. walk_to part (left_behind left (weight_in h e.item)) n 1 (items_of entries))))
    (goes-on left h next e.item (fault_in h e.item) refl stepped within)
    ∙ ap (λ l. at_offset (e ∷ entries) (walk_to part l next 1 (items_of entries))) (sym is)
    ∙ later part e entries behind next 1 0 (items_of entries) refl

-- what stops the walk at an item is the answer, unless one behind it can't be read
pub meaning-fault : {A : Type 0} (part : StateRecord → A) (e : Entry) (left : Option ℕ)
    (h : StateRecord) (f : MeaningFault)
    (r : Result (List Entry) (ℕ × GrammarFault)) → IsOk r → stop_in left h e.item ≡ Some f
    → walk_items_to part left h (with_front (e ∷ []) r) ≡ Err (refusal_at e.offset f)
meaning-fault part e left h f (Err fault) read stops = cc
meaning-fault part e left h f (Ok entries) read stops =
    ap (λ o. at_offset (e ∷ entries) (go_on (unless_fault o (next_state h e.item)) 0
    (λ n. walk_to part (left_behind left (weight_in h e.item)) n 1 (items_of entries)))) stops

-- an error that says a refusal is every answer that is this refusal
pub refuses-as : {A : Type 0} (e : ParserError) (r : Refusal) (answer : Result A Refusal)
    → IsRefusal e r → answer ≡ Err r → Refuses e answer
refuses-as (errors.InvalidData offset message) r answer says is =
    let same : r ≡ InvalidData offset _ = cc in is ∙ ap Err same
refuses-as errors.OutOfBounds r answer says is = let same : r ≡ OutOfBounds = cc in is ∙ ap Err same
refuses-as errors.MismatchingReportId r answer says is = let same : r ≡ _ = cc in is ∙ ap Err same
refuses-as errors.OutOfMemory r answer says is = tt
refuses-as (errors.BudgetExceeded offset) r answer says is =
    let same : r ≡ BudgetExceeded offset = cc in is ∙ ap Err same

-- the parser's fault at its item's offset is the answer
refuses-named : {A : Type 0} (o : Option MeaningFault) (offset : ℕ) (e : ParserError)
    (found : Option MeaningFault) (answer : Result A Refusal)
    → IfSome o (λ f. found ≡ Some f) → IfSome o (λ f. IsRefusal e (refusal_at offset f))
    → (o ≡ None → e ≡ errors.OutOfMemory)
    → ((f : MeaningFault) → found ≡ Some f → answer ≡ Err (refusal_at offset f)) → Refuses e answer
refuses-named (Some f) offset e found answer is named memory given =
    refuses-as e (refusal_at offset f) answer named (given f is)
refuses-named {A} None offset e found answer is named memory given =
    subst (λ (x : ParserError). Refuses {A = A} x answer) (sym (memory refl)) tt

pub refuses-fault : {A : Type 0} (fault : Fault) (offset : ℕ) (e : ParserError)
    (found : Option MeaningFault) (answer : Result A Refusal)
    → IsFaultOf fault found → IfSome (fault_named fault) (λ f. IsRefusal e (refusal_at offset f))
    → (fault_named fault ≡ None → e ≡ errors.OutOfMemory)
    → ((f : MeaningFault) → found ≡ Some f → answer ≡ Err (refusal_at offset f)) → Refuses e answer
refuses-fault fault offset e found answer is named memory given =
    refuses-named (fault_named fault) offset e found answer is named memory given

-- the refusal of an item where these stand behind it: their grammar fault, or else its own
pub stopped : {A : Type 0} (part : StateRecord → A) (e : Entry) (left : Option ℕ) (h : StateRecord) (fault : Fault) (error : ParserError)
    (r : Result (List Entry) (ℕ × GrammarFault)) → IsFaultOf fault (stop_in left h e.item)
    → ((g : ℕ × GrammarFault) → r ≡ Err g
    → IsRefusal error (InvalidData g.0 (grammar_message g.1)))
    → (IsOk r → IfSome (fault_named fault) (λ f. IsRefusal error (refusal_at e.offset f)))
    → (IsOk r → fault_named fault ≡ None → error ≡ errors.OutOfMemory)
    → Refuses error (walk_items_to part left h (with_front (e ∷ []) r))
stopped part e left h fault error (Err g) is grammar meaning memory =
    refuses-as error (InvalidData g.0 (grammar_message g.1))
    (walk_items_to part left h (with_front (e ∷ []) (Err g))) (grammar g refl) refl
stopped part e left h fault error (Ok entries) is grammar meaning memory =
    refuses-fault fault e.offset error (stop_in left h e.item)
    (walk_items_to part left h (with_front (e ∷ []) (Ok entries))) is (meaning refl) (memory refl)
    (λ f stops. meaning-fault part e left h f (Ok entries) refl stops)

-- the walk over bytes goes over their items, the first of which stands at 0
pub walk-some : {A : Type 0} (part : StateRecord → A) (options : ParseOptions) (bytes : List ℕ)
    → bytes ≢ []
    → walk_items_to part options.limit (first_state options) (items_from item_of 0 0 bytes)
    ≡ walk_bytes_to part options bytes
walk-some part options [] some = absurd (some refl)
walk-some part options (b ∷ bs) some = refl

-- without a limit this is the parse by the reading

plain-items : (options : ParseOptions) (r : Result (List Entry) (ℕ × GrammarFault))
    → walk_items None (first_state options) r ≡ parse_items (reading_of options) r
plain-items options (Ok entries) =
    ap (at_offset entries) (walk-unlimited (first_state options) 0 (items_of entries)
    ∙ walk-meaning options (items_of entries))
plain-items options (Err fault) = refl

-- under a limit it is the parse under it

limited-items : (options : ParseOptions) (limit : ℕ) (r : Result (List Entry) (ℕ × GrammarFault))
    → walk_items (Some limit) (first_state options) r ≡ parse_items_within (reading_of options) limit r
limited-items options limit (Ok entries) =
    ap (at_offset entries) (walk-within options limit (items_of entries))
limited-items options limit (Err fault) = refl

-- by either it is the parse that was asked for

abbrev limited_items : InForce → Option ℕ → Result (List Entry) (ℕ × GrammarFault)
    → Result DescriptorRecord Refusal
limited_items reading None = parse_items reading
limited_items reading (Some limit) = parse_items_within reading limit

items-as : (limit : Option ℕ) (options : ParseOptions)
    (r : Result (List Entry) (ℕ × GrammarFault))
    → walk_items limit (first_state options) r ≡ limited_items (reading_of options) limit r
items-as None options r = plain-items options r
items-as (Some limit) options r = limited-items options limit r

some-as : (limit : Option ℕ) (reading : InForce) (b : ℕ) (bs : List ℕ)
    → limited_items reading limit (itemise item_of (b ∷ bs))
    ≡ parse_limited reading limit (b ∷ bs)
some-as None reading b bs = refl
some-as (Some limit) reading b bs = refl

none-as : (limit : Option ℕ) (reading : InForce)
    → Err (InvalidData 0 empty_descriptor) ≡ parse_limited reading limit []
none-as None reading = refl
none-as (Some limit) reading = refl

pub bytes-as : (options : ParseOptions) (bytes : List ℕ)
    → walk_bytes options bytes ≡ parse_any options bytes
bytes-as options [] = none-as options.limit (reading_of options)
bytes-as options (b ∷ bs) = items-as options.limit options (itemise item_of (b ∷ bs))
    ∙ some-as options.limit (reading_of options) b bs
