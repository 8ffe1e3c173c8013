-- Where there is no Push, it is all the same what one would keep.
use Rattle.std.proofs.Common.{◌≡◌, ℕ, ◌+◌, ◌-◌, Bool, true, false, cond, List, [], ◌∷◌, ◌++◌}
use Rattle.std.proofs.Common.{length, take, Option, None, Some, Ok, refl, sym, ap, ◌∙◌}
use Rattle.std.specs.Prelude.{◌==◌}
use Rattle.std.specs.List.{list_any}
use Rattle.hidreport_items.specs.Flags.{Flags}
use Rattle.hidreport_items.specs.Spelling.{item_of}
use Rattle.hidreport_items.specs.declared.global.GlobalItem.TheVariants as global
use Rattle.hidreport_items.specs.declared.item.ItemType.{ItemType}
use Rattle.hidreport_items.specs.declared.item.ItemType.TheVariants as item
use Rattle.hidreport_lists.specs.Entry.{Entry}
use Rattle.hidreport_lists.specs.Itemising.{itemise}
use Rattle.hidreport_lists.specs.Rebuilt.{items_of}
use Rattle.hidreport.specs.ItemState.{ItemState}
use Rattle.hidreport.specs.Faults.{item_fault}
use Rattle.hidreport.specs.Kinds.{Direction, Input, Output, Feature, data_of, is_push, is_pop}
use Rattle.hidreport.specs.Meaning.{at_offset, meaning, meaning_globals_only, parse}
use Rattle.hidreport.specs.Meaning.{parse_globals_only, parse_items}
use Rattle.hidreport.specs.MeaningFault.{MeaningFault, TooManyPops}
use Rattle.hidreport.specs.Parser.Machine.{StateRecord, after_pop, fault_in, go_on, pushed_copy}
use Rattle.hidreport.specs.Parser.Machine.{last_item_state}
use Rattle.hidreport.specs.Parser.Machine.{next_item_state, next_state, first_state, start_for}
use Rattle.hidreport.specs.Parser.Machine.{unless_fault, walk}
use Rattle.hidreport.specs.Options.{default_options, globals_only_options, reading_of}
use Rattle.hidreport.specs.Segments.{HasNoPush}
use Rattle.hidreport.specs.declared.parser.push_keeps.PushKeeps.{PushKeeps}
use Rattle.hidreport.proofs.ReadingLemmas.{walk-meaning}
use Rattle.hidreport.proofs.ReportLemmas.{or_cases}

-- the same held, where a Push keeps this
abbrev as_kept : PushKeeps → StateRecord → StateRecord
as_kept push_keeps h = record h { push_keeps = push_keeps }

start-same : (o : Option (Direction × Flags)) (push_keeps : PushKeeps) (h : StateRecord)
    → start_for o (as_kept push_keeps h) ≡ start_for o h
start-same None push_keeps h = refl
start-same (Some (Input, flags)) push_keeps h = refl
start-same (Some (Output, flags)) push_keeps h = refl
start-same (Some (Feature, flags)) push_keeps h = refl

fault-same : (push_keeps : PushKeeps) (h : StateRecord) (x : ItemType)
    → fault_in (as_kept push_keeps h) x ≡ fault_in h x
fault-same push_keeps h x =
    ap (λ (n : ℕ). item_fault (record {
      level = length h.stack;
      depth = length h.opened;
      collections = h.collections;
      fields = h.fields;
      start = n;
    }) h.item_state x)
    (start-same (data_of x) push_keeps h)

-- a Pop without a Push is a fault
pop-fault : (h : StateRecord) (x : ItemType) → is_pop x ≡ true → h.stack ≡ []
    → fault_in h x ≡ Some TooManyPops
pop-fault h (item.Global global.Pop) pop none =
    ap (λ (l : List ItemState). cond (length l == 0) (Some TooManyPops) None) none
pop-fault h (item.Global g) pop none = cc
pop-fault h (item.Main y) pop none = cc
pop-fault h (item.Local y) pop none = cc
pop-fault h item.Long pop none = cc
pop-fault h item.Reserved pop none = cc

-- any other item leaves the same behind
next-same : (push_keeps : PushKeeps) (h : StateRecord) (x : ItemType) → is_push x ≡ false
    → is_pop x ≡ false
    → next_state (as_kept push_keeps h) x ≡ as_kept push_keeps
    (record (next_state h x) { item_state = next_item_state h.item_state x; stack = h.stack })
next-same push_keeps h x push pop =
    let n = next_state h x in
    let made : ItemState → List ItemState
    → StateRecord = λ f l. record n { push_keeps = push_keeps; item_state = f; stack = l } in
    ap (λ b. made (cond b (after_pop push_keeps h.item_state (last_item_state h.item_state h.stack))
    (next_item_state h.item_state x))
    (cond b (take (length h.stack - 1) h.stack)
    (cond (is_push x) (h.stack ++ pushed_copy push_keeps h.item_state ∷ []) h.stack))) pop
    ∙ ap (λ b. made (next_item_state h.item_state x)
    (cond b (h.stack ++ pushed_copy push_keeps h.item_state ∷ []) h.stack))
    push

-- the walk is the same by two readings
abbrev Same : PushKeeps → PushKeeps → StateRecord → ℕ → List ItemType → Type 0
Same one other h k xs = walk (as_kept one h) k xs ≡ walk (as_kept other h) k xs

same-by : (one other : PushKeeps) (o : Option MeaningFault) (h : StateRecord) (k : ℕ) (x : ItemType) (xs : List ItemType)
    → fault_in h x ≡ o → is_push x ≡ false → is_pop x ≡ false
    → Same one other (record (next_state h x) {
      item_state = next_item_state h.item_state x;
      stack = h.stack;
    }) (k + 1) xs
    → Same one other h k (x ∷ xs)
same-by one other (Some f) h k x xs fault push pop later =
    ap (λ o. go_on (unless_fault o (next_state (as_kept one h) x)) k
    (λ n. walk n (k + 1) xs)) (fault-same one h x ∙ fault)
    ∙ sym (ap (λ o. go_on (unless_fault o (next_state (as_kept other h) x)) k
    (λ n. walk n (k + 1) xs)) (fault-same other h x ∙ fault))
same-by one other None h k x xs fault push pop later =
    ap (λ o. go_on (unless_fault o (next_state (as_kept one h) x)) k
    (λ n. walk n (k + 1) xs)) (fault-same one h x ∙ fault)
    ∙ ap (λ n. walk n (k + 1) xs) (next-same one h x push pop) ∙ later
    ∙ sym (ap (λ o. go_on (unless_fault o (next_state (as_kept other h) x)) k
    (λ n. walk n (k + 1) xs)) (fault-same other h x ∙ fault)
    ∙ ap (λ n. walk n (k + 1) xs) (next-same other h x push pop))

same-item : (one other : PushKeeps) (b : Bool) (h : StateRecord) (k : ℕ) (x : ItemType) (xs : List ItemType) → h.stack ≡ []
    → is_push x ≡ false → is_pop x ≡ b
    → ((h : StateRecord) → h.stack ≡ [] → Same one other h (k + 1) xs) → Same one other h k (x ∷ xs)
same-item one other true h k x xs none push pop later =
    let fault = pop-fault h x pop none in
    ap (λ o. go_on (unless_fault o (next_state (as_kept one h) x)) k
    (λ n. walk n (k + 1) xs)) (fault-same one h x ∙ fault)
    ∙ sym (ap (λ o. go_on (unless_fault o (next_state (as_kept other h) x)) k
    (λ n. walk n (k + 1) xs)) (fault-same other h x ∙ fault))
same-item one other false h k x xs none push pop later =
    same-by one other (fault_in h x) h k x xs refl push pop
    (later (record (next_state h x) {
      item_state = next_item_state h.item_state x;
      stack = h.stack;
    }) none)

same-walk : (one other : PushKeeps) (h : StateRecord) (k : ℕ) (xs : List ItemType) → h.stack ≡ [] → HasNoPush xs
    → Same one other h k xs
same-walk one other h k [] none no_push = refl
same-walk one other h k (x ∷ xs) none no_push =
    let parts = or_cases (is_push x) (list_any is_push xs) no_push in
    same-item one other (is_pop x) h k x xs none parts.0 refl (λ n e. same-walk one other n (k + 1) xs e parts.1)

meaning-same : (items : List ItemType) → HasNoPush items
    → meaning_globals_only items ≡ meaning items
meaning-same items no_push =
    sym (walk-meaning globals_only_options items)
    ∙ same-walk globals_only_options.push_keeps default_options.push_keeps
    (first_state default_options) 0 items refl no_push
    ∙ walk-meaning default_options items

-- the two readings of a descriptor's bytes agree
pub parse-same : (bytes : List ℕ) (entries : List Entry) → itemise item_of bytes ≡ Ok entries
    → HasNoPush (items_of entries) → parse_globals_only bytes ≡ parse bytes
parse-same [] entries e no_push = refl
parse-same (b ∷ bs) entries e no_push =
    ap (parse_items (reading_of globals_only_options)) e
    ∙ ap (at_offset entries) (meaning-same (items_of entries) no_push)
    ∙ sym (ap (parse_items (reading_of default_options)) e)
