use Rattle.std.proofs.Common.{◌≡◌, ◌≢◌, ◌+◌, ◌++◌, ◌∙◌, [], ap, option_to_list, arith, drop, length, length-drop, rules, subst, sym}
use Rattle.std.proofs.Common.{◌∷◌, ℕ, List, take, IfSome, Option, Result}
use Rattle.hidreport_items.specs.ItemFaults.{told_fault}
use Rattle.hidreport_items.specs.Spelling.{item_of}
use Rattle.hidreport_lists.specs.Answer.{Refusal, Refuses}
use Rattle.hidreport_lists.specs.Entry.{Entry}
use Rattle.hidreport_lists.specs.Itemising.{items_from}
use Rattle.hidreport_lists.specs.Messages.{grammar_message}
use Rattle.hidreport_lists.specs.declared.front.FrontItem.{FrontItem}
use Rattle.hidreport_lists.proofs.FrontLemmas.{front-first}
use Rattle.hidreport_lists.proofs.ItemLemmas.{items_from-fault, refuses-invalid, with_front}
use Rattle.hidreport.specs.Parser.Budget.{in_groups, walk_items_to}
use Rattle.hidreport.specs.Groups.{OutlineRecord}
use Rattle.hidreport.specs.Parser.ItemPlaces.{placed}
use Rattle.hidreport.proofs.ItemPlaceLemmas.{placed-all, placed-end, placed-on}
use Rattle.hidreport.proofs.ParseLemmas.{shorter, stopped, walk-some, walked-on}
use Rattle.hidreport.specs.declared.report.item_place.ItemPlace.{ItemPlace}
use Rattle.hidreport.specs.Parser.FrontStep.{HasTaken}
use Rattle.hidreport.proofs.FrontStepLemmas.{taken-on, taken-placed}
use Rattle.hidreport.proofs.parser.walk.Goals as goal

-- the item in front of the rest
abbrev entry_at : ℕ → FrontItem → List ℕ → Entry
entry_at offset front rest = record {
  offset = offset;
  bytes = take front.size rest;
  item = front.item;
}

pub returns-in-Err-clause-reports : goal.returns-in-Err-clause-reports
returns-in-Err-clause-reports c =
    let some : c.args.bytes.now ≢ [] =
    λ e. let l : length c.args.bytes.now ≡ 0 = ap length e in grind
    (arith, c.is_empty.ensures) in
    let more : c.loop-rest.rest.now ≢ [] =
    λ e. let l : length c.loop-rest.rest.now ≡ 0 = ap length e in grind
    (arith, c.is_empty-in-loop-rest.ensures, c.loop-rest-test.true) in
    let fault = told_fault c.in-Err.fault in
    refuses-invalid c.refusal.result c.loop-rest.place.offset (grammar_message fault) _ c.refusal.ensures
    (sym (c.loop-rest.invariant.walk ∙ walk-some in_groups c.args.options c.args.bytes.now some)
    ∙ ap (walk_items_to in_groups c.loop-rest.budget c.loop-rest.state)
    (items_from-fault c.loop-rest.place.offset c.loop-rest.rest.now fault more c.in-Err.ensures.fault))

pub returns-in-Err-take-clause-reports : goal.returns-in-Err-take-clause-reports
returns-in-Err-take-clause-reports c =
    let some : c.args.bytes.now ≢ [] =
    λ e. let l : length c.args.bytes.now ≡ 0 = ap length e in grind
    (arith, c.is_empty.ensures) in
    let rest = c.loop-rest.rest.now in
    let front = c.in-Ok.front in
    let state = c.take_front.new.self in
    let same : state ≡ c.loop-rest.state = c.in_ok-size.ensures.left (search rules) in
    let entry = entry_at c.loop-rest.place.offset front rest in
    let behind = items_from item_of (c.loop-rest.place.offset + front.size) 0 c.split_at-in-loop-rest.result.1.now in
    let first = (front-first c.loop-rest.place.offset rest front c.in-Ok.ensures.item).1 in
    subst (λ (r : Result OutlineRecord Refusal). Refuses c.refusal-in-Err-take.result r)
    (ap (λ l. walk_items_to in_groups c.loop-rest.budget state (with_front (entry ∷ [])
    (items_from item_of (c.loop-rest.place.offset + front.size) 0 l))) c.split_at-in-loop-rest.ensures.back
    ∙ ap (walk_items_to in_groups c.loop-rest.budget state) (sym first)
    ∙ ap (λ s. walk_items_to in_groups c.loop-rest.budget s (items_from item_of c.loop-rest.place.offset 0 rest)) same
    ∙ c.loop-rest.invariant.walk
    ∙ walk-some in_groups c.args.options c.args.bytes.now some)
    (stopped in_groups entry c.loop-rest.budget state c.in-Err-take.fault
    c.refusal-in-Err-take.result behind c.in-Err-take.ensures.err
    c.refusal-in-Err-take.ensures.grammar c.refusal-in-Err-take.ensures.meaning
    c.refusal-in-Err-take.ensures.memory)

pub loop-rest-smaller : goal.loop-rest-smaller
loop-rest-smaller c =
    rw c.split_at-in-loop-rest.ensures.back (shorter c.loop-rest.rest.now c.in-Ok.front c.in-Ok.ensures.item)

pub loop-rest-smaller-in-Some : goal.loop-rest-smaller-in-Some
loop-rest-smaller-in-Some c =
    let has : HasTaken c.loop-rest.state c.take_front.new.self c.in-Some.size c.loop-rest.rest.now =
    subst (λ (o : Option ℕ). IfSome o (λ n. HasTaken c.loop-rest.state c.take_front.new.self n
    c.loop-rest.rest.now)) c.in-Some.is c.in_ok-size.ensures.taken in
    rw c.split_at.ensures.back
    (shorter c.loop-rest.rest.now (record { item = has.item; size = c.in-Some.size }) has.front)

pub loop-rest-preserved : goal.loop-rest-preserved
loop-rest-preserved c =
    let rest = c.loop-rest.rest.now in
    let front = c.in-Ok.front in
    let state = c.take_front.new.self in
    let same : state ≡ c.loop-rest.state = c.in_ok-size.ensures.left (search rules) in
    let entry = entry_at c.loop-rest.place.offset front rest in
    let first = (front-first c.loop-rest.place.offset rest front c.in-Ok.ensures.item).1 in
    record {
      place = rw (c.behind-place-in-loop-rest.ensures, c.split_at-in-loop-rest.ensures.back) (simp length-drop
          (omega (arith, c.in-Ok.ensures.item.0, c.loop-rest.invariant.place)));
      counted = rw c.behind-place-in-loop-rest.ensures (omega (
        arith,
        c.loop-rest.invariant.counted,
        (front-first c.loop-rest.place.offset rest
            front c.in-Ok.ensures.item).0,
      ));
      places = λ keeps. ap (λ (p : ItemPlace). placed c.keep.new.places.items c.take.new.self p.index
          (items_from item_of p.offset 0 c.split_at-in-loop-rest.result.1.now)) c.behind-place-in-loop-rest.ensures
          ∙ ap (λ l. placed c.keep.new.places.items c.take.new.self (c.loop-rest.place.index + 1)
          (items_from item_of (c.loop-rest.place.offset + front.size) 0 l)) c.split_at-in-loop-rest.ensures.back
          ∙ ap (λ l. placed l c.take.new.self (c.loop-rest.place.index + 1)
          (items_from item_of (c.loop-rest.place.offset + front.size) 0 (drop front.size rest)))
          (c.in_ok-keep.ensures keeps ∙ ap (λ o. c.loop-rest.places.items ++ option_to_list o) c.place_of-made.ensures)
          ∙ sym (placed-on c.loop-rest.places.items state c.take.new.self
          c.loop-rest.place.index entry (items_from item_of (c.loop-rest.place.offset + front.size) 0
          (drop front.size rest)) c.in_default-take.ensures.ok)
          ∙ ap (placed c.loop-rest.places.items state c.loop-rest.place.index) (sym first)
          ∙ ap (λ s. placed c.loop-rest.places.items s c.loop-rest.place.index
          (items_from item_of c.loop-rest.place.offset 0 rest)) same
          ∙ c.loop-rest.invariant.places keeps;
      walk = ap (λ (p : ItemPlace). walk_items_to in_groups c.take.new.budget c.take.new.self
          (items_from item_of p.offset 0 c.split_at-in-loop-rest.result.1.now)) c.behind-place-in-loop-rest.ensures
          ∙ ap (λ l. walk_items_to in_groups c.take.new.budget c.take.new.self
          (items_from item_of (c.loop-rest.place.offset + front.size) 0 l)) c.split_at-in-loop-rest.ensures.back
          ∙ sym (walked-on in_groups entry c.loop-rest.budget c.take.new.budget state
          c.take.new.self (items_from item_of (c.loop-rest.place.offset + front.size) 0
          (drop front.size rest)) c.in_default-take.ensures.ok c.in_default-take.ensures.within
          c.in_default-take.ensures.left)
          ∙ ap (walk_items_to in_groups c.loop-rest.budget state) (sym first)
          ∙ ap (λ s. walk_items_to in_groups c.loop-rest.budget s
          (items_from item_of c.loop-rest.place.offset 0 rest)) same
          ∙ c.loop-rest.invariant.walk;
    }

pub loop-rest-preserved-in-Some : goal.loop-rest-preserved-in-Some
loop-rest-preserved-in-Some c =
    let rest = c.loop-rest.rest.now in
    let size = c.in-Some.size in
    let has : HasTaken c.loop-rest.state c.take_front.new.self c.in-Some.size c.loop-rest.rest.now =
    subst (λ (o : Option ℕ). IfSome o (λ n. HasTaken c.loop-rest.state c.take_front.new.self n
    c.loop-rest.rest.now)) c.in-Some.is c.in_ok-size.ensures.taken in
    let offset = c.loop-rest.place.offset in
    record {
      place = rw (c.behind-place.ensures, c.split_at.ensures.back) (simp length-drop
          (omega (arith, has.front.0, c.loop-rest.invariant.place)));
      counted = rw c.behind-place.ensures (omega (
        arith,
        c.loop-rest.invariant.counted,
        (front-first offset rest (record { item = has.item; size = size }) has.front).0,
      ));
      places = λ keeps. ap (λ (p : ItemPlace). placed c.loop-rest.places.items c.take_front.new.self p.index
          (items_from item_of p.offset 0 c.split_at.result.1.now)) c.behind-place.ensures
          ∙ ap (λ l. placed c.loop-rest.places.items c.take_front.new.self (c.loop-rest.place.index + 1)
          (items_from item_of (offset + size) 0 l)) c.split_at.ensures.back
          ∙ taken-placed c.loop-rest.places.items c.loop-rest.place.index offset c.loop-rest.state
          c.take_front.new.self size rest has
          ∙ c.loop-rest.invariant.places keeps;
      walk = ap (λ (p : ItemPlace). walk_items_to in_groups c.loop-rest.budget c.take_front.new.self
          (items_from item_of p.offset 0 c.split_at.result.1.now)) c.behind-place.ensures
          ∙ ap (λ l. walk_items_to in_groups c.loop-rest.budget c.take_front.new.self
          (items_from item_of (offset + size) 0 l)) c.split_at.ensures.back
          ∙ taken-on in_groups c.loop-rest.budget offset c.loop-rest.state c.take_front.new.self size rest has
          ∙ c.loop-rest.invariant.walk;
    }

pub returns-clause-places : goal.returns-clause-places
returns-clause-places c = λ keeps.
    let some : c.args.bytes.now ≢ [] =
    λ e. let l : length c.args.bytes.now ≡ 0 = ap length e in grind
    (arith, c.is_empty.ensures) in
    let none : length c.loop-rest.rest.now ≡ 0 = grind
    (arith, c.is_empty-in-loop-rest.ensures, c.loop-rest-test.false) in
    sym (c.loop-rest.invariant.places keeps ∙ placed-all c.args.options c.args.bytes.now some)
    ∙ placed-end c.loop-rest.places.items c.loop-rest.state c.loop-rest.place.index
    c.loop-rest.place.offset c.loop-rest.rest.now none
