use Rattle.std.proofs.Common.{◌≡◌, ◌∙◌, ◌<◌, Some, ap, get_or, length, rules, subst, sym}
use Rattle.std.proofs.lemmas.List.{get_or_default}
use Rattle.std.proofs.lemmas.List.Sorted.{answers_always}
use Rattle.hidreport.specs.ItemPlaces.{Ascend, place_of}
use Rattle.hidreport.specs.declared.report.item_place.GroupPlace.{GroupPlace}
use Rattle.hidreport.proofs.ItemPlaceLemmas.{found-place, no-place, nowhere}
use Rattle.hidreport.proofs.placed_outline.PlacedOutline.item.Goals as goal

-- the closure gives a place's number, and the slice is the places
pub returns-in-Ok : goal.returns-in-Ok
returns-in-Ok c =
    let facts = c.in-Ok.ensures in
    let by_number = facts.position (λ p. p.number)
    (answers_always _ _ _ (λ f a r g called. search rules)) in
    let xs = c.deref.result.now in
    let ps = c.self.inside.places.items in
    let n = c.first_number-number.result in
    let i = c.in-Ok.index in
    let up : Ascend 0 xs = rw c.deref.ensures.value c.self.invariant in
    let found : place_of ps n ≡ Some (get_or ps i nowhere).place =
    subst (λ l. place_of l n ≡ Some (get_or l i nowhere).place) c.deref.ensures.value
    (found-place xs n i up facts.bound by_number) in
    let there : i < length ps = subst (λ l. i < length l) c.deref.ensures.value facts.bound in
    let read = get_or_default ps i c.index.result.now nowhere there in
    rw (← c.self.view_is, ← c.first_number-number.ensures)
    (ap (λ (p : GroupPlace). Some p.place) (c.index.ensures ∙ read) ∙ sym found)

pub returns-in-Err : goal.returns-in-Err
returns-in-Err c =
    let facts = c.in-Err.ensures in
    let by_number = facts.position (λ p. p.number)
    (answers_always _ _ _ (λ f a r g called. search rules)) in
    sym (rw (← c.self.view_is, ← c.deref.ensures.value, ← c.first_number-number.ensures)
    (no-place _ _ _ (rw c.deref.ensures.value c.self.invariant) by_number))
