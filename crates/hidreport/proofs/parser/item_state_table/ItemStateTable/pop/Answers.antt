use Rattle.std.proofs.Common.{◌≡◌, ◌∷◌, ◌∙◌, List, ap, reverse, take}
use Rattle.hidreport.specs.Parser.ItemStates.{item_state_of}
use Rattle.hidreport.specs.Parser.Journal.{Opened, WasLocals, undo_record, undone_stack}
use Rattle.hidreport.specs.declared.parser.journal.Undo.{Undo}
use Rattle.hidreport.specs.declared.parser.paged_local.PagedLocal.{PagedLocal}
use Rattle.hidreport.specs.declared.parser.push_keeps.PushKeeps.{PushKeeps}
use Rattle.hidreport.specs.declared.parser.push_keeps.PushKeeps.TheVariants as a_push_keeps
use Rattle.hidreport.proofs.JournalLemmas.{item_states, popped}
use Rattle.hidreport.proofs.PushReadings.{back-all, back-globals, passed-over, same-bare}
use Rattle.hidreport.proofs.parser.item_state_table.ItemStateTable.pop.Goals as goal

pub loop-entry-preserved : goal.loop-entry-preserved
loop-entry-preserved c =
    let l = c.loop-entry.self-inside in
    let rest = c.undo.new.self in
    let newest : l.journal ≡ WasLocals c.in-Locals.old ∷ rest = c.in-Some.ensures.some
    ∙ ap (λ (e : Undo). undo_record e ∷ rest) c.in-Locals.is in
    let bare : l.push_keeps ≡ a_push_keeps.Globals = c.loop-entry.invariant.2
    ∙ c.has_locals-has_locals.ensures.globals c.if-has_locals.false in
    let passed = passed-over l.push_keeps l.usages_by l.journal rest l.globals l.locals c.in-Locals.old
    _ bare newest c.loop-entry.invariant.0 in
    (passed.0, passed.1, c.loop-entry.invariant.2, c.loop-entry.invariant.3)

pub returns-then-has_locals-2-clause-back : goal.returns-then-has_locals-2-clause-back
returns-then-has_locals-2-clause-back c = λ _.
    let l = c.loop-entry.self-inside in
    let s = c.self.inside in
    let rest = c.undo.new.self in
    let now = item_state_of s.usages_by s.globals s.locals in
    let newest : l.journal ≡ Opened c.in-Push.locals ∷ rest = c.in-Some.ensures.some
    ∙ ap (λ (e : Undo). undo_record e ∷ rest) c.in-Push.is in
    let same = c.loop-entry.invariant.2 in
    let all : l.push_keeps ≡ a_push_keeps.All = same
    ∙ c.has_locals-has_locals.ensures.all c.if-has_locals-2.true in
    let stack = undone_stack s.push_keeps s.usages_by s.journal s.globals s.locals in
    let old = ap (λ (r : PushKeeps). item_states r now (reverse stack)) same ∙ c.self.view_is in
    let cut = c.truncate.ensures in
    popped c.args.self.now l.push_keeps l.usages_by now
    (item_state_of l.usages_by l.globals c.truncate.new.self) l.journal
    rest l.globals l.locals c.truncate.new.self c.in-Push.locals stack
    old newest c.loop-entry.invariant.0
    (ap (λ (ls : List PagedLocal). item_state_of l.usages_by l.globals ls) cut
    ∙ back-all l.push_keeps now (item_state_of l.usages_by l.globals (take c.in-Push.locals l.locals)) all)
    (ap (undone_stack l.push_keeps l.usages_by rest l.globals) cut)

pub returns-else-has_locals-2-clause-back : goal.returns-else-has_locals-2-clause-back
returns-else-has_locals-2-clause-back c = λ _.
    let l = c.loop-entry.self-inside in
    let s = c.self.inside in
    let rest = c.undo.new.self in
    let now = item_state_of s.usages_by s.globals s.locals in
    let newest : l.journal ≡ Opened c.in-Push.locals ∷ rest = c.in-Some.ensures.some
    ∙ ap (λ (e : Undo). undo_record e ∷ rest) c.in-Push.is in
    let same = c.loop-entry.invariant.2 in
    let bare : l.push_keeps ≡ a_push_keeps.Globals = same
    ∙ c.has_locals-has_locals.ensures.globals c.if-has_locals-2.false in
    let stack = undone_stack s.push_keeps s.usages_by s.journal s.globals s.locals in
    let old = ap (λ (r : PushKeeps). item_states r now (reverse stack)) same ∙ c.self.view_is in
    let left = take c.in-Push.locals l.locals in
    popped c.args.self.now l.push_keeps l.usages_by now (item_state_of l.usages_by l.globals l.locals) l.journal rest
    l.globals l.locals l.locals c.in-Push.locals stack
    old newest c.loop-entry.invariant.0
    (back-globals l.push_keeps l.usages_by now l.globals l.locals left bare (c.loop-entry.invariant.3 bare))
    (same-bare l.push_keeps l.usages_by rest l.globals l.locals left bare)
