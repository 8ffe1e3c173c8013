-- The journal of what changed inside open Pushes, as the parser holds it, newest change first.
use Rattle.std.specs.Prelude.{ℕ, ◌≤◌, List, [], ◌∷◌, length, take}
use Rattle.hidreport.specs.ItemState.{ItemState}
use Rattle.hidreport.specs.Parser.ItemStates.{item_state_of}
use Rattle.hidreport.specs.Parser.Machine.{pushed_copy}
use Rattle.hidreport.specs.declared.parser.globals.Globals.{Globals}
use Rattle.hidreport.specs.declared.parser.paged_local.PagedLocal.{PagedLocal}
use Rattle.hidreport.specs.declared.parser.push_keeps.PushKeeps.{PushKeeps}
use Rattle.hidreport.specs.declared.parser.push_keeps.PushKeeps.TheVariants as a_push_keeps
use Rattle.hidreport.specs.declared.parser.usages_by.UsagesBy.{UsagesBy}
use Rattle.hidreport.specs.declared.parser.journal.Undo.{Undo}
use Rattle.hidreport.specs.declared.parser.journal.Undo.TheVariants as undoes

-- a Push, where so many locals were in force; what the globals were before one was set; what the
-- locals were before a main item ended them
pub data UndoRecord : Type 0 where
  Opened : ℕ → UndoRecord
  WasGlobals : Globals → UndoRecord
  WasLocals : List PagedLocal → UndoRecord

-- an entry as plain data
abbrev pub undo_record : Undo → UndoRecord
undo_record (undoes.Push count) = Opened count
undo_record (undoes.Globals old) = WasGlobals old
undo_record (undoes.Locals old) = WasLocals old

-- one change more, which is nothing to remember where no Push is open
abbrev pub with_undo : UndoRecord → List UndoRecord → List UndoRecord
with_undo change [] = []
with_undo change (c ∷ cs) = change ∷ c ∷ cs

-- what each open Push keeps, innermost first: of what was in force there, from these globals and
-- locals back
abbrev pub undone_stack : PushKeeps → UsagesBy → List UndoRecord → Globals → List PagedLocal
    → List ItemState
undone_stack push_keeps by [] globals locals = []
undone_stack push_keeps by (Opened count ∷ cs) globals locals =
    pushed_copy push_keeps (item_state_of by globals (take count locals))
    ∷ undone_stack push_keeps by cs globals (take count locals)
undone_stack push_keeps by (WasGlobals old ∷ cs) globals locals =
    undone_stack push_keeps by cs old locals
undone_stack push_keeps by (WasLocals old ∷ cs) globals locals =
    undone_stack push_keeps by cs globals old

-- no Push counted more locals than there are
abbrev pub IsCounted : List UndoRecord → List PagedLocal → Type 0
IsCounted [] locals = Unit {0}
IsCounted (Opened count ∷ cs) locals = (count ≤ length locals) × IsCounted cs (take count locals)
IsCounted (WasGlobals old ∷ cs) locals = IsCounted cs locals
IsCounted (WasLocals old ∷ cs) locals = IsCounted cs old

-- the same, where Pushes keep locals
abbrev pub Fits : PushKeeps → List UndoRecord → List PagedLocal → Type 0
Fits a_push_keeps.All cs locals = IsCounted cs locals
Fits a_push_keeps.Globals cs locals = Unit {0}
