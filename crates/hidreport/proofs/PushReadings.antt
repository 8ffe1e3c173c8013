-- The readings of Push: what the proofs need of each. No other file of lemmas tells them apart.
use Rattle.std.proofs.Common.{◌≡◌, ℕ, Bool, false, cond, List, [], ◌∷◌, ◌++◌, length, take}
use Rattle.std.proofs.Common.{Option, None, Some, option_map, option_to_list, is_some, append-nil}
use Rattle.std.proofs.Common.{refl, sym, ap, ◌∙◌, arith}
use Rattle.std.specs.List.{list_any}
use Rattle.hidreport_items.specs.declared.item.ItemType.{ItemType}
use Rattle.hidreport_items.specs.declared.local.LocalItem.{LocalItem}
use Rattle.hidreport.specs.ItemState.{ItemState, global as in_force, with_page}
use Rattle.hidreport.specs.Kinds.{is_main, local_of, report_count_of, report_id_of, report_size_of}
use Rattle.hidreport.specs.Laws.{Spares}
use Rattle.hidreport.specs.Options.{reading_by}
use Rattle.hidreport.specs.Parser.ItemStates.{item_state_of}
use Rattle.hidreport.specs.Parser.Journal.{UndoRecord, Opened, WasGlobals, WasLocals, Fits}
use Rattle.hidreport.specs.Parser.Journal.{IsCounted, undone_stack, with_undo}
use Rattle.hidreport.specs.Parser.Machine.{after_pop, next_item_state, pushed_copy}
use Rattle.hidreport.specs.declared.parser.globals.Globals.{Globals}
use Rattle.hidreport.specs.declared.parser.paged_local.PagedLocal.{PagedLocal}
use Rattle.hidreport.specs.declared.parser.push_keeps.PushKeeps.{PushKeeps}
use Rattle.hidreport.specs.declared.parser.push_keeps.PushKeeps.TheVariants as a_push_keeps
use Rattle.hidreport.specs.declared.parser.usages_by.UsagesBy.{UsagesBy}
use Rattle.hidreport.proofs.AllKeptLemmas.{all-follows}
use Rattle.hidreport.proofs.GlobalsAloneLemmas.{globals-follows, stack_bare}
use Rattle.hidreport.proofs.JournalLemmas.{counted-added, counted-same, ended-all, set-all}
use Rattle.hidreport.proofs.JournalLemmas.{take-all, take-front}
use Rattle.hidreport.proofs.LevelLemmas.{stack}
use Rattle.hidreport.proofs.ReportLemmas.{or_cases}
use Rattle.hidreport.proofs.WalkLemmas.{Follows}

-- what the open Pushes keep before item k
abbrev pub kept_stack : PushKeeps → UsagesBy → List ItemType → ℕ → List ItemState
kept_stack a_push_keeps.All by items k = stack by items k
kept_stack a_push_keeps.Globals by items k = stack_bare by items k

-- the walk follows the reading
pub reading-follows : (push_keeps : PushKeeps) (by : UsagesBy) (items : List ItemType)
    → Follows push_keeps by (reading_by push_keeps by items) (kept_stack push_keeps by items) items
reading-follows a_push_keeps.All by items = all-follows by items
reading-follows a_push_keeps.Globals by items = globals-follows by items

-- size, count and id are in force by each reading alike
pub record IsRead (f : ItemState) (items : List ItemType) (k : ℕ) : Type 0 where
  pub size : f.report_size ≡ in_force report_size_of items k
  pub count : f.report_count ≡ in_force report_count_of items k
  pub id : f.report_id ≡ in_force report_id_of items k

pub reading-globals : (push_keeps : PushKeeps) (by : UsagesBy) (items : List ItemType) (k : ℕ)
    → IsRead (reading_by push_keeps by items k) items k
reading-globals a_push_keeps.All by items k = record { size = refl; count = refl; id = refl }
reading-globals a_push_keeps.Globals by items k = record { size = refl; count = refl; id = refl }

-- the same but for a change of the locals
abbrev pub on_locals : (List PagedLocal → List PagedLocal) → ItemState → ItemState
on_locals change f = record f { locals = change f.locals }

-- what a Pop brings back behind such a change is what it brings back, changed
pub back-on : (push_keeps : PushKeeps) (change : List PagedLocal → List PagedLocal) (f g : ItemState)
    → after_pop push_keeps (on_locals change f) (on_locals change g)
    ≡ on_locals change (after_pop push_keeps f g)
back-on a_push_keeps.All change f g = refl
back-on a_push_keeps.Globals change f g = refl

-- so is what a Push keeps, where no locals stay none
pub push-on : (push_keeps : PushKeeps) (change : List PagedLocal → List PagedLocal) (f : ItemState)
    → change [] ≡ []
    → pushed_copy push_keeps (on_locals change f) ≡ on_locals change (pushed_copy push_keeps f)
push-on a_push_keeps.All change f none = refl
push-on a_push_keeps.Globals change f none =
    sym (ap (λ (l : List PagedLocal). record f { locals = l }) none)

-- Segments

-- a Pop brings back what was in force at its Push
abbrev pub Returns : PushKeeps → ItemState → ItemState → Type 0
Returns push_keeps f g = after_pop push_keeps f (pushed_copy push_keeps g) ≡ g

pub spares-next : (push_keeps : PushKeeps) (x : ItemType) (xs : List ItemType) → Spares push_keeps (x ∷ xs)
    → Spares push_keeps xs
spares-next a_push_keeps.All x xs s = tt
spares-next a_push_keeps.Globals x xs s =
    (or_cases (is_some (local_of x)) (list_any (λ (y : ItemType). is_some (local_of y)) xs) s).1

same-locals : (page : Option ℕ) (ls : List PagedLocal) (b : Bool) (o : Option LocalItem)
    → b ≡ false → is_some o ≡ false
    → cond b [] (ls ++ option_to_list (option_map (with_page page) o)) ≡ ls
same-locals page ls b None plain none = ap (λ c. cond c [] (ls ++ [])) plain ∙ append-nil ls
same-locals page ls b (Some x) plain none = cc

-- an item of a segment leaves what comes back
pub returns-next : (push_keeps : PushKeeps) (f g : ItemState) (x : ItemType) (xs : List ItemType)
    → is_main x ≡ false → Spares push_keeps (x ∷ xs) → Returns push_keeps f g
    → Returns push_keeps (next_item_state f x) g
returns-next a_push_keeps.All f g x xs plain s r = r
returns-next a_push_keeps.Globals f g x xs plain s r =
    let none : is_some (local_of x) ≡ false =
    (or_cases (is_some (local_of x)) (list_any (λ (y : ItemType). is_some (local_of y)) xs)
    s).0 in
    ap (λ (l : List PagedLocal). record g { locals = l })
    (same-locals f.usage_page f.locals (is_main x) (local_of x) plain none) ∙ r

-- so does a Pop inside it
pub returns-back : (push_keeps : PushKeeps) (f g t : ItemState) → Returns push_keeps f g
    → Returns push_keeps (after_pop push_keeps f t) g
returns-back a_push_keeps.All f g t r = r
returns-back a_push_keeps.Globals f g t r = r

pub returns-own : (push_keeps : PushKeeps) (f : ItemState) → Returns push_keeps f f
returns-own a_push_keeps.All f = refl
returns-own a_push_keeps.Globals f = refl

-- The journal

-- where Pushes keep no locals, what they keep is the same whatever the locals
undone-bare : (by : UsagesBy) (cs : List UndoRecord) (g : Globals) (ls ms : List PagedLocal)
    → undone_stack a_push_keeps.Globals by cs g ls ≡ undone_stack a_push_keeps.Globals by cs g ms
undone-bare by [] g ls ms = refl
undone-bare by (Opened n ∷ cs) g ls ms =
    ap (λ (l : List ItemState). item_state_of by g [] ∷ l) (undone-bare by cs g (take n ls) (take n ms))
undone-bare by (WasGlobals old ∷ cs) g ls ms = undone-bare by cs old ls ms
undone-bare by (WasLocals old ∷ cs) g ls ms = refl

-- locals that are added change nothing that is kept
added-all : (by : UsagesBy) (cs : List UndoRecord) (g : Globals) (ls more : List PagedLocal) → IsCounted cs ls
    → undone_stack a_push_keeps.All by cs g (ls ++ more) ≡ undone_stack a_push_keeps.All by cs g ls
added-all by [] g ls more f = refl
added-all by (Opened n ∷ cs) g ls more f =
    ap (λ (l : List PagedLocal). item_state_of by g l ∷ undone_stack a_push_keeps.All by cs g l)
    (take-front n ls more f.0)
added-all by (WasGlobals old ∷ cs) g ls more f = added-all by cs old ls more f
added-all by (WasLocals old ∷ cs) g ls more f = refl

pub undone-added : (push_keeps : PushKeeps) (by : UsagesBy) (cs : List UndoRecord) (g : Globals)
    (ls more : List PagedLocal)
    → Fits push_keeps cs ls → undone_stack push_keeps by cs g (ls ++ more) ≡ undone_stack push_keeps by cs g ls
undone-added a_push_keeps.All by cs g ls more f = added-all by cs g ls more f
undone-added a_push_keeps.Globals by cs g ls more f = undone-bare by cs g (ls ++ more) ls

pub fits-added : (push_keeps : PushKeeps) (cs : List UndoRecord) (ls more : List PagedLocal)
    → Fits push_keeps cs ls → Fits push_keeps cs (ls ++ more)
fits-added a_push_keeps.All cs ls more f = counted-added cs ls more f
fits-added a_push_keeps.Globals cs ls more f = tt

pub fits-set : (push_keeps : PushKeeps) (cs : List UndoRecord) (old : Globals) (ls : List PagedLocal)
    → Fits push_keeps cs ls → Fits push_keeps (with_undo (WasGlobals old) cs) ls
fits-set a_push_keeps.All cs old ls f = set-all cs old ls f
fits-set a_push_keeps.Globals cs old ls f = tt

pub fits-ended : (push_keeps : PushKeeps) (cs : List UndoRecord) (ls : List PagedLocal)
    → Fits push_keeps cs ls
    → Fits push_keeps (with_undo (WasLocals ls) cs) []
fits-ended a_push_keeps.All cs ls f = ended-all cs ls f
fits-ended a_push_keeps.Globals cs ls f = tt

pub fits-pushed : (push_keeps : PushKeeps) (cs : List UndoRecord) (ls : List PagedLocal)
    → Fits push_keeps cs ls
    → Fits push_keeps (Opened (length ls) ∷ cs) ls
fits-pushed a_push_keeps.All cs ls f =
    (omega arith, counted-same cs ls (take (length ls) ls) (sym (take-all ls)) f)
fits-pushed a_push_keeps.Globals cs ls f = tt

-- where Pushes keep no locals, ended locals are passed over
pub passed-over : (push_keeps : PushKeeps) (by : UsagesBy) (cs rest : List UndoRecord) (g : Globals)
    (ls old : List PagedLocal) (stack : List ItemState) → push_keeps ≡ a_push_keeps.Globals
    → cs ≡ WasLocals old ∷ rest
    → undone_stack push_keeps by cs g ls ≡ stack → (undone_stack push_keeps by rest g ls ≡ stack)
    × Fits push_keeps rest ls
passed-over a_push_keeps.All by cs rest g ls old stack is newest same = cc
passed-over a_push_keeps.Globals by cs rest g ls old stack is newest same = (
  undone-bare by rest g ls old
      ∙ ap (λ (l : List UndoRecord). undone_stack a_push_keeps.Globals by l g ls) (sym newest) ∙ same,
  tt,
)

-- what the Pop brings back, where Pushes keep locals
pub back-all : (push_keeps : PushKeeps) (now f : ItemState) → push_keeps ≡ a_push_keeps.All
    → f ≡ after_pop push_keeps now (pushed_copy push_keeps f)
back-all a_push_keeps.All now f is = refl
back-all a_push_keeps.Globals now f is = cc

-- and where they don't
pub back-globals : (push_keeps : PushKeeps) (by : UsagesBy) (now : ItemState) (g : Globals) (ls xs : List PagedLocal)
    → push_keeps ≡ a_push_keeps.Globals → ls ≡ now.locals
    → item_state_of by g ls ≡ after_pop push_keeps now (pushed_copy push_keeps (item_state_of by g xs))
back-globals a_push_keeps.All by now g ls xs is same = cc
back-globals a_push_keeps.Globals by now g ls xs is same = ap
    (λ (l : List PagedLocal). item_state_of by g l) same

pub same-bare : (push_keeps : PushKeeps) (by : UsagesBy) (cs : List UndoRecord) (g : Globals)
    (ls ms : List PagedLocal)
    → push_keeps ≡ a_push_keeps.Globals → undone_stack push_keeps by cs g ls ≡ undone_stack push_keeps by cs g ms
same-bare a_push_keeps.All by cs g ls ms is = cc
same-bare a_push_keeps.Globals by cs g ls ms is = undone-bare by cs g ls ms
