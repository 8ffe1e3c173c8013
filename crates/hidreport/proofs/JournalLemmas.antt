-- What the journal keeps for open Pushes, behind each change, whatever a Push keeps.
use Rattle.std.proofs.Common.{◌≡◌, ℕ, ◌+◌, ◌-◌, ◌≤◌, List, [], ◌∷◌, ◌++◌, length, take, reverse}
use Rattle.std.proofs.Common.{refl, sym, ap, ◌∙◌, arith}
use Rattle.std.proofs.lemmas.Grind.{common_steps}
use Rattle.std.proofs.lemmas.List.{reverse-append}
use Rattle.hidreport.specs.ItemState.{ItemState}
use Rattle.hidreport.specs.Parser.ItemStates.{ItemStates, item_state_of}
use Rattle.hidreport.specs.Parser.Journal.{UndoRecord, Opened, WasGlobals, WasLocals}
use Rattle.hidreport.specs.Parser.Journal.{IsCounted}
use Rattle.hidreport.specs.Parser.Journal.{with_undo, undone_stack}
use Rattle.hidreport.specs.Parser.Machine.{after_pop, pushed_copy, last_item_state}
use Rattle.hidreport.specs.declared.parser.globals.Globals.{Globals}
use Rattle.hidreport.specs.declared.parser.paged_local.PagedLocal.{PagedLocal}
use Rattle.hidreport.specs.declared.parser.push_keeps.PushKeeps.{PushKeeps}
use Rattle.hidreport.specs.declared.parser.usages_by.UsagesBy.{UsagesBy}
use Rattle.hidreport.proofs.DataLemmas.{last_item_state-end, all-but-last}

pub take-front : (n : ℕ) (xs ys : List PagedLocal) → n ≤ length xs → take n (xs ++ ys) ≡ take n xs
take-front n xs ys le = grind (arith, common_steps)

pub take-all : (xs : List PagedLocal) → take (length xs) xs ≡ xs
take-all xs = grind (arith, common_steps)

longer : (n : ℕ) (ls more : List PagedLocal) → n ≤ length ls → n ≤ length (ls ++ more)
longer n ls more le =
    let size : length (ls ++ more) ≡ length ls + length more =
    grind (arith, common_steps) in omega (arith, le, size)

pub counted-same : (cs : List UndoRecord) (ls ms : List PagedLocal) → ls ≡ ms → IsCounted cs ls
    → IsCounted cs ms
counted-same cs ls ms e f = rw (sym e) f

pub counted-added : (cs : List UndoRecord) (ls more : List PagedLocal) → IsCounted cs ls
    → IsCounted cs (ls ++ more)
counted-added [] ls more f = tt
counted-added (Opened n ∷ cs) ls more f = (
  longer n ls more f.0,
  counted-same cs (take n ls) (take n (ls ++ more))
      (sym (take-front n ls more f.0)) f.1,
)
counted-added (WasGlobals old ∷ cs) ls more f = counted-added cs ls more f
counted-added (WasLocals old ∷ cs) ls more f = f

-- globals that are set are brought back
pub undone-set : (push_keeps : PushKeeps) (by : UsagesBy) (cs : List UndoRecord) (old new : Globals)
    (ls : List PagedLocal)
    → undone_stack push_keeps by (with_undo (WasGlobals old) cs) new ls ≡ undone_stack push_keeps by cs old ls
undone-set push_keeps by [] old new ls = refl
undone-set push_keeps by (c ∷ cs) old new ls = refl

pub set-all : (cs : List UndoRecord) (old : Globals) (ls : List PagedLocal) → IsCounted cs ls
    → IsCounted (with_undo (WasGlobals old) cs) ls
set-all [] old ls f = tt
set-all (c ∷ cs) old ls f = f

-- so are locals that are ended
pub undone-ended : (push_keeps : PushKeeps) (by : UsagesBy) (cs : List UndoRecord) (g : Globals)
    (ls : List PagedLocal)
    → undone_stack push_keeps by (with_undo (WasLocals ls) cs) g [] ≡ undone_stack push_keeps by cs g ls
undone-ended push_keeps by [] g ls = refl
undone-ended push_keeps by (c ∷ cs) g ls = refl

pub ended-all : (cs : List UndoRecord) (ls : List PagedLocal) → IsCounted cs ls
    → IsCounted (with_undo (WasLocals ls) cs) []
ended-all [] ls f = tt
ended-all (c ∷ cs) ls f = f

abbrev pub item_states : PushKeeps → ItemState → List ItemState → ItemStates
item_states push_keeps now stack = record { push_keeps = push_keeps; now = now; stack = stack }

-- behind the Push's own note
pub popped : (old : ItemStates) (push_keeps : PushKeeps) (by : UsagesBy) (now back : ItemState)
    (cs rest : List UndoRecord)
    (g : Globals) (ls ms : List PagedLocal) (n : ℕ) (stack : List ItemState)
    → item_states push_keeps now (reverse stack) ≡ old → cs ≡ Opened n ∷ rest
    → undone_stack push_keeps by cs g ls ≡ stack
    → back ≡ after_pop push_keeps now (pushed_copy push_keeps (item_state_of by g (take n ls)))
    → undone_stack push_keeps by rest g ms ≡ undone_stack push_keeps by rest g (take n ls)
    → item_states push_keeps back (reverse (undone_stack push_keeps by rest g ms))
    ≡ item_states old.push_keeps (after_pop old.push_keeps old.now (last_item_state old.now old.stack))
    (take (length old.stack - 1) old.stack)
popped old push_keeps by now back cs rest g ls ms n stack is newest same brought bare =
    let f = pushed_copy push_keeps (item_state_of by g (take n ls)) in
    let fs = undone_stack push_keeps by rest g (take n ls) in
    let all : reverse fs ++ f ∷ [] ≡ reverse stack =
    sym (reverse-append (f ∷ []) fs)
    ∙ ap (λ (l : List ItemState). reverse l)
    (ap (λ (l : List UndoRecord). undone_stack push_keeps by l g ls) (sym newest) ∙ same) in
    let after : List ItemState → ItemStates =
    λ l. item_states push_keeps (after_pop push_keeps now (last_item_state now l))
    (take (length l - 1) l) in
    let behind : ItemStates → ItemStates =
    λ o. item_states o.push_keeps (after_pop o.push_keeps o.now (last_item_state o.now o.stack))
    (take (length o.stack - 1) o.stack) in
    ap (λ (l : List ItemState). item_states push_keeps back (reverse l)) bare
    ∙ ap (λ (x : ItemState). item_states push_keeps x (reverse fs))
    (brought ∙ ap (after_pop push_keeps now) (sym (last_item_state-end now f (reverse fs))))
    ∙ ap (λ (l : List ItemState). item_states push_keeps
    (after_pop push_keeps now (last_item_state now (reverse fs ++ f ∷ []))) l)
    (sym (all-but-last f (reverse fs)))
    ∙ ap after all ∙ ap behind is
