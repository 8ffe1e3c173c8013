-- The reading in which a Push keeps globals alone: what is in force is that of the other reading,
-- but for the locals.
use Rattle.std.proofs.Common.{◌≡◌, ℕ, suc, ◌-◌, Option, Bool, true, false, cond, List, [], ◌∷◌, ◌++◌}
use Rattle.std.proofs.Common.{length, take, map, refl, sym, ap, ◌∙◌, append-nil}
use Rattle.std.proofs.lemmas.List.{map-append, take-map, length-map}
use Rattle.hidreport_items.specs.declared.item.ItemType.TheVariants as item
use Rattle.hidreport_items.specs.declared.global.GlobalItem.TheVariants as global
use Rattle.hidreport_items.specs.declared.item.ItemType.{ItemType}
use Rattle.hidreport.specs.ItemState.{ItemState, global, item_state, item_state_globals_only}
use Rattle.hidreport.specs.ItemState.{locals_globals_only}
use Rattle.hidreport.specs.ItemState.{unended_locals}
use Rattle.hidreport.specs.Kinds.{is_main, is_push, is_pop, usage_page_of}
use Rattle.hidreport.specs.Parser.Machine.{after_pop, pushed_copy, last_item_state, next_item_state}
use Rattle.hidreport.specs.Parser.Machine.{next_locals}
use Rattle.hidreport.specs.Visibility.{before}
use Rattle.hidreport.specs.declared.parser.paged_local.PagedLocal.{PagedLocal}
use Rattle.hidreport.specs.declared.parser.push_keeps.PushKeeps.TheVariants as a_push_keeps
use Rattle.hidreport.specs.declared.parser.usages_by.UsagesBy.{UsagesBy}
use Rattle.hidreport.proofs.AllKeptLemmas.{all-follows}
use Rattle.hidreport.proofs.IndexedLemmas.{subst-below}
use Rattle.hidreport.proofs.LevelLemmas.{stack, length-stack}
use Rattle.hidreport.proofs.ItemStateLemmas.{before-next, unended_locals-next}
use Rattle.hidreport.proofs.WalkLemmas.{Steps, Follows}

-- without its locals
abbrev pub bare : ItemState → ItemState
bare f = pushed_copy a_push_keeps.Globals f

-- what the open Pushes keep
abbrev pub stack_bare : UsagesBy → List ItemType → ℕ → List ItemState
stack_bare by items k = map bare (stack by items k)

-- the last of them, with these locals
last-bare : (f g : ItemState) (ls : List PagedLocal) (ts : List ItemState)
    → record f { locals = ls } ≡ record g { locals = ls }
    → record (last_item_state f (map bare ts)) { locals = ls }
    ≡ record (last_item_state g ts) { locals = ls }
last-bare f g ls [] e = e
last-bare f g ls (t ∷ ts) e = last-bare (bare t) t ls ts refl

-- the locals behind one more item
locals-next : (items front rest : List ItemType) (x : ItemType) → items ≡ front ++ x ∷ rest
    → locals_globals_only items (suc (length front))
    ≡ next_locals (global usage_page_of items (length front))
    (locals_globals_only items (length front)) x
locals-next items front rest x e =
    ap (unended_locals (global usage_page_of items)) (before-next items front rest x e)
    ∙ unended_locals-next (global usage_page_of items) (is_main x) (before items (length front)) (length front) x
    (subst-below (length front) items front (x ∷ rest) refl e) refl

-- a Pop is no main item and no local item
pop-locals : (page : Option ℕ) (ls : List PagedLocal) (x : ItemType) → is_pop x ≡ true
    → next_locals page ls x ≡ ls
pop-locals page ls (item.Global global.Pop) e = append-nil ls
pop-locals page ls (item.Global global.Push) e = cc
pop-locals page ls (item.Global g) e = cc
pop-locals page ls (item.Main y) e = cc
pop-locals page ls (item.Local y) e = cc
pop-locals page ls item.Long e = cc
pop-locals page ls item.Reserved e = cc

-- what is in force behind an item, by whether it is a Pop
in-item_state-by : (b : Bool) (f next : ItemState) (ls : List PagedLocal) (ts : List ItemState)
    (x : ItemType)
    → is_pop x ≡ b
    → next ≡ cond b (last_item_state f ts) (next_item_state f x)
    → record next { locals = next_locals f.usage_page ls x }
    ≡ cond b (after_pop a_push_keeps.Globals (record f { locals = ls })
    (last_item_state (record f { locals = ls }) (map bare ts)))
    (next_item_state (record f { locals = ls }) x)
in-item_state-by true f next ls ts x pop e =
    ap (λ (g : ItemState). record g { locals = next_locals f.usage_page ls x }) e
    ∙ ap (λ (l : List PagedLocal). record (last_item_state f ts) { locals = l })
    (pop-locals f.usage_page ls x pop)
    ∙ sym (last-bare (record f { locals = ls }) f ls ts refl)
in-item_state-by false f next ls ts x pop e =
    ap (λ (g : ItemState). record g { locals = next_locals f.usage_page ls x }) e

-- what the open Pushes keep, by the kind of item
stack-by : (a b : Bool) (f : ItemState) (ts : List ItemState)
    → map bare (cond a (take (length ts - 1) ts) (cond b (ts ++ f ∷ []) ts))
    ≡ cond a (take (length (map bare ts) - 1) (map bare ts))
    (cond b (map bare ts ++ bare f ∷ []) (map bare ts))
stack-by true b f ts = sym (ap (λ n. take (n - 1) (map bare ts)) (length-map ts bare)
    ∙ take-map bare (length ts - 1) ts)
stack-by false true f ts = map-append bare ts (f ∷ [])
stack-by false false f ts = refl

globals-step : (by : UsagesBy) (items front rest : List ItemType) (x : ItemType) → items ≡ front ++ x ∷ rest
    → Steps a_push_keeps.All (item_state by items) (stack by items) items (length front) x
    → Steps a_push_keeps.Globals (item_state_globals_only by items) (stack_bare by items) items
    (length front) x
globals-step by items front rest x e s =
    let k = length front in
    let ls = locals_globals_only items k in
    record {
      item_states_next = ap (λ (l : List PagedLocal). record
          (item_state by items (suc k)) { locals = l })
          (locals-next items front rest x e)
          ∙ in-item_state-by (is_pop x) (item_state by items k) (item_state by items (suc k)) ls
          (stack by items k) x refl
          s.item_states_next;
      stack_next = ap (map bare) s.stack_next
          ∙ stack-by (is_pop x) (is_push x) (item_state by items k) (stack by items k);
      rests_next = s.rests_next;
    }

pub globals-follows : (by : UsagesBy) (items : List ItemType)
    → Follows a_push_keeps.Globals by (item_state_globals_only by items) (stack_bare by items) items
globals-follows by items =
    let all = all-follows by items in
    record {
      begins = refl;
      empty = refl;
      leveled = λ k. length-map (stack by items k) bare ∙ length-stack by items k;
      goes_on = λ front rest x e rests deep. globals-step by items front rest x e
          (all.goes_on front rest x e rests deep);
    }
